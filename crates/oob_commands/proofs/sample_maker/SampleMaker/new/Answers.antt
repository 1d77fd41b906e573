use Rattle.std.proofs.Common.{List, ℕ, [], ◌∷◌, sym, ap, subst, arith}
use Rattle.link_plan.specs.Listing.{numbers_of}
use Rattle.oob_flow.specs.WritingFrames.{StandsAt}
use Rattle.oob_commands.proofs.Frames.{no_frames}
use Rattle.oob_commands.proofs.Works.{slots_low}
use Rattle.oob_commands.proofs.sample_maker.SampleMaker.new.Goals as goal

pub returns-clause-fresh : goal.returns-clause-fresh
returns-clause-fresh c =
    let plan = c.args.reading.now.plan in
    let local = c.args.reading.now.local.items in
    record {
      order = c.requires.order;
      slots = slots_low (numbers_of plan.channels.items) local c.requires.low;
      k = 0;
      stands = subst (λ (es : List ℕ). StandsAt c.in_ok-frames.frames es local 0) c.deref.ensures.value (c.in_ok-frames.ensures local);
      early = λ m l b. absurd (omega arith);
      begins = omega arith;
      is = ap (λ (b : List ℕ). b ∷ []) (sym (no_frames plan.entries.items local));
    }
