use Rattle.std.proofs.Common.{◌≡◌, ◌+◌, ◌∙◌, refl, subst, arith}
use Rattle.std.proofs.lemmas.Result.{err_from_is_err_and}
use Rattle.duplex_commands.specs.Slots.{IsAt}
use Rattle.duplex_commands.proofs.Steps.{slot_done, cut_within}
use Rattle.duplex_commands.proofs.slots.run_slots.Goals as goal

pub loop-slot-init : goal.loop-slot-init
loop-slot-init g c = record { within = omega arith; same_faults = refl; given = c.requires.given; at = λ b settings ends at. at }

pub slot-requires-clause-runs : goal.slot-requires-clause-runs
slot-requires-clause-runs g c =
    let (b, settings, ends, at) = c.requires.at in
    let now = c.loop-slot.invariant.at b settings ends at in
    let few = c.requires.few in
    let below = c.loop-slot-test.true in
    (settings, ends, c.loop-slot.slot, now.from_a, now.from_b, now.runs, omega (arith, few, below))

pub slot-requires-clause-got : goal.slot-requires-clause-got
slot-requires-clause-got g c =
    let (b, settings, ends, at) = c.requires.at in
    let now = c.loop-slot.invariant.at b settings ends at in
    let few = c.requires.few in
    let below = c.loop-slot-test.true in
    (b.setting, settings, c.loop-slot.slot, now.from_a, now.from_b, now.got_a, now.got_b, now.has, omega (arith, few, below))

pub slot-requires-clause-given : goal.slot-requires-clause-given
slot-requires-clause-given g c = c.loop-slot.invariant.given

pub take_packets-requires-clause-at : goal.take_packets-requires-clause-at
take_packets-requires-clause-at g c =
    let (b, settings, ends, at) = c.requires.at in
    (b, settings, ends, c.loop-slot.slot + 1, slot_done b settings ends c.loop-slot.slot _ _ _ _ c.slot.ensures.runs c.slot.ensures.got (c.loop-slot.invariant.at b settings ends at))

pub returns-in_err-take_packets-clause-takes : goal.returns-in_err-take_packets-clause-takes
returns-in_err-take_packets-clause-takes g c b settings ends at =
    let p = err_from_is_err_and c.from_residual.result c.from_residual.ensures.1 in
    let below = c.loop-slot-test.true in
    rw (p.1, p.2) (cut_within b settings ends (c.loop-slot.slot + 1) c.args.slots _ _ (omega (arith, below))
    (c.in_err-take_packets.ensures.takes b settings ends (c.loop-slot.slot + 1) (slot_done b settings ends c.loop-slot.slot _ _ _ _ c.slot.ensures.runs c.slot.ensures.got (c.loop-slot.invariant.at b settings ends at))))

pub loop-slot-preserved : goal.loop-slot-preserved
loop-slot-preserved g c = record {
  within = (let below = c.loop-slot-test.true in omega (arith, below));
  same_faults = c.in_ok-take_packets.ensures.cause ∙ c.loop-slot.invariant.same_faults;
  given = c.in_ok-take_packets.ensures.given;
  at = λ b settings ends at.
      c.in_ok-take_packets.ensures.takes b settings ends (c.loop-slot.slot + 1) (slot_done b settings ends c.loop-slot.slot _ _ _ _ c.slot.ensures.runs c.slot.ensures.got (c.loop-slot.invariant.at b settings ends at));
}

pub returns-clause-takes : goal.returns-clause-takes
returns-clause-takes g c b settings ends at =
    let within = c.loop-slot.invariant.within in
    let done = c.loop-slot-test.false in
    let all : c.loop-slot.slot ≡ c.args.slots = omega (arith, within, done) in
    subst (λ n. IsAt b settings ends n c.loop-slot.duplex c.loop-slot.captures (g.S.Store.files c.loop-slot.store)) all (c.loop-slot.invariant.at b settings ends at)

pub returns-clause-given : goal.returns-clause-given
returns-clause-given g c = c.loop-slot.invariant.given
