use Rattle.std.proofs.Common.{refl, sym, subst, take, arith}
use Rattle.duplex_model.specs.DuplexRun.{Ends}
use Rattle.duplex.specs.Duplexes.{Waits}
use Rattle.plan_inputs.specs.Values.{packet_values}
use Rattle.duplex_commands.specs.Loaded.{all_added}
use Rattle.duplex_commands.proofs.Lends.{none_added, these_on, these_fit, these_added, keeps_both, all_captures, these_of_bytes, captures_of_bytes}
use Rattle.duplex_commands.proofs.lending.lend_all.Goals as goal

pub loop-capture-init : goal.loop-capture-init
loop-capture-init c = record { waits = λ settings ends w. subst (λ (e : Ends). Waits c.args.duplex.now settings e) (sym (none_added ends c.args.end)) w; inboxes = record { inbox_a = refl; inbox_b = refl }; bytes = λ j d below. absurd (omega (arith, below)) }

pub lend-requires : goal.lend-requires
lend-requires c =
    let (settings, ends, w, on, small) = c.requires in
    let captures = c.args.captures.now in
    let i = c.loop-capture.capture-index in
    (settings, all_added ends c.args.end (packet_values (take i captures)), c.loop-capture.invariant.waits settings ends w, these_on ends c.args.end captures i c.capture-item.result c.loop-capture-test.true c.capture-item.is on, these_fit ends c.args.end captures i c.capture-item.result c.loop-capture-test.true c.capture-item.is small)

pub loop-capture-preserved : goal.loop-capture-preserved
loop-capture-preserved c =
    let captures = c.args.captures.now in
    let i = c.loop-capture.capture-index in
    record {
      waits = λ settings ends w.
          these_added ends c.args.end captures i c.capture-item.result c.loop-capture-test.true c.capture-item.is _ settings
          (c.in_ok-lend.ensures.waits settings (all_added ends c.args.end (packet_values (take i captures))) (c.loop-capture.invariant.waits settings ends w));
      inboxes = keeps_both _ _ _ c.loop-capture.invariant.inboxes c.lend.ensures.inboxes;
      bytes = these_of_bytes captures i c.capture-item.result c.loop-capture-test.true c.capture-item.is c.loop-capture.invariant.bytes c.in_ok-lend.ensures.bytes;
    }

pub returns-clause-waits : goal.returns-clause-waits
returns-clause-waits c settings ends w = all_captures _ settings ends c.args.end c.args.captures.now c.loop-capture.capture-index c.loop-capture-test.false (c.loop-capture.invariant.waits settings ends w)

pub returns-clause-bytes : goal.returns-clause-bytes
returns-clause-bytes c = captures_of_bytes c.args.captures.now c.loop-capture.capture-index c.loop-capture-test.false c.loop-capture.invariant.bytes
