use Rattle.std.proofs.Common.{◌≡◌, ℕ, refl, sym, subst, take, ◌≤◌, ◌<◌, arith}
use Rattle.duplex_model.specs.DuplexRun.{Ends}
use Rattle.duplex.specs.Duplexes.{Waits}
use Rattle.plan_inputs.specs.Inputs.{on_channel}
use Rattle.plan_inputs.specs.Values.{packets_of}
use Rattle.duplex_commands.specs.Loaded.{all_added}
use Rattle.duplex_commands.proofs.Lends.{none_added, its_channel, room_left, next_added, all_lent, keeps_both, next_of_bytes, all_of_bytes}
use Rattle.duplex_commands.proofs.lending.lend.Goals as goal

pub loop-number-init : goal.loop-number-init
loop-number-init c = record { waits = λ settings ends w. subst (λ (e : Ends). Waits c.args.duplex.now settings e) (sym (none_added ends c.args.end)) w; inboxes = record { inbox_a = refl; inbox_b = refl }; bytes = λ j d below. absurd (omega (arith, below)) }

below : (k n m : ℕ) → k < n → n ≡ m → k < m
below k n m lt e = omega arith

past : (k n m : ℕ) → n ≤ k → n ≡ m → m ≤ k
past k n m le e = omega arith

pub lend_packet-requires-clause-waits : goal.lend_packet-requires-clause-waits
lend_packet-requires-clause-waits c =
    let (settings, ends, w, on, small) = c.requires in
    let capture = c.args.capture.now in
    let k = c.loop-number.number in
    let lt = below k _ _ c.loop-number-test.true c.count-number-end.ensures in
    (settings, all_added ends c.args.end (take k (on_channel capture.channel (packets_of capture))), c.loop-number.invariant.waits settings ends w, its_channel ends c.args.end capture.channel (packets_of capture) k lt on, room_left ends c.args.end capture.channel (packets_of capture) k lt small)

pub loop-number-preserved : goal.loop-number-preserved
loop-number-preserved c =
    let capture = c.args.capture.now in
    let k = c.loop-number.number in
    let lt = below k _ _ c.loop-number-test.true c.count-number-end.ensures in
    record {
      waits = λ settings ends w.
          next_added ends c.args.end capture.channel (packets_of capture) k lt _ settings c.packet.result.now c.packet.ensures.value
          (c.in_ok-lend_packet.ensures.ok settings (all_added ends c.args.end (take k (on_channel capture.channel (packets_of capture)))) (c.loop-number.invariant.waits settings ends w));
      inboxes = keeps_both _ _ _ c.loop-number.invariant.inboxes c.lend_packet.ensures.inboxes;
      bytes = next_of_bytes capture.channel (packets_of capture) k lt c.packet.result.now c.packet.ensures.value c.lend_packet.ensures.bytes c.loop-number.invariant.bytes;
    }

pub returns-clause-waits : goal.returns-clause-waits
returns-clause-waits c settings ends w =
    let capture = c.args.capture.now in
    all_lent _ settings ends c.args.end capture.channel (packets_of capture) c.loop-number.number (past _ _ _ c.loop-number-test.false c.count-number-end.ensures) (c.loop-number.invariant.waits settings ends w)

pub returns-clause-bytes : goal.returns-clause-bytes
returns-clause-bytes c =
    let capture = c.args.capture.now in
    all_of_bytes capture.channel (packets_of capture) c.loop-number.number (past _ _ _ c.loop-number-test.false c.count-number-end.ensures) c.loop-number.invariant.bytes
