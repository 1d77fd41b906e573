use Rattle.std.proofs.Common.{◌≡◌, ℕ, ◌+◌, subst, arith}
use Rattle.word_calls.specs.Calls.{IsRunning}
use Rattle.word_calls.proofs.Running.{starts, slot_done}
use Rattle.word_calls.proofs.both_ends.run.Goals as goal

pub loop-slot-init : goal.loop-slot-init
loop-slot-init c = let (total, r) = c.requires.ready in record { running = starts c.args.duplex.now total r; given = r.given }

pub slot-requires-clause-runs : goal.slot-requires-clause-runs
slot-requires-clause-runs c =
    let r = c.loop-slot.invariant.running in
    let t = c.loop-slot-test.true in
    let few = c.requires.few in
    (r.settings, r.ends, c.loop-slot._slot, r.a, r.b, r.runs, omega (arith, t, few))

pub slot-requires-clause-got : goal.slot-requires-clause-got
slot-requires-clause-got c =
    let r = c.loop-slot.invariant.running in
    let t = c.loop-slot-test.true in
    let few = c.requires.few in
    (r.setting, r.settings, c.loop-slot._slot, r.a, r.b, r.got_a, r.got_b, r.got, omega (arith, t, few))

pub take-requires : goal.take-requires
take-requires c = (c.loop-slot._slot + 1, slot_done c.loop-slot.duplex c.slot.new.self c.loop-slot._slot c.loop-slot.invariant.running c.slot.ensures.runs c.slot.ensures.got)

pub loop-slot-preserved : goal.loop-slot-preserved
loop-slot-preserved c =
    let next = c.take.ensures (c.loop-slot._slot + 1) (slot_done c.loop-slot.duplex c.slot.new.self c.loop-slot._slot c.loop-slot.invariant.running c.slot.ensures.runs c.slot.ensures.got) in
    record { running = next.0; given = next.1 }

pub returns : goal.returns
returns c =
    let over = c.loop-slot-test.false in
    let most = c.loop-slot.auto._slot-end in
    let all : c.loop-slot._slot ≡ c.args.slots = omega (arith, over, most) in
    subst (λ (n : ℕ). IsRunning c.loop-slot.duplex n) all c.loop-slot.invariant.running
