-- A word ends within the bits, which is passed over or told, or none does.
use Rattle.std.proofs.Common.{◌*◌, arith}
use Rattle.lane_events.specs.Inspection.{events_if}
use Rattle.lane_events.proofs.Inspecting.{goes_on_none, goes_past_cut, told_of}
use Rattle.lane_events.proofs.inspector.LaneInspector.next_events.Goals as goal

pub returns-in_default-clause-goes_on : goal.returns-in_default-clause-goes_on
returns-in_default-clause-goes_on c =
    goes_on_none c.args.self.now c.push.new.self (8 * c.args.count) c.args.bits c.requires.bits c.in_default.ensures.stands c.in_default.ensures.pushed

pub returns-then-passes-clause-goes_on : goal.returns-then-passes-clause-goes_on
returns-then-passes-clause-goes_on c =
    let most = c.requires.most in
    goes_past_cut c.args.self.now c.push.new.self (8 * c.args.count) c.in-Some.word.place c.args.bits c.in-Some.word.step c.in-Some.ensures.place (omega (arith, most)) c.requires.bits
    c.in-Some.ensures.stands c.in-Some.ensures.pushed c.passes.new.self (c.passes.ensures.passed c.if-passes.true)

pub returns-clause-goes_on : goal.returns-clause-goes_on
returns-clause-goes_on c =
    let most = c.requires.most in
    told_of c.args.self.now c.push.new.self c.passes.new.self c.tell.new.self (8 * c.args.count) c.in-Some.word.place c.args.bits c.in-Some.word.step (events_if c.tell.result c.tell.new.events) c.in-Some.ensures.place (omega (arith, most)) c.requires.bits
    c.in-Some.ensures.stands c.in-Some.ensures.pushed (c.passes.ensures.other c.if-passes.false) c.tell.ensures.told
