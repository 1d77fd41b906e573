-- One more lane made its payload word.
use Rattle.std.proofs.Common.{◌≡◌, rules, true, get_or}
use Rattle.lk_base.specs.declared.word.Word.TheVariants.{Data}
use Rattle.metaframe.specs.Writing.{wants_payload}
use Rattle.live_lanes.specs.Lanes.{MakesPayload}
use Rattle.live_lanes.proofs.FirstDid.{all_did, did_more, did_none, next_has_room, next_is}
use Rattle.live_lanes.proofs.columns.put_each.Goals as goal

pub loop-i-init : goal.loop-i-init
loop-i-init c = did_none (λ j. MakesPayload (get_or c.args.words.now j (Data 0))) c.args.lanes.now

pub put-requires-clause-room : goal.put-requires-clause-room
put-requires-clause-room c =
    next_has_room (λ j. MakesPayload (get_or c.args.words.now j (Data 0))) c.loop-i.i c.args.lanes.now c.loop-i.lanes c.index-lanes-i.result c.loop-i-test.true c.loop-i.invariant c.requires.room

pub put-requires-clause-wants : goal.put-requires-clause-wants
put-requires-clause-wants c =
    next_is (λ j. MakesPayload (get_or c.args.words.now j (Data 0))) (λ l. wants_payload l.writer.framing ≡ true) c.loop-i.i c.args.lanes.now c.loop-i.lanes c.index-lanes-i.result c.loop-i-test.true c.loop-i.invariant c.requires.wants

pub loop-i-preserved : goal.loop-i-preserved
loop-i-preserved c =
    did_more (λ j. MakesPayload (get_or c.args.words.now j (Data 0))) c.loop-i.i c.args.lanes.now c.loop-i.lanes c.index-lanes-i.result c.put.new.self c.loop-i-test.true c.loop-i.invariant (search rules)

pub returns : goal.returns
returns c = all_did (λ j. MakesPayload (get_or c.args.words.now j (Data 0))) c.loop-i.i c.args.lanes.now c.loop-i.lanes c.loop-i-test.false c.loop-i.invariant
