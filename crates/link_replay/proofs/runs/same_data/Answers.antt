-- One more word.
use Rattle.std.proofs.Common.{◌<◌, ◌∙◌, ap₂, sym, length, map, arith}
use Rattle.std.proofs.lemmas.List.{get_or-map}
use Rattle.lk_base.specs.declared.word.RxWord.TheVariants.{Bad, Data}
use Rattle.link_replay.specs.Runs.{is_same_data}
use Rattle.link_replay.proofs.Ran.{same-on}
use Rattle.link_replay.proofs.runs.same_data.Goals as goal

pub loop-place-preserved : goal.loop-place-preserved
loop-place-preserved c =
    let k = c.loop-place.place in
    let xs = c.args.received.now in
    let ws = map Data xs in
    let lt = c.loop-place-test.true in
    let many = c.min-most.ensures in
    let here : k < length xs = omega (arith, lt, many) in
    same-on ws c.args.sent.now c.args.slot k c.loop-place.invariant
    (ap₂ is_same_data (get_or-map Data xs k _ Bad here) (sym c.get.ensures) ∙ sym c.is_data.ensures ∙ c.if-not-is_data.false)
