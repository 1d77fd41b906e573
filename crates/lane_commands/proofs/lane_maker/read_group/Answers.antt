use Rattle.std.proofs.Common.{◌+◌, ◌<◌, ◌∙◌, length, slice_get, ap, arith}
use Rattle.std.proofs.lemmas.List.{length-set}
use Rattle.std.specs.Option.{unwrap_or}
use Rattle.lane_commands.proofs.LaneMaking.{group_read, place_read}
use Rattle.lane_commands.proofs.lane_maker.read_group.Goals as goal

pub loop-place-preserved : goal.loop-place-preserved
loop-place-preserved c =
    let k = c.loop-place.place in
    let block = c.loop-place.group in
    let i = c.loop-place.invariant in
    let low : k < length c.args.group.now = omega (arith, c.loop-place-test.true, i.0) in (
      length-set block k c.unwrap_or.result ∙ i.0,
      place_read c.args.words.now block c.args.first k (length c.args.group.now) c.unwrap_or.result c.requires.there i.0 low i.1 (c.unwrap_or.ensures ∙ ap (λ o. unwrap_or o c.filler-idle.result) c.get.ensures ∙ ap (λ w. unwrap_or (slice_get c.args.words.now (c.args.first + k)) w) c.filler-idle.ensures),
    )

pub returns : goal.returns
returns c = group_read c.loop-place.group _ c.loop-place.place (length c.args.group.now) (omega (arith, c.loop-place-test.false, c.loop-place.auto.place-end)) c.loop-place.invariant.0 c.loop-place.invariant.1
