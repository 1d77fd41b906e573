-- The bytes of eight words.
use Rattle.std.proofs.Common.{ap, ◌∙◌, take, drop, arith}
use Rattle.std.specs.Prelude.{length}
use Rattle.std.proofs.lemmas.List.{length-drop, length-take-le}
use Rattle.lane_events.proofs.inspector.LaneInspector.passes_words.Goals as goal

pub eight_codes-requires : goal.eight_codes-requires
eight_codes-requires c =
    let there = c.if-bytes-at-lt-EIGHT_CODES_BYTES.false in
    let left = length-drop c.args.at c.args.bytes.now in
    ap length (c.head.ensures ∙ ap (take 67) c.tail.ensures) ∙ length-take-le 67 (drop c.args.at c.args.bytes.now) (omega (arith, there, left))
