use Rattle.std.proofs.Common.{◌≡◌, ◌≤◌, ◌++◌, Bool, ℕ, List, false, length, map, get_or, sym, ap, ◌∙◌, append_assoc, arith}
use Rattle.std.proofs.lemmas.List.{length-drop, length-take, length-map}
use Rattle.oob_flow.specs.Frames.{sizes_left, block_sizes, block_bits, blocks_from, frame_bits}
use Rattle.oob_flow.proofs.Blocks.{sizes_some}
use Rattle.oob_flow.proofs.Split.{some_left, blocks_step}
use Rattle.oob_flow.proofs.outgoing.fill.Goals as goal

pub loop-rest-init : goal.loop-rest-init
unfolding frame_bits
loop-rest-init c =
    let f : ℕ → Bool = λ channel. get_or c.args.on.now channel false in
    let len : length (map f c.args.entries.now) ≡ length c.args.entries.now = length-map c.args.entries.now f in
    record {
      room = omega (arith, ap length c.clear.ensures);
      leads = ap (λ (xs : List Bool). xs ++ blocks_from (sizes_left (length c.args.entries.now)) (map f c.args.entries.now)) c.clear.ensures
          ∙ ap (λ (sizes : List ℕ). blocks_from sizes (map f c.args.entries.now)) (sizes_some (length c.args.entries.now) c.requires.low ∙ ap block_sizes (sym len));
    }

pub loop-rest-preserved : goal.loop-rest-preserved
loop-rest-preserved c =
    let f : ℕ → Bool = λ channel. get_or c.args.on.now channel false in
    let some : 1 ≤ length c.loop-rest.rest.now = some_left (length c.loop-rest.rest.now) (sym c.is_empty.ensures ∙ c.loop-rest-test.true) in
    let step = blocks_step f c.loop-rest.rest.now c.split_at.result.0.now c.split_at.result.1.now c.min.result c.min.ensures c.split_at.ensures.front c.split_at.ensures.back some in
    record {
      room = omega (arith, ap length c.split_at.ensures.back, length-drop c.min.result c.loop-rest.rest.now, ap length c.split_at.ensures.front, length-take c.min.result c.loop-rest.rest.now, c.min.ensures);
      leads = ap (λ (xs : List Bool). xs ++ blocks_from (sizes_left (length c.split_at.result.1.now)) (map f c.split_at.result.1.now)) c.append_block.ensures.bits
          ∙ append_assoc c.loop-rest.frame.items (block_bits (map f c.split_at.result.0.now)) (blocks_from (sizes_left (length c.split_at.result.1.now)) (map f c.split_at.result.1.now))
          ∙ sym (ap (λ (xs : List Bool). c.loop-rest.frame.items ++ xs) step) ∙ c.loop-rest.invariant.leads;
    }
