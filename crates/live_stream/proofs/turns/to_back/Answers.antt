use Rattle.std.proofs.Common.{◌≡◌, ◌-◌, List, ℕ, length, get_or, ◌++◌, ◌∷◌, [], ap, ◌∙◌, arith, length-append}
use Rattle.std.specs.List.{remove}
use Rattle.std.proofs.lemmas.List.Edits.{length-remove}
use Rattle.std.proofs.lemmas.Slice.{put_mid-rotated}
use Rattle.live_stream.specs.declared.waiting.Waiting.{Waiting}
use Rattle.live_stream.proofs.Places.{refill}
use Rattle.live_stream.proofs.turns.to_back.Goals as goal

pub returns : goal.returns
returns c q =
    let old : List Waiting = c.args.turns.now.items in
    let xs : List Waiting = c.deref_mut.result.now in
    let at : ℕ = c.args.at in
    let same : xs ≡ old = c.deref_mut.ensures.value in
    let many : length xs ≡ length old = ap length same in
    let inside = c.requires in
    let put = put_mid-rotated at (length xs - at) xs c.rotate_left.new.self q (omega (arith, many, inside)) (omega arith) c.rotate_left.ensures.after in
    let long = ap length put ∙ length-append (remove xs at) (get_or xs at q ∷ []) in
    let cut = length-remove xs at (omega (arith, many, inside)) in
    refill c.args.turns.now.len old _ c.args.turns.now.ok.0 (omega (arith, long, cut, many)) ∙ put ∙ ap (λ zs. remove zs at ++ get_or zs at q ∷ []) same
