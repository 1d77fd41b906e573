use Rattle.std.proofs.Common.{◌≡◌, ◌≤◌, ◌<◌, ◌+◌, ◌-◌, ℕ, List, length, take, drop, min, sym, ap, ◌∙◌, arith, inl, inr}
use Rattle.std.proofs.lemmas.List.{length-drop, take_min}
use Rattle.std.proofs.Math.ListN.{drop_of_length-le}
use Rattle.std.proofs.lemmas.Bool.{cases_Bool}
use Rattle.std.proofs.lemmas.Bool.Decides.{nat_tests}
use Rattle.std.specs.Prelude.{nat_lt}
use Rattle.lane_receipts.proofs.lane_pieces.piece_of.Goals as goal

-- nothing stands past the end
same_rest : (bytes : List ℕ) (offset start : ℕ) → start ≡ min offset (length bytes) → drop start bytes ≡ drop offset bytes
same_rest bytes offset start is = elim (cases_Bool (nat_lt (length bytes) offset)) [
  | inl past ↦ (
      let lt : length bytes < offset = grind (arith, nat_tests) in
      drop_of_length-le bytes {i = start} (omega arith) ∙ sym (drop_of_length-le bytes {i = offset} (omega arith)))
  | inr within ↦ (
      let le : offset ≤ length bytes = grind (arith, nat_tests) in
      let same : start ≡ offset = omega arith in
      ap (λ k. drop k bytes) same)
]

cut_of : (bytes : List ℕ) (most offset start end : ℕ) → start ≡ min offset (length bytes) → end ≡ min (length bytes) (start + most) → take (end - start) (drop start bytes) ≡ take most (drop offset bytes)
cut_of bytes most offset start end is ends =
    let l = length-drop start bytes in
    let many : end - start ≡ min most (length (drop start bytes)) = omega arith in
    ap (λ k. take k (drop start bytes)) many ∙ take_min most (drop start bytes) ∙ ap (take most) (same_rest bytes offset start is)

pub returns-clause-first : goal.returns-clause-first
returns-clause-first c = cut_of c.args.bytes.now 4096 c.args.offset c.min-start.result c.min-end.result c.min-start.ensures (omega arith)
