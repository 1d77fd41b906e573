-- Entries and states that are cut from the front, as many as a word or a block takes.
use Rattle.std.proofs.Common.{◌≡◌, ◌==◌, ℕ, zero, suc, ◌+◌, ◌-◌, ◌/◌, ◌≤◌, min, Bool, false, List, ◌∷◌, ◌++◌, length, map, take, drop, sym, ap, ap₂, ◌∙◌, arith}
use Rattle.std.proofs.lemmas.List.{length-drop, drop_min, take-map, drop-map}
use Rattle.oob_flow.specs.Frames.{sizes_left, block_bits, blocks_from}
use Rattle.oob_flow.specs.Words.{flow_bits, idle_word, words_from}
use Rattle.oob_flow.proofs.Blocks.{sizes_step}

-- what is not empty has one more
pub some_left : (n : ℕ) → (n == 0) ≡ false → 1 ≤ n
some_left zero h = cc
some_left (suc n) h = omega arith

-- one word more
pub words_step : (reset : Bool) (xs ys : List Bool) (m : ℕ) → m ≡ min (length xs) 16 → ys ≡ drop m xs → 1 ≤ length xs
    → words_from ((length xs + 15) / 16) reset xs ≡ idle_word reset (flow_bits xs) ∷ words_from ((length ys + 15) / 16) false ys
words_step reset xs ys m e f h =
    let len : length ys ≡ length xs - m = ap length f ∙ length-drop m xs in
    let n : (length xs + 15) / 16 ≡ suc ((length ys + 15) / 16) = omega arith in
    let m' : m ≡ min 16 (length xs) = omega arith in
    let same : drop 16 xs ≡ ys = sym (f ∙ ap (λ (k : ℕ). drop k xs) m' ∙ drop_min 16 xs) in
    ap (λ (k : ℕ). words_from k reset xs) n ∙ ap (λ (zs : List Bool). idle_word reset (flow_bits xs) ∷ words_from ((length ys + 15) / 16) false zs) same

-- one block more
pub blocks_step : (f : ℕ → Bool) (xs block ys : List ℕ) (m : ℕ) → m ≡ min (length xs) 64 → block ≡ take m xs → ys ≡ drop m xs → 1 ≤ length xs
    → blocks_from (sizes_left (length xs)) (map f xs) ≡ block_bits (map f block) ++ blocks_from (sizes_left (length ys)) (map f ys)
blocks_step f xs block ys m e b r h =
    let m' : min 64 (length xs) ≡ m = omega arith in
    let len : length ys ≡ length xs - m = ap length r ∙ length-drop m xs in
    let left : length xs - min 64 (length xs) ≡ length ys = omega arith in
    let front : take (min 64 (length xs)) (map f xs) ≡ map f block = ap (λ (k : ℕ). take k (map f xs)) m' ∙ take-map f m xs ∙ sym (ap (map f) b) in
    let back : drop (min 64 (length xs)) (map f xs) ≡ map f ys = ap (λ (k : ℕ). drop k (map f xs)) m' ∙ drop-map f m xs ∙ sym (ap (map f) r) in
    ap (λ (sizes : List ℕ). blocks_from sizes (map f xs)) (sizes_step (length xs) h)
    ∙ ap₂ (λ (s t : List Bool). block_bits s ++ blocks_from (sizes_left (length xs - min 64 (length xs))) t) front back
    ∙ ap (λ (n : ℕ). block_bits (map f block) ++ blocks_from (sizes_left n) (map f ys)) left
