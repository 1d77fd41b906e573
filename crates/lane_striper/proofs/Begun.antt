-- Words are gathered one by one.
use Rattle.std.proofs.Common.{ℕ, ◌≡◌, refl, sym, ap, ◌∙◌, ◌+◌, ◌-◌, ◌*◌, ◌/◌, ◌%◌, ◌<◌, ◌≤◌, List, [], ◌∷◌, ◌++◌, length, map, get_or, arith, subst, inl, inr}
use Rattle.std.proofs.Math.Nat.{div-lt_iff_lt-mul, mul_comm}
use Rattle.std.proofs.Math.Seq.{get_or-append_seam}
use Rattle.std.proofs.lemmas.Bool.{cases_lt}
use Rattle.std.proofs.lemmas.List.{get_or-map, length-map, get_or_append_left, length_push}
use Rattle.std.proofs.lemmas.Nat.{mod_below, div-mul-add, mod-mul-add, div-add-mod'}
use Rattle.lk_base.specs.declared.word.Word.{Word}
use Rattle.lane_striper.specs.Gathered.{list_of, IsBegun}

-- the list of a number, seen through f
pub mapped : {X : Type 0} (f : X → List Word) (xs : List X) (n : ℕ) (x : X) → 0 < length xs → x ≡ get_or xs (n % length xs) x → list_of (map f xs) n ≡ f x
mapped f xs n x h e =
    ap (λ k. get_or (map f xs) (n % k) []) (length-map xs f)
    ∙ get_or-map f xs (n % length xs) x [] (mod_below n (length xs) h)
    ∙ ap f (sym e)

is_last : (n k : ℕ) → n < k + 1 → k ≤ n → k ≡ n
is_last n k h l = omega arith

pub step : (lists : List (List Word)) (words more list : List Word) (w : Word) → IsBegun lists words → list_of lists (length words) ≡ list →
    length words / length lists < length list → ((d : Word) → w ≡ get_or list (length words / length lists) d) → more ≡ words ++ w ∷ [] → IsBegun lists more
step lists words more list w begun e h g p =
    subst (IsBegun lists) (sym p) (record {
      there = λ n k. elim (cases_lt n (length words)) [
        | inl l ↦ begun.there n l
        | inr l ↦ subst (λ m. m / length lists < length (list_of lists m)) (is_last n (length words) (rw (length_push words w) at k) l) (rw e h)
      ];
      each = λ n d k. elim (cases_lt n (length words)) [
        | inl l ↦ get_or_append_left words (w ∷ []) d n l ∙ begun.each n d l
        | inr l ↦ subst (λ m. get_or (words ++ w ∷ []) m d ≡ get_or (list_of lists m) (m / length lists) d) (is_last n (length words) (rw (length_push words w) at k) l)
            (get_or-append_seam words w [] d ∙ g d ∙ ap (λ l. get_or l (length words / length lists) d) (sym e))
      ];
    })

-- the list of number 0 has a word at the place of each word that is there
row_start : (lists : List (List Word)) (words : List Word) (n q r : ℕ) → 0 < length lists → IsBegun lists words → n ≡ q * length lists + r → r < length lists → n ≡ length words →
    q < length (list_of lists n) → q < length (list_of lists 0)
row_start lists words n q r h begun e k f there = elim (cases_lt 0 r) [
  | inl l ↦
      let m : q * length lists + 0 < length words = omega arith in
      let t = begun.there (q * length lists + 0) m in
      rw (div-mul-add q (length lists) 0 h, mod-mul-add q (length lists) 0 h, ← zero_mod (length lists) h) at t
  | inr l ↦
      let z : r ≡ 0 = omega arith in
      let s : n % length lists ≡ 0 % length lists = ap (λ x. x % length lists) e ∙ mod-mul-add q (length lists) r k ∙ z ∙ sym (zero_mod (length lists) h) in
      subst (λ i. q < length (get_or lists i [])) s there
]
  where
    zero_mod : (k : ℕ) → 0 < k → 0 % k ≡ 0
    zero_mod k h = omega arith

-- so there are fewer words than the lists have rows of the first list's length
pub below_all : (lists : List (List Word)) (words : List Word) → 0 < length lists → IsBegun lists words → length words / length lists < length (list_of lists (length words)) →
    length words < length lists * length (list_of lists 0)
below_all lists words h begun there =
    let n = length words in
    let q = length words / length lists in
    let s : length words ≡ length words / length lists * length lists + length words % length lists = sym (div-add-mod' (length words) (length lists)) in
    let t : length words / length lists < length (list_of lists 0) =
    row_start lists words (length words) q (length words % length lists) h begun s (mod_below (length words) (length lists) h) refl there in
    let u : length words < length (list_of lists 0) * length lists = (div-lt_iff_lt-mul {k = length lists} {x = length words} {y = length (list_of lists 0)} h).0 t in
    rw (mul_comm (length lists) (length (list_of lists 0))) u

-- ---- the same as code counts

quotient : (n k m l : ℕ) → n ≡ m → k ≡ l → n / k ≡ m / l
quotient n k m l e f = rw (e, f) refl

pub step_at : (lists : List (List Word)) (words more list : List Word) (w : Word) (n k : ℕ) → IsBegun lists words → n ≡ length words → k ≡ length lists → list_of lists n ≡ list →
    n / k < length list → ((d : Word) → w ≡ get_or list (n / k) d) → more ≡ words ++ w ∷ [] → IsBegun lists more
step_at lists words more list w n k begun e f g h i p =
    let q : n / k ≡ length words / length lists = quotient n k (length words) (length lists) e f in
    step lists words more list w begun (ap (list_of lists) (sym e) ∙ g) (rw q at h) (λ d. i d ∙ ap (λ x. get_or list x d) q) p

pub smaller : (lists : List (List Word)) (words more list : List Word) (w : Word) (n k : ℕ) → 0 < k → IsBegun lists words → n ≡ length words → k ≡ length lists → list_of lists n ≡ list →
    n / k < length list → more ≡ words ++ w ∷ [] → k * length (list_of lists 0) - length more < k * length (list_of lists 0) - length words
smaller lists words more list w n k some begun e f g h p =
    let q : n / k ≡ length words / length lists = quotient n k (length words) (length lists) e f in
    let there : length words / length lists < length (list_of lists (length words)) = rw (ap (list_of lists) (sym e) ∙ g) (rw q at h) in
    let b : length words < length lists * length (list_of lists 0) = below_all lists words (rw (← f) some) begun there in
    let l : length more ≡ length words + 1 = ap length p ∙ length_push words w in
    rw f (omega (arith, b, l))
