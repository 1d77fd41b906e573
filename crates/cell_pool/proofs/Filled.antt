-- The bytes of a list to which words are added that fit into one cell, and into more.
use Rattle.std.proofs.Common.{ℕ, zero, suc, ◌≡◌, ◌≢◌, ◌+◌, ◌-◌, ◌*◌, ◌/◌, ◌%◌, ◌<◌, ◌≤◌, List, [], ◌∷◌, ◌++◌, length, get_or, set, take, drop, flat_map, refl, sym, ap, ◌∙◌, subst, arith, get_or-set_same, get_or-set_other, slice_index, append_assoc, append-nil, length-append}
use Rattle.std.specs.Int.{w64, to_be_bytes}
use Rattle.std.proofs.Math.Seq.{take-add}
use Rattle.std.proofs.lemmas.Grind.{flat_map-append}
use Rattle.std.proofs.lemmas.List.{drop-set-lt, length-set, length-take-le, take_all, take_more, set-get_or, take-append-drop}
use Rattle.std.proofs.lemmas.List.Sums.{sum_by-set}
use Rattle.lk_base.proofs.Bits.{length-words}
use Rattle.lk_index_lists.specs.Held.{Held, list_at, IsApart}
use Rattle.cell_pool.specs.Stored.{Stored, bytes_at, cells_for, used_by, with_bytes}
use Rattle.cell_pool.specs.Cells.{byte_of_word, bytes_in, word_place, roomier, with_run}
use Rattle.cell_pool.proofs.Packed.{bytes_same}
use Rattle.cell_pool.proofs.Pushed.{bytes_more, lists_apart, roomier_front, words_apart}

-- ---- words one after another

pub run_more : (words : List ℕ) (at : ℕ) (xs : List ℕ) (x : ℕ) → with_run words at (xs ++ x ∷ []) ≡ set (with_run words at xs) (at + length xs) x
run_more words at [] x = let e : at + 0 ≡ at = omega arith in rw e refl
run_more words at (y ∷ ys) x =
    let e : at + 1 + length ys ≡ at + length (y ∷ ys) = omega arith in
    run_more (set words at y) (at + 1) ys x ∙ ap (λ (k : ℕ). set (with_run (set words at y) (at + 1) ys) k x) e

pub run_next : (words : List ℕ) (at : ℕ) (xs : List ℕ) (k x : ℕ) → k < length xs → x ≡ get_or xs k 0 → set (with_run words at (take k xs)) (at + k) x ≡ with_run words at (take (k + 1) xs)
run_next words at xs k x h e =
    let long : length (take k xs) ≡ k = length-take-le k xs (omega arith) in
    ap (λ (n : ℕ). set (with_run words at (take k xs)) (at + n) x) (sym long)
    ∙ sym (run_more words at (take k xs) x)
    ∙ ap (λ (n : ℕ). with_run words at (take k xs ++ n ∷ [])) e
    ∙ ap (λ (ys : List ℕ). with_run words at ys) (sym (take_more xs k 0 h))

pub run_long : (words : List ℕ) (at : ℕ) (xs : List ℕ) → length (with_run words at xs) ≡ length words
run_long words at [] = refl
run_long words at (x ∷ xs) = run_long (set words at x) (at + 1) xs ∙ length-set words at x

-- the words after a place that is written
written_take : (xs : List ℕ) (n x : ℕ) → n < length xs → take (n + 1) (set xs n x) ≡ take n xs ++ x ∷ []
written_take [] n x h = absurd (omega arith)
written_take (y ∷ xs) zero x h = refl
written_take (y ∷ xs) (suc n) x h = let e : suc n + 1 ≡ suc (n + 1) = omega arith in rw e (ap (λ (zs : List ℕ). y ∷ zs) (written_take xs n x (omega arith)))

-- all of them at once
pub run_at_once : (words : List ℕ) (at : ℕ) (xs : List ℕ) → at + length xs ≤ length words → take at words ++ (xs ++ drop (at + length xs) words) ≡ with_run words at xs
run_at_once words at [] h = let e : at + 0 ≡ at = omega arith in rw e (take-append-drop at words)
run_at_once words at (x ∷ xs) h =
    let new : List ℕ = set words at x in
    let e : at + 1 + length xs ≡ at + length (x ∷ xs) = omega arith in
    let long : length new ≡ length words = length-set words at x in
    let fits : at + 1 + length xs ≤ length new = omega (arith, long, h) in
    let rest : drop (at + 1 + length xs) new ≡ drop (at + length (x ∷ xs)) words = drop-set-lt (at + 1 + length xs) words at x (omega arith) ∙ ap (λ (n : ℕ). drop n words) e in
    sym (append_assoc (take at words) (x ∷ []) (xs ++ drop (at + length (x ∷ xs)) words))
    ∙ ap (λ (ys : List ℕ). ys ++ (xs ++ drop (at + length (x ∷ xs)) words)) (sym (written_take words at x (omega arith)))
    ∙ ap (λ (ys : List ℕ). take (at + 1) new ++ (xs ++ ys)) (sym rest)
    ∙ run_at_once new (at + 1) xs fits

-- ---- the bytes with more words in the last cell

pub bytes_front : (words chain free : List ℕ) (n : ℕ) → length chain ≡ cells_for n → bytes_in words (roomier chain free n) n ≡ bytes_in words chain n
bytes_front words chain free n long =
    bytes_same words words chain (roomier chain free n) n (λ k h. ap (λ c. byte_of_word (slice_index words (8 * c + k / 8 % 8)) (k % 8)) (roomier_front chain free n k long h))

pub bytes_all : (held : Held) → IsApart held → (p q f cell : ℕ) (words xs : List ℕ) → length (list_at held.lists p) ≡ q + 1 → slice_index (list_at held.lists p) q ≡ cell → f + length xs ≤ 8 → 8 * cell + 8 ≤ length words →
    bytes_in (with_run words (8 * cell + f) xs) (list_at held.lists p) (64 * q + 8 * f + 8 * length xs) ≡ bytes_in words (list_at held.lists p) (64 * q + 8 * f) ++ flat_map (to_be_bytes w64) xs
bytes_all held apart p q f cell words [] long here fits within =
    let e : 64 * q + 8 * f + 8 * length {A = ℕ} [] ≡ 64 * q + 8 * f = omega arith in
    ap (bytes_in words (list_at held.lists p)) e ∙ sym (append-nil (bytes_in words (list_at held.lists p) (64 * q + 8 * f)))
bytes_all held apart p q f cell words (x ∷ xs) long here fits within =
    let chain : List ℕ = list_at held.lists p in
    let n : ℕ = 64 * q + 8 * f in
    let new : List ℕ = set words (8 * cell + f) x in
    let room : f + 1 + length xs ≤ 8 = omega arith in
    let low : f < 8 = omega arith in
    let whole : n % 8 ≡ 0 = omega arith in
    let cell_of : n / 64 ≡ q = omega arith in
    let word_of : n / 8 % 8 ≡ f = omega arith in
    let at : slice_index chain (n / 64) ≡ cell = ap (slice_index chain) cell_of ∙ here in
    let many : length chain ≡ cells_for (n + 8) = omega arith in
    let inside : 8 * cell + n / 8 % 8 < length words = omega arith in
    let one : bytes_in (set words (8 * cell + n / 8 % 8) x) chain (n + 8) ≡ bytes_in words chain n ++ to_be_bytes w64 x =
    bytes_more words chain chain n cell x whole at inside (λ k h. refl) (λ k h. words_apart held apart p n cell k whole many at h) in
    let one_at : bytes_in new chain (n + 8) ≡ bytes_in words chain n ++ to_be_bytes w64 x = subst (λ (k : ℕ). bytes_in (set words (8 * cell + k) x) chain (n + 8) ≡ bytes_in words chain n ++ to_be_bytes w64 x) word_of one in
    let new_long : 8 * cell + 8 ≤ length new = subst (λ (k : ℕ). 8 * cell + 8 ≤ k) (sym (length-set words (8 * cell + f) x)) within in
    let rest : bytes_in (with_run new (8 * cell + (f + 1)) xs) chain (64 * q + 8 * (f + 1) + 8 * length xs) ≡ bytes_in new chain (64 * q + 8 * (f + 1)) ++ flat_map (to_be_bytes w64) xs =
    bytes_all held apart p q (f + 1) cell new xs long here room new_long in
    let place : 8 * cell + f + 1 ≡ 8 * cell + (f + 1) = omega arith in
    let all : 64 * q + 8 * f + 8 * length (x ∷ xs) ≡ 64 * q + 8 * (f + 1) + 8 * length xs = omega arith in
    let some : 64 * q + 8 * (f + 1) ≡ n + 8 = omega arith in
    ap (λ (k : ℕ). bytes_in (with_run new k xs) chain (64 * q + 8 * f + 8 * length (x ∷ xs))) place
    ∙ ap (bytes_in (with_run new (8 * cell + (f + 1)) xs) chain) all
    ∙ rest
    ∙ ap (λ (k : ℕ). bytes_in new chain k ++ flat_map (to_be_bytes w64) xs) some
    ∙ ap (λ (v : List ℕ). v ++ flat_map (to_be_bytes w64) xs) one_at
    ∙ append_assoc (bytes_in words chain n) (to_be_bytes w64 x) (flat_map (to_be_bytes w64) xs)

-- the bytes of another place stay
pub bytes_elsewhere : (held : Held) → IsApart held → (p q i f cell n : ℕ) (words xs : List ℕ) → q ≢ p → i < length (list_at held.lists p) → slice_index (list_at held.lists p) i ≡ cell → f + length xs ≤ 8 → cells_for n ≤ length (list_at held.lists q) →
    bytes_in (with_run words (8 * cell + f) xs) (list_at held.lists q) n ≡ bytes_in words (list_at held.lists q) n
bytes_elsewhere held apart p q i f cell n words [] ne inside here fits long = refl
bytes_elsewhere held apart p q i f cell n words (x ∷ xs) ne inside here fits long =
    let chain : List ℕ = list_at held.lists q in
    let new : List ℕ = set words (8 * cell + f) x in
    let room : f + 1 + length xs ≤ 8 = omega arith in
    let word_of : 8 * f / 8 % 8 ≡ f = omega arith in
    let place : 8 * cell + f + 1 ≡ 8 * cell + (f + 1) = omega arith in
    ap (λ (k : ℕ). bytes_in (with_run new k xs) chain n) place
    ∙ bytes_elsewhere held apart p q i (f + 1) cell n new xs ne inside here room long
    ∙ bytes_same words new chain chain n (λ k h.
    let out : word_place chain k ≢ 8 * cell + 8 * f / 8 % 8 = lists_apart held apart p q (8 * f) i cell k ne inside here (omega arith) in
    let out_at : word_place chain k ≢ 8 * cell + f = subst (λ (m : ℕ). word_place chain k ≢ 8 * cell + m) word_of out in
    ap (λ v. byte_of_word v (k % 8)) (get_or-set_other words (8 * cell + f) (word_place chain k) x 0 out_at))

-- ---- words that fill cell after cell

set_over : {A : Type 0} (xs : List A) (p : ℕ) (a b : A) → set (set xs p a) p b ≡ set xs p b
set_over [] p a b = refl
set_over (x ∷ xs) zero a b = refl
set_over (x ∷ xs) (suc p) a b = ap (λ ys. x ∷ ys) (set_over xs p a b)

-- this many of the words were added
pub record Filling (old now : Stored) (place : ℕ) (words : List ℕ) (done : ℕ) : Type 0 where
  pub within : done ≤ length words
  pub state : now ≡ with_bytes old place (bytes_at old.lists place ++ flat_map (to_be_bytes w64) (take done words))

pub filling_first : (old : Stored) (place : ℕ) (words : List ℕ) → Filling old old place words 0
filling_first old place words = record {
  within = omega arith;
  state = sym (ap (with_bytes old place) (append-nil (bytes_at old.lists place)) ∙ ap (λ ls. record { cells = old.cells; lists = ls }) (set-get_or old.lists place []));
}

module _ (old now : Stored) (place : ℕ) (words : List ℕ) (done : ℕ) (inside : place < length old.lists) (filling : Filling old now place words done) where
  abbrev pub some : List ℕ
  some = bytes_at old.lists place ++ flat_map (to_be_bytes w64) (take done words)

  pub filling_place : place < length now.lists
  filling_place = subst (λ (s : Stored). place < length s.lists) (sym filling.state) (subst (λ k. place < k) (sym (length-set old.lists place some)) inside)

  pub bytes_now : bytes_at now.lists place ≡ some
  bytes_now = ap (λ (s : Stored). bytes_at s.lists place) filling.state ∙ get_or-set_same old.lists place some [] inside

  pub long_now : length (bytes_at now.lists place) ≡ length (bytes_at old.lists place) + 8 * done
  long_now =
      ap length bytes_now
      ∙ length-append (bytes_at old.lists place) (flat_map (to_be_bytes w64) (take done words))
      ∙ ap (λ k. length (bytes_at old.lists place) + k) (length-words (take done words) ∙ ap (λ k. 8 * k) (length-take-le done words filling.within))

  pub filling_whole : length (bytes_at old.lists place) % 8 ≡ 0 → length (bytes_at now.lists place) % 8 ≡ 0
  filling_whole h = let e : length (bytes_at now.lists place) ≡ length (bytes_at old.lists place) + 8 * done = long_now in omega arith

  pub filling_room : used_by old.lists + cells_for (length (bytes_at old.lists place) + 8 * length words) ≤ old.cells + cells_for (length (bytes_at old.lists place)) → done < length words → length (bytes_at now.lists place) % 64 ≡ 0 → used_by now.lists < now.cells
  filling_room room more full =
      let e : length (bytes_at now.lists place) ≡ length (bytes_at old.lists place) + 8 * done = long_now in
      let same : length some ≡ length (bytes_at old.lists place) + 8 * done = ap length (sym bytes_now) ∙ long_now in
      let sums : used_by (set old.lists place some) + cells_for (length (bytes_at old.lists place)) ≡ used_by old.lists + cells_for (length some) = sum_by-set (λ (bytes : List ℕ). cells_for (length bytes)) old.lists place some [] inside in
      let few : used_by (set old.lists place some) < old.cells = omega arith in
      subst (λ (s : Stored). used_by s.lists < s.cells) (sym filling.state) few

  pub filling_more : (then : Stored) (count : ℕ) → count ≤ length (drop done words) → length (drop done words) ≡ length words - done → then ≡ with_bytes now place (bytes_at now.lists place ++ flat_map (to_be_bytes w64) (take count (drop done words))) → Filling old then place words (done + count)
  filling_more then count few left e =
      let w : done ≤ length words = filling.within in
      let more : List ℕ = flat_map (to_be_bytes w64) (take count (drop done words)) in
      let all : some ++ more ≡ bytes_at old.lists place ++ flat_map (to_be_bytes w64) (take (done + count) words) =
      append_assoc (bytes_at old.lists place) (flat_map (to_be_bytes w64) (take done words)) more
      ∙ ap (λ v. bytes_at old.lists place ++ v) (sym (flat_map-append (to_be_bytes w64) (take done words) (take count (drop done words))) ∙ ap (flat_map (to_be_bytes w64)) (sym (take-add done count words)))
      in
      record {
        within = omega arith;
        state = e
            ∙ ap (λ v. with_bytes now place (v ++ more)) bytes_now
            ∙ ap (λ (s : Stored). with_bytes s place (some ++ more)) filling.state
            ∙ ap (λ ls. record { cells = old.cells; lists = ls }) (set_over old.lists place some (some ++ more))
            ∙ ap (with_bytes old place) all;
      }

  pub filling_ends : length words ≤ done → now ≡ with_bytes old place (bytes_at old.lists place ++ flat_map (to_be_bytes w64) words)
  filling_ends past = filling.state ∙ ap (λ v. with_bytes old place (bytes_at old.lists place ++ flat_map (to_be_bytes w64) v)) (take_all done words past)
