-- Rows that are written lane by lane are the rows.
use Rattle.std.proofs.Common.{ℕ, zero, suc, ◌≡◌, refl, sym, ap, ◌∙◌, ◌+◌, ◌*◌, ◌/◌, ◌<◌, ◌≤◌, List, [], ◌∷◌, ◌++◌, length, map, take, drop, set, get_or, append-nil, arith, min}
use Rattle.std.proofs.lemmas.Grind.{common_steps}
use Rattle.std.specs.Prelude.{◌-◌}
use Rattle.std.proofs.Math.Nat.{suc-mul, zero-mul}
use Rattle.std.proofs.lemmas.Bool.{lt-ltb}
use Rattle.std.proofs.lemmas.List.{append_assoc, drop_more, length-append, length-drop, length-set, length-take-le, take-append-drop}
use Rattle.std.proofs.lemmas.Option.{unwrap_or-slice_get}
use Rattle.lk_base.specs.declared.word.RxWord.{RxWord}
use Rattle.lk_base.specs.declared.word.RxWord.TheVariants.{Bad}
use Rattle.deskew.specs.States.{LaneState}
use Rattle.deskew.specs.Blocks.{rows_at, word_at}
use Rattle.deskew.specs.Lanes.{word_before_last}
use Rattle.word_list.specs.Received.{spread}
use Rattle.deskew.specs.Spread.{column, spread_all}

-- words after others stand after them
pub spread_append : (step from : ℕ) (xs ys block : List RxWord) → spread step from (xs ++ ys) block ≡ spread step (from + length xs * step) ys (spread step from xs block)
spread_append step from [] ys block = (let z = zero-mul step in let e : from ≡ from + 0 * step = omega (arith, z) in ap (λ (n : ℕ). spread step n ys block) e)
spread_append step from (x ∷ xs) ys block =
    let s = suc-mul (length xs) step in
    let e : from + step + length xs * step ≡ from + suc (length xs) * step = omega (arith, s) in
    spread_append step (from + step) xs ys (set block from x) ∙ ap (λ (n : ℕ). spread step n ys (spread step (from + step) xs (set block from x))) e

set_past : (p q : List RxWord) (k : ℕ) (w : RxWord) → set (p ++ q) (length p + k) w ≡ p ++ set q k w
set_past [] q k w = (let e : 0 + k ≡ k = omega arith in ap (λ (n : ℕ). set q n w) e)
set_past (x ∷ p) q k w =
    let e : suc (length p) + k ≡ suc (length p + k) = omega arith in
    ap (λ (n : ℕ). set (x ∷ (p ++ q)) n w) e ∙ ap (λ (zs : List RxWord). x ∷ zs) (set_past p q k w)

-- words that begin after a part leave it
spread_past : (step k : ℕ) (ws p q : List RxWord) → spread step (length p + k) ws (p ++ q) ≡ p ++ spread step k ws q
spread_past step k [] p q = refl
spread_past step k (w ∷ ws) p q =
    let e : length p + k + step ≡ length p + (k + step) = omega arith in
    ap (λ (zs : List RxWord). spread step (length p + k + step) ws zs) (set_past p q k w)
    ∙ ap (λ (n : ℕ). spread step n ws (p ++ set q k w)) e ∙ spread_past step (k + step) ws p (set q k w)

pub length_spread : (step from : ℕ) (ws block : List RxWord) → length (spread step from ws block) ≡ length block
length_spread step from [] block = refl
length_spread step from (w ∷ ws) block = length_spread step (from + step) ws (set block from w) ∙ length-set block from w

pub length_column : (behind n : ℕ) (l : LaneState) → length (column behind n l) ≡ n
length_column behind zero l = refl
length_column behind (suc n) l = ap suc (length_column (behind + 1) n l)

-- ---- by rows

-- the first row, and those after it
first_row : (step from behind n : ℕ) (ls : List LaneState) (done row more : List RxWord) → length done ≡ from → length row ≡ length ls → from + length ls ≡ step →
    spread_all step from behind (suc n) ls (done ++ (row ++ more)) ≡ done ++ (map (word_at behind) ls ++ spread_all step from (behind + 1) n ls more)
first_row step from behind n [] done [] more d r s = refl
first_row step from behind n (l ∷ ls) done (x ∷ row) more d r s =
    let w = word_at behind l in
    let words = column (behind + 1) n l in
    let after = spread step from words more in
    let front : List RxWord = done ++ (w ∷ row) in
    let lf = length-append done (w ∷ row) in
    let ld = length-append done (w ∷ []) in
    let here : from ≡ length done + 0 = omega (arith, d) in
    let next : from + step ≡ length front + from = omega (arith, d, r, s, lf) in
    let one : set (done ++ (x ∷ (row ++ more))) from w ≡ front ++ more =
    ap (λ (k : ℕ). set (done ++ (x ∷ (row ++ more))) k w) here ∙ set_past done (x ∷ (row ++ more)) 0 w ∙ sym (append_assoc done (w ∷ row) more) in
    let two : spread step (from + step) words (front ++ more) ≡ (done ++ (w ∷ [])) ++ (row ++ after) =
    ap (λ (k : ℕ). spread step k words (front ++ more)) next ∙ spread_past step from words front more ∙ append_assoc done (w ∷ row) after ∙ sym (append_assoc done (w ∷ []) (row ++ after)) in
    ap (λ (zs : List RxWord). spread_all step (from + 1) behind (suc n) ls (spread step (from + step) words zs)) one
    ∙ ap (λ (zs : List RxWord). spread_all step (from + 1) behind (suc n) ls zs) two
    ∙ first_row step (from + 1) behind n ls (done ++ (w ∷ [])) row after (omega (arith, ld, d)) (omega (arith, r)) (omega (arith, s))
    ∙ append_assoc done (w ∷ []) (map (word_at behind) ls ++ spread_all step (from + 1) (behind + 1) n ls after)
first_row step from behind n ls done row more d r s = absurd (omega (arith, r))

no_rows_spread : (step from behind : ℕ) (ls : List LaneState) (block : List RxWord) → spread_all step from behind 0 ls block ≡ block
no_rows_spread step from behind [] block = refl
no_rows_spread step from behind (l ∷ ls) block = no_rows_spread step (from + 1) behind ls block

row_before : (behind n : ℕ) (ls : List LaneState) → map (word_at behind) ls ++ rows_at (behind + 1) n ls ≡ rows_at behind (suc n) ls
row_before behind zero ls = (let e : behind ≡ behind + 0 = omega arith in append-nil (map (word_at behind) ls) ∙ ap (λ (b : ℕ). map (word_at b) ls) e)
row_before behind (suc n) ls =
    let e : behind + 1 + n ≡ behind + suc n = omega arith in
    ap (λ (b : ℕ). map (word_at behind) ls ++ (rows_at (behind + 1) n ls ++ map (word_at b) ls)) e
    ∙ sym (append_assoc (map (word_at behind) ls) (rows_at (behind + 1) n ls) (map (word_at (behind + suc n)) ls))
    ∙ ap (λ (zs : List RxWord). zs ++ map (word_at (behind + suc n)) ls) (row_before behind n ls)

nothing : (xs : List RxWord) → length xs ≡ 0 → xs ≡ []
nothing [] e = refl
nothing (x ∷ xs) e = absurd (omega (arith, e))

-- all lanes have written their words
pub all_spread : (behind n : ℕ) (ls : List LaneState) (block : List RxWord) → length block ≡ n * length ls → spread_all (length ls) 0 behind n ls block ≡ rows_at behind n ls
all_spread behind zero ls block is = no_rows_spread (length ls) 0 behind ls block ∙ nothing block (is ∙ zero-mul (length ls))
all_spread behind (suc n) ls block is =
    let step = length ls in
    let s = suc-mul n step in
    let ld = length-drop step block in
    ap (λ (zs : List RxWord). spread_all step 0 behind (suc n) ls zs) (sym (take-append-drop step block))
    ∙ first_row step 0 behind n ls [] (take step block) (drop step block) refl (length-take-le step block (omega (arith, is, s))) (omega arith)
    ∙ ap (λ (zs : List RxWord). map (word_at behind) ls ++ zs) (all_spread (behind + 1) n ls (drop step block) (omega (arith, is, s, ld)))
    ∙ row_before behind n ls

-- ---- of one lane

word_kept : (behind back first : ℕ) (l : LaneState) → back ≡ (l.last - (l.start + 67 * behind)) / 67 → back < length l.words → first ≡ length l.words - back - 1 →
    get_or l.words first Bad ≡ word_at behind l
word_kept behind back first l b k f =
    let e : get_or l.words first Bad ≡ word_before_last back l.words =
    ap (λ (i : ℕ). get_or l.words i Bad) f ∙ sym (rw (lt-ltb back (length l.words) k) (unwrap_or-slice_get l.words (length l.words - back - 1) Bad)) in
    e ∙ ap (λ (c : ℕ). word_before_last c l.words) b

one_kept : (behind n back first : ℕ) (l : LaneState) → back ≡ (l.last - (l.start + 67 * behind)) / 67 → back < length l.words → first ≡ length l.words - back - 1 →
    take n (drop (first + 1) l.words) ≡ column (behind + 1) n l → take (suc n) (drop first l.words) ≡ column behind (suc n) l
one_kept behind n back first l b k f more =
    ap (λ (ws : List RxWord). take (suc n) ws) (drop_more l.words first Bad (omega (arith, k, f)))
    ∙ ap (λ (w : RxWord). w ∷ take n (drop (first + 1) l.words)) (word_kept behind back first l b k f)
    ∙ ap (λ (ws : List RxWord). word_at behind l ∷ ws) more

-- the words of a column, where they are kept
pub column_kept : (behind n back first : ℕ) (l : LaneState) → back ≡ (l.last - (l.start + 67 * behind)) / 67 → back < length l.words → n ≤ back + 1 → first ≡ length l.words - back - 1 →
    take n (drop first l.words) ≡ column behind n l
column_kept behind zero back first l b k few f = refl
column_kept behind (suc zero) back first l b k few f = one_kept behind 0 back first l b k f refl
column_kept behind (suc (suc n)) back first l b k few f =
    one_kept behind (suc n) back first l b k f
    (column_kept (behind + 1) (suc n) (back - 1) (first + 1) l (omega (arith, b, few)) (omega (arith, k)) (omega (arith, few)) (omega (arith, f, k, few)))

-- a part of two lists, one after the other
drop_of_two : (p q : List RxWord) (first f g : ℕ) → f ≡ min first (length p) → g ≡ first - length p → drop f p ++ drop g q ≡ drop first (p ++ q)
drop_of_two [] q first f g e h = (let e' : f ≡ 0 = omega (arith, e) in let h' : g ≡ first = omega (arith, h) in rw (h', e') refl)
drop_of_two (x ∷ p) q zero f g e h = (let e' : f ≡ 0 = omega (arith, e) in let h' : g ≡ 0 = omega (arith, h) in rw (h', e') refl)
drop_of_two (x ∷ p) q (suc first) zero g e h = absurd (omega (arith, e))
drop_of_two (x ∷ p) q (suc first) (suc f) g e h = drop_of_two p q first f g (omega (arith, e)) (omega (arith, h))

take_of_two : (p q : List RxWord) (n here m : ℕ) → here ≡ min (length p) n → m ≡ n - here → take here p ++ take m q ≡ take n (p ++ q)
take_of_two [] q n here m e h = (let e' : here ≡ 0 = omega (arith, e) in let h' : m ≡ n = omega (arith, h, e) in rw (h', e') refl)
take_of_two (x ∷ p) q zero here m e h = (let e' : here ≡ 0 = omega (arith, e) in let h' : m ≡ 0 = omega (arith, h) in rw (h', e') refl)
take_of_two (x ∷ p) q (suc n) zero m e h = absurd (omega (arith, e))
take_of_two (x ∷ p) q (suc n) (suc here) m e h = ap (λ (zs : List RxWord). x ∷ zs) (take_of_two p q n here m (omega (arith, e)) (omega (arith, h)))

pub part_of_two : (p q : List RxWord) (first n here f g m : ℕ) → here ≡ min (length p - first) n → f ≡ min first (length p) → g ≡ first - length p → m ≡ n - here →
    take here (drop f p) ++ take m (drop g q) ≡ take n (drop first (p ++ q))
part_of_two p q first n here f g m a b c d =
    let l = length-drop f p in
    take_of_two (drop f p) (drop g q) n here m (omega (arith, a, b, l)) d ∙ ap (λ (ws : List RxWord). take n ws) (drop_of_two p q first f g b c)

-- both have room for the words of this many rows
pub two_fit : (from step rows room : ℕ) (p q : List RxWord) → length (p ++ q) ≡ rows → from + rows * step < room + step →
    (from + length p * step < room + step) × (from + length p * step + length q * step < room + step)
two_fit from step rows room p q is within = grind (arith, common_steps)

-- one row more of a lane
pub column_more : (step at behind row rows : ℕ) (l : LaneState) (block : List RxWord) (w : RxWord) → row < rows → w ≡ word_at (behind + row) l →
    spread step (at + step) (column (behind + (row + 1)) (rows - (row + 1)) l) (set block at w) ≡ spread step at (column (behind + row) (rows - row) l) block
column_more step at behind row rows l block w lt is =
    let left : rows - row ≡ suc (rows - (row + 1)) = omega (arith, lt) in
    let e : behind + (row + 1) ≡ behind + row + 1 = omega arith in
    ap (λ (v : RxWord). spread step (at + step) (column (behind + (row + 1)) (rows - (row + 1)) l) (set block at v)) is
    ∙ ap (λ (b : ℕ). spread step (at + step) (column b (rows - (row + 1)) l) (set block at (word_at (behind + row) l))) e
    ∙ ap (λ (n : ℕ). spread step at (column (behind + row) n l) block) (sym left)

pub rows_left : (step at row rows : ℕ) → row < rows → at + step + (rows - (row + 1)) * step ≡ at + (rows - row) * step
rows_left step at row rows lt =
    let left : rows - row ≡ suc (rows - (row + 1)) = omega (arith, lt) in
    let s = suc-mul (rows - (row + 1)) step in
    let n = ap (λ (k : ℕ). k * step) left in
    omega (arith, s, n)

-- one lane more
pub lane_more : (step i behind rows : ℕ) (ls : List LaneState) (l : LaneState) (block : List RxWord) → i < length ls → l ≡ get_or ls i l →
    spread_all step (i + 1) behind rows (drop (i + 1) ls) (spread step i (column behind rows l) block) ≡ spread_all step i behind rows (drop i ls) block
lane_more step i behind rows ls l block lt is = grind (arith, common_steps)

-- two parts of what is kept are a column
pub parts_are : (behind rows back : ℕ) (l : LaneState) (p q : List RxWord) → back ≡ (l.last - (l.start + 67 * behind)) / 67 → back < length l.words → rows ≤ back + 1 →
    p ++ q ≡ take rows (drop (length l.words - back - 1) l.words) → p ++ q ≡ column behind rows l
parts_are behind rows back l p q b k few is = is ∙ column_kept behind rows back (length l.words - back - 1) l b k few refl
