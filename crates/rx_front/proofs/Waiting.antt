-- Words that wait.
use Rattle.std.proofs.Common.{ℕ, zero, suc, ◌≡◌, refl, sym, ap, ◌∙◌, ◌+◌, ◌-◌, ◌≤◌, ◌<◌, ◌==◌, inl, inr, eqb-true, List, [], ◌∷◌, length, take, drop, get_or, map, arith}
use Rattle.std.proofs.lemmas.List.{drop-drop, get_or-drop, length-drop}
use Rattle.std.proofs.lemmas.Bool.{cases_Bool, eqb-false}
use Rattle.lk_base.specs.declared.word.Aligned.{Aligned}
use Rattle.lk_base.specs.declared.word.Aligned.TheVariants.{Word}
use Rattle.lk_base.specs.declared.word.RxWord.{RxWord}
use Rattle.lk_base.specs.declared.word.RxWord.TheVariants.{Bad, Control, Data}
use Rattle.lk_base.specs.Positions.{words_from}
use Rattle.deskew.proofs.Rows.{words_count}
use Rattle.word_list.specs.Received.{data_front}
use Rattle.rx_front.specs.Waiting.{words_in}

-- the first of them, and the others
pub words_first : (n group index : ℕ) (ws : List RxWord) → take n (words_from group index ws) ≡ words_from group index (take n ws)
words_first zero group index ws = refl
words_first (suc n) group index [] = refl
words_first (suc n) group index (w ∷ ws) = ap (λ (items : List Aligned). Word (record { group = group; index = index }) w ∷ items) (words_first n group (index + 1) ws)

pub words_after : (n group index : ℕ) (ws : List RxWord) → drop n (words_from group index ws) ≡ words_from group (index + n) (drop n ws)
words_after zero group index ws = (let e : index ≡ index + 0 = omega arith in ap (λ (k : ℕ). words_from group k ws) e)
words_after (suc n) group index [] = refl
words_after (suc n) group index (w ∷ ws) = (let e : index + 1 + n ≡ index + suc n = omega arith in words_after n group (index + 1) ws ∙ ap (λ (k : ℕ). words_from group k (drop n ws)) e)

pub words_are : (group index : ℕ) (ws : List RxWord) → words_in (words_from group index ws) ≡ ws
words_are group index [] = refl
words_are group index (w ∷ ws) = ap (λ (xs : List RxWord). w ∷ xs) (words_are group (index + 1) ws)

-- some that wait, of a list of words
pub some_within : (group index n cursor : ℕ) (ws : List RxWord) → cursor ≤ length ws → n ≤ length (words_from group index (drop cursor ws)) → cursor + n ≤ length ws
some_within group index n cursor ws le some = (let l = words_count group index (drop cursor ws) in let d = length-drop cursor ws in omega (arith, le, some, l, d))

-- as many of them taken
pub words_passed : (group index n cursor : ℕ) (ws : List RxWord) → words_from group (index + (cursor + n)) (drop (cursor + n) ws) ≡ drop n (words_from group (index + cursor) (drop cursor ws))
words_passed group index n cursor ws =
    let e : index + (cursor + n) ≡ index + cursor + n = omega arith in
    ap (λ (k : ℕ). words_from group k (drop (cursor + n) ws)) e ∙ ap (words_from group (index + cursor + n)) (sym (drop-drop n cursor ws)) ∙ sym (words_after n group (index + cursor) (drop cursor ws))

pub one_within : (group index n cursor : ℕ) (ws : List RxWord) → cursor ≤ length ws → n < length (words_from group index (drop cursor ws)) → cursor + n < length ws
one_within group index n cursor ws le some = (let l = words_count group index (drop cursor ws) in let d = length-drop cursor ws in omega (arith, le, some, l, d))

-- ---- the words that wait

waits : (group index cursor : ℕ) (ws : List RxWord) (items : List Aligned) → words_from group index (drop cursor ws) ≡ items → drop cursor ws ≡ words_in items
waits group index cursor ws items is = sym (words_are group index (drop cursor ws)) ∙ ap words_in is

-- one of them
pub word_waits : (group index n cursor : ℕ) (ws : List RxWord) (items : List Aligned) → words_from group index (drop cursor ws) ≡ items → get_or ws (cursor + n) Bad ≡ get_or (words_in items) n Bad
word_waits group index n cursor ws items is = sym (get_or-drop cursor ws n Bad) ∙ ap (λ (xs : List RxWord). get_or xs n Bad) (waits group index cursor ws items is)

-- those from one on
pub rest_waits : (group index n cursor : ℕ) (ws : List RxWord) (items : List Aligned) → words_from group index (drop cursor ws) ≡ items → drop (cursor + n) ws ≡ drop n (words_in items)
rest_waits group index n cursor ws items is = sym (drop-drop n cursor ws) ∙ ap (λ (xs : List RxWord). drop n xs) (waits group index cursor ws items is)

-- ---- data words at the front

pub data_within : (ws : List RxWord) → length (data_front ws) ≤ length ws
data_within [] = omega arith
data_within (Data x ∷ ws) = (let r = data_within ws in omega (arith, r))
data_within (Control x ∷ ws) = omega arith
data_within (Bad ∷ ws) = omega arith

-- they are the first words
pub data_first : (ws : List RxWord) → take (length (data_front ws)) ws ≡ map Data (data_front ws)
data_first [] = refl
data_first (Data x ∷ ws) = ap (λ (xs : List RxWord). Data x ∷ xs) (data_first ws)
data_first (Control x ∷ ws) = refl
data_first (Bad ∷ ws) = refl

-- the first word alone
pub one_first : (ws : List RxWord) → 1 ≤ length ws → take 1 ws ≡ get_or ws 0 Bad ∷ []
one_first [] some = absurd (omega (arith, some))
one_first (w ∷ ws) some = refl

-- as many words wait as items
pub as_many : (group index : ℕ) (items : List Aligned) → items ≡ words_from group index (words_in items) → length (words_in items) ≡ length items
as_many group index items are = sym (words_count group index (words_in items)) ∙ sym (ap length are)

-- ---- how many wait

pub none_waits_where : (group index cursor : ℕ) (ws : List RxWord) → cursor ≤ length ws → (cursor == length ws) ≡ (length (words_from group index (drop cursor ws)) == 0)
none_waits_where group index cursor ws le =
    let l = words_count group index (drop cursor ws) in
    let d = length-drop cursor ws in
    let e : length (words_from group index (drop cursor ws)) ≡ length ws - cursor = omega (arith, l, d) in
    is_none cursor (length ws) le ∙ ap (λ (n : ℕ). n == 0) (sym e)
  where
    is_none : (a b : ℕ) → a ≤ b → (a == b) ≡ (b - a == 0)
    is_none a b h = elim (cases_Bool (a == b)) [
      | inl e ↦ (let f : b - a ≡ 0 = (let g = eqb-true a b e in omega (arith, g)) in e ∙ sym (ap (λ (n : ℕ). n == 0) f))
      | inr e ↦ elim (cases_Bool (b - a == 0)) [
        | inl g ↦ absurd (eqb-false a b e (let f = eqb-true (b - a) 0 g in omega (arith, f, h)))
        | inr g ↦ e ∙ sym g
      ]
    ]

-- all words of a block wait
pub all_wait : (group index : ℕ) (ws : List RxWord) → words_from group (index + 0) (drop 0 ws) ≡ words_from group index ws
all_wait group index ws = (let e : index + 0 ≡ index = omega arith in ap (λ (n : ℕ). words_from group n ws) e)
