-- Items are counted, and their words and breaks numbered.
use Rattle.std.proofs.Common.{◌≡◌, ℕ, ◌+◌, Bool, true, false, List, [], ◌∷◌, ◌++◌, length, length-append, min, sym, ap, ◌∙◌, append_assoc, append-nil, arith}
use Rattle.std.specs.Prelude.{◌-◌, ◌^◌}
use Rattle.lk_base.specs.declared.word.Aligned.{Aligned}
use Rattle.lane_words.specs.Gathered.{between, ends_broken, gathered_words, is_break, own_words, words_after}
use Rattle.lane_words.proofs.Growths.{broken_more, words_more}
use Rattle.live_gatherer.specs.declared.numbering.Numbering.{Numbering}
use Rattle.live_gatherer.specs.Numbers.{Counts, Numbered, as_number, count_words, next_number, numbered, numbered_after, own_numbered}

-- ---- numbers

-- the word between, as it is counted
pub one_between : (broken : Bool) (n most : ℕ) → n ≡ 1 → broken ≡ true → n ≡ length (between broken)
one_between true n most e h = e
one_between false n most e h = (let f : false ≡ true = h in cc)

capped_sum : (words more most : ℕ) → min (min words most + more) most ≡ min (words + more) most
capped_sum words more most = omega arith

module _ (n : Numbering) (items : List Aligned) (k : Counts n items) where
  pub numbered_so : (more number : ℕ) → more ≡ length (between n.broken) → number ≡ min (n.words + more) (2 ^ 64 - 1) → number ≡ as_number (next_number items)
  numbered_so more number e f =
      let l = length-append (gathered_words items) (between (ends_broken false items)) in
      f ∙ ap (λ m. min (n.words + m) (2 ^ 64 - 1)) (e ∙ ap (λ b. length (between b)) k.broken)
      ∙ ap (λ m. min (m + length (between (ends_broken false items))) (2 ^ 64 - 1)) k.words
      ∙ capped_sum (length (gathered_words items)) (length (between (ends_broken false items))) (2 ^ 64 - 1)
      ∙ ap as_number (sym l)

  pub counted_so : (item : Aligned) (number words own : ℕ) (broken : Bool) → number ≡ as_number (next_number items) → own ≡ count_words (own_words item) → words ≡ min (number + own) (2 ^ 64 - 1) → broken ≡ is_break item →
      Counts (record { words = words; broken = broken }) (items ++ item ∷ [])
  counted_so item number words own broken e f h b =
      let l = length-append (gathered_words items ++ between (ends_broken false items)) (own_words item) in
      record {
        words = h ∙ ap (λ m. min (number + m) (2 ^ 64 - 1)) f ∙ ap (λ m. min (m + length (own_words item)) (2 ^ 64 - 1)) e
            ∙ capped_sum (next_number items) (length (own_words item)) (2 ^ 64 - 1)
            ∙ ap as_number (sym l ∙ ap length (sym (words_more items item)));
        broken = b ∙ sym (broken_more items item);
      }

-- ---- what is given of more items

count_after : (broken : Bool) (x : Aligned) (xs : List Aligned) (count : ℕ) →
    count + length (between broken) + length (own_words x) + length (words_after (is_break x) xs) ≡ count + length (words_after broken (x ∷ xs))
count_after broken x xs count =
    let a = length-append (between broken) (own_words x ++ words_after (is_break x) xs) in
    let b = length-append (own_words x) (words_after (is_break x) xs) in
    omega (arith, a, b)

pub numbered_append : (broken : Bool) (count : ℕ) (xs ys : List Aligned) →
    numbered_after broken count (xs ++ ys) ≡ numbered_after broken count xs ++ numbered_after (ends_broken broken xs) (count + length (words_after broken xs)) ys
numbered_append broken count [] ys = let e : count ≡ count + 0 = omega arith in ap (λ (n : ℕ). numbered_after broken n ys) e
numbered_append broken count (x ∷ xs) ys =
    let here = count + length (between broken) in
    let next = here + length (own_words x) in
    ap (λ (rs : List Numbered). own_numbered here x ++ rs)
    (numbered_append (is_break x) next xs ys ∙ ap (λ (n : ℕ). numbered_after (is_break x) next xs ++ numbered_after (ends_broken (is_break x) xs) n ys) (count_after broken x xs count))
    ∙ sym (append_assoc (own_numbered here x) (numbered_after (is_break x) next xs) (numbered_after (ends_broken (is_break x) xs) (count + length (words_after broken (x ∷ xs))) ys))

-- one item more
pub numbered_more : (items : List Aligned) (x : Aligned) → numbered (items ++ x ∷ []) ≡ numbered items ++ own_numbered (next_number items) x
numbered_more items x =
    let l = length-append (gathered_words items) (between (ends_broken false items)) in
    let e : 0 + length (gathered_words items) + length (between (ends_broken false items)) ≡ next_number items = omega (arith, l) in
    numbered_append false 0 items (x ∷ [])
    ∙ ap (λ (rs : List Numbered). numbered items ++ rs) (append-nil (own_numbered (0 + length (gathered_words items) + length (between (ends_broken false items))) x))
    ∙ ap (λ (n : ℕ). numbered items ++ own_numbered n x) e
