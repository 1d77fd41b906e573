-- Words, rows and epochs of items, and of more of them.
use Rattle.std.proofs.Common.{◌≡◌, ℕ, ◌+◌, ◌≤◌, Bool, false, List, [], ◌∷◌, ◌++◌, length, length-append, refl, sym, ap, ◌∙◌, append_assoc, append-nil, arith}
use Rattle.lk_base.specs.declared.word.Aligned.{Aligned}
use Rattle.lk_base.specs.declared.word.RxWord.{RxWord}
use Rattle.lk_base.specs.Positions.{words_from}
use Rattle.lane_words.specs.declared.places.PlaceRow.{PlaceRow}
use Rattle.lane_words.specs.Gathered.{between, ends_broken, epochs_in, gathered_words, is_break, own_epochs, own_rows, own_words, places, places_after, words_after}

-- ---- items, and more of them

pub words_append : (broken : Bool) (xs ys : List Aligned) → words_after broken (xs ++ ys) ≡ words_after broken xs ++ words_after (ends_broken broken xs) ys
words_append broken [] ys = refl
words_append broken (x ∷ xs) ys =
    ap (λ (ws : List RxWord). between broken ++ (own_words x ++ ws)) (words_append (is_break x) xs ys)
    ∙ ap (λ (ws : List RxWord). between broken ++ ws) (sym (append_assoc (own_words x) (words_after (is_break x) xs) (words_after (ends_broken (is_break x) xs) ys)))
    ∙ sym (append_assoc (between broken) (own_words x ++ words_after (is_break x) xs) (words_after (ends_broken (is_break x) xs) ys))

count_after : (broken : Bool) (x : Aligned) (xs : List Aligned) (count : ℕ) →
    count + length (between broken) + length (own_words x) + length (words_after (is_break x) xs) ≡ count + length (words_after broken (x ∷ xs))
count_after broken x xs count =
    let a = length-append (between broken) (own_words x ++ words_after (is_break x) xs) in
    let b = length-append (own_words x) (words_after (is_break x) xs) in
    omega (arith, a, b)

pub places_append : (broken : Bool) (count : ℕ) (xs ys : List Aligned) →
    places_after broken count (xs ++ ys) ≡ places_after broken count xs ++ places_after (ends_broken broken xs) (count + length (words_after broken xs)) ys
places_append broken count [] ys = let e : count ≡ count + 0 = omega arith in ap (λ (n : ℕ). places_after broken n ys) e
places_append broken count (x ∷ xs) ys =
    let here = count + length (between broken) in
    let next = here + length (own_words x) in
    ap (λ (rs : List PlaceRow). own_rows here x ++ rs)
    (places_append (is_break x) next xs ys ∙ ap (λ (n : ℕ). places_after (is_break x) next xs ++ places_after (ends_broken (is_break x) xs) n ys) (count_after broken x xs count))
    ∙ sym (append_assoc (own_rows here x) (places_after (is_break x) next xs) (places_after (ends_broken (is_break x) xs) (count + length (words_after broken (x ∷ xs))) ys))

pub broken_append : (broken : Bool) (xs ys : List Aligned) → ends_broken broken (xs ++ ys) ≡ ends_broken (ends_broken broken xs) ys
broken_append broken [] ys = refl
broken_append broken (x ∷ xs) ys = broken_append (is_break x) xs ys

pub epochs_append : (xs ys : List Aligned) → epochs_in (xs ++ ys) ≡ epochs_in xs + epochs_in ys
epochs_append [] ys = omega arith
epochs_append (x ∷ xs) ys = let e = epochs_append xs ys in omega (arith, e)

-- ---- one item more

module _ (items : List Aligned) (x : Aligned) where
  pub words_more : gathered_words (items ++ x ∷ []) ≡ (gathered_words items ++ between (ends_broken false items)) ++ own_words x
  words_more =
      words_append false items (x ∷ [])
      ∙ ap (λ (ws : List RxWord). gathered_words items ++ (between (ends_broken false items) ++ ws)) (append-nil (own_words x))
      ∙ sym (append_assoc (gathered_words items) (between (ends_broken false items)) (own_words x))

  pub places_more : places (items ++ x ∷ []) ≡ places items ++ own_rows (length (gathered_words items ++ between (ends_broken false items))) x
  places_more =
      let l = length-append (gathered_words items) (between (ends_broken false items)) in
      let e : 0 + length (gathered_words items) + length (between (ends_broken false items)) ≡ length (gathered_words items ++ between (ends_broken false items)) = omega (arith, l) in
      places_append false 0 items (x ∷ [])
      ∙ ap (λ (rs : List PlaceRow). places items ++ rs) (append-nil (own_rows (0 + length (gathered_words items) + length (between (ends_broken false items))) x))
      ∙ ap (λ (n : ℕ). places items ++ own_rows n x) e

  pub epochs_more : epochs_in (items ++ x ∷ []) ≡ epochs_in items + own_epochs x
  epochs_more = let a = epochs_append items (x ∷ []) in omega (arith, a)

  pub broken_more : ends_broken false (items ++ x ∷ []) ≡ is_break x
  broken_more = broken_append false items (x ∷ [])

-- ---- words more, one after another

run_words : (group index : ℕ) (words : List RxWord) → words_after false (words_from group index words) ≡ words
run_words group index [] = refl
run_words group index (w ∷ words) = ap (λ (ws : List RxWord). w ∷ ws) (run_words group (index + 1) words)

run_places : (broken : Bool) (count group index : ℕ) (words : List RxWord) → places_after broken count (words_from group index words) ≡ []
run_places broken count group index [] = refl
run_places broken count group index (w ∷ words) = run_places false (count + length (between broken) + 1) group (index + 1) words

run_epochs : (group index : ℕ) (words : List RxWord) → epochs_in (words_from group index words) ≡ 0
run_epochs group index [] = refl
run_epochs group index (w ∷ words) = let e = run_epochs group (index + 1) words in omega (arith, e)

run_broken : (group index : ℕ) (words : List RxWord) → ends_broken false (words_from group index words) ≡ false
run_broken group index [] = refl
run_broken group index (w ∷ words) = run_broken group (index + 1) words

run_after : (broken : Bool) (group index : ℕ) (words : List RxWord) → 1 ≤ length words →
    (words_after broken (words_from group index words) ≡ between broken ++ words) × (ends_broken broken (words_from group index words) ≡ false)
run_after broken group index [] some = absurd (omega arith)
run_after broken group index (w ∷ words) some =
    (ap (λ (ws : List RxWord). between broken ++ w ∷ ws) (run_words group (index + 1) words), run_broken group (index + 1) words)

module _ (items : List Aligned) (group index : ℕ) (words : List RxWord) (some : 1 ≤ length words) where
  pub words_run : gathered_words (items ++ words_from group index words) ≡ (gathered_words items ++ between (ends_broken false items)) ++ words
  words_run =
      words_append false items (words_from group index words)
      ∙ ap (λ (ws : List RxWord). gathered_words items ++ ws) (run_after (ends_broken false items) group index words some).0
      ∙ sym (append_assoc (gathered_words items) (between (ends_broken false items)) words)

  pub places_run : places (items ++ words_from group index words) ≡ places items
  places_run =
      places_append false 0 items (words_from group index words)
      ∙ ap (λ (rs : List PlaceRow). places items ++ rs) (run_places (ends_broken false items) (0 + length (gathered_words items)) group index words)
      ∙ append-nil (places items)

  pub epochs_run : epochs_in (items ++ words_from group index words) ≡ epochs_in items
  epochs_run = let a = epochs_append items (words_from group index words) in let b = run_epochs group index words in omega (arith, a, b)

  pub broken_run : ends_broken false (items ++ words_from group index words) ≡ false
  broken_run = broken_append false items (words_from group index words) ∙ (run_after (ends_broken false items) group index words some).1

-- ---- what comes first

pub words_first : (items rest : List Aligned) → (more : List RxWord) × (gathered_words (items ++ rest) ≡ gathered_words items ++ more)
words_first items rest = (words_after (ends_broken false items) rest, words_append false items rest)

pub places_first : (items rest : List Aligned) → (more : List PlaceRow) × (places (items ++ rest) ≡ places items ++ more)
places_first items rest = (places_after (ends_broken false items) (0 + length (gathered_words items)) rest, places_append false 0 items rest)
