-- The rows of places of all items of lanes are those of their epochs.
use Rattle.std.proofs.Common.{◌≡◌, ℕ, zero, suc, ◌+◌, ◌*◌, true, false, List, [], ◌∷◌, ◌++◌, length, length-append, map, flat_map, refl, sym, ap, ◌∙◌, append_assoc, arith}
use Rattle.std.specs.List.{range_with_len}
use Rattle.std.proofs.lemmas.List.FromFn.{length-map-range_with_len}
use Rattle.lk_base.specs.declared.word.Aligned.{Aligned}
use Rattle.lk_base.specs.Link.{Settings}
use Rattle.receive_model.specs.Positions.{Placed}
use Rattle.epoch_model.specs.Groups.{SyncAt, first_words, metaframes_on, placed_word, size_of}
use Rattle.epoch_model.specs.KnownLaw.{epoch_of}
use Rattle.epoch_model.specs.SoFar.{EpochSoFar, break_of, items_of_epoch, items_of_group, last_group, tracks_in, word_item}
use Rattle.epoch_model.proofs.AtEnd.{known_at_end}
use Rattle.epoch_model.proofs.EpochsDetermined.{epochs_determined}
use Rattle.epoch_model.proofs.KnownDetermined.{own_names}
use Rattle.lane_words.specs.declared.places.PlaceRow.{PlaceRow}
use Rattle.lane_words.specs.Gathered.{own_rows, own_words, is_break, places, places_after}
use Rattle.lane_words.specs.PlaceRows.{RowsAreOfEpochs, group_row, rows_of_epoch, rows_of_epochs}

-- ---- one epoch

after_words : (number : ℕ) (xs : List Placed) (rest : List Aligned) → places_after false number (map word_item xs ++ rest) ≡ places_after false (number + length xs) rest
after_words number [] rest = let e : number ≡ number + 0 = omega arith in ap (λ (n : ℕ). places_after false n rest) e
after_words number (x ∷ xs) rest =
    let e : number + 0 + 1 + length xs ≡ number + suc (length xs) = omega arith in
    after_words (number + 0 + 1) xs rest ∙ ap (λ (n : ℕ). places_after false n rest) e

size_of_first : (s : Settings) (group : List SyncAt) (n : ℕ) → length (first_words s group n) ≡ n
size_of_first s group n = length-map-range_with_len (placed_word s group) 0 n

group_rows : (s : Settings) (group : List SyncAt) (n number : ℕ) (rest : List Aligned) → places_after false number (items_of_group s group n ++ rest) ≡ group_row number group ∷ places_after false (number + n) rest
group_rows s group n number rest =
    let e : number + 0 ≡ number = omega arith in
    let many = size_of_first s group n in
    let f : number + 0 + 0 + length (first_words s group n) ≡ number + n = omega (arith, many) in
    ap (λ (k : ℕ). group_row k group ∷ places_after false (number + 0 + 0) (map word_item (first_words s group n) ++ rest)) e
    ∙ ap (λ (rs : List PlaceRow). group_row number group ∷ rs)
    (after_words (number + 0 + 0) (first_words s group n) rest ∙ ap (λ (k : ℕ). places_after false k rest) f)

module _ (s : Settings) (first : List SyncAt) (size number : ℕ) where
  abbrev row : ℕ → PlaceRow
  row m = group_row (number + m * size) (metaframes_on s m first)

  abbrev group : ℕ → List Aligned
  group m = items_of_group s (metaframes_on s m first) size

  all_rows : (n j : ℕ) (rest : List Aligned) →
      places_after false (number + j * size) (flat_map group (range_with_len j n) ++ rest) ≡ map row (range_with_len j n) ++ places_after false (number + (j + n) * size) rest
  all_rows zero j rest = let e : number + j * size ≡ number + (j + 0) * size = omega arith in ap (λ (k : ℕ). places_after false k rest) e
  all_rows (suc n) j rest =
      let more = flat_map group (range_with_len (j + 1) n) in
      ap (λ (xs : List Aligned). places_after false (number + j * size) xs) (append_assoc (group j) more rest)
      ∙ group_rows s (metaframes_on s j first) size (number + j * size) (more ++ rest)
      ∙ ap (λ (k : ℕ). row j ∷ places_after false k (more ++ rest)) (next j)
      ∙ ap (λ (rs : List PlaceRow). row j ∷ rs) (all_rows n (j + 1) rest ∙ ap (λ (k : ℕ). map row (range_with_len (j + 1) n) ++ places_after false k rest) (last j n))
    where
      next : (j : ℕ) → number + j * size + size ≡ number + (j + 1) * size
      next j = omega arith

      last : (j n : ℕ) → number + (j + 1 + n) * size ≡ number + (j + suc n) * size
      last j n = omega arith

module _ (s : Settings) (e : EpochSoFar) where
  abbrev size : ℕ
  size = size_of s e.first

  words_before : (n : ℕ) → length (flat_map (λ m. first_words s (metaframes_on s m e.first) size) (range_with_len 0 n)) ≡ n * size
  words_before n = from n 0
    where
      from : (n j : ℕ) → length (flat_map (λ m. first_words s (metaframes_on s m e.first) size) (range_with_len j n)) ≡ n * size
      from zero j = omega arith
      from (suc n) j =
          let here = first_words s (metaframes_on s j e.first) size in
          let more = flat_map (λ m. first_words s (metaframes_on s m e.first) size) (range_with_len (j + 1) n) in
          let a = length-append here more in
          let b = size_of_first s (metaframes_on s j e.first) size in
          let c = from n (j + 1) in
          omega (arith, a, b, c)

  its_words : length (epoch_of s e).words ≡ e.whole * size + e.count
  its_words =
      let a = length-append (flat_map (λ m. first_words s (metaframes_on s m e.first) size) (range_with_len 0 e.whole)) (first_words s (last_group s e) e.count) in
      let b = words_before e.whole in
      let c = size_of_first s (last_group s e) e.count in
      omega (arith, a, b, c)

  break_row : (number : ℕ) (rest : List Aligned) → places_after false number (break_of s e ∷ rest) ≡ own_rows number (break_of s e) ++ places_after true number rest
  break_row number rest =
      let f : number + 0 ≡ number = omega arith in
      let g : number + 0 + 0 ≡ number = omega arith in
      ap (λ (k : ℕ). own_rows k (break_of s e) ++ places_after true (number + 0 + 0) rest) f ∙ ap (λ (k : ℕ). own_rows number (break_of s e) ++ places_after true k rest) g

  epoch_rows : (number : ℕ) (rest : List Aligned) → places_after false number ((items_of_epoch s e ++ break_of s e ∷ []) ++ rest) ≡ rows_of_epoch s number e ++ places_after true (number + length (epoch_of s e).words) rest
  epoch_rows number rest =
      let before = flat_map (group s e.first size number) (range_with_len 0 e.whole) in
      let last = items_of_group s (last_group s e) e.count in
      let rows = map (row s e.first size number) (range_with_len 0 e.whole) in
      let final = group_row (number + e.whole * size) (last_group s e) in
      let start : number ≡ number + 0 * size = omega arith in
      let whole : number + (0 + e.whole) * size ≡ number + e.whole * size = ap (λ (k : ℕ). number + k * size) (omega arith) in
      let many = its_words in
      let ends : number + e.whole * size + e.count ≡ number + length (epoch_of s e).words = omega (arith, many) in
      ap (λ (xs : List Aligned). places_after false number xs) (append_assoc (before ++ last) (break_of s e ∷ []) rest ∙ append_assoc before last (break_of s e ∷ rest))
      ∙ ap (λ (k : ℕ). places_after false k (before ++ (last ++ break_of s e ∷ rest))) start
      ∙ all_rows s e.first size number e.whole 0 (last ++ break_of s e ∷ rest)
      ∙ ap (λ (k : ℕ). rows ++ places_after false k (last ++ break_of s e ∷ rest)) whole
      ∙ ap (λ (rs : List PlaceRow). rows ++ rs)
      (group_rows s (last_group s e) e.count (number + e.whole * size) (break_of s e ∷ rest)
      ∙ ap (λ (k : ℕ). final ∷ places_after false k (break_of s e ∷ rest)) ends
      ∙ ap (λ (rs : List PlaceRow). final ∷ rs) (break_row (number + length (epoch_of s e).words) rest))
      ∙ sym (append_assoc rows (final ∷ own_rows (number + length (epoch_of s e).words) (break_of s e)) (places_after true (number + length (epoch_of s e).words) rest))

-- ---- all epochs

-- what follows a break has one word more before it
after_break : (number : ℕ) (items : List Aligned) → places_after true number items ≡ places_after false (number + 1) items
after_break number [] = refl
after_break number (x ∷ items) =
    let e : number + 1 ≡ number + 1 + 0 = omega arith in
    ap (λ (k : ℕ). own_rows k x ++ places_after (is_break x) (k + length (own_words x)) items) e

abbrev ended : Settings → List EpochSoFar → List Aligned
ended s epochs = flat_map (λ e. items_of_epoch s e ++ break_of s e ∷ []) epochs

ended_rows : (s : Settings) (number : ℕ) (epochs : List EpochSoFar) → places_after false number (ended s epochs) ≡ rows_of_epochs s number epochs
ended_rows s number [] = refl
ended_rows s number (e ∷ epochs) =
    let next = number + length (epoch_of s e).words in
    epoch_rows s e number (ended s epochs)
    ∙ ap (λ (rs : List PlaceRow). rows_of_epoch s number e ++ rs) (after_break next (ended s epochs) ∙ ended_rows s (next + 1) epochs)

pub rows_are_of_epochs : RowsAreOfEpochs
rows_are_of_epochs s lanes items epochs fits are over h k =
    let (so_far, is, ends) = known_at_end s lanes items over h in
    record {
      so_far = so_far;
      epochs_are = epochs_determined s s.deskew (tracks_in lanes) (own_names s lanes fits are) (map (epoch_of s) so_far) epochs ends k;
      rows = ap (λ (xs : List Aligned). places xs) is ∙ ended_rows s 0 so_far;
    }
