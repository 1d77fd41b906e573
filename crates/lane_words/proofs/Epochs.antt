-- The words of all items of lanes are those of their epochs.
use Rattle.std.proofs.Common.{◌≡◌, ℕ, zero, suc, true, false, List, [], ◌∷◌, ◌++◌, length, map, flat_map, refl, sym, ap, ◌∙◌, append_assoc, append-nil, arith}
use Rattle.std.specs.List.{range_with_len}
use Rattle.std.proofs.lemmas.List.{length-map, map-append}
use Rattle.lk_base.specs.declared.word.Aligned.{Aligned}
use Rattle.lk_base.specs.declared.word.RxWord.{RxWord}
use Rattle.lk_base.specs.declared.word.RxWord.TheVariants.{Bad}
use Rattle.lk_base.specs.Link.{Settings}
use Rattle.receive_model.specs.Positions.{Epoch, Placed}
use Rattle.epoch_model.specs.Groups.{SyncAt, first_words, metaframes_on, size_of}
use Rattle.epoch_model.specs.KnownLaw.{epoch_of}
use Rattle.epoch_model.specs.SoFar.{EpochSoFar, break_of, items_of_epoch, items_of_group, last_group, tracks_in, word_item}
use Rattle.epoch_model.proofs.AtEnd.{known_at_end}
use Rattle.epoch_model.proofs.EpochsDetermined.{epochs_determined}
use Rattle.epoch_model.proofs.KnownDetermined.{own_names}
use Rattle.lane_words.specs.Gathered.{epochs_in, gathered_words, words_after, words_of_epochs}
use Rattle.lane_words.specs.GatheredLaws.{AreOfEpochs, WordsAreOfEpochs}
use Rattle.lane_words.proofs.Growths.{epochs_append}

abbrev pub word_in : Placed → RxWord
word_in x = x.word

-- ---- one epoch

placed_words : (xs : List Placed) (rest : List Aligned) → words_after false (map word_item xs ++ rest) ≡ map word_in xs ++ words_after false rest
placed_words [] rest = refl
placed_words (x ∷ xs) rest = ap (λ (ws : List RxWord). x.word ∷ ws) (placed_words xs rest)

group_words : (s : Settings) (group : List SyncAt) (n : ℕ) (rest : List Aligned) → words_after false (items_of_group s group n ++ rest) ≡ map word_in (first_words s group n) ++ words_after false rest
group_words s group n rest = placed_words (first_words s group n) rest

module _ (s : Settings) (first : List SyncAt) (size : ℕ) where
  groups_words : (ms : List ℕ) (rest : List Aligned) → words_after false (flat_map (λ m. items_of_group s (metaframes_on s m first) size) ms ++ rest)
      ≡ map word_in (flat_map (λ m. first_words s (metaframes_on s m first) size) ms) ++ words_after false rest
  groups_words [] rest = refl
  groups_words (m ∷ ms) rest =
      let here = items_of_group s (metaframes_on s m first) size in
      let more = flat_map (λ m. items_of_group s (metaframes_on s m first) size) ms in
      let words = first_words s (metaframes_on s m first) size in
      let others = flat_map (λ m. first_words s (metaframes_on s m first) size) ms in
      ap (λ (xs : List Aligned). words_after false xs) (append_assoc here more rest)
      ∙ group_words s (metaframes_on s m first) size (more ++ rest)
      ∙ ap (λ (ws : List RxWord). map word_in words ++ ws) (groups_words ms rest)
      ∙ sym (append_assoc (map word_in words) (map word_in others) (words_after false rest))
      ∙ ap (λ (ws : List RxWord). ws ++ words_after false rest) (sym (map-append word_in words others))

  groups_begin : (n : ℕ) (last rest : List Aligned) (x : Aligned) → (y : Aligned) × (ys : List Aligned) × ((flat_map (λ m. items_of_group s (metaframes_on s m first) size) (range_with_len 0 n) ++ x ∷ last) ++ rest ≡ y ∷ ys)
  groups_begin zero last rest x = (x, last ++ rest, refl)
  groups_begin (suc n) last rest x = (_, _, refl)

epoch_words : (s : Settings) (e : EpochSoFar) (rest : List Aligned) → words_after false (items_of_epoch s e ++ rest) ≡ map word_in (epoch_of s e).words ++ words_after false rest
epoch_words s e rest =
    let before = flat_map (λ m. items_of_group s (metaframes_on s m e.first) (size_of s e.first)) (range_with_len 0 e.whole) in
    let words = flat_map (λ m. first_words s (metaframes_on s m e.first) (size_of s e.first)) (range_with_len 0 e.whole) in
    let last = first_words s (last_group s e) e.count in
    ap (λ (xs : List Aligned). words_after false xs) (append_assoc before (items_of_group s (last_group s e) e.count) rest)
    ∙ groups_words s e.first (size_of s e.first) (range_with_len 0 e.whole) (items_of_group s (last_group s e) e.count ++ rest)
    ∙ ap (λ (ws : List RxWord). map word_in words ++ ws) (group_words s (last_group s e) e.count rest)
    ∙ sym (append_assoc (map word_in words) (map word_in last) (words_after false rest))
    ∙ ap (λ (ws : List RxWord). ws ++ words_after false rest) (sym (map-append word_in words last))

-- items that are there follow a break
follow : (items : List Aligned) (y : Aligned) (ys : List Aligned) → items ≡ y ∷ ys → words_after true items ≡ Bad ∷ words_after false items
follow items y ys e = rw e refl

-- ---- all epochs

abbrev ended : Settings → List EpochSoFar → List Aligned
ended s epochs = flat_map (λ e. items_of_epoch s e ++ break_of s e ∷ []) epochs

ended_words : (s : Settings) (epochs : List EpochSoFar) → gathered_words (ended s epochs) ≡ words_of_epochs (map (epoch_of s) epochs)
ended_words s [] = refl
ended_words s (e ∷ []) =
    ap (λ (xs : List Aligned). gathered_words xs) (append-nil (items_of_epoch s e ++ break_of s e ∷ []))
    ∙ epoch_words s e (break_of s e ∷ []) ∙ append-nil (map word_in (epoch_of s e).words)
ended_words s (e ∷ f ∷ epochs) =
    let rest = ended s (f ∷ epochs) in
    let (y, ys, begins) = groups_begin s f.first (size_of s f.first) f.whole (map word_item (first_words s (last_group s f) f.count)) (break_of s f ∷ ended s epochs) _ in
    let is : rest ≡ y ∷ ys = append_assoc (items_of_epoch s f) (break_of s f ∷ []) (ended s epochs) ∙ begins in
    ap (λ (xs : List Aligned). gathered_words xs) (append_assoc (items_of_epoch s e) (break_of s e ∷ []) rest)
    ∙ epoch_words s e (break_of s e ∷ rest)
    ∙ ap (λ (ws : List RxWord). map word_in (epoch_of s e).words ++ ws) (follow rest y ys is ∙ ap (λ (ws : List RxWord). Bad ∷ ws) (ended_words s (f ∷ epochs)))

placed_epochs : (xs : List Placed) → epochs_in (map word_item xs) ≡ 0
placed_epochs [] = refl
placed_epochs (x ∷ xs) = let e = placed_epochs xs in omega (arith, e)

groups_epochs : (s : Settings) (first : List SyncAt) (size : ℕ) (ms : List ℕ) → epochs_in (flat_map (λ m. items_of_group s (metaframes_on s m first) size) ms) ≡ 0
groups_epochs s first size [] = refl
groups_epochs s first size (m ∷ ms) =
    let a = epochs_append (items_of_group s (metaframes_on s m first) size) (flat_map (λ m. items_of_group s (metaframes_on s m first) size) ms) in
    let b = placed_epochs (first_words s (metaframes_on s m first) size) in
    let c = groups_epochs s first size ms in
    omega (arith, a, b, c)

ended_count : (s : Settings) (epochs : List EpochSoFar) → epochs_in (ended s epochs) ≡ length epochs
ended_count s [] = refl
ended_count s (e ∷ epochs) =
    let before = flat_map (λ m. items_of_group s (metaframes_on s m e.first) (size_of s e.first)) (range_with_len 0 e.whole) in
    let a = epochs_append (items_of_epoch s e ++ break_of s e ∷ []) (ended s epochs) in
    let b = epochs_append (items_of_epoch s e) (break_of s e ∷ []) in
    let c = epochs_append before (items_of_group s (last_group s e) e.count) in
    let d = groups_epochs s e.first (size_of s e.first) (range_with_len 0 e.whole) in
    let f = placed_epochs (first_words s (last_group s e) e.count) in
    let g = ended_count s epochs in
    omega (arith, a, b, c, d, f, g)

-- the items of lanes that are over
pub ended_are : (s : Settings) (items : List Aligned) (so_far : List EpochSoFar) (epochs : List Epoch) → items ≡ ended s so_far → map (epoch_of s) so_far ≡ epochs → AreOfEpochs items epochs
ended_are s items so_far epochs is same = record {
  words = ap (λ (xs : List Aligned). gathered_words xs) is ∙ ended_words s so_far ∙ ap words_of_epochs same;
  count = ap (λ (xs : List Aligned). epochs_in xs) is ∙ ended_count s so_far ∙ sym (length-map so_far (epoch_of s)) ∙ ap (λ (es : List Epoch). length es) same;
}

pub words_are_of_epochs : WordsAreOfEpochs
words_are_of_epochs s lanes items epochs fits are over h k =
    let (so_far, is, ends) = known_at_end s lanes items over h in
    ended_are s items so_far epochs is (epochs_determined s s.deskew (tracks_in lanes) (own_names s lanes fits are) (map (epoch_of s) so_far) epochs ends k)
