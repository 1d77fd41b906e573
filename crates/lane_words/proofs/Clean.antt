-- The words of clean lanes are those of the stream.
use Rattle.std.proofs.Common.{◌≡◌, ℕ, zero, suc, ◌+◌, ◌-◌, ◌*◌, ◌<◌, ◌≤◌, List, [], ◌∷◌, ◌++◌, length, map, flat_map, take, drop, get_or, refl, sym, ap, ◌∙◌, subst, arith}
use Rattle.std.specs.List.{range_with_len}
use Rattle.std.proofs.lemmas.List.{length-drop, map-append, take_all}
use Rattle.lk_base.specs.declared.position.Pos.{Pos}
use Rattle.lk_base.specs.declared.word.RxWord.{RxWord}
use Rattle.lk_base.specs.declared.word.Word.{Word}
use Rattle.lk_base.specs.declared.word.Word.TheVariants.{Data}
use Rattle.lk_base.specs.Words.{as_sent}
use Rattle.receive_model.specs.Positions.{Placed}
use Rattle.lock_model.specs.Tracks.{Track}
use Rattle.epoch_model.specs.Groups.{AreEpochs}
use Rattle.epoch_model.specs.GroupLaw.{clean_epoch, group_size, sent_place, tracks_of_link}
use Rattle.epoch_model.specs.KnownLaw.{epoch_of}
use Rattle.epoch_model.proofs.AtEnd.{known_at_end}
use Rattle.epoch_model.proofs.OneEpochOnly.{only_one_epoch}
use Rattle.epoch_model.proofs.Streams.{epoch_is_stream}
use Rattle.lane_words.specs.GatheredLaws.{CleanLanesGiveStream}
use Rattle.lane_words.proofs.Epochs.{ended_are, word_in}

drop_next : (p : ℕ) (xs : List Word) (d : Word) → p < length xs → drop p xs ≡ get_or xs p d ∷ drop (suc p) xs
drop_next p [] d lt = absurd (omega arith)
drop_next zero (x ∷ xs) d lt = refl
drop_next (suc p) (x ∷ xs) d lt = drop_next p xs d (omega arith)

take_more_of : (a b p : ℕ) (xs : List Word) → take a (drop p xs) ++ take b (drop (p + a) xs) ≡ take (a + b) (drop p xs)
take_more_of zero b p xs = let e : p + 0 ≡ p = omega arith in let f : b ≡ 0 + b = omega arith in ap (λ (n : ℕ). take b (drop n xs)) e ∙ ap (λ (n : ℕ). take n (drop p xs)) f
take_more_of (suc a) b p [] = rw (nothing p, nothing (p + suc a)) (empty (suc a) b)
  where
    nothing : (n : ℕ) → ◌≡◌ {A = List Word} (drop n []) []
    nothing zero = refl
    nothing (suc n) = refl

    none : (m : ℕ) → ◌≡◌ {A = List Word} (take m []) []
    none zero = refl
    none (suc m) = refl

    empty : (m k : ℕ) → ◌≡◌ {A = List Word} (take m [] ++ take k []) (take (m + k) [])
    empty m k = rw (none m, none k, none (m + k)) refl
take_more_of (suc a) b zero (x ∷ xs) =
    let e : 0 + suc a ≡ suc (0 + a) = omega arith in
    let f : suc a + b ≡ suc (a + b) = omega arith in
    ap (λ (n : ℕ). (x ∷ take a xs) ++ take b (drop n (x ∷ xs))) e ∙ ap (λ (r : List Word). x ∷ r) (take_more_of a b 0 xs) ∙ ap (λ (n : ℕ). take n (x ∷ xs)) (sym f)
take_more_of (suc a) b (suc p) (x ∷ xs) =
    let e : suc p + suc a ≡ suc (p + suc a) = omega arith in
    ap (λ (n : ℕ). take (suc a) (drop p xs) ++ take b (drop n (x ∷ xs))) e ∙ take_more_of (suc a) b p xs

module _ (stream : List Word) (place : ℕ → Pos) where
  abbrev one : ℕ → ℕ → Placed
  one base w = record { at = place w; word = as_sent (get_or stream (base + w) (Data 0)) }

  row_words : (n base j : ℕ) → base + j + n ≤ length stream → map word_in (map (one base) (range_with_len j n)) ≡ map as_sent (take n (drop (base + j) stream))
  row_words zero base j le = refl
  row_words (suc n) base j le =
      let next : base + (j + 1) ≡ suc (base + j) = omega arith in
      ap (λ (ws : List RxWord). as_sent (get_or stream (base + j) (Data 0)) ∷ ws) (row_words n base (j + 1) (omega arith) ∙ ap (λ (p : ℕ). map as_sent (take n (drop p stream))) next)
      ∙ sym (ap (λ (ws : List Word). map as_sent (take (suc n) ws)) (drop_next (base + j) stream (Data 0) (omega arith)))

module _ (stream : List Word) (place : ℕ → ℕ → Pos) (size : ℕ) where
  abbrev group : ℕ → List Placed
  group m = map (one stream (place (3 + m)) ((3 + m) * size)) (range_with_len 0 size)

  groups_words : (n j : ℕ) → (3 + j + n) * size ≤ length stream → map word_in (flat_map group (range_with_len j n)) ≡ map as_sent (take (n * size) (drop ((3 + j) * size) stream))
  groups_words zero j le = let e : 0 ≡ 0 * size = omega arith in ap (λ (k : ℕ). map as_sent (take k (drop ((3 + j) * size) stream))) e
  groups_words (suc n) j le =
      let at : (3 + j) * size + 0 ≡ (3 + j) * size = omega arith in
      let next : (3 + (j + 1)) * size ≡ (3 + j) * size + size = omega arith in
      let all : size + n * size ≡ suc n * size = omega arith in
      let inside : (3 + j) * size + 0 + size ≤ length stream = within (3 + j) n size (length stream) le in
      let rest : (3 + (j + 1) + n) * size ≤ length stream = shifted j n size (length stream) le in
      map-append word_in (group j) (flat_map group (range_with_len (j + 1) n))
      ∙ ap (λ (ws : List RxWord). ws ++ map word_in (flat_map group (range_with_len (j + 1) n))) (row_words stream (place (3 + j)) size ((3 + j) * size) 0 inside)
      ∙ ap (λ (p : ℕ). map as_sent (take size (drop p stream)) ++ map word_in (flat_map group (range_with_len (j + 1) n))) at
      ∙ ap (λ (ws : List RxWord). map as_sent (take size (drop ((3 + j) * size) stream)) ++ ws) (groups_words n (j + 1) rest)
      ∙ ap (λ (p : ℕ). map as_sent (take size (drop ((3 + j) * size) stream)) ++ map as_sent (take (n * size) (drop p stream))) next
      ∙ sym (map-append as_sent (take size (drop ((3 + j) * size) stream)) (take (n * size) (drop ((3 + j) * size + size) stream)))
      ∙ ap (λ (ws : List Word). map as_sent ws) (take_more_of size (n * size) ((3 + j) * size) stream)
      ∙ ap (λ (k : ℕ). map as_sent (take k (drop ((3 + j) * size) stream))) all
    where
      within : (a n size len : ℕ) → (a + suc n) * size ≤ len → a * size + 0 + size ≤ len
      within a n size len le = omega arith

      shifted : (j n size len : ℕ) → (3 + j + suc n) * size ≤ len → (3 + (j + 1) + n) * size ≤ len
      shifted j n size len le = omega arith

pub clean_lanes_give_stream : CleanLanesGiveStream
clean_lanes_give_stream k stream lanes items depth tracks over carries h =
    let s = k.settings in
    let (so_far, is, ends) = known_at_end s lanes items over h in
    let here = subst (λ (ts : List (List Track)). AreEpochs s s.deskew ts (map (epoch_of s) so_far)) tracks ends in
    let deep = subst (λ (d : ℕ). AreEpochs s d (tracks_of_link k) (map (epoch_of s) so_far)) (sym depth) here in
    let are = ended_are s items so_far (clean_epoch k ∷ []) is (only_one_epoch k (map (epoch_of s) so_far) deep) in
    let four = k.four in
    let whole = carries.whole in
    let len = length-drop (3 * group_size k) stream in
    let split : k.metaframes ≡ 3 + (k.metaframes - 3) = omega (arith, four) in
    let total : length stream ≡ (3 + (k.metaframes - 3)) * group_size k = whole ∙ ap (λ (n : ℕ). n * group_size k) split in
    are.words
    ∙ ap (λ (xs : List Placed). map word_in xs) (epoch_is_stream k stream carries)
    ∙ groups_words stream (sent_place k) (group_size k) (k.metaframes - 3) 0 (last (k.metaframes - 3) (group_size k) (length stream) total)
    ∙ ap (λ (ws : List Word). map as_sent ws) (take_all ((k.metaframes - 3) * group_size k) (drop (3 * group_size k) stream) (left (k.metaframes - 3) (group_size k) (length stream) (length (drop (3 * group_size k) stream)) total len))
  where
    last : (n size len : ℕ) → len ≡ (3 + n) * size → (3 + 0 + n) * size ≤ len
    last n size len e = omega arith

    left : (n size len k : ℕ) → len ≡ (3 + n) * size → k ≡ len - 3 * size → k ≤ n * size
    left n size len k e f = omega arith
