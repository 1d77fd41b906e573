-- What was striped is gathered again.
use Rattle.std.proofs.Common.{ℕ, ◌≡◌, ap, ◌∙◌, ◌+◌, ◌*◌, ◌/◌, ◌%◌, ◌<◌, ◌≤◌, ◌⊎◌, List, [], length, map, get_or, arith, inl, inr}
use Rattle.std.specs.List.{range_with_len}
use Rattle.std.proofs.lemmas.Bool.{cases_lt}
use Rattle.std.proofs.lemmas.List.{same_lists, get_or_default}
use Rattle.std.proofs.lemmas.List.FromFn.{length-map-range_with_len, get_or-map-range_with_len}
use Rattle.std.proofs.lemmas.Nat.{mod_below, div-add-mod'}
use Rattle.lk_base.specs.declared.word.Word.{Word}
use Rattle.lk_base.specs.declared.word.Word.TheVariants.{Data}
use Rattle.lane_model.specs.Striping.{lane_payload, share}
use Rattle.lane_striper.specs.Gathered.{list_of, IsGathered, GatheredIsStriped}
use Rattle.lane_model.proofs.StripingHolds.{share-above, share-below}

module _ (lanes : ℕ) (words : List Word) (some : 1 ≤ lanes) where
  stripes : List (List Word)
  stripes = map (lane_payload lanes words) (range_with_len 0 lanes)

  count : length (map (lane_payload lanes words) (range_with_len 0 lanes)) ≡ lanes
  count = length-map-range_with_len (lane_payload lanes words) 0 lanes

  lane_below : (n : ℕ) → n % lanes < lanes
  lane_below n = mod_below n lanes (omega arith)

  -- the list of word number n is that of its lane
  list_is : (n : ℕ) → list_of (map (lane_payload lanes words) (range_with_len 0 lanes)) n ≡ lane_payload lanes words (n % lanes)
  list_is n =
      ap (λ k. get_or (map (lane_payload lanes words) (range_with_len 0 lanes)) (n % k) []) count
      ∙ get_or-map-range_with_len (lane_payload lanes words) 0 lanes (n % lanes) (n % lanes) [] (lane_below n) (omega arith)

  length_is : (n : ℕ) → length (lane_payload lanes words (n % lanes)) ≡ share lanes (length words) (n % lanes)
  length_is n = length-map-range_with_len (λ k. get_or words (k * lanes + n % lanes) (Data 0)) 0 (share lanes (length words) (n % lanes))

  whole : (n : ℕ) → n / lanes * lanes + n % lanes ≡ n
  whole n = div-add-mod' n lanes

  -- it has the word exactly where there is one
  has : (n : ℕ) → n < length words → n / lanes < length (lane_payload lanes words (n % lanes))
  has n h = rw (length_is n) (share-below lanes (length words) (n % lanes) (n / lanes) (lane_below n) (rw (whole n) h))

  is_word : (n : ℕ) → n / lanes < length (lane_payload lanes words (n % lanes)) → n < length words
  is_word n h = rw (whole n) at (share-above lanes (length words) (n % lanes) (n / lanes) (lane_below n) (rw (length_is n) at h))

  value : (n : ℕ) (d : Word) → n < length words → get_or (lane_payload lanes words (n % lanes)) (n / lanes) d ≡ get_or words n d
  value n d h =
      get_or-map-range_with_len (λ k. get_or words (k * lanes + n % lanes) (Data 0)) 0 (share lanes (length words) (n % lanes)) (n / lanes) (n / lanes) d
      (share-below lanes (length words) (n % lanes) (n / lanes) (lane_below n) (rw (whole n) h)) (omega arith)
      ∙ ap (λ k. get_or words k (Data 0)) (whole n)
      ∙ get_or_default words n (Data 0) d h

  place_is : (n : ℕ) → n / length (map (lane_payload lanes words) (range_with_len 0 lanes)) ≡ n / lanes
  place_is n = ap (λ k. n / k) count

  back_is : (back : List Word) → IsGathered (map (lane_payload lanes words) (range_with_len 0 lanes)) back → back ≡ words
  back_is back g = same_lists back words (same_length (cases_lt (length back) (length words)) (cases_lt (length words) (length back)))
      (λ n d h. g.begun.each n d h ∙ ap (λ l. get_or l (n / length (map (lane_payload lanes words) (range_with_len 0 lanes))) d) (list_is n)
      ∙ ap (λ k. get_or (lane_payload lanes words (n % lanes)) k d) (place_is n) ∙ value n d (in_words n h))
    where
      in_words : (n : ℕ) → n < length back → n < length words
      in_words n h = is_word n (rw (list_is n, place_is n) at (g.begun.there n h))

      same_length : (length back < length words) ⊎ (length words ≤ length back) → (length words < length back) ⊎ (length back ≤ length words) → length back ≡ length words
      same_length (inl l) b =
          let h : length (lane_payload lanes words (length back % lanes)) ≤ length back / lanes = rw (list_is (length back), place_is (length back)) at g.lacks in
          let k = has (length back) l in
          absurd (omega (arith, h, k))
      same_length (inr l) (inl m) = let k = in_words (length words) m in absurd (omega (arith, k))
      same_length (inr l) (inr m) = omega (arith, l, m)

pub gathered_is_striped : GatheredIsStriped
gathered_is_striped lanes words back some g = back_is lanes words some back g
