-- The lanes of a stream of whole groups give its words from the fourth group on.
use Rattle.std.proofs.Common.{◌≡◌, ℕ, ◌*◌, ◌/◌, ◌%◌, ◌<◌, ◌≤◌, List, [], ◌∷◌, drop, length, map, get_or, refl, sym, ap, ◌∙◌, subst, arith, inl, inr, mul-le-mul}
use Rattle.std.proofs.lemmas.Bool.{cases_lt}
use Rattle.std.proofs.lemmas.List.{drop_all}
use Rattle.std.proofs.lemmas.Nat.{div-add-mod'}
use Rattle.lk_base.specs.Checksum.{bits_of_bytes}
use Rattle.lk_base.specs.Link.{Settings, IsLink, group_of}
use Rattle.lk_base.specs.Words.{as_sent}
use Rattle.lk_base.specs.declared.word.Aligned.{Aligned}
use Rattle.lk_base.specs.declared.word.Word.{Word}
use Rattle.lk_base.proofs.Lists.{head_same}
use Rattle.lane_model.specs.LaneBits.{IsFileOf, stream_lane_bits}
use Rattle.epoch_model.specs.GroupLaw.{HasAttempts, tracks_received}
use Rattle.epoch_model.specs.SoFar.{tracks_in}
use Rattle.event_model.specs.Given.{bits_in}
use Rattle.lane_words.specs.Gathered.{gathered_words}
use Rattle.lane_words.specs.GatheredLaws.{CleanLanesGiveStream}
use Rattle.lane_words.specs.Items.{AreAllItems}
use Rattle.gathered_laws.specs.AfterSend.{later_words}
use Rattle.gathered_laws.proofs.CleanLanes.{AreFiles, AreSized, carries, files_from, link_of, size_link, tracks_link}
use Rattle.gathered_laws.proofs.FewGroups.{few_gather_none}
use Rattle.gathered_laws.proofs.WholeLanes.{AreWhole, are_whole}

whole_groups : (n g : ℕ) → n % g ≡ 0 → n ≡ n / g * g
whole_groups n g e = let split = div-add-mod' n g in omega (arith, split, e)

none_left : (n g : ℕ) → n ≡ n / g * g → n / g < 4 → n ≤ 3 * g
none_left n g e few = let up : n / g * g ≤ 3 * g = mul-le-mul (omega (arith, few)) (omega arith) in omega (arith, up, e)

module _ (law : CleanLanesGiveStream) (s : Settings) (w : List Word) (link : IsLink s) (sized : AreSized w) (whole : length w ≡ length w / group_of s * group_of s) where
  -- four groups or more
  long : (bytes : List ℕ) (lanes : List (List ℕ)) (items : List Aligned) → AreFiles s w 0 (bytes ∷ lanes) → length (bytes ∷ lanes) ≡ s.lanes → AreWhole s (bytes ∷ lanes) items → 4 ≤ length w / group_of s
      → gathered_words items ≡ map as_sent (later_words s w)
  long bytes lanes items files many are four =
      law (link_of s w link sized four bytes lanes files many) w are.so_far items refl
      (are.tracks ∙ tracks_link s w link sized four bytes lanes files many are.received are.bits) are.over
      (carries s w link sized four bytes lanes files many whole) are.known
      ∙ ap (λ n. map as_sent (drop (3 * n) w)) (size_link s w link sized four bytes lanes files many)

  -- fewer
  none_by : (bytes : List ℕ) (lanes : List (List ℕ)) (items : List Aligned) (are : AreWhole s (bytes ∷ lanes) items) (received : List (HasAttempts s.metaframe)) → bits_in s.metaframe received ≡ map bits_of_bytes (bytes ∷ lanes)
      → tracks_in are.so_far ≡ map (tracks_received s) received → IsFileOf bytes (stream_lane_bits s w 0) → length w / group_of s < 4 → gathered_words items ≡ []
  none_by bytes lanes items are [] bits tracks file few = absurd cc
  none_by bytes lanes items are (x ∷ received) bits tracks file few =
      few_gather_none s w bytes are.so_far x received items few file (head_same x.bits (bits_of_bytes bytes) (bits_in s.metaframe received) (map bits_of_bytes lanes) bits) tracks are.known

  short : (bytes : List ℕ) (lanes : List (List ℕ)) (items : List Aligned) → AreFiles s w 0 (bytes ∷ lanes) → AreWhole s (bytes ∷ lanes) items → length w / group_of s < 4 → gathered_words items ≡ map as_sent (later_words s w)
  short bytes lanes items files are few =
      none_by bytes lanes items are are.received are.bits are.tracks files.0 few
      ∙ ap (λ (ws : List Word). map as_sent ws) (sym (drop_all (3 * group_of s) w (none_left (length w) (group_of s) whole few)))

  all_gathered : (lanes : List (List ℕ)) (items : List Aligned) → AreFiles s w 0 lanes → length lanes ≡ s.lanes → AreWhole s lanes items → gathered_words items ≡ map as_sent (later_words s w)
  all_gathered [] items files many are = absurd (let least = link.lanes.0 in omega (arith, least, many))
  all_gathered (bytes ∷ lanes) items files many are = elim (cases_lt (length w / group_of s) 4) [
    | inl few ↦ short bytes lanes items files are few
    | inr four ↦ long bytes lanes items files many are four
  ]

pub stream_gathered : CleanLanesGiveStream → (s : Settings) (w : List Word) (lanes : List (List ℕ)) (items : List Aligned) → IsLink s → AreSized w → length w % group_of s ≡ 0 → length lanes ≡ s.lanes
    → ((lane : ℕ) → lane < s.lanes → IsFileOf (get_or lanes lane []) (stream_lane_bits s w lane)) → AreAllItems s lanes items → gathered_words items ≡ map as_sent (later_words s w)
stream_gathered law s w lanes items link sized whole many each are =
    all_gathered law s w link sized (whole_groups (length w) (group_of s) whole) lanes items
    (files_from s w 0 lanes (λ lane k is lt. subst (λ n. IsFileOf (get_or lanes k []) (stream_lane_bits s w n)) (omega (arith, is)) (each k (omega (arith, lt, many)))))
    many (are_whole s lanes items are)
