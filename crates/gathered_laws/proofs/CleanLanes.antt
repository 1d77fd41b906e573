-- The files of lanes that carry a stream are a clean link without skew.
use Rattle.std.proofs.Common.{◌≡◌, ℕ, suc, ◌+◌, ◌*◌, ◌/◌, ◌^◌, ◌<◌, ◌≤◌, Bool, false, List, [], ◌∷◌, length, map, get_or, replicate, All, refl, sym, ap, ap₂, ◌∙◌, subst, arith, inl, inr}
use Rattle.std.proofs.Math.ListN.{get_or-eq_default}
use Rattle.std.proofs.lemmas.Bool.{cases_lt}
use Rattle.std.proofs.lemmas.List.{length-replicate}
use Rattle.std.proofs.lemmas.List.FromFn.{get_or-map-range_with_len, length-map-range_with_len}
use Rattle.lk_base.specs.Checksum.{bits_of_bytes}
use Rattle.lk_base.specs.Link.{Settings, IsLink, group_of}
use Rattle.lk_base.specs.Words.{payload}
use Rattle.lk_base.specs.declared.word.Word.{Word}
use Rattle.lk_base.specs.declared.word.Word.TheVariants.{Data}
use Rattle.lk_base.proofs.Lists.{head_same, tail_same}
use Rattle.lane_model.specs.Framing.{payloads}
use Rattle.lane_model.specs.LaneBits.{IsFileOf, stream_lane_bits}
use Rattle.lane_model.specs.Striping.{lane_payload, share}
use Rattle.lock_model.specs.Locks.{AreAttempts}
use Rattle.lock_model.specs.LockLaw.{CleanLane, clean_bits, one_attempt}
use Rattle.lock_model.specs.Tracks.{Track, tracks_of}
use Rattle.lock_model.proofs.OneLock.{one_lock}
use Rattle.epoch_model.specs.GroupLaw.{CleanLink, HasAttempts, LanePart, SkewsWithin, group_size, parts_of, tracks_of_link, tracks_received}
use Rattle.epoch_model.specs.StreamLaw.{AreStripes, Carries}
use Rattle.event_model.specs.Given.{bits_in}

-- ---- the words of a lane

abbrev pub AreSized : List Word → Type 0
AreSized w = All (λ v. payload v < 2 ^ 64) w

sized_at : (w : List Word) → AreSized w → (j : ℕ) → payload (get_or w j (Data 0)) < 2 ^ 64
sized_at w sized j = elim (cases_lt j (length w)) [
  | inl lt ↦ sized j (Data 0) lt
  | inr le ↦ subst (λ (v : Word). payload v < 2 ^ 64) (sym (get_or-eq_default w (Data 0) le)) (omega arith)
]

pub sized_lane : (lanes : ℕ) (w : List Word) → AreSized w → (i : ℕ) → AreSized (lane_payload lanes w i)
sized_lane lanes w sized i k d lt =
    let e : get_or (lane_payload lanes w i) k d ≡ get_or w (k * lanes + i) (Data 0) =
    get_or-map-range_with_len (λ n. get_or w (n * lanes + i) (Data 0)) 0 (share lanes (length w) i) k k d
    (let l = length-map-range_with_len (λ n. get_or w (n * lanes + i) (Data 0)) 0 (share lanes (length w) i) in omega (arith, l, lt)) (omega arith) in
    subst (λ (v : Word). payload v < 2 ^ 64) (sym e) (sized_at w sized (k * lanes + i))

-- ---- the files of lanes

-- the files of the lanes from number i on, which carry this stream
abbrev pub AreFiles : Settings → List Word → ℕ → List (List ℕ) → Type 0
AreFiles s w i [] = Unit {0}
AreFiles s w i (bytes ∷ lanes) = IsFileOf bytes (stream_lane_bits s w i) × AreFiles s w (i + 1) lanes

pub files_from : (s : Settings) (w : List Word) (i : ℕ) (lanes : List (List ℕ)) →
    ((lane k : ℕ) → lane ≡ i + k → k < length lanes → IsFileOf (get_or lanes k []) (stream_lane_bits s w lane)) → AreFiles s w i lanes
files_from s w i [] h = tt
files_from s w i (bytes ∷ lanes) h = (h i 0 (omega arith) (omega arith), files_from s w (i + 1) lanes (λ lane k is lt. h lane (suc k) (omega (arith, is)) (omega (arith, lt))))

pub this_few : (i n : ℕ) → i + suc n ≤ 64 → i < 64
this_few i n h = omega (arith, h)

pub rest_few : (i n : ℕ) → i + suc n ≤ 64 → i + 1 + n ≤ 64
rest_few i n h = omega (arith, h)

module _ (s : Settings) (w : List Word) (link : IsLink s) (sized : AreSized w) (four : 4 ≤ length w / group_of s) where
  abbrev pub part : (i : ℕ) (bytes : List ℕ) → IsFileOf bytes (stream_lane_bits s w i) → i < 64 → LanePart
  part i bytes file lt = record {
    lane = i;
    sent = lane_payload s.lanes w i;
    skew = 0;
    tail = replicate file.padding false;
    numbered = lt;
    each = sized_lane s.lanes w sized i;
    short = (let e = length-replicate file.padding false in let short = file.short in omega (arith, e, short));
  }

  abbrev clean : LanePart → CleanLane
  clean p = record {
    settings = s;
    lane = p.lane;
    metaframes = length w / group_of s;
    sent = p.sent;
    skew = p.skew;
    tail = p.tail;
    long = link.metaframe.0;
    few = link.skips.1;
    numbered = p.numbered;
    four = four;
    each = p.each;
    short = p.short;
  }

  abbrev plain : LanePart → List Track
  plain p = tracks_of s (clean_bits (clean p)) (one_attempt (clean p) ∷ [])

  own_tracks : (lane : HasAttempts s.metaframe) (p : LanePart) → lane.bits ≡ clean_bits (clean p) → tracks_received s lane ≡ plain p
  own_tracks lane p e = ap₂ (tracks_of s) e (one_lock (clean p) lane.attempts (subst (λ (b : List Bool). AreAttempts s.metaframe b lane.attempts) e lane.are))

  abbrev pub parts : (i : ℕ) (lanes : List (List ℕ)) → AreFiles s w i lanes → i + length lanes ≤ 64 → List LanePart
  parts i [] files le = []
  parts i (bytes ∷ lanes) files le = part i bytes files.0 (this_few i (length lanes) le) ∷ parts (i + 1) lanes files.1 (rest_few i (length lanes) le)

  length-parts : (i : ℕ) (lanes : List (List ℕ)) (files : AreFiles s w i lanes) (le : i + length lanes ≤ 64) → length (parts i lanes files le) ≡ length lanes
  length-parts i [] files le = refl
  length-parts i (bytes ∷ lanes) files le = ap suc (length-parts (i + 1) lanes files.1 (rest_few i (length lanes) le))

  stripes : (i : ℕ) (lanes : List (List ℕ)) (files : AreFiles s w i lanes) (le : i + length lanes ≤ 64) → AreStripes s.lanes w i (parts i lanes files le)
  stripes i [] files le = tt
  stripes i (bytes ∷ lanes) files le = (refl, stripes (i + 1) lanes files.1 (rest_few i (length lanes) le))

  pub near : (count i : ℕ) (lanes : List (List ℕ)) (files : AreFiles s w i lanes) (le : i + length lanes ≤ 64) → SkewsWithin 0 count (parts i lanes files le)
  near count i [] files le = tt
  near count i (bytes ∷ lanes) files le = (omega arith, omega arith, near count (i + 1) lanes files.1 (rest_few i (length lanes) le))

  tracks_are : (i : ℕ) (lanes : List (List ℕ)) (files : AreFiles s w i lanes) (le : i + length lanes ≤ 64) (received : List (HasAttempts s.metaframe)) →
      bits_in s.metaframe received ≡ map bits_of_bytes lanes → map (tracks_received s) received ≡ map plain (parts i lanes files le)
  tracks_are i [] files le [] e = refl
  tracks_are i [] files le (x ∷ received) e = cc
  tracks_are i (bytes ∷ lanes) files le [] e = cc
  tracks_are i (bytes ∷ lanes) files le (x ∷ received) e =
      let here : x.bits ≡ bits_of_bytes bytes = head_same x.bits (bits_of_bytes bytes) (bits_in s.metaframe received) (map bits_of_bytes lanes) e in
      ap₂ (λ (t : List Track) ts. t ∷ ts) (own_tracks x (part i bytes files.0 (this_few i (length lanes) le)) (here ∙ files.0.holds))
      (tracks_are (i + 1) lanes files.1 (rest_few i (length lanes) le) received (tail_same x.bits (bits_of_bytes bytes) (bits_in s.metaframe received) (map bits_of_bytes lanes) e))

  -- ---- the link

  module _ (bytes : List ℕ) (lanes : List (List ℕ)) (files : AreFiles s w 0 (bytes ∷ lanes)) (count : length (bytes ∷ lanes) ≡ s.lanes) where
    pub few_lanes : 0 + length (bytes ∷ lanes) ≤ 64
    few_lanes = let most = link.lanes.1 in omega (arith, most, count)

    abbrev pub link_of : CleanLink
    link_of = record {
      settings = s;
      metaframes = length w / group_of s;
      depth = s.deskew;
      first = part 0 bytes files.0 (this_few 0 (length lanes) few_lanes);
      others = parts (0 + 1) lanes files.1 (rest_few 0 (length lanes) few_lanes);
      long = link.metaframe.0;
      few = link.skips.1;
      four = four;
      fits = link.deskew_below_half;
      low = 0;
      near = near (67 * s.deskew) 0 (bytes ∷ lanes) files few_lanes;
    }

    length_link : length (parts_of link_of) ≡ s.lanes
    length_link = length-parts 0 (bytes ∷ lanes) files few_lanes ∙ count

    pub size_link : group_size link_of ≡ group_of s
    size_link = ap (λ n. n * payloads s) length_link

    pub carries : length w ≡ length w / group_of s * group_of s → Carries link_of w
    carries whole = record {
      whole = whole ∙ ap (λ G. length w / group_of s * G) (sym size_link);
      stripes = subst (λ (n : ℕ). AreStripes n w 0 (parts_of link_of)) (sym length_link) (stripes 0 (bytes ∷ lanes) files few_lanes);
    }

    pub tracks_link : (received : List (HasAttempts s.metaframe)) → bits_in s.metaframe received ≡ map bits_of_bytes (bytes ∷ lanes) → map (tracks_received s) received ≡ tracks_of_link link_of
    tracks_link received e = tracks_are 0 (bytes ∷ lanes) files few_lanes received e
