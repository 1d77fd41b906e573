-- The bytes that are taken of lanes.
use Rattle.std.proofs.Common.{ℕ, ◌≡◌, refl, sym, ap, ◌∙◌, subst, ◌+◌, ◌*◌, ◌/◌, ◌%◌, ◌<◌, ◌≤◌, Bool, true, false, List, [], ◌++◌, length, get_or, take, arith, ◌⊎◌, inl, inr, append-nil, length-append}
use Rattle.std.proofs.lemmas.List.{take_all}
use Rattle.std.proofs.lemmas.Nat.{div-add-mod', mod-mul-add}
use Rattle.lk_base.specs.declared.word.Word.{Word}
use Rattle.lk_base.specs.Link.{Settings, group_of}
use Rattle.lane_model.specs.Framing.{payloads}
use Rattle.lane_model.specs.LaneBits.{IsFileOf, lane_bits, stream_lane_bits}
use Rattle.lane_model.specs.Striping.{lane_payload}
use Rattle.lane_model.proofs.FilesHold.{only}
use Rattle.metaframe.specs.Writing.{payload_place}
use Rattle.tx_end.specs.Lanes.{IsCarried}
use Rattle.tx_end.proofs.Finishing.{file_closed, group_positive}
use Rattle.tx_end.proofs.FirstBytes.{first_given, lane_first}
use Rattle.tx_end.proofs.Groups.{payload_append, regroup_words}
use Rattle.tx_end.proofs.LanePlaces.{place_at}
use Rattle.tx_end.proofs.Waits.{file_waits, waits}
use Rattle.live_lanes.specs.States.{Lane, Lanes}
use Rattle.live_lanes.specs.Laws.{AllTakenAreTheFile, AreInStep, AreWholeBytes, TakenAreFirst}
use Rattle.live_lanes.specs.Standing.{IsSent, Progress, Stands}
use Rattle.live_lanes.proofs.Places.{lane_of, open_lane, waiting_is}

-- ---- lanes that have ended

pub ended_lane : (v : Lanes) (p : Progress) (i : ℕ) (d : Lane) → Stands v p → v.ended ≡ true → i < p.settings.lanes →
    IsCarried p.settings i (lane_payload p.settings.lanes p.payload i) p.columns (p.taken i ++ (get_or v.lanes i d).waiting)
ended_lane v p i d k ended h = subst (λ e. IsSent e p i (get_or v.lanes i d)) ended (k.each i d h)

-- they made whole metaframes
whole_columns : (v : Lanes) (p : Progress) → Stands v p → v.ended ≡ true → p.columns ≡ p.columns / p.settings.metaframe * p.settings.metaframe
whole_columns v p k ended =
    let none : p.columns % p.settings.metaframe ≡ 0 = sym k.place ∙ k.whole ended in
    let split = div-add-mod' p.columns p.settings.metaframe in
    omega (arith, none, split)

-- of whole groups
whole_payload : (v : Lanes) (p : Progress) → Stands v p → v.ended ≡ true → length p.payload ≡ p.columns / p.settings.metaframe * group_of p.settings
whole_payload v p k ended =
    let s = p.settings in
    let m = p.columns / s.metaframe in
    k.rows ∙ ap (λ n. payload_place s n * s.lanes) (whole_columns v p k ended) ∙ ap (λ n. n * s.lanes) (place_at s m k.limits) ∙ sym (regroup_words m s.lanes (payloads s))

file_is : (v : Lanes) (p : Progress) (i : ℕ) (d : Lane) → Stands v p → v.ended ≡ true → i < p.settings.lanes → IsFileOf (p.taken i ++ (get_or v.lanes i d).waiting) (stream_lane_bits p.settings p.payload i)
file_is v p i d k ended h =
    let s = p.settings in
    file_closed s p.payload i (p.columns / s.metaframe) (p.taken i ++ (get_or v.lanes i d).waiting) k.limits (whole_payload v p k ended)
    (subst (λ n. IsCarried s i (lane_payload s.lanes p.payload i) n (p.taken i ++ (get_or v.lanes i d).waiting)) (whole_columns v p k ended) (ended_lane v p i d k ended h))

no_rest : (n g : ℕ) → 0 < g → n * g % g ≡ 0
no_rest n g h = (let e : n * g ≡ n * g + 0 = omega arith in ap (λ x. x % g) e ∙ mod-mul-add n g 0 h)

pub all_taken : AllTakenAreTheFile
all_taken v p i k ended h none =
    let s = p.settings in
    let d = lane_of v p k in
    let e : p.taken i ++ (get_or v.lanes i d).waiting ≡ p.taken i =
    ap (λ (b : List ℕ). p.taken i ++ b) (sym (waiting_is v i d (omega (arith, h, k.count))) ∙ none) ∙ append-nil (p.taken i) in (
      ap (λ n. n % group_of s) (whole_payload v p k ended) ∙ no_rest (p.columns / s.metaframe) (group_of s) (group_positive s k.limits),
      subst (λ (b : List ℕ). IsFileOf b (stream_lane_bits s p.payload i)) e (file_is v p i d k ended h),
    )

-- ---- the first bytes of a file

first_of_own : (bytes file : List ℕ) → bytes ≡ file → take (length bytes) file ≡ bytes
first_of_own bytes file e = ap (take (length bytes)) (sym e) ∙ take_all (length bytes) bytes (omega arith)

module _ (v : Lanes) (p : Progress) (rest : List Word) (i : ℕ) (file : List ℕ) (k : Stands v p) (h : i < p.settings.lanes) where
  abbrev s : Settings
  s = p.settings

  abbrev lane : Lane
  lane = get_or v.lanes i (lane_of v p k)

  open_first : v.ended ≡ false → p.columns ≤ length (p.payload ++ rest) / group_of s * s.metaframe → IsFileOf file (stream_lane_bits s (p.payload ++ rest) i) → take (length (p.taken i ++ lane.waiting)) file ≡ p.taken i ++ lane.waiting
  open_first going within f =
      let more = payload_append s.lanes (payload_place s p.columns) i p.payload rest h k.rows in
      let m = length (p.payload ++ rest) / group_of s in
      lane_first lane.writer s i p.columns m (lane_payload s.lanes p.payload i) (lane_payload s.lanes rest i) (p.taken i ++ lane.waiting) file
      (open_lane v p i (lane_of v p k) k going h).0 within (subst (λ (g : List Word). IsFileOf file (lane_bits s i g m)) more f)

  ended_first : v.ended ≡ true → rest ≡ [] → IsFileOf file (stream_lane_bits s (p.payload ++ rest) i) → take (length (p.taken i ++ lane.waiting)) file ≡ p.taken i ++ lane.waiting
  ended_first ended none f =
      let all : p.payload ++ rest ≡ p.payload = ap (λ (w : List Word). p.payload ++ w) none ∙ append-nil p.payload in
      let own : IsFileOf file (stream_lane_bits s p.payload i) = subst (λ (w : List Word). IsFileOf file (stream_lane_bits s w i)) all f in
      first_of_own (p.taken i ++ lane.waiting) file (only (stream_lane_bits s p.payload i) (p.taken i ++ lane.waiting) file (file_is v p i (lane_of v p k) k ended h) own)

by_end : (ended : Bool) → (ended ≡ true) ⊎ (ended ≡ false)
by_end true = inl refl
by_end false = inr refl

pub taken_are_first : TakenAreFirst
taken_are_first v p rest i file k h none within f =
    let lane : Lane = get_or v.lanes i (lane_of v p k) in
    first_given (p.taken i) lane.waiting file (elim (by_end v.ended) [
      | inl ended ↦ ended_first v p rest i file k h ended (none ended) f
      | inr going ↦ open_first v p rest i file k h going within f
    ])

-- ---- lanes in step

-- as many bits, in whole bytes and fewer than 8 more, or in bytes of which fewer than 8 bits are padding
same_whole : (a b x y m : ℕ) → 8 * a + x ≡ m → 8 * b + y ≡ m → x < 8 → y < 8 → a ≡ b
same_whole a b x y m e f low high = omega (arith, e, f, low, high)

same_padded : (a b x y m : ℕ) → 8 * a ≡ m + x → 8 * b ≡ m + y → x < 8 → y < 8 → a ≡ b
same_padded a b x y m e f low high = omega (arith, e, f, low, high)

pub are_in_step : AreInStep
are_in_step v p i j k h g =
    let s = p.settings in
    let d = lane_of v p k in
    let one : List ℕ = p.taken i ++ (get_or v.lanes i d).waiting in
    let other : List ℕ = p.taken j ++ (get_or v.lanes j d).waiting in
    let same : length one ≡ length other = elim (by_end v.ended) [
      | inl ended ↦
          let a = ended_lane v p i d k ended h in
          let b = ended_lane v p j d k ended g in
          same_padded (length one) (length other) a.padding b.padding (67 * p.columns) (file_waits s i p.columns (lane_payload s.lanes p.payload i) one a) (file_waits s j p.columns (lane_payload s.lanes p.payload j) other b) a.short b.short
      | inr going ↦
          let a = open_lane v p i d k going h in
          let b = open_lane v p j d k going g in
          same_whole (length one) (length other) (length (get_or v.lanes i d).writer.bits) (length (get_or v.lanes j d).writer.bits) (67 * p.columns)
          (waits (get_or v.lanes i d).writer s i p.columns (lane_payload s.lanes p.payload i) one a.0) (waits (get_or v.lanes j d).writer s j p.columns (lane_payload s.lanes p.payload j) other b.0) a.1 b.1
    ] in
    ap (λ (b : List ℕ). length (p.taken i ++ b)) (waiting_is v i d (omega (arith, h, k.count))) ∙ same ∙ ap (λ (b : List ℕ). length (p.taken j ++ b)) (sym (waiting_is v j d (omega (arith, g, k.count))))

-- ---- how many bytes

whole_of : (a b bits m : ℕ) → 8 * (a + b) + bits ≡ m → bits < 8 → a + b ≡ m / 8
whole_of a b bits m e low = omega (arith, e, low)

pub are_whole_bytes : AreWholeBytes
are_whole_bytes v p i k going h =
    let s = p.settings in
    let lane : Lane = get_or v.lanes i (lane_of v p k) in
    let (carries, few) = open_lane v p i (lane_of v p k) k going h in
    let long : length (p.taken i ++ lane.waiting) ≡ length (p.taken i) + length lane.waiting = length-append (p.taken i) lane.waiting in
    let bits = waits lane.writer s i p.columns (lane_payload s.lanes p.payload i) (p.taken i ++ lane.waiting) carries in
    ap (λ (b : List ℕ). length (p.taken i) + length b) (waiting_is v i (lane_of v p k) (omega (arith, h, k.count)))
    ∙ whole_of (length (p.taken i)) (length lane.waiting) (length lane.writer.bits) (67 * p.columns) (ap (λ n. 8 * n + length lane.writer.bits) (sym long) ∙ bits) few
