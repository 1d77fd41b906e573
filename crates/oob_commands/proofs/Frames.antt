-- The samples of frames, one after another.
use Rattle.std.proofs.Common.{◌≡◌, ℕ, zero, suc, ◌+◌, ◌-◌, ◌<◌, ◌≤◌, List, [], ◌∷◌, ◌++◌, length, All, refl, sym, ap, ◌∙◌, subst, append-nil, arith, set, get_or, inl, inr}
use Rattle.std.proofs.lemmas.Bool.{cases_lt}
use Rattle.std.proofs.lemmas.List.{length-append, length-map}
use Rattle.std.proofs.Math.Nat.{mul-suc}
use Rattle.std.specs.List.{flat_map, range_with_len}
use Rattle.std.proofs.lemmas.List.Concat.{flat_map-append}
use Rattle.lk_base.proofs.Lists.{split_range}
use Rattle.stream_model.specs.declared.rows.LocalRow.{LocalRow}
use Rattle.oob_flow.specs.Frames.{frame_length}
use Rattle.oob_flow.specs.Written.{written_frame, frame_begin, states_at, BeginsAfterRows, AreWritten}
use Rattle.oob_flow.proofs.Writings.{frame_long}
use Rattle.oob_flow.proofs.Blocks.{long_frame, frame_samples_length}
use Rattle.oob_commands.specs.Frames.{frames_before}

pub frame_more : (entries : List ℕ) (local : List LocalRow) (k : ℕ) → frames_before entries local (k + 1) ≡ frames_before entries local k ++ written_frame entries local k
unfolding frames_before
frame_more entries local k =
    let z : 0 + k ≡ k = omega arith in
    ap (flat_map (written_frame entries local)) (split_range 0 k 1) ∙ flat_map-append (written_frame entries local) (range_with_len 0 k) (range_with_len (0 + k) 1)
    ∙ ap (λ (m : ℕ). flat_map (written_frame entries local) (range_with_len 0 k) ++ (written_frame entries local m ++ [])) z
    ∙ ap (λ (xs : List ℕ). flat_map (written_frame entries local) (range_with_len 0 k) ++ xs) (append-nil (written_frame entries local k))

pub no_frames : (entries : List ℕ) (local : List LocalRow) → frames_before entries local 0 ≡ []
unfolding frames_before
no_frames entries local = refl

pub frame_put : (entries : List ℕ) (local : List LocalRow) (k : ℕ) (bytes : List ℕ) → bytes ≡ written_frame entries local k
    → set (frames_before entries local k ∷ []) 0 (get_or (frames_before entries local k ∷ []) 0 [] ++ bytes) ≡ frames_before entries local (k + 1) ∷ []
frame_put entries local k bytes is = ap (λ b. (frames_before entries local k ++ b) ∷ []) is ∙ ap (λ c. c ∷ []) (sym (frame_more entries local k))

written_length : (entries : List ℕ) (local : List LocalRow) (k : ℕ) → 1 ≤ length entries → length (written_frame entries local k) ≡ frame_length (length entries)
unfolding written_frame
written_length entries local k h =
    let same : length (states_at entries local (frame_begin entries k)) ≡ length entries = length-map entries _ in
    frame_samples_length (states_at entries local (frame_begin entries k)) (omega (arith, same, h)) ∙ ap frame_length same

begin_next : (entries : List ℕ) (k : ℕ) → frame_begin entries (suc k) ≡ frame_begin entries k + frame_length (length entries)
begin_next entries k = mul-suc (frame_length (length entries)) k

pub frames_length : (entries : List ℕ) (local : List LocalRow) (k : ℕ) → 1 ≤ length entries → length (frames_before entries local k) ≡ frame_begin entries k
frames_length entries local zero h = ap length (no_frames entries local) ∙ omega arith
frames_length entries local (suc k) h =
    let e : k + 1 ≡ suc k = omega arith in
    ap (λ n. length (frames_before entries local n)) (sym e) ∙ ap length (frame_more entries local k) ∙ length-append (frames_before entries local k) (written_frame entries local k)
    ∙ (let a = frames_length entries local k h in let b = written_length entries local k h in let n = begin_next entries k in omega (arith, a, b, n))

frame_short : (n : ℕ) → 1 ≤ n → n ≤ 1024 → frame_length n ≤ 2176
frame_short n h k = let e = long_frame n h in omega (arith, e)

abbrev pub Early : List ℕ → List LocalRow → ℕ → Type 0
Early entries local k = (m : ℕ) → m < k → BeginsAfterRows entries local m → ⊥

pub no_more : (entries : List ℕ) (local : List LocalRow) (k : ℕ) → Early entries local k → (BeginsAfterRows entries local k → ⊥) → Early entries local (k + 1)
no_more entries local k early on m l behind = elim (cases_lt m k) [
  | inl below ↦ early m below behind
  | inr none ↦ (let e : m ≡ k = omega arith in on (subst (BeginsAfterRows entries local) e behind))
]

-- a frame after one that begins before some row begins at most a frame later
pub begins_next : (entries : List ℕ) (local : List LocalRow) (k : ℕ) → 1 ≤ length entries → length entries ≤ 1024 → All (λ (row : LocalRow). row.slot ≤ 16777215) local → Early entries local (k + 1) → frame_begin entries (k + 1) ≤ 16779391
begins_next entries local k low high slots early =
    let e : k + 1 ≡ suc k = omega arith in
    let n : frame_begin entries (k + 1) ≡ frame_begin entries k + frame_length (length entries) = ap (frame_begin entries) e ∙ begin_next entries k in
    let s = frame_short (length entries) low high in
    elim (cases_lt (frame_begin entries k) 16777215) [
      | inl below ↦ omega (arith, n, s)
      | inr reached ↦ absurd (early k (omega arith) (λ i d l. (let b = slots i d l in omega (arith, b))))
    ]

-- where all frames before frame k begin before some row, what is written has them
pub frames_begin : (entries : List ℕ) (local : List LocalRow) (k : ℕ) (j : ℕ) → Early entries local k → j ≤ k + 1 → (bytes : List ℕ) → AreWritten entries local bytes → (rest : List ℕ) × (bytes ≡ frames_before entries local j ++ rest)
unfolding frames_before
frames_begin entries local k j early near bytes w = elim (cases_lt w.last k) [
  | inl below ↦ absurd (early w.last below w.is_last.0)
  | inr reached ↦ (
      let d : ℕ = w.last + 1 - j in
      let e : w.last + 1 ≡ j + d = omega arith in
      let frame : ℕ → List ℕ = written_frame entries local in
      (flat_map frame (range_with_len (0 + j) d), w.frames ∙ ap (λ n. flat_map frame (range_with_len 0 n)) e ∙ ap (flat_map frame) (split_range 0 j d) ∙ flat_map-append frame (range_with_len 0 j) (range_with_len (0 + j) d)))
]

-- with frame k, which is the first that begins after all rows, all is written
pub all_frames : (entries : List ℕ) (local : List LocalRow) (k : ℕ) → Early entries local k → BeginsAfterRows entries local k → AreWritten entries local (frames_before entries local (k + 1))
unfolding frames_before
all_frames entries local k early behind = record { last = k; is_last = (behind, early); frames = refl }

pub frame_further : (entries : List ℕ) (k : ℕ) → 1 ≤ length entries → frame_begin entries k < frame_begin entries (k + 1)
frame_further entries k low =
    let e : k + 1 ≡ suc k = omega arith in
    let n : frame_begin entries (k + 1) ≡ frame_begin entries k + frame_length (length entries) = ap (frame_begin entries) e ∙ begin_next entries k in
    let s = frame_long (length entries) low in
    omega (arith, n, s)
