-- Lanes of fewer than four groups show no word.
use Rattle.std.proofs.Common.{◌≡◌, ℕ, ◌+◌, ◌*◌, ◌/◌, ◌<◌, ◌≤◌, Bool, false, List, [], ◌∷◌, length, map, replicate, sym, ap, ◌∙◌, subst, arith, None, length-append, mul-le-mul}
use Rattle.std.proofs.lemmas.List.{length-replicate}
use Rattle.std.proofs.lemmas.List.FromFn.{length-map-range_with_len}
use Rattle.lk_base.specs.Checksum.{bits_of_bytes}
use Rattle.lk_base.specs.Link.{Settings, group_of}
use Rattle.lk_base.specs.declared.word.Aligned.{Aligned}
use Rattle.lk_base.specs.declared.word.Word.{Word}
use Rattle.lane_model.specs.Coding.{codes_of}
use Rattle.lane_model.specs.Key.{first_state, start_of}
use Rattle.lane_model.specs.LaneBits.{IsFileOf, bits_of_codes, lane_bits, stream_lane_bits}
use Rattle.lane_model.specs.LaneWords.{lane_words, sent_at}
use Rattle.lane_model.specs.Striping.{lane_payload}
use Rattle.lane_model.proofs.CodesOfWords.{length-codes_behind}
use Rattle.lane_model.proofs.FilesHold.{length-flat_map_bits}
use Rattle.lock_model.specs.Tracks.{Track}
use Rattle.lock_model.proofs.OnLane.{tracks_on_lane}
use Rattle.epoch_model.specs.GroupLaw.{HasAttempts, tracks_received}
use Rattle.epoch_model.specs.Groups.{IsGroup, IsSyncOf, SyncAt}
use Rattle.epoch_model.specs.SoFar.{AreKnown, EpochSoFar, EpochsSoFar, LaneSoFar, items_of, tracks_in}
use Rattle.lane_words.specs.Gathered.{gathered_words}

-- ---- the bits of a lane

lane_length : (s : Settings) (stream : List Word) (lane : ℕ) → length (stream_lane_bits s stream lane) ≡ 67 * (length stream / group_of s * s.metaframe)
unfolding lane_bits lane_words bits_of_codes
lane_length s stream lane =
    let words : List Word = lane_words s (start_of (first_state lane)) (lane_payload s.lanes stream lane) (length stream / group_of s) in
    length-flat_map_bits 67 (codes_of words)
    ∙ ap (λ n. 67 * n) (length-codes_behind [] words ∙ length-map-range_with_len (sent_at s (start_of (first_state lane)) (lane_payload s.lanes stream lane)) 0 (length stream / group_of s * s.metaframe))

-- fewer than three metaframes and a word
short_lane : (s : Settings) (stream : List Word) (lane : ℕ) (bytes : List ℕ) → length stream / group_of s < 4 → IsFileOf bytes (stream_lane_bits s stream lane) → length (bits_of_bytes bytes) < 67 * (3 * s.metaframe) + 67
short_lane s stream lane bytes few file =
    let made : ℕ = length stream / group_of s * s.metaframe in
    let up : made ≤ 3 * s.metaframe = mul-le-mul (omega (arith, few)) (omega arith) in
    let sent = lane_length s stream lane in
    let pad = length-replicate file.padding false in
    let both = ap length file.holds ∙ length-append (stream_lane_bits s stream lane) (replicate file.padding false) in
    let short = file.short in
    by (length (bits_of_bytes bytes)) (length (stream_lane_bits s stream lane)) (length (replicate file.padding false)) made (3 * s.metaframe) both sent (omega (arith, pad, short)) up
  where
    by : (n a b m t : ℕ) → n ≡ a + b → a ≡ 67 * m → b < 8 → m ≤ t → n < 67 * t + 67
    by n a b m t e f lt le = omega (arith, e, f, lt, le)

-- ---- a lane of so few bits has no Sync

no_sync : (s : Settings) (lane : HasAttempts s.metaframe) (x : SyncAt) → length lane.bits < 67 * (3 * s.metaframe) + 67 → IsSyncOf s.metaframe (tracks_received s lane) x → ⊥
no_sync s lane x few is =
    let on = tracks_on_lane s lane.bits lane.attempts lane.are in
    let (k, lt, at) = is.known in
    let late : 67 * (3 * s.metaframe) ≤ x.track.at = subst (λ (t : Track). 67 * (3 * s.metaframe) ≤ t.at) at (on.late k x.track lt) in
    let some : 0 < length x.track.words = subst (λ (t : Track). 0 < length t.words) at (on.some k x.track lt) in
    let inside : x.track.at + 67 * length x.track.words ≤ length lane.bits = subst (λ (t : Track). t.at + 67 * length t.words ≤ length lane.bits) at (on.inside k x.track lt) in
    omega (arith, few, late, some, inside)

no_group : (s : Settings) (D : ℕ) (lane : HasAttempts s.metaframe) (received : List (HasAttempts s.metaframe)) (group : List SyncAt) → length lane.bits < 67 * (3 * s.metaframe) + 67 → IsGroup s.metaframe D (map (tracks_received s) (lane ∷ received)) group → ⊥
no_group s D lane received [] few is = absurd is.syncs
no_group s D lane received (x ∷ group) few is = no_sync s lane x few is.syncs.0

-- ---- lanes without a group have no word

no_words : (s : Settings) (lanes : List LaneSoFar) (items : List Aligned) (epochs : List EpochSoFar) → ((group : List SyncAt) → IsGroup s.metaframe s.deskew (tracks_in lanes) group → ⊥) →
    EpochsSoFar s s.deskew lanes None epochs → items ≡ items_of s lanes epochs → gathered_words items ≡ []
no_words s lanes items [] none are shown = ap gathered_words shown
no_words s lanes items (e ∷ epochs) none are shown = absurd (none e.first are.0.is)

pub few_gather_none : (s : Settings) (w : List Word) (bytes : List ℕ) (lanes : List LaneSoFar) (lane : HasAttempts s.metaframe) (received : List (HasAttempts s.metaframe)) (items : List Aligned) →
    length w / group_of s < 4 → IsFileOf bytes (stream_lane_bits s w 0) → lane.bits ≡ bits_of_bytes bytes → tracks_in lanes ≡ map (tracks_received s) (lane ∷ received) → AreKnown s lanes items → gathered_words items ≡ []
few_gather_none s w bytes lanes lane received items few file bits tracks known =
    let short : length lane.bits < 67 * (3 * s.metaframe) + 67 = subst (λ (b : List Bool). length b < 67 * (3 * s.metaframe) + 67) (sym bits) (short_lane s w 0 bytes few file) in
    no_words s lanes items known.epochs
    (λ group is. no_group s s.deskew lane received group short (subst (λ (ts : List (List Track)). IsGroup s.metaframe s.deskew ts group) tracks is)) known.are known.shown
