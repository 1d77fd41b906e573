-- The events and the reports of lanes, one lane after another.
use Rattle.std.proofs.Common.{◌≡◌, ℕ, zero, suc, ◌+◌, ◌<◌, List, [], ◌∷◌, ◌++◌, length, get_or, take, refl, sym, ap, ap₂, ◌∙◌, append_assoc, arith}
use Rattle.lk_base.specs.Checksum.{bits_of_bytes}
use Rattle.lk_base.specs.Link.{Settings}
use Rattle.lock_model.specs.declared.types.LaneReport.{LaneReport}
use Rattle.lock_model.proofs.Existing.{attempts_exist}
use Rattle.lane_lock.specs.Standing.{IsReport}
use Rattle.lane_receipts.specs.LaneReports.{AreLaneReports, IsLaneReport}
use Rattle.lane_events.specs.declared.types.LaneEvent.{LaneEvent}
use Rattle.lane_events.specs.Events.{AreLaneEvents}
use Rattle.lane_events.proofs.EventsHold.{events_determined, events_exist}
use Rattle.csv_rows.specs.Written.{rows_text}
use Rattle.inspect_commands.specs.Table.{event_rows, events_table, heading, lane_rows}
use Rattle.inspect_commands.specs.Inspect.{AreEventsOfLanes}
use Rattle.inspect_commands.proofs.Tables.{rows_more}

-- ---- all lanes

pub same_lanes : (s : Settings) (lanes : List (List ℕ)) (one other : List (List LaneEvent)) → AreEventsOfLanes s lanes one → AreEventsOfLanes s lanes other → one ≡ other
same_lanes s [] [] [] h k = refl
same_lanes s [] [] (q ∷ other) h k = absurd k
same_lanes s [] (p ∷ one) other h k = absurd h
same_lanes s (bytes ∷ lanes) [] other h k = absurd h
same_lanes s (bytes ∷ lanes) (p ∷ one) [] h k = absurd k
same_lanes s (bytes ∷ lanes) (p ∷ one) (q ∷ other) h k =
    ap₂ (λ (x : List LaneEvent) (xs : List (List LaneEvent)). x ∷ xs) (events_determined s (bits_of_bytes bytes) p q h.0 k.0) (same_lanes s lanes one other h.1 k.1)

pub some_lanes : (s : Settings) (lanes : List (List ℕ)) → (events : List (List LaneEvent)) × AreEventsOfLanes s lanes events
some_lanes s [] = ([], tt)
some_lanes s (bytes ∷ lanes) =
    let (events, are) = events_exist s (bits_of_bytes bytes) in
    let (rest, others) = some_lanes s lanes in
    (events ∷ rest, (are, others))

-- ---- one more lane

pub events_next : (s : Settings) (k : ℕ) (lanes : List (List ℕ)) (told : List (List LaneEvent)) (events : List LaneEvent) → k < length lanes → AreEventsOfLanes s (take k lanes) told → AreLaneEvents s (bits_of_bytes (get_or lanes k [])) events
    → AreEventsOfLanes s (take (suc k) lanes) (told ++ events ∷ [])
events_next s k [] told events lt h e = absurd (omega arith)
events_next s zero (bytes ∷ lanes) [] events lt h e = (e, tt)
events_next s zero (bytes ∷ lanes) (first ∷ told) events lt h e = absurd h
events_next s (suc k) (bytes ∷ lanes) [] events lt h e = absurd h
events_next s (suc k) (bytes ∷ lanes) (first ∷ told) events lt h e = (h.0, events_next s k lanes told events (omega arith) h.1 e)

pub lane_report : (s : Settings) (bytes : List ℕ) (report : LaneReport) → IsReport s (bits_of_bytes bytes) report → IsLaneReport s bytes report
lane_report s bytes report h =
    let (attempts, are) = attempts_exist s.metaframe (bits_of_bytes bytes) in
    record { attempts = attempts; are = are; is = h attempts are }

pub reports_next : (s : Settings) (k : ℕ) (lanes : List (List ℕ)) (reports : List LaneReport) (report : LaneReport) → k < length lanes → AreLaneReports s (take k lanes) reports → IsLaneReport s (get_or lanes k []) report
    → AreLaneReports s (take (suc k) lanes) (reports ++ report ∷ [])
reports_next s k [] reports report lt h e = absurd (omega arith)
reports_next s zero (bytes ∷ lanes) [] report lt h e = (e, tt)
reports_next s zero (bytes ∷ lanes) (first ∷ reports) report lt h e = absurd h
reports_next s (suc k) (bytes ∷ lanes) [] report lt h e = absurd h
reports_next s (suc k) (bytes ∷ lanes) (first ∷ reports) report lt h e = (h.0, reports_next s k lanes reports report (omega arith) h.1 e)

-- ---- the table begins with the rows of the first lanes

-- the rows of lane number k stand after those of the lanes before it
rows_at : (s : Settings) (n k : ℕ) (lanes : List (List ℕ)) (whole told : List (List LaneEvent)) → k < length lanes → AreEventsOfLanes s lanes whole → AreEventsOfLanes s (take k lanes) told
    → (mine : List LaneEvent) × AreLaneEvents s (bits_of_bytes (get_or lanes k [])) mine × (rest : List ℕ) × (lane_rows n whole ≡ lane_rows n told ++ (event_rows (n + k) mine ++ rest))
rows_at s n k [] whole told lt h g = absurd (omega arith)
rows_at s n zero (bytes ∷ lanes) [] told lt h g = absurd h
rows_at s n zero (bytes ∷ lanes) (mine ∷ whole) [] lt h g =
    let e : n ≡ n + 0 = omega arith in
    (mine, h.0, lane_rows (suc n) whole, ap (λ m. event_rows m mine ++ lane_rows (suc n) whole) e)
rows_at s n zero (bytes ∷ lanes) (mine ∷ whole) (first ∷ told) lt h g = absurd g
rows_at s n (suc k) (bytes ∷ lanes) [] told lt h g = absurd h
rows_at s n (suc k) (bytes ∷ lanes) (p ∷ whole) [] lt h g = absurd g
rows_at s n (suc k) (bytes ∷ lanes) (p ∷ whole) (q ∷ told) lt h g =
    let same = events_determined s (bits_of_bytes bytes) p q h.0 g.0 in
    let (mine, are, rest, is) = rows_at s (suc n) k lanes whole told (omega arith) h.1 g.1 in
    let e : suc n + k ≡ n + suc k = omega arith in (
      mine,
      are,
      rest,
      ap₂ (λ (a : List LaneEvent) (b : List ℕ). event_rows n a ++ b) same (is ∙ ap (λ m. lane_rows (suc n) told ++ (event_rows m mine ++ rest)) e)
          ∙ sym (append_assoc (event_rows n q) (lane_rows (suc n) told) (event_rows (n + suc k) mine ++ rest)),
    )

-- the whole table begins with that of the lanes before number k, and then with the rows of its first events
pub table_begins : (s : Settings) (k : ℕ) (lanes : List (List ℕ)) (whole told : List (List LaneEvent)) (events : List LaneEvent) → k < length lanes → AreEventsOfLanes s lanes whole → AreEventsOfLanes s (take k lanes) told
    → ((all : List LaneEvent) → AreLaneEvents s (bits_of_bytes (get_or lanes k [])) all → (rest : List LaneEvent) × (all ≡ events ++ rest))
    → (rest : List ℕ) × (events_table whole ≡ (events_table told ++ event_rows k events) ++ rest)
table_begins s k lanes whole told events lt h g first =
    let (mine, are, rest, is) = rows_at s 0 k lanes whole told lt h g in
    let (others, all) = first mine are in
    let e : 0 + k ≡ k = omega arith in
    let rows : event_rows (0 + k) mine ≡ event_rows k events ++ event_rows k others = ap₂ event_rows e all ∙ rows_more k events others in
    let head : List ℕ = rows_text (heading ∷ []) in
    let before : List ℕ = lane_rows 0 told in
    let mid : List ℕ = event_rows k events in
    let last : List ℕ = event_rows k others in (
      last ++ rest,
      ap (λ (b : List ℕ). head ++ b) (is ∙ ap (λ (b : List ℕ). before ++ (b ++ rest)) rows ∙ ap (λ (b : List ℕ). before ++ b) (append_assoc mid last rest))
          ∙ sym (append_assoc head before (mid ++ (last ++ rest))) ∙ sym (append_assoc (head ++ before) mid (last ++ rest)),
    )
