-- The report of each clean lane has the sender's own lock.
use Rattle.std.proofs.Common.{◌≡◌, ℕ, zero, suc, ◌<◌, refl, sym, ap, ◌∙◌, subst, arith, Bool, List, [], ◌∷◌, length, map, get_or}
use Rattle.lk_base.specs.Checksum.{bits_of_bytes}
use Rattle.lk_base.specs.Link.{Settings}
use Rattle.lk_base.specs.declared.word.Word.{Word}
use Rattle.lane_model.specs.Damage.{IsWithinDepth}
use Rattle.lock_model.specs.Locks.{Attempt, AreAttempts}
use Rattle.lock_model.specs.Report.{report_of}
use Rattle.lock_model.specs.declared.types.LaneReport.{LaneReport}
use Rattle.lock_model.proofs.Determined.{determined}
use Rattle.epoch_model.specs.GroupLaw.{HasAttempts}
use Rattle.link_laws.specs.CleanLaw.{HaveOwnLocks as LawOnOwnLocks, IsClean, own_lock}
use Rattle.link_laws.specs.Received.{bits_of_lanes}
use Rattle.link_laws.proofs.OfBits.{bits_have_lanes}
use Rattle.lane_receipts.specs.LaneReports.{AreLaneReports, IsLaneReport}
use Rattle.run_shell.specs.Outcome.{Outcome}
use Rattle.interlaken.specs.CleanLocks.{ShowsOwnLock, ShowOwnLocks}
use Rattle.link_commands.specs.Delivery.{AllUndamaged}
use Rattle.link_commands.specs.Inputs.{LinkReading}
use Rattle.link_commands.specs.Linked.{IsLinkedBy, sent_over}
use Rattle.link_commands.proofs.Delivers.{is_clean}

-- ---- the report of one lane

own_report : (s : Settings) (bits : List Bool) (skew : ℕ) → ShowsOwnLock s skew (report_of s bits (own_lock s skew))
own_report s bits skew = record { one = refl; first = refl; kept = refl; framed = refl }

-- the bits of a lane have one list of attempts
same_attempts : (s : Settings) (bits : List Bool) (lane : HasAttempts s.metaframe) → lane.bits ≡ bits → (attempts : List Attempt) → AreAttempts s.metaframe bits attempts → attempts ≡ lane.attempts
same_attempts s bits lane e = subst (λ (b : List Bool). (attempts : List Attempt) → AreAttempts s.metaframe b attempts → attempts ≡ lane.attempts) e
    (λ attempts are. determined s.metaframe lane.bits attempts lane.attempts are lane.are)

has_own : (s : Settings) (bytes : List ℕ) (skew : ℕ) (report : LaneReport) (lane : HasAttempts s.metaframe) → lane.bits ≡ bits_of_bytes bytes → lane.attempts ≡ own_lock s skew → IsLaneReport s bytes report → ShowsOwnLock s skew report
has_own s bytes skew report lane e own is =
    let own_attempts : is.attempts ≡ own_lock s skew = same_attempts s (bits_of_bytes bytes) lane e is.attempts is.are ∙ own in
    let same : report ≡ report_of s (bits_of_bytes bytes) (own_lock s skew) = is.is ∙ ap (λ (a : List Attempt). report_of s (bits_of_bytes bytes) a) own_attempts in
    subst (λ (r : LaneReport). ShowsOwnLock s skew r) (sym same) (own_report s (bits_of_bytes bytes) skew)

-- ---- the reports of all lanes

-- the report number k is so by the skew number k
abbrev EachOwn : Settings → List ℕ → List LaneReport → Type 0
EachOwn s skews reports = (k : ℕ) (other : LaneReport) → k < length reports → ShowsOwnLock s (get_or skews k 0) (get_or reports k other)

each_of : (s : Settings) (skew : ℕ) (skews : List ℕ) (report : LaneReport) (reports : List LaneReport) → ShowsOwnLock s skew report → EachOwn s skews reports → EachOwn s (skew ∷ skews) (report ∷ reports)
each_of s skew skews report reports here rest zero other lt = here
each_of s skew skews report reports here rest (suc k) other lt = rest k other (omega arith)

own_reports : (s : Settings) (files : List (List ℕ)) (reports : List LaneReport) (lanes : List (HasAttempts s.metaframe)) (skews : List ℕ) →
    bits_of_lanes lanes ≡ map bits_of_bytes files → map (λ (x : HasAttempts s.metaframe). x.attempts) lanes ≡ map (own_lock s) skews → AreLaneReports s files reports →
    (length reports ≡ length skews) × EachOwn s skews reports
own_reports s [] [] [] [] e own are = (refl, λ k other lt. absurd (omega arith))
own_reports s [] [] [] (skew ∷ skews) e own are = absurd cc
own_reports s [] [] (lane ∷ lanes) skews e own are = absurd cc
own_reports s [] (report ∷ reports) lanes skews e own are = absurd are
own_reports s (bytes ∷ files) [] lanes skews e own are = absurd are
own_reports s (bytes ∷ files) (report ∷ reports) [] skews e own are = absurd cc
own_reports s (bytes ∷ files) (report ∷ reports) (lane ∷ lanes) [] e own are = absurd cc
own_reports s (bytes ∷ files) (report ∷ reports) (lane ∷ lanes) (skew ∷ skews) e own are =
    let first : lane.bits ≡ bits_of_bytes bytes = cc in
    let rest : bits_of_lanes lanes ≡ map bits_of_bytes files = cc in
    let its : lane.attempts ≡ own_lock s skew = cc in
    let others : map (λ (x : HasAttempts s.metaframe). x.attempts) lanes ≡ map (own_lock s) skews = cc in
    let further = own_reports s files reports lanes skews rest others are.1 in
    (ap suc further.0, each_of s skew skews report reports (has_own s bytes skew report lane first its are.0) further.1)

-- by the law on clean lanes
pub clean_locks : LawOnOwnLocks → (i : LinkReading) (stream : List Word) (o : Outcome) (h : IsLinkedBy i stream o) → AllUndamaged i.reading.plan.settings i.schedule stream → IsWithinDepth i.reading.plan.settings i.schedule.skews →
    ShowOwnLocks i.reading.plan.settings i.schedule.skews h.reports
clean_locks own_locks i stream o h whole near =
    let s : Settings = i.reading.plan.settings in
    let clean : IsClean h.over.source (sent_over i stream) (map bits_of_bytes h.over.lanes) = is_clean i stream o h whole near in
    let lanes = bits_have_lanes s.metaframe (map bits_of_bytes h.over.lanes) in
    let own = own_locks h.over.source (sent_over i stream) (map bits_of_bytes h.over.lanes) lanes.0 clean lanes.1 in
    let all = own_reports s h.over.lanes h.reports lanes.0 i.schedule.skews lanes.1 own h.are_reports in
    let count : length h.reports ≡ s.lanes = all.0 ∙ clean.lanes in
    record { one_each = count; each = λ lane other lt. all.1 lane other (omega (arith, count, lt)) }
