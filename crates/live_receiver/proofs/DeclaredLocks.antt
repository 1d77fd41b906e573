-- The lock of a lane is declared if its report has more locks than lost ones, and only then.
use Rattle.std.proofs.Common.{ℕ, zero, suc, ◌≡◌, refl, sym, ap, ◌∙◌, ◌+◌, ◌*◌, ◌<◌, Bool, true, cond, List, [], ◌∷◌, length, Option, Some, None, arith}
use Rattle.std.specs.Prelude.{count_by, nat_lt}
use Rattle.std.proofs.lemmas.Bool.Decides.{nat_tests}
use Rattle.std.proofs.Props.{props}
use Rattle.std.proofs.Math.Logic.{∥∥₁_elim}
use Rattle.std.proofs.lemmas.List.Sums.{sum_by-cons}
use Rattle.lk_base.specs.Link.{Settings}
use Rattle.event_model.specs.Fed.{Fed}
use Rattle.lock_model.specs.Locks.{Attempt, AttemptsFrom, Loss, next_search}
use Rattle.lock_model.specs.Received.{Lock, covered_count, locks_of}
use Rattle.lock_model.specs.State.{state_of}
use Rattle.lock_model.specs.declared.types.LaneReport.{LaneReport}
use Rattle.lock_model.specs.declared.types.LaneState.{LaneState}
use Rattle.lock_model.proofs.Existing.{attempts_exist}
use Rattle.rx_front.specs.Calls.{AtLane}
use Rattle.rx_end.proofs.Pieces.{lanes_are_those}
use Rattle.lane_lock.specs.Standing.{IsReport, IsState}
use Rattle.event_model.specs.Fed.{first_bits}
use Rattle.live_receiver.specs.StateLaw.{StatesAreReported, is_declared}

-- ---- of attempts

abbrev is_lost : Lock → Bool
is_lost lock = lock.lost

-- the state and the locks agree
abbrev Agree : LaneState → List Lock → Type 0
Agree state locks = is_declared state ≡ nat_lt (count_by is_lost locks) (length locks)

one_more : (m n : ℕ) → nat_lt m n ≡ nat_lt (suc m) (suc n)
one_more m n = grind (arith, nat_tests)

-- a lost lock more makes no difference
lost_first : (state : LaneState) (at count : ℕ) (locks : List Lock) → Agree state locks → Agree state (record { at = at; count = count; lost = true } ∷ locks)
lost_first state at count locks h =
    let one : count_by is_lost (record { at = at; count = count; lost = true } ∷ locks) ≡ suc (count_by is_lost locks) =
    sum_by-cons (λ (lock : Lock). cond lock.lost 1 0) (record { at = at; count = count; lost = true }) locks ∙ omega arith in
    h ∙ one_more (count_by is_lost locks) (length locks) ∙ ap (λ (n : ℕ). nat_lt n (suc (length locks))) (sym one)

module _ (L : ℕ) (bits : List Bool) where
  agree : (first : Option ℕ) (attempts : List Attempt) → AttemptsFrom L bits first attempts → Agree (state_of attempts) (locks_of bits attempts)
  agree first [] from = refl
  agree None (a ∷ rest) from = absurd from
  agree (Some p) (a ∷ []) from = last a.declared a.lost
    where
      last : (declared : Option ℕ) (lost : Option Loss) → Agree (state_of (record { starts = a.starts; declared = declared; lost = lost } ∷ [])) (locks_of bits (record { starts = a.starts; declared = declared; lost = lost } ∷ []))
      last None None = refl
      last None (Some loss) = refl
      last (Some d) None = refl
      last (Some d) (Some loss) = refl
  agree (Some p) (a ∷ b ∷ rest) from = further a.declared a.lost from.2 (λ loss later. agree (next_search a.starts (Some loss)) (b ∷ rest) later)
    where
      further : (declared : Option ℕ) (lost : Option Loss) → AttemptsFrom L bits (next_search a.starts lost) (b ∷ rest) →
          ((loss : Loss) → AttemptsFrom L bits (next_search a.starts (Some loss)) (b ∷ rest) → Agree (state_of (b ∷ rest)) (locks_of bits (b ∷ rest))) →
          Agree (state_of (b ∷ rest)) (locks_of bits (record { starts = a.starts; declared = declared; lost = lost } ∷ b ∷ rest))
      further declared None later others = absurd later
      further None (Some loss) later others = others loss later
      further (Some d) (Some loss) later others = lost_first (state_of (b ∷ rest)) (a.starts + 67 * d) (covered_count bits a.starts d (Some loss)) (locks_of bits (b ∷ rest)) (others loss later)

-- ---- of a lane

of_lane : (s : Settings) (bits : List Bool) (report : LaneReport) (state : LaneState) → IsReport s bits report → IsState s bits state → is_declared state ≡ nat_lt report.lost report.locks
of_lane s bits report state reports states =
    let attempts = attempts_exist s.metaframe bits in
    ap is_declared (states attempts.0 attempts.1)
    ∙ agree s.metaframe bits (Some 0) attempts.0 attempts.1
    ∙ ap (λ (r : LaneReport). nat_lt r.lost r.locks) (sym (reports attempts.0 attempts.1))

at_lane : (s : Settings) (rounds lane : ℕ) (fed : List Fed) (report : LaneReport) (state : LaneState) → lane < length fed →
    AtLane lane fed (λ f. IsReport s (first_bits rounds f) report) → AtLane lane fed (λ f. IsState s (first_bits rounds f) state) → is_declared state ≡ nat_lt report.lost report.locks
at_lane s rounds lane [] report state there reports states = absurd (omega (arith, there))
at_lane s rounds zero (f ∷ fed) report state there reports states = of_lane s (first_bits rounds f) report state reports states
at_lane s rounds (suc lane) (f ∷ fed) report state there reports states = at_lane s rounds lane fed report state (omega (arith, there)) reports states

pub states_are_reported : StatesAreReported
states_are_reported s lane report state reports states = ∥∥₁_elim s.runs (search props) (λ k.
    let many = (lanes_are_those s.receiver k.settings k.setting k.fed k.given 0 k.stands).0 in
    let there = reports.0 in
    at_lane k.settings (8 * k.stands.progress.rounds) lane k.fed report state (omega (arith, many, there))
    (reports.1 k.settings k.setting k.fed k.given k.stands) (states.1 k.settings k.setting k.fed k.given k.stands))
