-- The locks that steps declare.
use Rattle.std.proofs.Common.{ℕ, zero, suc, ◌≡◌, refl, sym, ap, ◌∙◌, ◌-◌, ◌<◌, ◌≤◌, true, false, List, [], ◌∷◌, ◌++◌, length, map, get_or, Option, Some, None, append-nil, arith, All}
use Rattle.std.specs.List.{cons_option, list_all}
use Rattle.std.proofs.lemmas.Bool.{and_parts, le-ltb, lt-ltb}
use Rattle.std.proofs.lemmas.List.{map-append, get_or-map}
use Rattle.std.proofs.lemmas.List.Elements.{All-head, All-tail}
use Rattle.lk_base.specs.declared.word.Aligned.{Aligned}
use Rattle.lk_base.specs.Link.{Settings}
use Rattle.lock_model.specs.declared.types.LaneStep.{LaneStep}
use Rattle.lock_model.specs.declared.types.LaneStep.TheVariants as steps
use Rattle.event_model.specs.Fed.{Fed}
use Rattle.deskew.specs.Ahead.{keeps_lock}
use Rattle.deskew.specs.Ticks.{steps_in}
use Rattle.rx_front.specs.States.{Lane, State}
use Rattle.rx_front.specs.Lanes.{AreWide, step_at}
use Rattle.rx_front.specs.Locks.{declared_in, lock_of, locks_in}
use Rattle.rx_front.specs.Standing.{Moves, MovesQuietly, Progress, Stands, locks_at}

option_append : (o : Option ℕ) (xs ys : List ℕ) → cons_option o (xs ++ ys) ≡ cons_option o xs ++ ys
option_append None xs ys = refl
option_append (Some x) xs ys = refl

pub locks_append : (xs ys : List LaneStep) → locks_in (xs ++ ys) ≡ locks_in xs ++ locks_in ys
locks_append [] ys = refl
locks_append (x ∷ xs) ys = ap (cons_option (lock_of x)) (locks_append xs ys) ∙ option_append (lock_of x) (locks_in xs) (locks_in ys)

-- ---- steps that declare no lock

none_declared : (x : LaneStep) → keeps_lock x ≡ true → lock_of x ≡ None
none_declared steps.Nothing e = refl
none_declared (steps.Word w role at) e = refl
none_declared (steps.Locked at) e = absurd (let f : false ≡ true = e in cc)
none_declared (steps.Lost why at) e = refl
none_declared steps.Ended e = refl

kept_at : (i : ℕ) (tick : List LaneStep) → list_all keeps_lock tick ≡ true → keeps_lock (get_or tick i steps.Ended) ≡ true
kept_at i [] e = refl
kept_at zero (x ∷ tick) e = (and_parts (keeps_lock x) (list_all keeps_lock tick) e).0
kept_at (suc i) (x ∷ tick) e = kept_at i tick (and_parts (keeps_lock x) (list_all keeps_lock tick) e).1

none_locked : (i : ℕ) (ticks : List (List LaneStep)) → list_all (list_all keeps_lock) ticks ≡ true → locks_in (steps_in i ticks) ≡ []
none_locked i [] e = refl
none_locked i (tick ∷ ticks) e =
    let parts = and_parts (list_all keeps_lock tick) (list_all (list_all keeps_lock) ticks) e in
    ap (λ (o : Option ℕ). cons_option o (locks_in (steps_in i ticks))) (none_declared (get_or tick i steps.Ended) (kept_at i tick parts.0)) ∙ none_locked i ticks parts.1

pub no_more_locks : (i : ℕ) (ticks more : List (List LaneStep)) → list_all (list_all keeps_lock) more ≡ true → locks_in (steps_in i (ticks ++ more)) ≡ locks_in (steps_in i ticks) ++ []
no_more_locks i ticks more e =
    ap locks_in (map-append (λ (x : List LaneStep). get_or x i steps.Ended) ticks more) ∙ locks_append (steps_in i ticks) (steps_in i more) ∙ ap (λ (ls : List ℕ). locks_in (steps_in i ticks) ++ ls) (none_locked i more e)

-- where no lane shows anything
pub quiet_lock : (i k : ℕ) (lanes : List Lane) → All (λ v. step_at k v ≡ steps.Nothing) lanes → lock_of (get_or (map (step_at k) lanes) i steps.Ended) ≡ None
quiet_lock i k [] quiet = refl
quiet_lock zero k (v ∷ lanes) quiet = ap lock_of (All-head (λ w. step_at k w ≡ steps.Nothing) v lanes quiet)
quiet_lock (suc i) k (v ∷ lanes) quiet = quiet_lock i k lanes (All-tail (λ w. step_at k w ≡ steps.Nothing) v lanes quiet)

-- ---- the lock at the bit that was passed last

pub step_there : (k i : ℕ) (lanes : List Lane) (d : Lane) (e : LaneStep) → i < length lanes → step_at k (get_or lanes i d) ≡ get_or (map (step_at k) lanes) i e
step_there k i lanes d e lt = sym (get_or-map (step_at k) lanes i d e lt)

pub lock_there : (i left width : ℕ) (lanes : List Lane) → left < width → AreWide width lanes → declared_in i left lanes ≡ lock_of (get_or (map (step_at (width - left - 1)) lanes) i steps.Ended)
lock_there i left width [] lt wide = refl
lock_there zero left width (v ∷ lanes) lt wide = (let w : length v.steps ≡ width = wide 0 v (omega arith) in rw (w, lt-ltb left width lt) refl)
lock_there (suc i) left width (v ∷ lanes) lt wide = lock_there i left width lanes lt (All-tail (λ x. length x.steps ≡ width) v lanes wide)

-- past those that are kept
pub lock_past : (i left width : ℕ) (lanes : List Lane) → width ≤ left → AreWide width lanes → declared_in i left lanes ≡ None
lock_past i left width [] le wide = refl
lock_past zero left width (v ∷ lanes) le wide = (let w : length v.steps ≡ width = wide 0 v (omega arith) in rw (w, le-ltb left width le) refl)
lock_past (suc i) left width (v ∷ lanes) le wide = lock_past i left width lanes le (All-tail (λ x. length x.steps ≡ width) v lanes wide)

-- ---- moves one after another

pub moves_as : (v : State) (s : Settings) (fed : List Fed) (items : List Aligned) (t : Progress) (more other : ℕ → List ℕ) → ((i : ℕ) → more i ≡ other i) → Moves v s fed items t more → Moves v s fed items t other
moves_as v s fed items t more other same m = record { to = m.to; stands = m.stands; locks = λ i. m.locks i ∙ ap (λ (ls : List ℕ). locks_at i t ++ ls) (same i) }

pub moves_none : (v : State) (s : Settings) (fed : List Fed) (items : List Aligned) (t : Progress) → Stands v s fed items t → MovesQuietly v s fed items t
moves_none v s fed items t st = record { to = t; stands = st; locks = λ i. sym (append-nil (locks_at i t)) }

pub moves_then : (v w : State) (s : Settings) (fed : List Fed) (items : List Aligned) (t : Progress) (more : ℕ → List ℕ) → MovesQuietly v s fed items t →
    ((u : Progress) → Stands v s fed items u → Moves w s fed items u more) → Moves w s fed items t more
moves_then v w s fed items t more quiet goes =
    let m = goes quiet.to quiet.stands in
    record { to = m.to; stands = m.stands; locks = λ i. m.locks i ∙ ap (λ (ls : List ℕ). ls ++ more i) (quiet.locks i ∙ append-nil (locks_at i t)) }
