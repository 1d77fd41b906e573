-- The clock moves on by bits that show nothing.
use Rattle.std.proofs.Common.{ℕ, zero, suc, ◌≡◌, refl, ap, ◌∙◌, subst, ◌+◌, ◌-◌, ◌<◌, ◌≤◌, true, List, [], ◌∷◌, ◌++◌, length, map, get_or, Option, None, arith, All}
use Rattle.std.specs.List.{cons_option}
use Rattle.std.proofs.lemmas.List.{length-map}
use Rattle.std.proofs.lemmas.List.Elements.{All-head, All-tail}
use Rattle.lk_base.specs.declared.word.Aligned.{Aligned}
use Rattle.lk_base.specs.Link.{Settings}
use Rattle.lock_model.specs.declared.types.LaneStep.TheVariants as steps
use Rattle.event_model.specs.Fed.{Fed}
use Rattle.deskew.specs.Quiet.{IsQuiet}
use Rattle.deskew.proofs.Quieting.{quiet_clocks_change_nothing}
use Rattle.deskew.proofs.Running.{running_begins, running_ends}
use Rattle.rx_front.specs.States.{Lane, State}
use Rattle.rx_front.specs.Lanes.{AreWide, step_at}
use Rattle.rx_front.specs.Locks.{declared_in, lock_of}
use Rattle.rx_front.specs.Standing.{MovesQuietly, Progress, Stands}
use Rattle.rx_front.proofs.Locks.{lock_there, moves_as, moves_none, moves_then, quiet_lock}
use Rattle.rx_front.proofs.Ticking.{ticked}

-- with this many bits of the last round left
abbrev with_left : ℕ → State → State
with_left left v = record { lanes = v.lanes; left = left; deskew = v.deskew; waiting = v.waiting; over = v.over }

all_quiet : (k : ℕ) (lanes : List Lane) → All (λ v. step_at k v ≡ steps.Nothing) lanes → IsQuiet (map (step_at k) lanes)
all_quiet k [] quiet = tt
all_quiet k (v ∷ lanes) quiet = (All-head (λ w. step_at k w ≡ steps.Nothing) v lanes quiet, all_quiet k lanes (All-tail (λ w. step_at k w ≡ steps.Nothing) v lanes quiet))

quiet_bit : (width : ℕ) (v : State) (s : Settings) (fed : List Fed) (items : List Aligned) (t : Progress) → 1 ≤ v.left → v.left ≤ width → AreWide width v.lanes → length v.lanes ≡ v.deskew.settings.lanes →
    All (λ x. step_at (width - v.left) x ≡ steps.Nothing) v.lanes → v.deskew.settled ≡ true → Stands v s fed items t → MovesQuietly (with_left (v.left - 1) v) s fed items t
quiet_bit width v s fed items t some most wide count quiet settled st =
    let row = map (step_at (width - v.left)) v.lanes in
    moves_as (with_left (v.left - 1) v) s fed items t (λ i. cons_option (lock_of (get_or row i steps.Ended)) []) (λ i. []) (λ i. ap (λ (o : Option ℕ). cons_option o []) (quiet_lock i (width - v.left) v.lanes quiet))
    (ticked width v (with_left (v.left - 1) v) row s fed items t some most wide refl refl
    (λ s' ticks given are before. running_begins v.deskew s' (ticks ++ row ∷ []) given
    (quiet_clocks_change_nothing v.deskew s' ticks given row
    (length-map v.lanes (step_at (width - v.left)) ∙ count ∙ ap (λ (z : Settings). z.lanes) before.keeps.settings) (all_quiet (width - v.left) v.lanes quiet) are
    (running_ends v.deskew s' ticks given settled before).1)) st)

pub quiet_bits : (width n : ℕ) (v : State) (s : Settings) (fed : List Fed) (items : List Aligned) (t : Progress) → n ≤ v.left → v.left ≤ width → AreWide width v.lanes → length v.lanes ≡ v.deskew.settings.lanes →
    ((j : ℕ) → width - v.left ≤ j → j < n + (width - v.left) → All (λ x. step_at j x ≡ steps.Nothing) v.lanes) → v.deskew.settled ≡ true → Stands v s fed items t → MovesQuietly (with_left (v.left - n) v) s fed items t
quiet_bits width zero v s fed items t le most wide count quiet settled st =
    let e : v.left ≡ v.left - 0 = omega arith in
    subst (λ (m : ℕ). MovesQuietly (with_left m v) s fed items t) e (moves_none v s fed items t st)
quiet_bits width (suc n) v s fed items t le most wide count quiet settled st =
    let one = quiet_bit width v s fed items t (omega (arith, le)) most wide count (quiet (width - v.left) (omega arith) (omega arith)) settled st in
    let e : v.left - 1 - n ≡ v.left - suc n = omega arith in
    subst (λ (m : ℕ). MovesQuietly (with_left m v) s fed items t) e
    (moves_then (with_left (v.left - 1) v) (with_left (v.left - 1 - n) v) s fed items t (λ i. []) one
    (λ u later. quiet_bits width n (with_left (v.left - 1) v) s fed items u (omega (arith, le)) (omega (arith, most)) wide count
    (λ j low high. quiet j (omega (arith, low)) (omega (arith, high, le, most))) settled later))

-- where all bits were passed so, the last of them shows nothing
pub none_at_last : (i width left n : ℕ) (lanes : List Lane) → left - n ≡ 0 → 1 ≤ left → left ≤ width → n ≤ left → AreWide width lanes →
    ((j : ℕ) → width - left ≤ j → j < n + (width - left) → All (λ x. step_at j x ≡ steps.Nothing) lanes) → declared_in i (left - n) lanes ≡ None
none_at_last i width left n lanes none some most le wide quiet =
    let last : width - (left - n) - 1 ≡ width - 1 = omega (arith, none) in
    lock_there i (left - n) width lanes (omega (arith, none, some, most)) wide
    ∙ ap (λ (k : ℕ). lock_of (get_or (map (step_at k) lanes) i steps.Ended)) last
    ∙ quiet_lock i (width - 1) lanes (quiet (width - 1) (omega (arith, some)) (omega (arith, none, some, most, le)))
