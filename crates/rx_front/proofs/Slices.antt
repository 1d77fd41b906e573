-- Bytes that are taken in two pieces.
use Rattle.std.proofs.Common.{ℕ, ◌≡◌, sym, ap, ◌∙◌, subst, ◌+◌, ◌-◌, ◌*◌, ◌^◌, ◌<◌, ◌≤◌, Bool, List, [], ◌∷◌, ◌++◌, length, take, get_or, arith, inl, inr}
use Rattle.std.proofs.lemmas.Bool.{cases_Bool}
use Rattle.std.proofs.lemmas.List.{length-set, take-append-le}
use Rattle.std.proofs.Math.Seq.{take-append-add}
use Rattle.lk_base.specs.Checksum.{bits_of_bytes}
use Rattle.lock_model.specs.declared.types.LaneStep.{LaneStep}
use Rattle.lock_model.specs.Low.{all_low}
use Rattle.lock_model.specs.Shows.{shown_in, shows}
use Rattle.lane_lock.specs.Bytes.{BringsBatch}
use Rattle.lane_lock.specs.Lane.{LaneView}
use Rattle.lock_model.specs.PayloadSteps.{payload_steps}
use Rattle.lk_base.specs.declared.word.RxWord.{RxWord}
use Rattle.deskew.specs.Lanes.{fresh_lane}
use Rattle.deskew.specs.States.{State}
use Rattle.deskew.specs.Steps.{lane_after_all, steps_taken}
use Rattle.deskew.proofs.Columns.{taken_both}
use Rattle.event_model.proofs.Clocks.{bits-append}

-- ---- what steps show

shown_most : (xs : List LaneStep) → length (shown_in xs) ≤ length xs
shown_most [] = omega arith
shown_most (x ∷ xs) = elim (cases_Bool (shows x)) [
  | inl h ↦ (rw h (let k = shown_most xs in omega (arith, k)))
  | inr h ↦ (rw h (let k = shown_most xs in omega (arith, k)))
]

pub low_shown : (xs : List LaneStep) → all_low xs → all_low (shown_in xs)
low_shown [] a = tt
low_shown (x ∷ xs) a = elim (cases_Bool (shows x)) [
  | inl h ↦ (rw h (a.0, low_shown xs a.1))
  | inr h ↦ (rw h (low_shown xs a.1))
]

pub low_front : (xs ys : List LaneStep) → all_low (xs ++ ys) → all_low xs
low_front [] ys a = tt
low_front (x ∷ xs) ys a = (a.0, low_front xs ys a.1)

pub low_back : (xs ys : List LaneStep) → all_low (xs ++ ys) → all_low ys
low_back [] ys a = a
low_back (x ∷ xs) ys a = low_back xs ys a.1

-- the last of payload words is low
pub low_payloads : (number at : ℕ) (ws : List RxWord) → all_low (payload_steps number at ws) → 1 ≤ length ws → at + 67 * (length ws - 1) < 2 ^ 60
low_payloads number at [] a some = absurd (omega (arith, some))
low_payloads number at (w ∷ []) a some = (let h = a.0 in omega (arith, h))
low_payloads number at (w ∷ x ∷ ws) a some = (let h = low_payloads (number + 1) (at + 67) (x ∷ ws) a.1 (omega arith) in omega (arith, h))

-- ---- what a deskew takes of a lane

steps_kept : (i : ℕ) (xs : List LaneStep) (d e : State) → e ≡ steps_taken i xs d → length e.lanes ≡ length d.lanes
steps_kept i xs d e is = ap (λ (x : State). length x.lanes) is ∙ length-set d.lanes i (lane_after_all (get_or d.lanes i (fresh_lane 0)) xs)

pub taken_in_three : (i : ℕ) (a b c : List LaneStep) (d first second third : State) → i < length d.lanes → first ≡ steps_taken i a d → second ≡ steps_taken i b first → third ≡ steps_taken i c second →
    third ≡ steps_taken i (a ++ (b ++ c)) d
taken_in_three i a b c d first second third lt one two three =
    let k = steps_kept i a d first one in
    three ∙ ap (steps_taken i c) two ∙ taken_both i b c first (omega (arith, lt, k)) ∙ ap (steps_taken i (b ++ c)) one ∙ taken_both i a (b ++ c) d lt

-- ---- of a piece

pub found_most : (v w : LaneView) (bits : List Bool) (before after : List LaneStep) → before ≡ [] → BringsBatch v w bits before after → length after ≤ length bits
found_most v w bits before after none b =
    let n = ap (λ (xs : List LaneStep). length (xs ++ shown_in b.column)) none in
    let e = ap length b.appended in
    let m = shown_most b.column in
    let l = b.long in
    omega (arith, n, e, m, l)

pub found_low : (v w : LaneView) (bits : List Bool) (before after : List LaneStep) → before ≡ [] → BringsBatch v w bits before after → all_low after
found_low v w bits before after none b =
    subst (λ (xs : List LaneStep). all_low xs) (sym (b.appended ∙ ap (λ (xs : List LaneStep). xs ++ shown_in b.column) none)) (low_shown b.column b.low)

-- ---- the pieces of a ring

pub cut_first : (front back items : List ℕ) (count : ℕ) → front ++ back ≡ items → count ≤ length front → bits_of_bytes (take count front) ≡ bits_of_bytes (take count items)
cut_first front back items count e le = ap bits_of_bytes (sym (take-append-le count front back le) ∙ ap (take count) e)

pub cut_both : (front back items : List ℕ) (count : ℕ) → front ++ back ≡ items → length front ≤ count → bits_of_bytes front ++ bits_of_bytes (take (count - length front) back) ≡ bits_of_bytes (take count items)
cut_both front back items count e le =
    let n : length front + (count - length front) ≡ count = omega (arith, le) in
    sym (bits-append front (take (count - length front) back))
    ∙ ap bits_of_bytes (sym (take-append-add front back (count - length front)) ∙ ap (λ (k : ℕ). take k (front ++ back)) n ∙ ap (take count) e)
