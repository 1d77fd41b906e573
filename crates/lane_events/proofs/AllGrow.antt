-- All events of a lane, bit by bit.
use Rattle.std.proofs.Common.{ℕ, suc, ◌≡◌, refl, sym, ap, ◌∙◌, subst, ◌+◌, ◌-◌, ◌*◌, ◌/◌, ◌%◌, ◌<◌, ◌≤◌, ◌==◌, Bool, true, false, List, [], ◌∷◌, ◌++◌, length, arith, Option, Some, None, append_assoc, eqb-true}
use Rattle.std.specs.Prelude.{nat_lt, nat_le}
use Rattle.std.proofs.lemmas.List.{append-nil}
use Rattle.std.proofs.lemmas.Bool.{lt-leb, ne_eqb, and_parts}
use Rattle.lk_base.specs.Link.{Settings}
use Rattle.lane_model.proofs.Numbers.{split}
use Rattle.lock_model.specs.declared.types.LaneStep.{LaneStep}
use Rattle.lock_model.specs.declared.types.LaneStep.TheVariants as steps
use Rattle.lock_model.specs.Locks.{Attempt, AttemptsFrom, LocksWords, Loss, loss_at, next_search}
use Rattle.lock_model.specs.Received.{Lock}
use Rattle.lock_model.specs.Steps.{ends_word, step_of, step_of_attempt, step_unless_lost}
use Rattle.lock_model.proofs.Prefixes.{lock_stays, loss_here, same_first}
use Rattle.lane_events.specs.declared.types.LaneEvent.{LaneEvent}
use Rattle.lane_events.specs.Events.{lane_events, losing_events}
use Rattle.lane_events.specs.Inspection.{open_of}
use Rattle.lane_events.proofs.Grow.{Grown, going, live, own, some, unchanged}
use Rattle.lane_events.proofs.Local.{words_same}
use Rattle.lane_events.proofs.OneMore.{Declared, LostOr, locks_now, longer_by_one, lost_at_end, lost_behind, new_lock, none_some, nothing_behind, same_start}

-- the lock that goes on after an attempt that is over is that of the attempts after it
open_behind : (bits : List Bool) (p : ℕ) (o : Option ℕ) (loss : Loss) (rest : List Attempt) → open_of bits (record { starts = p; declared = o; lost = Some loss } ∷ rest) ≡ open_of bits rest
open_behind bits p o loss [] = refl
open_behind bits p o loss (a ∷ rest) = refl

moved : (s : Settings) (bits : List Bool) (before before' now now' : Option Lock) (old old' all all' : List LaneEvent) (step step' : LaneStep) →
    before ≡ before' → now ≡ now' → old ≡ old' → all ≡ all' → step ≡ step' → Grown s bits before now old all step → Grown s bits before' now' old' all' step'
moved s bits before before' now now' old old' all all' step step' a b c d e g =
    subst (λ x. Grown s bits x now' old' all' step') a (subst (λ x. Grown s bits before x old' all' step') b (subst (λ x. Grown s bits before now x all' step') c
    (subst (λ x. Grown s bits before now old x step') d (subst (λ x. Grown s bits before now old all x) e g))))

-- events before others
after_front : (s : Settings) (bits : List Bool) (before now : Option Lock) (front old all : List LaneEvent) (step : LaneStep) → Grown s bits before now old all step →
    Grown s bits before now (front ++ old) (front ++ all) step
after_front s bits before now front old all step g = record { new = g.new; appended = ap (λ xs. front ++ xs) g.appended ∙ sym (append_assoc front old g.new); tells = g.tells }

module _ (s : Settings) (long : 32 ≤ s.metaframe) (bits : List Bool) (b : Bool) where
  -- the step of a new word lock is nothing
  step_new : (p : ℕ) → step_of_attempt s (bits ++ b ∷ []) (record { starts = p; declared = None; lost = None }) ≡ steps.Nothing
  step_new p = split {b = ends_word (bits ++ b ∷ []) p} (λ e. rw e refl) (λ e. rw e refl)

  -- and so is that of an attempt that was lost before
  step_lost : (p : ℕ) (o : Option ℕ) (loss : Loss) → p + 67 * loss.word + 67 ≤ length bits →
      step_of_attempt s (bits ++ b ∷ []) (record { starts = p; declared = o; lost = Some loss }) ≡ steps.Nothing
  step_lost p o loss h = split {b = ends_word (bits ++ b ∷ []) p} (λ e. rw e (past ((length (bits ++ b ∷ []) - (p + 67)) / 67) (behind e))) (λ e. rw e refl)
    where
      len : length (bits ++ b ∷ []) ≡ length bits + 1
      len = longer_by_one s.metaframe bits b

      past : (t : ℕ) → loss.word < t → step_unless_lost s (bits ++ b ∷ []) p o (Some loss) t ≡ steps.Nothing
      past t lt = let e : (t == loss.word) ≡ false = ne_eqb t loss.word (λ e. omega (arith, lt, e)) in
          let f : nat_lt t loss.word ≡ false = lt-leb (suc t) loss.word (omega (arith, lt)) in rw (e, f) refl

      behind : ends_word (bits ++ b ∷ []) p ≡ true → loss.word < (length (bits ++ b ∷ []) - (p + 67)) / 67
      behind e =
          let parts = and_parts (nat_le (p + 67) (length (bits ++ b ∷ []))) ((length (bits ++ b ∷ []) - (p + 67)) % 67 == 0) e in
          let rest : (length (bits ++ b ∷ []) - (p + 67)) % 67 ≡ 0 = eqb-true ((length (bits ++ b ∷ []) - (p + 67)) % 67) 0 parts.1 in
          omega (arith, h, len, rest)

  step_behind : (p : ℕ) (o : Option ℕ) (loss : Loss) (rest : List Attempt) → p + 67 * loss.word + 67 ≤ length bits →
      step_of s (bits ++ b ∷ []) (record { starts = p; declared = o; lost = Some loss } ∷ rest) ≡ step_of s (bits ++ b ∷ []) rest
  step_behind p o loss [] h = step_lost p o loss h
  step_behind p o loss (a ∷ rest) h = refl

  -- the events of an attempt that is over stay
  own_stays : (p : ℕ) (o : Option ℕ) (loss : Loss) → p + 67 * loss.word + 67 ≤ length bits → Declared s.metaframe bits p o → ((d : ℕ) → o ≡ Some d → d < loss.word) →
      own s (bits ++ b ∷ []) p o (Some loss) ≡ own s bits p o (Some loss)
  own_stays p None loss h is behind = refl
  own_stays p (Some d) loss h is behind =
      let lt = behind d refl in
      ap (λ xs. xs ++ losing_events p true (Some loss)) (words_same s (some s long bits b) bits (b ∷ []) (p + 67 * d) (loss.word - d) (omega (arith, h, lt)))

  Grow : List Attempt → Type 0
  Grow before = (first : Option ℕ) (now : List Attempt) → AttemptsFrom s.metaframe bits first before → AttemptsFrom s.metaframe (bits ++ b ∷ []) first now →
      Grown s (bits ++ b ∷ []) (open_of bits before) (open_of (bits ++ b ∷ []) now) (lane_events s bits before) (lane_events s (bits ++ b ∷ []) now) (step_of s (bits ++ b ∷ []) now)

  grow_new : (first p : ℕ) (o : Option ℕ) (l : Option Loss) (rest : List Attempt) → ((q : ℕ) → first ≤ q → LocksWords bits q → ⊥) →
      AttemptsFrom s.metaframe (bits ++ b ∷ []) (Some first) (record { starts = p; declared = o; lost = l } ∷ rest) →
      Grown s (bits ++ b ∷ []) None (open_of (bits ++ b ∷ []) (record { starts = p; declared = o; lost = l } ∷ rest)) [] (lane_events s (bits ++ b ∷ []) (record { starts = p; declared = o; lost = l } ∷ rest))
      (step_of s (bits ++ b ∷ []) (record { starts = p; declared = o; lost = l } ∷ rest))
  grow_new first p o l rest none h =
      let at = locks_now s.metaframe bits b p (none p h.0.0.0) h.0.0.1 in
      let new = new_lock s.metaframe bits b p o l long at h.0.0.1 h.1.declared h.1.lost in
      let no_more : rest ≡ [] = nothing_behind s.metaframe bits b p l rest h.2 (λ loss e. absurd (none_some new.1 e)) in
      fresh o l rest new.0 new.1 no_more
    where
      fresh : (o : Option ℕ) (l : Option Loss) (rest : List Attempt) → o ≡ None → l ≡ None → rest ≡ [] →
          Grown s (bits ++ b ∷ []) None (open_of (bits ++ b ∷ []) (record { starts = p; declared = o; lost = l } ∷ rest)) [] (lane_events s (bits ++ b ∷ []) (record { starts = p; declared = o; lost = l } ∷ rest))
          (step_of s (bits ++ b ∷ []) (record { starts = p; declared = o; lost = l } ∷ rest))
      fresh None None [] e f g = unchanged s (bits ++ b ∷ []) None None [] [] _ refl refl (step_new p)
      fresh None None (a ∷ rest) e f g = absurd (omega (arith, ap length g))
      fresh None (Some loss) rest e f g = absurd (none_some refl (sym f))
      fresh (Some d) l rest e f g = absurd (none_some refl (sym e))

  grow_lost : (first p : ℕ) (o : Option ℕ) (loss : Loss) (before now : List Attempt) → Grow before →
      AttemptsFrom s.metaframe bits (Some first) (record { starts = p; declared = o; lost = Some loss } ∷ before) →
      AttemptsFrom s.metaframe (bits ++ b ∷ []) (Some first) (record { starts = p; declared = o; lost = Some loss } ∷ now) →
      Grown s (bits ++ b ∷ []) (open_of bits (record { starts = p; declared = o; lost = Some loss } ∷ before)) (open_of (bits ++ b ∷ []) (record { starts = p; declared = o; lost = Some loss } ∷ now))
      (lane_events s bits (record { starts = p; declared = o; lost = Some loss } ∷ before)) (lane_events s (bits ++ b ∷ []) (record { starts = p; declared = o; lost = Some loss } ∷ now))
      (step_of s (bits ++ b ∷ []) (record { starts = p; declared = o; lost = Some loss } ∷ now))
  unfolding Grow
  grow_lost first p o loss before now rest h k =
      let there = loss_here s.metaframe bits [] p o loss.word loss.why h.1.lost.why in
      moved s (bits ++ b ∷ []) _ _ _ _ _ _ _ _ _ _
      (sym (open_behind bits p o loss before)) (sym (open_behind (bits ++ b ∷ []) p o loss now)) refl
      (ap (λ xs. xs ++ lane_events s (bits ++ b ∷ []) now) (sym (own_stays p o loss there h.1.declared (λ d e. lost_behind s.metaframe bits p d loss.word loss.why (ap (λ x. loss_at s.metaframe bits p x loss.word) (sym e) ∙ h.1.lost.why)))))
      (sym (step_behind p o loss now there))
      (after_front s (bits ++ b ∷ []) _ _ (own s bits p o (Some loss)) _ _ _ (rest (next_search p (Some loss)) now h.2 k.2))

  grow_live : (p : ℕ) (o o' : Option ℕ) (l : Option Loss) (before now : List Attempt) →
      Declared s.metaframe bits p o → ((t : ℕ) → loss_at s.metaframe bits p o t ≡ None) → AttemptsFrom s.metaframe bits None before →
      Declared s.metaframe (bits ++ b ∷ []) p o' → LostOr s.metaframe (bits ++ b ∷ []) p o' l → AttemptsFrom s.metaframe (bits ++ b ∷ []) (next_search p l) now →
      Grown s (bits ++ b ∷ []) (open_of bits (record { starts = p; declared = o; lost = None } ∷ before)) (open_of (bits ++ b ∷ []) (record { starts = p; declared = o'; lost = l } ∷ now))
      (lane_events s bits (record { starts = p; declared = o; lost = None } ∷ before)) (lane_events s (bits ++ b ∷ []) (record { starts = p; declared = o'; lost = l } ∷ now))
      (step_of s (bits ++ b ∷ []) (record { starts = p; declared = o'; lost = l } ∷ now))
  grow_live p o o' l (a ∷ before) now is none h is' lost k = absurd h
  grow_live p o o' l [] now is none h is' lost k =
      let no_more : now ≡ [] = nothing_behind s.metaframe bits b p l now k (lost_at_end s.metaframe bits b p o o' l is none is' lost) in
      alone now no_more
    where
      alone : (now : List Attempt) → now ≡ [] →
          Grown s (bits ++ b ∷ []) (going bits p o None) (open_of (bits ++ b ∷ []) (record { starts = p; declared = o'; lost = l } ∷ now))
          (lane_events s bits (record { starts = p; declared = o; lost = None } ∷ [])) (lane_events s (bits ++ b ∷ []) (record { starts = p; declared = o'; lost = l } ∷ now))
          (step_of s (bits ++ b ∷ []) (record { starts = p; declared = o'; lost = l } ∷ now))
      alone (a ∷ now) e = absurd (omega (arith, ap length e))
      alone [] e = moved s (bits ++ b ∷ []) _ _ _ _ _ _ _ _ _ _ refl refl
          (sym (append-nil (own s bits p o None))) (sym (append-nil (own s (bits ++ b ∷ []) p o' l))) refl (live s long bits b p o o' l is none is' lost)

  grow_step : (first p : ℕ) (o : Option ℕ) (l : Option Loss) (before : List Attempt) (a : Attempt) (now : List Attempt) → Grow before →
      AttemptsFrom s.metaframe bits (Some first) (record { starts = p; declared = o; lost = l } ∷ before) → AttemptsFrom s.metaframe (bits ++ b ∷ []) (Some first) (a ∷ now) →
      Grown s (bits ++ b ∷ []) (open_of bits (record { starts = p; declared = o; lost = l } ∷ before)) (open_of (bits ++ b ∷ []) (a ∷ now))
      (lane_events s bits (record { starts = p; declared = o; lost = l } ∷ before)) (lane_events s (bits ++ b ∷ []) (a ∷ now)) (step_of s (bits ++ b ∷ []) (a ∷ now))
  grow_step first p o None before a now rest h k =
      let e : p ≡ a.starts = same_start s.metaframe bits b first p a.starts h.0 k.0 in
      subst (λ (q : ℕ). Grown s (bits ++ b ∷ []) (open_of bits (record { starts = q; declared = o; lost = None } ∷ before)) (open_of (bits ++ b ∷ []) (a ∷ now))
      (lane_events s bits (record { starts = q; declared = o; lost = None } ∷ before)) (lane_events s (bits ++ b ∷ []) (a ∷ now)) (step_of s (bits ++ b ∷ []) (a ∷ now))) (sym e)
      (grow_live a.starts o a.declared a.lost before now
      (subst (λ (q : ℕ). Declared s.metaframe bits q o) e h.1.declared)
      (subst (λ (q : ℕ). (t : ℕ) → loss_at s.metaframe bits q o t ≡ None) e h.1.lost)
      h.2 k.1.declared k.1.lost k.2)
  grow_step first p o (Some loss) before a now rest h k =
      let same = same_first s.metaframe bits (b ∷ []) first p o loss a h.0 h.1 k.0 k.1 in
      subst (λ (a : Attempt). Grown s (bits ++ b ∷ []) (open_of bits (record { starts = p; declared = o; lost = Some loss } ∷ before)) (open_of (bits ++ b ∷ []) (a ∷ now))
      (lane_events s bits (record { starts = p; declared = o; lost = Some loss } ∷ before)) (lane_events s (bits ++ b ∷ []) (a ∷ now)) (step_of s (bits ++ b ∷ []) (a ∷ now))) same
      (grow_lost first p o loss before now rest h (subst (λ (a : Attempt). AttemptsFrom s.metaframe (bits ++ b ∷ []) (Some first) (a ∷ now)) (sym same) k))

  grow : (before : List Attempt) → Grow before
  unfolding Grow
  grow [] None [] h k = unchanged s (bits ++ b ∷ []) None None [] [] steps.Nothing refl refl refl
  grow [] None (a ∷ now) h k = absurd k
  grow [] (Some first) [] h k = unchanged s (bits ++ b ∷ []) None None [] [] steps.Nothing refl refl refl
  grow [] (Some first) (a ∷ now) h k = grow_new first a.starts a.declared a.lost now h k
  grow (a ∷ before) None now h k = absurd h
  grow (a ∷ before) (Some first) [] h k = absurd (let is = lock_stays s.metaframe bits (b ∷ []) first a.starts h.0 in k a.starts is.0.0 is.0.1)
  grow (a ∷ before) (Some first) (c ∷ now) h k = grow_step first a.starts a.declared a.lost before c now (grow before) h k

  -- the events of a lane with a bit more are those before, and those of the word that the bit ends
  pub grown_by_bit : (before now : List Attempt) → AttemptsFrom s.metaframe bits (Some 0) before → AttemptsFrom s.metaframe (bits ++ b ∷ []) (Some 0) now →
      Grown s (bits ++ b ∷ []) (open_of bits before) (open_of (bits ++ b ∷ []) now) (lane_events s bits before) (lane_events s (bits ++ b ∷ []) now) (step_of s (bits ++ b ∷ []) now)
  unfolding Grow
  grown_by_bit before now h k = grow before (Some 0) now h k
