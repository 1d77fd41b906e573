-- The events of a lane grow by those of the word that each bit ends.
use Rattle.std.proofs.Common.{ℕ, zero, suc, ◌≡◌, refl, sym, ap, ◌∙◌, subst, ◌+◌, ◌-◌, ◌*◌, ◌/◌, ◌%◌, ◌<◌, ◌≤◌, ◌==◌, cond, Bool, true, false, List, [], ◌∷◌, ◌++◌, length, flat_map, arith, Option, Some, None, inl, inr}
use Rattle.std.specs.Prelude.{nat_lt, nat_le, is_some}
use Rattle.std.specs.List.{range_with_len}
use Rattle.std.proofs.lemmas.List.{append-nil}
use Rattle.std.proofs.lemmas.List.Concat.{flat_map-append}
use Rattle.std.proofs.lemmas.Bool.{le-leb, eq-eqb, ne_eqb, eqb-true, leb-true, and_parts, cases_lt, false≢true}
use Rattle.lk_base.specs.Link.{Settings}
use Rattle.lk_base.specs.declared.word.RxWord.TheVariants.{Control}
use Rattle.lane_model.specs.Framing.{role_of, sync_payload}
use Rattle.lane_model.proofs.Numbers.{split}
use Rattle.lock_model.specs.declared.types.LaneStep.{LaneStep}
use Rattle.lock_model.specs.declared.types.LaneStep.TheVariants as steps
use Rattle.lock_model.specs.Locks.{Attempt, IsDeclared, Loss, loss_at}
use Rattle.lock_model.specs.Received.{Lock, lock_declared, received_at}
use Rattle.lock_model.specs.Steps.{ends_word, step_of_attempt, step_unless_lost}
use Rattle.lock_model.proofs.Determined.{same_declared}
use Rattle.lock_model.proofs.Prefixes.{declared_stays}
use Rattle.lock_model.proofs.Tracked.{declares_sync, received-first, step_at, step_idle}
use Rattle.lane_events.specs.declared.types.LaneEvent.{LaneEvent}
use Rattle.lane_events.specs.Events.{covered_events, losing_events, loss_kind, word_events}
use Rattle.lane_events.proofs.Local.{words_same}
use Rattle.lane_events.proofs.OneMore.{Declared, LostOr, declared_here, declared_now, idle_same, longer_by_one, lost_at_end, lost_behind}

-- a word that a lock covers: the lock before it and with it, the word's place, what the step has of it, and its events
pub record CoversWord (s : Settings) (bits : List Bool) (at r : ℕ) (now : Option Lock) (new : List LaneEvent) (step : LaneStep) : Type 0 where
  pub ends : at + 67 * r + 67 ≡ length bits
  pub now_is : now ≡ Some (record { at = at; count = r + 1; lost = false })
  pub events : new ≡ word_events s bits at r
  pub step_is : step ≡ cond (r == 0) (steps.Locked (at + 67 * r)) (steps.Word (received_at s bits at r) (role_of s (r % s.metaframe)) (at + 67 * r))
  pub first : r ≡ 0 → received_at s bits at r ≡ Control sync_payload

-- what the step of the last of the bits tells, of the lock that went on before and the one that goes on now, and of the events that
-- are new: nothing, a declaring Sync, a word after it, or a loss
pub data Tells (s : Settings) (bits : List Bool) (before now : Option Lock) (new : List LaneEvent) (step : LaneStep) : Type 0 where
  Quiet : now ≡ before → new ≡ [] → step ≡ steps.Nothing → Tells s bits before now new step
  First : (at : ℕ) → CoversWord s bits at 0 now new step → Tells s bits before now new step
  Next : (at r : ℕ) → 0 < r → before ≡ Some (record { at = at; count = r; lost = false }) → CoversWord s bits at r now new step → Tells s bits before now new step
  Loses : (at : ℕ) (declared : Bool) (loss : Loss) → now ≡ None → new ≡ record { bit = at; kind = loss_kind declared loss.why } ∷ [] → step ≡ steps.Lost loss.why at → Tells s bits before now new step

-- the events after a bit more, from those before
pub record Grown (s : Settings) (bits : List Bool) (before now : Option Lock) (old all : List LaneEvent) (step : LaneStep) : Type 0 where
  pub new : List LaneEvent
  pub appended : all ≡ old ++ new
  pub tells : Tells s bits before now new step

pub unchanged : (s : Settings) (bits : List Bool) (before now : Option Lock) (old all : List LaneEvent) (step : LaneStep) → now ≡ before → all ≡ old → step ≡ steps.Nothing →
    Grown s bits before now old all step
unchanged s bits before now old all step e f g = record { new = []; appended = f ∙ sym (append-nil old); tells = Quiet e refl g }

pub range_more : (a n : ℕ) → range_with_len a (suc n) ≡ range_with_len a n ++ (a + n) ∷ []
range_more a zero = let e : a + 0 ≡ a = omega arith in rw e refl
range_more a (suc n) = let e : a + 1 + n ≡ a + suc n = omega arith in ap (λ xs. a ∷ xs) (range_more (a + 1) n ∙ rw e refl)

pub words_more : (f : ℕ → List LaneEvent) (n : ℕ) → flat_map f (range_with_len 0 (n + 1)) ≡ flat_map f (range_with_len 0 n) ++ f n
words_more f n =
    let e : n + 1 ≡ suc n = omega arith in
    let z : 0 + n ≡ n = omega arith in
    ap (λ k. flat_map f (range_with_len 0 k)) e ∙ ap (flat_map f) (range_more 0 n ∙ ap (λ k. range_with_len 0 n ++ k ∷ []) z) ∙ flat_map-append f (range_with_len 0 n) (n ∷ []) ∙ ap (λ xs. flat_map f (range_with_len 0 n) ++ xs) (append-nil (f n))

-- the events of an attempt by its parts
abbrev pub own : Settings → List Bool → ℕ → Option ℕ → Option Loss → List LaneEvent
own s bits p o l = covered_events s bits (lock_declared bits p l o) ++ losing_events p (is_some o) l

-- the lock of the last attempt, if it goes on
abbrev pub going : List Bool → ℕ → Option ℕ → Option Loss → Option Lock
going bits p o l = cond (is_some l) None (lock_declared bits p l o)

module _ (s : Settings) (long : 32 ≤ s.metaframe) (bits : List Bool) (b : Bool) where
  pub some : 0 < s.metaframe
  some = omega (arith, long)

  len : length (bits ++ b ∷ []) ≡ length bits + 1
  len = longer_by_one s.metaframe bits b

  -- ---- an attempt that was not lost before, where the bit ends its word t

  module _ (p t : ℕ) (ends : p + 67 * t + 67 ≡ length bits + 1) where
    -- a word more of a lock that goes on
    after_word : (d : ℕ) → d < t →
        Grown s (bits ++ b ∷ []) (going bits p (Some d) None) (going (bits ++ b ∷ []) p (Some d) None) (own s bits p (Some d) None) (own s (bits ++ b ∷ []) p (Some d) None)
        (step_unless_lost s (bits ++ b ∷ []) p (Some d) None t)
    after_word d lt =
        let l = len in
        let now : (length (bits ++ b ∷ []) - (p + 67 * d)) / 67 ≡ (t - d) + 1 = omega (arith, l, ends, lt) in
        let before : (length bits - (p + 67 * d)) / 67 ≡ t - d = omega (arith, ends, lt) in
        let at = p + 67 * d in
        record {
          new = word_events s (bits ++ b ∷ []) at (t - d);
          appended = append-nil _
              ∙ ap (λ n. flat_map (word_events s (bits ++ b ∷ []) at) (range_with_len 0 n)) now
              ∙ words_more (word_events s (bits ++ b ∷ []) at) (t - d)
              ∙ ap (λ xs. xs ++ word_events s (bits ++ b ∷ []) at (t - d)) (words_same s some bits (b ∷ []) at (t - d) (omega (arith, ends, lt)) ∙ sym (ap (λ n. flat_map (word_events s bits at) (range_with_len 0 n)) before) ∙ sym (append-nil _));
          tells = Next at (t - d) (omega (arith, lt)) (ap (λ n. Some (record { at = at; count = n; lost = false })) before) (record {
            ends = omega (arith, l, ends, lt);
            now_is = ap (λ n. Some (record { at = at; count = n; lost = false })) now;
            events = refl;
            step_is = (let e : (t == d) ≡ false = ne_eqb t d (λ e. omega (arith, lt, e)) in let f : nat_lt d t ≡ true = le-leb (suc d) t lt in
                let z : (t - d == 0) ≡ false = ne_eqb (t - d) 0 (λ e. omega (arith, lt, e)) in
                let q : p + 67 * t ≡ p + 67 * d + 67 * (t - d) = omega (arith, lt) in rw (e, f, z, q) refl);
            first = λ e. absurd (omega (arith, e, lt));
          });
        }

    -- a loss
    after_loss : (d : ℕ) (loss : Loss) → d < t → loss.word ≡ t →
        Grown s (bits ++ b ∷ []) (going bits p (Some d) None) None (own s bits p (Some d) None) (own s (bits ++ b ∷ []) p (Some d) (Some loss))
        (step_unless_lost s (bits ++ b ∷ []) p (Some d) (Some loss) t)
    after_loss d loss lt e =
        let before : (length bits - (p + 67 * d)) / 67 ≡ loss.word - d = omega (arith, ends, lt, e) in
        let at = p + 67 * d in
        let f : (t == loss.word) ≡ true = eq-eqb t loss.word (sym e) in
        record {
          new = record { bit = p + 67 * loss.word; kind = loss_kind true loss.why } ∷ [];
          appended = ap (λ xs. xs ++ record { bit = p + 67 * loss.word; kind = loss_kind true loss.why } ∷ [])
              (words_same s some bits (b ∷ []) at (loss.word - d) (omega (arith, ends, lt, e)) ∙ sym (ap (λ n. flat_map (word_events s bits at) (range_with_len 0 n)) before) ∙ sym (append-nil _));
          tells = Loses (p + 67 * loss.word) true loss refl refl (rw f (ap (λ n. steps.Lost loss.why (p + 67 * n)) (sym e)));
        }

    after_end : (loss : Loss) → loss.word ≡ t →
        Grown s (bits ++ b ∷ []) None None [] (own s (bits ++ b ∷ []) p None (Some loss)) (step_unless_lost s (bits ++ b ∷ []) p None (Some loss) t)
    after_end loss e =
        let f : (t == loss.word) ≡ true = eq-eqb t loss.word (sym e) in
        record {
          new = record { bit = p + 67 * loss.word; kind = loss_kind false loss.why } ∷ [];
          appended = refl;
          tells = Loses (p + 67 * loss.word) false loss refl refl (rw f (ap (λ n. steps.Lost loss.why (p + 67 * n)) (sym e)));
        }

    -- a declaration
    after_declaration : (d : ℕ) → d ≡ t → IsDeclared s.metaframe (bits ++ b ∷ []) p d →
        Grown s (bits ++ b ∷ []) None (going (bits ++ b ∷ []) p (Some d) None) [] (own s (bits ++ b ∷ []) p (Some d) None) (step_unless_lost s (bits ++ b ∷ []) p (Some d) None t)
    after_declaration d e is =
        let l = len in
        let f : (t == d) ≡ true = eq-eqb t d (sym e) in
        let now : (length (bits ++ b ∷ []) - (p + 67 * d)) / 67 ≡ 1 = omega (arith, l, ends, e) in
        let at = p + 67 * d in
        record {
          new = word_events s (bits ++ b ∷ []) at 0;
          appended = append-nil _
              ∙ ap (λ n. flat_map (word_events s (bits ++ b ∷ []) at) (range_with_len 0 n)) now
              ∙ append-nil (word_events s (bits ++ b ∷ []) at 0);
          tells = First at (record {
            ends = omega (arith, l, ends, e);
            now_is = ap (λ n. Some (record { at = at; count = n; lost = false })) now;
            events = refl;
            step_is = (let q : p + 67 * t ≡ p + 67 * d + 67 * 0 = omega (arith, e) in rw (f, q) refl);
            first = λ z. received-first s some (bits ++ b ∷ []) at ∙ declares_sync s.metaframe (bits ++ b ∷ []) p d is;
          });
        }

  -- ---- an attempt that was not lost before

  module _ (p : ℕ) where
    abbrev pub Lives : Option ℕ → Option ℕ → Option Loss → LaneStep → Type 0
    Lives o o' l step = Grown s (bits ++ b ∷ []) (going bits p o None) (going (bits ++ b ∷ []) p o' l) (own s bits p o None) (own s (bits ++ b ∷ []) p o' l) step

    module _ (t : ℕ) (ends : p + 67 * t + 67 ≡ length bits + 1) where
      declared_earlier : (d : ℕ) → IsDeclared s.metaframe bits p d → d < t
      declared_earlier d is = let there = declared_here s.metaframe bits p d is in omega (arith, there, ends)

      busy_some : (d : ℕ) (l : Option Loss) → IsDeclared s.metaframe bits p d → ((loss : Loss) → l ≡ Some loss → p + 67 * loss.word + 67 ≡ length bits + 1) →
          Lives (Some d) (Some d) l (step_unless_lost s (bits ++ b ∷ []) p (Some d) l t)
      busy_some d None is late = after_word p t ends d (declared_earlier d is)
      busy_some d (Some loss) is late = after_loss p t ends d loss (declared_earlier d is) (let e = late loss refl in omega (arith, e, ends))

      busy : (o o' : Option ℕ) (l : Option Loss) → Declared s.metaframe bits p o → ((t : ℕ) → loss_at s.metaframe bits p o t ≡ None) →
          Declared s.metaframe (bits ++ b ∷ []) p o' → LostOr s.metaframe (bits ++ b ∷ []) p o' l → Lives o o' l (step_unless_lost s (bits ++ b ∷ []) p o' l t)
      busy (Some d) o' l is none is' lost =
          let same : Some d ≡ o' = same_declared s.metaframe (bits ++ b ∷ []) p (Some d) o' (declared_stays s.metaframe bits (b ∷ []) p d is) is' in
          subst (λ (o : Option ℕ). Lives (Some d) o l (step_unless_lost s (bits ++ b ∷ []) p o l t)) same
          (busy_some d l is (lost_at_end s.metaframe bits b p (Some d) o' l is none is' lost))
      busy None None None is none is' lost = unchanged s (bits ++ b ∷ []) None None [] [] steps.Nothing refl refl refl
      busy None None (Some loss) is none is' lost =
          after_end p t ends loss (let e = lost_at_end s.metaframe bits b p None None (Some loss) is none is' lost loss refl in omega (arith, e, ends))
      busy None (Some d) None is none is' lost =
          after_declaration p t ends d (let e = declared_now s.metaframe bits b p d (is d) is' in omega (arith, e, ends)) is'
      busy None (Some d) (Some loss) is none is' lost = absurd (
          let at = declared_now s.metaframe bits b p d (is d) is' in
          let e = lost_at_end s.metaframe bits b p None (Some d) (Some loss) is none is' lost loss refl in
          let lt = lost_behind s.metaframe (bits ++ b ∷ []) p d loss.word loss.why lost.why in omega (arith, at, e, lt))

    -- where no word ends
    same_lock : (d : ℕ) → IsDeclared s.metaframe bits p d → ((t : ℕ) → p + 67 * t + 67 ≡ length bits + 1 → ⊥) →
        (length (bits ++ b ∷ []) - (p + 67 * d)) / 67 ≡ (length bits - (p + 67 * d)) / 67
    same_lock d is never =
        let l = len in
        let there = declared_here s.metaframe bits p d is in
        let no = never ((length bits + 1 - p) / 67 - 1) in
        elim (cases_lt ((length bits - (p + 67 * d)) / 67) ((length bits + 1 - (p + 67 * d)) / 67)) [
          | inl lt ↦ absurd (no (omega (arith, there, lt)))
          | inr le ↦ omega (arith, l, le)
        ]

    resting : (o : Option ℕ) → Declared s.metaframe bits p o → ((t : ℕ) → p + 67 * t + 67 ≡ length bits + 1 → ⊥) →
        (going (bits ++ b ∷ []) p o None ≡ going bits p o None) × (own s (bits ++ b ∷ []) p o None ≡ own s bits p o None)
    resting None is never = (refl, refl)
    resting (Some d) is never =
        let count = same_lock d is never in
        let there = declared_here s.metaframe bits p d is in (
          ap (λ n. Some (record { at = p + 67 * d; count = n; lost = false })) count,
          ap (λ n. flat_map (word_events s (bits ++ b ∷ []) (p + 67 * d)) (range_with_len 0 n) ++ []) count
              ∙ ap (λ xs. xs ++ []) (words_same s some bits (b ∷ []) (p + 67 * d) ((length bits - (p + 67 * d)) / 67) (omega (arith, there))),
        )

    none_ends : (t : ℕ) → p + 67 * t + 67 ≡ length bits + 1 → ends_word (bits ++ b ∷ []) p ≡ false → ⊥
    none_ends t ends e =
        let l = len in
        let le : nat_le (p + 67) (length (bits ++ b ∷ [])) ≡ true = le-leb (p + 67) (length (bits ++ b ∷ [])) (omega (arith, ends, l)) in
        let rest : (length (bits ++ b ∷ []) - (p + 67)) % 67 ≡ 0 = omega (arith, ends, l) in
        let sure : ends_word (bits ++ b ∷ []) p ≡ true = rw (le, rest) refl in
        false≢true (sym e ∙ sure)

    last_word : ends_word (bits ++ b ∷ []) p ≡ true → p + 67 * ((length (bits ++ b ∷ []) - (p + 67)) / 67) + 67 ≡ length bits + 1
    last_word e =
        let l = len in
        let parts = and_parts (nat_le (p + 67) (length (bits ++ b ∷ []))) ((length (bits ++ b ∷ []) - (p + 67)) % 67 == 0) e in
        let rest : (length (bits ++ b ∷ []) - (p + 67)) % 67 ≡ 0 = eqb-true ((length (bits ++ b ∷ []) - (p + 67)) % 67) 0 parts.1 in
        let le = leb-true (p + 67) (length (bits ++ b ∷ [])) parts.0 in
        omega (arith, l, rest, le)

    pub live : (o o' : Option ℕ) (l : Option Loss) → Declared s.metaframe bits p o → ((t : ℕ) → loss_at s.metaframe bits p o t ≡ None) →
        Declared s.metaframe (bits ++ b ∷ []) p o' → LostOr s.metaframe (bits ++ b ∷ []) p o' l →
        Lives o o' l (step_of_attempt s (bits ++ b ∷ []) (record { starts = p; declared = o'; lost = l }))
    live o o' l is none is' lost = split {b = ends_word (bits ++ b ∷ []) p}
        (λ e. (let t = (length (bits ++ b ∷ []) - (p + 67)) / 67 in
        subst (λ (step : LaneStep). Lives o o' l step) (sym (step_at s some bits b (record { starts = p; declared = o'; lost = l }) t (last_word e)))
        (busy t (last_word e) o o' l is none is' lost)))
        (λ e. (let never : (t : ℕ) → p + 67 * t + 67 ≡ length bits + 1 → ⊥ = (λ t ends. none_ends t ends e) in
        let same = idle_same s.metaframe bits b p never o (record { starts = p; declared = o'; lost = l }) refl is none (record { declared = is'; lost = lost }) in
        let rests = resting o is never in
        unchanged s (bits ++ b ∷ []) _ _ _ _ _
        (sym (ap (λ (a : Attempt). going (bits ++ b ∷ []) p a.declared a.lost) same) ∙ rests.0)
        (sym (ap (λ (a : Attempt). own s (bits ++ b ∷ []) p a.declared a.lost) same) ∙ rests.1)
        (step_idle s some bits b (record { starts = p; declared = o'; lost = l }) e)))
