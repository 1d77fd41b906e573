-- Answers of calls of `next`, one after another.
use Rattle.std.proofs.Common.{ℕ, ◌≡◌, ◌+◌, ◌<◌, ◌∙◌, refl, sym, ap, ap₂, subst, List, [], ◌∷◌, ◌++◌, length, take, drop, slice_set, Some, None, inl, inr, arith}
use Rattle.std.proofs.lemmas.List.{drop-drop, drop-set-lt, length-append, length-set, map-append, take-append-drop, take_more_set}
use Rattle.live_gatherer.specs.Calls.{IsNext}
use Rattle.live_gatherer.specs.declared.gatherer.LiveGatherer.{LiveGatherer}
use Rattle.live_gatherer.specs.declared.types.Gathered.{Gathered}
use Rattle.c_gatherer.specs.Many.{AreNexts, GivesMany, all_shown}
use Rattle.c_gatherer.specs.Shown.{shown}
use Rattle.c_gatherer.specs.declared.gathered.CGathered.{CGathered}

-- one call more
pub nexts_more : (answers : List Gathered) (g u h : LiveGatherer) (x : Gathered) → AreNexts g answers u → IsNext u h (Some x) → AreNexts g (answers ++ x ∷ []) h
nexts_more [] g u h x e n = (h, subst (λ (v : LiveGatherer). IsNext v h (Some x)) e n, refl)
nexts_more (a ∷ answers) g u h x (v, n', more) n = (v, n', nexts_more answers v u h x more n)

-- the answers so far are written, and what lies behind them is as it was
pub record AreWritten (answers : List Gathered) (before now : List CGathered) (count : ℕ) : Type 0 where
  pub long : length now ≡ length before
  pub counted : count ≡ length answers
  pub first : take count now ≡ all_shown answers
  pub behind : drop count now ≡ drop count before

pub written_more : (answers : List Gathered) (x : Gathered) (before now : List CGathered) (count : ℕ) → count < length before → AreWritten answers before now count →
    AreWritten (answers ++ x ∷ []) before (slice_set now count (shown (Some x))) (count + 1)
written_more answers x before now count lt w =
    let fits : count < length now = omega (arith, lt, w.long) in
    record {
      long = length-set now count (shown (Some x)) ∙ w.long;
      counted = (let e = length-append answers (x ∷ []) in let f = w.counted in omega (arith, e, f));
      first = take_more_set now count (shown (Some x)) fits ∙ ap (λ (l : List CGathered). l ++ shown (Some x) ∷ []) w.first ∙ sym (map-append (λ (y : Gathered). shown (Some y)) answers (x ∷ []));
      behind = drop-set-lt (count + 1) now count (shown (Some x)) (omega arith) ∙ sym (drop-drop 1 count now) ∙ ap (λ (l : List CGathered). drop 1 l) w.behind ∙ drop-drop 1 count before;
    }

pub written_all : (answers : List Gathered) (before now : List CGathered) (count : ℕ) → AreWritten answers before now count → now ≡ all_shown answers ++ drop count before
written_all answers before now count w = sym (take-append-drop count now) ∙ ap₂ (λ (a b : List CGathered). a ++ b) w.first w.behind

-- so many calls were made, and their answers are written
pub record HaveGiven (g u : LiveGatherer) (before now : List CGathered) (count : ℕ) : Type 0 where
  pub answers : List Gathered
  pub nexts : AreNexts g answers u
  pub written : AreWritten answers before now count

pub none_given : (g : LiveGatherer) (before : List CGathered) → HaveGiven g g before before 0
none_given g before = record { answers = []; nexts = refl; written = record { long = refl; counted = refl; first = refl; behind = refl } }

pub one_given : (g u h : LiveGatherer) (x : Gathered) (c : CGathered) (before now : List CGathered) (count : ℕ) → count < length before → HaveGiven g u before now count → IsNext u h (Some x) →
    c ≡ shown (Some x) → HaveGiven g h before (slice_set now count c) (count + 1)
one_given g u h x c before now count lt k n is = subst (λ (d : CGathered). HaveGiven g h before (slice_set now count d) (count + 1)) (sym is) record { answers = k.answers ++ x ∷ []; nexts = nexts_more k.answers g u h x k.nexts n; written = written_more k.answers x before now count lt k.written }

-- there is room for no more
pub full_given : (g h : LiveGatherer) (before now : List CGathered) (count : ℕ) → count ≡ length before → HaveGiven g h before now count → GivesMany g h before now count
full_given g h before now count e k = record {
  answers = k.answers;
  there = h;
  nexts = k.nexts;
  counted = k.written.counted;
  written = written_all k.answers before now count k.written;
  ends = inl (e, refl);
}

-- or another call answers none
pub none_left : (g u h : LiveGatherer) (before now : List CGathered) (count : ℕ) → HaveGiven g u before now count → IsNext u h None → GivesMany g h before now count
none_left g u h before now count k n = record {
  answers = k.answers;
  there = u;
  nexts = k.nexts;
  counted = k.written.counted;
  written = written_all k.answers before now count k.written;
  ends = inr n;
}
