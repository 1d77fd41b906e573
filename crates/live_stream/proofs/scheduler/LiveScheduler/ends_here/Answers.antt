use Rattle.std.proofs.Common.{◌≡◌, ◌∙◌, ◌+◌, ◌*◌, ◌/◌, ℕ, Bool, true, false, nat_eq, List, Some, None, refl, sym, ap, eqb-true, eq-eqb}
use Rattle.std.specs.Bool.{MatchBool}
use Rattle.lk_base.specs.declared.word.Word.{Word}
use Rattle.live_stream.specs.LiveStream.{Given, IsWholeLiveStream}
use Rattle.live_stream.specs.Gives.{Gives, MayGoOn}
use Rattle.live_stream.specs.declared.scheduler.LiveScheduler.{LiveScheduler}
use Rattle.live_stream.proofs.Ends.{whole_of, not_whole}
use Rattle.live_stream.proofs.scheduler.LiveScheduler.ends_here.Goals as goal

by_test : (m n : ℕ) (P Q : Type 0) → (m ≡ n → P) → ((m ≡ n → ⊥) → Q) → MatchBool (nat_eq m n) P Q
by_test m n P Q here past = by (nat_eq m n) refl
  where
    by : (b : Bool) → nat_eq m n ≡ b → MatchBool b P Q
    by true e = here (eqb-true m n e)
    by false e = past (λ same. let t : false ≡ true = sym e ∙ eq-eqb m n same in cc)

ends : (s : LiveScheduler) (g : Given) (w : List Word) (z : ℕ) → Gives s g w → s.finish ≡ Some z → MatchBool (nat_eq s.slot (s.group * (z / s.group + 2))) (IsWholeLiveStream g w) ((IsWholeLiveStream g w → ⊥) × MayGoOn s)
ends s g w z h found = by_test s.slot (s.group * (z / s.group + 2)) (IsWholeLiveStream g w) ((IsWholeLiveStream g w → ⊥) × MayGoOn s)
    (λ e. whole_of s g w h z found (sym h.words.slot ∙ e ∙ ap (λ n. n * (z / n + 2)) h.words.settings.group))
    (λ ne. (not_whole s g w h (going ne), going ne))
  where
    going : (s.slot ≡ s.group * (z / s.group + 2) → ⊥) → MayGoOn s
    going ne y e at = let same : y ≡ z = (let f : Some y ≡ Some z = sym e ∙ found in cc) in ne (at ∙ ap (λ n. s.group * (n / s.group + 2)) same)

goes_on : (s : LiveScheduler) → s.finish ≡ None → MayGoOn s
goes_on s none z e at = let no : None ≡ Some z = sym none ∙ e in cc

pub returns-in-Some : goal.returns-in-Some
returns-in-Some c g w h = ends c.args.self.now g w c.in-Some.z h c.in-Some.is

pub returns-in-None : goal.returns-in-None
returns-in-None c g w h = (not_whole c.args.self.now g w h (goes_on c.args.self.now c.in-None.is), goes_on c.args.self.now c.in-None.is)
