-- Many calls of `next` at once.
use Rattle.std.specs.Prelude.{ℕ, ◌≡◌, ◌⊎◌, List, [], ◌∷◌, ◌++◌, length, map, drop, Some, None}
use Rattle.live_gatherer.specs.Calls.{IsNext}
use Rattle.live_gatherer.specs.declared.gatherer.LiveGatherer.{LiveGatherer}
use Rattle.live_gatherer.specs.declared.types.Gathered.{Gathered}
use Rattle.c_gatherer.specs.Shown.{shown}
use Rattle.c_gatherer.specs.declared.gathered.CGathered.{CGathered}

-- calls of `next`, one after another, which answer these
abbrev pub AreNexts : LiveGatherer → List Gathered → LiveGatherer → Type 0
AreNexts g [] h = h ≡ g
AreNexts g (x ∷ answers) h = (u : LiveGatherer) × IsNext g u (Some x) × AreNexts u answers h

-- answers as C sees them
abbrev pub all_shown : List Gathered → List CGathered
all_shown answers = map (λ (x : Gathered). shown (Some x)) answers

-- The answers of calls of `next` are written, as many as there is room for, or up to the first none. What lies behind them stays
pub record GivesMany (g h : LiveGatherer) (before after : List CGathered) (count : ℕ) : Type 0 where
  pub answers : List Gathered
  -- the gatherer after the calls that answer these
  pub there : LiveGatherer
  pub nexts : AreNexts g answers there
  pub counted : count ≡ length answers
  pub written : after ≡ all_shown answers ++ drop count before
  -- there is room for no more; or another call answers none
  pub ends : ((count ≡ length before) × (h ≡ there)) ⊎ IsNext there h None
