-- How far the search of a lane is.
use Rattle.std.proofs.Common.{ℕ, ◌≡◌, refl, sym, ap, subst, ◌∙◌, Bool, Option, Some, None, List, [], ◌∷◌, ◌++◌, arith}
use Rattle.std.proofs.lemmas.List.{append-nil}
use Rattle.std.specs.Prelude.{if◌then◌else◌}
use Rattle.lk_base.specs.Link.{Settings}
use Rattle.lock_model.specs.declared.types.LaneState.TheVariants as states
use Rattle.lock_model.specs.Locks.{AreAttempts, Attempt, IsWordLock, Loss, next_search}
use Rattle.lock_model.specs.State.{state_after, state_of}
use Rattle.lock_model.proofs.Determined.{determined}
use Rattle.lane_lock.specs.Lane.{LaneView}
use Rattle.lane_lock.specs.Standing.{Chain, Holds, Hunts, IsState, Stands}
use Rattle.lane_lock.specs.Watching.{WatchesLock}
use Rattle.lane_lock.proofs.Chains.{chain_attempts}
use Rattle.lane_lock.proofs.Holding.{open_attempt}

state_of-last : (front : List Attempt) (a : Attempt) → state_of (front ++ a ∷ []) ≡ state_after a
state_of-last [] a = refl
state_of-last (x ∷ []) a = refl
state_of-last (x ∷ y ∷ rest) a = state_of-last (y ∷ rest) a

-- after an attempt that is lost the next search goes on
lost_state : (p m : ℕ) (declared : Option ℕ) (lost : Option Loss) → next_search p lost ≡ Some m →
    state_after (record { starts = p; declared = declared; lost = lost }) ≡ states.Searching
lost_state p m declared None e = absurd (cc)
lost_state p m declared (Some loss) e = refl

chain_state : (L : ℕ) (bits : List Bool) (first next : ℕ) (front : List Attempt) → Chain L bits first front next → state_of front ≡ states.Searching
chain_state L bits first next [] c = refl
chain_state L bits first next (a ∷ []) c = lost_state a.starts c.2 a.declared a.lost c.3
chain_state L bits first next (a ∷ b ∷ rest) c = chain_state L bits c.2 next (b ∷ rest) c.4

module _ (v : LaneView) (s : Settings) (bits : List Bool) (k : Stands v s bits) where
  over_now : Chain s.metaframe bits 0 k.front v.from
  over_now = subst (λ (xs : List Bool). Chain s.metaframe xs 0 k.front v.from) (append-nil bits) (k.over [])

  pub state_hunting : Hunts v s bits k.front → IsState s bits states.Searching
  state_hunting h attempts are =
      let mine : AreAttempts s.metaframe bits (k.front ++ []) = chain_attempts s.metaframe bits 0 v.from k.front [] over_now h.none in
      let e : k.front ≡ attempts = sym (append-nil k.front) ∙ determined s.metaframe bits (k.front ++ []) attempts mine are in
      sym (chain_state s.metaframe bits 0 v.from k.front over_now) ∙ ap state_of e

  pub state_held : Holds v s bits k.front → IsState s bits (if v.watch.declared then states.Declared else states.WordLock)
  state_held h attempts are =
      let n = h.next in
      let low = h.there in
      let high = h.short in
      let words : WatchesLock v.watch s bits h.p h.t h.declared = subst (λ (xs : List Bool). WatchesLock v.watch s xs h.p h.t h.declared) (append-nil bits) (h.words []) in
      let a : Attempt = record { starts = h.p; declared = h.declared; lost = None } in
      let lock = subst (λ (xs : List Bool). IsWordLock xs v.from h.p) (append-nil bits) (h.lock []) in
      let mine : AreAttempts s.metaframe bits (k.front ++ a ∷ []) =
      chain_attempts s.metaframe bits 0 v.from k.front (a ∷ []) over_now (lock, open_attempt v.watch s bits h.p h.t h.declared words (omega arith), tt) in
      ap (λ (x : Bool). if x then states.Declared else states.WordLock) words.is_declared
      ∙ sym (state_of-last k.front a) ∙ ap state_of (determined s.metaframe bits (k.front ++ a ∷ []) attempts mine are)
