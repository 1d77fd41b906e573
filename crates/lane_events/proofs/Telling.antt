-- The events that a step tells of are those of its word.
use Rattle.std.proofs.Common.{ℕ, ◌≡◌, refl, ap, ◌∙◌, ◌+◌, ◌-◌, ◌*◌, ◌/◌, ◌%◌, ◌<◌, ◌==◌, ◌&&◌, cond, not, Bool, true, false, List, [], ◌∷◌, ◌++◌, map, arith, eqb-true, eq-eqb, ne_eqb}
use Rattle.std.specs.Prelude.{nat_le}
use Rattle.std.proofs.lemmas.Bool.{false≢true, leb-false, leb-true, true≢false}
use Rattle.std.proofs.lemmas.Nat.{mod_below}
use Rattle.lk_base.specs.Checksum.{digit}
use Rattle.lk_base.specs.Link.{Settings, IsLink}
use Rattle.lane_model.specs.Framing.{role_of}
use Rattle.lane_model.proofs.Numbers.{split}
use Rattle.lock_model.specs.declared.types.LaneReport.{LaneReport}
use Rattle.lock_model.specs.declared.types.LostWhy.{LostWhy}
use Rattle.lock_model.specs.declared.types.LostWhy.TheVariants as whys
use Rattle.lock_model.specs.Received.{received_at}
use Rattle.lock_model.specs.Report.{has_right_diagnostic}
use Rattle.lane_events.specs.declared.types.EventKind.{EventKind}
use Rattle.lane_events.specs.declared.types.EventKind.TheVariants as kinds
use Rattle.lane_events.specs.declared.types.LaneEvent.{LaneEvent}
use Rattle.lane_events.specs.EventLaw.{AreCounted, count_of, kind_place}
use Rattle.lane_events.specs.Events.{all_kinds, has_event, is_unhealthy, loss_kind, word_events}
use Rattle.lane_events.specs.Steps.{covered_has, event_of, events_at, is_diagnostic_place}
use Rattle.lane_events.proofs.Counts.{count_append, count_cons, count_word}
use Rattle.lane_events.proofs.Local.{filters_same}

-- a count that has risen by one, or not
flag : (a b : ℕ) (x : Bool) → a ≡ b + digit x → not (a == b) ≡ x
flag a b true e = let f : (a == b) ≡ false = ne_eqb a b (λ g. omega (arith, e, g)) in rw f refl
flag a b false e = let f : (a == b) ≡ true = eq-eqb a b (omega (arith, e)) in rw f refl

-- the counts of the events before and after
risen : (kind : EventKind) (old new : List LaneEvent) (a b : ℕ) → count_of kind old ≡ b → count_of kind (old ++ new) ≡ a → a ≡ b + count_of kind new
risen kind old new a b e f = let g = count_append kind old new in omega (arith, e, f, g)

-- ---- a covered word

-- the last place of a metaframe is that of its Diagnostic word
pub last_place : (s : Settings) (p : ℕ) → IsLink s → p < s.metaframe → is_diagnostic_place (role_of s p) ≡ (p == s.metaframe - 1)
unfolding role_of
last_place s p link lt =
    let long = link.metaframe.0 in
    let few = link.skips.1 in
    split {b = p == 0}
    (λ t. (let z = eqb-true p 0 t in let n = ne_eqb p (s.metaframe - 1) (λ e. omega (arith, e, z, long)) in rw (t, n) refl))
    (λ f. split {b = p == 1}
    (λ t. (let z = eqb-true p 1 t in let n = ne_eqb p (s.metaframe - 1) (λ e. omega (arith, e, z, long)) in rw (f, t, n) refl))
    (λ g. split {b = nat_le p (s.skips + 1)}
    (λ t. (let z = leb-true p (s.skips + 1) t in let n = ne_eqb p (s.metaframe - 1) (λ e. omega (arith, e, z, long, few)) in rw (f, g, t, n) refl))
    (λ h. split {b = nat_le p (s.metaframe - 2)}
    (λ t. (let z = leb-true p (s.metaframe - 2) t in let n = ne_eqb p (s.metaframe - 1) (λ e. omega (arith, e, z, long)) in rw (f, g, h, t, n) refl))
    (λ k. (let z = leb-false p (s.metaframe - 2) k in let n = eq-eqb p (s.metaframe - 1) (omega (arith, z, long, lt)) in rw (f, g, h, k, n) refl)))))

-- whether the count of wrong Diagnostic words has not risen, and the word is one
health_is : (here right unhealthy same : Bool) → not same ≡ (here && not right) → (here && same && unhealthy) ≡ (here && right && unhealthy)
health_is true true unhealthy true e = refl
health_is true true unhealthy false e = absurd (true≢false e)
health_is true false unhealthy true e = absurd (false≢true e)
health_is true false unhealthy false e = refl
health_is false right unhealthy same e = refl

module _ (s : Settings) (bits : List Bool) (link : IsLink s) (at r : ℕ) (old : List LaneEvent) (before after : LaneReport)
    (counts_before : AreCounted old before) (counts_after : AreCounted (old ++ word_events s bits at r) after) (unbalances : Bool)
    (balance_is : unbalances ≡ has_event s bits at r kinds.Balance) where
  abbrev has : EventKind → Bool
  has = covered_has (received_at s bits at r) (role_of s (r % s.metaframe)) before after unbalances

  risen_by : (kind : EventKind) (a b : ℕ) → count_of kind old ≡ b → count_of kind (old ++ word_events s bits at r) ≡ a → not (a == b) ≡ has_event s bits at r kind
  risen_by kind a b e f = flag a b (has_event s bits at r kind) (risen kind old (word_events s bits at r) a b e f ∙ ap (λ n. b + n) (count_word s bits at r kind))

  kinds_are : (kind : EventKind) → has kind ≡ has_event s bits at r kind
  kinds_are kinds.Bad = risen_by kinds.Bad after.bad before.bad counts_before.bad counts_after.bad
  kinds_are kinds.Sync = risen_by kinds.Sync after.sync before.sync counts_before.sync counts_after.sync
  kinds_are kinds.State = risen_by kinds.State after.state before.state counts_before.state counts_after.state
  kinds_are kinds.Skip = refl
  kinds_are kinds.Diagnostic = risen_by kinds.Diagnostic after.diag before.diag counts_before.diag counts_after.diag
  kinds_are kinds.Health =
      let long = link.metaframe.0 in
      ap (λ b. b && (after.diag == before.diag) && is_unhealthy (received_at s bits at r)) (last_place s (r % s.metaframe) link (mod_below r s.metaframe (omega (arith, long))))
      ∙ health_is (r % s.metaframe == s.metaframe - 1) (has_right_diagnostic s bits at (r / s.metaframe)) (is_unhealthy (received_at s bits at r)) (after.diag == before.diag)
      (risen_by kinds.Diagnostic after.diag before.diag counts_before.diag counts_after.diag)
  kinds_are kinds.Balance = balance_is
  kinds_are kinds.Lock = risen_by kinds.Lock after.locks before.locks counts_before.locks counts_after.locks
  kinds_are kinds.LostHeaders = refl
  kinds_are kinds.LostSync = refl
  kinds_are kinds.LostState = refl
  kinds_are kinds.Unframed = refl

  pub covered_told : events_at (at + 67 * r) has ≡ word_events s bits at r
  unfolding word_events
  covered_told = ap (λ ks. map (event_of (at + 67 * r)) ks) (filters_same has (has_event s bits at r) all_kinds kinds_are)

-- ---- a losing word

-- the loss is that of a search where the losses of searches have risen
loss_in : (declared : Bool) (why : LostWhy) (same : Bool) → not same ≡ (kind_place (loss_kind declared why) == 11) → loss_kind same why ≡ loss_kind declared why
loss_in true whys.Headers true e = refl
loss_in true whys.Headers false e = absurd (true≢false e)
loss_in true whys.Sync true e = refl
loss_in true whys.Sync false e = absurd (true≢false e)
loss_in true whys.State true e = refl
loss_in true whys.State false e = absurd (true≢false e)
loss_in true whys.Unframed true e = refl
loss_in true whys.Unframed false e = refl
loss_in false why true e = absurd (false≢true e)
loss_in false why false e = refl

pub lost_told : (at : ℕ) (declared : Bool) (why : LostWhy) (old : List LaneEvent) (before after : LaneReport) → AreCounted old before →
    AreCounted (old ++ event_of at (loss_kind declared why) ∷ []) after →
    event_of at (loss_kind (after.unframed == before.unframed) why) ∷ [] ≡ event_of at (loss_kind declared why) ∷ []
lost_told at declared why old before after b a =
    let e : LaneEvent = event_of at (loss_kind declared why) in
    let c = count_cons kinds.Unframed e [] in
    let d : count_of kinds.Unframed (e ∷ []) ≡ digit (kind_place (loss_kind declared why) == 11) = c ∙ once (kind_place (loss_kind declared why) == 11) in
    ap (λ (kind : EventKind). event_of at kind ∷ []) (loss_in declared why (after.unframed == before.unframed)
    (flag after.unframed before.unframed (kind_place (loss_kind declared why) == 11) (risen kinds.Unframed old (e ∷ []) after.unframed before.unframed b.unframed a.unframed ∙ ap (λ n. before.unframed + n) d)))
  where
    once : (b : Bool) → cond b 1 0 + 0 ≡ digit b
    once true = refl
    once false = refl
