-- A payload word with a legal header shows nothing but a balance.
use Rattle.std.proofs.Common.{ℕ, ◌≡◌, refl, sym, ap, ◌∙◌, ◌+◌, ◌-◌, ◌*◌, ◌%◌, ◌<◌, ◌==◌, ◌&&◌, cond, not, Bool, true, false, [], arith, ne_eqb}
use Rattle.std.specs.Prelude.{List, map}
use Rattle.std.proofs.lemmas.Bool.{and_parts, false≢true}
use Rattle.std.proofs.lemmas.Nat.{mod_below}
use Rattle.lk_base.specs.declared.word.RxWord.{RxWord}
use Rattle.lk_base.specs.declared.word.RxWord.TheVariants.{Data, Control, Bad}
use Rattle.lk_base.specs.Link.{Settings, IsLink}
use Rattle.lk_base.specs.Words.{is_bad}
use Rattle.lane_model.specs.declared.role.Role.{Role}
use Rattle.lane_model.specs.declared.role.Role.TheVariants as roles
use Rattle.lane_model.specs.Framing.{role_of}
use Rattle.lane_model.specs.Key.{key_place, key_word}
use Rattle.lock_model.specs.Locks.{loaded, word_at}
use Rattle.lock_model.specs.Received.{received_at, unscrambled, unscrambled_as}
use Rattle.lane_events.specs.declared.types.EventKind.{EventKind}
use Rattle.lane_events.specs.declared.types.EventKind.TheVariants as kinds
use Rattle.lane_events.specs.declared.types.LaneEvent.{LaneEvent}
use Rattle.lane_events.specs.Events.{all_kinds, has_event, is_skip_place, word_events}
use Rattle.lane_events.specs.Steps.{is_diagnostic_place, is_payload_place}
use Rattle.lane_events.proofs.Local.{filters_same}
use Rattle.lane_events.proofs.Telling.{last_place}

-- ---- the place of a payload word

first_not : (a : Bool) (x y : Role) → is_payload_place (cond a x y) ≡ true → is_payload_place x ≡ false → a ≡ false
first_not true x y h e = absurd (false≢true (sym e ∙ h))
first_not false x y h e = refl

second_not : (a b : Bool) (x y z : Role) → is_payload_place (cond a x (cond b y z)) ≡ true → is_payload_place x ≡ false → is_payload_place y ≡ false → b ≡ false
second_not true b x y z h e f = absurd (false≢true (sym e ∙ h))
second_not false b x y z h e f = first_not b y z h f

no_sync_place : (s : Settings) (p : ℕ) → is_payload_place (role_of s p) ≡ true → (p == 0) ≡ false
unfolding role_of
no_sync_place s p h = first_not (p == 0) roles.Sync _ h refl

no_state_place : (s : Settings) (p : ℕ) → is_payload_place (role_of s p) ≡ true → (p == 1) ≡ false
unfolding role_of
no_state_place s p h = second_not (p == 0) (p == 1) roles.Sync roles.State _ h refl refl

no_skip_place : (r : Role) → is_payload_place r ≡ true → is_skip_place r ≡ false
no_skip_place roles.Sync h = refl
no_skip_place roles.State h = refl
no_skip_place roles.Skip h = absurd (false≢true h)
no_skip_place (roles.Payload n) h = refl
no_skip_place roles.Diagnostic h = refl

no_diagnostic_place : (r : Role) → is_payload_place r ≡ true → is_diagnostic_place r ≡ false
no_diagnostic_place roles.Sync h = refl
no_diagnostic_place roles.State h = refl
no_diagnostic_place roles.Skip h = refl
no_diagnostic_place (roles.Payload n) h = refl
no_diagnostic_place roles.Diagnostic h = absurd (false≢true h)

no_last_place : (s : Settings) (p : ℕ) → IsLink s → p < s.metaframe → is_payload_place (role_of s p) ≡ true → (p == s.metaframe - 1) ≡ false
no_last_place s p link lt h = sym (last_place s p link lt) ∙ no_diagnostic_place (role_of s p) h

-- ---- a word is received Bad where it is Bad

bad_keyed : (key : ℕ) (word : RxWord) → is_bad (unscrambled key word) ≡ is_bad word
bad_keyed key (Data x) = refl
bad_keyed key (Control x) = refl
bad_keyed key Bad = refl

bad_as : (role : Role) (key : ℕ) (word : RxWord) → is_bad (unscrambled_as role key word) ≡ is_bad word
bad_as roles.Sync key word = refl
bad_as roles.State key word = refl
bad_as roles.Skip key word = bad_keyed key word
bad_as (roles.Payload n) key word = bad_keyed key word
bad_as roles.Diagnostic key word = bad_keyed key word

not_true : (b : Bool) → not b ≡ true → b ≡ false
not_true true h = absurd (false≢true h)
not_true false h = refl

-- ---- its events

module _ (s : Settings) (link : IsLink s) (bits : List Bool) (at r : ℕ) (some : 0 < r)
    (payload : is_payload_place (role_of s (r % s.metaframe)) ≡ true) (legal : is_bad (received_at s bits at r) ≡ false)
    (balanced : has_event s bits at r kinds.Balance ≡ false) where
  last_not : (r % s.metaframe == s.metaframe - 1) ≡ false
  last_not = let long = link.metaframe.0 in no_last_place s (r % s.metaframe) link (mod_below r s.metaframe (omega (arith, long))) payload

  no_kind : (kind : EventKind) → has_event s bits at r kind ≡ false
  no_kind kinds.Bad = sym (bad_as (role_of s (r % s.metaframe)) (key_word (loaded bits at) (key_place s.metaframe r)) (word_at bits (at + 67 * r))) ∙ legal
  no_kind kinds.Sync = rw (no_sync_place s (r % s.metaframe) payload) refl
  no_kind kinds.State = rw (no_state_place s (r % s.metaframe) payload) refl
  no_kind kinds.Skip = rw (no_skip_place (role_of s (r % s.metaframe)) payload) refl
  no_kind kinds.Diagnostic = rw last_not refl
  no_kind kinds.Health = rw last_not refl
  no_kind kinds.Balance = balanced
  no_kind kinds.Lock = ne_eqb r 0 (λ z. omega (arith, z, some))
  no_kind kinds.LostHeaders = refl
  no_kind kinds.LostSync = refl
  no_kind kinds.LostState = refl
  no_kind kinds.Unframed = refl

  pub no_events : word_events s bits at r ≡ []
  unfolding word_events
  no_events = ap (λ ks. map (λ (kind : EventKind). event (at + 67 * r) kind) ks) (filters_same (has_event s bits at r) (λ kind. false) all_kinds no_kind)
    where
      event : ℕ → EventKind → LaneEvent
      event bit kind = record { bit = bit; kind = kind }

-- the parts of being plain
pub plain_parts : (word : RxWord) (role : Role) → (is_payload_place role && not (is_bad word)) ≡ true → (is_payload_place role ≡ true) × (is_bad word ≡ false)
plain_parts word role h = let p = and_parts (is_payload_place role) (not (is_bad word)) h in (p.0, not_true (is_bad word) p.1)
