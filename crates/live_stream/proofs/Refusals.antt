-- Why a packet is refused.
use Rattle.std.proofs.Common.{◌≡◌, ◌⊎◌, inl, inr, ℕ, zero, suc, ◌+◌, ◌<◌, ◌≤◌, Bool, true, false, ◌||◌, List, [], ◌∷◌, length, nat_eq, nat_lt, is_some, Option, Some, None, Result, Ok, Err, Contains, if◌then◌else◌, refl, sym, subst, arith}
use Rattle.std.specs.Option.{MatchOption}
use Rattle.std.specs.Result.{OnErr}
use Rattle.std.proofs.lemmas.Bool.{cases_eq}
use Rattle.std.proofs.lemmas.Bool.Decides.{nat_tests}
use Rattle.live_stream.specs.LiveStream.{Given}
use Rattle.stream_model.specs.BurstStream.{packets_of}
use Rattle.live_stream.specs.Gives.{is_among, local_refusal_of, refusal_of, refuses_packets, source_of}
use Rattle.live_stream.specs.Waiting.{bytes_in, most_bytes}
use Rattle.live_stream.specs.declared.refused.LocalRefused.TheVariants as local_refused
use Rattle.live_stream.specs.declared.refused.Refused.{Refused}
use Rattle.live_stream.specs.declared.refused.Refused.TheVariants as refused

pub among_not : (channels : List ℕ) (c : ℕ) → (Contains channels c → ⊥) → is_among channels c ≡ false
among_not [] c never = refl
among_not (d ∷ channels) c never =
    let other : nat_eq d c ≡ false = elim (cases_eq d c) [ inl e ↦ absurd (never (0, omega arith, e)) | inr ne ↦ grind (arith, nat_tests) ] in
    rw other (among_not channels c (λ i. never (suc i.0, omega (arith, i.1), i.2)))

among_here : (d c : ℕ) (channels : List ℕ) → d ≡ c → is_among (d ∷ channels) c ≡ true
among_here d c channels e = let same : nat_eq d c ≡ true = grind (arith, nat_tests) in rw same refl

among_later : (d c : ℕ) (channels : List ℕ) → is_among channels c ≡ true → is_among (d ∷ channels) c ≡ true
among_later d c channels e = by (nat_eq d c)
  where
    by : (b : Bool) → (if b then true else is_among channels c) ≡ true
    by true = refl
    by false = e

pub among_yes : (channels : List ℕ) (c : ℕ) → Contains channels c → is_among channels c ≡ true
among_yes [] c i = absurd (omega (arith, i.1))
among_yes (d ∷ channels) c (zero, h, e) = among_here d c channels e
among_yes (d ∷ channels) c (suc k, h, e) = among_later d c channels (among_yes channels c (k, omega arith, e))

module _ (g : Given) (c : ℕ) (bytes : List ℕ) (still : refuses_packets g ≡ false) where
  pub refused_unknown : (Contains g.channels c → ⊥) → refusal_of g c bytes ≡ Some refused.UnknownChannel
  refused_unknown never = rw (still, among_not g.channels c never) refl

  module _ (known : Contains g.channels c) where
    pub refused_empty : length bytes ≡ 0 → refusal_of g c bytes ≡ Some refused.Empty
    refused_empty none = let test : nat_lt (length bytes) 1 ≡ true = grind (arith, nat_tests) in rw (still, among_yes g.channels c known, test) refl

    module _ (some : 1 ≤ length bytes) where
      full : nat_lt (length bytes) 1 ≡ false
      full = grind (arith, nat_tests)

      pub refused_long : g.max_packet < length bytes → refusal_of g c bytes ≡ Some refused.TooLong
      refused_long long = let test : nat_lt g.max_packet (length bytes) ≡ true = grind (arith, nat_tests) in rw (still, among_yes g.channels c known, full, test) refl

      module _ (short : length bytes ≤ g.max_packet) where
        not_long : nat_lt g.max_packet (length bytes) ≡ false
        not_long = grind (arith, nat_tests)

        abbrev total : ℕ
        total = bytes_in (packets_of (source_of g) c) + length bytes

        pub refused_much : most_bytes < total → refusal_of g c bytes ≡ Some refused.TooMuch
        refused_much much = let test : nat_lt most_bytes total ≡ true = grind (arith, nat_tests) in rw (still, among_yes g.channels c known, full, not_long, test) refl

        pub not_refused : total ≤ most_bytes → refusal_of g c bytes ≡ None
        not_refused room = let test : nat_lt most_bytes total ≡ false = grind (arith, nat_tests) in rw (still, among_yes g.channels c known, full, not_long, test) refl

-- ---- no packet is given any more, or one may be

pub still_open : (g : Given) → refuses_packets g ≡ false → g.closed ≡ None
still_open g e = by g.packets_closed g.closed e
  where
    by : (b : Bool) (o : Option ℕ) → (b || is_some o) ≡ false → o ≡ None
    by b None e = refl
    by true (Some c) e = cc
    by false (Some c) e = cc

or_true : (b : Bool) → (b || true) ≡ true
or_true true = refl
or_true false = refl

-- of a stream that is closed the packets are, too
pub closed_refuses : (g : Given) (slot : ℕ) → g.closed ≡ Some slot → refuses_packets g ≡ true
closed_refuses g slot is = rw is (or_true g.packets_closed)

pub refused_closed : (g : Given) (c : ℕ) (bytes : List ℕ) → refuses_packets g ≡ true → refusal_of g c bytes ≡ Some refused.Closed
refused_closed g c bytes over = rw over refl

-- ---- a state of this end's own

module _ (g : Given) (c : ℕ) where
  pub local_closed : (slot : ℕ) → g.closed ≡ Some slot → local_refusal_of g c ≡ Some local_refused.Closed
  local_closed slot is = rw is refl

  pub local_unknown : g.closed ≡ None → (Contains g.channels c → ⊥) → local_refusal_of g c ≡ Some local_refused.UnknownChannel
  local_unknown still never = rw (still, among_not g.channels c never) refl

  pub local_known : g.closed ≡ None → Contains g.channels c → local_refusal_of g c ≡ None
  local_known still known = rw (still, among_yes g.channels c known) refl

-- ---- the answer of a call

pub answered : (o : Option Refused) (why : Refused) (r : Result (Unit {0}) Refused) → o ≡ Some why → r ≡ Err why → MatchOption o ((r ≡ Ok tt) ⊎ (r ≡ Err refused.OutOfMemory)) (λ y. r ≡ Err y)
answered o why r is e = subst (λ (p : Option Refused). MatchOption p ((r ≡ Ok tt) ⊎ (r ≡ Err refused.OutOfMemory)) (λ y. r ≡ Err y)) (sym is) e

pub taken : (o : Option Refused) (r : Result (Unit {0}) Refused) → o ≡ None → (r ≡ Ok tt) ⊎ (r ≡ Err refused.OutOfMemory) → MatchOption o ((r ≡ Ok tt) ⊎ (r ≡ Err refused.OutOfMemory)) (λ y. r ≡ Err y)
taken o r is e = subst (λ (p : Option Refused). MatchOption p ((r ≡ Ok tt) ⊎ (r ≡ Err refused.OutOfMemory)) (λ y. r ≡ Err y)) (sym is) e

pub on_err : {T E : Type 0} (r : Result T E) (P : Type 0) → P → OnErr r P
on_err (Ok x) P p = tt
on_err (Err e) P p = p
