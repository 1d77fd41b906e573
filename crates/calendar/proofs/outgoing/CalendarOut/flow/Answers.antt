use Rattle.std.proofs.Common.{◌≡◌, ℕ, ◌+◌, ◌-◌, ◌==◌, ap, ◌∙◌, arith, Bool, true, false, if◌then◌else◌, refl, sym, length, nat_lt, slice_index}
use Rattle.std.specs.Int.{bit_at}
use Rattle.std.proofs.lemmas.Nat.Bits.{bit_at_ones}
use Rattle.stream_model.specs.Calendar.{first_entry, calendar_bit, is_locally_on}
use Rattle.calendar.proofs.States.{local_all}
use Rattle.calendar.proofs.outgoing.CalendarOut.flow.Goals as goal

pub returns-then-self : goal.returns-then-self
returns-then-self c entries local j t i s all h =
    let one : bit_at 65535 (15 - i) ≡ 1 = bit_at_ones 16 (15 - i) (omega arith) in
    let channel : ℕ = slice_index entries (first_entry entries j + i) in
    let on : is_locally_on local channel t ≡ true = local_all local channel t all ∙ s.same c.if-self.true channel in
    let bit : calendar_bit entries local j t i ≡ true = by (nat_lt (first_entry entries j + i) (length entries)) (is_locally_on local channel t) on in
    ap (λ n. n == 1) one ∙ sym bit
  where
    by : (b x : Bool) → x ≡ true → (if b then x else true) ≡ true
    by true x e = e
    by false x e = refl
