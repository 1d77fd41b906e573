use Rattle.std.proofs.Common.{◌≡◌, ℕ, ◌+◌, ◌<◌, length, ap, sym, ◌∙◌, arith, false, true, nat_lt, get_or, rules}
use Rattle.std.proofs.lemmas.List.{get_or_default}
use Rattle.std.proofs.lemmas.Bool.Decides.{nat_tests}
use Rattle.stream_model.specs.Calendar.{first_entry}
use Rattle.calendar.specs.Outgoing.{last_local}
use Rattle.calendar.proofs.States.{local_all}
use Rattle.calendar.proofs.outgoing.CalendarOut.bit.Goals as goal

pub returns-then-n-len : goal.returns-then-n-len
returns-then-n-len c entries local j t s all =
    let n : ℕ = c.args.self.now.first + c.args.place in
    let at : n ≡ first_entry entries j + c.args.place = ap (λ m. m + c.args.place) s.first in
    let within : n < length c.args.self.now.entries.items = omega arith in
    let test : nat_lt (first_entry entries j + c.args.place) (length entries) ≡ true = (let w : first_entry entries j + c.args.place < length entries = omega (arith, ap length s.shown) in grind (arith, nat_tests)) in
    let channel : c.index-channel.result.now ≡ get_or entries (first_entry entries j + c.args.place) 0 =
    c.index-channel.ensures ∙ get_or_default c.args.self.now.entries.items n c.index-channel.result.now 0 within ∙ ap (λ xs. get_or xs n 0) s.shown ∙ ap (λ m. get_or entries m 0) at in
    let small : c.index-channel.result.now < 65536 = omega arith in
    let below : c.index-channel.result.now < length c.args.self.now.on.items = omega (arith, s.wide) in
    rw test (c.index.ensures ∙ get_or_default c.args.self.now.on.items c.index-channel.result.now c.index.result.now false below ∙ s.states c.index-channel.result.now small
    ∙ ap (last_local local) channel ∙ sym (local_all local (get_or entries (first_entry entries j + c.args.place) 0) t all))

pub returns-else-n-len : goal.returns-else-n-len
returns-else-n-len c = search rules
