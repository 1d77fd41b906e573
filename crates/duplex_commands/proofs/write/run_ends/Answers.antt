use Rattle.std.proofs.Common.{◌≡◌, ◌≤◌, subst, refl, ℕ, arith}
use Rattle.std.proofs.lemmas.Result.{err_from_is_err_and}
use Rattle.lk_outside.specs.Files.{Told}
use Rattle.run_stops.specs.declared.stop.Stop.TheVariants as stop
use Rattle.run_shell.specs.Outcome.{Holds}
use Rattle.run_shell.specs.Outputs.{outs}
use Rattle.duplex_commands.specs.Captures.{given_of}
use Rattle.duplex_commands.proofs.Ends.{cut_writes, memory_cut, store_cut, run_writes}
use Rattle.duplex_commands.proofs.write.run_ends.Goals as goal

at_most : (n m : ℕ) → n ≡ m → m ≤ n
at_most n m e = omega arith

pub run_slots-requires-clause-at : goal.run_slots-requires-clause-at
run_slots-requires-clause-at g c = let (b, settings, ends, at, channels) = c.requires.at in (b, settings, ends, at)

pub returns-in_err-run_slots-clause-writes : goal.returns-in_err-run_slots-clause-writes
returns-in_err-run_slots-clause-writes g c b settings ends at channels last =
    let p = err_from_is_err_and c.from_residual.result c.from_residual.ensures.1 in
    rw (p.1, p.2) (cut_writes b settings ends c.args.slots c.in_err-run_slots.field-0.0 _ (at_most settings.slots c.args.slots last) (c.in_err-run_slots.ensures.takes b settings ends at))

pub text_of-requires-clause-given : goal.text_of-requires-clause-given
text_of-requires-clause-given g c = c.in_ok-run_slots.ensures.given

pub text_of-requires-clause-at : goal.text_of-requires-clause-at
text_of-requires-clause-at g c = let (b, settings, ends, at, channels) = c.requires.at in (b, settings, ends, g.S.Store.files c.run_slots.new.store, c.in_ok-run_slots.ensures.takes b settings ends at, channels)

pub returns-in_err-text-clause-writes : goal.returns-in_err-text-clause-writes
returns-in_err-text-clause-writes g c b settings ends at channels last =
    let r = c.from_residual-in_err-text in
    let p = err_from_is_err_and r.result r.ensures.1 in
    rw (p.1, p.2) (cut_writes b settings ends c.args.slots stop.OutOfMemory _ (at_most settings.slots c.args.slots last) (memory_cut b settings ends c.args.slots _ _ _ (c.in_ok-run_slots.ensures.takes b settings ends at)))

pub finish-requires-clause-differ : goal.finish-requires-clause-differ
finish-requires-clause-differ g c = let (b, settings, ends, at, channels) = c.requires.at in (c.in_ok-run_slots.ensures.takes b settings ends at).kept.differ

pub finish-requires-clause-open : goal.finish-requires-clause-open
finish-requires-clause-open g c =
    let (b, settings, ends, at, channels) = c.requires.at in
    let now = c.in_ok-run_slots.ensures.takes b settings ends at in
    (given_of b now.got_a now.got_b, b.was, now.kept.given)

pub returns-in_err-finish-clause-writes : goal.returns-in_err-finish-clause-writes
returns-in_err-finish-clause-writes g c b settings ends at channels last =
    let now = c.in_ok-run_slots.ensures.takes b settings ends at in
    let r = c.from_residual-in_err-finish in
    let p = err_from_is_err_and r.result r.ensures.1 in
    rw (p.1, p.2) (cut_writes b settings ends c.args.slots c.in_err-finish.field-0.0 _ (at_most settings.slots c.args.slots last)
    (store_cut b settings ends c.args.slots _ _ _ now c.in_err-finish.field-0.0 _ c.in_err-finish.ensures.stops (c.in_err-finish.ensures.closed (given_of b now.got_a now.got_b) b.was now.kept.given)))

pub returns-clause-writes : goal.returns-clause-writes
returns-clause-writes g c b settings ends at channels last =
    let now = c.in_ok-run_slots.ensures.takes b settings ends at in
    run_writes b settings ends c.args.slots _ _ _ now c.in_ok-run_slots.ensures.given last _ _ refl (c.in_ok-text.ensures b settings ends _ now channels last)
    (subst (λ ns. Told b.was (g.S.Store.files c.finish.new.store) (Holds (outs ns (given_of b now.got_a now.got_b)))) now.kept.names (c.in_ok-finish.ensures.closed (given_of b now.got_a now.got_b) b.was now.kept.given))
