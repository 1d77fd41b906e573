use Rattle.std.proofs.Common.{ℕ, List, ◌≡◌, ◌==◌, ◌++◌, drop, length, true, refl, sym, ap, ◌∙◌, Err}
use Rattle.std.proofs.lemmas.Result.{err_from_is_err_and}
use Rattle.run_stops.specs.declared.stop.Stop.TheVariants as stop
use Rattle.run_shell.proofs.Appends.{behind_none, of_equal, pieces_as, pieces_only, put_none}
use Rattle.run_shell.proofs.appending.put_after.Goals as goal

pub append_pieces-requires-clause-count : goal.append_pieces-requires-clause-count
append_pieces-requires-clause-count g c = c.requires.count

pub append_pieces-requires-clause-there : goal.append_pieces-requires-clause-there
append_pieces-requires-clause-there g c = c.requires.there

pub returns-in_err-whole-clause-cause : goal.returns-in_err-whole-clause-cause
returns-in_err-whole-clause-cause g c =
    let p = err_from_is_err_and c.from_residual.result c.from_residual.ensures.1 in
    rw (p.1, p.2) c.in_err-whole.ensures.cause

pub returns-in_err-whole-clause-stops : goal.returns-in_err-whole-clause-stops
returns-in_err-whole-clause-stops g c =
    let p = err_from_is_err_and c.from_residual.result c.from_residual.ensures.1 in
    rw (p.1, p.2) c.in_err-whole.ensures.stops

pub returns-in_err-whole-clause-shortened : goal.returns-in_err-whole-clause-shortened
returns-in_err-whole-clause-shortened g c =
    let items : List ℕ = c.args.rest.now.items in
    let all : c.args.bytes.now ≡ items ++ c.args.bytes.now = behind_none items c.args.bytes.now (ap (λ n. n == 0) (sym c.args.rest.now.ok.0) ∙ sym c.if-is_empty.ensures) in
    let p = err_from_is_err_and c.from_residual.result c.from_residual.ensures.1 in
    rw p.1 (of_equal {T = Unit {0}} c.args.name.now _ _ (Err stop.OutOfMemory) (λ _. items) _ _ all c.in_err-whole.ensures.pieces)

pub returns-in_err-extend_from_slice-clause-cause : goal.returns-in_err-extend_from_slice-clause-cause
returns-in_err-extend_from_slice-clause-cause g c =
    let r = c.from_residual-in_err-extend_from_slice in
    let p = err_from_is_err_and r.result r.ensures.1 in
    rw (p.1, p.2) c.in_ok-whole.ensures.cause

pub returns-in_err-extend_from_slice-clause-stops : goal.returns-in_err-extend_from_slice-clause-stops
returns-in_err-extend_from_slice-clause-stops g c =
    let r = c.from_residual-in_err-extend_from_slice in
    let p = err_from_is_err_and r.result r.ensures.1 in
    rw (p.1, p.2) tt

pub returns-in_err-extend_from_slice-clause-shortened : goal.returns-in_err-extend_from_slice-clause-shortened
returns-in_err-extend_from_slice-clause-shortened g c =
    let items : List ℕ = c.args.rest.now.items in
    let all : c.args.bytes.now ≡ items ++ c.args.bytes.now = behind_none items c.args.bytes.now (ap (λ n. n == 0) (sym c.args.rest.now.ok.0) ∙ sym c.if-is_empty.ensures) in
    let r = c.from_residual-in_err-extend_from_slice in
    let p = err_from_is_err_and r.result r.ensures.1 in
    rw p.1 (pieces_only c.args.name.now _ _ _ _ (pieces_as c.args.name.now _ _ _ _ _ _ all refl c.in_ok-whole.ensures.pieces))

pub returns-then-is_empty-clause-cause : goal.returns-then-is_empty-clause-cause
returns-then-is_empty-clause-cause g c = c.in_ok-whole.ensures.cause

pub returns-then-is_empty-clause-stops : goal.returns-then-is_empty-clause-stops
returns-then-is_empty-clause-stops g c = tt

pub returns-then-is_empty-clause-shortened : goal.returns-then-is_empty-clause-shortened
returns-then-is_empty-clause-shortened g c =
    let items : List ℕ = c.args.rest.now.items in
    let none : (length items == 0) ≡ true = ap (λ n. n == 0) (sym c.args.rest.now.ok.0) ∙ sym c.if-is_empty.ensures in
    let left = behind_none items (drop c.in_ok-whole.whole c.args.bytes.now) none ∙ ap (λ t. items ++ t) (sym c.tail.ensures) ∙ sym c.in_ok-extend_from_slice.ensures.items in
    pieces_as c.args.name.now _ _ _ _ _ _ (behind_none items c.args.bytes.now none) left c.in_ok-whole.ensures.pieces

pub returns-in_err-extend_from_slice-2-clause-cause : goal.returns-in_err-extend_from_slice-2-clause-cause
returns-in_err-extend_from_slice-2-clause-cause g c =
    let r = c.from_residual-in_err-extend_from_slice-2 in
    let p = err_from_is_err_and r.result r.ensures.1 in
    rw (p.1, p.2) refl

pub returns-in_err-extend_from_slice-2-clause-stops : goal.returns-in_err-extend_from_slice-2-clause-stops
returns-in_err-extend_from_slice-2-clause-stops g c =
    let r = c.from_residual-in_err-extend_from_slice-2 in
    let p = err_from_is_err_and r.result r.ensures.1 in
    rw (p.1, p.2) tt

pub returns-in_err-extend_from_slice-2-clause-shortened : goal.returns-in_err-extend_from_slice-2-clause-shortened
returns-in_err-extend_from_slice-2-clause-shortened g c =
    let r = c.from_residual-in_err-extend_from_slice-2 in
    let p = err_from_is_err_and r.result r.ensures.1 in
    rw p.1 (put_none c.args.name.now _ _ c.requires.there)

pub shorten_rest-requires-clause-count : goal.shorten_rest-requires-clause-count
shorten_rest-requires-clause-count g c = c.requires.count

pub shorten_rest-requires-clause-there : goal.shorten_rest-requires-clause-there
shorten_rest-requires-clause-there g c = c.requires.there

pub returns-clause-cause : goal.returns-clause-cause
returns-clause-cause g c = c.shorten_rest.ensures.cause

pub returns-clause-stops : goal.returns-clause-stops
returns-clause-stops g c = c.shorten_rest.ensures.stops

pub returns-clause-shortened : goal.returns-clause-shortened
returns-clause-shortened g c =
    of_equal c.args.name.now _ _ c.shorten_rest.result (λ _. c.shorten_rest.new.rest.items) _ _ c.in_ok-extend_from_slice-2.ensures.items c.shorten_rest.ensures.shortened
