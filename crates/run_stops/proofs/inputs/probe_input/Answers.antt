use Rattle.std.proofs.Common.{◌≡◌, ◌<◌, ◌∙◌, ℕ, subst, arith, length, IfSome, Ok, Err}
use Rattle.std.proofs.lemmas.Bool.Decides.{nat_tests}
use Rattle.std.proofs.lemmas.Result.{err_from_is_err_and}
use Rattle.run_stops.specs.Reading.{ReadsPiece}
use Rattle.run_stops.specs.Stops.{StopCount}
use Rattle.run_stops.proofs.Pieces.{no_byte_past}
use Rattle.run_stops.proofs.inputs.probe_input.Goals as goal

pub returns-clause-probes : goal.returns-clause-probes
returns-clause-probes g c =
    let past = c.in_ok-past.past in
    let buf = c.read_piece-2.new.buf in
    let not_past = c.if-past-gt0.false in
    let none : past ≡ 0 = grind (arith, nat_tests) in
    let room : 0 < length buf = omega arith in
    no_byte_past c.args.name.now c.args.limit past buf none room _
    (subst (λ z. IfSome z (ReadsPiece (Ok past) c.args.name.now c.args.limit buf)) c.in_ok-read_piece.ensures.unchanged c.in_ok-past.ensures.reads)

pub returns-in_err-read_piece-clause-cause : goal.returns-in_err-read_piece-clause-cause
returns-in_err-read_piece-clause-cause g c =
    let r = c.from_residual in
    let p = err_from_is_err_and r.result r.ensures.1 in
    rw (p.1, p.2) c.in_err-read_piece.ensures.cause

pub returns-in_err-read_piece-clause-unchanged : goal.returns-in_err-read_piece-clause-unchanged
returns-in_err-read_piece-clause-unchanged g c = c.in_err-read_piece.ensures.unchanged

pub returns-in_err-past-clause-cause : goal.returns-in_err-past-clause-cause
returns-in_err-past-clause-cause g c =
    let r = c.from_residual-in_err-past in
    let p = err_from_is_err_and r.result r.ensures.1 in
    rw (p.1, p.2) (subst (λ (n : ℕ). StopCount {T = ℕ} (Err c.in_err-past.field-0.0) n (g.S.Store.faults c.read_piece-2.new.store)) c.in_ok-read_piece.ensures.cause c.in_err-past.ensures.cause)

pub returns-in_err-past-clause-unchanged : goal.returns-in_err-past-clause-unchanged
returns-in_err-past-clause-unchanged g c = c.in_err-past.ensures.unchanged ∙ c.in_ok-read_piece.ensures.unchanged

pub returns-then-past-gt0-clause-unchanged : goal.returns-then-past-gt0-clause-unchanged
returns-then-past-gt0-clause-unchanged g c = c.in_ok-past.ensures.unchanged ∙ c.in_ok-read_piece.ensures.unchanged

pub returns-clause-cause : goal.returns-clause-cause
returns-clause-cause g c = c.in_ok-past.ensures.cause ∙ c.in_ok-read_piece.ensures.cause

pub returns-clause-unchanged : goal.returns-clause-unchanged
returns-clause-unchanged g c = c.in_ok-past.ensures.unchanged ∙ c.in_ok-read_piece.ensures.unchanged
