use Rattle.std.proofs.Common.{◌∙◌, [], ◌∷◌, ◌++◌, refl, arith}
use Rattle.std.proofs.lemmas.Result.{err_from_is_err_and}
use Rattle.gather_commands.proofs.Stops.{grown_puts, opens_differ, rows_given, rows_stopped, two_opens}
use Rattle.gather_commands.proofs.files.GatheredFiles.put_row.Goals as goal

pub returns-in_err-bytes-clause-puts : goal.returns-in_err-bytes-clause-puts
returns-in_err-bytes-clause-puts g c out words rows was h =
    let p = err_from_is_err_and c.from_residual.result c.from_residual.ensures.1 in
    rw (p.1, p.2) (rows_stopped out words rows (c.args.row.now ∷ []) c.args.self.now was _ h)

pub put-requires-clause-place : goal.put-requires-clause-place
put-requires-clause-place g c =
    let (out, words, rows, was, h) = c.requires.has in
    let two = two_opens out c.args.self.now.outputs h.names in
    omega (arith, two)

pub put-requires-clause-differ : goal.put-requires-clause-differ
put-requires-clause-differ g c =
    let (out, words, rows, was, h) = c.requires.has in
    opens_differ out c.args.self.now.outputs h.names

pub put-requires-clause-open : goal.put-requires-clause-open
put-requires-clause-open g c =
    let (out, words, rows, was, h) = c.requires.has in
    (_, was, h.given)

pub returns-clause-puts : goal.returns-clause-puts
returns-clause-puts g c out words rows was h =
    let bytes = c.deref.ensures.value ∙ c.in_ok-bytes.ensures in
    grown_puts out words (rows ++ c.args.row.now ∷ []) c.args.self.now.outputs c.put.new.self _ was _ h.names (rows_given words rows (c.args.row.now ∷ []) _ bytes) c.put.result _ refl h.count c.put.ensures.names c.put.ensures.stops
    (c.put.ensures.grown _ was h.given)
