use Rattle.std.proofs.Common.{◌∙◌, ◌++◌, length-append, refl, arith}
use Rattle.std.proofs.lemmas.Result.{err_from_is_err_and}
use Rattle.gather_commands.proofs.Stops.{grown_puts, opens_differ, two_opens, words_given, words_stopped}
use Rattle.gather_commands.proofs.files.GatheredFiles.put_made.Goals as goal

pub returns-in_err-self-clause-puts : goal.returns-in_err-self-clause-puts
returns-in_err-self-clause-puts g c out before more rows was h made many =
    let p = err_from_is_err_and c.from_residual.result c.from_residual.ensures.1 in
    rw (p.1, p.2) (words_stopped out before more rows c.args.self.now was _ h)

pub put-requires-clause-place : goal.put-requires-clause-place
put-requires-clause-place g c =
    let (out, before, rows, was, h) = c.requires.has in
    let two = two_opens out c.args.self.now.outputs h.names in
    omega (arith, two)

pub put-requires-clause-differ : goal.put-requires-clause-differ
put-requires-clause-differ g c =
    let (out, before, rows, was, h) = c.requires.has in
    opens_differ out c.args.self.now.outputs h.names

pub put-requires-clause-open : goal.put-requires-clause-open
put-requires-clause-open g c =
    let (out, before, rows, was, h) = c.requires.has in
    (_, was, h.given)

pub returns-clause-puts : goal.returns-clause-puts
returns-clause-puts g c out before more rows was h made many =
    let bytes = c.deref.ensures.value ∙ made in
    let added = length-append before more in
    let had = h.count in
    let sum = c.in_ok-self.ensures in
    grown_puts out (before ++ more) rows c.args.self.now.outputs c.put.new.self _ was _ h.names (words_given before more rows _ bytes) c.put.result _ refl (omega (arith, added, had, sum, many)) c.put.ensures.names c.put.ensures.stops
    (c.put.ensures.grown _ was h.given)
