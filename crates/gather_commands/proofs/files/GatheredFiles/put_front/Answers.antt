use Rattle.std.proofs.Common.{◌∙◌, sym, refl}
use Rattle.std.proofs.lemmas.Result.{err_from_is_err_and}
use Rattle.gather_commands.proofs.Stops.{same_files, words_stopped}
use Rattle.rx_front.proofs.Waiting.{as_many}
use Rattle.rx_front.specs.Waiting.{words_in}
use Rattle.gather_commands.proofs.files.GatheredFiles.put_front.Goals as goal

pub returns-in_err-front_bytes-clause-puts : goal.returns-in_err-front_bytes-clause-puts
returns-in_err-front_bytes-clause-puts g c out before rows was h =
    let p = err_from_is_err_and c.from_residual.result c.from_residual.ensures.1 in
    rw (p.1, p.2) (words_stopped out before (words_in c.args.front.now.waiting) rows c.args.self.now was _ h)

pub put_made-requires-clause-has : goal.put_made-requires-clause-has
put_made-requires-clause-has g c =
    let (out, before, rows, was, h) = c.requires.has in
    (out, before, rows, was, same_files out before rows c.args.self.now _ was _ refl refl h)

pub returns-clause-puts : goal.returns-clause-puts
returns-clause-puts g c out before rows was h =
    let at = c.at.result in
    let waiting = c.args.front.now.waiting in
    c.put_made.ensures.puts out before (words_in waiting) rows was (same_files out before rows c.args.self.now _ was _ refl refl h) c.in_ok-front_bytes.ensures.file (c.len.ensures.count ∙ sym (as_many at.group at.index waiting c.at.ensures.waiting))
