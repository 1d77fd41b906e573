use Rattle.std.proofs.Common.{refl}
use Rattle.std.proofs.lemmas.Result.{err_from_is_err_and}
use Rattle.gather_commands.proofs.Stops.{same_files, words_stopped}
use Rattle.gather_commands.proofs.files.GatheredFiles.put_words.Goals as goal

pub returns-in_err-words_bytes-clause-puts : goal.returns-in_err-words_bytes-clause-puts
returns-in_err-words_bytes-clause-puts g c out before rows was h =
    let p = err_from_is_err_and c.from_residual.result c.from_residual.ensures.1 in
    rw (p.1, p.2) (words_stopped out before c.args.words.now rows c.args.self.now was _ h)

pub put_made-requires-clause-has : goal.put_made-requires-clause-has
put_made-requires-clause-has g c =
    let (out, before, rows, was, h) = c.requires.has in
    (out, before, rows, was, same_files out before rows c.args.self.now _ was _ refl refl h)

pub returns-clause-puts : goal.returns-clause-puts
returns-clause-puts g c out before rows was h =
    c.put_made.ensures.puts out before c.args.words.now rows was (same_files out before rows c.args.self.now _ was _ refl refl h) c.in_ok-words_bytes.ensures.file refl
