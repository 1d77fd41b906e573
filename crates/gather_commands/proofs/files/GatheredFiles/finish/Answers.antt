use Rattle.std.proofs.Common.{refl}
use Rattle.std.proofs.lemmas.Result.{err_from_is_err_and}
use Rattle.gather_commands.proofs.Stops.{opens_differ}
use Rattle.gather_commands.proofs.Finishing.{all_written, part_written}
use Rattle.gather_commands.proofs.files.GatheredFiles.finish.Goals as goal

pub finish-requires-clause-differ : goal.finish-requires-clause-differ
finish-requires-clause-differ g c =
    let (out, words, rows, was, h) = c.requires.has in
    opens_differ out c.args.self.now.outputs h.names

pub returns-in_err-finish-clause-writes : goal.returns-in_err-finish-clause-writes
returns-in_err-finish-clause-writes g c out words rows was h =
    let p = err_from_is_err_and c.from_residual.result c.from_residual.ensures.1 in
    rw (p.1, p.2) (part_written out c.args.text.items words rows c.args.self.now was _ h (Unit {0}) c.in_err-finish.field-0.0 _ c.in_err-finish.ensures.stops (c.in_err-finish.ensures.closed _ was h.given))

pub returns-clause-writes : goal.returns-clause-writes
returns-clause-writes g c out words rows was h =
    all_written out c.args.text.items words rows c.args.self.now was _ h _ _ refl refl (c.in_ok-finish.ensures.closed _ was h.given)
