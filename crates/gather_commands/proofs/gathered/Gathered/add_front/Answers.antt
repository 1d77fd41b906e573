use Rattle.std.proofs.Common.{refl, arith}
use Rattle.std.proofs.lemmas.Result.{err_from_is_err_and}
use Rattle.rx_front.proofs.Waiting.{as_many}
use Rattle.rx_front.specs.Waiting.{words_in}
use Rattle.gather_commands.proofs.Gathering.{run_cut, run_gathers}
use Rattle.gather_commands.proofs.gathered.Gathered.add_front.Goals as goal

pub put_between-requires-clause-has : goal.put_between-requires-clause-has
put_between-requires-clause-has g c =
    let (out, items, was, h) = c.requires.has in
    (out, _, _, was, h.files)

pub returns-in_err-put_between-clause-gathers : goal.returns-in_err-put_between-clause-gathers
returns-in_err-put_between-clause-gathers g c out items was h =
    let p = err_from_is_err_and c.from_residual.result c.from_residual.ensures.1 in
    let at = c.at.result in
    let waiting = c.args.front.now.waiting in
    let many = as_many at.group at.index waiting c.at.ensures.waiting in
    let some = c.requires.some in
    rw (p.1, p.2) (run_cut out items c.args.self.now.broken was _ h.broken at.group at.index (words_in waiting) (omega (arith, many, some)) waiting c.at.ensures.waiting c.in_err-put_between.field-0.0
    (c.in_err-put_between.ensures.puts out _ _ was h.files))

pub put_front-requires-clause-has : goal.put_front-requires-clause-has
put_front-requires-clause-has g c =
    let (out, items, was, h) = c.requires.has in
    (out, _, _, was, c.in_ok-put_between.ensures.puts out _ _ was h.files)

pub returns-clause-gathers : goal.returns-clause-gathers
returns-clause-gathers g c out items was h =
    let at = c.at.result in
    let waiting = c.args.front.now.waiting in
    let many = as_many at.group at.index waiting c.at.ensures.waiting in
    let some = c.requires.some in
    run_gathers out items c.args.self.now.broken was _ h.broken at.group at.index (words_in waiting) (omega (arith, many, some)) waiting c.at.ensures.waiting c.put_front.result _ h.epochs refl
    (c.put_front.ensures.puts out _ _ was (c.in_ok-put_between.ensures.puts out _ _ was h.files))
