use Rattle.std.proofs.Common.{◌+◌, ℕ, ◌∙◌, ap}
use Rattle.std.proofs.lemmas.Result.{err_from_is_err_and}
use Rattle.lane_words.specs.Gathered.{own_epochs}
use Rattle.gather_commands.proofs.Gathering.{item_cut, item_gathers, item_memory}
use Rattle.gather_commands.proofs.gathered.Gathered.add_item.Goals as goal

pub returns-in_err-epochs-clause-gathers : goal.returns-in_err-epochs-clause-gathers
returns-in_err-epochs-clause-gathers g c out items was h =
    let p = err_from_is_err_and c.from_residual.result c.from_residual.ensures.1 in
    rw (p.1, p.2) (item_memory out items c.args.self.now.broken was _ h.broken c.args.item c.args.self.now h)

pub put_between-requires-clause-has : goal.put_between-requires-clause-has
put_between-requires-clause-has g c =
    let (out, items, was, h) = c.requires.has in
    (out, _, _, was, h.files)

pub returns-in_err-put_between-clause-gathers : goal.returns-in_err-put_between-clause-gathers
returns-in_err-put_between-clause-gathers g c out items was h =
    let p = err_from_is_err_and c.from_residual-in_err-put_between.result c.from_residual-in_err-put_between.ensures.1 in
    rw (p.1, p.2) (item_cut out items c.args.self.now.broken was _ h.broken c.args.item c.in_err-put_between.field-0.0 (c.in_err-put_between.ensures.puts out _ _ was h.files))

pub put_item-requires-clause-has : goal.put_item-requires-clause-has
put_item-requires-clause-has g c =
    let (out, items, was, h) = c.requires.has in
    (out, _, _, was, c.in_ok-put_between.ensures.puts out _ _ was h.files)

pub returns-clause-gathers : goal.returns-clause-gathers
returns-clause-gathers g c out items was h =
    item_gathers out items c.args.self.now.broken was _ h.broken c.args.item c.put_item.result _ (c.in_ok-epochs.ensures ∙ ap (λ (n : ℕ). n + own_epochs c.args.item) h.epochs) c.is_break-self.ensures
    (c.put_item.ensures.puts out _ _ was (c.in_ok-put_between.ensures.puts out _ _ was h.files))
