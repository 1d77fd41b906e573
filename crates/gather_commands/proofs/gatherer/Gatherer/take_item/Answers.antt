use Rattle.std.proofs.Common.{refl}
use Rattle.std.proofs.lemmas.Result.{err_from_is_err_and}
use Rattle.gather_commands.proofs.Takings.{item_cut_off, item_taken}
use Rattle.gather_commands.proofs.gatherer.Gatherer.take_item.Goals as goal

pub add_item-requires-clause-has : goal.add_item-requires-clause-has
add_item-requires-clause-has g c =
    let (out, s, fed, was, at) = c.requires.gathering in
    (out, at.items, was, at.gathered)

pub returns-in_err-add_item-clause-takes : goal.returns-in_err-add_item-clause-takes
returns-in_err-add_item-clause-takes g c out s fed was at =
    let p = err_from_is_err_and c.from_residual.result c.from_residual.ensures.1 in
    rw (p.1, p.2) (item_cut_off out s fed was c.item.new.self at.items at.progress c.in-Some.item (c.in-Some.ensures.gives s fed at.items at.progress at.stands) c.in_err-add_item.field-0.0 _ (c.in_err-add_item.ensures.gathers out at.items was at.gathered))

pub returns-clause-takes : goal.returns-clause-takes
returns-clause-takes g c out s fed was at =
    item_taken out s fed was c.item.new.self at.items at.progress c.in-Some.item (c.in-Some.ensures.gives s fed at.items at.progress at.stands) _ _ refl (c.in_ok-add_item.ensures.gathers out at.items was at.gathered)

pub returns-in_default-clause-takes : goal.returns-in_default-clause-takes
returns-in_default-clause-takes g c out s fed was at = record { items = at.items; progress = at.progress; drained = c.in_default.ensures.gives s fed at.items at.progress at.stands; gathered = at.gathered }
