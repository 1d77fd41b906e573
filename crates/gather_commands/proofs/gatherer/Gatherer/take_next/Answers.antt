use Rattle.std.proofs.Common.{refl}
use Rattle.std.proofs.lemmas.Result.{err_from_is_err_and}
use Rattle.gather_commands.proofs.Takings.{front_moved}
use Rattle.gather_commands.proofs.gatherer.Gatherer.take_next.Goals as goal

pub take_item-requires-clause-gathering : goal.take_item-requires-clause-gathering
take_item-requires-clause-gathering g c =
    let (out, s, fed, was, at) = c.requires.gathering in
    (out, s, fed, was, front_moved out s fed c.args.self.now _ was _ refl (λ items t st. c.fill.ensures.stands s fed items t st) at)

pub returns-then-is_empty-clause-takes : goal.returns-then-is_empty-clause-takes
returns-then-is_empty-clause-takes g c out s fed was at =
    c.take_item.ensures.takes out s fed was (front_moved out s fed c.args.self.now _ was _ refl (λ items t st. c.fill.ensures.stands s fed items t st) at)

pub take_words-requires-clause-gathering : goal.take_words-requires-clause-gathering
take_words-requires-clause-gathering g c =
    let (out, s, fed, was, at) = c.requires.gathering in
    (out, s, fed, was, front_moved out s fed c.args.self.now _ was _ refl (λ items t st. c.fill.ensures.stands s fed items t st) at)

pub returns-in_err-take_words-clause-takes : goal.returns-in_err-take_words-clause-takes
returns-in_err-take_words-clause-takes g c out s fed was at =
    let p = err_from_is_err_and c.from_residual.result c.from_residual.ensures.1 in
    rw (p.1, p.2) (c.in_err-take_words.ensures.takes out s fed was (front_moved out s fed c.args.self.now _ was _ refl (λ items t st. c.fill.ensures.stands s fed items t st) at))

pub returns-clause-takes : goal.returns-clause-takes
returns-clause-takes g c out s fed was at =
    c.in_ok-take_words.ensures.takes out s fed was (front_moved out s fed c.args.self.now _ was _ refl (λ items t st. c.fill.ensures.stands s fed items t st) at)
