use Rattle.std.proofs.Common.{length, refl}
use Rattle.std.proofs.lemmas.Result.{err_from_is_err_and}
use Rattle.gather_commands.proofs.Takings.{words_cut, words_taken}
use Rattle.gather_commands.proofs.gatherer.Gatherer.take_words.Goals as goal

pub add_front-requires-clause-has : goal.add_front-requires-clause-has
add_front-requires-clause-has g c =
    let (out, s, fed, was, at) = c.requires.gathering in
    (out, at.items, was, at.gathered)

pub returns-in_err-add_front-clause-takes : goal.returns-in_err-add_front-clause-takes
returns-in_err-add_front-clause-takes g c out s fed was at =
    let p = err_from_is_err_and c.from_residual.result c.from_residual.ensures.1 in
    let v = c.args.self.now.front in
    rw (p.1, p.2) (words_cut out s fed was v at.items at.progress at.stands (length v.waiting) refl c.in_err-add_front.field-0.0 _ (c.in_err-add_front.ensures.gathers out at.items was at.gathered))

pub returns-clause-takes : goal.returns-clause-takes
returns-clause-takes g c out s fed was at =
    words_taken out s fed was c.args.self.now.front at.items at.progress at.stands c.len.result c.len.ensures.count _ _ (c.pass.ensures.stands s fed at.items at.progress at.stands)
    (c.in_ok-add_front.ensures.gathers out at.items was at.gathered)
