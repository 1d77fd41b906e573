-- The word was put, and its outputs are taken.
use Rattle.std.proofs.Common.{false, [], ◌∷◌, ◌++◌}
use Rattle.lk_base.specs.Positions.{words_from}
use Rattle.join_commands.specs.Going.{outputs_of}
use Rattle.join_commands.proofs.Steps.{word_takes, words_put}
use Rattle.join_commands.proofs.words.take_word.Goals as goal

pub take_outputs-requires-clause-at : goal.take_outputs-requires-clause-at
take_outputs-requires-clause-at g c =
    let (b, put, ready) = c.requires.ready in
    let word = c.args.word ∷ [] in
    (b, put ++ words_from 0 c.args.number word, false, outputs_of b put false, words_put b c.args.number put word _ _ _ _ ready (c.put.ensures.stands b.setting put _ ready.after ready.at.stands))

pub returns-clause-takes : goal.returns-clause-takes
returns-clause-takes g c b put ready =
    let word = c.args.word ∷ [] in
    word_takes b c.args.number put c.args.word c.take_outputs.result _ _ _ _ _ _ ready
    (c.take_outputs.ensures.takes b (put ++ words_from 0 c.args.number word) false (outputs_of b put false) (words_put b c.args.number put word _ _ _ _ ready (c.put.ensures.stands b.setting put _ ready.after ready.at.stands)))
