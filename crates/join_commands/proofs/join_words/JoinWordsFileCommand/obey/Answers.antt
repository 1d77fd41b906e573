use Rattle.std.proofs.Common.{◌≡◌, List, [], ◌∷◌}
use Rattle.std.proofs.lemmas.Result.{err_from_is_err_and}
use Rattle.lk_base.specs.declared.word.RxWord.{RxWord}
use Rattle.run_shell.proofs.Works.{stops_reading}
use Rattle.run_shell.proofs.Writing.{writes_comes, writes_leaves}
use Rattle.receipts.specs.Received.{output_names}
use Rattle.join_commands.specs.JoinWords.{join_setting, join_words_work}
use Rattle.join_commands.proofs.Joins.{for_join, join_words_means}
use Rattle.join_commands.proofs.join_words.JoinWordsFileCommand.obey.Goals as goal

pub returns-in_err-words-clause-lawful : goal.returns-in_err-words-clause-lawful
returns-in_err-words-clause-lawful g c = join_words_means c.args.file.now

pub returns-in_err-words-clause-comes : goal.returns-in_err-words-clause-comes
returns-in_err-words-clause-comes g c =
    let p = err_from_is_err_and c.from_residual.result c.from_residual.ensures.1 in
    rw (p.1, p.2) (stops_reading _ (join_words_work _) (λ (ws : List RxWord). ws) (λ n. n ≡ c.args.file.now) c.in_err-words.field-0.0 _ _ c.in_err-words.ensures.unchanged (λ u q e. e) c.in_err-words.ensures.reads)

pub returns-clause-lawful : goal.returns-clause-lawful
returns-clause-lawful g c = join_words_means c.args.file.now

pub returns-clause-comes : goal.returns-clause-comes
returns-clause-comes g c =
    let name = c.args.file.now in
    writes_comes (join_words_work name) c.in_ok-words.words (output_names name (0 ∷ [])) (λ q h. h) c.receive_words.result _ _ _ c.in_ok-words.ensures.unchanged c.in_ok-words.ensures.reads
    (c.receive_words.ensures.writes join_setting for_join)

pub returns-clause-others : goal.returns-clause-others
returns-clause-others g c =
    let name = c.args.file.now in
    writes_leaves (join_words_work name) c.in_ok-words.words (output_names name (0 ∷ [])) (λ q h. h) c.receive_words.result _ _ _ c.in_ok-words.ensures.unchanged c.in_ok-words.ensures.reads
    (c.receive_words.ensures.writes join_setting for_join)
