use Rattle.std.proofs.Common.{◌≡◌, ◌∙◌, ap, subst, List, ℕ, IfSome}
use Rattle.std.proofs.lemmas.Result.{err_from_is_err_and}
use Rattle.lk_base.specs.declared.word.RxWord.{RxWord}
use Rattle.run_stops.specs.Reading.{Reads}
use Rattle.run_shell.specs.Names.{words_name}
use Rattle.run_stops.specs.WordsInputs.{words_in}
use Rattle.join_commands.proofs.Joins.{out_of_memory}
use Rattle.join_commands.proofs.join_plan.read_words.Goals as goal

pub returns-in_err-name-clause-reads : goal.returns-in_err-name-clause-reads
returns-in_err-name-clause-reads g c =
    let p = err_from_is_err_and c.from_residual.result c.from_residual.ensures.1 in
    rw (p.1, p.2) (out_of_memory (g.S.Store.files c.args.store.now))

pub returns-clause-reads : goal.returns-clause-reads
returns-clause-reads g c =
    subst (λ (n : List ℕ). IfSome (g.S.Store.files c.args.store.now) (λ files. Reads (λ (ws : List RxWord). ws) (λ q. q ≡ n) c.read_words_file.result (words_in files n)))
    (c.as_str-2.ensures.value ∙ c.in_ok-name.ensures ∙ ap words_name c.as_str.ensures.value) c.read_words_file.ensures.reads
