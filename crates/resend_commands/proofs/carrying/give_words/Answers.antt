use Rattle.std.proofs.Common.{◌≡◌, ◌∙◌, ◌++◌, sym, ap, subst, length, eqb-true, List, ℕ, [], OnOk}
use Rattle.std.proofs.lemmas.List.{nil_from_length}
use Rattle.lk_base.specs.declared.word.Word.{Word}
use Rattle.run_shell.specs.Outputs.{more}
use Rattle.run_shell.specs.Rests.{rests_of}
use Rattle.run_shell.proofs.Rests.{more_none}
use Rattle.words_files.specs.WordsFile.{words_file}
use Rattle.resend_commands.proofs.carrying.give_words.Goals as goal

pub returns-then-is_empty-clause-given : goal.returns-then-is_empty-clause-given
returns-then-is_empty-clause-given c =
    let rests = rests_of c.args.outputs.now in
    let none : c.args.words.now ≡ [] = nil_from_length c.args.words.now (eqb-true (length c.args.words.now) 0 (sym c.if-is_empty.ensures)) in
    sym (ap (λ (ws : List Word). more rests 0 (words_file ws)) none ∙ more_none rests 0)

pub returns-clause-given : goal.returns-clause-given
returns-clause-given c =
    let bytes = c.deref.ensures.value ∙ c.in_ok-append_words.ensures.items ∙ ap (λ (b : List ℕ). b ++ words_file c.args.words.now) c.clear.ensures.items in
    subst (λ (b : List ℕ). OnOk c.give.result (rests_of c.give.new.self ≡ more (rests_of c.args.outputs.now) 0 b)) bytes c.give.ensures.given
