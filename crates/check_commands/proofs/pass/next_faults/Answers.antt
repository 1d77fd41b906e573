use Rattle.std.proofs.Common.{◌∷◌, ◌++◌, ◌<◌, ◌∙◌, refl, ℕ, List, ap, subst, sym, length, take, reverse, arith}
use Rattle.lk_base.specs.declared.word.RxWord.{RxWord}
use Rattle.lk_base.specs.declared.word.RxWord.TheVariants.{Bad}
use Rattle.word_rules.specs.Checks.{Keeps}
use Rattle.word_rules.specs.Faults.{faults_at}
use Rattle.word_rules.proofs.Making.{earlier_more, rows_more}
use Rattle.check_commands.proofs.Runs.{after_words, rows_run}
use Rattle.check_commands.proofs.pass.next_faults.Goals as goal

pub returns-then-count-gt0-clause-keeps : goal.returns-then-count-gt0-clause-keeps
returns-then-count-gt0-clause-keeps c p k =
    let words : List RxWord = c.args.words.now in
    let count : ℕ = c.copy_data-count.result in
    let run : List ℕ = take count c.copy_data-count.new.numbers in
    subst (λ (e : List RxWord). Keeps c.data_run.new.self p e) (after_words words c.args.number count run c.copy_data-count.ensures.copied)
    (c.in_ok-data_run.ensures.keeps p (reverse (take c.args.number words)) k)

pub returns-then-count-gt0-clause-found : goal.returns-then-count-gt0-clause-found
returns-then-count-gt0-clause-found c p k o =
    let words : List RxWord = c.args.words.now in
    let count : ℕ = c.copy_data-count.result in
    let run : List ℕ = take count c.copy_data-count.new.numbers in
    rows_run p words c.args.number count run c.args.found.now.items c.data_run.new.faults.items c.copy_data-count.ensures.copied
    (c.in_ok-data_run.ensures.rows p (reverse (take c.args.number words)) k)

pub returns-clause-keeps : goal.returns-clause-keeps
returns-clause-keeps c p k =
    let i : ℕ = c.args.number in
    let words : List RxWord = c.args.words.now in
    let e : List RxWord = reverse (take i words) in
    let first = c.requires.first in
    let last = c.requires.last in
    let lt : i < length words = omega (arith, first, last) in
    subst (λ (l : List RxWord). Keeps c.step.new.self p l) (ap (λ (w : RxWord). w ∷ e) c.word_at.ensures ∙ sym (earlier_more words i Bad lt)) (c.in_ok-step.ensures.keeps p e k)

pub returns-clause-found : goal.returns-clause-found
returns-clause-found c p k o =
    let i : ℕ = c.args.number in
    let words : List RxWord = c.args.words.now in
    let e : List RxWord = reverse (take i words) in
    let first = c.requires.first in
    let last = c.requires.last in
    let lt : i < length words = omega (arith, first, last) in
    rows_more p words i Bad c.args.found.now.items c.step.new.faults.items _ c.get-next.result lt c.get-next.ensures
    (c.in_ok-step.ensures.rows p e k o ∙ ap (λ (w : RxWord). c.args.found.now.items ++ faults_at p e w c.get-next.result) c.word_at.ensures)
    refl
