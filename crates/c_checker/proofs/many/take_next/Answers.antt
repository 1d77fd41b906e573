-- A run, a word or none is taken.
use Rattle.std.proofs.Common.{◌≡◌, ◌+◌, ◌∷◌, ◌∙◌, ℕ, List, Option, length, map, take, drop, ap, sym, subst}
use Rattle.lk_base.specs.declared.word.RxWord.{RxWord}
use Rattle.lk_base.specs.declared.word.RxWord.TheVariants.{Data}
use Rattle.live_checker.specs.States.{State}
use Rattle.live_checker.specs.Standing.{Checks, with_word, with_words}
use Rattle.c_checker.specs.Many.{LeadsTo, asked}
use Rattle.c_checker.specs.declared.many.CWord.{CWord}
use Rattle.c_checker.proofs.Taken.{asked_at, leads_run, leads_word, stuck_kind, stuck_word, take_long}
use Rattle.c_checker.proofs.many.take_next.Goals as goal

abbrev none : CWord
none = record { number = 0; kind = 0; reserved = 0 }

pub returns-then-take_run-clause-takes : goal.returns-then-take_run-clause-takes
returns-then-take_run-clause-takes c x k =
    let words = asked c.args.words.now in
    let at : ℕ = c.args.at in
    let count : ℕ = c.copy_data-count.result in
    let run : List ℕ = take count c.copy_data-count.new.room in
    let long : length run ≡ count = take_long count c.copy_data-count.new.room c.copy_data-count.ensures.fits in
    let is = c.copy_data-count.ensures.same ∙ ap (λ (n : ℕ). take n (drop at words)) (sym long) in
    let done = c.if-take_run.ensures.run x k in
    let y = with_words (map (λ (n : ℕ). Data n) run) x in
    (y, done.1, subst (λ (n : ℕ). LeadsTo words at x (at + n) y) long (leads_run words at run x is done.0))

pub returns-in_default-clause-stuck : goal.returns-in_default-clause-stuck
returns-in_default-clause-stuck c same x k =
    let words = asked c.args.words.now in
    stuck_kind words c.args.at x
    (asked_at c.args.words.now c.args.at none c.requires ∙ ap (λ (o : Option RxWord). o ∷ drop (c.args.at + 1) words) (sym c.word_of.ensures ∙ c.in_default.is))

pub returns-then-take_one-clause-takes : goal.returns-then-take_one-clause-takes
returns-then-take_one-clause-takes c x k =
    let words = asked c.args.words.now in
    let done = c.if-take_one.ensures.taken x (subst (λ (t : State). Checks t x) (sym c.if-take_run.ensures.run) k) in (
      with_word c.in-Some.word x,
      done.1,
      leads_word words c.args.at c.in-Some.word x
          (asked_at c.args.words.now c.args.at none c.requires ∙ ap (λ (o : Option RxWord). o ∷ drop (c.args.at + 1) words) (sym c.word_of.ensures ∙ c.in-Some.is)) done.0,
    )

pub returns-clause-stuck : goal.returns-clause-stuck
returns-clause-stuck c same x k =
    let words = asked c.args.words.now in
    stuck_word words c.args.at c.in-Some.word x
    (asked_at c.args.words.now c.args.at none c.requires ∙ ap (λ (o : Option RxWord). o ∷ drop (c.args.at + 1) words) (sym c.word_of.ensures ∙ c.in-Some.is))
    (c.if-take_one.ensures.taken.0 x (subst (λ (t : State). Checks t x) (sym c.if-take_run.ensures.run) k))
