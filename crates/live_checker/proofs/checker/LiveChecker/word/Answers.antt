-- A word is taken, where none is refused.
use Rattle.std.proofs.Common.{ℕ, ◌<◌, ◌^◌, ◌∙◌, reverse, subst, sym, arith}
use Rattle.std.proofs.lemmas.List.{length-reverse}
use Rattle.live_checker.specs.States.{State}
use Rattle.live_checker.specs.Standing.{Checks, with_word}
use Rattle.live_checker.proofs.Standing.{all_out, word_free, word_kept}
use Rattle.live_checker.proofs.checker.LiveChecker.word.Goals as goal

pub find-requires-clause-keeps : goal.find-requires-clause-keeps
find-requires-clause-keeps c =
    let v = c.self.inside in
    let (room, part, whole) = c.self.invariant in
    let (x, k) = whole in
    let free = word_free x (sym (c.refusal.ensures x (subst (λ (t : State). Checks t x) c.self.view_is k)) ∙ c.in_default.is) in
    (x.plan, reverse x.words, k.keeps, subst (λ (n : ℕ). n < 2 ^ 57) (sym (length-reverse x.words)) free.1)

pub invariant_of-self : goal.invariant_of-self
invariant_of-self c =
    let v = c.self.inside in
    let (room, part, whole) = c.self.invariant in
    let (x, k) = whole in
    let free = word_free x (sym (c.refusal.ensures x (subst (λ (t : State). Checks t x) c.self.view_is k)) ∙ c.in_default.is) in (
      c.find.ensures.room,
      omega arith,
      (
        with_word c.args.word x,
        word_kept v.checker v.found.items v.given v.finished x k c.find.new.checker c.find.new.found.items c.args.word
            (all_out v.checker v.found.items v.given v.finished x k free.0) free.1
            (c.find.ensures.keeps x.plan (reverse x.words) k.keeps) (c.find.ensures.rows x.plan (reverse x.words) k.keeps k.in_order),
      ),
    )

pub returns : goal.returns
returns c = λ x h.
    let v = c.self.inside in
    let k = subst (λ (t : State). Checks t x) (sym c.self.view_is) h in
    let none = sym (c.refusal.ensures x h) ∙ c.in_default.is in
    let free = word_free x none in (
      none,
      word_kept v.checker v.found.items v.given v.finished x k c.find.new.checker c.find.new.found.items c.args.word
          (all_out v.checker v.found.items v.given v.finished x k free.0) free.1
          (c.find.ensures.keeps x.plan (reverse x.words) k.keeps) (c.find.ensures.rows x.plan (reverse x.words) k.keeps k.in_order),
    )
