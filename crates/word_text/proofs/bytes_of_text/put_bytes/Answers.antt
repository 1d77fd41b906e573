use lib.Pointwise.{pointwise}
use lib.Dec.{eqb}
use Rattle.std.proofs.Common.{true, false, ◌≡◌, ℕ, List, refl, sym, ap, ◌∙◌}
use Rattle.word_text.specs.Listings.{words_head, lane_head}
use Rattle.word_text.proofs.Spelled.{lacks}
use Rattle.word_text.proofs.Pieces.{has-end, lacks-all, cut-once}
use Rattle.word_text.proofs.bytes_of_text.put_bytes.Goals as goal

pub returns-in_default-clause-answer : goal.returns-in_default-clause-answer
returns-in_default-clause-answer c = record {
  words = λ more e. has-end words_head more (ap (lacks 10) (sym e) ∙ lacks-all c.args.text.now (c.in_default.ensures {u = tt}).none);
  lane = λ more e. has-end lane_head more (ap (lacks 10) (sym e) ∙ lacks-all c.args.text.now (c.in_default.ensures {u = tt}).none);
}

pub returns-clause-answer : goal.returns-clause-answer
returns-clause-answer c = record {
  words = λ more e.
      let (same, behind) = cut-once c.in-Some.head.now words_head c.in-Some.lines.now more (lacks-all c.in-Some.head.now (c.in-Some.ensures {u = tt}).one) refl (sym (c.in-Some.ensures {u = tt}).cut ∙ e) in
      let equal : false ≡ true =
      sym c.if-eq.false ∙ c.eq.ensures ∙ ap (λ (l : List ℕ). pointwise eqb l c.as_slice.result.now) same ∙ ap (λ (l : List ℕ). pointwise eqb words_head l) c.as_slice.ensures in
      absurd cc;
  lane = λ more e.
      let (same, behind) = cut-once c.in-Some.head.now lane_head c.in-Some.lines.now more (lacks-all c.in-Some.head.now (c.in-Some.ensures {u = tt}).one) refl (sym (c.in-Some.ensures {u = tt}).cut ∙ e) in
      let equal : false ≡ true =
      sym c.if-eq-2.false ∙ c.eq-2.ensures ∙ ap (λ (l : List ℕ). pointwise eqb l c.as_slice-2.result.now) same ∙ ap (λ (l : List ℕ). pointwise eqb lane_head l) c.as_slice-2.ensures in
      absurd cc;
}
