use Rattle.std.proofs.Common.{ℕ, List, [], ◌∷◌, ◌++◌, ◌≡◌, ◌≤◌, ◌<◌, ◌∙◌, refl, ap, sym, subst, take, length, get_or, append-nil, arith}
use Rattle.std.proofs.lemmas.List.Elements.{All-append}
use Rattle.stream_model.specs.declared.rows.FlowRow.{FlowRow}
use Rattle.calendar.specs.Incoming.{Stands}
use Rattle.word_rules.specs.Flows.{NoneLater, no_row, with_row}
use Rattle.word_rules.proofs.FlowRows.{all_first, none_later}
use Rattle.word_rules.proofs.flow.Flow.hear.Goals as goal

pub take_rows-requires-clause-stands : goal.take_rows-requires-clause-stands
take_rows-requires-clause-stands c =
    let (entries, rows, s, f) = c.requires.flow in
    (entries, f.heard, subst (λ (xs : List FlowRow). Stands c.args.self.now.calendar entries (f.heard ++ take c.args.self.now.taken xs)) (sym c.deref.ensures.value) f.stands)

pub take_rows-requires-clause-part : goal.take_rows-requires-clause-part
take_rows-requires-clause-part c =
    let (entries, rows, s, f) = c.requires.flow in
    subst (λ (xs : List FlowRow). c.args.self.now.taken ≤ length xs) (sym c.deref.ensures.value) f.part

pub take_word-requires : goal.take_word-requires
take_word-requires c =
    let (entries, rows, s, f) = c.requires.flow in
    let own = c.deref.ensures.value in
    record {
      stands = (
        entries,
        f.heard ++ take c.take_rows.result c.args.self.now.rows.items,
        subst (λ (xs : List FlowRow). Stands c.take_rows.new.calendar entries (f.heard ++ take c.take_rows.result xs)) own
            (c.take_rows.ensures.stands entries f.heard (subst (λ (xs : List FlowRow). Stands c.args.self.now.calendar entries (f.heard ++ take c.args.self.now.taken xs)) (sym own) f.stands)),
      );
    }

pub returns : goal.returns
returns c = record {
  flow = λ entries rows s word f none heard.
      let own = c.deref.ensures.value in
      let items : List FlowRow = c.args.self.now.rows.items in
      let k : ℕ = c.take_rows.result in
      let slot : ℕ = c.args.slot in
      let stands : Stands c.take_rows.new.calendar entries (f.heard ++ take k items) =
      subst (λ (xs : List FlowRow). Stands c.take_rows.new.calendar entries (f.heard ++ take k xs)) own
      (c.take_rows.ensures.stands entries f.heard (subst (λ (xs : List FlowRow). Stands c.args.self.now.calendar entries (f.heard ++ take c.args.self.now.taken xs)) (sym own) f.stands)) in
      let all : take k items ≡ items = all_first f.heard items rows k slot f.shown
      (subst (λ (xs : List FlowRow). k ≤ length xs) own c.take_rows.ensures.part) none
      (subst (λ (xs : List FlowRow). k < length xs → slot < (get_or xs k no_row).slot) own c.take_rows.ensures.late) in
      let first : f.heard ++ take k items ≡ rows = ap (λ (xs : List FlowRow). f.heard ++ xs) all ∙ f.shown in
      let kept : c.clear.new.self.items ≡ [] = c.clear.ensures.items in
      record {
        heard = with_row rows slot word;
        shown = ap (λ (xs : List FlowRow). with_row rows slot word ++ xs) kept ∙ append-nil (with_row rows slot word);
        stands = subst (λ (xs : List FlowRow). Stands c.take_word.new.calendar entries xs) (sym (append-nil (with_row rows slot word)))
            (subst (λ (xs : List FlowRow). Stands c.take_word.new.calendar entries (xs ++ record { slot = slot; word = word } ∷ [])) first (c.take_word.ensures entries (f.heard ++ take k items) (record { slot = slot; word = word }) stands (c.verified_word.ensures word heard)));
        part = omega arith;
        gone = none_later rows slot word none;
        early = λ i d lt. omega arith;
      };
}
