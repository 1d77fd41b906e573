use Rattle.std.proofs.Common.{ℕ, List, ◌++◌, ◌+◌, ◌≡◌, ◌≤◌, ◌<◌, ◌∙◌, not, ap, sym, subst, take, length, get_or, arith}
use Rattle.std.proofs.lemmas.List.Elements.{All-append}
use Rattle.stream_model.specs.declared.rows.FlowRow.{FlowRow}
use Rattle.calendar.specs.Incoming.{Stands}
use Rattle.word_rules.specs.Flows.{NoneLater, no_row}
use Rattle.word_rules.proofs.FlowRows.{on_by_first}
use Rattle.word_rules.proofs.flow.Flow.is_off.Goals as goal

pub take_rows-self-requires-clause-stands : goal.take_rows-self-requires-clause-stands
take_rows-self-requires-clause-stands c =
    let (entries, rows, s, f, le) = c.requires.flow in
    (entries, f.heard, subst (λ (xs : List FlowRow). Stands c.args.self.now.calendar entries (f.heard ++ take c.args.self.now.taken xs)) (sym c.deref.ensures.value) f.stands)

pub take_rows-self-requires-clause-part : goal.take_rows-self-requires-clause-part
take_rows-self-requires-clause-part c =
    let (entries, rows, s, f, le) = c.requires.flow in
    subst (λ (xs : List FlowRow). c.args.self.now.taken ≤ length xs) (sym c.deref.ensures.value) f.part

pub returns-clause-flow : goal.returns-clause-flow
returns-clause-flow c entries rows s f le =
    let own = c.deref.ensures.value in
    let taken : ℕ = c.args.self.now.taken in
    let k : ℕ = c.take_rows-self.result in
    record {
      heard = f.heard;
      shown = f.shown;
      stands = subst (λ (xs : List FlowRow). Stands c.take_rows-self.new.calendar entries (f.heard ++ take k xs)) own
          (c.take_rows-self.ensures.stands entries f.heard (subst (λ (xs : List FlowRow). Stands c.args.self.now.calendar entries (f.heard ++ take taken xs)) (sym own) f.stands));
      part = subst (λ (xs : List FlowRow). k ≤ length xs) own c.take_rows-self.ensures.part;
      gone = λ i d lt. (let h = f.gone i d lt in omega arith);
      early = subst (λ (xs : List FlowRow). NoneLater (take k xs) c.args.slot) own
          (c.take_rows-self.ensures.early (subst (λ (xs : List FlowRow). NoneLater (take taken xs) c.args.slot) (sym own) (λ i d lt. (let h = f.early i d lt in omega arith))));
    }

pub returns-clause-off : goal.returns-clause-off
unfolding returns-clause-flow
returns-clause-off c entries rows s f le ord =
    let own = c.deref.ensures.value in
    let items : List FlowRow = c.args.self.now.rows.items in
    let k : ℕ = c.take_rows-self.result in
    let new = returns-clause-flow c entries rows s f le in
    let early : NoneLater (f.heard ++ take k items) c.args.slot = All-append (λ (row : FlowRow). row.slot ≤ c.args.slot) f.heard (take k items) new.gone new.early in
    let late : k < length items → c.args.slot < (get_or items k no_row).slot = subst (λ (xs : List FlowRow). k < length xs → c.args.slot < (get_or xs k no_row).slot) own c.take_rows-self.ensures.late in
    ap not (c.is_on.ensures.on entries (f.heard ++ take k items) c.args.slot new.stands early ∙ on_by_first entries f.heard items rows k c.args.channel c.args.slot f.shown new.part ord late)
