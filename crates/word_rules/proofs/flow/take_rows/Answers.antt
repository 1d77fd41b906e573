use Rattle.std.proofs.Common.{List, [], ◌∷◌, ◌++◌, ◌≡◌, ◌≤◌, ◌∙◌, ap, sym, subst, take, append_assoc}
use Rattle.std.proofs.lemmas.List.{take_more}
use Rattle.std.proofs.lemmas.List.Elements.{All-more}
use Rattle.stream_model.specs.declared.rows.FlowRow.{FlowRow}
use Rattle.calendar.specs.Incoming.{Stands}
use Rattle.word_rules.specs.Flows.{no_row}
use Rattle.word_rules.proofs.flow.take_rows.Goals as goal

pub take_row-requires : goal.take_row-requires
take_row-requires c = let (entries, heard, s) = c.requires.stands in record { stands = (entries, heard ++ take c.loop-n.n c.args.rows.now, c.loop-n.invariant.stands entries heard s) }

pub loop-n-preserved : goal.loop-n-preserved
loop-n-preserved c = record {
  stands = λ entries heard s.
      let more : (heard ++ take c.loop-n.n c.args.rows.now) ++ _ ∷ [] ≡ heard ++ take _ c.args.rows.now =
      append_assoc heard (take c.loop-n.n c.args.rows.now) (_ ∷ []) ∙ ap (λ (xs : List FlowRow). heard ++ xs) (sym (take_more c.args.rows.now c.loop-n.n _ c.loop-n-test.true)) in
      subst (λ (xs : List FlowRow). Stands c.take_row.new.calendar entries xs) more
      (c.take_row.ensures entries (heard ++ take c.loop-n.n c.args.rows.now) (c.loop-n.invariant.stands entries heard s));
  early = λ h. All-more (λ (row : FlowRow). row.slot ≤ c.args.slot) c.args.rows.now c.loop-n.n no_row c.loop-n-test.true (c.loop-n.invariant.early h) c.if-slot-row.false;
}
