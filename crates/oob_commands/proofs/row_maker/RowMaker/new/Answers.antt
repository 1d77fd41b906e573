use Rattle.std.proofs.Common.{List, ℕ, [], ◌∷◌, length, sym, ap, ◌∙◌, subst, arith}
use Rattle.oob_flow.specs.Receiving.{StandsIn}
use Rattle.oob_commands.specs.FlowFile.{flow_file}
use Rattle.oob_commands.proofs.RowTexts.{no_rows, file_none}
use Rattle.oob_commands.proofs.row_maker.RowMaker.new.Goals as goal

pub returns-clause-fresh : goal.returns-clause-fresh
returns-clause-fresh c =
    let entries = length c.args.reading.now.plan.entries.items in
    record {
      samples = c.requires.samples;
      short = c.requires.short;
      within = omega arith;
      stands = subst (λ (n : ℕ). StandsIn c.new.result n []) (c.len.ensures ∙ c.args.reading.now.plan.entries.ok.0) c.new.ensures;
      counted = sym (ap length (no_rows entries));
      few = omega arith;
      is = ap (λ (b : List ℕ). b ∷ []) (sym (ap flow_file (no_rows entries) ∙ file_none));
    }
