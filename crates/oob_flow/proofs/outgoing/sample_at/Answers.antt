use Rattle.std.proofs.Common.{◌+◌, ◌*◌, ◌%◌, sym, ap₂, ◌∙◌, ℕ}
use Rattle.oob_flow.proofs.Blocks.{sample_in}
use Rattle.oob_flow.proofs.outgoing.sample_at.Goals as goal

pub returns : goal.returns
returns c =
    ap₂ (λ (s t : ℕ). c.args.place % 2 + 2 * s + 4 * t) c.bit.ensures c.bit-2.ensures ∙ sym (sample_in c.args.frame.now c.args.place c.requires)
