use Rattle.std.proofs.Common.{ℕ, ◌≡◌, ◌≤◌, sym, subst, length, arith}
use Rattle.word_rules.specs.Flows.{IsFlow, NoneLater, with_row}
use Rattle.word_rules.proofs.checker.Checker.hear.Goals as goal

pub hear-requires : goal.hear-requires
hear-requires c = let (p, e, k) = c.requires in record { flow = (p.entries, p.flow, length e, k.flow) }

pub returns : goal.returns
returns c p e heard k none as_heard =
    let n = k.before.number in
    let flow = c.hear.ensures.flow p.entries p.flow (length e) heard k.flow (subst (λ (m : ℕ). NoneLater p.flow m) (sym n) none) as_heard in
    record {
      limits = k.limits;
      entries = k.entries;
      few = k.few;
      before = k.before;
      bads = k.bads;
      all = k.all;
      bursts = k.bursts;
      listed = k.listed;
      due = k.due;
      flow = subst (λ (m : ℕ). IsFlow c.hear.new.self p.entries (with_row p.flow m heard) m) n flow;
    }
