-- No word of the run may break a rule.
use Rattle.std.proofs.Common.{ℕ, ◌≡◌, ◌≤◌, ◌∙◌, ap, sym, subst, false, List, length, arith}
use Rattle.word_rules.specs.declared.burst.Burst.{Burst}
use Rattle.word_rules.specs.declared.limits.WordLimits.{WordLimits}
use Rattle.word_rules.specs.Channels.{HasBursts}
use Rattle.word_rules.specs.Due.{IsDue}
use Rattle.word_rules.specs.Runs.{run_after, run_by}
use Rattle.word_rules.proofs.Keeping.{flow_later, size_below}
use Rattle.word_rules.proofs.Runs.{length_run, closed_run, accepted_run, no_rows}
use Rattle.word_rules.proofs.checker.Checker.faultless_run.Goals as goal

pub may_break-requires-clause-size : goal.may_break-requires-clause-size
may_break-requires-clause-size c = let (p, e, k, few) = c.requires in size_below c.args.self.now.before e k.before (omega (arith, few))

pub returns-clause-rows : goal.returns-clause-rows
returns-clause-rows c p e k =
    let s = c.args.self.now in
    let run : List ℕ = c.args.run.now in
    let keep : run_by p.limits s.before (length run) ≡ false = ap (λ (t : WordLimits). run_by t s.before (length run)) (sym k.limits) ∙ sym (c.if-may_break.ensures {u = tt}) in
    no_rows p s.before e run k.before keep

pub returns-clause-keeps : goal.returns-clause-keeps
returns-clause-keeps c p e k =
    let s = c.args.self.now in
    let run : List ℕ = c.args.run.now in
    let count = length_run e run in
    let later : length e ≤ length (run_after e run) = omega (arith, count) in
    record {
      limits = k.limits;
      entries = k.entries;
      few = k.few;
      before = c.after_run-self.ensures e k.before;
      bads = (let h = k.bads in omega arith);
      all = k.all;
      bursts = subst (λ (bs : List Burst). HasBursts s.kept.items s.bads p.limits.max_packet p.limits.wide bs) (sym (closed_run e run)) k.bursts;
      listed = k.listed;
      due = subst (λ (l : List ℕ). IsDue s.due l) (sym (accepted_run e run)) k.due;
      flow = flow_later s.flow p.entries p.flow (length e) (length (run_after e run)) later k.flow;
    }
