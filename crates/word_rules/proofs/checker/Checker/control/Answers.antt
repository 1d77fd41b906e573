use Rattle.std.proofs.Common.{ℕ, suc, ◌≡◌, ◌^◌, ◌≤◌, ◌∙◌, ap, sym, subst, List, ◌++◌, length, arith}
use Rattle.word_rules.specs.declared.channel.ChannelState.{ChannelState}
use Rattle.word_rules.specs.declared.fault.Fault.{Fault}
use Rattle.word_rules.specs.declared.limits.WordLimits.{WordLimits}
use Rattle.word_rules.specs.Rules.{accepted_before}
use Rattle.word_rules.specs.Channels.{kept_after, seen_by}
use Rattle.word_rules.specs.ControlRows.{control_rows_by, field_rows_by, off_by}
use Rattle.word_rules.specs.Flows.{IsFlow}
use Rattle.word_rules.proofs.Dues.{count_below, reset_below}
use Rattle.word_rules.proofs.KeptChannels.{all_closed}
use Rattle.word_rules.proofs.Keeping.{size_below, some_more, flow_later, control_faults, kept_closed, kept_listed}
use Rattle.word_rules.proofs.checker.Checker.control.Goals as goal

pub close_before-own-requires-clause-size : goal.close_before-own-requires-clause-size
close_before-own-requires-clause-size c = size_below c.args.self.now.before c.requires.1 c.requires.2.before c.requires.3

pub control_rows-requires : goal.control_rows-requires
control_rows-requires c = size_below c.args.self.now.before c.requires.1 c.requires.2.before c.requires.3

pub breaks_calendar-calendar-requires-clause-few : goal.breaks_calendar-calendar-requires-clause-few
breaks_calendar-calendar-requires-clause-few c = c.requires.2.few

pub breaks_calendar-calendar-requires-clause-small : goal.breaks_calendar-calendar-requires-clause-small
breaks_calendar-calendar-requires-clause-small c = some_more (2 ^ 57) (2 ^ 58) (omega arith) c.args.self.now.due.after_reset (reset_below c.args.self.now.due c.requires.1 c.requires.2.due c.requires.3)

pub after_control-self-requires-2-clause-count : goal.after_control-self-requires-2-clause-count
after_control-self-requires-2-clause-count c = count_below c.args.self.now.due c.requires.1 c.requires.2.due c.requires.3

pub after_control-self-requires-2-clause-small : goal.after_control-self-requires-2-clause-small
after_control-self-requires-2-clause-small c = some_more (2 ^ 57) (2 ^ 61) (omega arith) c.args.self.now.due.after_reset (reset_below c.args.self.now.due c.requires.1 c.requires.2.due c.requires.3)

pub returns-clause-rows : goal.returns-clause-rows
returns-clause-rows c p e k ord =
    let s = c.args.self.now in
    let x : ℕ = c.args.word.0 in
    let own : c.close_before-own.result ≡ seen_by p.limits s.bads s.kept.items s.before x =
    c.close_before-own.ensures.seen ∙ ap (λ (t : WordLimits). seen_by t s.bads s.kept.items s.before x) k.limits in
    let at : IsFlow s.flow p.entries p.flow s.before.number = subst (λ (n : ℕ). IsFlow s.flow p.entries p.flow n) (sym k.before.number) k.flow in
    let off : c.breaks_off-off.result ≡ off_by p.limits s.kept.items p.entries p.flow s.before.number x =
    c.breaks_off-off.ensures.off p.entries p.flow at ord
    ∙ ap (λ (l : List ChannelState). off_by s.limits l p.entries p.flow s.before.number x) c.deref.ensures.value
    ∙ ap (λ (t : WordLimits). off_by t s.kept.items p.entries p.flow s.before.number x) k.limits in
    c.in_ok-field_rows.ensures.rows
    ∙ ap (λ (l : List Fault). l ++ field_rows_by s.limits s.before.number c.breaks_calendar-calendar.result c.breaks_off-off.result x) c.in_ok-control_rows.ensures.rows
    ∙ ap (λ (t : WordLimits). (c.args.faults.now.items ++ control_rows_by t s.before c.close_before-own.result x c.args.next) ++ field_rows_by t s.before.number c.breaks_calendar-calendar.result c.breaks_off-off.result x) k.limits
    ∙ control_faults p e s.before k.before s.due k.due s.bads s.kept.items k.all k.bursts k.listed s.entries k.entries x c.args.next
    c.close_before-own.result c.breaks_calendar-calendar.result c.breaks_off-off.result c.args.faults.now.items own c.breaks_calendar-calendar.ensures off

pub returns-clause-keeps : goal.returns-clause-keeps
returns-clause-keeps c p e k =
    let s = c.args.self.now in
    let x : ℕ = c.args.word.0 in
    let kept : c.close_before-own.new.kept.items ≡ kept_after p.limits s.bads s.kept.items s.before x =
    c.close_before-own.ensures.kept ∙ ap (λ (t : WordLimits). kept_after t s.bads s.kept.items s.before x) k.limits in
    let at : IsFlow s.flow p.entries p.flow s.before.number = subst (λ (n : ℕ). IsFlow s.flow p.entries p.flow n) (sym k.before.number) k.flow in
    let later : s.before.number ≤ suc (length e) = (let n = k.before.number in omega arith) in
    record {
      limits = k.limits;
      entries = k.entries;
      few = k.few;
      before = c.after_control-self.ensures e k.before;
      bads = (let h = k.bads in omega arith);
      all = ap (λ (l : List ChannelState). length l) kept ∙ all_closed p.limits s.bads s.kept.items s.before x k.all;
      bursts = kept_closed p e s.before k.before s.due k.due s.bads s.kept.items k.all k.bursts k.listed s.entries k.entries x c.close_before-own.new.kept.items kept;
      listed = kept_listed p e s.before k.before s.due k.due s.bads s.kept.items k.all k.bursts k.listed s.entries k.entries x c.close_before-own.new.kept.items kept;
      due = c.after_control-self-2.ensures (accepted_before e) k.due;
      flow = flow_later c.breaks_off-off.new.flow p.entries p.flow s.before.number (suc (length e)) later (c.breaks_off-off.ensures.flow p.entries p.flow at);
    }
