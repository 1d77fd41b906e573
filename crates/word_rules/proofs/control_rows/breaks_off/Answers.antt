use Rattle.std.proofs.Common.{ℕ, ◌≡◌, ◌≤◌, ◌∙◌, Bool, true, not, ap, sym, subst, slice_index_or, arith}
use Rattle.lk_base.specs.Fields.{channel_number}
use Rattle.stream_model.specs.Calendar.{is_on}
use Rattle.word_rules.specs.declared.channel.ChannelState.{ChannelState}
use Rattle.word_rules.specs.Channels.{none_kept}
use Rattle.word_rules.proofs.Keeping.{off_on}
use Rattle.word_rules.proofs.control_rows.breaks_off.Goals as goal

pub returns-then-listed-clause-off : goal.returns-then-listed-clause-off
returns-then-listed-clause-off c entries rows f ord =
    let number : ℕ = c.args.number in
    let channel = c.channel-channel.ensures in
    let off = c.is_off.ensures.off entries rows number f (omega arith) ord in
    let listed : (slice_index_or c.args.kept.now (channel_number c.args.limits.wide c.args.word.0) none_kept).listed ≡ true =
    ap (λ (n : ℕ). (slice_index_or c.args.kept.now n none_kept).listed) (sym channel) ∙ ap (λ (s : ChannelState). s.listed) (sym c.channel_at-listed.ensures) ∙ c.if-listed.true.1 in
    off_on _ _ _ _ (sym c.is_burst_word.ensures ∙ c.if-listed.true.0) listed (off ∙ ap (λ (n : ℕ). not (is_on entries rows n number)) channel)
