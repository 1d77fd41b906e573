use Rattle.std.proofs.Common.{◌∙◌, ◌≤◌, ◌<◌, ◌^◌, [], ap, sym, subst, arith, List, ℕ, length, IfOk}
use Rattle.link_plan.specs.Listing.{channels_in_order, numbers_of}
use Rattle.link_plan.specs.declared.channel.ChannelRow.{ChannelRow}
use Rattle.word_rules.specs.Checks.{Keeps}
use Rattle.word_rules.specs.Faults.{Plan}
use Rattle.check_commands.proofs.Rules.{same_rules}
use Rattle.check_commands.proofs.fault_maker.checker_of.Goals as goal

pub new-requires : goal.new-requires
new-requires c =
    let few : length c.args.inputs.now.plan.entries.items ≤ 1024 = c.args.inputs.now.plan.few_entries in
    subst (λ (es : List ℕ). length es < 2 ^ 32) (sym c.as_slice-2.ensures.value) (omega (arith, few))

pub returns : goal.returns
returns c =
    let plan = c.args.inputs.now.plan in
    subst (λ (p : Plan). IfOk c.new.result (λ checker. Keeps checker p []))
    (same_rules plan c.args.inputs.now.flow.items _ _ _ _ c.of.ensures (c.deref.ensures.value ∙ c.in_ok-channels.ensures ∙ ap (λ (cs : List ChannelRow). channels_in_order (numbers_of cs)) c.as_slice.ensures.value) c.as_slice-2.ensures.value c.as_slice-3.ensures.value)
    c.new.ensures
