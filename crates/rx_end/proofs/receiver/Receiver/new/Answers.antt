-- The channels are those of the plan.
use Rattle.std.proofs.Common.{sym, ap, ◌∙◌, subst, Bool, true, false, List, ℕ, length, ◌≤◌, arith}
use Rattle.std.proofs.lemmas.List.{length-map}
use Rattle.std.proofs.lemmas.Result.{IfOk-weaker}
use Rattle.link_plan.specs.Listing.{most_channels, numbers_of}
use Rattle.link_plan.specs.declared.channel.ChannelRow.{ChannelRow}
use Rattle.reassembly.specs.Settings.{IsSettingOf}
use Rattle.rx_end.proofs.receiver.Receiver.new.Goals as goal

few : (numbers : List ℕ) (wide : Bool) → length numbers ≤ most_channels wide → length numbers ≤ 1024
few numbers true h = h
few numbers false h = omega arith

pub of-requires : goal.of-requires
of-requires c = subst (λ (channels : List ℕ). length channels ≤ 1024)
    (sym (c.deref-2.ensures.value ∙ c.in_ok-channels.ensures {u = tt} ∙ ap (λ (rows : List ChannelRow). numbers_of rows) c.deref.ensures.value))
    (few (numbers_of c.args.plan.now.channels.items) c.args.plan.now.wide (subst (λ n. n ≤ most_channels c.args.plan.now.wide) (sym (length-map c.args.plan.now.channels.items (λ (row : ChannelRow). row.number))) c.args.plan.now.few_channels))

pub returns-clause-stands : goal.returns-clause-stands
returns-clause-stands c = IfOk-weaker c.of.result _ _
    (λ r h. λ setting is. h setting
    (subst (λ (channels : List ℕ). IsSettingOf setting channels c.args.plan.now.link.max_packet c.args.plan.now.wide)
    (sym (c.deref-2.ensures.value ∙ c.in_ok-channels.ensures {u = tt} ∙ ap (λ (rows : List ChannelRow). numbers_of rows) c.deref.ensures.value))
    is))
    c.of.ensures.stands
