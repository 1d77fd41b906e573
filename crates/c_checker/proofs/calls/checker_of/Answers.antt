-- The channels of a plan are lent in order, and its entries are few.
use Rattle.std.proofs.Common.{◌≤◌, ◌<◌, ◌^◌, ◌∙◌, ℕ, List, length, ap, sym, subst, arith}
use Rattle.link_plan.specs.Listing.{channels_in_order, numbers_of}
use Rattle.link_plan.specs.declared.channel.ChannelRow.{ChannelRow}
use Rattle.word_rules.specs.declared.limits.WordLimits.{WordLimits}
use Rattle.live_checker.specs.Standing.{Checks, nothing_checked}
use Rattle.c_checker.proofs.calls.checker_of.Goals as goal

pub new-requires : goal.new-requires
new-requires c =
    let few : length c.args.plan.now.entries.items ≤ 1024 = c.args.plan.now.few_entries in
    subst (λ (entries : List ℕ). length entries < 2 ^ 32) (sym c.deref-3.ensures.value) (omega (arith, few))

pub returns : goal.returns
returns c =
    let plan = c.args.plan.now in
    let t = c.in_ok-checker.checker in
    let order = c.deref-2.ensures.value ∙ c.in_ok-channels.ensures ∙ ap (λ (rows : List ChannelRow). channels_in_order (numbers_of rows)) c.deref.ensures.value in
    let at_entries = subst (λ (entries : List ℕ). Checks t (nothing_checked c.of.result c.deref-2.result.now entries)) c.deref-3.ensures.value c.in_ok-checker.ensures in
    let at_channels = subst (λ (channels : List ℕ). Checks t (nothing_checked c.of.result channels plan.entries.items)) order at_entries in
    subst (λ (limits : WordLimits). Checks t (nothing_checked limits (channels_in_order (numbers_of plan.channels.items)) plan.entries.items)) c.of.ensures at_channels
