-- The channels are copied in order of number.
use Rattle.std.proofs.Common.{ℕ, ◌∙◌, ap, List, ◌++◌, length, take, drop}
use Rattle.link_plan.specs.Listing.{channels_in_order, numbers_of}
use Rattle.link_plan.specs.declared.channel.ChannelRow.{ChannelRow}
use Rattle.c_plan.proofs.calls.channels_in.Goals as goal

pub returns : goal.returns
returns c =
    let plan = c.in_ok-plan.plan in
    let old = c.args.channels.now in
    let order = c.in_ok-numbers.ensures {u = tt} ∙ ap (λ (rows : List ChannelRow). channels_in_order (numbers_of rows)) c.deref.ensures.value in (
      plan,
      c.in_ok-plan.ensures.gives,
      (
        c.copy.ensures.count ∙ ap length (c.deref-2.ensures.value ∙ order),
        c.copy.ensures.copied ∙ ap (λ (ns : List ℕ). take (length old) ns ++ drop (length ns) old) (c.deref-2.ensures.value ∙ order),
      ),
    )
