-- The channels of a plan in order are different, and its shape is that of its link.
use Rattle.std.proofs.Common.{◌≡◌, ◌∙◌, ℕ, List, ap, sym, subst}
use Rattle.std.specs.List.{AllPairs}
use Rattle.link_plan.specs.Listing.{channels_in_order, numbers_of}
use Rattle.link_plan.specs.declared.channel.ChannelRow.{ChannelRow}
use Rattle.link_plan.proofs.InOrder.{differ_in_order}
use Rattle.live_end.specs.Sending.{Sends, nothing_sent}
use Rattle.c_transmitter.proofs.calls.transmitter_of.Goals as goal

pub new-requires-clause-distinct : goal.new-requires-clause-distinct
new-requires-clause-distinct c =
    let order = c.deref-2.ensures.value ∙ c.in_ok-channels.ensures in
    subst (AllPairs (λ (x y : ℕ). x ≡ y → ⊥)) (sym order) (differ_in_order (numbers_of c.deref.result.now))

pub returns : goal.returns
returns c =
    let plan = c.args.plan.now in
    let t = c.in_ok-transmitter.transmitter in
    let shape = c.shape.result in
    let order = c.deref-2.ensures.value ∙ c.in_ok-channels.ensures ∙ ap (λ (rows : List ChannelRow). channels_in_order (numbers_of rows)) c.deref.ensures.value in
    let at_entries = subst (λ (entries : List ℕ). Sends t (nothing_sent plan.link shape c.deref-2.result.now entries)) c.deref-3.ensures.value c.in_ok-transmitter.ensures.0 in
    let at_channels = subst (λ (channels : List ℕ). Sends t (nothing_sent plan.link shape channels plan.entries.items)) order at_entries in (
      shape,
      record { burst_max = c.shape.ensures.burst_max; burst_short = c.shape.ensures.burst_short; group = c.shape.ensures.group; warmup = c.shape.ensures.warmup },
      c.shape.ensures.burst_min,
      at_channels,
    )
