use Rattle.std.proofs.Common.{◌≡◌, ◌≤◌, sym, subst, refl, List, ℕ, arith, All, Contains, length}
use Rattle.std.specs.List.{AllPairs}
use Rattle.std.proofs.lemmas.List.{length-map}
use Rattle.link_plan.specs.Listing.{numbers_of}
use Rattle.link_plan.specs.declared.channel.ChannelRow.{ChannelRow}
use Rattle.link_plan.proofs.Whole.{fit-top, order-some}
use Rattle.link_plan.proofs.InOrder.{entries_in_order, differ_in_order}
use Rattle.plan_inputs.proofs.PlanChannels.{few_in_order}
use Rattle.plan_inputs.specs.Values.{packet_values}
use Rattle.duplex.specs.Duplexes.{settings_of, empty_ends}
use Rattle.receipts.proofs.Settings.{plan_order}
use Rattle.duplex_commands.specs.Values.{duplex_reading}
use Rattle.duplex_commands.proofs.Loads.{is_loaded, on_order}
use Rattle.duplex_commands.proofs.lending.loaded.Goals as goal

pub new-requires-clause-channels_low : goal.new-requires-clause-channels_low
new-requires-clause-channels_low c =
    let p = c.args.inputs.now.plan in
    let numbers = numbers_of p.channels.items in
    let rows = length-map p.channels.items (λ (r : ChannelRow). r.number) in
    let some = p.some_channels in
    subst (λ (cs : List ℕ). 1 ≤ length cs) (sym c.requires.channels) (order-some numbers (fit-top p.wide numbers p.in_width) (omega (arith, rows, some)))

pub new-requires-clause-channels_high : goal.new-requires-clause-channels_high
new-requires-clause-channels_high c = subst (λ (cs : List ℕ). length cs ≤ 1024) (sym c.requires.channels) (few_in_order c.args.inputs.now.plan)

pub new-requires-clause-entries_low : goal.new-requires-clause-entries_low
new-requires-clause-entries_low c = subst (λ (es : List ℕ). 1 ≤ length es) (sym c.deref.ensures.value) c.args.inputs.now.plan.some_entries

pub new-requires-clause-entries_high : goal.new-requires-clause-entries_high
new-requires-clause-entries_high c = subst (λ (es : List ℕ). length es ≤ 1024) (sym c.deref.ensures.value) c.args.inputs.now.plan.few_entries

pub new-requires-clause-distinct : goal.new-requires-clause-distinct
new-requires-clause-distinct c = subst (AllPairs (λ (x y : ℕ). x ≡ y → ⊥)) (sym c.requires.channels) (differ_in_order (numbers_of c.args.inputs.now.plan.channels.items))

pub new-requires-clause-among : goal.new-requires-clause-among
new-requires-clause-among c =
    let p = c.args.inputs.now.plan in
    subst (λ (es : List ℕ). All (Contains c.args.channels.now) es) (sym c.deref.ensures.value)
    (subst (λ (cs : List ℕ). All (Contains cs) p.entries.items) (sym c.requires.channels) (entries_in_order p.wide (numbers_of p.channels.items) p.entries.items p.in_width p.listed))

pub lend_both-requires : goal.lend_both-requires
lend_both-requires c =
    let i = c.args.inputs.now in
    let p = i.plan in
    let fit = c.requires.fit in
    let numbers = numbers_of p.channels.items in (
      settings_of c.settings_of.result,
      c.shape.result,
      c.args.channels.now,
      c.deref.result.now,
      c.in_ok-duplex.ensures.waits,
      record {
        on_a = on_order p.wide numbers c.args.channels.now (packet_values i.packets_of_a.items) p.in_width c.requires.channels fit.on_a;
        on_b = on_order p.wide numbers c.args.channels.now (packet_values i.packets_of_b.items) p.in_width c.requires.channels fit.on_b;
        size_a = fit.size_a;
        size_b = fit.size_b;
      },
    )

pub returns : goal.returns
returns c =
    let i = c.args.inputs.now in
    let p = i.plan in
    let settings = settings_of c.settings_of.result in
    let ends = empty_ends c.shape.result c.args.channels.now c.deref.result.now in
    let both = c.in_ok-lend_both.ensures in
    is_loaded (duplex_reading i) settings c.shape.result c.args.channels.now c.deref.result.now c.max_packet.result p.wide _ _ (packet_values i.packets_of_a.items) (packet_values i.packets_of_b.items)
    c.settings_of.ensures.delay c.settings_of.ensures.mark c.settings_of.ensures.drain
    (record { burst_max = c.shape.ensures.burst_max; burst_short = c.shape.ensures.burst_short; burst_min = c.shape.ensures.burst_min; group = c.shape.ensures.group; warmup = c.shape.ensures.warmup })
    (plan_order p c.args.channels.now c.requires.channels) c.deref.ensures.value c.max_packet.ensures.value refl c.max_packet.ensures.most refl refl
    (both.waits settings ends c.in_ok-duplex.ensures.waits) both.inboxes c.in_ok-duplex.ensures.given c.in_ok-duplex.ensures.got both.bytes_of_a both.bytes_of_b
