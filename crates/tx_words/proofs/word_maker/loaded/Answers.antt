use Rattle.std.proofs.Common.{arith, take, refl, ◌^◌, ap, subst, ℕ, List, [], false, Contains, get_or}
use Rattle.std.proofs.lemmas.List.{take_all}
use Rattle.stream_model.specs.BurstStream.{Source}
use Rattle.burst_scheduler.specs.Gives.{Gives}
use Rattle.tx_words.specs.Sources.{packets_by}
use Rattle.tx_words.specs.Driving.{driven}
use Rattle.tx_words.specs.declared.packet.Packet.{Packet}
use Rattle.tx_words.proofs.Loading.{few, having_packets, one_packet}
use Rattle.tx_words.proofs.word_maker.loaded.Goals as goal

abbrev no_packet : Packet
no_packet = record { channel = 0; bytes = record { ref_ptr = (0, 0); now = [] } }

pub add_packet-requires-clause-gives : goal.add_packet-requires-clause-gives
add_packet-requires-clause-gives c =
    let packets = c.source.inside.packets.now in
    let i = c.loop-packet.packet-index in (
      driven (having_packets c.args.source.now (packets_by (take i packets))) [] 0 0 0 false false,
      c.loop-packet.invariant,
      refl,
      refl,
      subst (λ (cs : List ℕ). Contains cs (get_or packets i no_packet).channel) (ap (λ (q : Source). q.channels) c.source.view_is) (c.source.invariant.0.listed i no_packet c.loop-packet-test.true),
      few packets i (2 ^ 40) c.source.invariant.0.bytes,
    )

pub loop-packet-preserved : goal.loop-packet-preserved
loop-packet-preserved c =
    let packets = c.source.inside.packets.now in
    let i = c.loop-packet.packet-index in
    let source = c.args.source.now in
    subst (λ (ps : List (ℕ × List ℕ)). Gives c.add_packet.new.self (driven (having_packets source ps) [] 0 0 0 false false))
    (one_packet packets i no_packet c.loop-packet-test.true)
    (c.in_ok-add_packet.ensures.ok (driven (having_packets source (packets_by (take i packets))) [] 0 0 0 false false) c.loop-packet.invariant refl refl)

pub loop-packet-init : goal.loop-packet-init
loop-packet-init c = subst (λ (q : Source). Gives c.in_ok-scheduler.scheduler (driven (having_packets q []) [] 0 0 0 false false)) c.source.view_is c.in_ok-scheduler.ensures

pub add_packet-requires-clause-low : goal.add_packet-requires-clause-low
add_packet-requires-clause-low c = (c.source.invariant.0.sized c.loop-packet.packet-index no_packet c.loop-packet-test.true).0

pub add_packet-requires-clause-high : goal.add_packet-requires-clause-high
add_packet-requires-clause-high c = (c.source.invariant.0.sized c.loop-packet.packet-index no_packet c.loop-packet-test.true).1

pub returns : goal.returns
returns c =
    let packets = c.source.inside.packets.now in
    let over = c.loop-packet-test.false in
    let all = subst (λ (ps : List Packet). Gives c.loop-packet.scheduler (driven (having_packets c.args.source.now (packets_by ps)) [] 0 0 0 false false))
    (take_all c.loop-packet.packet-index packets (omega (arith, over))) c.loop-packet.invariant in
    subst (λ (ps : List (ℕ × List ℕ)). Gives c.loop-packet.scheduler (driven (having_packets c.args.source.now ps) [] 0 0 0 false false)) (ap (λ (q : Source). q.packets) c.source.view_is) all

pub new-requires-clause-channels_low : goal.new-requires-clause-channels_low
new-requires-clause-channels_low c = c.source.invariant.0.channels_low

pub new-requires-clause-channels_high : goal.new-requires-clause-channels_high
new-requires-clause-channels_high c = c.source.invariant.0.channels_high

pub new-requires-clause-entries_low : goal.new-requires-clause-entries_low
new-requires-clause-entries_low c = c.source.invariant.0.entries_low

pub new-requires-clause-entries_high : goal.new-requires-clause-entries_high
new-requires-clause-entries_high c = c.source.invariant.0.entries_high

pub new-requires-clause-distinct : goal.new-requires-clause-distinct
new-requires-clause-distinct c = c.source.invariant.0.distinct

pub new-requires-clause-among : goal.new-requires-clause-among
new-requires-clause-among c = c.source.invariant.0.among
