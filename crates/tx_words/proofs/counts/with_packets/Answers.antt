use Rattle.std.proofs.Common.{◌<◌, ◌^◌, List, length, get_or, arith, [], subst}
use Rattle.std.proofs.lemmas.List.{take_all}
use Rattle.tx_words.specs.Tallies.{AreTallies, tally_of}
use Rattle.tx_words.specs.declared.packet.Packet.{Packet}
use Rattle.tx_words.proofs.Counting.{packet-one, has_room}
use Rattle.tx_words.proofs.counts.with_packets.Goals as goal

abbrev no_packet : Packet
no_packet = record { channel = 0; bytes = record { ref_ptr = (0, 0); now = [] } }

pub with_packet-requires : goal.with_packet-requires
with_packet-requires c =
    let i = c.loop-packet.packet-index in
    let fit : length c.args.packets.now < 2 ^ 64 = omega arith in
    let low : (get_or c.args.packets.now i no_packet).channel < 65536 = (let f = c.requires.fit i no_packet c.loop-packet-test.true in omega arith) in
    let (n, first) = c.requires.first in
    let room = has_room c.args.most n c.loop-packet.tallies.items c.args.packets.now i no_packet c.index.result.now c.loop-packet-test.true fit low (c.loop-packet.invariant.1 n first) c.index.ensures c.requires.bytes in
    record { most = c.requires.most; bytes = room.bytes; packets = room.packets; left = room.left }

pub loop-packet-preserved : goal.loop-packet-preserved
loop-packet-preserved c =
    let i = c.loop-packet.packet-index in
    let low : (get_or c.args.packets.now i no_packet).channel < 65536 = (let f = c.requires.fit i no_packet c.loop-packet-test.true in omega arith) in
    (c.loop-packet.invariant.0, λ n first. packet-one c.args.most n c.loop-packet.tallies.items c.args.packets.now i no_packet c.index.result.now c.with_packet.result c.loop-packet-test.true low (c.loop-packet.invariant.1 n first) c.index.ensures c.with_packet.ensures)

pub returns-clause-tallies : goal.returns-clause-tallies
returns-clause-tallies c n first =
    subst (λ (ps : List Packet). AreTallies (λ k. tally_of c.args.most k (n k) ps) c.loop-packet.tallies.items) (take_all c.loop-packet.packet-index c.args.packets.now c.loop-packet-test.false) (c.loop-packet.invariant.1 n first)
