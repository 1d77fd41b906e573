use Rattle.std.proofs.Common.{sym, ◌∙◌, ◌^◌, arith}
use Rattle.tx_words.proofs.Opening.{stands-none}
use Rattle.tx_words.proofs.SentLists.{has_room, low_number}
use Rattle.tx_words.proofs.sent_list.start_packet.Goals as goal

pub start_open-requires-clause-half : goal.start_open-requires-clause-half
start_open-requires-clause-half c =
    let (p, total, half, slot, few, room, low) = c.requires.half in
    (p, c.args.word, half, slot, low_number p c.args.word c.in-Some.channel total (2 ^ 32) (sym c.start_channel.ensures.channel ∙ c.in-Some.is) few low)

pub start_open-requires-clause-room : goal.start_open-requires-clause-room
start_open-requires-clause-room c =
    let (p, total, half, slot, few, room, low) = c.requires.half in
    let there = has_room p c.args.word c.in-Some.channel c.args.count total c.args.list.now half.firsts c.requires.within (sym c.start_channel.ensures.channel ∙ c.in-Some.is) few in
    omega (arith, there, room)

pub returns-in-Some-clause-within : goal.returns-in-Some-clause-within
returns-in-Some-clause-within c =
    let (p, total, half, slot, few, room, low) = c.requires.half in
    let there = has_room p c.args.word c.in-Some.channel c.args.count total c.args.list.now half.firsts c.requires.within (sym c.start_channel.ensures.channel ∙ c.in-Some.is) few in
    omega (arith, there, room, c.start_open.ensures.long)

pub returns-in-None-clause-stands : goal.returns-in-None-clause-stands
returns-in-None-clause-stands c p half slot = stands-none p c.args.word _ c.args.places.now half (sym c.start_channel.ensures.channel ∙ c.in-None.is)
