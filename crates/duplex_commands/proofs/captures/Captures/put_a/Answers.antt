use Rattle.std.proofs.Common.{◌≡◌, ◌+◌, ◌<◌, refl, subst, false, List, length, slice_index}
use Rattle.reassembly.specs.Settings.{is_among}
use Rattle.receipts.specs.Counts.{numbers_of}
use Rattle.receipts.specs.declared.receipt.ChannelReceipt.{ChannelReceipt}
use Rattle.duplex_commands.specs.Captures.{given_of}
use Rattle.duplex_commands.proofs.Kept.{numbers_rise, place_in_a, puts_a, unlisted_a}
use Rattle.duplex_commands.proofs.captures.Captures.put_a.Goals as goal

pub place_of-requires : goal.place_of-requires
place_of-requires g c =
    let (b, got_a, got_b, is) = c.requires.kept in
    rw c.deref.ensures.value (numbers_rise got_a b.setting.channels c.args.self.now.a.items b.setting.in_order is.counts_a)

pub put_record-requires-clause-place : goal.put_record-requires-clause-place
put_record-requires-clause-place g c = (subst (λ (cs : List ChannelReceipt). (c.in-Some.place < length cs) × (slice_index (numbers_of cs) c.in-Some.place ≡ c.args.channel)) c.deref.ensures.value c.in-Some.ensures.found).0

pub put_record-requires-clause-output : goal.put_record-requires-clause-output
put_record-requires-clause-output g c =
    let (b, got_a, got_b, is) = c.requires.kept in
    place_in_a b got_a got_b c.args.self.now _ is c.in-Some.place (subst (λ (cs : List ChannelReceipt). (c.in-Some.place < length cs) × (slice_index (numbers_of cs) c.in-Some.place ≡ c.args.channel)) c.deref.ensures.value c.in-Some.ensures.found).0

pub put_record-requires-clause-differ : goal.put_record-requires-clause-differ
put_record-requires-clause-differ g c = let (b, got_a, got_b, is) = c.requires.kept in is.differ

pub put_record-requires-clause-open : goal.put_record-requires-clause-open
put_record-requires-clause-open g c = let (b, got_a, got_b, is) = c.requires.kept in (given_of b got_a got_b, b.was, is.given)

pub returns-in-Some-clause-keeps : goal.returns-in-Some-clause-keeps
returns-in-Some-clause-keeps g c b got_a got_b first last is =
    puts_a b got_a got_b c.args.self.now _ is c.args.channel (record { bytes = c.args.packet.now; first = first; last = last }) _ _ c.put_record.result c.put_record.ensures.names c.put_record.ensures.stops c.in-Some.place (0 + c.in-Some.place)
    (c.put_record.ensures.grown (given_of b got_a got_b) b.was is.given) (subst (λ (cs : List ChannelReceipt). (c.in-Some.place < length cs) × (slice_index (numbers_of cs) c.in-Some.place ≡ c.args.channel)) c.deref.ensures.value c.in-Some.ensures.found).0 (subst (λ (cs : List ChannelReceipt). (c.in-Some.place < length cs) × (slice_index (numbers_of cs) c.in-Some.place ≡ c.args.channel)) c.deref.ensures.value c.in-Some.ensures.found).1 refl refl c.put_record.ensures.counted

pub returns-in-None-clause-keeps : goal.returns-in-None-clause-keeps
returns-in-None-clause-keeps g c b got_a got_b first last is =
    unlisted_a b got_a got_b c.args.self.now _ is c.args.channel (record { bytes = c.args.packet.now; first = first; last = last })
    (subst (λ (cs : List ChannelReceipt). is_among c.args.channel (numbers_of cs) ≡ false) c.deref.ensures.value c.in-None.ensures.absent)
