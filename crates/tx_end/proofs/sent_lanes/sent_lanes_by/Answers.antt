use Rattle.std.proofs.Common.{[], length, subst}
use Rattle.tx_words.specs.SentLists as packets
use Rattle.tx_words.specs.declared.sent_list.SentList.{SentList}
use Rattle.tx_words.specs.declared.word_maker.WordMaker.{WordMaker}
use Rattle.tx_words.specs.Making.{GaveWords}
use Rattle.tx_words.specs.SentLaw.{EachHasBytes}
use Rattle.stream_model.specs.BurstStream.{Source}
use Rattle.std.proofs.Common.{ℕ, ◌≡◌, ◌<◌, ◌^◌}
use Rattle.tx_end.specs.SentLanes.{IsListed}
use Rattle.tx_end.proofs.sent_lanes.sent_lanes_by.Goals as goal

-- nothing is listed yet
begins : (m : WordMaker) (l : SentList) (source : Source) (room : ℕ) → GaveWords m source [] → EachHasBytes source → length source.packets < 2 ^ 32 → packets.Lists l [] room → room ≡ length source.packets → IsListed m l source []
begins m l source room gave bytes few lists all = record { gave = gave; bytes = bytes; few = few; lists = subst (packets.Lists l []) all lists }

pub lanes_by-requires : goal.lanes_by-requires
lanes_by-requires c = (
  c.args.source.now,
  begins c.args.maker.now c.in_ok-list.list c.args.source.now c.packet_count.result c.requires.maker c.packet_count.ensures.bytes c.requires.few c.in_ok-list.ensures c.packet_count.ensures.count,
  c.requires.suits,
)

pub into_sent-sent-requires : goal.into_sent-sent-requires
into_sent-sent-requires c =
    let begun = begins c.args.maker.now c.in_ok-list.list c.args.source.now c.packet_count.result c.requires.maker c.packet_count.ensures.bytes c.requires.few c.in_ok-list.ensures c.packet_count.ensures.count in
    let (words, listed, whole, files) = c.in_ok-files.ensures c.args.source.now begun c.requires.suits in
    (words, length c.args.source.now.packets, listed.lists)

pub slots-requires : goal.slots-requires
slots-requires c =
    let begun = begins c.args.maker.now c.in_ok-list.list c.args.source.now c.packet_count.result c.requires.maker c.packet_count.ensures.bytes c.requires.few c.in_ok-list.ensures c.packet_count.ensures.count in
    let (words, listed, whole, files) = c.in_ok-files.ensures c.args.source.now begun c.requires.suits in
    (c.args.source.now, words, listed.gave)

pub held-requires : goal.held-requires
held-requires c =
    let begun = begins c.args.maker.now c.in_ok-list.list c.args.source.now c.packet_count.result c.requires.maker c.packet_count.ensures.bytes c.requires.few c.in_ok-list.ensures c.packet_count.ensures.count in
    let (words, listed, whole, files) = c.in_ok-files.ensures c.args.source.now begun c.requires.suits in
    (c.args.source.now, words, listed.gave)

pub returns : goal.returns
returns c =
    let source = c.args.source.now in
    let begun = begins c.args.maker.now c.in_ok-list.list source c.packet_count.result c.requires.maker c.packet_count.ensures.bytes c.requires.few c.in_ok-list.ensures c.packet_count.ensures.count in
    let (words, listed, whole, files) = c.in_ok-files.ensures source begun c.requires.suits in
    record {
      words = words;
      stream = whole;
      files = files;
      sent = c.into_sent-sent.ensures words (length source.packets) listed.lists;
      slots = c.slots.ensures.count source words listed.gave;
      held = λ channel. c.held.ensures.held source words channel listed.gave whole;
      free = c.held.ensures.free source words listed.gave whole;
    }
