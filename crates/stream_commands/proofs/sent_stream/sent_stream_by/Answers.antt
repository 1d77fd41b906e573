use Rattle.std.proofs.Common.{◌≡◌, ◌<◌, ◌^◌, ℕ, List, [], length, sym, subst}
use Rattle.lk_base.specs.declared.word.Word.{Word}
use Rattle.stream_model.specs.BurstStream.{Source}
use Rattle.tx_words.specs.Making.{GaveWords}
use Rattle.tx_words.specs.SentLaw.{EachHasBytes}
use Rattle.tx_words.specs.SentLists as packets
use Rattle.tx_words.specs.declared.sent_list.SentList.{SentList}
use Rattle.tx_words.specs.declared.word_maker.WordMaker.{WordMaker}
use Rattle.tx_end.specs.SentLanes.{IsListed}
use Rattle.stream_commands.proofs.sent_stream.sent_stream_by.Goals as goal

-- no word is made, and there is room for all packets
begins : (m : WordMaker) (l : SentList) (source : Source) (words : List Word) (room : ℕ) → GaveWords m source [] → EachHasBytes source → length source.packets < 2 ^ 32 → packets.Lists l [] room → room ≡ length source.packets → words ≡ [] → IsListed m l source words
begins m l source words room gave bytes few lists all none =
    subst (IsListed m l source) (sym none) (record { gave = gave; bytes = bytes; few = few; lists = subst (packets.Lists l []) all lists })

pub make_all-requires : goal.make_all-requires
make_all-requires c = (
  c.args.source.now,
  begins c.args.maker.now c.in_ok-list.list c.args.source.now c.new-words.result c.packet_count.result c.requires.maker c.packet_count.ensures.bytes c.requires.few c.in_ok-list.ensures c.packet_count.ensures.count c.new-words.ensures,
)

pub listed_lines-requires : goal.listed_lines-requires
listed_lines-requires c =
    let source = c.args.source.now in
    let begun = begins c.args.maker.now c.in_ok-list.list source c.new-words.result c.packet_count.result c.requires.maker c.packet_count.ensures.bytes c.requires.few c.in_ok-list.ensures c.packet_count.ensures.count c.new-words.ensures in
    let all = c.in_ok-make_all.ensures {u = tt} source begun in
    (c.make_all.new.words, c.sent.ensures c.make_all.new.words (length source.packets) all.0.lists)

pub held-held-requires : goal.held-held-requires
held-held-requires c =
    let source = c.args.source.now in
    let begun = begins c.args.maker.now c.in_ok-list.list source c.new-words.result c.packet_count.result c.requires.maker c.packet_count.ensures.bytes c.requires.few c.in_ok-list.ensures c.packet_count.ensures.count c.new-words.ensures in
    let all = c.in_ok-make_all.ensures {u = tt} source begun in
    (source, c.make_all.new.words, all.0.gave)

pub returns : goal.returns
returns c =
    let source = c.args.source.now in
    let begun = begins c.args.maker.now c.in_ok-list.list source c.new-words.result c.packet_count.result c.requires.maker c.packet_count.ensures.bytes c.requires.few c.in_ok-list.ensures c.packet_count.ensures.count c.new-words.ensures in
    let all = c.in_ok-make_all.ensures {u = tt} source begun in
    let words = c.make_all.new.words in
    let lists = all.0.lists in
    record {
      is = record {
        stream = all.1;
        held = λ channel. c.held-held.ensures.held source words channel all.0.gave all.1;
        free = c.held-held.ensures.free source words all.0.gave all.1;
        lines = c.in_ok-lines.ensures words all.1 (c.sent.ensures words (length source.packets) lists) c.len.ensures.value;
      };
      sent = c.into_sent-sent.ensures words (length source.packets) lists;
    }
