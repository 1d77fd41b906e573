-- What a maker of words says of its stream.
use Rattle.std.proofs.Common.{◌≡◌, ◌<◌, ◌≤◌, ◌^◌, ◌*◌, List, map, length, take, count_by, sym, subst, arith}
use Rattle.lk_base.specs.declared.word.Word.{Word}
use Rattle.lk_base.specs.declared.word.Word.TheVariants.{Data}
use Rattle.stream_model.specs.BurstStream.{Source, IsBurstStream}
use Rattle.burst_scheduler.specs.Gives.{IsRight, planned, to_come}
use Rattle.tx_words.specs.declared.word_maker.WordMaker.{WordMaker}
use Rattle.tx_words.specs.Driving.{driven, having_rows}
use Rattle.tx_words.specs.Making.{GaveWords}
use Rattle.tx_words.specs.Sent.{starts}
use Rattle.tx_words.specs.SentLaw.{EachHasBytes}
use Rattle.tx_words.proofs.Leftover.{first_given}
use Rattle.tx_words.proofs.Numbers.{Follows}
use Rattle.tx_words.proofs.NumbersLaw.{few_words}
use Rattle.tx_words.proofs.Steps.{limit_lower}

-- its words are the first of any stream of the source
pub first_made : (m : WordMaker) (source : Source) (words w : List Word) → GaveWords m source words → IsBurstStream source w → take (length words) w ≡ words
first_made m source words w k stream =
    first_given m.scheduler (having_rows source m.flow.now m.local.now) words m.flow_passed m.local_passed k.drives w
    (subst (λ (q : Source). IsBurstStream q w) (sym k.rows) stream)

-- its words can be counted
pub few_gave : (m : WordMaker) (source : Source) (words : List Word) → GaveWords m source words → length words ≤ 515 * 2 ^ 40
few_gave m source words k = (let a = limit_lower (having_rows source m.flow.now m.local.now) k.timed in let b = k.drives.words_low in omega (arith, a, b))

pub few_made : (m : WordMaker) (source : Source) (words : List Word) → GaveWords m source words → length words < 2 ^ 60
few_made m source words k = (let a = few_gave m source words k in omega (arith, a))

-- ---- the packets that start are few

follows_right : (source : Source) (w : List Word) → IsRight source w → Follows source w
follows_right source w r = record {
  carried = λ t x at burst. let c = r.chunks t x at burst in (c.0, c.1);
  start = λ t x at burst. (r.controls t x at).start burst;
}

pub few_started : (m : WordMaker) (source : Source) (words : List Word) → EachHasBytes source → GaveWords m source words → count_by starts words ≤ length source.packets
few_started m source words each k =
    let d = k.drives in
    let a = driven (having_rows source m.flow.now m.local.now) words m.flow_passed m.local_passed d.opened d.waits d.closed in
    few_words a.source words (map Data (to_come m.scheduler)) each (follows_right a.source (planned m.scheduler a) d.gives.runs.words.right)
