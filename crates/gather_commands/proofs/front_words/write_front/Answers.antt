-- The bytes of some more words are written.
use Rattle.std.proofs.Common.{◌*◌, ◌+◌, ◌∙◌, List, ap, sym, take, length, arith}
use Rattle.std.proofs.lemmas.List.{take_all}
use Rattle.lk_base.specs.declared.word.RxWord.{RxWord}
use Rattle.lane_words.specs.WordsFile.{rx_words_file}
use Rattle.rx_front.proofs.Waiting.{as_many}
use Rattle.rx_front.specs.Waiting.{words_in}
use Rattle.gather_commands.proofs.FrontWords.{more_written}
use Rattle.gather_commands.proofs.front_words.write_front.Goals as goal

pub loop-at-preserved : goal.loop-at-preserved
loop-at-preserved c =
    let at = c.loop-at.at in
    let more = c.write_next-at.result in
    let within = c.write_next-at.ensures.within in
    let count = c.len-count.ensures.count in
    record {
      within = omega (arith, within, count);
      long = c.write_next-at.ensures.long ∙ c.loop-at.invariant.long;
      file = more_written (words_in c.args.front.now.waiting) at more (take (9 * at) c.loop-at.bytes) (take (9 * (at + more)) c.write_next-at.new.bytes) c.loop-at.invariant.file c.write_next-at.ensures.put;
    }

pub returns : goal.returns
returns c =
    let at = c.loop-at.at in
    let waiting = c.args.front.now.waiting in
    let bytes = c.loop-at.bytes in
    let many = as_many c.at.result.group c.at.result.index waiting c.at.ensures.waiting in
    let over = c.loop-at-test.false in
    let count = c.len-count.ensures.count in
    let long = c.loop-at.invariant.long in
    let room = c.requires in
    sym (take_all (9 * at) bytes (omega (arith, over, count, long, room))) ∙ c.loop-at.invariant.file ∙ ap rx_words_file (take_all at (words_in waiting) (omega (arith, over, count, many)))
