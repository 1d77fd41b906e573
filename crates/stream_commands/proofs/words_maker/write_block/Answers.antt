-- The first bytes are written, and those of the next few words.
use Rattle.std.proofs.Common.{◌≡◌, ◌∙◌, ◌+◌, ◌-◌, ◌++◌, ℕ, List, [], length, drop, take, refl, sym, ap, subst, arith, append-nil, length-drop}
use Rattle.std.proofs.lemmas.List.{length-take}
use Rattle.stream_model.specs.BurstStream.{IsBurstStream}
use Rattle.tx_words.specs.Streaming.{Streams}
use Rattle.tx_words.proofs.BlockWords.{put_more}
use Rattle.stream_commands.proofs.WordsSent.{joined_files, no_more, nothing_made}
use Rattle.stream_commands.proofs.words_maker.write_block.Goals as goal

none_taken : (bytes : List ℕ) (n : ℕ) → n ≡ 0 → take n bytes ≡ []
none_taken bytes n none = ap (λ (k : ℕ). take k bytes) none

pub loop-bytes-init : goal.loop-bytes-init
loop-bytes-init c = record {
  within = omega arith;
  file = λ source made k. record { more = []; streams = subst (Streams c.args.words.now source) (sym (append-nil made)) k; file = refl };
}

pub write_few-more-requires-clause-streams : goal.write_few-more-requires-clause-streams
write_few-more-requires-clause-streams c = let (source, made, k) = c.requires.streams in let m = c.loop-bytes.invariant.file source made k in (source, _, m.streams)

pub write_few-more-requires-clause-room : goal.write_few-more-requires-clause-room
write_few-more-requires-clause-room c =
    let here = c.loop-bytes-test.true in
    let cut = length-take (length c.loop-bytes.bytes - c.loop-bytes.at) (drop c.loop-bytes.at c.loop-bytes.bytes) in
    let rest = length-drop c.loop-bytes.at c.loop-bytes.bytes in
    omega (arith, here, cut, rest)

pub returns-then-more-eq0-clause-file : goal.returns-then-more-eq0-clause-file
returns-then-more-eq0-clause-file c source made k =
    let none = c.if-more-eq0.true in
    let within = c.loop-bytes.invariant.within in
    let long = c.loop-bytes.auto.bytes in
    let m = c.loop-bytes.invariant.file source made k in
    joined_files c.loop-bytes.words c.write_few-more.new.words source made _ _ _ m (c.write_few-more.ensures.file source _ m.streams)
    (sym (put_more [] c.loop-bytes.bytes c.write_few-more.new.bytes _ c.loop-bytes.at c.write_few-more.result c.loop-bytes.at (omega (arith, within, long)) (omega (arith, none)) (omega (arith, none))))

pub returns-then-more-eq0-clause-whole : goal.returns-then-more-eq0-clause-whole
returns-then-more-eq0-clause-whole c source made k is =
    let m = c.loop-bytes.invariant.file source made k in
    let all = c.write_few-more.ensures.whole source (made ++ m.more) m.streams c.if-more-eq0.true in (
      nothing_made c.write_few-more.new.words source made _ (returns-then-more-eq0-clause-file c source made k) (none_taken _ _ is),
      subst (IsBurstStream source) (no_more made m.more (sym m.file ∙ none_taken c.loop-bytes.bytes c.loop-bytes.at is)) all,
    )

pub loop-bytes-preserved : goal.loop-bytes-preserved
loop-bytes-preserved c =
    let here = c.loop-bytes-test.true in
    let long = c.loop-bytes.auto.bytes in
    let within = c.write_few-more.ensures.within in
    let same = c.write_few-more.ensures.long in
    let cut = length-take (length c.loop-bytes.bytes - c.loop-bytes.at) (drop c.loop-bytes.at c.loop-bytes.bytes) in
    let rest = length-drop c.loop-bytes.at c.loop-bytes.bytes in
    record {
      within = omega (arith, here, long, within, cut, rest);
      file = λ source made k.
          let m = c.loop-bytes.invariant.file source made k in
          joined_files c.loop-bytes.words c.write_few-more.new.words source made _ _ _ m (c.write_few-more.ensures.file source _ m.streams)
          (sym (put_more [] c.loop-bytes.bytes c.write_few-more.new.bytes _ c.loop-bytes.at c.write_few-more.result (c.loop-bytes.at + c.write_few-more.result) (omega (arith, here)) (omega (arith, within, same)) refl));
    }

pub returns-clause-file : goal.returns-clause-file
returns-clause-file c source made k = c.loop-bytes.invariant.file source made k

pub returns-clause-whole : goal.returns-clause-whole
returns-clause-whole c source made k is =
    let room = c.requires.room in
    let over = c.loop-bytes-test.false in
    let long = c.loop-bytes.auto.bytes in
    absurd (omega (arith, room, over, long, is))
