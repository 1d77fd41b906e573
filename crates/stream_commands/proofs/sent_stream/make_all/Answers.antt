use Rattle.std.proofs.Common.{◌-◌, ◌<◌, ◌^◌, ℕ, length, arith}
use Rattle.tx_words.proofs.Making.{few_made}
use Rattle.stream_commands.proofs.sent_stream.make_all.Goals as goal

nearer : (m a b : ℕ) → b < a → a < m → m - a < m - b
nearer m a b more low = omega arith

pub loop-maker-init : goal.loop-maker-init
loop-maker-init c = λ source is. is

pub is_over-requires : goal.is_over-requires
is_over-requires c = let (source, is) = c.requires in (source, c.loop-maker.words, (c.loop-maker.invariant source is).gave)

pub make_few-requires : goal.make_few-requires
make_few-requires c = let (source, is) = c.requires in (source, c.loop-maker.invariant source is)

pub loop-maker-smaller : goal.loop-maker-smaller
loop-maker-smaller c =
    let (source, is) = c.requires in
    let now = c.loop-maker.invariant source is in
    let did = c.in_ok-make_few.ensures {u = tt} in
    nearer (2 ^ 60) (length c.make_few.new.words) (length c.loop-maker.words) (did.more source now (c.is_over.ensures.going source c.loop-maker.words now.gave c.loop-maker-test.true))
    (few_made c.make_few.new.maker source c.make_few.new.words (did.lists source now).gave)

pub loop-maker-preserved : goal.loop-maker-preserved
loop-maker-preserved c = λ source is. (c.in_ok-make_few.ensures {u = tt}).lists source (c.loop-maker.invariant source is)

pub returns : goal.returns
returns c source is =
    let now = c.loop-maker.invariant source is in
    (now, c.is_over.ensures.over source c.loop-maker.words now.gave c.loop-maker-test.false)
