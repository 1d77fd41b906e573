use Rattle.std.proofs.Common.{◌≡◌, ◌++◌, ◌+◌, ◌-◌, ◌<◌, ◌≤◌, ◌^◌, ℕ, zero, suc, length, take, refl, sym, subst, ap, ◌∙◌, arith, length-append}
use Rattle.std.proofs.lemmas.List.{length-take-le}
use Rattle.tx_words.specs.Making.{GaveWords}
use Rattle.stream_model.specs.BurstStream.{IsBurstStream}
use Rattle.stream_model.proofs.BurstsHold.{bursts_hold_the_least}
use Rattle.tx_words.proofs.BlockWords.{none_more}
use Rattle.tx_words.proofs.Making.{few_made}
use Rattle.tx_words.proofs.stream.words_of.Goals as goal

nearer : (m a b n : ℕ) → a ≡ b + n → 1 ≤ n → a < m → m - a < m - b
nearer m a b n e some h = omega arith

-- a block that is not the last has a word
some_made : (n : ℕ) (P : Type 0) → (n ≡ 0 → P) → (P → ⊥) → 1 ≤ n
some_made zero P whole going = absurd (going (whole refl))
some_made (suc n) P whole going = omega arith

pub loop-block-init : goal.loop-block-init
loop-block-init c = (subst (GaveWords c.in_ok-maker.maker c.args.source.now) (sym c.new-words.ensures) c.in_ok-maker.ensures, refl)

pub is_over-requires : goal.is_over-requires
is_over-requires c = (c.args.source.now, c.loop-block.words, c.loop-block.invariant.0)

pub next_block-count-requires : goal.next_block-count-requires
next_block-count-requires c = (c.args.source.now, c.loop-block.words, c.loop-block.invariant.0)

module _ (c : goal.In_ok-push_block) where
  items : c.push_block.new.words ≡ c.loop-block.words ++ take c.next_block-count.result c.next_block-count.new.block
  items = c.in_ok-push_block.ensures {u = tt}

  made : GaveWords c.next_block-count.new.self c.args.source.now c.push_block.new.words
  made = subst (GaveWords c.next_block-count.new.self c.args.source.now) (sym items) (c.next_block-count.ensures.given c.args.source.now c.loop-block.words c.loop-block.invariant.0)

  some : 1 ≤ c.next_block-count.result
  some =
      let full = c.loop-block.invariant.1 in
      some_made c.next_block-count.result (IsBurstStream c.args.source.now c.loop-block.words)
      (λ none. subst (IsBurstStream c.args.source.now) (none_more c.loop-block.words c.next_block-count.new.block c.next_block-count.result (omega (arith, none)))
      (c.next_block-count.ensures.whole c.args.source.now c.loop-block.words c.loop-block.invariant.0 (omega (arith, none, full))))
      (c.is_over.ensures.going c.args.source.now c.loop-block.words c.loop-block.invariant.0 c.loop-block-test.true)

pub loop-block-smaller : goal.loop-block-smaller
loop-block-smaller c =
    let within = c.next_block-count.ensures.within in
    let same = c.next_block-count.ensures.long in
    let long = length-take-le c.next_block-count.result c.next_block-count.new.block (omega (arith, within, same)) in
    let all : length c.push_block.new.words ≡ length c.loop-block.words + c.next_block-count.result = ap length (items c) ∙ length-append c.loop-block.words (take c.next_block-count.result c.next_block-count.new.block) ∙ ap (λ n. length c.loop-block.words + n) long in
    nearer (2 ^ 60) (length c.push_block.new.words) (length c.loop-block.words) c.next_block-count.result all (some c) (few_made c.next_block-count.new.self c.args.source.now c.push_block.new.words (made c))

pub loop-block-preserved : goal.loop-block-preserved
loop-block-preserved c = (made c, c.next_block-count.ensures.long ∙ c.loop-block.invariant.1)

pub held-held-requires : goal.held-held-requires
held-held-requires c = (c.args.source.now, c.loop-block.words, c.loop-block.invariant.0)

pub returns-clause-stream : goal.returns-clause-stream
returns-clause-stream c = c.is_over.ensures.over c.args.source.now c.loop-block.words c.loop-block.invariant.0 c.loop-block-test.false

pub returns-clause-least : goal.returns-clause-least
returns-clause-least c = bursts_hold_the_least c.args.source.now c.loop-block.words (returns-clause-stream c)

pub returns-clause-held : goal.returns-clause-held
returns-clause-held c channel = c.held-held.ensures.held c.args.source.now c.loop-block.words channel c.loop-block.invariant.0 (returns-clause-stream c)

pub returns-clause-free : goal.returns-clause-free
returns-clause-free c = c.held-held.ensures.free c.args.source.now c.loop-block.words c.loop-block.invariant.0 (returns-clause-stream c)
