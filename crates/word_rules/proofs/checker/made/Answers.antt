use Rattle.std.proofs.Common.{ℕ, ◌≡◌, ◌+◌, ◌∙◌, true, false, refl, ap, sym, subst, List, length, take, replicate, arith}
use Rattle.std.proofs.lemmas.List.{length-set}
use Rattle.word_rules.specs.declared.channel.ChannelState.{ChannelState}
use Rattle.word_rules.specs.Made.{AreUnused, unused}
use Rattle.word_rules.proofs.Making.{all_first, unused_first, unused_more, take_whole}
use Rattle.word_rules.proofs.checker.made.Goals as goal

pub loop-i-init : goal.loop-i-init
loop-i-init c =
    let items : c.in_ok-kept.kept.items ≡ replicate 65536 (unused false) = c.in_ok-kept.ensures.items_if_clones_equal (λ y h. h) in
    record { all = all_first 65536 c.in_ok-kept.kept.items items; unused = unused_first c.in_ok-kept.kept.items c.args.channels.now items }

pub loop-i-preserved : goal.loop-i-preserved
loop-i-preserved c =
    let i : ℕ = c.loop-i.i in
    record {
      all = ap (λ (l : List ChannelState). length l) c.list.ensures ∙ length-set c.loop-i.kept.items _ (unused true) ∙ c.loop-i.invariant.all;
      unused = subst (λ (l : List ChannelState). AreUnused l (take (i + 1) c.args.channels.now)) (sym c.list.ensures)
          (unused_more c.loop-i.kept.items c.args.channels.now i _ c.loop-i.invariant.all c.loop-i-test.true refl c.loop-i.invariant.unused);
    }

pub returns-clause-fresh : goal.returns-clause-fresh
returns-clause-fresh c =
    let e : c.loop-i.i ≡ length c.args.channels.now = omega arith in
    subst (λ (l : List ℕ). AreUnused c.loop-i.kept.items l) (take_whole c.args.channels.now)
    (subst (λ (n : ℕ). AreUnused c.loop-i.kept.items (take n c.args.channels.now)) e c.loop-i.invariant.unused)
