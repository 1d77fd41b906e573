-- One word more, from its list.
use Rattle.std.proofs.Common.{◌≡◌, sym, ◌∙◌, ◌<◌, length, map, arith}
use Rattle.std.proofs.lemmas.List.{length-map}
use Rattle.lane_striper.specs.Gathered.{list_of}
use Rattle.lane_striper.proofs.Begun.{mapped, step_at, smaller}
use Rattle.lane_striper.proofs.lists.gather.Goals as goal

module _ (c : goal.In_ok-push) where
  number : c.len-number.result ≡ length c.loop-word.words.items
  number = c.len-number.ensures ∙ c.loop-word.words.ok.0

  some : 0 < length c.args.lists.now
  some = let h = c.requires.0 in omega (arith, h)

  list_is : list_of (map (λ list. list.items) c.args.lists.now) c.len-number.result ≡ c.deref.result.now
  list_is =
      mapped (λ list. list.items) c.args.lists.now c.len-number.result c.index-lists-number.result some c.index-lists-number.is ∙ sym c.deref.ensures.value

pub loop-word-preserved : goal.loop-word-preserved
loop-word-preserved c =
    step_at (map (λ list. list.items) c.args.lists.now) c.loop-word.words.items c.push.new.self.items c.deref.result.now c.in-Some.word.now c.len-number.result (length c.args.lists.now)
    c.loop-word.invariant (number c) (sym (length-map c.args.lists.now (λ list. list.items))) (list_is c) c.in-Some.ensures.lookup.3.0 c.in-Some.ensures.lookup.3.1 c.in_ok-push.ensures.items

pub loop-word-smaller : goal.loop-word-smaller
loop-word-smaller c =
    smaller (map (λ list. list.items) c.args.lists.now) c.loop-word.words.items c.push.new.self.items c.deref.result.now c.in-Some.word.now c.len-number.result (length c.args.lists.now)
    (some c) c.loop-word.invariant (number c) (sym (length-map c.args.lists.now (λ list. list.items))) (list_is c) c.in-Some.ensures.lookup.3.0 c.in_ok-push.ensures.items
