use Rattle.std.proofs.Common.{ℕ, ◌≡◌, ◌+◌, ◌≤◌, ◌<◌, ◌∷◌, [], ◌++◌, ◌∙◌, List, take, drop, length, get_or, cond, count_by, sym, ap, subst, arith, append_assoc, append-nil, length-append}
use Rattle.std.proofs.lemmas.List.Sums.{sum_by-append}
use Rattle.std.proofs.lemmas.List.{length-take-le, take_all, take_more, take-append-drop}
use Rattle.lk_base.specs.declared.word.Word.{Word}
use Rattle.tx_words.specs.Sent.{starts}
use Rattle.tx_words.specs.SentLists.{Lists}
use Rattle.tx_words.proofs.sent_list.SentList.pass_block.Goals as goal

-- the first words, one more
first_more : (p words : List Word) (k : ℕ) (d : Word) → k < length words → (p ++ take k words) ++ get_or words k d ∷ [] ≡ p ++ take (k + 1) words
first_more p words k d lt = append_assoc p (take k words) (get_or words k d ∷ []) ∙ ap (λ w. p ++ w) (sym (take_more words k d lt))

-- they start no more packets than all
few_first : (p words : List Word) (k : ℕ) → count_by starts (p ++ take k words) ≤ count_by starts (p ++ words)
few_first p words k =
    subst (λ w. count_by starts (p ++ take k words) ≤ count_by starts w) (append_assoc p (take k words) (drop k words) ∙ ap (λ w. p ++ w) (take-append-drop k words))
    (few (p ++ take k words) (drop k words))
  where
    few : (a b : List Word) → count_by starts a ≤ count_by starts (a ++ b)
    few a b = (let e = sum_by-append (λ (v : Word). cond (starts v) 1 0) a b in omega (arith, e))

pub pass-requires : goal.pass-requires
pass-requires c =
    let (p, room, is, few, low, short) = c.requires in
    let words = c.args.words.now in
    let k = c.loop-place.place in
    let here = c.loop-place-test.true in
    let long = length-append p (take k words) in
    let first = length-take-le k words (omega (arith, here)) in
    let all = few_first p words (k + 1) in (
      p ++ take k words,
      room,
      c.loop-place.invariant p room is,
      subst (λ w. count_by starts w ≤ room) (sym (first_more p words k _ here)) (omega (arith, all, few)),
      low,
      omega (arith, long, first, short, here),
    )

pub loop-place-init : goal.loop-place-init
loop-place-init c p room is = subst (λ w. Lists c.args.self.now w room) (sym (append-nil p)) is

pub loop-place-preserved : goal.loop-place-preserved
loop-place-preserved c p room is =
    subst (λ w. Lists c.pass.new.self w room) (first_more p c.args.words.now c.loop-place.place _ c.loop-place-test.true)
    (c.pass.ensures (p ++ take c.loop-place.place c.args.words.now) room (c.loop-place.invariant p room is))

pub returns : goal.returns
returns c p room is =
    subst (λ w. Lists c.loop-place.self (p ++ w) room) (take_all c.loop-place.place c.args.words.now c.loop-place-test.false) (c.loop-place.invariant p room is)
