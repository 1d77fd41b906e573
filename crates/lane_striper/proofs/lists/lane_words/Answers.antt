-- One word more.
use Rattle.std.proofs.Common.{◌≡◌, ℕ, refl, ap, ◌∙◌, ◌+◌, ◌*◌, List, [], ◌∷◌, ◌++◌, map, get_or, length, subst, ◌<◌, sym, arith, rules}
use Rattle.std.specs.List.{range_with_len}
use Rattle.std.proofs.lemmas.List.FromFn.{map-range_with_len_more}
use Rattle.lane_model.proofs.StripingHolds.{share-above}
use Rattle.lk_base.specs.declared.word.Word.{Word}
use Rattle.lk_base.specs.declared.word.Word.TheVariants.{Data}
use Rattle.lane_striper.proofs.lists.lane_words.Goals as goal

more : (words items pushed : List Word) (lanes lane place : ℕ) (w : Word) → items ≡ map (λ n. get_or words (n * lanes + lane) (Data 0)) (range_with_len 0 place) →
    w ≡ get_or words (place * lanes + lane) (Data 0) → pushed ≡ items ++ w ∷ [] → pushed ≡ map (λ n. get_or words (n * lanes + lane) (Data 0)) (range_with_len 0 (place + 1))
more words items pushed lanes lane place w e f g =
    g ∙ ap (λ x. items ++ x ∷ []) f
    ∙ ap (λ xs. xs ++ get_or words (place * lanes + lane) (Data 0) ∷ []) e
    ∙ sym (map-range_with_len_more (λ n. get_or words (n * lanes + lane) (Data 0)) 0 place place (omega arith))

pub loop-place-preserved : goal.loop-place-preserved
loop-place-preserved c =
    more c.args.words.now c.loop-place.list.items c.push.new.self.items c.args.lanes c.args.lane c.loop-place.place _ c.loop-place.invariant refl c.in_ok-push.ensures.items

pub bounds-words-place : goal.bounds-words-place
bounds-words-place c = share-above c.args.lanes (length c.args.words.now) c.args.lane c.loop-place.place c.requires.lane (subst (λ n. c.loop-place.place < n) c.share_of-place-end.ensures c.loop-place-test.true)

pub overflow_add-word : goal.overflow_add-word
overflow_add-word c =
    let h = share-above c.args.lanes (length c.args.words.now) c.args.lane c.loop-place.place c.requires.lane (subst (λ n. c.loop-place.place < n) c.share_of-place-end.ensures c.loop-place-test.true) in
    let small : length c.args.words.now < 9223372036854775808 = search rules in
    omega (arith, h, small)

pub overflow_mul-word : goal.overflow_mul-word
overflow_mul-word c =
    let h = share-above c.args.lanes (length c.args.words.now) c.args.lane c.loop-place.place c.requires.lane (subst (λ n. c.loop-place.place < n) c.share_of-place-end.ensures c.loop-place-test.true) in
    let small : length c.args.words.now < 9223372036854775808 = search rules in
    omega (arith, h, small)

pub returns : goal.returns
returns c = let n : c.loop-place.place ≡ c.share_of-place-end.result = omega (arith, c.loop-place-test.false, c.loop-place.auto.place-end) in
    c.loop-place.invariant ∙ ap (λ k. map (λ n. get_or c.args.words.now (n * c.args.lanes + c.args.lane) (Data 0)) (range_with_len 0 k)) (n ∙ c.share_of-place-end.ensures)
