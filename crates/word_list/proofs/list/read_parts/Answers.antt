use Rattle.std.proofs.Common.{◌≡◌, ◌+◌, ◌<◌, ◌∷◌, [], ◌++◌, ◌∙◌, List, length, drop, take, get_or, sym, ap, arith}
use Rattle.std.proofs.lemmas.List.{get_or-drop, length-drop, length-set, take_more, take_more_set}
use Rattle.lk_base.specs.declared.word.Word.{Word}
use Rattle.lk_base.specs.declared.word.Word.TheVariants.{Control}
use Rattle.word_list.specs.Parts.{words_of}
use Rattle.word_list.proofs.Lists.{length-words_of, words_of-at}
use Rattle.word_list.proofs.list.read_parts.Goals as goal

pub loop-place-preserved : goal.loop-place-preserved
loop-place-preserved c =
    let numbers = c.args.numbers.now in
    let controls = c.args.controls.now in
    let words : List Word = words_of numbers controls in
    let first = c.args.first in
    let k = c.loop-place.place in
    let block = c.loop-place.block in
    let many = length-words_of numbers controls c.requires.parts in
    let here : k < length block = omega (arith, c.loop-place-test.true, c.loop-place.invariant.0) in
    let there : first + k < length numbers = omega (arith, here, c.requires.there, c.loop-place.invariant.0) in
    let left = length-drop first words in
    let word : c.word_of.result ≡ get_or (drop first words) k (Control 0) =
    c.word_of.ensures ∙ sym (words_of-at numbers controls (first + k) _ _ c.requires.parts there) ∙ sym (get_or-drop first words k (Control 0)) in (
      length-set block k c.word_of.result ∙ c.loop-place.invariant.0,
      take_more_set block k c.word_of.result here ∙ ap (λ (w : List Word). w ++ c.word_of.result ∷ []) c.loop-place.invariant.1
          ∙ ap (λ (w : Word). take k (drop first words) ++ w ∷ []) word ∙ sym (take_more (drop first words) k (Control 0) (omega (arith, left, many, there))),
    )
