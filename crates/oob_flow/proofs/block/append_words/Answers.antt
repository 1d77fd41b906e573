use Rattle.std.proofs.Common.{◌≡◌, ◌+◌, ◌/◌, ◌≤◌, ◌++◌, ◌∷◌, [], List, ℕ, false, length, sym, ap, ◌∙◌, append_assoc, arith}
use Rattle.std.proofs.lemmas.List.{length_push, length-drop}
use Rattle.oob_flow.specs.Words.{idle_word, words_from, block_words}
use Rattle.oob_flow.proofs.Split.{some_left, words_step}
use Rattle.oob_flow.proofs.block.append_words.Goals as goal

pub loop-rest-init : goal.loop-rest-init
unfolding block_words
loop-rest-init c = record {
  few = omega (arith, ap length c.requires.empty);
  leads = ap (λ (xs : List ℕ). xs ++ words_from ((length c.args.states.now + 15) / 16) c.args.is_first c.args.states.now) c.requires.empty;
}

pub loop-rest-preserved : goal.loop-rest-preserved
loop-rest-preserved c =
    let some : 1 ≤ length c.loop-rest.rest.now = some_left (length c.loop-rest.rest.now) (sym c.is_empty.ensures ∙ c.loop-rest-test.true) in
    let step = words_step c.loop-rest.reset c.loop-rest.rest.now c.split_at.result.1.now c.min.result c.min.ensures c.split_at.ensures.back some in
    let pushed : c.push.new.self.items ≡ c.loop-rest.words.items ++ c.idle_word.result ∷ [] = c.push.ensures.items in
    record {
      few = omega (arith, ap length pushed, length_push c.loop-rest.words.items c.idle_word.result, ap length c.split_at.ensures.back, length-drop c.min.result c.loop-rest.rest.now, c.min.ensures);
      leads = ap (λ (xs : List ℕ). xs ++ words_from ((length c.split_at.result.1.now + 15) / 16) false c.split_at.result.1.now) pushed
          ∙ append_assoc c.loop-rest.words.items (c.idle_word.result ∷ []) (words_from ((length c.split_at.result.1.now + 15) / 16) false c.split_at.result.1.now)
          ∙ ap (λ (x : ℕ). c.loop-rest.words.items ++ x ∷ words_from ((length c.split_at.result.1.now + 15) / 16) false c.split_at.result.1.now) (c.idle_word.ensures ∙ ap (idle_word c.loop-rest.reset) c.flow_bits.ensures)
          ∙ sym (ap (λ (xs : List ℕ). c.loop-rest.words.items ++ xs) step) ∙ c.loop-rest.invariant.leads;
    }
