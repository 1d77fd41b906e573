use Rattle.std.proofs.Common.{rules, ◌≡◌, ◌∙◌, ◌++◌, ◌∷◌, [], ℕ, length, map, get_or, sym, ap, subst, arith}
use Rattle.std.specs.List.{range_with_len}
use Rattle.std.specs.List.Sorted.{IsPermutation}
use Rattle.std.proofs.lemmas.List.Sorted.{IsNonDecreasingBy-from_sort, answers_always}
use Rattle.lk_base.proofs.Lists.{range_more}
use Rattle.burst_scheduler.proofs.turns.numbers.Goals as goal

pub loop-i-preserved : goal.loop-i-preserved
loop-i-preserved c = (c.in_ok-push.ensures {u = tt}).items ∙ ap (λ xs. xs ++ (get_or c.args.channels.now c.loop-i.i 0, c.loop-i.i) ∷ []) c.loop-i.invariant ∙ sym (range_more (λ (k : ℕ). (get_or c.args.channels.now k 0, k)) c.loop-i.i)

pub returns : goal.returns
returns c =
    let end : c.loop-i.i ≡ length c.args.channels.now = (let m = c.loop-i.auto.i-end in let f = c.loop-i-test.false in omega (arith, m, f)) in
    record {
      same = subst (λ xs. IsPermutation xs c.sort_unstable_by_key.new.self.items) (c.loop-i.invariant ∙ ap (λ n. map (λ (k : ℕ). (get_or c.args.channels.now k 0, k)) (range_with_len 0 n)) end) c.sort_unstable_by_key.ensures.permutation;
      rising = IsNonDecreasingBy-from_sort (λ (pair : ℕ × ℕ). pair.0) _ (c.sort_unstable_by_key.ensures.sorted (λ (pair : ℕ × ℕ). pair.0) (answers_always _ _ _ (λ f a r g h. search rules)));
    }
