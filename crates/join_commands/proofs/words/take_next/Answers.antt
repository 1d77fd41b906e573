-- A run of data words was put, or one word was put and its outputs came.
use Rattle.std.proofs.Common.{◌≡◌, ◌+◌, ◌≤◌, ◌∙◌, ◌++◌, ℕ, List, false, ap, subst, arith, length, length-drop, map, take, drop}
use Rattle.std.proofs.lemmas.Result.{err_from_is_err_and}
use Rattle.lk_base.specs.declared.word.RxWord.{RxWord}
use Rattle.lk_base.specs.declared.word.RxWord.TheVariants.{Data}
use Rattle.lk_base.specs.Positions.{words_from}
use Rattle.receipts.specs.Receipts.{IsStopped}
use Rattle.join_commands.specs.Going.{IsReady, outputs_of}
use Rattle.join_commands.proofs.Steps.{first_data, part_stopped}
use Rattle.join_commands.proofs.words.take_next.Goals as goal

pub returns-then-count-gt0-clause-takes : goal.returns-then-count-gt0-clause-takes
returns-then-count-gt0-clause-takes g c b put ready =
    let words : List RxWord = c.args.words.now in
    let from : ℕ = c.args.from in
    let count : ℕ = c.copy_data-count.result in
    let left = length-drop from words in
    let within = c.copy_data-count.ensures.within in
    let few : count ≤ length (drop from words) = omega (arith, left, within) in
    let are : map Data c.head.result.now ≡ take count (drop from words) = ap (map Data) c.head.ensures ∙ c.copy_data-count.ensures.copied in
    first_data b from put (drop from words) count c.head.result.now _ _ _ _ are few ready c.put_data.ensures.nothing (c.put_data.ensures.stands b.setting put _ ready.after ready.at.stands)

pub returns-in_err-take_word-clause-takes : goal.returns-in_err-take_word-clause-takes
returns-in_err-take_word-clause-takes g c b put ready =
    let words : List RxWord = c.args.words.now in
    let from : ℕ = c.args.from in
    let p = err_from_is_err_and c.from_residual.result c.from_residual.ensures.1 in
    rw (p.1, p.2) (part_stopped b from put (drop from words) 1 c.in_err-take_word.field-0.0 _
    (subst (λ (ws : List RxWord). IsStopped b (outputs_of b (put ++ words_from 0 from ws) false) c.in_err-take_word.field-0.0 (g.S.Store.files c.take_word.new.store)) c.word_at-word.ensures
    (c.in_err-take_word.ensures.takes b put ready)))

pub returns-clause-takes : goal.returns-clause-takes
returns-clause-takes g c b put ready =
    subst (λ (ws : List RxWord). IsReady b (c.args.from + 1) (put ++ words_from 0 c.args.from ws) c.take_word.new.reassembly c.take_word.new.receipt (g.S.Store.files c.take_word.new.store)) c.word_at-word.ensures
    (c.in_ok-take_word.ensures.takes b put ready)
