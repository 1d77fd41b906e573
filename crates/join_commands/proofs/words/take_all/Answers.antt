use Rattle.std.proofs.Common.{◌≡◌, ◌∙◌, refl, arith, length, take}
use Rattle.std.proofs.lemmas.Result.{err_from_is_err_and}
use Rattle.lk_base.specs.Positions.{words_from}
use Rattle.join_commands.proofs.Steps.{ready_all, ready_more, rest_stopped}
use Rattle.join_commands.proofs.words.take_all.Goals as goal

pub loop-index-init : goal.loop-index-init
loop-index-init g c = record { within = omega arith; same_faults = refl; waits = c.requires.waits; ready = λ b ready. ready }

pub take_next-requires-clause-ready : goal.take_next-requires-clause-ready
take_next-requires-clause-ready g c =
    let (b, ready) = c.requires.ready in
    (b, words_from 0 0 (take c.loop-index.index c.args.words.now), c.loop-index.invariant.ready b ready)

pub returns-in_err-count-clause-takes : goal.returns-in_err-count-clause-takes
returns-in_err-count-clause-takes g c b ready =
    let words = c.args.words.now in
    let i = c.loop-index.index in
    let r = c.from_residual in
    let p = err_from_is_err_and r.result r.ensures.1 in
    rw (p.1, p.2) (rest_stopped b words i c.in_err-count.field-0.0 _ c.loop-index.invariant.within
    (c.in_err-count.ensures.takes b (words_from 0 0 (take i words)) (c.loop-index.invariant.ready b ready)))

pub loop-index-preserved : goal.loop-index-preserved
loop-index-preserved g c =
    let words = c.args.words.now in
    let i = c.loop-index.index in
    record {
      within = c.in_ok-count.ensures.within;
      same_faults = c.in_ok-count.ensures.cause ∙ c.loop-index.invariant.same_faults;
      waits = c.in_ok-count.ensures.waits;
      ready = λ b ready. ready_more b words i c.in_ok-count.count _ _ _ c.loop-index.invariant.within (c.in_ok-count.ensures.takes b (words_from 0 0 (take i words)) (c.loop-index.invariant.ready b ready));
    }

pub returns-clause-takes : goal.returns-clause-takes
returns-clause-takes g c b ready =
    let words = c.args.words.now in
    let i = c.loop-index.index in
    let within = c.loop-index.invariant.within in
    let past = c.loop-index-test.false in
    let len = c.len.ensures in
    let all : i ≡ length words = omega (arith, within, past, len) in
    ready_all b words i _ _ _ all (c.loop-index.invariant.ready b ready)
