-- The run shows no fault, and is not refused.
use Rattle.std.proofs.Common.{◌+◌, ◌^◌, ◌<◌, ◌∙◌, List, [], length, reverse, subst, sym, arith}
use Rattle.std.proofs.lemmas.List.{length-reverse}
use Rattle.word_rules.specs.declared.fault.Fault.{Fault}
use Rattle.live_checker.specs.States.{State, state}
use Rattle.live_checker.specs.Standing.{Checks, with_words}
use Rattle.live_checker.proofs.Runs.{datas, run_kept, run_taken}
use Rattle.live_checker.proofs.checker.LiveChecker.data_run.Goals as goal

pub faultless_run-requires : goal.faultless_run-requires
faultless_run-requires c =
    let v = c.self.inside in
    let (room, part, whole) = c.self.invariant in
    let (x, k) = whole in
    let n = c.count.ensures x.plan (reverse x.words) k.keeps in
    (x.plan, reverse x.words, k.keeps, omega (arith, n, c.if-count-ge-MOST_WORDS.false, c.saturating_add-count.ensures))

pub invariant_of-self-2 : goal.invariant_of-self-2
invariant_of-self-2 c =
    let v = c.self.inside in
    let (room, part, whole) = c.self.invariant in
    let (x, k) = whole in
    let free = sym (c.refusal.ensures x (subst (λ (t : State). Checks t x) c.self.view_is k)) ∙ c.in_default.is in
    let n = c.count.ensures x.plan (reverse x.words) k.keeps ∙ length-reverse x.words in
    let new = c.faultless_run.new.self in
    let y = with_words (datas c.args.run.now) x in
    let kept : Checks (state new [] 0 v.finished) y =
    run_kept v.checker v.found.items v.given v.finished x k new c.args.run.now free (omega (arith, n, c.if-count-ge-MOST_WORDS.false, c.saturating_add-count.ensures))
    (c.if-not-faultless_run.ensures.keeps x.plan (reverse x.words) k.keeps) (c.if-not-faultless_run.ensures.rows x.plan (reverse x.words) k.keeps) in
    (omega (arith, room, c.clear.ensures.capacity), omega arith, (y, subst (λ (found : List Fault). Checks (state new found 0 v.finished) y) (sym c.clear.ensures.items) kept))

pub returns : goal.returns
returns c = λ x h.
    let v = c.self.inside in
    let k = subst (λ (t : State). Checks t x) (sym c.self.view_is) h in
    let free = sym (c.refusal.ensures x h) ∙ c.in_default.is in
    let n = c.count.ensures x.plan (reverse x.words) k.keeps ∙ length-reverse x.words in
    let new = c.faultless_run.new.self in
    let y = with_words (datas c.args.run.now) x in
    let few : length x.words + length c.args.run.now < 2 ^ 57 = omega (arith, n, c.if-count-ge-MOST_WORDS.false, c.saturating_add-count.ensures) in
    let rows = c.if-not-faultless_run.ensures.rows x.plan (reverse x.words) k.keeps in
    let kept : Checks (state new [] 0 v.finished) y =
    run_kept v.checker v.found.items v.given v.finished x k new c.args.run.now free few (c.if-not-faultless_run.ensures.keeps x.plan (reverse x.words) k.keeps) rows in
    (run_taken c.args.run.now x free few rows, subst (λ (found : List Fault). Checks (state new found 0 v.finished) y) (sym c.clear.ensures.items) kept)
