-- One payload word more, or eight.
use Rattle.std.proofs.Common.{◌≡◌, ◌+◌, ◌*◌, ◌++◌, ◌∷◌, [], false, refl, sym, ap, subst, ◌∙◌, Bool, List, map, take, drop, get_or, arith}
use Rattle.std.proofs.lemmas.List.{append-nil, drop-drop}
use Rattle.lk_base.specs.Checksum.{bits_of_bytes}
use Rattle.lk_base.specs.Words.{is_bad as bad_of}
use Rattle.lk_base.specs.declared.word.RxWord.{RxWord}
use Rattle.lane_model.specs.Coding.{word_of_code}
use Rattle.lock_model.specs.declared.types.LaneStep.{LaneStep}
use Rattle.lane_lock.specs.Found.{found_steps}
use Rattle.lane_lock.specs.Inside.{payload_number}
use Rattle.lane_lock.specs.Lane.{LaneView}
use Rattle.lane_lock.specs.Run.{AreCodesOf, RunState, keyed_word, keyed_words, lane_ran, run_of, word_ran}
use Rattle.lane_lock.proofs.Batches.{Ran}
use Rattle.lane_lock.proofs.Collected.{collected, collected_more}
use Rattle.lane_lock.proofs.PayloadRuns.{ahead_first, ran_first}
use Rattle.lane_lock.proofs.RunsReached.{Reached, reached_eight, reached_one}
use Rattle.lane_lock.proofs.lane.LaneLock.take_payloads.Goals as goal

pub loop-done-init : goal.loop-done-init
loop-done-init c =
    let v : LaneView = c.args.self.now in
    let found = found_steps c.args.found.now in
    let given = drop c.args.first (bits_of_bytes c.args.bytes.now) in
    let run : c.run-run.result ≡ run_of v.watch = c.run-run.ensures ∙ ap (λ (x : LaneView). run_of x.watch) c.self.view_is in
    let number : payload_number c.run-run.result.inside ≡ c.payload_number-number.result =
    ap (λ (x : RunState). payload_number x.inside) run ∙ sym (c.payload_number-number.ensures.value ∙ ap (λ (x : LaneView). payload_number x.watch.inside) c.self.view_is) in
    record {
      collected = collected v given found c.payload_number-number.result c.self.inside.at c.args.words c.args.found.now.room 0 c.self.inside.window c.run-run.result c.args.found.now []
          record {
            ran = subst (λ (after : List LaneStep). Ran v (lane_ran v 0 c.self.inside.window c.run-run.result) given 0 found after) (sym (append-nil found))
                (ran_first v given found c.self.inside.window c.run-run.result (ap (λ (x : LaneView). x.window) c.self.view_is) run);
            next = omega (arith, number);
            low = c.self.invariant.0;
            ahead = (let l = c.requires.ahead in let e = ahead_first v.watch 0 c.run-run.result run in omega (arith, l, e));
            long = refl;
          } (sym (append-nil found)) refl;
      most = omega arith;
    }

pub loop-done-preserved : goal.loop-done-preserved
loop-done-preserved c =
    let v : LaneView = c.args.self.now in
    let given = drop c.args.first (bits_of_bytes c.args.bytes.now) in
    let found = found_steps c.args.found.now in
    let number = c.payload_number-number.result in
    let start = c.self.inside.at in
    let total = c.args.words in
    let k = c.loop-done.invariant.collected in
    let done = c.loop-done.done in
    let code = c.code_at-code.result in
    let more = c.loop-done-test.true in
    let place = ap (λ (x : LaneView). x.at) c.self.view_is in
    let value = c.payload-seen.ensures.value in
    let is = c.decode-word.ensures.value in
    let word : bad_of (word_of_code code) ≡ false = ap bad_of (sym is) ∙ sym c.is_bad.ensures ∙ c.if-is_bad.false in
    let run : RunState = c.loop-done.run in
    let new : RunState = c.payload-seen.new.self in
    let r = reached_one v given found number start total c.requires.watching c.requires.begins place c.requires.few done c.loop-done.last code run k.plain k.reached more c.code_at-code.ensures.below
    (c.code_at-code.ensures.bits ∙ ap (take 67) (sym (drop-drop (67 * done) c.args.first (bits_of_bytes c.args.bytes.now)))) word in
    let same : keyed_word run.inside.state (word_of_code code) ≡ c.payload-seen.result.word = sym (value.0 ∙ ap (keyed_word run.inside.state) is) in
    let now : word_ran run (word_of_code code) ≡ new = sym (value.1 ∙ ap (word_ran run) is) in
    record {
      collected = collected_more v given found number start total c.args.found.now.room done c.loop-done.last run c.loop-done.found k (done + 1) code new c.append_payloads-in-loop-done.new.self (c.payload-seen.result.word ∷ [])
          (subst (λ (w : RxWord). Reached v given found number start total (done + 1) code new (k.plain ++ w ∷ [])) same
          (subst (λ (x : RunState). Reached v given found number start total (done + 1) code x (k.plain ++ keyed_word run.inside.state (word_of_code code) ∷ [])) now r))
          c.append_payloads-in-loop-done.ensures.steps c.append_payloads-in-loop-done.ensures.room;
      most = omega (arith, more);
    }

pub loop-done-preserved-in-Some : goal.loop-done-preserved-in-Some
loop-done-preserved-in-Some c =
    let v : LaneView = c.args.self.now in
    let bits = bits_of_bytes c.args.bytes.now in
    let given = drop c.args.first bits in
    let found = found_steps c.args.found.now in
    let number = c.payload_number-number.result in
    let start = c.self.inside.at in
    let total = c.args.words in
    let k = c.loop-done.invariant.collected in
    let done = c.loop-done.done in
    let more = c.in-Some.ensures.0 in
    let run : RunState = c.loop-done.run in
    let new : RunState = c.payload_codes-eight.new.self in
    let codes = c.in-Some.codes in
    let words : List RxWord = map word_of_code codes in
    let from = drop-drop (67 * done) c.args.first bits in
    let last = get_or codes 7 0 in
    let r = reached_eight v given found number start total c.requires.watching c.requires.begins (ap (λ (x : LaneView). x.at) c.self.view_is) c.requires.few
    codes done c.loop-done.last run k.plain k.reached (omega (arith, more)) c.in-Some.ensures.1 (subst (λ (x : List Bool). AreCodesOf codes x) (sym from) c.in-Some.ensures.2) in
    record {
      collected = collected_more v given found number start total c.args.found.now.room done c.loop-done.last run c.loop-done.found k (done + 8) last new c.append_payloads.new.self c.payload_codes-eight.result
          (subst (λ (ws : List RxWord). Reached v given found number start total (done + 8) last new (k.plain ++ ws)) (sym c.payload_codes-eight.ensures.words)
          (subst (λ (x : RunState). Reached v given found number start total (done + 8) last x (k.plain ++ keyed_words run.inside.state words)) (sym c.payload_codes-eight.ensures.value) r))
          c.append_payloads.ensures.steps c.append_payloads.ensures.room;
      most = omega (arith, more);
    }
