-- Eight payload words.
use Rattle.std.proofs.Common.{ℕ, List, ap, map, sym, ◌∙◌}
use Rattle.lk_base.specs.declared.word.RxWord.{RxWord}
use Rattle.lane_model.specs.Coding.{word_of_code}
use Rattle.lane_lock.specs.Headers.{HeaderCount}
use Rattle.lane_lock.specs.Inside.{InsideState}
use Rattle.lane_lock.specs.Run.{RunState, headers_ran, insides_ran, words_ran}
use Rattle.lane_lock.proofs.EightWords.{length-words}
use Rattle.lane_lock.proofs.WordsRan.{words_are_ran}
use Rattle.lane_lock.proofs.payload_run.PayloadRun.payload_codes.Goals as goal

pub returns-clause-value : goal.returns-clause-value
returns-clause-value c =
    let v : RunState = record { headers = c.self.inside.headers; inside = c.self.inside.inside } in
    let words : List RxWord = map word_of_code c.args.codes.now in
    ap (λ (x : HeaderCount). record { headers = x; inside = c.payload_codes.new.self }) c.legal.ensures
    ∙ ap (λ (x : InsideState). record { headers = headers_ran v.headers 8; inside = x }) c.payload_codes.ensures.value
    ∙ ap (λ (n : ℕ). record { headers = headers_ran v.headers n; inside = insides_ran v.inside words }) (sym (length-words c.args.codes.now ∙ c.told-codes))
    ∙ sym (words_are_ran v words)
    ∙ ap (λ (x : RunState). words_ran x words) c.self.view_is
