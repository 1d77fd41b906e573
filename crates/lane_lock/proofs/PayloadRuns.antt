-- A run of payload words: the lane after one word more of it.
use Rattle.std.proofs.Common.{ℕ, ◌≡◌, ◌+◌, ◌*◌, ◌^◌, ◌<◌, ◌≤◌, refl, sym, ap, subst, ◌∙◌, Bool, true, false, List, ◌∷◌, ◌++◌, [], replicate, arith}
use Rattle.lk_base.specs.Checksum.{bits_of}
use Rattle.lk_base.specs.Words.{is_bad}
use Rattle.lk_base.specs.declared.word.RxWord.{RxWord}
use Rattle.lane_model.specs.Coding.{word_of_code}
use Rattle.lane_model.specs.declared.role.Role.TheVariants as roles
use Rattle.lock_model.specs.declared.types.LaneStep.{LaneStep}
use Rattle.lock_model.specs.declared.types.LaneStep.TheVariants as steps
use Rattle.lane_lock.specs.declared.passing.Passing.TheVariants as passings
use Rattle.lane_lock.specs.declared.seen_word.SeenWord.{SeenWord}
use Rattle.lane_lock.specs.Bytes.{Brings}
use Rattle.lane_lock.specs.Counts.{CountsNothing}
use Rattle.lane_lock.specs.Inside.{payload_number}
use Rattle.lane_lock.specs.Lane.{LaneView}
use Rattle.lane_lock.specs.Run.{RunState, keyed_word, lane_ran, run_of, watch_ran, word_ran}
use Rattle.lane_lock.specs.Watch.{WatchState, payloads_ahead}
use Rattle.lane_lock.specs.Watching.{Answers}
use Rattle.lane_lock.proofs.Batches.{Ran, ran_none}
use Rattle.lane_lock.proofs.Cutting.{code_brings}
use Rattle.lane_lock.proofs.InsideWords.{inside_word}
use Rattle.lane_lock.proofs.PayloadAnswers.{payload_answers, seen_counts, seen_payload}
use Rattle.lane_lock.proofs.PayloadWords.{ahead_inside, ahead_moves, payload_moves}
use Rattle.lane_lock.proofs.Resting.{with_both}

-- before the first
pub none_ran : (v : LaneView) → v ≡ lane_ran v 0 v.window (run_of v.watch)
none_ran v =
    let taken : v.taken ≡ v.taken + 67 * 0 = omega arith in
    let at : v.at ≡ v.at + 67 * 0 = omega arith in
    let words : v.watch.words ≡ v.watch.words + 0 = omega arith in
    rw (← taken, ← at, ← words) refl

pub ran_first : (v : LaneView) (given : List Bool) (before : List LaneStep) (last : ℕ) (run : RunState) → last ≡ v.window → run ≡ run_of v.watch → Ran v (lane_ran v 0 last run) given 0 before before
ran_first v given before last run e f = rw (e, f) (subst (λ (w : LaneView). Ran v w given 0 before before) (none_ran v) (ran_none v given before))

pub ahead_first : (v : WatchState) (n : ℕ) (run : RunState) → run ≡ run_of v → payloads_ahead (watch_ran v n run) ≡ payloads_ahead v
ahead_first v n run e = ap (λ (r : RunState). payloads_ahead (watch_ran v n r)) e

-- one more of the words of a word lock
pub answered_more : (v : WatchState) (n : ℕ) (old new : RunState) (word : RxWord) (seen : SeenWord) → Answers (passings.Inside seen) (watch_ran v n old) (watch_ran (watch_ran v n old) 1 new) word →
    Answers (passings.Inside seen) (watch_ran v n old) (watch_ran v (n + 1) new) word
answered_more v n old new word seen h =
    let e : v.words + n + 1 ≡ v.words + (n + 1) = omega arith in
    subst (λ (x : ℕ). Answers (passings.Inside seen) (watch_ran v n old) (record { settings = v.settings; words = x; headers = new.headers; frames = v.frames; declared = v.declared; inside = new.inside }) word) e h

pub word_brings : (v : LaneView) (n last code : ℕ) (old new : RunState) (word : RxWord) (seen : SeenWord) (at : ℕ) → v.watching ≡ true → v.at ≡ v.taken → code < 2 ^ 67 → word ≡ word_of_code code →
    Answers (passings.Inside seen) (watch_ran v.watch n old) (watch_ran v.watch (n + 1) new) word → CountsNothing seen → at ≡ v.at + 67 * n →
    Brings (lane_ran v n last old) (lane_ran v (n + 1) code new) (bits_of 67 code) (replicate 66 steps.Nothing ++ steps.Word seen.word seen.role at ∷ [])
word_brings v n last code old new word seen at ew begins low is answered counts place =
    let a = lane_ran v n last old in
    let w = lane_ran v (n + 1) code new in
    let reached : a.taken + 67 ≡ w.taken = omega arith in
    code_brings a (with_both a code (a.taken + 67)) w code (steps.Word seen.word seen.role at) ew (omega (arith, begins)) low refl
    (λ s bits z b k e watching due.
    let taken = ap (λ (x : LaneView). x.taken) e in
    inside_word z w s bits b k (ap (λ (x : LaneView). x.watching) (sym e) ∙ ew) due word seen at (ap (λ (x : LaneView). x.window) e) is
    (subst (λ (x : WatchState). Answers (passings.Inside seen) x w.watch word) (ap (λ (x : LaneView). x.watch) e) answered)
    (ap (λ (x : LaneView). x.watch.settings) e) (ap (λ (x : LaneView). x.window) e) (sym reached ∙ taken) (ap (λ (x : LaneView). x.from) e)
    ew (omega (arith, begins, reached, taken)) (ap (λ (x : LaneView). x.report) e ∙ sym (counts z.report)) (place ∙ ap (λ (x : LaneView). x.at) e))

-- ---- one more, by its code

pub code_taken : (v : LaneView) (n last code : ℕ) (run : RunState) → v.watching ≡ true → v.at ≡ v.taken → 1 ≤ payloads_ahead (watch_ran v.watch n run) → code < 2 ^ 67 → is_bad (word_of_code code) ≡ false →
    Brings (lane_ran v n last run) (lane_ran v (n + 1) code (word_ran run (word_of_code code))) (bits_of 67 code)
    (replicate 66 steps.Nothing ++ steps.Word (keyed_word run.inside.state (word_of_code code)) (roles.Payload (payload_number run.inside)) (v.at + 67 * n) ∷ [])
code_taken v n last code run ew begins next low legal =
    let word = word_of_code code in
    let inside = ahead_inside (watch_ran v.watch n run) next in
    word_brings v n last code run (word_ran run word) word (seen_payload run.inside word) (v.at + 67 * n) ew begins low refl
    (answered_more v.watch n run (word_ran run word) word (seen_payload run.inside word) (payload_answers (watch_ran v.watch n run) word inside.1 legal inside.0)) (seen_counts run.inside word legal) refl

pub ahead_taken : (v : WatchState) (n : ℕ) (run : RunState) (word : RxWord) → 1 ≤ payloads_ahead (watch_ran v n run) → payloads_ahead (watch_ran v n run) ≡ payloads_ahead (watch_ran v (n + 1) (word_ran run word)) + 1
ahead_taken v n run word next =
    let inside = ahead_inside (watch_ran v n run) next in
    ahead_moves (watch_ran v n run) (watch_ran v (n + 1) (word_ran run word)) next refl (payload_moves run.inside (word_ran run word).inside inside.1 refl refl)
