-- Payload words of a run, taken one after another.
use Rattle.std.proofs.Common.{ℕ, zero, suc, ◌≡◌, refl, sym, ap, subst, ◌∙◌, ◌+◌, ◌*◌, ◌^◌, ◌<◌, ◌≤◌, Bool, true, false, List, [], ◌∷◌, ◌++◌, length, map, replicate, take, drop, get_or, take-take, append-nil, append_assoc, arith}
use Rattle.std.proofs.lemmas.List.{drop-drop, drop-take, drop_at, length-append, take_at}
use Rattle.lk_base.specs.Checksum.{bits_of}
use Rattle.lk_base.specs.Words.{is_bad}
use Rattle.lk_base.specs.declared.word.RxWord.{RxWord}
use Rattle.lane_model.specs.Coding.{word_of_code}
use Rattle.lane_model.specs.LaneBits.{bits_of_codes}
use Rattle.lane_model.specs.declared.role.Role.{Role}
use Rattle.lane_model.specs.declared.role.Role.TheVariants as roles
use Rattle.lane_model.proofs.Numbers.{length-bits_of}
use Rattle.lock_model.specs.declared.types.LaneStep.{LaneStep}
use Rattle.lock_model.specs.declared.types.LaneStep.TheVariants as steps
use Rattle.lock_model.specs.PayloadSteps.{payload_steps}
use Rattle.lane_lock.specs.Bytes.{Brings}
use Rattle.lane_lock.specs.Inside.{payload_number}
use Rattle.lane_lock.specs.Lane.{LaneView}
use Rattle.lane_lock.specs.Run.{AreCodesOf, RunState, all_legal, are_codes, keyed_word, keyed_words, lane_ran, next_state, watch_ran, word_ran, words_ran}
use Rattle.lane_lock.specs.Watch.{payloads_ahead}
use Rattle.lane_lock.proofs.Batches.{Ran, ran_more}
use Rattle.lane_lock.proofs.FoundSteps.{found_more, payload_more, payload_step}
use Rattle.lane_lock.proofs.PayloadAnswers.{seen_payload}
use Rattle.lane_lock.proofs.PayloadRuns.{ahead_taken, code_taken}
use Rattle.lane_lock.proofs.PayloadWords.{ahead_inside, number_next, payload_next}

-- ---- codes and their bits

-- the last of them
abbrev pub last_code : ℕ → List ℕ → ℕ
last_code last [] = last
last_code last (code ∷ codes) = last_code code codes

whole : (code : ℕ) (codes : List ℕ) → bits_of_codes (code ∷ codes) ≡ bits_of 67 code ++ bits_of_codes codes
unfolding bits_of_codes
whole code codes = refl

-- the first of them, and the others
pub first_code : (code : ℕ) (codes : List ℕ) (given : List Bool) → bits_of_codes (code ∷ codes) ≡ take (67 * length (code ∷ codes)) given →
    (bits_of 67 code ≡ take 67 given) × (bits_of_codes codes ≡ take (67 * length codes) (drop 67 given))
first_code code codes given is =
    let n : 67 * length (code ∷ codes) ≡ 67 + 67 * length codes = omega arith in
    let e : bits_of 67 code ++ bits_of_codes codes ≡ take (67 + 67 * length codes) given = sym (whole code codes) ∙ is ∙ ap (λ (m : ℕ). take m given) n in (
      sym (take_at (bits_of 67 code) (bits_of_codes codes) 67 (length-bits_of 67 code)) ∙ ap (take 67) e ∙ take-take 67 (67 + 67 * length codes) given (omega arith),
      sym (drop_at (bits_of 67 code) (bits_of_codes codes) 67 (length-bits_of 67 code)) ∙ ap (drop 67) e ∙ drop-take 67 (67 * length codes) given,
    )

-- the last of them by its place
pub last_is : (x : ℕ) (codes : List ℕ) (n : ℕ) → length codes ≡ suc n → last_code x codes ≡ get_or codes n 0
last_is x [] n e = absurd (omega (arith, e))
last_is x (code ∷ []) zero e = refl
last_is x (code ∷ next ∷ codes) zero e = absurd (omega (arith, e))
last_is x (code ∷ []) (suc n) e = absurd (omega (arith, e))
last_is x (code ∷ next ∷ codes) (suc n) e = last_is code (next ∷ codes) n (omega (arith, e))

-- ---- words of a run

-- so many words of these bits were taken, the last of which has this code
pub record Reached (v : LaneView) (given : List Bool) (found : List LaneStep) (number start total done last : ℕ) (run : RunState) (plain : List RxWord) : Type 0 where
  pub ran : Ran v (lane_ran v done last run) given done found (found ++ payload_steps number start plain)
  pub next : payload_number run.inside ≡ number + done
  pub low : last < 2 ^ 67
  pub ahead : total ≤ done + payloads_ahead (watch_ran v.watch done run)
  pub long : length plain ≡ done

module _ (v : LaneView) (given : List Bool) (found : List LaneStep) (number start total : ℕ) (ew : v.watching ≡ true) (begins : v.at ≡ v.taken) (place : start ≡ v.at)
    (few : v.taken + 67 * total ≤ 2 ^ 60) where
  -- one word more
  pub reached_one : (done last code : ℕ) (run : RunState) (plain : List RxWord) → Reached v given found number start total done last run plain → done < total → code < 2 ^ 67 →
      bits_of 67 code ≡ take 67 (drop (67 * done) given) → is_bad (word_of_code code) ≡ false →
      Reached v given found number start total (done + 1) code (word_ran run (word_of_code code)) (plain ++ keyed_word run.inside.state (word_of_code code) ∷ [])
  reached_one done last code run plain k more low bits legal =
      let word = word_of_code code in
      let new = word_ran run word in
      let ahead = k.ahead in
      let this = k.next in
      let long = k.long in
      let next : 1 ≤ payloads_ahead (watch_ran v.watch done run) = omega (arith, more, ahead) in
      let inside = ahead_inside (watch_ran v.watch done run) next in
      let moves = ahead_taken v.watch done run word next in
      let later = number_next run.inside new.inside inside.1 refl (payload_next run.inside new.inside inside.1 refl) in
      let seen = seen_payload run.inside word in
      let role : seen.role ≡ roles.Payload (number + done) = ap roles.Payload this in
      let step = payload_step number start done seen.word in
      let a = lane_ran v done last run in
      let b = lane_ran v (done + 1) code new in
      let brings : Brings a b (bits_of 67 code) (replicate 66 steps.Nothing ++ step ∷ []) =
      subst (λ (x : ℕ). Brings a b (bits_of 67 code) (replicate 66 steps.Nothing ++ steps.Word seen.word (roles.Payload (number + done)) (x + 67 * done) ∷ [])) (sym place)
      (subst (λ (r : Role). Brings a b (bits_of 67 code) (replicate 66 steps.Nothing ++ steps.Word seen.word r (v.at + 67 * done) ∷ [])) role
      (code_taken v done last code run ew begins next low legal)) in
      record {
        ran = ran_more v a b given done code step found (found ++ payload_steps number start plain) _ k.ran (omega arith) (omega arith) bits (omega (arith, more, begins, place, few))
            (found_more found (payload_steps number start plain) step _
            (payload_more number start plain seen.word ∙ ap (λ (n : ℕ). payload_steps number start plain ++ payload_step number start n seen.word ∷ []) long))
            brings;
        next = omega (arith, this, later);
        low = low;
        ahead = omega (arith, ahead, moves);
        long = length-append plain (seen.word ∷ []) ∙ ap (λ (n : ℕ). n + 1) long;
      }

  -- words more
  pub reached_all : (codes : List ℕ) (done last : ℕ) (run : RunState) (plain : List RxWord) → Reached v given found number start total done last run plain → done + length codes ≤ total →
      are_codes codes → all_legal (map word_of_code codes) → bits_of_codes codes ≡ take (67 * length codes) (drop (67 * done) given) →
      Reached v given found number start total (done + length codes) (last_code last codes) (words_ran run (map word_of_code codes)) (plain ++ keyed_words run.inside.state (map word_of_code codes))
  reached_all [] done last run plain k fits below legal bits =
      let e : done ≡ done + 0 = omega arith in
      subst (λ (n : ℕ). Reached v given found number start total n last run (plain ++ [])) e
      (subst (λ (ws : List RxWord). Reached v given found number start total done last run ws) (sym (append-nil plain)) k)
  reached_all (code ∷ codes) done last run plain k fits below legal bits =
      let word = word_of_code code in
      let cut = first_code code codes (drop (67 * done) given) bits in
      let e : done + 1 + length codes ≡ done + suc (length codes) = omega arith in
      let f : 67 * done + 67 ≡ 67 * (done + 1) = omega arith in
      let r = reached_one done last code run plain k (omega (arith, fits)) below.0 cut.0 legal.0 in
      let rest = reached_all codes (done + 1) code (word_ran run word) (plain ++ keyed_word run.inside.state word ∷ []) r (omega (arith, fits)) below.1 legal.1
      (cut.1 ∙ ap (take (67 * length codes)) (drop-drop 67 (67 * done) given ∙ ap (λ (m : ℕ). drop m given) f)) in
      subst (λ (n : ℕ). Reached v given found number start total n (last_code code codes) (words_ran (word_ran run word) (map word_of_code codes)) (plain ++ keyed_word run.inside.state word ∷ keyed_words (next_state run.inside.state) (map word_of_code codes))) e
      (subst (λ (ws : List RxWord). Reached v given found number start total (done + 1 + length codes) (last_code code codes) (words_ran (word_ran run word) (map word_of_code codes)) ws)
      (append_assoc plain (keyed_word run.inside.state word ∷ []) (keyed_words (next_state run.inside.state) (map word_of_code codes))) rest)

  -- eight more
  pub reached_eight : (codes : List ℕ) (done last : ℕ) (run : RunState) (plain : List RxWord) → Reached v given found number start total done last run plain → done + 8 ≤ total → length codes ≡ 8 →
      AreCodesOf codes (drop (67 * done) given) →
      Reached v given found number start total (done + 8) (get_or codes 7 0) (words_ran run (map word_of_code codes)) (plain ++ keyed_words run.inside.state (map word_of_code codes))
  reached_eight codes done last run plain r fits long k =
      let all = reached_all codes done last run plain r (omega (arith, fits, long)) k.below k.legal k.bits in
      subst (λ (code : ℕ). Reached v given found number start total (done + 8) code (words_ran run (map word_of_code codes)) (plain ++ keyed_words run.inside.state (map word_of_code codes))) (last_is last codes 7 long)
      (subst (λ (m : ℕ). Reached v given found number start total (done + m) (last_code last codes) (words_ran run (map word_of_code codes)) (plain ++ keyed_words run.inside.state (map word_of_code codes))) long all)
