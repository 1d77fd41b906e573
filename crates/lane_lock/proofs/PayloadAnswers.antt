-- What a payload word of a declared lock is, and the state after it.
use Rattle.std.proofs.Common.{ℕ, ◌≡◌, refl, sym, ap, ◌∙◌, ◌+◌, ◌-◌, ◌*◌, ◌%◌, ◌≤◌, Bool, true, false, List, arith, inl, inr}
use Rattle.std.proofs.lemmas.Bool.{cases_lt, eq-eqb, ne_eqb}
use Rattle.std.proofs.lemmas.Nat.{mod_below}
use Rattle.lk_base.specs.declared.word.RxWord.{RxWord}
use Rattle.lk_base.specs.Link.{Settings}
use Rattle.lk_base.specs.Words.{is_bad, number_of}
use Rattle.lk_base.specs.Checksum.{digit}
use Rattle.lane_model.specs.declared.role.Role.TheVariants as roles
use Rattle.lane_model.specs.Framing.{role_of}
use Rattle.lane_model.specs.Key.{key_word, start_of, state_before}
use Rattle.lane_model.proofs.KeyHolds.{states_go_on, words_go_on}
use Rattle.lock_model.specs.Locks.{word_at}
use Rattle.lock_model.specs.Received.{unscrambled}
use Rattle.lock_model.proofs.Roles.{role_payload}
use Rattle.lane_lock.specs.declared.passing.Passing.TheVariants as passings
use Rattle.lane_lock.specs.declared.seen_word.SeenWord.{SeenWord}
use Rattle.lane_lock.specs.Behind.{Follows, Passes}
use Rattle.lane_lock.specs.Counts.{CountsNothing}
use Rattle.lane_lock.specs.Headers.{CountsHeaders, HeaderCount}
use Rattle.lane_lock.specs.Inside.{InsideState, passed, payload_number, payloads_left, with_key}
use Rattle.lane_lock.specs.Run.{header_ran, inside_ran, keyed_word, next_state, run_of, watch_ran, word_ran}
use Rattle.lane_lock.specs.Watch.{WatchState}
use Rattle.lane_lock.specs.Watching.{Answers, illegal_at}
use Rattle.lane_lock.proofs.HeaderSteps.{next_block, next_in_block}
use Rattle.lane_lock.proofs.KeyedWords.{after_keyed}
use Rattle.lane_lock.proofs.PayloadWords.{payload_place}
use Rattle.lane_lock.proofs.WatchSteps.{illegal_is, inside_answer, loses_is_said}

-- what is seen of it
abbrev pub seen_payload : InsideState → RxWord → SeenWord
seen_payload v word = record { word = keyed_word v.state word; role = roles.Payload (payload_number v); bad = is_bad word; sync = false; state = false; diag = false }

pub seen_counts : (v : InsideState) (word : RxWord) → is_bad word ≡ false → CountsNothing (seen_payload v word)
seen_counts v word legal r =
    let zero : (n : ℕ) → n + 0 ≡ n = λ n. omega arith in
    rw legal (rw (zero r.bad, zero r.sync, zero r.state, zero r.diag) refl)

pub header_counts : (v : HeaderCount) (test : ℕ → Bool) (t : ℕ) → CountsHeaders v test t → test t ≡ false → CountsHeaders (header_ran v) test (t + 1)
header_counts v test t k legal = elim (cases_lt (v.place + 1) 64) [
  | inl l ↦
      let none = ne_eqb v.place 63 (λ e. omega (arith, l, e)) in
      let same : v.illegal ≡ v.illegal + digit (test t) = (let e : v.illegal ≡ v.illegal + 0 = omega arith in e ∙ ap (λ (b : Bool). v.illegal + digit b) (sym legal)) in
      next_in_block v (header_ran v) test t k l (rw none refl) (rw none same)
  | inr l ↦
      let at : v.place ≡ t % 64 = k.at in
      let low = mod_below t 64 (omega arith) in
      let last : v.place ≡ 63 = omega (arith, l, at, low) in
      let is = eq-eqb v.place 63 last in
      next_block v (header_ran v) test t k last (rw is refl) (rw is refl)
]

pub payload_passes : (v : InsideState) (word : RxWord) → 1 ≤ payloads_left v → (s : Settings) (bits : List Bool) (at r : ℕ) → Follows v s bits at r → word_at bits (at + 67 * r) ≡ word →
    Passes (seen_payload v word) (inside_ran v word) s bits at r
payload_passes v word ahead s bits at r k is =
    let p = payload_place v ahead in
    let place : v.position ≡ r % s.metaframe = k.place in
    let skips : v.settings.skips ≡ s.skips = ap (λ (x : Settings). x.skips) k.of_link in
    let metaframe : v.settings.metaframe ≡ s.metaframe = ap (λ (x : Settings). x.metaframe) k.of_link in
    let number : payload_number v ≡ r % s.metaframe - (s.skips + 2) = omega (arith, place, skips) in
    let here : r % s.metaframe ≡ s.skips + 2 + (r % s.metaframe - (s.skips + 2)) = omega (arith, p.0, place, skips) in
    let role : role_of s (r % s.metaframe) ≡ roles.Payload (r % s.metaframe - (s.skips + 2)) =
    ap (role_of s) here ∙ role_payload s (r % s.metaframe - (s.skips + 2)) (omega (arith, p.0, p.1, place, skips, metaframe)) in
    let n = ne_eqb (r % s.metaframe) (s.metaframe - 1) (λ e. omega (arith, p.1, place, metaframe, e)) in
    after_keyed v (inside_ran v word) s bits at r word k (omega (arith, p.0, place)) is (roles.Payload (payload_number v)) (keyed_word v.state word) false false
    (role ∙ ap roles.Payload (sym number)) (sym n)
    (λ start j h e. (
      let none : j + 0 ≡ j = omega arith in
          ap (λ (key : ℕ). unscrambled key word) (ap (λ (x : ℕ). key_word (start_of x) 0) e ∙ words_go_on start j 0 h ∙ ap (key_word start) none),
      λ b eb.
          let next : next_state v.state ≡ state_before start (j + 1) = ap (λ (x : ℕ). state_before (start_of x) 1) e ∙ states_go_on start j 1 h in
          ap (λ (x : ℕ). passed (with_key v x) (is_bad word) (number_of (keyed_word v.state word))) next
          ∙ ap (λ (x : InsideState). passed x (is_bad word) (number_of (keyed_word v.state word))) (sym eb),
    ))
    (λ t before e f. refl)

pub payload_answers : (v : WatchState) (word : RxWord) → 1 ≤ payloads_left v.inside → is_bad word ≡ false → v.declared ≡ true →
    Answers (passings.Inside (seen_payload v.inside word)) v (watch_ran v 1 (word_ran (run_of v) word)) word
payload_answers v word ahead legal going s bits p t declared k there is =
    let legal_is = illegal_is bits (p + 67 * t) word there is ∙ legal in
    inside_answer s bits p t word there is v _ declared (seen_payload v.inside word) k going (loses_is_said bits p t ∙ rw legal_is refl) refl refl
    (header_counts v.headers (illegal_at bits p) t k.header_count legal_is) going
    (λ at r follows same. payload_passes v.inside word ahead s bits at r follows same)
