-- Words that are taken one after another, and all of them at once.
use Rattle.std.proofs.Common.{ℕ, zero, suc, ◌≡◌, refl, sym, ap, ◌∙◌, ◌+◌, ◌-◌, ◌<◌, ◌≤◌, ◌||◌, Bool, true, false, List, [], ◌∷◌, ◌++◌, length, map, arith, inl, inr}
use Rattle.std.proofs.lemmas.Bool.{cases_lt, eq-eqb, ne_eqb}
use Rattle.lk_base.specs.declared.word.RxWord.{RxWord}
use Rattle.lk_base.specs.Checksum.{bits_of, bits_of_words, register_after}
use Rattle.lk_base.specs.Words.{is_bad, number_of}
use Rattle.lk_crc.proofs.Registers.{register_after-append}
use Rattle.lane_lock.specs.Headers.{HeaderCount}
use Rattle.lane_lock.specs.Inside.{InsideState, payloads_left}
use Rattle.lane_lock.specs.Run.{RunState, all_legal, header_ran, headers_ran, inside_ran, insides_ran, key_ran, keyed_word, keyed_words, next_state, word_ran, words_ran}
use Rattle.lane_lock.proofs.PayloadWords.{payload_moves, payload_place}

-- ---- the key

pub keyed_more : (state : ℕ) (ws : List RxWord) (w : RxWord) → keyed_words state (ws ++ w ∷ []) ≡ keyed_words state ws ++ keyed_word (key_ran state ws) w ∷ []
keyed_more state [] w = refl
keyed_more state (x ∷ ws) w = ap (λ (g : List RxWord). keyed_word state x ∷ g) (keyed_more (next_state state) ws w)

pub key_more : (state : ℕ) (ws : List RxWord) (w : RxWord) → key_ran state (ws ++ w ∷ []) ≡ next_state (key_ran state ws)
key_more state [] w = refl
key_more state (x ∷ ws) w = key_more (next_state state) ws w

pub length-keyed : (state : ℕ) (ws : List RxWord) → length (keyed_words state ws) ≡ length ws
length-keyed state [] = refl
length-keyed state (w ∷ ws) = ap suc (length-keyed (next_state state) ws)

-- ---- headers

-- within a block
pub headers_within : (v : HeaderCount) (n : ℕ) → v.place + n < 64 → headers_ran v n ≡ record { place = v.place + n; illegal = v.illegal }
headers_within v zero h =
    let e : v.place ≡ v.place + 0 = omega arith in
    ap (λ (x : ℕ). record { place = x; illegal = v.illegal }) e
headers_within v (suc n) h =
    let none = ne_eqb v.place 63 (λ e. omega (arith, h, e)) in
    let one : header_ran v ≡ record { place = v.place + 1; illegal = v.illegal } = rw none refl in
    let e : v.place + 1 + n ≡ v.place + suc n = omega arith in
    ap (λ (x : HeaderCount). headers_ran x n) one
    ∙ headers_within (record { place = v.place + 1; illegal = v.illegal }) n (omega (arith, h))
    ∙ ap (λ (x : ℕ). record { place = x; illegal = v.illegal }) e

-- past its end
pub headers_past : (v : HeaderCount) (n : ℕ) → v.place < 64 → 64 ≤ v.place + n → n ≤ 64 → headers_ran v n ≡ record { place = v.place + n - 64; illegal = 0 }
headers_past v zero low h most = absurd (omega (arith, low, h))
headers_past v (suc n) low h most = elim (cases_lt (v.place + 1) 64) [
  | inl l ↦
      let none = ne_eqb v.place 63 (λ e. omega (arith, l, e)) in
      let one : header_ran v ≡ record { place = v.place + 1; illegal = v.illegal } = rw none refl in
      let e : v.place + 1 + n - 64 ≡ v.place + suc n - 64 = omega arith in
      ap (λ (x : HeaderCount). headers_ran x n) one
      ∙ headers_past (record { place = v.place + 1; illegal = v.illegal }) n l (omega (arith, h)) (omega (arith, most))
      ∙ ap (λ (x : ℕ). record { place = x; illegal = 0 }) e
  | inr l ↦
      let last = eq-eqb v.place 63 (omega (arith, l, low)) in
      let one : header_ran v ≡ record { place = 0; illegal = 0 } = rw last refl in
      let e : 0 + n ≡ v.place + suc n - 64 = omega (arith, l, low) in
      ap (λ (x : HeaderCount). headers_ran x n) one
      ∙ headers_within (record { place = 0; illegal = 0 }) n (omega (arith, most))
      ∙ ap (λ (x : ℕ). record { place = x; illegal = 0 }) e
]

-- ---- the words after a declaring Sync

abbrev pub polynomial : ℕ
polynomial = 0x1EDC6F41

-- with this many words more, this state of the key and this register
abbrev pub ran_on : InsideState → ℕ → ℕ → ℕ → InsideState
ran_on v n state register = record { settings = v.settings; position = v.position + n; loaded = v.loaded; state = state; syncs = v.syncs; states = v.states; register = register; bad = v.bad }

or_false : (b : Bool) → (b || false) ≡ b
or_false true = refl
or_false false = refl

-- one payload word with a legal header
pub one_ran : (v : InsideState) (w : RxWord) → 1 ≤ payloads_left v → is_bad w ≡ false →
    inside_ran v w ≡ ran_on v 1 (next_state v.state) (register_after 32 polynomial v.register (bits_of 64 (number_of (keyed_word v.state w))))
one_ran v w ahead legal =
    let p = payload_place v ahead in
    let none = ne_eqb (v.position + 1) v.settings.metaframe (λ e. omega (arith, p.1, e)) in
    let same = or_false v.bad in
    rw (none, legal, same) refl

pub left_after : (v : InsideState) (state register : ℕ) → 1 ≤ payloads_left v → payloads_left v ≡ payloads_left (ran_on v 1 state register) + 1
left_after v state register ahead =
    let p = payload_place v ahead in
    let none = ne_eqb (v.position + 1) v.settings.metaframe (λ e. omega (arith, p.1, e)) in
    payload_moves v (ran_on v 1 state register) ahead refl (rw none refl)

pub all_ran : (v : InsideState) (ws : List RxWord) → length ws ≤ payloads_left v → all_legal ws →
    insides_ran v ws ≡ ran_on v (length ws) (key_ran v.state ws) (register_after 32 polynomial v.register (bits_of_words (map number_of (keyed_words v.state ws))))
unfolding register_after
all_ran v [] ahead legal =
    let e : v.position ≡ v.position + 0 = omega arith in
    ap (λ (x : ℕ). record { settings = v.settings; position = x; loaded = v.loaded; state = v.state; syncs = v.syncs; states = v.states; register = v.register; bad = v.bad }) e
all_ran v (w ∷ ws) ahead legal =
    let some : 1 ≤ payloads_left v = omega (arith, ahead) in
    let first = register_after 32 polynomial v.register (bits_of 64 (number_of (keyed_word v.state w))) in
    let rest = bits_of_words (map number_of (keyed_words (next_state v.state) ws)) in
    let u : InsideState = ran_on v 1 (next_state v.state) first in
    let left = left_after v (next_state v.state) first some in
    let e : v.position + 1 + length ws ≡ v.position + suc (length ws) = omega arith in
    ap (λ (x : InsideState). insides_ran x ws) (one_ran v w some legal.0)
    ∙ all_ran u ws (omega (arith, ahead, left)) legal.1
    ∙ ap (λ (x : ℕ). record { settings = v.settings; position = x; loaded = v.loaded; state = key_ran (next_state v.state) ws; syncs = v.syncs; states = v.states; register = register_after 32 polynomial first rest; bad = v.bad }) e
    ∙ ap (ran_on v (suc (length ws)) (key_ran (next_state v.state) ws))
    (sym (register_after-append 32 polynomial v.register (bits_of 64 (number_of (keyed_word v.state w))) rest))

-- ---- headers and words

pub words_are_ran : (v : RunState) (ws : List RxWord) → words_ran v ws ≡ record { headers = headers_ran v.headers (length ws); inside = insides_ran v.inside ws }
words_are_ran v [] = refl
words_are_ran v (w ∷ ws) = words_are_ran (word_ran v w) ws
