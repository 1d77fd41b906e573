-- Words that are taken eight at a time by their codes.
use Rattle.std.proofs.Common.{ℕ, zero, suc, ◌≡◌, refl, sym, ap, ap₂, ◌∙◌, ◌+◌, ◌*◌, ◌^◌, ◌<◌, ◌≤◌, ◌==◌, bit_xor, Bool, true, false, List, [], ◌∷◌, ◌++◌, length, map, take, set, get_or, arith}
use Rattle.std.proofs.lemmas.Bool.{eqb-true, false≢true}
use Rattle.std.proofs.lemmas.Grind.{take-set_at}
use Rattle.std.proofs.lemmas.List.{length-take-le, map-append, take_all, take_more}
use Rattle.lk_base.specs.Checksum.{bits_of_words, register_after}
use Rattle.lk_base.specs.Words.{is_bad, number_of}
use Rattle.lk_base.specs.declared.word.RxWord.{RxWord}
use Rattle.lane_model.specs.Coding.{header_in, payload_in, word_of_code}
use Rattle.lane_model.specs.Key.{key_word, start_of}
use Rattle.lane_model.specs.LaneBits.{bits_of_codes}
use Rattle.lane_model.proofs.Numbers.{split}
use Rattle.coding_67b.proofs.Runs.{codes_length}
use Rattle.lane_lock.specs.Inside.{InsideState, payloads_left, with_key}
use Rattle.lane_lock.specs.Run.{AreCodesOf, all_legal, are_codes, insides_ran, key_ran, keyed_word, keyed_words, next_state, word_with, words_with}
use Rattle.lane_lock.proofs.WordsRan.{all_ran, key_more, keyed_more, polynomial, ran_on}

-- ---- words of codes

pub codes_more : (codes : List ℕ) (code : ℕ) → are_codes codes → code < 2 ^ 67 → are_codes (codes ++ code ∷ [])
codes_more [] code h k = (k, tt)
codes_more (c ∷ codes) code h k = (h.0, codes_more codes code h.1 k)

pub length-words : (codes : List ℕ) → length (map word_of_code codes) ≡ length codes
length-words [] = refl
length-words (code ∷ codes) = ap suc (length-words codes)

-- eight codes of bytes, and of the bits that begin with those
pub codes_of_bits : (codes : List ℕ) (some given : List Bool) → length codes ≡ 8 → are_codes codes → bits_of_codes codes ≡ some → take 536 some ≡ take 536 given → all_legal (map word_of_code codes) → AreCodesOf codes given
codes_of_bits codes some given long below is e legal =
    let n : 67 * length codes ≡ 536 = omega (arith, long) in
    let m = codes_length codes in
    record {
      below = below;
      bits = sym (take_all 536 (bits_of_codes codes) (omega (arith, m, n))) ∙ ap (take 536) is ∙ e ∙ ap (λ (k : ℕ). take k given) (sym n);
      legal = legal;
    }

-- ---- one of some codes

pub code_low : (codes : List ℕ) (place : ℕ) → place < length codes → are_codes codes → get_or codes place 0 < 2 ^ 67
code_low [] place here low = absurd (omega (arith, here))
code_low (code ∷ codes) zero here low = low.0
code_low (code ∷ codes) (suc place) here low = code_low codes place (omega (arith, here)) low.1

pub code_legal : (codes : List ℕ) (place : ℕ) → place < length codes → all_legal (map word_of_code codes) → is_bad (word_of_code (get_or codes place 0)) ≡ false
code_legal [] place here legal = absurd (omega (arith, here))
code_legal (code ∷ codes) zero here legal = legal.0
code_legal (code ∷ codes) (suc place) here legal = code_legal codes place (omega (arith, here)) legal.1

pub code_word : (codes : List ℕ) (place : ℕ) → get_or (map word_of_code codes) place (word_of_code 0) ≡ word_of_code (get_or codes place 0)
code_word [] place = refl
code_word (code ∷ codes) zero = refl
code_word (code ∷ codes) (suc place) = code_word codes place

-- ---- a code with a legal header

pub legal_number : (state code : ℕ) → is_bad (word_of_code code) ≡ false → bit_xor (payload_in code) (key_word (start_of state) 0) ≡ number_of (keyed_word state (word_of_code code))
unfolding word_of_code
legal_number state code h =
    split {b = (header_in code == 1)} (λ a. rw a refl) (λ a. split {b = (header_in code == 2)} (λ b. rw (a, b) refl)
    (λ b. let t : is_bad (word_of_code code) ≡ true = rw (a, b) refl in absurd (false≢true (sym h ∙ t))))

legal_with : (state code : ℕ) → is_bad (word_of_code code) ≡ false → word_with code (number_of (keyed_word state (word_of_code code))) ≡ keyed_word state (word_of_code code)
unfolding word_of_code
legal_with state code h =
    split {b = (header_in code == 1)} (λ a. let e = eqb-true (header_in code) 1 a in rw e refl) (λ a. split {b = (header_in code == 2)} (λ b. let e = eqb-true (header_in code) 2 b in rw e refl)
    (λ b. let t : is_bad (word_of_code code) ≡ true = rw (a, b) refl in absurd (false≢true (sym h ∙ t))))

-- the numbers of words under the key, with the kinds of their codes
pub keyed_with : (state : ℕ) (codes : List ℕ) → all_legal (map word_of_code codes) → words_with codes (map number_of (keyed_words state (map word_of_code codes))) ≡ keyed_words state (map word_of_code codes)
keyed_with state [] h = refl
keyed_with state (code ∷ codes) h = ap₂ (λ (w : RxWord) (ws : List RxWord). w ∷ ws) (legal_with state code h.0) (keyed_with (next_state state) codes h.1)

-- one word more
with_more : (codes numbers : List ℕ) (code number : ℕ) → length codes ≡ length numbers → words_with (codes ++ code ∷ []) (numbers ++ number ∷ []) ≡ words_with codes numbers ++ word_with code number ∷ []
with_more [] [] code number long = refl
with_more [] (n ∷ numbers) code number long = absurd (omega (arith, long))
with_more (c ∷ codes) [] code number long = absurd (omega (arith, long))
with_more (c ∷ codes) (n ∷ numbers) code number long = ap (λ (ws : List RxWord). word_with c n ∷ ws) (with_more codes numbers code number (omega (arith, long)))

pub with_set : (codes numbers : List ℕ) (words : List RxWord) (place : ℕ) (word : RxWord) → take place words ≡ words_with (take place codes) (take place numbers) → place < length words → place < length codes → place < length numbers →
    word ≡ word_with (get_or codes place 0) (get_or numbers place 0) → take (place + 1) (set words place word) ≡ words_with (take (place + 1) codes) (take (place + 1) numbers)
with_set codes numbers words place word e room here there is =
    let a = length-take-le place codes (omega (arith, here)) in
    let b = length-take-le place numbers (omega (arith, there)) in
    take-set_at words place (place + 1) word refl room
    ∙ ap (λ (ws : List RxWord). ws ++ word ∷ []) e
    ∙ ap (λ (w : RxWord). words_with (take place codes) (take place numbers) ++ w ∷ []) is
    ∙ sym (with_more (take place codes) (take place numbers) (get_or codes place 0) (get_or numbers place 0) (a ∙ sym b))
    ∙ ap₂ words_with (sym (take_more codes place 0 here)) (sym (take_more numbers place 0 there))

-- ---- words under the key

pub numbers_set : (state : ℕ) (codes numbers : List ℕ) (place x : ℕ) → take place numbers ≡ map number_of (keyed_words state (take place (map word_of_code codes))) → place < length numbers → place < length codes →
    x ≡ number_of (keyed_word (key_ran state (take place (map word_of_code codes))) (word_of_code (get_or codes place 0))) → take (place + 1) (set numbers place x) ≡ map number_of (keyed_words state (take (place + 1) (map word_of_code codes)))
numbers_set state codes numbers place x e here there is =
    let ws : List RxWord = map word_of_code codes in
    let long : length ws ≡ length codes = length-words codes in
    let word : RxWord = word_of_code (get_or codes place 0) in
    let next : take place ws ++ word ∷ [] ≡ take (place + 1) ws =
    ap (λ (w : RxWord). take place ws ++ w ∷ []) (sym (code_word codes place)) ∙ sym (take_more ws place (word_of_code 0) (omega (arith, there, long))) in
    take-set_at numbers place (place + 1) x refl here
    ∙ ap (λ (g : List ℕ). g ++ x ∷ []) e
    ∙ ap (λ (y : ℕ). map number_of (keyed_words state (take place ws)) ++ y ∷ []) is
    ∙ sym (map-append number_of (keyed_words state (take place ws)) (keyed_word (key_ran state (take place ws)) word ∷ []))
    ∙ ap (map number_of) (sym (keyed_more state (take place ws) word) ∙ ap (keyed_words state) next)

pub key_next : (state : ℕ) (codes : List ℕ) (place : ℕ) → place < length codes → next_state (key_ran state (take place (map word_of_code codes))) ≡ key_ran state (take (place + 1) (map word_of_code codes))
key_next state codes place there =
    let ws : List RxWord = map word_of_code codes in
    let long : length ws ≡ length codes = length-words codes in
    sym (key_more state (take place ws) (get_or ws place (word_of_code 0))) ∙ ap (key_ran state) (sym (take_more ws place (word_of_code 0) (omega (arith, there, long))))

pub eight_ran : (v i : InsideState) (codes : List ℕ) (register : ℕ) → length codes ≡ 8 → 8 ≤ payloads_left v → all_legal (map word_of_code codes) → i ≡ with_key v (key_ran v.state (map word_of_code codes)) →
    register ≡ register_after 32 polynomial i.register (bits_of_words (map number_of (keyed_words v.state (map word_of_code codes)))) → ran_on i 8 i.state register ≡ insides_ran v (map word_of_code codes)
eight_ran v i codes register eight ahead legal e is =
    let ws : List RxWord = map word_of_code codes in
    let long : length ws ≡ 8 = length-words codes ∙ eight in
    let bits = bits_of_words (map number_of (keyed_words v.state ws)) in
    ap (λ (x : InsideState). ran_on x 8 x.state register) e
    ∙ ap (ran_on v 8 (key_ran v.state ws)) (is ∙ ap (λ (x : InsideState). register_after 32 polynomial x.register bits) e)
    ∙ ap (λ (n : ℕ). ran_on v n (key_ran v.state ws) (register_after 32 polynomial v.register bits)) (sym long)
    ∙ sym (all_ran v ws (omega (arith, long, ahead)) legal)
