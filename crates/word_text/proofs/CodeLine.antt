-- A code has a line, and a line is that of one code, that of rest bits, or neither.
use Rattle.std.proofs.Common.{◌⊎◌, inl, inr, ◌≡◌, ℕ, ◌+◌, ◌-◌, ◌*◌, ◌/◌, ◌%◌, ◌^◌, ◌<◌, ◌≤◌, ◌==◌, Bool, true, false, List, [], ◌∷◌, length, map, drop, refl, sym, ap, ◌∙◌, arith, if◌then◌else◌}
use Rattle.std.proofs.lemmas.Bool.{eqb-true, eqb-false, cases_lt}
use Rattle.lk_base.specs.Checksum.{digit}
use Rattle.lk_base.proofs.Bits.{digit_small}
use Rattle.lane_model.specs.Coding.{header_in, payload_in, inverse_of}
use Rattle.lane_model.specs.Framing.{sync_payload}
use Rattle.word_text.specs.Lines.{AreLinesOf}
use Rattle.word_text.specs.CodeLines.{inversion_in, IsSync, IsState, sync_text, state_text, other_text, IsCodeLine, rest_line}
use Rattle.word_text.specs.Refusals.{IsCodeLineOfAny, IsRestLine}
use Rattle.word_text.specs.Read.{number_after, byte_at}
use Rattle.word_text.proofs.Decided.{Decided, same-text, decided}
use Rattle.word_text.proofs.WordLine.{behind-below}
use Rattle.word_text.proofs.CodeText.{decide-sync, decide-state, is-sync, is-state, is-other, one-code-line, read-sync, read-state, read-other}
use Rattle.word_text.proofs.Rests.{bits-back, rest-of-line, line-of-rest}

-- ---- the line of a code

pub code-told : (code : ℕ) → (line : List ℕ) × IsCodeLine code line
code-told code = by-kind (decide-sync code) (decide-state code)
  where
    by-kind : IsSync code ⊎ (IsSync code → ⊥) → IsState code ⊎ (IsState code → ⊥) → (line : List ℕ) × IsCodeLine code line
    by-kind (inl s) q = (sync_text (inversion_in code), is-sync code (sync_text (inversion_in code)) s refl)
    by-kind (inr n) (inl t) = (state_text (inversion_in code) (payload_in code % 2 ^ 58), is-state code (state_text (inversion_in code) (payload_in code % 2 ^ 58)) t refl)
    by-kind (inr n) (inr m) = (other_text (inversion_in code) (header_in code) (payload_in code), is-other code (other_text (inversion_in code) (header_in code) (payload_in code)) n m refl)

pub codes-told : (coded : List ℕ) → (lines : List (List ℕ)) × AreLinesOf IsCodeLine coded lines
codes-told [] = ([], tt)
codes-told (code ∷ coded) =
    let (line, is) = code-told code in
    let (lines, are) = codes-told coded in
    (line ∷ lines, (is, are))

-- ---- the code of three parts

record CodeOf (inverted : Bool) (header payload : ℕ) : Type 0 where
  code : ℕ
  below : code < 2 ^ 67
  inversion : inversion_in code ≡ inverted
  has_header : header_in code ≡ header
  has_payload : payload_in code ≡ payload

one-test : (n : ℕ) → n ≡ 1 → (n == 1) ≡ true
one-test n e = ap (λ (m : ℕ). m == 1) e

no-test : (n : ℕ) → n ≡ 0 → (n == 1) ≡ false
no-test n e = ap (λ (m : ℕ). m == 1) e

payload-by : (t : Bool) (code : ℕ) → inversion_in code ≡ t → payload_in code ≡ (if t then inverse_of (code % 2 ^ 64) else code % 2 ^ 64)
payload-by t code e = ap (λ (b : Bool). if b then inverse_of (code % 2 ^ 64) else code % 2 ^ 64) e

with-parts : (inverted : Bool) (header payload : ℕ) → header < 4 → payload < 2 ^ 64 → CodeOf inverted header payload
with-parts true header payload h k =
    let code = 2 ^ 66 + header * 2 ^ 64 + (2 ^ 64 - 1 - payload) in
    let top : code / 2 ^ 66 ≡ 1 = omega arith in
    let low : inverse_of (code % 2 ^ 64) ≡ payload = omega arith in
    record { code = code; below = omega arith; inversion = one-test (code / 2 ^ 66) top; has_header = omega arith; has_payload = payload-by true code (one-test (code / 2 ^ 66) top) ∙ low }
with-parts false header payload h k =
    let code = header * 2 ^ 64 + payload in
    let top : code / 2 ^ 66 ≡ 0 = omega arith in
    let low : code % 2 ^ 64 ≡ payload = omega arith in
    record { code = code; below = omega arith; inversion = no-test (code / 2 ^ 66) top; has_header = omega arith; has_payload = payload-by false code (no-test (code / 2 ^ 66) top) ∙ low }

-- ---- the code of a line

-- the one code of which a line can be the line
record OneCode (line : List ℕ) : Type 0 where
  code : ℕ
  below : code < 2 ^ 67
  only : (other : ℕ) → other < 2 ^ 67 → IsCodeLine other line → code ≡ other

header-below : (a b : Bool) → 2 * digit a + digit b < 4
header-below a b = let h = digit_small a in let k = digit_small b in omega (arith, h, k)

one-code : (line : List ℕ) → OneCode line
one-code line = by-sync (byte_at line 1 == 121) refl
  where
    by-state : (byte_at line 1 ≡ 121 → ⊥) → (t : Bool) → (byte_at line 1 == 116) ≡ t → OneCode line
    by-state n true e =
        let state = number_after 16 0 (drop 8 line) % 0x400000000000000 in
        let c = with-parts (byte_at line 6 == 49) 2 (0x2800000000000000 + state) (omega arith) (omega arith) in
        record { code = c.code; below = c.below; only = λ y h is. read-state c.code y line c.below h is (eqb-true (byte_at line 1) 116 e) c.inversion c.has_header c.has_payload }
    by-state n false e =
        let c = with-parts (byte_at line 5 == 49) (2 * digit (byte_at (drop 7 line) 0 == 49) + digit (byte_at (drop 7 line) 1 == 49)) (number_after 16 0 (drop 10 line)) (header-below (byte_at (drop 7 line) 0 == 49) (byte_at (drop 7 line) 1 == 49)) (behind-below 16 0 (drop 10 line) (omega arith)) in
        record { code = c.code; below = c.below; only = λ y h is. read-other c.code y line c.below h is n (eqb-false (byte_at line 1) 116 e) c.inversion c.has_header c.has_payload }

    by-sync : (t : Bool) → (byte_at line 1 == 121) ≡ t → OneCode line
    by-sync true e =
        let c = with-parts (byte_at line 5 == 49) 2 sync_payload (omega arith) (omega arith) in
        record { code = c.code; below = c.below; only = λ y h is. read-sync c.code y line c.below h is (eqb-true (byte_at line 1) 121 e) c.inversion c.has_header c.has_payload }
    by-sync false e = by-state (eqb-false (byte_at line 1) 121 e) (byte_at line 1 == 116) refl

abbrev Short : ℕ → Type 0
Short code = code < 2 ^ 67

pub code-decided : (line : List ℕ) → Decided (IsCodeLineOfAny line)
code-decided line =
    let one = one-code line in
    let (told, is) = code-told one.code in
    decided ℕ Short IsCodeLine one-code-line line one.code one.below one.only told is

-- ---- the line of rest bits

bits-told : List ℕ → List Bool
bits-told line = map (λ b. b == 49) (drop 5 line)

told-back : (line : List ℕ) (bits : List Bool) → line ≡ rest_line bits → bits-told line ≡ bits
unfolding bits-told
told-back line bits e = ap (λ (l : List ℕ). map (λ b. b == 49) (drop 5 l)) e ∙ bits-back bits

pub rest-decided : (line : List ℕ) → Decided (IsRestLine line)
rest-decided line = by-text (same-text line (rest_line (bits-told line))) (cases_lt 0 (length (bits-told line))) (cases_lt (length (bits-told line)) 67)
  where
    size : (bits : List Bool) → line ≡ rest_line bits → length (bits-told line) ≡ length bits
    size bits e = ap (λ (l : List Bool). length l) (told-back line bits e)

    by-text : Decided (line ≡ rest_line (bits-told line)) → (0 < length (bits-told line)) ⊎ (length (bits-told line) ≤ 0) → (length (bits-told line) < 67) ⊎ (67 ≤ length (bits-told line)) → Decided (IsRestLine line)
    by-text (inl e) (inl some) (inl short) = inl (line-of-rest line (bits-told line) some short e)
    by-text (inl e) (inr none) q = inr (λ r. let rest = rest-of-line line r in let same = size rest.bits rest.is in let some = rest.some in omega (arith, same, some, none))
    by-text (inl e) (inl some) (inr long) = inr (λ r. let rest = rest-of-line line r in let same = size rest.bits rest.is in let short = rest.short in omega (arith, same, short, long))
    by-text (inr n) p q = inr (λ r. let rest = rest-of-line line r in n (rest.is ∙ ap rest_line (sym (told-back line rest.bits rest.is))))
