-- A word has a line, and a line is that of one word or of none.
use Rattle.std.proofs.Common.{inl, inr, ◌≡◌, ℕ, zero, suc, ◌+◌, ◌*◌, ◌/◌, ◌%◌, ◌^◌, ◌<◌, ◌≤◌, ◌==◌, ◌&&◌, nat_lt, Bool, true, false, List, [], ◌∷◌, ◌++◌, drop, All, refl, sym, ap, ◌∙◌, arith, if◌then◌else◌}
use Rattle.std.proofs.lemmas.Bool.{eqb-true, eqb-false}
use Rattle.std.proofs.lemmas.List.Elements.{All-tail}
use Rattle.std.proofs.lemmas.Nat.{shr_split, shr-shr}
use lib.Chars.{codes}
use Rattle.lk_base.specs.Fields.{field, is_control_word, is_end_format, has_burst, has_sop, control_field, burst_field, sop_field, eop_field, reset_field, flow_field, channel_field, multi_field, crc_field}
use Rattle.control_words.specs.declared.fields.Eop.{Eop}
use Rattle.control_words.specs.declared.fields.Eop.TheVariants.{Going, End, Error}
use Rattle.control_words.specs.declared.fields.Control.{Control}
use Rattle.control_words.specs.ControlWord.{IsWordOf, end_of, end_of_format, eop_format}
use Rattle.lk_base.specs.Checksum.{digit}
use Rattle.words_files.specs.declared.file_word.FileWord.{FileWord}
use Rattle.words_files.specs.declared.file_word.FileWord.TheVariants as file
use Rattle.lk_base.specs.Hex.{hex}
use Rattle.lk_base.proofs.Bits.{digit_small}
use Rattle.control_words.proofs.SameControl.{highest}
use Rattle.word_text.specs.Lines.{AreLinesOf}
use Rattle.word_text.specs.WordLines.{control_text, IsControlLine, IsWordLine, IsSized}
use Rattle.word_text.specs.Refusals.{IsWordLineOfAny}
use Rattle.word_text.specs.Read.{digit_of, number_after, after_equals, byte_at, end_at}
use Rattle.word_text.proofs.Decided.{Decided, decided}
use Rattle.word_text.proofs.Fields.{fields-read}
use Rattle.word_text.proofs.Words.{arm-data, arm-control, arm-bad, arm-fields, one-line}

-- ---- a control word tells its fields

abbrev IsInRange : Eop → Type 0
IsInRange eop = (n : ℕ) → eop ≡ End n → (1 ≤ n) × (n ≤ 8)

end-number : (m n : ℕ) → End m ≡ End n → m ≡ n
end-number m n e = cc

in-range : (m : ℕ) → 1 ≤ m → m ≤ 8 → IsInRange (End m)
in-range m h k n e = let same = end-number m n e in (omega (arith, same, h), omega (arith, same, k))

by-format : (format : ℕ) → format < 16 → is_end_format format ≡ true → (format ≡ eop_format (end_of_format format)) × IsInRange (end_of_format format)
by-format zero h e = (refl, λ n k. absurd cc)
by-format (suc zero) h e = (refl, λ n k. absurd cc)
by-format (suc (suc zero)) h e = absurd cc
by-format (suc (suc (suc zero))) h e = absurd cc
by-format (suc (suc (suc (suc zero)))) h e = absurd cc
by-format (suc (suc (suc (suc (suc zero))))) h e = absurd cc
by-format (suc (suc (suc (suc (suc (suc zero)))))) h e = absurd cc
by-format (suc (suc (suc (suc (suc (suc (suc zero))))))) h e = absurd cc
by-format (suc (suc (suc (suc (suc (suc (suc (suc zero)))))))) h e = (refl, in-range 8 (omega arith) (omega arith))
by-format (suc (suc (suc (suc (suc (suc (suc (suc (suc zero))))))))) h e = (refl, in-range 1 (omega arith) (omega arith))
by-format (suc (suc (suc (suc (suc (suc (suc (suc (suc (suc zero)))))))))) h e = (refl, in-range 2 (omega arith) (omega arith))
by-format (suc (suc (suc (suc (suc (suc (suc (suc (suc (suc (suc zero))))))))))) h e = (refl, in-range 3 (omega arith) (omega arith))
by-format (suc (suc (suc (suc (suc (suc (suc (suc (suc (suc (suc (suc zero)))))))))))) h e = (refl, in-range 4 (omega arith) (omega arith))
by-format (suc (suc (suc (suc (suc (suc (suc (suc (suc (suc (suc (suc (suc zero))))))))))))) h e = (refl, in-range 5 (omega arith) (omega arith))
by-format (suc (suc (suc (suc (suc (suc (suc (suc (suc (suc (suc (suc (suc (suc zero)))))))))))))) h e = (refl, in-range 6 (omega arith) (omega arith))
by-format (suc (suc (suc (suc (suc (suc (suc (suc (suc (suc (suc (suc (suc (suc (suc zero))))))))))))))) h e = (refl, in-range 7 (omega arith) (omega arith))
by-format (suc (suc (suc (suc (suc (suc (suc (suc (suc (suc (suc (suc (suc (suc (suc (suc n)))))))))))))))) h e = absurd (omega arith)

of-bit : (n : ℕ) → n < 2 → n ≡ digit (n == 1)
of-bit zero h = refl
of-bit (suc zero) h = refl
of-bit (suc (suc n)) h = absurd (omega arith)

both : (a b : Bool) → (a && b) ≡ true → (a ≡ true) × (b ≡ true)
both true true e = (refl, refl)
both true false e = absurd cc
both false b e = absurd cc

pub fields-of : (x : ℕ) → x < 2 ^ 64 → is_control_word x ≡ true → (c : Control) × IsWordOf c (crc_field x) x
fields-of x h e =
    let (one, format) = both (control_field x == 1) (is_end_format (eop_field x)) e in
    let (stands, range) = by-format (eop_field x) (omega arith) format in (
      record { burst = has_burst x; sop = has_sop x; eop = end_of x; reset = reset_field x == 1; flow = flow_field x; channel = channel_field x; multi = multi_field x; end_in_range = range },
      record {
        sized = h;
        control = eqb-true (control_field x) 1 one;
        burst = of-bit (burst_field x) (omega arith);
        sop = of-bit (sop_field x) (omega arith);
        eop = stands;
        reset = of-bit (reset_field x) (omega arith);
        flow = refl;
        channel = refl;
        multi = refl;
        checksum = refl;
      },
    )

-- ---- the line of a word

control-told : (x : ℕ) → x < 2 ^ 64 → (line : List ℕ) × IsControlLine x line
control-told x h = by-test (is_control_word x) refl
  where
    by-test : (t : Bool) → is_control_word x ≡ t → (line : List ℕ) × IsControlLine x line
    by-test true e = let (c, is) = fields-of x h e in (control_text c (crc_field x), inl (c, crc_field x, is, refl))
    by-test false e = (codes "control " ++ hex 16 x, inr (e, refl))

pub word-told : (word : FileWord) → IsSized word → (line : List ℕ) × IsWordLine word line
word-told (file.Data x) h = (codes "data " ++ hex 16 x, refl)
word-told (file.Control x) h = control-told x h
word-told (file.Bad x) h = (codes "bad " ++ hex 16 x, refl)

pub words-told : (words : List FileWord) → All IsSized words → (lines : List (List ℕ)) × AreLinesOf IsWordLine words lines
words-told [] h = ([], tt)
words-told (word ∷ words) h =
    let (line, is) = word-told word (h 0 word (omega arith)) in
    let (lines, are) = words-told words (All-tail IsSized word words h) in
    (line ∷ lines, (is, are))

-- ---- the number that the fields tell

-- each field at its place
abbrev placed : ℕ → ℕ → ℕ → ℕ → ℕ → ℕ → ℕ → ℕ → ℕ
placed burst sop eop reset flow channel multi crc = (((((((2 + burst) * 2 + sop) * 2 ^ 4 + eop) * 2 + reset) * 2 ^ 16 + flow) * 2 ^ 8 + channel) * 2 ^ 8 + multi) * 2 ^ 24 + crc

parted : (n low width : ℕ) → n / 2 ^ low ≡ n / 2 ^ (low + width) * 2 ^ width + field low width n
parted n low width = rw (← shr-shr n low width) (sym (shr_split (n / 2 ^ low) width))

whole : (x : ℕ) → x < 2 ^ 64 → control_field x ≡ 1 → x ≡ placed (burst_field x) (sop_field x) (eop_field x) (reset_field x) (flow_field x) (channel_field x) (multi_field x) (crc_field x)
whole x h e =
    let a : x / 2 ^ 62 ≡ 2 + burst_field x = parted x 62 1 ∙ ap (λ (n : ℕ). n * 2 + burst_field x) (highest x h e) in
    let b : x / 2 ^ 61 ≡ (2 + burst_field x) * 2 + sop_field x = parted x 61 1 ∙ ap (λ (n : ℕ). n * 2 + sop_field x) a in
    let c = parted x 57 4 ∙ ap (λ (n : ℕ). n * 2 ^ 4 + eop_field x) b in
    let d = parted x 56 1 ∙ ap (λ (n : ℕ). n * 2 + reset_field x) c in
    let f = parted x 40 16 ∙ ap (λ (n : ℕ). n * 2 ^ 16 + flow_field x) d in
    let g = parted x 32 8 ∙ ap (λ (n : ℕ). n * 2 ^ 8 + channel_field x) f in
    let i = parted x 24 8 ∙ ap (λ (n : ℕ). n * 2 ^ 8 + multi_field x) g in
    let j : x / 2 ^ 0 ≡ x / 2 ^ 24 * 2 ^ 24 + crc_field x = parted x 0 24 in
    let k : x / 2 ^ 0 ≡ x = omega arith in
    sym k ∙ j ∙ ap (λ (n : ℕ). n * 2 ^ 24 + crc_field x) i

eight : (a b c d e f g h p q r s t u v w : ℕ) → a ≡ p → b ≡ q → c ≡ r → d ≡ s → e ≡ t → f ≡ u → g ≡ v → h ≡ w → placed a b c d e f g h ≡ placed p q r s t u v w
eight a b c d e f g h p q r s t u v w i j k l m n o x = rw (i, j, k, l, m, n, o, x) refl

-- the number of the control word that a line can tell
told-number : List ℕ → ℕ
told-number line =
    placed (digit (byte_at line 0 == 98)) (digit (byte_at (after_equals line) 0 == 49)) (eop_format (end_at (byte_at (after_equals (after_equals line)) 0)))
    (digit (byte_at (after_equals (after_equals (after_equals line))) 0 == 49))
    (number_after 16 0 (after_equals (after_equals (after_equals (after_equals line)))) % 0x10000)
    (number_after 10 0 (after_equals (after_equals (after_equals (after_equals (after_equals line))))) % 0x100)
    (number_after 10 0 (after_equals (after_equals (after_equals (after_equals (after_equals (after_equals line)))))) % 0x100)
    (number_after 16 0 (after_equals (after_equals (after_equals (after_equals (after_equals (after_equals (after_equals line))))))) % 0x1000000)

told-only : (line : List ℕ) (c : Control) (crc x : ℕ) → IsWordOf c crc x → line ≡ control_text c crc → told-number line ≡ x
unfolding told-number
told-only line c crc x h e =
    let r = fields-read c crc x line h e in
    eight _ _ _ _ _ _ _ _ _ _ _ _ _ _ _ _ (ap digit r.burst ∙ sym h.burst) (ap digit r.sop ∙ sym h.sop) (ap eop_format r.eop ∙ sym h.eop) (ap digit r.reset ∙ sym h.reset)
    (r.flow ∙ sym h.flow) (r.channel ∙ sym h.channel) (r.multi ∙ sym h.multi) (r.check ∙ sym h.checksum)
    ∙ sym (whole x h.sized h.control)

format-below : (eop : Eop) → eop_format eop < 16
format-below Going = omega arith
format-below Error = omega arith
format-below (End n) = omega arith

placed-below : (a b c d e f g h : ℕ) → a < 2 → b < 2 → c < 16 → d < 2 → e < 2 ^ 16 → f < 2 ^ 8 → g < 2 ^ 8 → h < 2 ^ 24 → placed a b c d e f g h < 2 ^ 64
placed-below a b c d e f g h i j k l m n o p = omega arith

told-below : (line : List ℕ) → told-number line < 2 ^ 64
unfolding told-number
told-below line = placed-below _ _ _ _ _ _ _ _ (digit_small _) (digit_small _) (format-below _) (digit_small _) (omega arith) (omega arith) (omega arith) (omega arith)

-- ---- the word of a line

one-below : (t : Bool) (a b : ℕ) → a < 2 ^ 64 → b < 2 ^ 64 → (if t then a else b) < 2 ^ 64
one-below true a b h k = h
one-below false a b h k = k

pub behind-below : (base n : ℕ) (cs : List ℕ) → n < 2 ^ 64 → number_after base n cs < 2 ^ 64
unfolding number_after
behind-below base n [] h = h
behind-below base n (c ∷ cs) h = one-below (nat_lt (digit_of c) base) (number_after base ((n * base % 2 ^ 64 + digit_of c) % 2 ^ 64) cs) n (behind-below base ((n * base % 2 ^ 64 + digit_of c) % 2 ^ 64) cs (omega arith)) h

-- the one word of which a line can be the line
record OneWord (line : List ℕ) : Type 0 where
  word : FileWord
  sized : IsSized word
  only : (other : FileWord) → IsSized other → IsWordLine other line → word ≡ other

one-word : (line : List ℕ) → OneWord line
one-word line = by-data (byte_at line 0 == 100) refl
  where
    by-bad : (byte_at line 0 ≡ 100 → ⊥) → (byte_at line 0 ≡ 99 → ⊥) → (t : Bool) → (byte_at line 1 == 97) ≡ t → OneWord line
    by-bad n m true e = record {
      word = file.Bad (number_after 16 0 (drop 4 line));
      sized = behind-below 16 0 (drop 4 line) (omega arith);
      only = λ w s is. arm-bad line w n m (eqb-true (byte_at line 1) 97 e) s is;
    }
    by-bad n m false e = record {
      word = file.Control (told-number line);
      sized = told-below line;
      only = λ w s is. arm-fields line (told-number line) w (told-only line) n m (eqb-false (byte_at line 1) 97 e) is;
    }

    by-control : (byte_at line 0 ≡ 100 → ⊥) → (t : Bool) → (byte_at line 0 == 99) ≡ t → OneWord line
    by-control n true e = record {
      word = file.Control (number_after 16 0 (drop 8 line));
      sized = behind-below 16 0 (drop 8 line) (omega arith);
      only = λ w s is. arm-control line w (eqb-true (byte_at line 0) 99 e) s is;
    }
    by-control n false e = by-bad n (eqb-false (byte_at line 0) 99 e) (byte_at line 1 == 97) refl

    by-data : (t : Bool) → (byte_at line 0 == 100) ≡ t → OneWord line
    by-data true e = record {
      word = file.Data (number_after 16 0 (drop 5 line));
      sized = behind-below 16 0 (drop 5 line) (omega arith);
      only = λ w s is. arm-data line w (eqb-true (byte_at line 0) 100 e) s is;
    }
    by-data false e = by-control (eqb-false (byte_at line 0) 100 e) (byte_at line 0 == 99) refl

pub word-decided : (line : List ℕ) → Decided (IsWordLineOfAny line)
word-decided line =
    let one = one-word line in
    let (told, is) = word-told one.word one.sized in
    decided FileWord IsSized IsWordLine one-line line one.word one.sized one.only told is
