-- A word is read as the one whose nine bytes are there.
use Rattle.std.proofs.Common.{◌≡◌, ℕ, suc, ◌^◌, ◌<◌, ◌≤◌, ◌==◌, ◌||◌, not, nat_lt, Bool, true, false, cond, List, [], ◌∷◌, length, take, drop, slice_index_or, refl, sym, ap, ◌∙◌, arith}
use Rattle.std.proofs.lemmas.Bool.{eqb-false, eqb-true}
use Rattle.std.proofs.lemmas.Bool.Decides.{nat_tests}
use Rattle.std.proofs.lemmas.List.{get_or-take, length-take, length-take-le}
use Rattle.std.proofs.lemmas.Nat.{be_bytes_8}
use Rattle.std.proofs.Math.ListN.{get_or-eq_default}
use Rattle.std.specs.Int.{from_be_bytes, w64, bytes_high_first}
use Rattle.byteorder.specs.Endian.{big_from}
use Rattle.byteorder.specs.Numbers.{big_from-lt}
use Rattle.words_files.specs.FileWord.{file_number, nine_bytes}
use Rattle.words_files.specs.WordsOfFile.{file_word_in, has_wrong_tag, tag_in}
use Rattle.words_files.specs.Tags.{has_other_tag}
use Rattle.words_files.specs.declared.file_word.FileWord.TheVariants as file
use Rattle.words_files.specs.declared.tags.Tags.{Tags}
use Rattle.words_files.specs.declared.tags.Tags.TheVariants as tags

-- bytes, also past the end
abbrev pub AreLow : List ℕ → Type 0
AreLow bytes = (i : ℕ) → slice_index_or bytes i 0 < 256

pub low_first : (n : ℕ) (bytes : List ℕ) → AreLow bytes → AreLow (take n bytes)
low_first n bytes f i = by-test (nat_lt i n) refl
  where
    by-test : (b : Bool) → nat_lt i n ≡ b → slice_index_or (take n bytes) i 0 < 256
    by-test true e = let l : i < n = grind (arith, nat_tests) in rw (get_or-take n bytes i 0 l) (f i)
    by-test false e = let l : n ≤ i = grind (arith, nat_tests) in let size = length-take n bytes in let past : length (take n bytes) ≤ i = omega arith in rw (get_or-eq_default (take n bytes) 0 past) (omega arith)

same_number : (bytes : List ℕ) → big_from 0 8 bytes ≡ from_be_bytes w64 bytes
same_number bytes = omega arith

spelled : (bytes : List ℕ) → length bytes ≡ 8 → AreLow bytes → bytes_high_first 8 (big_from 0 8 bytes) ≡ bytes
spelled bytes long low = be_bytes_8 bytes (big_from 0 8 bytes) long low (same_number bytes)

third : (t : ℕ) → not ((t == 1) || (t == 2) || (t == 3)) ≡ false → (t ≡ 1 → ⊥) → (t ≡ 2 → ⊥) → t ≡ 3
third t e n m = grind (arith, nat_tests)

by_tag : (t n : ℕ) (one two : Bool) → (t == 1) ≡ one → (t == 2) ≡ two → not ((t == 1) || (t == 2) || (t == 3)) ≡ false → nine_bytes (cond one (file.Data n) (cond two (file.Control n) (file.Bad n))) ≡ t ∷ bytes_high_first 8 n
by_tag t n true two e f g = ap (λ (x : ℕ). x ∷ bytes_high_first 8 n) (sym (eqb-true t 1 e))
by_tag t n false true e f g = ap (λ (x : ℕ). x ∷ bytes_high_first 8 n) (sym (eqb-true t 2 f))
by_tag t n false false e f g = ap (λ (x : ℕ). x ∷ bytes_high_first 8 n) (sym (third t g (eqb-false t 1 e) (eqb-false t 2 f)))

-- nine bytes with a right tag
pub whole_word : (bytes : List ℕ) → length bytes ≡ 9 → AreLow bytes → has_wrong_tag bytes ≡ false → bytes ≡ nine_bytes (file_word_in bytes)
whole_word [] long low right = absurd (omega arith)
whole_word (t ∷ bytes) long low right =
    ap (λ (bs : List ℕ). t ∷ bs) (sym (spelled bytes (omega arith) (λ i. low (suc i)))) ∙ sym (by_tag t (big_from 0 8 bytes) (t == 1) (t == 2) refl refl right)

-- a tag of sent words is one of received words
right_tag : (one two three : Bool) → not (one || two) ≡ false → not (one || two || three) ≡ false
right_tag true two three e = refl
right_tag false true three e = refl
right_tag false false three e = absurd cc

known_tag : (kinds : Tags) (word : List ℕ) → has_other_tag kinds word ≡ false → has_wrong_tag word ≡ false
known_tag tags.Sent word e = right_tag (tag_in word == 1) (tag_in word == 2) (tag_in word == 3) e
known_tag tags.Received word e = e

-- the first word of bytes that are longer than it
pub first_nine : (kinds : Tags) (bytes : List ℕ) → 9 ≤ length bytes → AreLow bytes → has_other_tag kinds (take 9 bytes) ≡ false → take 9 bytes ≡ nine_bytes (file_word_in (take 9 bytes))
first_nine kinds bytes long low right = whole_word (take 9 bytes) (length-take-le 9 bytes long) (low_first 9 bytes low) (known_tag kinds (take 9 bytes) right)

number_by : (one two : Bool) (n : ℕ) → n < 2 ^ 64 → file_number (cond one (file.Data n) (cond two (file.Control n) (file.Bad n))) < 2 ^ 64
number_by true two n lt = lt
number_by false true n lt = lt
number_by false false n lt = lt

low_after : (bytes : List ℕ) → AreLow bytes → AreLow (drop 1 bytes)
low_after [] low i = low i
low_after (b ∷ bytes) low i = low (suc i)

-- the number of a word that is read has 64 bits
pub number_sized : (bytes : List ℕ) → AreLow bytes → file_number (file_word_in bytes) < 2 ^ 64
number_sized bytes low = number_by (tag_in bytes == 1) (tag_in bytes == 2) (big_from 0 8 (drop 1 bytes)) (big_from-lt 0 8 (drop 1 bytes) (low_after bytes low))
