-- A file has a listing.
use Rattle.std.proofs.Common.{inl, inr, ◌≡◌, ℕ, zero, suc, ◌+◌, ◌<◌, ◌≤◌, ◌^◌, Bool, true, false, Ok, Err, Some, None, cond, List, [], ◌∷◌, ◌++◌, All, length, drop, take, slice_index_or, refl, sym, ap, ◌∙◌, append_assoc, arith}
use Rattle.std.proofs.lemmas.Bool.{cases_lt}
use Rattle.std.proofs.lemmas.Bool.Decides.{nat_tests}
use Rattle.std.proofs.lemmas.List.{length-take, length-drop, length-take-le, take-append-drop}
use Rattle.std.proofs.lemmas.List.Elements.{All-nil, All-cons, All-drop, All-get_or}
use Rattle.std.proofs.lemmas.List.Concat.{flat_map-cons}
use Rattle.std.proofs.Math.ListN.{get_or-eq_default}
use Rattle.std.specs.List.{flat_map}
use Rattle.lk_base.specs.Checksum.{bits_of, bits_of_bytes}
use Rattle.lk_base.specs.declared.word.RxWord.{RxWord}
use Rattle.lane_model.specs.Bits.{high_number}
use Rattle.lane_model.specs.LaneBits.{bits_of_codes}
use Rattle.lane_model.proofs.Numbers.{bits_of-number, below-high_number}
use Rattle.words_files.specs.WordsOfFile.{file_word_in, has_wrong_tag, is_short, first_refusal, words_of_file}
use Rattle.words_files.specs.declared.tags.Tags.TheVariants as tags
use Rattle.words_files.proofs.Nine.{first_nine, low_first, number_sized}
use Rattle.words_files.specs.declared.error.WordsError.{WordsError}
use Rattle.words_files.specs.declared.error.WordsError.TheVariants as at
use Rattle.words_files.specs.declared.file_word.FileWord.{FileWord}
use Rattle.words_files.specs.declared.file_word.FileWord.TheVariants as file
use Rattle.word_text.specs.Lines.{text_of}
use Rattle.word_text.specs.CodeLines.{rest_lines}
use Rattle.words_files.specs.FileWord.{nine_bytes}
use Rattle.word_text.specs.WordLines.{IsSized}
use Rattle.word_text.specs.Listings.{words_head, lane_head, IsWordsListing, IsLaneListing}
use Rattle.word_text.proofs.Growing.{ReadSoFar, read-none, read-more, read-refused, first-nine}
use Rattle.word_text.proofs.WordLine.{words-told}
use Rattle.word_text.proofs.CodeLine.{codes-told}

-- ---- words files

octets-below : (xs : List ℕ) → All (λ b. b < 2 ^ 8) xs → (k : ℕ) → slice_index_or xs k 0 < 256
octets-below xs h k = elim (cases_lt k (length xs)) [
  | inl less ↦ let e = All-get_or (λ (b : ℕ). b < 2 ^ 8) xs k 0 less h in omega (arith, e)
  | inr more ↦ rw (get_or-eq_default xs 0 more) (omega arith)
]

-- the words of these bytes
record WordsOf (bytes : List ℕ) : Type 0 where
  words : List FileWord
  sized : All IsSized words
  file : bytes ≡ flat_map nine_bytes words

no-word : WordsOf []
no-word = record { words = []; sized = All-nil IsSized; file = refl }

one-more : (rest : List ℕ) (word : FileWord) → IsSized word → take 9 rest ≡ nine_bytes word → WordsOf (drop 9 rest) → WordsOf rest
one-more rest word sized bytes w = record {
  words = word ∷ w.words;
  sized = All-cons IsSized word w.words sized w.sized;
  file = first-nine rest word bytes ∙ ap (λ (l : List ℕ). nine_bytes word ++ l) w.file ∙ sym (flat_map-cons nine_bytes word w.words);
}

pub never-both : (bytes : List ℕ) (words : List RxWord) (why : WordsError) → words_of_file bytes ≡ Ok words → words_of_file bytes ≡ Err why → ⊥
never-both bytes words why e f = absurd cc

refused-tag : (offset : ℕ) (word : List ℕ) → has_wrong_tag word ≡ true → first_refusal offset word ≡ Some (at.Tag offset)
refused-tag offset word e = ap (λ (t : Bool). cond t (Some (at.Tag offset)) (cond (is_short word) (Some (at.Short offset)) None)) e

refused-short : (offset : ℕ) (word : List ℕ) → has_wrong_tag word ≡ false → is_short word ≡ true → first_refusal offset word ≡ Some (at.Short offset)
refused-short offset word e f =
    ap (λ (t : Bool). cond t (Some (at.Tag offset)) (cond (is_short word) (Some (at.Short offset)) None)) e
    ∙ ap (λ (t : Bool). cond t (Some (at.Short offset)) None) f

module _ (bytes : List ℕ) (read : List RxWord) (accepted : words_of_file bytes ≡ Ok read) where
  -- a word that is not refused
  tag-right : (rest : List ℕ) (offset : ℕ) → 0 < length rest → ReadSoFar bytes rest offset → has_wrong_tag (take 9 rest) ≡ false
  tag-right rest offset some r = by-test (has_wrong_tag (take 9 rest)) refl
    where
      by-test : (t : Bool) → has_wrong_tag (take 9 rest) ≡ t → has_wrong_tag (take 9 rest) ≡ false
      by-test true e = absurd (never-both bytes read (at.Tag offset) accepted (read-refused bytes rest offset (at.Tag offset) some (refused-tag offset (take 9 rest) e) r))
      by-test false e = e

  is-whole : (rest : List ℕ) (offset : ℕ) → 0 < length rest → ReadSoFar bytes rest offset → 9 ≤ length rest
  is-whole rest offset some r = by-test (is_short (take 9 rest)) refl
    where
      by-test : (t : Bool) → is_short (take 9 rest) ≡ t → 9 ≤ length rest
      by-test true e = absurd (never-both bytes read (at.Short offset) accepted (read-refused bytes rest offset (at.Short offset) some (refused-short offset (take 9 rest) (tag-right rest offset some r) e) r))
      by-test false e = let size = length-take 9 rest in let long : 9 ≤ length (take 9 rest) = grind (arith, nat_tests) in omega (arith, size, long)

  words-of : (fuel : ℕ) (rest : List ℕ) (offset : ℕ) → length rest < fuel → All (λ b. b < 2 ^ 8) rest → ReadSoFar bytes rest offset → WordsOf rest
  words-of zero rest offset h o r = absurd (omega arith)
  words-of (suc fuel) [] offset h o r = no-word
  words-of (suc fuel) (b ∷ rest) offset h o r =
      let some : 0 < length (b ∷ rest) = omega arith in
      let long = is-whole (b ∷ rest) offset some r in
      let low = octets-below (b ∷ rest) o in
      let word = file_word_in (take 9 (b ∷ rest)) in
      let bytes_are = first_nine tags.Received (b ∷ rest) long low (tag-right (b ∷ rest) offset some r) in
      let size = length-drop 9 (b ∷ rest) in
      one-more (b ∷ rest) word (number_sized (take 9 (b ∷ rest)) (low_first 9 (b ∷ rest) low)) bytes_are
      (words-of fuel (drop 9 (b ∷ rest)) (offset + 9) (omega (arith, size, long, h)) (All-drop (λ (x : ℕ). x < 2 ^ 8) 9 (b ∷ rest) o) (read-more bytes (b ∷ rest) offset word some bytes_are r))

pub words-listing : (bytes : List ℕ) (words : List RxWord) → All (λ b. b < 2 ^ 8) bytes → words_of_file bytes ≡ Ok words → (text : List ℕ) × IsWordsListing text bytes
words-listing bytes words o e =
    let w = words-of bytes words e (suc (length bytes)) bytes 0 (omega arith) o (read-none bytes) in
    let (lines, are) = words-told w.words w.sized in
    (text_of (words_head ∷ lines), record { words = w.words; lines = lines; sized = w.sized; file = w.file; each = are; whole = refl })

-- ---- lane files

abbrev Short : ℕ → Type 0
Short code = code < 2 ^ 67

-- bits are codes, and then fewer bits than a code has
record CodesOf (bits : List Bool) : Type 0 where
  coded : List ℕ
  rest : List Bool
  sized : All Short coded
  short : length rest < 67
  whole : bits ≡ bits_of_codes coded ++ rest

last-codes : (bits : List Bool) → length bits < 67 → CodesOf bits
unfolding bits_of_codes
last-codes bits h = record { coded = []; rest = bits; sized = All-nil Short; short = h; whole = refl }

code-more : (bits : List Bool) → 67 ≤ length bits → CodesOf (drop 67 bits) → CodesOf bits
unfolding bits_of_codes
code-more bits h c =
    let size : length (take 67 bits) ≡ 67 = length-take-le 67 bits h in
    let code = high_number (take 67 bits) in
    record {
      coded = code ∷ c.coded;
      rest = c.rest;
      sized = All-cons Short code c.coded (below-high_number (take 67 bits) 67 size) c.sized;
      short = c.short;
      whole =
          sym (take-append-drop 67 bits)
          ∙ ap (λ (l : List Bool). l ++ drop 67 bits) (sym (bits_of-number 67 (take 67 bits) size))
          ∙ ap (λ (l : List Bool). bits_of 67 code ++ l) c.whole
          ∙ sym (append_assoc (bits_of 67 code) (bits_of_codes c.coded) c.rest)
          ∙ ap (λ (l : List Bool). l ++ c.rest) (sym (flat_map-cons (bits_of 67) code c.coded));
    }

codes-of : (fuel : ℕ) (bits : List Bool) → length bits < fuel → CodesOf bits
codes-of zero bits h = absurd (omega arith)
codes-of (suc fuel) bits h = elim (cases_lt (length bits) 67) [
  | inl less ↦ last-codes bits less
  | inr more ↦ code-more bits more (codes-of fuel (drop 67 bits) (let size = length-drop 67 bits in omega (arith, size, more, h)))
]

pub lane-has-listing : (bytes : List ℕ) → All (λ b. b < 2 ^ 8) bytes → (text : List ℕ) × IsLaneListing text bytes
lane-has-listing bytes o =
    let c = codes-of (suc (length (bits_of_bytes bytes))) (bits_of_bytes bytes) (omega arith) in
    let (lines, are) = codes-told c.coded in
    (text_of (lane_head ∷ lines ++ rest_lines c.rest), record { coded = c.coded; rest = c.rest; lines = lines; sized = c.sized; short = c.short; bits = c.whole; octets = o; each = are; whole = refl })
