-- How long a listing is at most.
use Rattle.std.proofs.Common.{◌⊎◌, inl, inr, ◌≡◌, ℕ, suc, ◌+◌, ◌*◌, ◌<◌, ◌≤◌, ◌^◌, ◌%◌, Bool, true, false, List, [], ◌∷◌, ◌++◌, length, refl, sym, ap, ◌∙◌, arith, length-append}
use Rattle.std.specs.Fmt.{decimal}
use Rattle.std.proofs.lemmas.Fmt.{length-decimal-le}
use Rattle.std.proofs.lemmas.List.{length-map}
use Rattle.std.proofs.lemmas.List.Concat.{flat_map-cons}
use Rattle.std.specs.List.{flat_map}
use lib.Chars.{codes}
use Rattle.lane_model.specs.Coding.{payload_in}
use Rattle.lane_model.specs.LaneBits.{bits_of_codes}
use Rattle.lane_model.proofs.FilesHold.{length-flat_map_bits}
use Rattle.control_words.specs.declared.fields.Eop.{Eop}
use Rattle.control_words.specs.declared.fields.Eop.TheVariants.{Going, End, Error}
use Rattle.control_words.specs.declared.fields.Control.{Control}
use Rattle.control_words.specs.ControlWord.{IsWordOf}
use Rattle.words_files.specs.declared.file_word.FileWord.{FileWord}
use Rattle.words_files.specs.declared.file_word.FileWord.TheVariants as file
use Rattle.word_text.specs.Digits.{bit_glyph}
use Rattle.lk_base.specs.Hex.{hex}
use Rattle.lk_base.proofs.HexDigits.{length-hex}
use Rattle.coding_67b.proofs.Runs.{codes_length}
use Rattle.word_text.specs.Lines.{ended, text_of, AreLinesOf}
use Rattle.words_files.specs.FileWord.{nine_bytes}
use Rattle.word_text.specs.WordLines.{IsWordLine, control_text}
use Rattle.word_text.specs.CodeLines.{IsSync, IsState, IsCodeLine, rest_line, rest_lines}
use Rattle.word_text.specs.Listings.{words_head, lane_head, IsWordsListing, IsLaneListing}
use Rattle.word_text.proofs.Fields.{cut-fields, from_kind, from_sop, from_eop, from_reset, from_flow, from_channel, from_multi}
use Rattle.word_text.proofs.CodeText.{decide-sync, decide-state}
use Rattle.word_text.proofs.Cuts.{text-cons}
use Rattle.word_text.proofs.Lanes.{text-rest}

-- ---- the line of a word has at most 72 bytes

multi-length : (multi crc : ℕ) → multi < 2 ^ 8 → length (from_multi multi crc) ≤ 14
multi-length multi crc h =
    let size = length-append (decimal multi) (codes " crc=" ++ hex 6 crc) in
    let digits = length-decimal-le 3 multi (omega arith) (omega arith) (omega arith) in
    let check = length-hex 6 crc in
    omega (arith, size, digits, check)

channel-length : (channel multi crc : ℕ) → channel < 2 ^ 8 → multi < 2 ^ 8 → length (from_channel channel multi crc) ≤ 24
channel-length channel multi crc h k =
    let size = length-append (decimal channel) (codes " multi=" ++ from_multi multi crc) in
    let digits = length-decimal-le 3 channel (omega arith) (omega arith) (omega arith) in
    let more = multi-length multi crc k in
    omega (arith, size, digits, more)

flow-length : (flow channel multi crc : ℕ) → channel < 2 ^ 8 → multi < 2 ^ 8 → length (from_flow flow channel multi crc) ≤ 37
flow-length flow channel multi crc h k =
    let size = length-append (hex 4 flow) (codes " channel=" ++ from_channel channel multi crc) in
    let digits = length-hex 4 flow in
    let more = channel-length channel multi crc h k in
    omega (arith, size, digits, more)

reset-length : (b : Bool) (rest : List ℕ) → length (from_reset b rest) ≡ 7 + length rest
reset-length true rest = omega arith
reset-length false rest = omega arith

eop-length : (eop : Eop) (rest : List ℕ) → ((n : ℕ) → eop ≡ End n → (1 ≤ n) × (n ≤ 8)) → length (from_eop eop rest) ≤ 12 + length rest
eop-length Going rest r = omega arith
eop-length Error rest r = omega arith
eop-length (End n) rest r =
    let low = r n refl in
    let size = length-append (decimal n) (codes " reset=" ++ rest) in
    let digits = length-decimal-le 1 n (omega arith) (omega arith) (omega arith) in
    omega (arith, size, digits)

sop-length : (b : Bool) (rest : List ℕ) → length (from_sop b rest) ≡ 6 + length rest
sop-length true rest = omega arith
sop-length false rest = omega arith

kind-length : (b : Bool) (rest : List ℕ) → length (from_kind b rest) ≤ 10 + length rest
kind-length true rest = omega arith
kind-length false rest = omega arith

fields-length : (c : Control) (crc x : ℕ) → IsWordOf c crc x → length (control_text c crc) ≤ 72
fields-length c crc x h =
    let q = h.channel in let r = h.multi in
    let r4 = from_flow c.flow c.channel c.multi crc in
    let r3 = from_reset c.reset r4 in
    let r2 = from_eop c.eop r3 in
    let r1 = from_sop c.sop r2 in
    let a = flow-length c.flow c.channel c.multi crc (omega arith) (omega arith) in
    let b = reset-length c.reset r4 in
    let d = eop-length c.eop r3 c.end_in_range in
    let e = sop-length c.sop r2 in
    let f = kind-length c.burst r1 in
    let g = ap (λ (l : List ℕ). length l) (cut-fields c crc) in
    omega (arith, a, b, d, e, f, g)

word-length : (word : FileWord) (line : List ℕ) → IsWordLine word line → length line ≤ 72
word-length (file.Data x) line e = let g = ap (λ (l : List ℕ). length l) e in let h = length-hex 16 x in omega (arith, g, h)
word-length (file.Bad x) line e = let g = ap (λ (l : List ℕ). length l) e in let h = length-hex 16 x in omega (arith, g, h)
word-length (file.Control x) line (inl (c, crc, h, e)) = let g = ap (λ (l : List ℕ). length l) e in let k = fields-length c crc x h in omega (arith, g, k)
word-length (file.Control x) line (inr (p, e)) = let g = ap (λ (l : List ℕ). length l) e in let h = length-hex 16 x in omega (arith, g, h)

-- ---- texts of lines

ended-length : (line : List ℕ) (lines : List (List ℕ)) → length (text_of (line ∷ lines)) ≡ length line + 1 + length (text_of lines)
ended-length line lines =
    let cut = ap (λ (l : List ℕ). length l) (text-cons line lines) ∙ length-append (ended line) (text_of lines) in
    let one = length-append line (10 ∷ []) in
    omega (arith, cut, one)

lines-length : {X : Type 0} (IsLine : X → List ℕ → Type 0) (most : ℕ) → ((x : X) (line : List ℕ) → IsLine x line → length line + 1 ≤ most) → (xs : List X) (lines : List (List ℕ)) → AreLinesOf IsLine xs lines → length (text_of lines) ≤ most * length xs
lines-length IsLine most short [] [] h = omega arith
lines-length IsLine most short [] (line ∷ lines) h = absurd h
lines-length IsLine most short (x ∷ xs) [] h = absurd h
lines-length IsLine most short (x ∷ xs) (line ∷ lines) h =
    let size = ended-length line lines in
    let one = short x line h.0 in
    let more = lines-length IsLine most short xs lines h.1 in
    let all : most * suc (length xs) ≡ most + most * length xs = omega arith in
    omega (arith, size, one, more, all)

nines-length : (words : List FileWord) → length (flat_map nine_bytes words) ≡ 9 * length words
nines-length [] = refl
nines-length (word ∷ words) =
    let size = ap (λ (l : List ℕ). length l) (flat_map-cons nine_bytes word words) ∙ length-append (nine_bytes word) (flat_map nine_bytes words) in
    let more = nines-length words in
    omega (arith, size, more)

pub words-length : (text bytes : List ℕ) → IsWordsListing text bytes → 9 * length text ≤ 73 * length bytes + 9 * 6
words-length text bytes a =
    let lines = lines-length IsWordLine 73 (λ w l is. let h = word-length w l is in omega (arith, h)) a.words a.lines a.each in
    let size = ap (λ (l : List ℕ). length l) a.whole ∙ ended-length words_head a.lines in
    let file = ap (λ (l : List ℕ). length l) a.file ∙ nines-length a.words in
    omega (arith, lines, size, file)

-- ---- lanes

code-length : (code : ℕ) (line : List ℕ) → IsCodeLine code line → length line ≤ 26
code-length code line h = by-kind (decide-sync code) (decide-state code)
  where
    by-kind : IsSync code ⊎ (IsSync code → ⊥) → IsState code ⊎ (IsState code → ⊥) → length line ≤ 26
    by-kind (inl s) q = let e = ap (λ (l : List ℕ). length l) (h.sync s) in omega (arith, e)
    by-kind (inr n) (inl t) = let e = ap (λ (l : List ℕ). length l) (h.state t) in let k = length-hex 15 (payload_in code % 2 ^ 58) in omega (arith, e, k)
    by-kind (inr n) (inr m) = let e = ap (λ (l : List ℕ). length l) (h.other n m) in let k = length-hex 16 (payload_in code) in omega (arith, e, k)

rest-length : (rest : List Bool) → length rest < 67 → length (text_of (rest_lines rest)) ≤ 72
rest-length [] h = omega arith
rest-length (b ∷ rest) h =
    let size = ended-length (rest_line (b ∷ rest)) [] in
    let bits = length-map (b ∷ rest) bit_glyph in
    omega (arith, size, bits, h)

pub lane-length : (text bytes : List ℕ) → IsLaneListing text bytes → 67 * length text ≤ 27 * (8 * length bytes) + 67 * 77
lane-length text bytes a =
    let lines = lines-length IsCodeLine 27 (λ c l is. let h = code-length c l is in omega (arith, h)) a.coded a.lines a.each in
    let size = ap (λ (l : List ℕ). length l) (a.whole ∙ text-rest a.lines a.rest) ∙ length-append (text_of (lane_head ∷ a.lines)) (text_of (rest_lines a.rest)) in
    let first = ended-length lane_head a.lines in
    let last = rest-length a.rest a.short in
    let bits = sym (length-flat_map_bits 8 bytes) ∙ ap (λ (l : List Bool). length l) a.bits ∙ length-append (bits_of_codes a.coded) a.rest in
    let count = codes_length a.coded in
    omega (arith, lines, size, first, last, bits, count)
