-- A text is of one kind, and is refused for one cause or lists one file.
use Rattle.std.proofs.Common.{inl, inr, ◌≡◌, ℕ, ◌+◌, ◌*◌, ◌%◌, ◌<◌, Bool, List, [], ◌++◌, length, refl, sym, ap, ◌∙◌, arith}
use Rattle.lane_model.proofs.FilesHold.{length-flat_map_bits}
use Rattle.lane_model.specs.LaneBits.{bits_of_codes}
use Rattle.std.proofs.Common.{length-append}
use Rattle.coding_67b.proofs.Runs.{codes_length}
use Rattle.words_files.specs.declared.text_error.TextError.{TextError}
use Rattle.words_files.specs.declared.text_error.TextError.TheVariants.{Head, Line, Length}
use Rattle.word_text.specs.Lines.{ended, text_of}
use Rattle.word_text.specs.CodeLines.{IsCodeLine, rest_lines}
use Rattle.word_text.specs.Listings.{words_head, lane_head, IsWordsListing, IsLaneListing, IsListing}
use Rattle.word_text.specs.Refusals.{HasNoHead, IsRefusedFor}
use Rattle.word_text.specs.Read.{byte_at}
use Rattle.word_text.proofs.LaneEnds.{as-many}
use Rattle.word_text.proofs.Cuts.{text-step}
use Rattle.word_text.proofs.Unique.{WordsCut, words-once, listing-cut, wrong-cut, one-file}
use Rattle.word_text.proofs.UniqueLanes.{LaneCut, lane-once, lane-listing-cut, lane-wrong-cut, not-whole-cut, lane-one-file}

-- ---- the kind of a text

-- a text that begins with this line
abbrev Begins : List ℕ → List ℕ → Type 0
Begins head text = (more : List ℕ) × (text ≡ ended head ++ more)

words-begin : (text : List ℕ) (lines : List (List ℕ)) (left : List ℕ) → WordsCut text lines left → Begins words_head text
words-begin text lines left a = (text_of lines ++ left, a.whole ∙ text-step words_head lines left)

lane-begins : (text : List ℕ) (lines : List (List ℕ)) (rest : List Bool) (left : List ℕ) → LaneCut text lines rest left → Begins lane_head text
lane-begins text lines rest left a = (text_of (lines ++ rest_lines rest) ++ left, a.whole ∙ text-step lane_head (lines ++ rest_lines rest) left)

two-heads : (text : List ℕ) → Begins words_head text → Begins lane_head text → ⊥
two-heads text (x, e) (y, f) = let first : 119 ≡ 108 = ap (λ (l : List ℕ). byte_at l 0) (sym e ∙ f) in omega (arith, first)

two-kinds : (text : List ℕ) (ls ms : List (List ℕ)) (rest : List Bool) (x y : List ℕ) → WordsCut text ls x → LaneCut text ms rest y → ⊥
two-kinds text ls ms rest x y a b = two-heads text (words-begin text ls x a) (lane-begins text ms rest y b)

pub one-kind : (text bytes other : List ℕ) → IsWordsListing text bytes → IsLaneListing text other → ⊥
one-kind text bytes other a b = two-kinds text a.lines b.lines b.rest [] [] (listing-cut text bytes a) (lane-listing-cut text other b)

pub one-bytes : (text bytes other : List ℕ) → IsListing text bytes → IsListing text other → bytes ≡ other
one-bytes text bytes other (inl a) (inl b) = one-file text bytes other a b
one-bytes text bytes other (inl a) (inr b) = absurd (one-kind text bytes other a b)
one-bytes text bytes other (inr a) (inl b) = absurd (one-kind text other bytes b a)
one-bytes text bytes other (inr a) (inr b) = lane-one-file text bytes other a b

-- the words text or the lane text after a first line
pub words-kind : (lines bytes : List ℕ) → IsListing (ended words_head ++ lines) bytes → IsWordsListing (ended words_head ++ lines) bytes
words-kind lines bytes (inl a) = a
words-kind lines bytes (inr b) = absurd (two-heads (ended words_head ++ lines) (lines, refl) (lane-begins (ended words_head ++ lines) b.lines b.rest [] (lane-listing-cut (ended words_head ++ lines) bytes b)))

pub lane-kind : (lines bytes : List ℕ) → IsListing (ended lane_head ++ lines) bytes → IsLaneListing (ended lane_head ++ lines) bytes
lane-kind lines bytes (inr b) = b
lane-kind lines bytes (inl a) = absurd (two-heads (ended lane_head ++ lines) (words-begin (ended lane_head ++ lines) a.lines [] (listing-cut (ended lane_head ++ lines) bytes a)) (lines, refl))

-- ---- a text that is refused lists no file

no-head-words : (text : List ℕ) (lines : List (List ℕ)) (left : List ℕ) → HasNoHead text → WordsCut text lines left → ⊥
no-head-words text lines left h a = let (more, e) = words-begin text lines left a in h.words more e

no-head-lane : (text : List ℕ) (lines : List (List ℕ)) (rest : List Bool) (left : List ℕ) → HasNoHead text → LaneCut text lines rest left → ⊥
no-head-lane text lines rest left h a = let (more, e) = lane-begins text lines rest left a in h.lane more e

some-left : (left : List ℕ) → 0 < length left → left ≡ [] → ⊥
some-left left h e = let size = ap length e in omega (arith, size, h)

lane-bits : (text bytes : List ℕ) (b : IsLaneListing text bytes) → 8 * length bytes ≡ 67 * length b.lines + length b.rest
lane-bits text bytes b =
    let size = sym (length-flat_map_bits 8 bytes) ∙ ap length b.bits ∙ length-append (bits_of_codes b.coded) b.rest in
    let count = codes_length b.coded in
    let many = as-many IsCodeLine b.coded b.lines b.each in
    omega (arith, size, count, many)

not-eight : (bytes lines rest : ℕ) → 8 * bytes ≡ 67 * lines + rest → (67 * lines + rest) % 8 ≡ 0
not-eight bytes lines rest e = omega arith

pub refused-never : (text bytes : List ℕ) (why : TextError) → IsRefusedFor text why → IsListing text bytes → ⊥
refused-never text bytes Head h (inl a) = no-head-words text a.lines [] h (listing-cut text bytes a)
refused-never text bytes Head h (inr b) = no-head-lane text b.lines b.rest [] h (lane-listing-cut text bytes b)
refused-never text bytes (Line n) (inl r) (inl a) = some-left r.wrong r.some (words-once text r.lines a.lines r.wrong [] (wrong-cut text n r) (listing-cut text bytes a)).1
refused-never text bytes (Line n) (inl r) (inr b) = two-kinds text r.lines b.lines b.rest r.wrong [] (wrong-cut text n r) (lane-listing-cut text bytes b)
refused-never text bytes (Line n) (inr r) (inl a) = two-kinds text a.lines r.lines r.rest [] r.wrong (listing-cut text bytes a) (lane-wrong-cut text n r)
refused-never text bytes (Line n) (inr r) (inr b) = some-left r.wrong r.some (lane-once text r.lines b.lines r.rest b.rest r.wrong [] (lane-wrong-cut text n r) (lane-listing-cut text bytes b)).2
refused-never text bytes Length r (inl a) = two-kinds text a.lines r.lines r.rest [] [] (listing-cut text bytes a) (not-whole-cut text r)
refused-never text bytes Length r (inr b) =
    let (lines, rest, left) = lane-once text r.lines b.lines r.rest b.rest [] [] (not-whole-cut text r) (lane-listing-cut text bytes b) in
    let one = ap length lines in
    let other = ap length rest in
    let size : 8 * length bytes ≡ 67 * length r.lines + length r.rest = omega (arith, lane-bits text bytes b, one, other) in
    r.bits (not-eight (length bytes) (length r.lines) (length r.rest) size)

-- ---- one cause

pub one-cause : (text : List ℕ) (why other : TextError) → IsRefusedFor text why → IsRefusedFor text other → why ≡ other
one-cause text Head Head r s = refl
one-cause text Head (Line n) h (inl s) = absurd (no-head-words text s.lines s.wrong h (wrong-cut text n s))
one-cause text Head (Line n) h (inr s) = absurd (no-head-lane text s.lines s.rest s.wrong h (lane-wrong-cut text n s))
one-cause text Head Length h s = absurd (no-head-lane text s.lines s.rest [] h (not-whole-cut text s))
one-cause text (Line n) Head (inl s) h = absurd (no-head-words text s.lines s.wrong h (wrong-cut text n s))
one-cause text (Line n) Head (inr s) h = absurd (no-head-lane text s.lines s.rest s.wrong h (lane-wrong-cut text n s))
one-cause text (Line n) (Line m) (inl r) (inl s) =
    let (lines, left) = words-once text r.lines s.lines r.wrong s.wrong (wrong-cut text n r) (wrong-cut text m s) in
    ap Line (r.count ∙ ap (λ (l : List (List ℕ)). length l + 2) lines ∙ sym s.count)
one-cause text (Line n) (Line m) (inl r) (inr s) = absurd (two-kinds text r.lines s.lines s.rest r.wrong s.wrong (wrong-cut text n r) (lane-wrong-cut text m s))
one-cause text (Line n) (Line m) (inr r) (inl s) = absurd (two-kinds text s.lines r.lines r.rest s.wrong r.wrong (wrong-cut text m s) (lane-wrong-cut text n r))
one-cause text (Line n) (Line m) (inr r) (inr s) =
    let (lines, rest, left) = lane-once text r.lines s.lines r.rest s.rest r.wrong s.wrong (lane-wrong-cut text n r) (lane-wrong-cut text m s) in
    ap Line (r.count ∙ ap (λ (l : List (List ℕ)). length (l ++ rest_lines r.rest) + 2) lines ∙ ap (λ (b : List Bool). length (s.lines ++ rest_lines b) + 2) rest ∙ sym s.count)
one-cause text (Line n) Length (inl r) s = absurd (two-kinds text r.lines s.lines s.rest r.wrong [] (wrong-cut text n r) (not-whole-cut text s))
one-cause text (Line n) Length (inr r) s = absurd (some-left r.wrong r.some (lane-once text r.lines s.lines r.rest s.rest r.wrong [] (lane-wrong-cut text n r) (not-whole-cut text s)).2)
one-cause text Length Head s h = absurd (no-head-lane text s.lines s.rest [] h (not-whole-cut text s))
one-cause text Length (Line n) s (inl r) = absurd (two-kinds text r.lines s.lines s.rest r.wrong [] (wrong-cut text n r) (not-whole-cut text s))
one-cause text Length (Line n) s (inr r) = absurd (some-left r.wrong r.some (lane-once text r.lines s.lines r.rest s.rest r.wrong [] (lane-wrong-cut text n r) (not-whole-cut text s)).2)
one-cause text Length Length r s = refl
