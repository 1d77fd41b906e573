-- `list` and `assemble` are conversions: what they make is determined, and any bytes are accepted or refused.
use Rattle.std.proofs.Common.{◌⊎◌, inl, inr, ◌≡◌, ◌+◌, ◌<◌, ◌^◌, ℕ, All, Bool, true, false, List, [], ◌++◌, length, refl, sym, ap, ◌∙◌, Result, Ok, Err}
use Rattle.lk_base.specs.declared.word.RxWord.{RxWord}
use Rattle.words_files.specs.WordsOfFile.{words_of_file}
use Rattle.words_files.specs.declared.error.WordsError.{WordsError}
use Rattle.words_files.specs.declared.text_error.TextError.{TextError}
use Rattle.word_text.specs.CodeLines.{rest_lines}
use Rattle.word_text.specs.Listings.{IsListing}
use Rattle.word_text.specs.Refusals.{IsRefusedFor}
use Rattle.word_text.proofs.Trips.{accepted}
use Rattle.word_text.proofs.Unique.{words-once, listing-cut, one-text}
use Rattle.word_text.proofs.UniqueLanes.{lane-once, lane-listing-cut, lane-one-text}
use Rattle.word_text.proofs.Causes.{one-bytes, refused-never, one-cause}
use Rattle.word_text.proofs.HasListing.{words-listing, lane-has-listing, never-both}
use Rattle.word_text.proofs.Verdict.{verdict}
use Rattle.run_stops.specs.declared.input_error.InputError.{InputError}
use Rattle.run_stops.specs.declared.input_error.InputError.TheVariants.{Words, Text}
use Rattle.run_shell.specs.Meaning.{IsMeaning}
use Rattle.listing_commands.specs.Conversion.{IsConversion}
use Rattle.listing_commands.specs.Listing.{is_words_name, IsTextOfWords, IsTextOfLane, RefusesWords, IsTextOf, RefusesListed, listing_of, list_meaning}
use Rattle.listing_commands.specs.Assembling.{IsFileOfText, RefusesText, assembling_of, assemble_meaning}
use Rattle.listing_commands.proofs.Converting.{conversion_means}

-- ---- `list`

one-words : (bytes text other : List ℕ) (count number : ℕ) → IsTextOfWords bytes text count → IsTextOfWords bytes other number → (text ≡ other) × (count ≡ number)
one-words bytes text other count number (a, e) (b, f) =
    let same = one-text text other bytes a b in
    let cut = listing-cut other bytes b in
    let (lines, left) = words-once text a.lines b.lines [] [] (listing-cut text bytes a) (record { each = cut.each; stuck = cut.stuck; whole = same ∙ cut.whole }) in
    (same, e ∙ ap (λ (l : List (List ℕ)). length l + 1) lines ∙ sym f)

one-lane : (bytes text other : List ℕ) (count number : ℕ) → IsTextOfLane bytes text count → IsTextOfLane bytes other number → (text ≡ other) × (count ≡ number)
one-lane bytes text other count number (a, e) (b, f) =
    let same = lane-one-text text other bytes a b in
    let cut = lane-listing-cut other bytes b in
    let (lines, rest, left) = lane-once text a.lines b.lines a.rest b.rest [] [] (lane-listing-cut text bytes a) (record { each = cut.each; short = cut.short; stuck = cut.stuck; whole = same ∙ cut.whole }) in
    (same, e ∙ ap (λ (l : List (List ℕ)). length (l ++ rest_lines a.rest) + 1) lines ∙ ap (λ (r : List Bool). length (b.lines ++ rest_lines r) + 1) rest ∙ sym f)

one-listing : (t : Bool) (bytes text other : List ℕ) (count number : ℕ) → IsTextOf t bytes text count → IsTextOf t bytes other number → (text ≡ other) × (count ≡ number)
one-listing true bytes text other count number h k = one-words bytes text other count number h k
one-listing false bytes text other count number h k = one-lane bytes text other count number h k

one-error : (bytes : List ℕ) (x y : WordsError) → words_of_file bytes ≡ Err x → words_of_file bytes ≡ Err y → x ≡ y
one-error bytes x y e f = cc

one-refused : (t : Bool) (bytes : List ℕ) (why other : InputError) → RefusesListed t bytes why → RefusesListed t bytes other → why ≡ other
one-refused true bytes why other (x, e, f) (y, g, h) = f ∙ ap Words (one-error bytes x y e g) ∙ sym h
one-refused false bytes why other h k = absurd h

listed-or-refused : (t : Bool) (bytes text : List ℕ) (count : ℕ) (why : InputError) → IsTextOf t bytes text count → RefusesListed t bytes why → ⊥
listed-or-refused true bytes text count why (a, e) (x, f, g) = let (words, ok) = accepted text bytes a in never-both bytes words x ok f
listed-or-refused false bytes text count why h k = k

some-words : (bytes : List ℕ) → All (λ b. b < 2 ^ 8) bytes → (r : Result (List RxWord) WordsError) → words_of_file bytes ≡ r → ((text : List ℕ) × (count : ℕ) × IsTextOfWords bytes text count) ⊎ ((why : InputError) × RefusesWords bytes why)
some-words bytes o (Ok words) e = let (text, a) = words-listing bytes words o e in inl (text, length a.lines + 1, (a, refl))
some-words bytes o (Err x) e = inr (Words x, (x, e, refl))

some-listing : (t : Bool) (bytes : List ℕ) → All (λ b. b < 2 ^ 8) bytes → ((text : List ℕ) × (count : ℕ) × IsTextOf t bytes text count) ⊎ ((why : InputError) × RefusesListed t bytes why)
some-listing true bytes o = some-words bytes o (words_of_file bytes) refl
some-listing false bytes o = let (text, a) = lane-has-listing bytes o in inl (text, length (a.lines ++ rest_lines a.rest) + 1, (a, refl))

pub lists : (name : List ℕ) → IsConversion (listing_of name)
lists name = record {
  one_made = λ bytes text other count number h k. one-listing (is_words_name name) bytes text other count number h k;
  one_refusal = λ bytes why other h k. one-refused (is_words_name name) bytes why other h k;
  not_both = λ bytes (text, count, h) (why, k). listed-or-refused (is_words_name name) bytes text count why h k;
  either = λ bytes o. some-listing (is_words_name name) bytes o;
}

pub list_means : (name : List ℕ) → IsMeaning (list_meaning name)
list_means name = conversion_means (listing_of name) (lists name)

-- ---- `assemble`

one-file : (text bytes other : List ℕ) (count number : ℕ) → IsFileOfText text bytes count → IsFileOfText text other number → (bytes ≡ other) × (count ≡ number)
one-file text bytes other count number (a, e) (b, f) =
    let same = one-bytes text bytes other a b in
    (same, e ∙ ap (λ (l : List ℕ). length l) same ∙ sym f)

one-reason : (text : List ℕ) (why other : InputError) → RefusesText text why → RefusesText text other → why ≡ other
one-reason text why other (x, r, e) (y, s, f) = e ∙ ap Text (one-cause text x y r s) ∙ sym f

some-file : (text : List ℕ) → ((bytes : List ℕ) × IsListing text bytes) ⊎ ((why : TextError) × IsRefusedFor text why) → ((bytes : List ℕ) × (count : ℕ) × IsFileOfText text bytes count) ⊎ ((why : InputError) × RefusesText text why)
some-file text (inl (bytes, a)) = inl (bytes, length bytes, (a, refl))
some-file text (inr (why, r)) = inr (Text why, (why, r, refl))

pub assembles : (name : List ℕ) → IsConversion (assembling_of name)
assembles name = record {
  one_made = λ text bytes other count number h k. one-file text bytes other count number h k;
  one_refusal = λ text why other h k. one-reason text why other h k;
  not_both = λ text (bytes, count, (a, e)) (why, (x, r, f)). refused-never text bytes x r a;
  either = λ text o. some-file text (verdict text);
}

pub assemble_means : (name : List ℕ) → IsMeaning (assemble_meaning name)
assemble_means name = conversion_means (assembling_of name) (assembles name)
