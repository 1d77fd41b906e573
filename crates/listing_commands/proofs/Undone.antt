-- `list` and `assemble` undo each other.
use Rattle.std.proofs.Common.{inl, inr, ◌≡◌, ◌+◌, ◌≤◌, ℕ, Bool, true, false, nat_lt, List, [], ◌∷◌, ◌++◌, length, refl, sym, ap, subst, arith, Option, Some, Ok, Err, MatchResult, if◌then◌else◌}
use Rattle.std.proofs.lemmas.Bool.Decides.{nat_tests}
use Rattle.lk_outside.specs.Files.{file}
use Rattle.word_text.specs.CodeLines.{rest_lines}
use Rattle.word_text.specs.Listings.{IsWordsListing, IsLaneListing, IsListing}
use Rattle.word_text.proofs.Causes.{one-bytes, words-kind, lane-kind}
use Rattle.word_text.proofs.Lengths.{words-length, lane-length}
use Rattle.run_stops.specs.declared.input_error.InputError.{InputError}
use Rattle.run_stops.specs.declared.input_error.InputError.TheVariants.{TooLarge}
use Rattle.run_shell.specs.Outcome.{Output, Outcome}
use Rattle.run_stops.specs.Reading.{of_input, bytes_by}
use Rattle.run_shell.specs.Work.{refused_outcome}
use Rattle.listing_commands.specs.Conversion.{Conversion, made_outcome, Converts}
use Rattle.listing_commands.specs.Listing.{is_words_name, IsTextOf, listing_of}
use Rattle.listing_commands.specs.Assembling.{assembling_of}
use Rattle.listing_commands.specs.Undoing.{IsOfKind, AssembleUndoesList, ListUndoesAssemble, OneFileOfText}

abbrev first-content : List Output → List ℕ
first-content [] = []
first-content (o ∷ os) = o.content

-- ---- a conversion and the file that is there

module _ (c : Conversion) where
  abbrev OutcomeAt : Option (List ℕ) → Outcome → Type 0
  OutcomeAt found o = MatchResult (bytes_by c.name c.limit found) (λ bytes. Converts c bytes o) (λ r. o ≡ refused_outcome r)

  -- what was made of these bytes
  record Was (bytes content : List ℕ) : Type 0 where
    number : ℕ
    within : length bytes ≤ c.limit
    made : c.Makes bytes content number

  never-refused : (content : List ℕ) (count : ℕ) (why : InputError) → made_outcome c.created c.counted content count ≡ refused_outcome (of_input c.name why) → ⊥
  never-refused content count why e = let status = ap (λ (o : Outcome). o.status) e in absurd cc

  converted : (bytes content : List ℕ) (count : ℕ) → length bytes ≤ c.limit → Converts c bytes (made_outcome c.created c.counted content count) → Was bytes content
  converted bytes content count h (inl (other, number, made, e)) =
      let same : content ≡ other = ap (λ (o : Outcome). first-content o.files) e in
      record { number = number; within = h; made = subst (λ (x : List ℕ). c.Makes bytes x number) (sym same) made }
  converted bytes content count h (inr (why, r, e)) = absurd (never-refused content count why e)

  was-made : (found : Option (List ℕ)) (bytes content : List ℕ) (count : ℕ) → found ≡ Some bytes → OutcomeAt found (made_outcome c.created c.counted content count) → Was bytes content
  was-made found bytes content count is h = by-limit (nat_lt c.limit (length bytes)) refl (subst (λ f. OutcomeAt f (made_outcome c.created c.counted content count)) is h)
    where
      by-limit : (t : Bool) → nat_lt c.limit (length bytes) ≡ t → MatchResult (if t then Err (of_input c.name TooLarge) else Ok bytes) (λ b. Converts c b (made_outcome c.created c.counted content count)) (λ r. made_outcome c.created c.counted content count ≡ refused_outcome r) → Was bytes content
      by-limit true e k = absurd (never-refused content count TooLarge k)
      by-limit false e k = let within : length bytes ≤ c.limit = grind (arith, nat_tests) in converted bytes content count within k

  pub is-made : (found : Option (List ℕ)) (bytes content : List ℕ) (count : ℕ) → found ≡ Some bytes → length bytes ≤ c.limit → c.Makes bytes content count → OutcomeAt found (made_outcome c.created c.counted content count)
  is-made found bytes content count is h made =
      subst (λ f. OutcomeAt f (made_outcome c.created c.counted content count)) (sym is) (by-limit (nat_lt c.limit (length bytes)) refl)
    where
      by-limit : (t : Bool) → nat_lt c.limit (length bytes) ≡ t → MatchResult (if t then Err (of_input c.name TooLarge) else Ok bytes) (λ b. Converts c b (made_outcome c.created c.counted content count)) (λ r. made_outcome c.created c.counted content count ≡ refused_outcome r)
      by-limit true e = absurd (grind (arith, nat_tests))
      by-limit false e = inl (content, count, made, refl)

  -- bytes that are refused come to their refusal
  pub is-refused : (found : Option (List ℕ)) (bytes : List ℕ) (why : InputError) → found ≡ Some bytes → length bytes ≤ c.limit → c.Refuses bytes why → OutcomeAt found (refused_outcome (of_input c.name why))
  is-refused found bytes why is h refuses =
      subst (λ f. OutcomeAt f (refused_outcome (of_input c.name why))) (sym is) (by-limit (nat_lt c.limit (length bytes)) refl)
    where
      by-limit : (t : Bool) → nat_lt c.limit (length bytes) ≡ t → MatchResult (if t then Err (of_input c.name TooLarge) else Ok bytes) (λ b. Converts c b (refused_outcome (of_input c.name why))) (λ r. refused_outcome (of_input c.name why) ≡ refused_outcome r)
      by-limit true e = absurd (grind (arith, nat_tests))
      by-limit false e = inr (why, refuses, refl)

-- ---- the laws

short-text : (t : Bool) (bytes text : List ℕ) (count : ℕ) → length bytes ≤ 16777216 → IsTextOf t bytes text count → length text ≤ 268435456
short-text true bytes text count h (a, e) = let size = words-length text bytes a in omega (arith, size, h)
short-text false bytes text count h (a, e) = let size = lane-length text bytes a in omega (arith, size, h)

is-listing : (t : Bool) (bytes text : List ℕ) (count : ℕ) → IsTextOf t bytes text count → IsListing text bytes
is-listing true bytes text count (a, e) = inl a
is-listing false bytes text count (a, e) = inr a

pub assemble-undoes-list : AssembleUndoesList
assemble-undoes-list files later name other bytes text lines is listed at =
    let was = was-made (listing_of name) (file files name) bytes text lines is listed in
    is-made (assembling_of other) (file later other) text bytes (length bytes) at (short-text (is_words_name name) bytes text was.number was.within was.made) (is-listing (is_words_name name) bytes text was.number was.made, refl)

-- a listing of its kind, with the count of its lines
by-kind : (name text bytes : List ℕ) → IsOfKind name text → IsListing text bytes → (count : ℕ) × IsTextOf (is_words_name name) bytes text count
by-kind name text bytes (inl (words, more, e)) h =
    let a = subst (λ (t : List ℕ). IsWordsListing t bytes) (sym e) (words-kind more bytes (subst (λ (t : List ℕ). IsListing t bytes) e h)) in
    (length a.lines + 1, subst (λ (t : Bool). IsTextOf t bytes text (length a.lines + 1)) (sym words) (a, refl))
by-kind name text bytes (inr (lane, more, e)) h =
    let a = subst (λ (t : List ℕ). IsLaneListing t bytes) (sym e) (lane-kind more bytes (subst (λ (t : List ℕ). IsListing t bytes) e h)) in
    (length (a.lines ++ rest_lines a.rest) + 1, subst (λ (t : Bool). IsTextOf t bytes text (length (a.lines ++ rest_lines a.rest) + 1)) (sym lane) (a, refl))

pub list-undoes-assemble : ListUndoesAssemble
list-undoes-assemble files later name other text bytes count is assembled at within kind =
    let was = was-made (assembling_of name) (file files name) text bytes count is assembled in
    let (lines, listed) = by-kind other text bytes kind was.made.0 in
    (lines, is-made (listing_of other) (file later other) bytes text lines at within listed)

pub one-file-of-text : OneFileOfText
one-file-of-text files later name other text bytes more count number is at one two =
    let a = was-made (assembling_of name) (file files name) text bytes count is one in
    let b = was-made (assembling_of other) (file later other) text more number at two in
    one-bytes text bytes more a.made.0 b.made.0
