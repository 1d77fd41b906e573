-- What `list FILE` means: the file becomes its listing.
use Rattle.std.specs.Prelude.{◌≡◌, ◌+◌, ℕ, Bool, true, false, nat_eq, List, ◌++◌, length, Err}
use Rattle.std.specs.List.{ends_with}
use lib.Chars.{codes}
use Rattle.words_files.specs.WordsOfFile.{words_of_file}
use Rattle.words_files.specs.declared.error.WordsError.{WordsError}
use Rattle.word_text.specs.CodeLines.{rest_lines}
use Rattle.word_text.specs.Listings.{IsWordsListing, IsLaneListing}
use Rattle.run_stops.specs.declared.input_error.InputError.{InputError}
use Rattle.run_stops.specs.declared.input_error.InputError.TheVariants.{Words}
use Rattle.run_shell.specs.Meaning.{Meaning}
use Rattle.listing_commands.specs.Limits.{listed_limit}
use Rattle.listing_commands.specs.Conversion.{Conversion, conversion_meaning}

-- the name of a words file; any other file is a lane
abbrev pub is_words_name : List ℕ → Bool
is_words_name name = ends_with nat_eq name (codes ".words")

abbrev pub listing_name : List ℕ → List ℕ
listing_name name = name ++ codes ".txt"

-- the listing of a words file, and its count of lines, the first one among them
abbrev pub IsTextOfWords : List ℕ → List ℕ → ℕ → Type 0
IsTextOfWords bytes text count = (listing : IsWordsListing text bytes) × (count ≡ length listing.lines + 1)

-- the listing of a lane, and its count of lines, the first one and that of the last bits among them
abbrev pub IsTextOfLane : List ℕ → List ℕ → ℕ → Type 0
IsTextOfLane bytes text count = (listing : IsLaneListing text bytes) × (count ≡ length (listing.lines ++ rest_lines listing.rest) + 1)

-- a words file is refused as its readers refuse it
abbrev pub RefusesWords : List ℕ → InputError → Type 0
RefusesWords bytes why = (refusal : WordsError) × (words_of_file bytes ≡ Err refusal) × (why ≡ Words refusal)

-- the listing of a words file, or of a lane
abbrev pub IsTextOf : Bool → List ℕ → List ℕ → ℕ → Type 0
IsTextOf true bytes text count = IsTextOfWords bytes text count
IsTextOf false bytes text count = IsTextOfLane bytes text count

-- a lane is never refused for its bytes
abbrev pub RefusesListed : Bool → List ℕ → InputError → Type 0
RefusesListed true bytes why = RefusesWords bytes why
RefusesListed false bytes why = ⊥

abbrev pub listing_of : List ℕ → Conversion
listing_of name = record {
  name = name;
  limit = listed_limit;
  created = listing_name name;
  counted = codes "lines";
  Makes = λ bytes text count. IsTextOf (is_words_name name) bytes text count;
  Refuses = λ bytes why. RefusesListed (is_words_name name) bytes why;
}

abbrev pub list_meaning : List ℕ → Meaning
list_meaning name = conversion_meaning (listing_of name)
