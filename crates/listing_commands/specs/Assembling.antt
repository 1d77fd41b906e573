-- What `assemble FILE` means: a text becomes the file of which it is the listing.
use Rattle.std.specs.Prelude.{◌≡◌, ℕ, List, ◌++◌, length}
use lib.Chars.{codes}
use Rattle.word_text.specs.Listings.{IsListing}
use Rattle.word_text.specs.Refusals.{IsRefusedFor}
use Rattle.words_files.specs.declared.text_error.TextError.{TextError}
use Rattle.run_stops.specs.declared.input_error.InputError.{InputError}
use Rattle.run_stops.specs.declared.input_error.InputError.TheVariants.{Text}
use Rattle.run_shell.specs.Meaning.{Meaning}
use Rattle.listing_commands.specs.Limits.{text_limit}
use Rattle.listing_commands.specs.Conversion.{Conversion, conversion_meaning}

abbrev pub assembled_name : List ℕ → List ℕ
assembled_name name = name ++ codes ".bin"

-- the bytes of which the text is the listing, and their count
abbrev pub IsFileOfText : List ℕ → List ℕ → ℕ → Type 0
IsFileOfText text bytes count = IsListing text bytes × (count ≡ length bytes)

-- a text that is no listing is refused for its one cause
abbrev pub RefusesText : List ℕ → InputError → Type 0
RefusesText text why = (refusal : TextError) × IsRefusedFor text refusal × (why ≡ Text refusal)

abbrev pub assembling_of : List ℕ → Conversion
assembling_of name = record {
  name = name;
  limit = text_limit;
  created = assembled_name name;
  counted = codes "bytes";
  Makes = IsFileOfText;
  Refuses = RefusesText;
}

abbrev pub assemble_meaning : List ℕ → Meaning
assemble_meaning name = conversion_meaning (assembling_of name)
