-- `list` and `assemble` undo each other, over any files.
use Rattle.std.specs.Prelude.{◌≡◌, ◌⊎◌, ◌≤◌, ℕ, true, false, List, ◌++◌, length, Some}
use lib.Chars.{codes}
use Rattle.lk_outside.specs.Files.{Files, file}
use Rattle.word_text.specs.Lines.{ended}
use Rattle.word_text.specs.Listings.{words_head, lane_head}
use Rattle.listing_commands.specs.Limits.{listed_limit}
use Rattle.listing_commands.specs.Conversion.{made_outcome}
use Rattle.listing_commands.specs.Listing.{is_words_name, listing_name, list_meaning}
use Rattle.listing_commands.specs.Assembling.{assembled_name, assemble_meaning}

-- what `list` makes of a file
abbrev pub Lists : Files → List ℕ → List ℕ → ℕ → Type 0
Lists files name text count = (list_meaning name).IsOutcome files (made_outcome (listing_name name) (codes "lines") text count)

-- what `assemble` makes of a text
abbrev pub Assembles : Files → List ℕ → List ℕ → ℕ → Type 0
Assembles files name bytes count = (assemble_meaning name).IsOutcome files (made_outcome (assembled_name name) (codes "bytes") bytes count)

-- of the listing that `list` made of a file, `assemble` makes the bytes of that file, under whatever name and among whatever
-- files the listing stands then
abbrev pub AssembleUndoesList : Type 0
AssembleUndoesList = (files later : Files) (name other bytes text : List ℕ) (lines : ℕ) → file files name ≡ Some bytes → Lists files name text lines → file later other ≡ Some text → Assembles later other bytes (length bytes)

-- the name is that of a words file exactly where the text begins as the listing of one
abbrev pub IsOfKind : List ℕ → List ℕ → Type 0
IsOfKind name text =
    ((is_words_name name ≡ true) × (more : List ℕ) × (text ≡ ended words_head ++ more))
    ⊎ ((is_words_name name ≡ false) × (more : List ℕ) × (text ≡ ended lane_head ++ more))

-- of the file that `assemble` made of a text, `list` makes that text, where the file is within its limit and has a name of its
-- kind, among whatever files it stands then
abbrev pub ListUndoesAssemble : Type 0
ListUndoesAssemble = (files later : Files) (name other text bytes : List ℕ) (count : ℕ) → file files name ≡ Some text → Assembles files name bytes count → file later other ≡ Some bytes → length bytes ≤ listed_limit → IsOfKind other text → (lines : ℕ) × Lists later other text lines

-- a text lists no two files of one kind: what `assemble` makes of it is the same, whatever its name and the other files
abbrev pub OneFileOfText : Type 0
OneFileOfText = (files later : Files) (name other text bytes more : List ℕ) (count number : ℕ) → file files name ≡ Some text → file later other ≡ Some text → Assembles files name bytes count → Assembles later other more number → bytes ≡ more
