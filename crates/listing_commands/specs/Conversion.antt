-- A command that makes one file of another: it reads a file whole, and creates one file of its bytes or refuses them. What is
-- made and what is refused are relations.
use Rattle.std.specs.Prelude.{◌≡◌, ◌<◌, ◌^◌, ◌⊎◌, ℕ, All, List, [], ◌∷◌, MatchResult, Result, Ok, Err}
use Rattle.run_stops.specs.declared.input_error.InputError.{InputError}
use Rattle.link_reports.specs.Lines.{count_line}
use Rattle.run_shell.specs.declared.status.Status.TheVariants.{Done}
use Rattle.run_stops.specs.declared.stop.Stop.{Stop}
use Rattle.run_stops.specs.declared.stop.Stop.TheVariants as stop
use Rattle.run_shell.specs.Outcome.{Outcome}
use Rattle.run_shell.specs.Meaning.{Meaning}
use Rattle.run_stops.specs.Reading.{of_input, bytes_in, IsOfInput}
use Rattle.run_shell.specs.Work.{refused_outcome, IsOfInputs}
use Rattle.listing_commands.specs.declared.conversion.MadeFile.{MadeFile}

pub record Conversion : Type 1 where
  -- the file that is read, and the most bytes that it may have
  pub name : List ℕ
  pub limit : ℕ
  -- the file that is created
  pub created : List ℕ
  -- what is counted of it
  pub counted : List ℕ
  -- of these bytes this content is made, with this many of what is counted
  pub Makes : List ℕ → List ℕ → ℕ → Type 0
  -- these bytes are refused so
  pub Refuses : List ℕ → InputError → Type 0

-- one file with this content, and the line of the count
abbrev pub made_outcome : List ℕ → List ℕ → List ℕ → ℕ → Outcome
made_outcome created counted content count = record { status = Done; files = record { name = created; content = content } ∷ []; text = count_line counted count }

abbrev pub IsAccepted : Conversion → List ℕ → Type 0
IsAccepted c bytes = (content : List ℕ) × (count : ℕ) × c.Makes bytes content count

abbrev pub IsRefused : Conversion → List ℕ → Type 0
IsRefused c bytes = (why : InputError) × c.Refuses bytes why

-- what bytes come to: what is made of them is created, or they are refused
abbrev pub Converts : Conversion → List ℕ → Outcome → Type 0
Converts c bytes o =
    ((content : List ℕ) × (count : ℕ) × c.Makes bytes content count × (o ≡ made_outcome c.created c.counted content count))
    ⊎ ((why : InputError) × c.Refuses bytes why × (o ≡ refused_outcome (of_input c.name why)))

-- the file is created where the bytes are accepted
abbrev pub CreatesBy : Conversion → List ℕ → List ℕ → Type 0
CreatesBy c q bytes = IsAccepted c bytes × (q ≡ c.created)

-- what it means: a file that is absent or too large is refused too. There is no plan, and no stream is held
abbrev pub conversion_meaning : Conversion → Meaning
conversion_meaning c = record {
  IsOutcome = λ files o. MatchResult (bytes_in files c.name c.limit) (λ bytes. Converts c bytes o) (λ r. o ≡ refused_outcome r);
  Creates = λ files q. MatchResult (bytes_in files c.name c.limit) (CreatesBy c q) (λ r. ⊥);
  Names = λ files q. (q ≡ c.name) ⊎ MatchResult (bytes_in files c.name c.limit) (CreatesBy c q) (λ r. ⊥);
  IsReadLate = λ files q. ⊥;
  IsPlanRefused = λ files. ⊥;
  IsInputRefused = λ files. MatchResult (bytes_in files c.name c.limit) (IsRefused c) IsOfInputs;
  IsHeld = λ files. ⊥;
}

-- what a conversion has to bring: what is made and why it is refused are determined, no bytes are accepted and refused, and any
-- bytes are one or the other
pub record IsConversion (c : Conversion) : Type 0 where
  pub one_made : (bytes content other : List ℕ) (count number : ℕ) → c.Makes bytes content count → c.Makes bytes other number → (content ≡ other) × (count ≡ number)
  pub one_refusal : (bytes : List ℕ) (why other : InputError) → c.Refuses bytes why → c.Refuses bytes other → why ≡ other
  pub not_both : (bytes : List ℕ) → IsAccepted c bytes → IsRefused c bytes → ⊥
  pub either : (bytes : List ℕ) → All (λ byte. byte < 2 ^ 8) bytes → IsAccepted c bytes ⊎ IsRefused c bytes

-- what was made of the bytes of a file of this name, or they are refused, or memory ran out
abbrev pub Gives : List ℕ → (List ℕ → ℕ → Type 0) → (InputError → Type 0) → Result MadeFile Stop → Type 0
Gives name Makes Refuses (Ok made) = Makes made.content.items made.count
Gives name Makes Refuses (Err s) = ((why : InputError) × Refuses why × IsOfInput name why s) ⊎ (s ≡ stop.OutOfMemory)
