-- What a stretch that is taken word by word says of its words.
use Rattle.std.specs.Prelude.{ℕ, ◌≡◌, Bool, List, Some}
use Rattle.receive_model.specs.Stretches.{fault_from}
use Rattle.reassembly.specs.declared.stretch.Stretch.{Stretch}
use Rattle.reassembly.specs.declared.word_at.WordAt.{WordAt}
use Rattle.reassembly.specs.Steps.{begun_by, fault_by}
use Rattle.reassembly.specs.Folds.{with_all_data}

-- the stretch that this word opened, after these data words
abbrev pub stretch_after : WordAt → List ℕ → Stretch
stretch_after opened words = with_all_data words (begun_by (Some opened))

-- its fault is that of the definition, for its words and any word that ends it, and whether a Bad word came among them or not
abbrev pub StretchesAreJudged : Type 0
StretchesAreJudged = (opened : WordAt) (words : List ℕ) (bad : Bool) (last : ℕ) →
    fault_by bad opened.number (stretch_after opened words).register (stretch_after opened words).some last ≡ fault_from bad opened.number words last
