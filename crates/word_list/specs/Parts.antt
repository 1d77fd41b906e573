-- Words as numbers and kinds.
use Rattle.std.specs.Prelude.{ℕ, Bool, cond, List, [], ◌∷◌}
use Rattle.lk_base.specs.declared.word.Word.{Word}
use Rattle.lk_base.specs.declared.word.Word.TheVariants.{Data, Control}

-- the word of this number, a control word where the mark is true
abbrev pub word_of : ℕ → Bool → Word
word_of x control = cond control (Control x) (Data x)

-- the words of these numbers and of as many marks, in order
abbrev pub words_of : List ℕ → List Bool → List Word
words_of [] marks = []
words_of (x ∷ xs) [] = []
words_of (x ∷ xs) (m ∷ marks) = word_of x m ∷ words_of xs marks
