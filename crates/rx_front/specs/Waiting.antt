-- Words that the deskew gave and that are still to be taken.
use Rattle.std.specs.Prelude.{List, [], ◌∷◌}
use Rattle.lk_base.specs.declared.word.Aligned.{Aligned}
use Rattle.lk_base.specs.declared.word.Aligned.TheVariants.{Group, Word, Break}
use Rattle.lk_base.specs.declared.word.RxWord.{RxWord}

-- the words among these items
abbrev pub words_in : List Aligned → List RxWord
words_in [] = []
words_in (Group at ∷ items) = words_in items
words_in (Word at w ∷ items) = w ∷ words_in items
words_in (Break at why ∷ items) = words_in items
