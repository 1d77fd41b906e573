-- The faults of a list of words, as they are told while the words come: each with the word that shows it.
use Rattle.std.specs.Prelude.{List, [], ◌∷◌, ◌++◌, None}
use Rattle.lk_base.specs.declared.word.RxWord.{RxWord}
use Rattle.word_rules.specs.declared.fault.Fault.{Fault}
use Rattle.word_rules.specs.Faults.{Plan, empty_rows, faults_at}

-- The rows that a word shows: first the row of `empty` of the word before it, then its own rows in the order of the rules. A row of
-- its own that needs the word after it is not among them.
abbrev pub shown_at : Plan → List RxWord → RxWord → List Fault
shown_at p earlier word = empty_rows p.limits earlier word ++ faults_at p earlier word None

-- the rows that these words show, which come after the words `earlier`
abbrev pub live_from : Plan → List RxWord → List RxWord → List Fault
live_from p earlier [] = []
live_from p earlier (word ∷ words) = shown_at p earlier word ++ live_from p (word ∷ earlier) words

-- the rows that a list of words shows, word by word
abbrev pub live_faults : Plan → List RxWord → List Fault
live_faults p words = live_from p [] words
