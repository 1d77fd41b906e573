-- What stands of words of which some first ones came.
use Rattle.std.proofs.Common.{ℕ, ◌≡◌, ◌<◌, ◌≤◌, List, [], ◌∷◌, ◌++◌, length, take, drop, sym, ap, ◌∙◌, arith, length-drop}
use Rattle.std.proofs.lemmas.List.{take-append-drop}
use Rattle.std.proofs.lemmas.List.Concat.{flat_map-append}
use Rattle.lk_base.specs.declared.word.Word.{Word}
use Rattle.lk_base.specs.CutShort.{IsCutShort}
use Rattle.words_files.specs.WordsFile.{word_bytes, words_file}

some_bytes : (words : List Word) → 0 < length words → 1 ≤ length (words_file words)
some_bytes [] some = absurd (omega arith)
some_bytes (word ∷ words) some = omega arith

-- the words before the one that finds no room came whole
pub words_came : (words : List Word) (i : ℕ) (start old new : List ℕ) → i < length words → old ≡ start ++ words_file (take i words) → new ≡ old → IsCutShort start (words_file words) new
words_came words i start old new lt before same = record {
  first = words_file (take i words);
  rest = words_file (drop i words);
  parts = ap words_file (sym (take-append-drop i words)) ∙ flat_map-append word_bytes (take i words) (drop i words);
  not_all = (let left = length-drop i words in some_bytes (drop i words) (omega (arith, left, lt)));
  now = same ∙ before;
}
