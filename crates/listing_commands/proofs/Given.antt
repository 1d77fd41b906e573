-- What the calls on listings answer, as the commands say it.
use Rattle.std.proofs.Common.{◌≡◌, ℕ, List, [], ◌++◌, refl, sym, ap, ◌∙◌, subst, Result, Ok, Err}
use Rattle.words_files.specs.WordsOfFile.{words_of_file}
use Rattle.words_files.specs.declared.error.WordsError.{WordsError}
use Rattle.words_files.specs.declared.text_error.TextError.{TextError}
use Rattle.word_text.specs.Refusals.{IsRefusedFor}
use Rattle.word_text.specs.Answers.{ListsWords, AnswersWords, ListsLane, Assembles}
use Rattle.run_stops.specs.declared.input_error.InputError.TheVariants.{Words}
use Rattle.listing_commands.specs.Listing.{IsTextOfWords, IsTextOfLane, RefusesWords}

behind-none : (old new text : List ℕ) → old ≡ [] → new ≡ old ++ text → new ≡ text
behind-none old new text e f = f ∙ ap (λ (o : List ℕ). o ++ text) e

words-listed : (bytes old new : List ℕ) (count : ℕ) → old ≡ [] → ListsWords bytes old new count → IsTextOfWords bytes new count
words-listed bytes old new count e l = subst (λ (t : List ℕ). IsTextOfWords bytes t count) (sym (behind-none old new l.text e l.put)) (l.listing, l.counted)

pub words-text : (bytes old new : List ℕ) (answer : Result ℕ WordsError) (count : ℕ) → old ≡ [] → answer ≡ Ok count → AnswersWords bytes old new answer → IsTextOfWords bytes new count
words-text bytes old new answer count e is h = words-listed bytes old new count e (subst (AnswersWords bytes old new) is h)

pub lane-text : (bytes old new : List ℕ) (count : ℕ) → old ≡ [] → ListsLane bytes old new count → IsTextOfLane bytes new count
lane-text bytes old new count e l = subst (λ (t : List ℕ). IsTextOfLane bytes t count) (sym (behind-none old new l.text e l.put)) (l.listing, l.counted)

pub words-refused : (bytes old new : List ℕ) (answer : Result ℕ WordsError) (refusal : WordsError) → answer ≡ Err refusal → AnswersWords bytes old new answer → RefusesWords bytes (Words refusal)
words-refused bytes old new answer refusal is h = (refusal, (subst (AnswersWords bytes old new) is h).0, refl)

pub text-refused : (text old new : List ℕ) (answer : Result (Unit {0}) TextError) (why : TextError) → answer ≡ Err why → Assembles text old new answer → IsRefusedFor text why
text-refused text old new answer why is h = (subst (Assembles text old new) is h).0
