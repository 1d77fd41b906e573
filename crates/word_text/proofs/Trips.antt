-- Listing and assembling undo each other.
use Rattle.std.proofs.Common.{inl, inr, ◌≡◌, ℕ, ◌+◌, Result, Ok, Err, List, [], ◌∷◌, ◌++◌, drop, take, length, refl, sym, ap, ◌∙◌, arith, subst}
use Rattle.std.specs.List.{flat_map}
use Rattle.lk_base.specs.declared.word.RxWord.{RxWord}
use Rattle.words_files.specs.WordsOfFile.{words_of_file}
use Rattle.words_files.specs.declared.error.WordsError.{WordsError}
use Rattle.words_files.specs.declared.text_error.TextError.{TextError}
use Rattle.words_files.specs.declared.file_word.FileWord.{FileWord}
use Rattle.word_text.specs.Lines.{ended}
use Rattle.words_files.specs.FileWord.{nine_bytes}
use Rattle.word_text.specs.Listings.{words_head, lane_head, IsWordsListing, IsLaneListing, IsListing}
use Rattle.word_text.specs.Answers.{ListsWords, AnswersWords, ListsLane, Assembles}
use Rattle.word_text.proofs.Growing.{ReadSoFar, read-none, read-more, read-all}
use Rattle.word_text.proofs.Unique.{one-text}
use Rattle.word_text.proofs.UniqueLanes.{lane-one-text}
use Rattle.word_text.proofs.Causes.{one-bytes, refused-never, words-kind, lane-kind}

assembled-by : (text bytes old new : List ℕ) (answer : Result (Unit {0}) TextError) → IsListing text bytes → Assembles text old new answer → (answer ≡ Ok tt) × (new ≡ old ++ bytes)
assembled-by text bytes old new (Ok done) h (other, k, e) = (refl, e ∙ ap (λ (l : List ℕ). old ++ l) (one-bytes text other bytes k h))
assembled-by text bytes old new (Err why) h (r, e) = absurd (refused-never text bytes why r h)

pub words-back : (bytes text old new : List ℕ) (count : ℕ) (answer : Result (Unit {0}) TextError) → ListsWords bytes [] text count → Assembles text old new answer → (answer ≡ Ok tt) × (new ≡ old ++ bytes)
words-back bytes text old new count answer l = assembled-by text bytes old new answer (inl (subst (λ (t : List ℕ). IsWordsListing t bytes) (sym l.put) l.listing))

pub lane-back : (bytes text old new : List ℕ) (count : ℕ) (answer : Result (Unit {0}) TextError) → ListsLane bytes [] text count → Assembles text old new answer → (answer ≡ Ok tt) × (new ≡ old ++ bytes)
lane-back bytes text old new count answer l = assembled-by text bytes old new answer (inr (subst (λ (t : List ℕ). IsLaneListing t bytes) (sym l.put) l.listing))

-- a file of words is accepted
accepted-by : (ws : List FileWord) (bytes rest : List ℕ) (offset : ℕ) → rest ≡ flat_map nine_bytes ws → ReadSoFar bytes rest offset → (words : List RxWord) × (words_of_file bytes ≡ Ok words)
accepted-by [] bytes rest offset e r = read-all bytes rest offset (ap length e) r
accepted-by (w ∷ ws) bytes rest offset e r =
    let size = ap length e in
    accepted-by ws bytes (drop 9 rest) (offset + 9) (ap (drop 9) e) (read-more bytes rest offset w (omega (arith, size)) (ap (take 9) e) r)

pub accepted : (text bytes : List ℕ) → IsWordsListing text bytes → (words : List RxWord) × (words_of_file bytes ≡ Ok words)
accepted text bytes a = accepted-by a.words bytes bytes 0 a.file (read-none bytes)

listed-by : (text bytes old new : List ℕ) (answer : Result ℕ WordsError) → IsWordsListing text bytes → AnswersWords bytes old new answer → (count : ℕ) × (answer ≡ Ok count) × (new ≡ old ++ text)
listed-by text bytes old new (Ok count) a l = (count, refl, l.put ∙ ap (λ (t : List ℕ). old ++ t) (one-text l.text text bytes l.listing a))
listed-by text bytes old new (Err why) a (r, e) = let (words, ok) = accepted text bytes a in absurd cc

pub words-again : (lines bytes old new : List ℕ) (answer : Result ℕ WordsError) → Assembles (ended words_head ++ lines) [] bytes (Ok tt) → AnswersWords bytes old new answer → (count : ℕ) × (answer ≡ Ok count) × (new ≡ old ++ (ended words_head ++ lines))
words-again lines bytes old new answer (other, k, e) =
    listed-by (ended words_head ++ lines) bytes old new answer (subst (IsWordsListing (ended words_head ++ lines)) (sym e) (words-kind lines other k))

pub lane-again : (lines bytes old new : List ℕ) (count : ℕ) → Assembles (ended lane_head ++ lines) [] bytes (Ok tt) → ListsLane bytes old new count → new ≡ old ++ (ended lane_head ++ lines)
lane-again lines bytes old new count (other, k, e) l =
    l.put ∙ ap (λ (t : List ℕ). old ++ t) (lane-one-text l.text (ended lane_head ++ lines) bytes l.listing (subst (IsLaneListing (ended lane_head ++ lines)) (sym e) (lane-kind lines other k)))
