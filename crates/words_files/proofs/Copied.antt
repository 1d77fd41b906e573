-- The numbers of data words that follow one another.
use Rattle.std.proofs.Common.{◌≡◌, ℕ, zero, suc, ◌+◌, ◌*◌, ◌<◌, ◌≤◌, false, List, [], ◌∷◌, ◌++◌, length, take, drop, map, get_or, slice_get, slice_set, Option, Some, refl, sym, ap, ap₂, ◌∙◌, arith}
use Rattle.std.specs.Option.{unwrap_or}
use Rattle.std.proofs.lemmas.List.{get_or-drop, length-drop, map-append, take_more, take_more_set, take-take}
use Rattle.std.proofs.lemmas.Option.{unwrap_or-slice_get}
use Rattle.lk_base.specs.declared.word.RxWord.{RxWord}
use Rattle.lk_base.specs.declared.word.RxWord.TheVariants as received
use Rattle.words_files.specs.FileWord.{is_data, received_of}
use Rattle.words_files.specs.declared.file_word.FileWord.{FileWord}
use Rattle.words_files.specs.declared.file_word.FileWord.TheVariants as file
use Rattle.words_files.specs.WordsOfFile.{cut_file, file_word_in}
use Rattle.words_files.proofs.ByNumber.{word_at}

-- ---- words of a file

abbrev pub words_in : List ℕ → List FileWord
words_in bytes = map file_word_in (cut_file bytes)

got-within : (words : List FileWord) (n : ℕ) (word : FileWord) → slice_get words n ≡ Some word → n < length words
got-within [] n word e = absurd (cc e)
got-within (w ∷ ws) zero word e = omega arith
got-within (w ∷ ws) (suc n) word e = let h = got-within ws n word e in omega arith

-- the word of this number, as it is read from the bytes of that word
pub word-read : (bytes : List ℕ) (n : ℕ) → 9 * n + 9 ≤ length bytes → slice_get (words_in bytes) n ≡ Some (file_word_in (take 9 (take 9 (drop (9 * n) bytes))))
word-read bytes n h = word_at n bytes h ∙ ap (λ (bs : List ℕ). Some (file_word_in bs)) (sym (take-take 9 9 (drop (9 * n) bytes) (omega arith)))

-- one number more
pub copied-more : (words : List FileWord) (from i x : ℕ) (room : List ℕ) → i < length room → slice_get words (from + i) ≡ Some (file.Data x) → map file.Data (take i room) ≡ take i (drop from words) →
    map file.Data (take (i + 1) (slice_set room i x)) ≡ take (i + 1) (drop from words)
copied-more words from i x room fits is h =
    let there = got-within words (from + i) (file.Data x) is in
    let left : i < length (drop from words) = (let n = length-drop from words in omega arith) in
    let word : get_or (drop from words) i (file.Bad 0) ≡ file.Data x =
    get_or-drop from words i (file.Bad 0) ∙ sym (unwrap_or-slice_get words (from + i) (file.Bad 0)) ∙ ap (λ (o : Option FileWord). unwrap_or o (file.Bad 0)) is in
    ap (map file.Data) (take_more_set room i x fits)
    ∙ map-append file.Data (take i room) (x ∷ [])
    ∙ ap₂ (λ (l : List FileWord) (w : FileWord). l ++ w ∷ []) h (sym word)
    ∙ sym (take_more (drop from words) i (file.Bad 0) left)

-- the word that stops it
pub stopped-at : (words : List FileWord) (n : ℕ) (word : FileWord) → slice_get words n ≡ Some word → is_data word ≡ false → is_data (get_or words n (file.Bad 0)) ≡ false
stopped-at words n word is other =
    ap is_data (sym (unwrap_or-slice_get words n (file.Bad 0)) ∙ ap (λ (o : Option FileWord). unwrap_or o (file.Bad 0)) is) ∙ other

-- what is no data word
pub other-word : (word : FileWord) → ((x : ℕ) → word ≡ file.Data x → ⊥) → is_data word ≡ false
other-word (file.Data x) h = absurd (h x refl)
other-word (file.Control x) h = refl
other-word (file.Bad x) h = refl

-- ---- as received words

received-numbers : (numbers : List ℕ) → map received_of (map file.Data numbers) ≡ map received.Data numbers
received-numbers [] = refl
received-numbers (x ∷ xs) = ap (λ (ws : List RxWord). received.Data x ∷ ws) (received-numbers xs)

map-drop : (n : ℕ) (words : List FileWord) → drop n (map received_of words) ≡ map received_of (drop n words)
map-drop zero words = refl
map-drop (suc n) [] = refl
map-drop (suc n) (w ∷ ws) = map-drop n ws

map-take : (n : ℕ) (words : List FileWord) → take n (map received_of words) ≡ map received_of (take n words)
map-take zero words = refl
map-take (suc n) [] = refl
map-take (suc n) (w ∷ ws) = ap (λ (xs : List RxWord). received_of w ∷ xs) (map-take n ws)

pub received-copied : (words : List FileWord) (from n : ℕ) (numbers : List ℕ) → map file.Data numbers ≡ take n (drop from words) → map received.Data numbers ≡ take n (drop from (map received_of words))
received-copied words from n numbers h =
    sym (received-numbers numbers)
    ∙ ap (map received_of) h
    ∙ sym (map-take n (drop from words))
    ∙ sym (ap (λ (ws : List RxWord). take n ws) (map-drop from words))
