-- The bytes of words that wait.
use Rattle.std.proofs.Common.{◌≡◌, ℕ, zero, suc, ◌+◌, ◌<◌, List, [], ◌∷◌, ◌++◌, length, map, take, drop, get_or, refl, sym, ap, ◌∙◌, append-nil, arith}
use Rattle.std.proofs.Math.Seq.{take-add}
use Rattle.std.proofs.lemmas.List.Concat.{flat_map-append}
use Rattle.lk_base.specs.declared.word.RxWord.{RxWord}
use Rattle.lk_base.specs.declared.word.RxWord.TheVariants as received
use Rattle.lk_base.specs.declared.word.Word.TheVariants as sent
use Rattle.lane_words.specs.WordsFile.{rx_word_bytes, rx_words_file}
use Rattle.word_list.specs.Received.{data_front}
use Rattle.rx_front.proofs.Waiting.{data_first}
use Rattle.words_files.specs.WordsFile.{words_file}

-- one word
pub one_written : (ws : List RxWord) (at : ℕ) (word : RxWord) → at < length ws → word ≡ get_or ws at received.Bad → rx_word_bytes word ≡ rx_words_file (take 1 (drop at ws))
one_written [] at word lt e = absurd (omega (arith, lt))
one_written (w ∷ ws) zero word lt e = ap rx_word_bytes e ∙ sym (append-nil (rx_word_bytes w))
one_written (w ∷ ws) (suc at) word lt e = one_written ws at word (omega (arith, lt)) e

same_data : (xs : List ℕ) → words_file (map sent.Data xs) ≡ rx_words_file (map received.Data xs)
same_data [] = refl
same_data (x ∷ xs) = ap (λ (bs : List ℕ). rx_word_bytes (received.Data x) ++ bs) (same_data xs)

-- the data words of a run
pub run_written : (ws : List RxWord) (at : ℕ) (run : List ℕ) → run ≡ data_front (drop at ws) → words_file (map sent.Data run) ≡ rx_words_file (take (length run) (drop at ws))
run_written ws at run is =
    same_data run
    ∙ ap rx_words_file (ap (λ (xs : List ℕ). map received.Data xs) is ∙ sym (data_first (drop at ws)) ∙ ap (λ (xs : List ℕ). take (length xs) (drop at ws)) (sym is))

-- the bytes of the first words, and those of some more
pub more_written : (ws : List RxWord) (at n : ℕ) (old new : List ℕ) → old ≡ rx_words_file (take at ws) → new ≡ old ++ rx_words_file (take n (drop at ws)) → new ≡ rx_words_file (take (at + n) ws)
more_written ws at n old new was is =
    is ∙ ap (λ (bs : List ℕ). bs ++ rx_words_file (take n (drop at ws))) was
    ∙ sym (ap rx_words_file (take-add at n ws) ∙ flat_map-append rx_word_bytes (take at ws) (take n (drop at ws)))
