use Rattle.std.proofs.Common.{◌≡◌, ◌∙◌, ◌+◌, ◌*◌, ◌++◌, ◌∷◌, [], ℕ, List, ap, sym, take, append-nil, arith}
use Rattle.std.proofs.lemmas.List.{take_more}
use Rattle.std.proofs.lemmas.List.Concat.{flat_map-append}
use Rattle.lk_base.specs.declared.word.RxWord.{RxWord}
use Rattle.words_files.specs.FileWord.{nine_bytes}
use Rattle.words_files.specs.declared.file_word.FileWord.{FileWord}
use Rattle.lane_words.specs.WordsFile.{rx_word_bytes, rx_words_file}
use Rattle.lane_words.proofs.words.write_words.Goals as goal

file_more : (before : List RxWord) (word : RxWord) (now : List RxWord) (old new : List ℕ) → now ≡ before ++ word ∷ [] → old ≡ rx_words_file before → new ≡ old ++ rx_word_bytes word → new ≡ rx_words_file now
file_more before word now old new e f g =
    g ∙ ap (λ (bs : List ℕ). bs ++ rx_word_bytes word) f
    ∙ sym (ap rx_words_file e ∙ flat_map-append rx_word_bytes before (word ∷ []) ∙ ap (λ (bs : List ℕ). rx_words_file before ++ bs) (append-nil (rx_word_bytes word)))

pub loop-place-preserved : goal.loop-place-preserved
loop-place-preserved c =
    let k = c.loop-place.place in
    let words = c.args.words.now in
    let e : 9 * (k + 1) ≡ 9 * k + 9 = omega arith in (
      c.write_word.ensures.long ∙ c.loop-place.invariant.0,
      ap (λ (n : ℕ). take n c.write_word.new.bytes) e
          ∙ file_more (take k words) _ (take (k + 1) words) (take (9 * k) c.loop-place.bytes) (take (9 * k + 9) c.write_word.new.bytes) (take_more words k _ c.loop-place-test.true) c.loop-place.invariant.1
          (c.write_word.ensures.put ∙ ap (λ (w : FileWord). take (9 * k) c.loop-place.bytes ++ nine_bytes w) c.from.ensures),
    )
