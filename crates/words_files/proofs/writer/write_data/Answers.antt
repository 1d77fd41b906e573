use Rattle.std.proofs.Common.{◌≡◌, ◌∙◌, ◌+◌, ◌*◌, ◌++◌, ◌∷◌, [], ℕ, List, ap, sym, map, take, get_or, append-nil, arith}
use Rattle.std.proofs.lemmas.List.{map-append, take_more}
use Rattle.std.proofs.lemmas.List.Concat.{flat_map-append}
use Rattle.lk_base.specs.declared.word.Word.{Word}
use Rattle.lk_base.specs.declared.word.Word.TheVariants.{Data}
use Rattle.words_files.specs.WordsFile.{word_bytes, words_file}
use Rattle.words_files.proofs.writer.write_data.Goals as goal

file_more : (before : List Word) (word : Word) (now : List Word) (old new : List ℕ) → now ≡ before ++ word ∷ [] → old ≡ words_file before → new ≡ old ++ word_bytes word → new ≡ words_file now
file_more before word now old new e f g =
    g ∙ ap (λ (bs : List ℕ). bs ++ word_bytes word) f
    ∙ sym (ap words_file e ∙ flat_map-append word_bytes before (word ∷ []) ∙ ap (λ (bs : List ℕ). words_file before ++ bs) (append-nil (word_bytes word)))

pub loop-place-preserved : goal.loop-place-preserved
loop-place-preserved c =
    let k = c.loop-place.place in
    let xs = c.args.numbers.now in
    let here = c.loop-place-test.true in
    let e : 9 * (k + 1) ≡ 9 * k + 9 = omega arith in
    let more : map Data (take (k + 1) xs) ≡ map Data (take k xs) ++ Data (get_or xs k 0) ∷ [] = ap (map Data) (take_more xs k 0 here) ∙ map-append Data (take k xs) (get_or xs k 0 ∷ []) in (
      c.write_word.ensures.long ∙ c.loop-place.invariant.0,
      ap (λ (n : ℕ). take n c.write_word.new.bytes) e
          ∙ file_more (map Data (take k xs)) _ (map Data (take (k + 1) xs)) (take (9 * k) c.loop-place.bytes) (take (9 * k + 9) c.write_word.new.bytes) more c.loop-place.invariant.1 c.write_word.ensures.put,
    )
