use Rattle.std.proofs.Common.{◌≡◌, ◌∙◌, ◌+◌, ◌++◌, ◌∷◌, [], ℕ, List, ap, sym, take, append_assoc, append-nil, arith}
use Rattle.std.proofs.lemmas.List.{take_more}
use Rattle.std.proofs.lemmas.List.Concat.{flat_map-append}
use Rattle.lk_base.specs.declared.word.Word.{Word}
use Rattle.std.proofs.lemmas.Result.{err_from_is_err_and}
use Rattle.words_files.specs.FileWord.{nine_bytes}
use Rattle.words_files.specs.declared.file_word.FileWord.{FileWord}
use Rattle.words_files.specs.WordsFile.{word_bytes, words_file}
use Rattle.words_files.proofs.CutShort.{words_came}
use Rattle.words_files.proofs.writer.append_words.Goals as goal

file-more : (before : List Word) (word : Word) (now : List Word) (start old new : List ℕ) → now ≡ before ++ word ∷ [] → old ≡ start ++ words_file before → new ≡ old ++ word_bytes word → new ≡ start ++ words_file now
file-more before word now start old new e f g =
    g ∙ ap (λ (bs : List ℕ). bs ++ word_bytes word) f ∙ append_assoc start (words_file before) (word_bytes word)
    ∙ ap (λ (bs : List ℕ). start ++ bs) (sym (ap words_file e ∙ flat_map-append word_bytes before (word ∷ []) ∙ ap (λ (bs : List ℕ). words_file before ++ bs) (append-nil (word_bytes word))))

pub loop-word-preserved : goal.loop-word-preserved
loop-word-preserved c =
    let i = c.loop-word.word-index in
    let words = c.args.words.now in
    let inv = c.loop-word.invariant in
    let put = c.in_ok-append_word.ensures in
    record {
      file = file-more (take i words) _ (take (i + 1) words) c.args.file.now.items c.loop-word.file.items c.append_word.new.file.items (take_more words i _ c.loop-word-test.true) inv.file (put.items ∙ ap (λ (w : FileWord). c.loop-word.file.items ++ nine_bytes w) c.from.ensures);
      size = omega (arith, put.len, inv.size);
    }

pub returns-in_err-append_word-clause-err : goal.returns-in_err-append_word-clause-err
returns-in_err-append_word-clause-err c =
    let p = err_from_is_err_and c.from_residual.result c.from_residual.ensures.1 in
    rw p.1 (words_came c.args.words.now c.loop-word.word-index c.args.file.now.items c.loop-word.file.items _ c.loop-word-test.true c.loop-word.invariant.file c.in_err-append_word.ensures.err)
