-- The words of an accepted file, by number.
use Rattle.std.proofs.Common.{◌≡◌, ℕ, zero, suc, ◌+◌, ◌-◌, ◌*◌, ◌/◌, ◌<◌, ◌≤◌, List, [], ◌∷◌, ◌++◌, length, take, drop, map, slice_get, Option, Some, None, Result, Ok, Err, refl, sym, ap, ◌∙◌, arith, length-drop}
use Rattle.std.specs.Result.{result_err}
use Rattle.std.proofs.lemmas.List.{drop-drop, length-map, length-take-le}
use Rattle.words_files.specs.declared.error.WordsError.{WordsError}
use Rattle.words_files.specs.declared.file_word.FileWord.{FileWord}
use Rattle.words_files.specs.declared.tags.Tags.{Tags}
use Rattle.words_files.specs.Tags.{file_words, file_words_from, has_other_tag}
use Rattle.words_files.specs.WordsOfFile.{cut_file, file_word_in, first_offset, given_by, is_short, refusal_at, refusal_by, words_cut}
use Rattle.words_files.proofs.Cut.{ahead, cut-step, one_more, refused_there}

ahead_err : (xs : List FileWord) (r : Result (List FileWord) WordsError) → result_err (ahead xs r) ≡ result_err r
ahead_err xs (Ok ys) = refl
ahead_err xs (Err e) = refl

-- the refusal is that of the bytes after an accepted word
pub err_more : (tags : Tags) (offset : ℕ) (rest : List ℕ) → 0 < length rest → refusal_at (has_other_tag tags) offset (take 9 rest) ≡ None → result_err (file_words_from tags offset (cut_file rest)) ≡ result_err (file_words_from tags (offset + 9) (cut_file (drop 9 rest)))
err_more tags offset rest some e =
    sym (ahead_err [] (file_words_from tags offset (cut_file rest)))
    ∙ ap (λ (r : Result (List FileWord) WordsError). result_err r) (one_more FileWord (has_other_tag tags) file_word_in [] offset rest some e)
    ∙ ahead_err ([] ++ file_word_in (take 9 rest) ∷ []) (file_words_from tags (offset + 9) (cut_file (drop 9 rest)))

pub err_there : (tags : Tags) (offset : ℕ) (rest : List ℕ) (e : WordsError) → 0 < length rest → refusal_at (has_other_tag tags) offset (take 9 rest) ≡ Some e → result_err (file_words_from tags offset (cut_file rest)) ≡ Some e
err_there tags offset rest e some is =
    sym (ahead_err [] (file_words_from tags offset (cut_file rest)))
    ∙ ap (λ (r : Result (List FileWord) WordsError). result_err r) (refused_there FileWord (has_other_tag tags) file_word_in [] offset rest e some is)

ok_of : (r : Option WordsError) (xs : List FileWord) → result_err (given_by r xs) ≡ None → given_by r xs ≡ Ok xs
ok_of None xs h = refl
ok_of (Some e) xs h = absurd cc

err_of : (r : Option WordsError) (xs : List FileWord) (e : WordsError) → result_err (given_by r xs) ≡ Some e → given_by r xs ≡ Err e
err_of None xs e h = absurd cc
err_of (Some f) xs e h = ap (λ (x : WordsError). Err x) cc

-- a file with no refusal is accepted
pub accepted_words : (tags : Tags) (bytes : List ℕ) → result_err (file_words tags bytes) ≡ None → file_words tags bytes ≡ Ok (map file_word_in (cut_file bytes))
accepted_words tags bytes h =
    ok_of (refusal_by (first_offset (has_other_tag tags) 0 (cut_file bytes)) (first_offset is_short 0 (cut_file bytes))) (map file_word_in (cut_file bytes)) h

pub refused_words : (tags : Tags) (bytes : List ℕ) (e : WordsError) → result_err (file_words tags bytes) ≡ Some e → file_words tags bytes ≡ Err e
refused_words tags bytes e h =
    err_of (refusal_by (first_offset (has_other_tag tags) 0 (cut_file bytes)) (first_offset is_short 0 (cut_file bytes))) (map file_word_in (cut_file bytes)) e h

-- ---- by number

length-words_cut : (n : ℕ) (bytes : List ℕ) → length (words_cut n bytes) ≡ n
length-words_cut zero bytes = refl
length-words_cut (suc n) bytes = ap suc (length-words_cut n (drop 9 bytes))

-- whole words are this many
pub words_counted : (bytes : List ℕ) (count : ℕ) → length bytes ≡ 9 * count → length (map file_word_in (cut_file bytes)) ≡ count
words_counted bytes count whole =
    let n : (length bytes + 8) / 9 ≡ count = omega (arith, whole) in
    length-map (cut_file bytes) file_word_in ∙ length-words_cut ((length bytes + 8) / 9) bytes ∙ n

-- the word of this number stands in nine bytes
pub word_at : (i : ℕ) (bytes : List ℕ) → 9 * i + 9 ≤ length bytes → slice_get (map file_word_in (cut_file bytes)) i ≡ Some (file_word_in (take 9 (drop (9 * i) bytes)))
word_at zero bytes h = ap (λ (ws : List (List ℕ)). slice_get (map file_word_in ws) 0) (cut-step bytes (omega arith))
word_at (suc i) bytes h =
    let fits : 9 * suc i + 9 ≤ length bytes = h in
    let rest : 9 * i + 9 ≤ length (drop 9 bytes) = omega (arith, length-drop 9 bytes) in
    let on : 9 + 9 * i ≡ 9 * suc i = omega arith in
    ap (λ (ws : List (List ℕ)). slice_get (map file_word_in ws) (suc i)) (cut-step bytes (omega arith))
    ∙ word_at i (drop 9 bytes) rest
    ∙ ap (λ (bs : List ℕ). Some (file_word_in (take 9 bs))) (drop-drop (9 * i) 9 bytes ∙ ap (λ n. drop n bytes) on)

pub nine_there : (bytes : List ℕ) (index : ℕ) → 9 * index + 9 ≤ length bytes → length (take 9 (drop (9 * index) bytes)) ≡ 9
nine_there bytes index h =
    let long : length (drop (9 * index) bytes) ≡ length bytes - 9 * index = length-drop (9 * index) bytes in
    length-take-le 9 (drop (9 * index) bytes) (omega arith)
