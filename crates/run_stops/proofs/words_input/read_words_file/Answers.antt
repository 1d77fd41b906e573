use Rattle.std.proofs.Common.{◌≡◌, ◌<◌, ℕ, List, Result, Ok, Err, IfOk, MatchResult, is_ok, length, arith}
use Rattle.lk_base.specs.declared.word.RxWord.{RxWord}
use Rattle.words_files.specs.WordsOfFile.{words_of_file}
use Rattle.words_files.specs.declared.error.WordsError.{WordsError}
use Rattle.words_files.proofs.Again.{accepted-whole}
use Rattle.run_stops.proofs.words_input.read_words_file.Goals as goal

-- no more words than bytes
few_words : (bytes : List ℕ) (words : List RxWord) (limit : ℕ) → words_of_file bytes ≡ Ok words → length bytes < limit → length words < limit
few_words bytes words limit e lt = let whole = accepted-whole bytes words e in omega arith

-- the words that were read are few
few_read : (bytes : List ℕ) (No : WordsError → Type 0) (limit : ℕ) (read : Result (List RxWord) WordsError) → MatchResult read (λ words. words_of_file bytes ≡ Ok words) No → length bytes < limit → IfOk read (λ words. length words < limit)
few_read bytes No limit (Ok words) e lt = few_words bytes words limit e lt
few_read bytes No limit (Err why) e lt = tt

-- what holds of what was read holds if its refusal is told otherwise
kept : {T E D : Type 0} (No : E → Type 0) (P : T → Type 0) (read : Result T E) (told : Result T D) → MatchResult read (λ x. told ≡ Ok x) No → is_ok told ≡ is_ok read → IfOk read P → IfOk told P
kept No P (Ok x) told e ok holds = rw e holds
kept No P (Err why) (Ok x) e ok holds = absurd cc
kept No P (Err why) (Err stop) e ok holds = tt

pub returns-clause-few : goal.returns-clause-few
returns-clause-few g c =
    let fits = c.in_ok-bytes.ensures.fits in
    let len = c.in_ok-bytes.bytes.ok.0 in
    kept _ (λ (words : List RxWord). length words < 4294967296) c.new.result c.map_err.result c.map_err.ensures.cases c.map_err.ensures.variant
    (few_read c.in_ok-bytes.bytes.items _ 4294967296 c.new.result c.new.ensures (omega arith))
