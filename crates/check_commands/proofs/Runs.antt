-- The pieces of a block: a run of Data words, or a word.
use Rattle.std.proofs.Common.{ℕ, ◌+◌, ◌≡◌, refl, sym, ap, ap₂, ◌∙◌, List, [], ◌∷◌, ◌++◌, map, take, drop, reverse, append_assoc}
use Rattle.std.proofs.lemmas.List.{reverse-append, drop-drop, take-append-drop}
use Rattle.std.proofs.Math.Seq.{take-add}
use Rattle.lk_base.specs.declared.word.RxWord.{RxWord}
use Rattle.lk_base.specs.declared.word.RxWord.TheVariants.{Data}
use Rattle.word_rules.specs.declared.fault.Fault.{Fault}
use Rattle.word_rules.specs.Faults.{Plan, data_rows, faults_from}
use Rattle.word_rules.specs.Runs.{run_after}

abbrev datas : List ℕ → List RxWord
datas xs = map (λ (x : ℕ). Data x) xs

rows_apart : (p : Plan) (e : List RxWord) (xs : List ℕ) (rest : List RxWord) → faults_from p e (datas xs ++ rest) ≡ faults_from p e (datas xs) ++ faults_from p (run_after e xs) rest
rows_apart p e [] rest = refl
rows_apart p e (x ∷ xs) rest =
    ap (λ (l : List Fault). data_rows p.limits e ++ l) (rows_apart p (Data x ∷ e) xs rest)
    ∙ sym (append_assoc (data_rows p.limits e) (faults_from p (Data x ∷ e) (datas xs)) (faults_from p (run_after (Data x ∷ e) xs) rest))

reversed : (e : List RxWord) (xs : List ℕ) → run_after e xs ≡ reverse (datas xs) ++ e
reversed e [] = refl
reversed e (x ∷ xs) =
    reversed (Data x ∷ e) xs
    ∙ sym (ap (λ (l : List RxWord). l ++ e) (reverse-append (Data x ∷ []) (datas xs)) ∙ append_assoc (reverse (datas xs)) (Data x ∷ []) e)

-- the words before the end of a run
pub after_words : (words : List RxWord) (from count : ℕ) (xs : List ℕ) → datas xs ≡ take count (drop from words) → run_after (reverse (take from words)) xs ≡ reverse (take (from + count) words)
after_words words from count xs h =
    reversed (reverse (take from words)) xs
    ∙ ap (λ (l : List RxWord). reverse l ++ reverse (take from words)) h
    ∙ sym (ap (λ (l : List RxWord). reverse l) (take-add from count words) ∙ reverse-append (take from words) (take count (drop from words)))

-- the rows so far, with those of the words that are left, after a run
pub rows_run : (p : Plan) (words : List RxWord) (from count : ℕ) (xs : List ℕ) (found new : List Fault) → datas xs ≡ take count (drop from words) →
    new ≡ found ++ faults_from p (reverse (take from words)) (datas xs) →
    new ++ faults_from p (reverse (take (from + count) words)) (drop (from + count) words) ≡ found ++ faults_from p (reverse (take from words)) (drop from words)
rows_run p words from count xs found new h is =
    let e : List RxWord = reverse (take from words) in
    let rest : List RxWord = drop (from + count) words in
    let whole : datas xs ++ rest ≡ drop from words =
    ap₂ (λ (a b : List RxWord). a ++ b) h (sym (drop-drop count from words)) ∙ take-append-drop count (drop from words) in
    ap₂ (λ (l : List Fault) (before : List RxWord). l ++ faults_from p before rest) is (sym (after_words words from count xs h))
    ∙ append_assoc found (faults_from p e (datas xs)) (faults_from p (run_after e xs) rest)
    ∙ ap (λ (l : List Fault). found ++ l) (sym (rows_apart p e xs rest))
    ∙ ap (λ (l : List RxWord). found ++ faults_from p e l) whole
