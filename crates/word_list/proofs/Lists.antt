-- The words of as many numbers as marks.
use Rattle.std.proofs.Common.{ℕ, zero, suc, ◌≡◌, refl, sym, ap, ap₂, ◌∙◌, ◌<◌, Bool, false, List, [], ◌∷◌, ◌++◌, length, map, replicate, get_or, Result, Ok, Err, OnOk, arith}
use Rattle.lk_base.specs.declared.word.Word.{Word}
use Rattle.lk_base.specs.declared.word.Word.TheVariants.{Data, Control}
use Rattle.lk_base.specs.Words.{is_control, payload, word_at}
use Rattle.word_list.specs.Parts.{word_of, words_of}

-- a word is that of its number and its kind
pub of_parts : (w : Word) → word_of (payload w) (is_control w) ≡ w
of_parts (Data x) = refl
of_parts (Control x) = refl

pub length-words_of : (xs : List ℕ) (ms : List Bool) → length ms ≡ length xs → length (words_of xs ms) ≡ length xs
length-words_of [] ms e = refl
length-words_of (x ∷ xs) [] e = absurd (omega arith)
length-words_of (x ∷ xs) (m ∷ ms) e = (let k = length-words_of xs ms (omega arith) in omega arith)

-- one more of each
pub words_of-push : (xs : List ℕ) (ms : List Bool) (x : ℕ) (m : Bool) → length ms ≡ length xs → words_of (xs ++ x ∷ []) (ms ++ m ∷ []) ≡ words_of xs ms ++ word_of x m ∷ []
words_of-push [] [] x m e = refl
words_of-push [] (n ∷ ms) x m e = absurd (omega arith)
words_of-push (y ∷ xs) [] x m e = absurd (omega arith)
words_of-push (y ∷ xs) (n ∷ ms) x m e = ap (λ ws. word_of y n ∷ ws) (words_of-push xs ms x m (omega arith))

-- the word at a place
pub words_of-at : (xs : List ℕ) (ms : List Bool) (i d : ℕ) (b : Bool) → length ms ≡ length xs → i < length xs → word_at (words_of xs ms) i ≡ word_of (get_or xs i d) (get_or ms i b)
words_of-at [] ms i d b e h = absurd (omega arith)
words_of-at (x ∷ xs) [] i d b e h = absurd (omega arith)
words_of-at (x ∷ xs) (m ∷ ms) zero d b e h = refl
words_of-at (x ∷ xs) (m ∷ ms) (suc i) d b e h = words_of-at xs ms i d b (omega arith) (omega arith)

-- the numbers of a list of words are as many as its words
pub long : (xs : List ℕ) (ms : List Bool) (ws : List Word) → words_of xs ms ≡ ws → length ms ≡ length xs → length xs ≡ length ws
long xs ms ws is e = sym (length-words_of xs ms e) ∙ ap length is

-- the word of the number and the mark at a place
pub at_place : (xs : List ℕ) (ms : List Bool) (ws : List Word) (i x : ℕ) (b : Bool) → words_of xs ms ≡ ws → length ms ≡ length xs → i < length ws → x ≡ get_or xs i x → b ≡ get_or ms i b → word_of x b ≡ word_at ws i
at_place xs ms ws i x b is e h at on =
    let there : i < length xs = omega (arith, long xs ms ws is e) in
    ap (λ n. word_of n b) at ∙ ap (word_of (get_or xs i x)) on ∙ sym (words_of-at xs ms i x b e there) ∙ ap (λ l. word_at l i) is

-- a list after a word more
pub pushed : {E : Type 0} (r : Result (Unit {0}) E) (xs ys : List ℕ) (ms ns : List Bool) (ws : List Word) (w : Word) (x : ℕ) (m : Bool) → words_of xs ms ≡ ws → length ms ≡ length xs → x ≡ payload w → m ≡ is_control w →
    OnOk r (ys ≡ xs ++ x ∷ []) → OnOk r (ns ≡ ms ++ m ∷ []) → OnOk r (words_of ys ns ≡ ws ++ w ∷ [])
pushed (Err f) xs ys ms ns ws w x m is e number mark p q = tt
pushed (Ok u) xs ys ms ns ws w x m is e number mark p q =
    rw (p, q, words_of-push xs ms x m e, is, number, mark, of_parts w) refl

-- more of each
pub words_of-more : (xs : List ℕ) (ms : List Bool) (ws : List Word) → length ms ≡ length xs → words_of (xs ++ map payload ws) (ms ++ map is_control ws) ≡ words_of xs ms ++ ws
words_of-more [] [] [] e = refl
words_of-more [] [] (w ∷ ws) e = ap₂ (λ (v : Word) (vs : List Word). v ∷ vs) (of_parts w) (words_of-more [] [] ws refl)
words_of-more [] (n ∷ ms) ws e = absurd (omega arith)
words_of-more (y ∷ xs) [] ws e = absurd (omega arith)
words_of-more (y ∷ xs) (n ∷ ms) ws e = ap (λ vs. word_of y n ∷ vs) (words_of-more xs ms ws (omega arith))

-- a list after more words
pub extended : (xs ys : List ℕ) (ms ns : List Bool) (ws more : List Word) → words_of xs ms ≡ ws → length ms ≡ length xs → ys ≡ xs ++ map payload more → ns ≡ ms ++ map is_control more → words_of ys ns ≡ ws ++ more
extended xs ys ms ns ws more is e p q = ap₂ words_of p q ∙ words_of-more xs ms more e ∙ ap (λ vs. vs ++ more) is

-- data words more: as many marks that say so
data_parts : (xs : List ℕ) → (map payload (map Data xs) ≡ xs) × (map is_control (map Data xs) ≡ replicate (length xs) false)
data_parts [] = (refl, refl)
data_parts (x ∷ xs) = let k = data_parts xs in (ap (λ ys. x ∷ ys) k.0, ap (λ ms. false ∷ ms) k.1)

pub extended_by_data : (xs ys : List ℕ) (ms ns : List Bool) (ws : List Word) (more : List ℕ) → words_of xs ms ≡ ws → length ms ≡ length xs → ys ≡ xs ++ more → ns ≡ ms ++ replicate (length more) false → words_of ys ns ≡ ws ++ map Data more
extended_by_data xs ys ms ns ws more is e p q =
    let k = data_parts more in
    extended xs ys ms ns ws (map Data more) is e (p ∙ ap (λ zs. xs ++ zs) (sym k.0)) (q ∙ ap (λ zs. ms ++ zs) (sym k.1))
