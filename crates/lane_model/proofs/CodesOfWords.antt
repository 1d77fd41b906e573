-- The codes of a list of words, one word at a time.
use Rattle.std.proofs.Common.{ℕ, zero, suc, ◌≡◌, refl, sym, ap, ◌∙◌, ◌<◌, List, [], ◌∷◌, ◌++◌, length, take, get_or, arith, append_assoc, append-nil}
use Rattle.lk_base.specs.declared.word.Word.{Word}
use Rattle.lane_model.specs.Coding.{code_behind, codes_behind, codes_of}
use Rattle.lane_model.specs.CodingLaw.{CodesAreDetermined}

pub none-codes : (before : List ℕ) → codes_behind before [] ≡ []
unfolding codes_behind
none-codes before = refl

pub one_more-codes : (before : List ℕ) (word : Word) (rest : List Word) →
    codes_behind before (word ∷ rest) ≡ code_behind before word ∷ codes_behind (before ++ code_behind before word ∷ []) rest
unfolding codes_behind
one_more-codes before word rest = refl

pub length-codes_behind : (before : List ℕ) (words : List Word) → length (codes_behind before words) ≡ length words
unfolding codes_behind
length-codes_behind before [] = refl
length-codes_behind before (word ∷ rest) = ap suc (length-codes_behind (before ++ code_behind before word ∷ []) rest)

-- words in two parts have the codes of the first part and, after them, those of the second
pub codes_behind-append : (before : List ℕ) (xs ys : List Word) →
    codes_behind before (xs ++ ys) ≡ codes_behind before xs ++ codes_behind (before ++ codes_behind before xs) ys
codes_behind-append before [] ys = rw (none-codes before, append-nil before) refl
codes_behind-append before (x ∷ xs) ys =
    let c = code_behind before x in
    rw (one_more-codes before x (xs ++ ys), one_more-codes before x xs, codes_behind-append (before ++ c ∷ []) xs ys, append_assoc before (c ∷ []) (codes_behind (before ++ c ∷ []) xs)) refl

pub more : (words : List Word) (word : Word) → codes_of (words ++ word ∷ []) ≡ codes_of words ++ code_behind (codes_of words) word ∷ []
more words word =
    codes_behind-append [] words (word ∷ [])
    ∙ ap (λ r. codes_of words ++ r) (one_more-codes (codes_of words) word [] ∙ ap (λ r. code_behind (codes_of words) word ∷ r) (none-codes _))

-- ---- the codes are determined

-- code number t after these codes is that of its word
abbrev IsCodeAt : List ℕ → List Word → List ℕ → ℕ → Word → Type 0
IsCodeAt before words codes t d = get_or codes t 0 ≡ code_behind (before ++ take t codes) (get_or words t d)

first_code : (before : List ℕ) (word : Word) (rest : List Word) (codes : List ℕ) (d : Word) →
    IsCodeAt before (word ∷ rest) codes 0 d → get_or codes 0 0 ≡ code_behind before word
first_code before word rest codes d h = h ∙ ap (λ cs. code_behind cs word) (append-nil before)

next_code : (before : List ℕ) (word : Word) (rest : List Word) (c : ℕ) (codes : List ℕ) (t : ℕ) (d : Word) →
    IsCodeAt before (word ∷ rest) (c ∷ codes) (suc t) d → IsCodeAt (before ++ c ∷ []) rest codes t d
next_code before word rest c codes t d h = h ∙ ap (λ cs. code_behind cs (get_or rest t d)) (sym (append_assoc before (c ∷ []) (take t codes)))

next_back : (before : List ℕ) (word : Word) (rest : List Word) (c : ℕ) (codes : List ℕ) (t : ℕ) (d : Word) →
    IsCodeAt (before ++ c ∷ []) rest codes t d → IsCodeAt before (word ∷ rest) (c ∷ codes) (suc t) d
next_back before word rest c codes t d h = h ∙ ap (λ cs. code_behind cs (get_or rest t d)) (append_assoc before (c ∷ []) (take t codes))

has_at : (before : List ℕ) (words : List Word) (t : ℕ) (d : Word) → t < length words → IsCodeAt before words (codes_behind before words) t d
has_at before [] t d h = absurd (omega arith)
has_at before (word ∷ rest) zero d h =
    rw (one_more-codes before word rest) (ap (λ cs. code_behind cs word) (sym (append-nil before)))
has_at before (word ∷ rest) (suc t) d h =
    rw (one_more-codes before word rest)
    (next_back before word rest (code_behind before word) (codes_behind (before ++ code_behind before word ∷ []) rest) t d
    (has_at (before ++ code_behind before word ∷ []) rest t d (omega arith)))

only_behind : (before : List ℕ) (words : List Word) (codes : List ℕ) → length codes ≡ length words →
    ((t : ℕ) (d : Word) → t < length words → IsCodeAt before words codes t d) → codes ≡ codes_behind before words
only_behind before [] [] l h = sym (none-codes before)
only_behind before [] (c ∷ codes) l h = absurd (omega arith)
only_behind before (word ∷ rest) [] l h = absurd (omega arith)
only_behind before (word ∷ rest) (c ∷ codes) l h =
    let first : c ≡ code_behind before word = first_code before word rest (c ∷ codes) word (h 0 word (omega arith)) in
    let others : codes ≡ codes_behind (before ++ c ∷ []) rest =
    only_behind (before ++ c ∷ []) rest codes (omega arith) (λ t d k. next_code before word rest c codes t d (h (suc t) d (omega arith))) in
    ap (λ r. c ∷ r) others
    ∙ ap (λ x. x ∷ codes_behind (before ++ x ∷ []) rest) first
    ∙ sym (one_more-codes before word rest)

pub codes_determined : CodesAreDetermined
codes_determined = record {
  has = λ words. record { one_each = length-codes_behind [] words; each = λ t d h. has_at [] words t d h };
  only = λ words codes h. only_behind [] words codes h.one_each (λ t d k. h.each t d k);
  more = more;
}
