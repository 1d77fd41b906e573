-- A text begins with lines of one kind in one way, and things and their lines determine each other.
use Rattle.std.proofs.Common.{true, ◌≡◌, ℕ, List, [], ◌∷◌, ◌++◌, All, length, refl, sym, ap, ◌∙◌, append_assoc, arith}
use Rattle.std.proofs.lemmas.List.Concat.{flat_map-cons}
use Rattle.std.proofs.lemmas.List.Elements.{All-tail}
use Rattle.word_text.specs.Lines.{ended, text_of, AreLinesOf}
use Rattle.word_text.proofs.Spelled.{lacks}
use Rattle.word_text.proofs.Pieces.{cut-once}

pub text-cons : (l : List ℕ) (ls : List (List ℕ)) → text_of (l ∷ ls) ≡ ended l ++ text_of ls
text-cons l ls = flat_map-cons ended l ls

pub text-step : (l : List ℕ) (ls : List (List ℕ)) (x : List ℕ) → text_of (l ∷ ls) ++ x ≡ ended l ++ (text_of ls ++ x)
text-step l ls x = ap (λ (t : List ℕ). t ++ x) (text-cons l ls) ∙ append_assoc (ended l) (text_of ls) x

-- no line of this kind stands in front
abbrev pub Stuck : (List ℕ → Type 0) → List ℕ → Type 0
Stuck IsLine left = (line more : List ℕ) → left ≡ ended line ++ more → IsLine line → ⊥

pub nothing-ended : (line more : List ℕ) → [] ≡ ended line ++ more → ⊥
nothing-ended [] more e = let size = ap length e in omega (arith, size)
nothing-ended (x ∷ line) more e = let size = ap length e in omega (arith, size)

pub front-once : (IsLine : List ℕ → Type 0) → ((line : List ℕ) → IsLine line → lacks 10 line ≡ true) → (ls ms : List (List ℕ)) (x y : List ℕ) → All IsLine ls → All IsLine ms → Stuck IsLine x → Stuck IsLine y → text_of ls ++ x ≡ text_of ms ++ y → (ls ≡ ms) × (x ≡ y)
front-once P f [] [] x y a b s t e = (refl, e)
front-once P f [] (m ∷ ms) x y a b s t e = absurd (s m (text_of ms ++ y) (e ∙ text-step m ms y) (b 0 m (omega arith)))
front-once P f (l ∷ ls) [] x y a b s t e = absurd (t l (text_of ls ++ x) (sym e ∙ text-step l ls x) (a 0 l (omega arith)))
front-once P f (l ∷ ls) (m ∷ ms) x y a b s t e =
    let (line, rest) = cut-once l m (text_of ls ++ x) (text_of ms ++ y) (f l (a 0 l (omega arith))) (f m (b 0 m (omega arith))) (sym (text-step l ls x) ∙ e ∙ text-step m ms y) in
    let (lines, left) = front-once P f ls ms x y (All-tail P l ls a) (All-tail P m ms b) s t rest in
    (ap (λ (k : List ℕ). k ∷ ls) line ∙ ap (λ (k : List (List ℕ)). m ∷ k) lines, left)

-- where one thing has one line, things have one list of lines
pub same-lines : {X : Type 0} (IsLine : X → List ℕ → Type 0) → ((x : X) (a b : List ℕ) → IsLine x a → IsLine x b → a ≡ b) → (xs : List X) (ls ms : List (List ℕ)) → AreLinesOf IsLine xs ls → AreLinesOf IsLine xs ms → ls ≡ ms
same-lines P f [] [] [] h k = refl
same-lines P f [] (l ∷ ls) ms h k = absurd h
same-lines P f [] [] (m ∷ ms) h k = absurd k
same-lines P f (x ∷ xs) [] ms h k = absurd h
same-lines P f (x ∷ xs) (l ∷ ls) [] h k = absurd k
same-lines P f (x ∷ xs) (l ∷ ls) (m ∷ ms) h k = ap (λ (t : List ℕ). t ∷ ls) (f x l m h.0 k.0) ∙ ap (λ (t : List (List ℕ)). m ∷ t) (same-lines P f xs ls ms h.1 k.1)

-- where one line has one thing, lines have one list of things
pub same-things : {X : Type 0} (IsSized : X → Type 0) (IsLine : X → List ℕ → Type 0) → ((x y : X) (line : List ℕ) → IsSized x → IsSized y → IsLine x line → IsLine y line → x ≡ y) → (xs ys : List X) (ls : List (List ℕ)) → All IsSized xs → All IsSized ys → AreLinesOf IsLine xs ls → AreLinesOf IsLine ys ls → xs ≡ ys
same-things S P f [] [] [] s t h k = refl
same-things S P f [] [] (l ∷ ls) s t h k = absurd h
same-things S P f [] (y ∷ ys) [] s t h k = absurd k
same-things S P f [] (y ∷ ys) (l ∷ ls) s t h k = absurd h
same-things S P f (x ∷ xs) ys [] s t h k = absurd h
same-things S P f (x ∷ xs) [] (l ∷ ls) s t h k = absurd k
same-things {X} S P f (x ∷ xs) (y ∷ ys) (l ∷ ls) s t h k =
    ap (λ (z : X). z ∷ xs) (f x y l (s 0 x (omega arith)) (t 0 y (omega arith)) h.0 k.0)
    ∙ ap (λ (z : List X). y ∷ z) (same-things S P f xs ys ls (All-tail S x xs s) (All-tail S y ys t) h.1 k.1)
