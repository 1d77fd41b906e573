-- The words of as many numbers as kinds.
use Rattle.std.proofs.Common.{ℕ, zero, suc, ◌≡◌, refl, sym, ap, ◌∙◌, ◌<◌, ◌≤◌, ◌-◌, List, [], ◌∷◌, length, set, drop, take, get_or, arith}
use Rattle.std.proofs.lemmas.List.{length-drop}
use Rattle.lk_base.specs.declared.word.RxWord.{RxWord}
use Rattle.lk_base.specs.declared.word.RxWord.TheVariants.{Data, Control, Bad}
use Rattle.lk_base.specs.Words.{number_of}
use Rattle.word_list.specs.declared.kind.WordKind.{WordKind}
use Rattle.word_list.specs.declared.kind.WordKind.TheVariants as kinds
use Rattle.word_list.specs.Received.{Block, data_count, data_front, kind_of, rx_word_of, rx_words_of}

-- a word is that of its number and its kind
pub of_rx_parts : (w : RxWord) → rx_word_of (number_of w) (kind_of w) ≡ w
of_rx_parts (Data x) = refl
of_rx_parts (Control x) = refl
of_rx_parts Bad = refl

pub length-rx_words_of : (xs : List ℕ) (ks : List WordKind) → length ks ≡ length xs → length (rx_words_of xs ks) ≡ length xs
length-rx_words_of [] ks e = refl
length-rx_words_of (x ∷ xs) [] e = absurd (omega (arith, e))
length-rx_words_of (x ∷ xs) (k ∷ ks) e = (let r = length-rx_words_of xs ks (omega (arith, e)) in omega (arith, r))

-- a word is written
pub rx_words_of-set : (xs : List ℕ) (ks : List WordKind) (i : ℕ) (w : RxWord) → length ks ≡ length xs → i < length xs →
    rx_words_of (set xs i (number_of w)) (set ks i (kind_of w)) ≡ set (rx_words_of xs ks) i w
rx_words_of-set [] ks i w e h = absurd (omega (arith, h))
rx_words_of-set (x ∷ xs) [] i w e h = absurd (omega (arith, e))
rx_words_of-set (x ∷ xs) (k ∷ ks) zero w e h = ap (λ (v : RxWord). v ∷ rx_words_of xs ks) (of_rx_parts w)
rx_words_of-set (x ∷ xs) (k ∷ ks) (suc i) w e h = ap (λ (ws : List RxWord). rx_word_of x k ∷ ws) (rx_words_of-set xs ks i w (omega (arith, e)) (omega (arith, h)))

-- the word at a place
pub rx_words_of-at : (xs : List ℕ) (ks : List WordKind) (i x : ℕ) (k : WordKind) → length ks ≡ length xs → i < length xs →
    rx_word_of (get_or xs i x) (get_or ks i k) ≡ get_or (rx_words_of xs ks) i Bad
rx_words_of-at [] ks i x k e h = absurd (omega (arith, h))
rx_words_of-at (y ∷ xs) [] i x k e h = absurd (omega (arith, e))
rx_words_of-at (y ∷ xs) (l ∷ ks) zero x k e h = refl
rx_words_of-at (y ∷ xs) (l ∷ ks) (suc i) x k e h = rx_words_of-at xs ks i x k (omega (arith, e)) (omega (arith, h))

-- ---- data words at the front

pub data_within : (ks : List WordKind) → data_count ks ≤ length ks
data_within [] = omega arith
data_within (kinds.Data ∷ ks) = (let r = data_within ks in omega (arith, r))
data_within (kinds.Control ∷ ks) = omega arith
data_within (kinds.Bad ∷ ks) = omega arith

pub data_taken : (xs : List ℕ) (ks : List WordKind) → length ks ≡ length xs → take (data_count ks) xs ≡ data_front (rx_words_of xs ks)
data_taken [] [] e = refl
data_taken [] (k ∷ ks) e = absurd (omega (arith, e))
data_taken (x ∷ xs) [] e = absurd (omega (arith, e))
data_taken (x ∷ xs) (kinds.Data ∷ ks) e = ap (λ (ys : List ℕ). x ∷ ys) (data_taken xs ks (omega (arith, e)))
data_taken (x ∷ xs) (kinds.Control ∷ ks) e = refl
data_taken (x ∷ xs) (kinds.Bad ∷ ks) e = refl

pub rx_words_of-drop : (n : ℕ) (xs : List ℕ) (ks : List WordKind) → length ks ≡ length xs → rx_words_of (drop n xs) (drop n ks) ≡ drop n (rx_words_of xs ks)
rx_words_of-drop zero xs ks e = refl
rx_words_of-drop (suc n) [] [] e = refl
rx_words_of-drop (suc n) [] (k ∷ ks) e = absurd (omega (arith, e))
rx_words_of-drop (suc n) (x ∷ xs) [] e = absurd (omega (arith, e))
rx_words_of-drop (suc n) (x ∷ xs) (k ∷ ks) e = rx_words_of-drop n xs ks (omega (arith, e))

pub rx_words_of-take : (n : ℕ) (xs : List ℕ) (ks : List WordKind) → length ks ≡ length xs → rx_words_of (take n xs) (take n ks) ≡ take n (rx_words_of xs ks)
rx_words_of-take zero xs ks e = refl
rx_words_of-take (suc n) [] ks e = refl
rx_words_of-take (suc n) (x ∷ xs) [] e = absurd (omega (arith, e))
rx_words_of-take (suc n) (x ∷ xs) (k ∷ ks) e = ap (λ (ws : List RxWord). rx_word_of x k ∷ ws) (rx_words_of-take n xs ks (omega (arith, e)))

-- ---- of a block

-- a block with these numbers and kinds
abbrev pub block_of : ℕ → List ℕ → List WordKind → Block
block_of room xs ks = record { room = room; words = rx_words_of xs ks }

-- it has as many words as numbers
pub many : (b : Block) (room : ℕ) (xs : List ℕ) (ks : List WordKind) → block_of room xs ks ≡ b → length ks ≡ length xs → length xs ≡ length b.words
many b room xs ks is e = sym (length-rx_words_of xs ks e) ∙ ap (λ (c : Block). length c.words) is

pub rx_at_place : (b : Block) (room : ℕ) (xs : List ℕ) (ks : List WordKind) (i x : ℕ) (k : WordKind) → block_of room xs ks ≡ b → length ks ≡ length xs → i < length b.words →
    x ≡ get_or xs i x → k ≡ get_or ks i k → rx_word_of x k ≡ get_or b.words i Bad
rx_at_place b room xs ks i x k is e h at on =
    let there : i < length xs = omega (arith, many b room xs ks is e, h) in
    ap (λ n. rx_word_of n k) at ∙ ap (rx_word_of (get_or xs i x)) on ∙ rx_words_of-at xs ks i x k e there ∙ ap (λ (c : Block). get_or c.words i Bad) is

-- the numbers of its data words from a place on
pub data_from : (xs : List ℕ) (ks : List WordKind) (from n : ℕ) → length ks ≡ length xs → n ≡ data_count (drop from ks) → take n (drop from xs) ≡ data_front (drop from (rx_words_of xs ks))
data_from xs ks from n e is =
    let long : length (drop from ks) ≡ length (drop from xs) = length-drop from ks ∙ ap (λ m. m - from) e ∙ sym (length-drop from xs) in
    ap (λ m. take m (drop from xs)) is ∙ data_taken (drop from xs) (drop from ks) long ∙ ap data_front (rx_words_of-drop from xs ks e)

-- the words of a longer or shorter block begin with its own
pub kept_words : (b : Block) (room count : ℕ) (xs ys : List ℕ) (ks ls : List WordKind) → block_of room xs ks ≡ b → length ks ≡ length xs → length ls ≡ length ys →
    take (length xs) ys ≡ take count xs → take (length ks) ls ≡ take count ks → take (length b.words) (rx_words_of ys ls) ≡ take count b.words
kept_words b room count xs ys ks ls is e f kept kinds_kept =
    ap (λ m. take m (rx_words_of ys ls)) (sym (many b room xs ks is e))
    ∙ sym (rx_words_of-take (length xs) ys ls f)
    ∙ ap (λ (zs : List ℕ). rx_words_of zs (take (length xs) ls)) kept
    ∙ ap (λ m. rx_words_of (take count xs) (take m ls)) (sym e)
    ∙ ap (rx_words_of (take count xs)) kinds_kept
    ∙ rx_words_of-take count xs ks e
    ∙ ap (λ (c : Block). take count c.words) is
