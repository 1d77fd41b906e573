-- Words in the first places of a block.
use Rattle.std.proofs.Common.{◌≡◌, ℕ, zero, suc, ◌+◌, ◌<◌, ◌≤◌, List, [], ◌∷◌, ◌++◌, length, map, take, drop, get_or, refl, sym, ap, subst, ◌∙◌, arith, append_assoc, append-nil}
use Rattle.std.proofs.Math.ListN.{set}
use Rattle.std.proofs.lemmas.List.{take-append-drop, take-append-le, drop-append-le, drop-drop, drop-set-lt, drop_at, length-take-le}

take_put : {X : Type 0} (xs ys post : List X) (a n : ℕ) → a ≤ length xs → n ≤ length ys → take (a + n) (take a xs ++ (ys ++ post)) ≡ take a xs ++ take n ys
take_put xs ys post zero n h k = let e : zero + n ≡ n = omega arith in rw e (take-append-le n ys post k)
take_put [] ys post (suc a) n h k = absurd (omega arith)
take_put (x ∷ xs) ys post (suc a) n h k = let e : suc a + n ≡ suc (a + n) = omega arith in rw e (ap (λ zs. x ∷ zs) (take_put xs ys post a n (omega arith) k))

-- more words are put after the first ones of a block
pub put_more : {X : Type 0} (words block sub post : List X) (count more total : ℕ) → count ≤ length block → more ≤ length sub → total ≡ count + more
    → (words ++ take count block) ++ take more sub ≡ words ++ take total (take count block ++ (sub ++ post))
put_more words block sub post count more total h k is =
    append_assoc words (take count block) (take more sub)
    ∙ ap (λ zs. words ++ zs) (sym (take_put block sub post count more h k) ∙ ap (λ n. take n (take count block ++ (sub ++ post))) (sym is))

-- no words are put there
pub put_none : {X : Type 0} (words block sub post : List X) (count : ℕ) → count ≤ length block → words ++ take count block ≡ words ++ take count (take count block ++ (sub ++ post))
put_none words block sub post count h = sym (append-nil (words ++ take count block)) ∙ put_more words block sub post count 0 count h (omega arith) (omega arith)

-- no words are added
pub none_more : {X : Type 0} (words block : List X) (n : ℕ) → n ≤ 0 → words ++ take n block ≡ words
none_more words block zero h = append-nil words
none_more words block (suc n) h = absurd (omega arith)

-- ---- the other places of a block

-- words are written to the first places of a part of the block
pub rest_cut : {X : Type 0} (block sub : List X) (n room : ℕ) → n ≤ length (take room block) → length sub ≡ length (take room block) → drop n sub ≡ drop n (take room block)
    → drop n (sub ++ drop room block) ≡ drop n block
rest_cut block sub n room within long rest =
    drop-append-le n sub (drop room block) (omega (arith, within, long))
    ∙ ap (λ zs. zs ++ drop room block) rest
    ∙ sym (drop-append-le n (take room block) (drop room block) within)
    ∙ ap (drop n) (take-append-drop room block)

-- where no word was written, the block is as it was
pub rest_whole : {X : Type 0} (new old : List X) (n : ℕ) → n ≤ 0 → drop n new ≡ drop n old → new ≡ old
rest_whole new old zero none same = same
rest_whole new old (suc n) none same = absurd (omega arith)

-- one word is written to the first place
pub rest_one : {X : Type 0} (new old : List X) (n : ℕ) (x : X) → n ≤ 0 → drop n new ≡ drop n old → drop 1 (set new 0 x) ≡ drop 1 old
rest_one new old n x none same = drop-set-lt 1 new 0 x (omega arith) ∙ ap (drop 1) (rest_whole new old n none same)

-- words are written from a place on, where the block was as at first
pub rest_put : {X : Type 0} (block first sub : List X) (count room more total : ℕ) → count ≤ length block → more ≤ length (take room (drop count block)) → length sub ≡ length (take room (drop count block))
    → drop more sub ≡ drop more (take room (drop count block)) → drop count block ≡ drop count first → total ≡ count + more → drop total (take count block ++ (sub ++ drop room (drop count block))) ≡ drop total first
rest_put block first sub count room more total h within long rest same is =
    subst (λ n. drop n (take count block ++ (sub ++ drop room (drop count block))) ≡ drop n first) (sym is)
    (sym (drop-drop more count (take count block ++ (sub ++ drop room (drop count block))))
    ∙ ap (drop more) (drop_at (take count block) (sub ++ drop room (drop count block)) count (length-take-le count block h))
    ∙ rest_cut (drop count block) sub more room within long rest
    ∙ ap (drop more) same
    ∙ drop-drop more count first)

-- ---- data words of these numbers

pub map_take_more : {X : Type 0} (f : ℕ → X) (xs : List ℕ) (n : ℕ) → n < length xs → map f (take (n + 1) xs) ≡ map f (take n xs) ++ f (get_or xs n 0) ∷ []
map_take_more f [] n h = absurd (omega arith)
map_take_more f (x ∷ xs) zero h = refl
map_take_more f (x ∷ xs) (suc n) h = let e : suc n + 1 ≡ suc (n + 1) = omega arith in rw e (ap (λ zs. f x ∷ zs) (map_take_more f xs n (omega arith)))

pub drop_set : {X : Type 0} (xs : List X) (n i : ℕ) (x : X) → i < n → drop n (set xs i x) ≡ drop n xs
drop_set xs n i x h = drop-set-lt n xs i x h
