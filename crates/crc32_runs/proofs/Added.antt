-- What a word that is added to one of a list changes in the register after them.
use Rattle.std.proofs.Common.{◌≡◌, ℕ, zero, suc, ◌+◌, ◌-◌, ◌<◌, ◌≤◌, List, [], ◌∷◌, length, refl, sym, ap, ◌∙◌, arith, bit_xor, slice_index_or, slice_set}
use Rattle.std.specs.Int.Bits.{xor_zero_r}
use Rattle.lk_base.specs.Checksum.{bits_of, bits_of_words, register_after}
use Rattle.lk_crc.proofs.Registers.{register_after-append}
use Rattle.crc32_runs.proofs.Later.{later_later, later_sum}
use Rattle.lk_crc.proofs.Linear.{after_sum}
use Rattle.crc32_runs.proofs.Multiple.{farthest, nearest}
use Rattle.crc32_runs.proofs.Sums.{xor_five, xor_seven}
use Rattle.crc32_runs.specs.Registers.{later, register_of, taken}

abbrev after : ℕ → List ℕ → ℕ
after r words = register_after 32 0x1EDC6F41 r (bits_of_words words)

after_next : (r word : ℕ) (words : List ℕ) → after r (word ∷ words) ≡ after (register_after 32 0x1EDC6F41 r (bits_of 64 word)) words
after_next r word words = register_after-append 32 0x1EDC6F41 r (bits_of 64 word) (bits_of_words words)

-- a register and another that are added: the other takes zeros
after_added : (r s : ℕ) (words : List ℕ) → after (bit_xor r s) words ≡ bit_xor (after r words) (later (length words) s)
unfolding register_after bits_of
after_added r s [] = refl
after_added r s (word ∷ words) =
    let first = register_after 32 0x1EDC6F41 r (bits_of 64 word) in
    let e : 1 + length words ≡ length (word ∷ words) = omega arith in
    after_next (bit_xor r s) word words
    ∙ ap (λ (q : ℕ). after (register_after 32 0x1EDC6F41 (bit_xor r s) (bits_of 64 q)) words) (sym (xor_zero_r word))
    ∙ ap (λ (q : ℕ). after q words) (after_sum 32 0x1EDC6F41 64 r s word 0)
    ∙ after_added first (later 1 s) words
    ∙ ap (bit_xor (after first words)) (sym (later_later 1 (length words) s) ∙ ap (λ (k : ℕ). later k s) e)
    ∙ ap (λ (q : ℕ). bit_xor q (later (length (word ∷ words)) s)) (sym (after_next r word words))

-- a word is added to the one at this place
pub added_at : (r : ℕ) (words : List ℕ) (at word : ℕ) → at < length words →
    after r (slice_set words at (bit_xor (slice_index_or words at 0) word)) ≡ bit_xor (after r words) (later (length words - 1 - at) (taken word))
added_at r [] at word h = absurd (omega arith)
added_at r (x ∷ words) zero word h =
    let first = register_after 32 0x1EDC6F41 r (bits_of 64 x) in
    let e : length words ≡ length (x ∷ words) - 1 - zero = omega arith in
    after_next r (bit_xor x word) words
    ∙ ap (λ (q : ℕ). after (register_after 32 0x1EDC6F41 q (bits_of 64 (bit_xor x word))) words) (sym (xor_zero_r r))
    ∙ ap (λ (q : ℕ). after q words) (after_sum 32 0x1EDC6F41 64 r 0 x word)
    ∙ after_added first (taken word) words
    ∙ ap (λ (k : ℕ). bit_xor (after first words) (later k (taken word))) e
    ∙ ap (λ (q : ℕ). bit_xor q (later (length (x ∷ words) - 1 - zero) (taken word))) (sym (after_next r x words))
added_at r (x ∷ words) (suc at) word h =
    let first = register_after 32 0x1EDC6F41 r (bits_of 64 x) in
    let e : length words - 1 - at ≡ length (x ∷ words) - 1 - suc at = omega arith in
    after_next r x (slice_set words at (bit_xor (slice_index_or words at 0) word))
    ∙ added_at first words at word (omega arith)
    ∙ ap (λ (k : ℕ). bit_xor (after first words) (later k (taken word))) e
    ∙ ap (λ (q : ℕ). bit_xor q (later (length (x ∷ words) - 1 - suc at) (taken word))) (sym (after_next r x words))

-- the word before others, from zeros
after_word : (word : ℕ) (words : List ℕ) → register_of (word ∷ words) ≡ bit_xor (register_of words) (later (length words) (taken word))
after_word word words = after_next 0 word words ∙ after_added 0 (taken word) words

-- the farthest of the added words and the others are, so much later, the word itself
later_five : (n r a b c d : ℕ) → later n (bit_xor (bit_xor (bit_xor (bit_xor r a) b) c) d) ≡ bit_xor (bit_xor (bit_xor (bit_xor (later n r) (later n a)) (later n b)) (later n c)) (later n d)
later_five n r a b c d =
    later_sum n (bit_xor (bit_xor (bit_xor r a) b) c) d
    ∙ ap (λ (q : ℕ). bit_xor q (later n d)) (later_sum n (bit_xor (bit_xor r a) b) c
    ∙ ap (λ (q : ℕ). bit_xor q (later n c)) (later_sum n (bit_xor r a) b
    ∙ ap (λ (q : ℕ). bit_xor q (later n b)) (later_sum n r a)))

-- a word that is added to five later words has the same part in the register as before them
pub five_added : (word : ℕ) (words : List ℕ) (n a b c d e : ℕ) → n ≡ length words → 209 ≤ n →
    a ≡ bit_xor (register_of words) (later (n - 1 - 208) (taken word)) → b ≡ bit_xor a (later (n - 1 - 194) (taken word)) → c ≡ bit_xor b (later (n - 1 - 169) (taken word)) →
    d ≡ bit_xor c (later (n - 1 - 154) (taken word)) → e ≡ bit_xor d (later (n - 1 - 64) (taken word)) → e ≡ register_of (word ∷ words)
five_added word words n a b c d e same room ha hb hc hd he =
    let m = n - 209 in
    let r = taken word in
    let f : n - 1 - 208 ≡ m = omega arith in
    let g : n - 1 - 194 ≡ 14 + m = omega arith in
    let h : n - 1 - 169 ≡ 39 + m = omega arith in
    let i : n - 1 - 154 ≡ 54 + m = omega arith in
    let j : n - 1 - 64 ≡ 144 + m = omega arith in
    let k : 209 + m ≡ length words = omega arith in
    let first : a ≡ bit_xor (register_of words) (later m r) = ha ∙ ap (λ (q : ℕ). bit_xor (register_of words) (later q r)) f in
    let second : b ≡ bit_xor a (later m (later 14 r)) = hb ∙ ap (bit_xor a) (ap (λ (q : ℕ). later q r) g ∙ later_later 14 m r) in
    let third : c ≡ bit_xor b (later m (later 39 r)) = hc ∙ ap (bit_xor b) (ap (λ (q : ℕ). later q r) h ∙ later_later 39 m r) in
    let fourth : d ≡ bit_xor c (later m (later 54 r)) = hd ∙ ap (bit_xor c) (ap (λ (q : ℕ). later q r) i ∙ later_later 54 m r) in
    let fifth : e ≡ bit_xor d (later m (later 144 r)) = he ∙ ap (bit_xor d) (ap (λ (q : ℕ). later q r) j ∙ later_later 144 m r) in
    let all : e ≡ bit_xor (bit_xor (bit_xor (bit_xor (bit_xor (register_of words) (later m r)) (later m (later 14 r))) (later m (later 39 r))) (later m (later 54 r))) (later m (later 144 r)) =
    fifth ∙ ap (λ (q : ℕ). bit_xor q (later m (later 144 r))) (fourth ∙ ap (λ (q : ℕ). bit_xor q (later m (later 54 r))) (third ∙ ap (λ (q : ℕ). bit_xor q (later m (later 39 r))) (second ∙ ap (λ (q : ℕ). bit_xor q (later m (later 14 r))) first))) in
    let whole : later (length words) r ≡ bit_xor (bit_xor (bit_xor (bit_xor (later m r) (later m (later 14 r))) (later m (later 39 r))) (later m (later 54 r))) (later m (later 144 r)) =
    ap (λ (q : ℕ). later q r) (sym k) ∙ later_later 209 m r ∙ ap (later m) (farthest word) ∙ later_five m r (later 14 r) (later 39 r) (later 54 r) (later 144 r) in
    all ∙ sym (xor_five (register_of words) (later m r) (later m (later 14 r)) (later m (later 39 r)) (later m (later 54 r)) (later m (later 144 r)))
    ∙ ap (bit_xor (register_of words)) (sym whole) ∙ sym (after_word word words)

later_seven : (n r a b c d e f : ℕ) → later n (bit_xor (bit_xor (bit_xor (bit_xor (bit_xor (bit_xor r a) b) c) d) e) f) ≡ bit_xor (bit_xor (bit_xor (bit_xor (bit_xor (bit_xor (later n r) (later n a)) (later n b)) (later n c)) (later n d)) (later n e)) (later n f)
later_seven n r a b c d e f =
    later_sum n (bit_xor (bit_xor (bit_xor (bit_xor (bit_xor r a) b) c) d) e) f
    ∙ ap (λ (q : ℕ). bit_xor q (later n f)) (later_sum n (bit_xor (bit_xor (bit_xor (bit_xor r a) b) c) d) e
    ∙ ap (λ (q : ℕ). bit_xor q (later n e)) (later_five n r a b c d))

-- a part that comes so much later
part : (word m n k place old new : ℕ) → n - 1 - place ≡ k + m → new ≡ bit_xor old (later (n - 1 - place) (taken word)) → new ≡ bit_xor old (later m (later k (taken word)))
part word m n k place old new e is = is ∙ ap (bit_xor old) (ap (λ (q : ℕ). later q (taken word)) e ∙ later_later k m (taken word))

-- a word that is added to seven later words has the same part in the register as before them
pub seven_added : (word : ℕ) (words : List ℕ) (n a b c d e f g : ℕ) → n ≡ length words → 79 ≤ n →
    a ≡ bit_xor (register_of words) (later (n - 1 - 78) (taken word)) → b ≡ bit_xor a (later (n - 1 - 77) (taken word)) → c ≡ bit_xor b (later (n - 1 - 66) (taken word)) →
    d ≡ bit_xor c (later (n - 1 - 60) (taken word)) → e ≡ bit_xor d (later (n - 1 - 20) (taken word)) → f ≡ bit_xor e (later (n - 1 - 7) (taken word)) → g ≡ bit_xor f (later (n - 1 - 3) (taken word)) →
    g ≡ register_of (word ∷ words)
seven_added word words n a b c d e f g same room ha hb hc hd he hf hg =
    let m = n - 79 in
    let r = taken word in
    let first : n - 1 - 78 ≡ m = omega arith in
    let k : 79 + m ≡ length words = omega arith in
    let added = λ (old new t : ℕ) (is : new ≡ bit_xor old t) (q : ℕ) (was : old ≡ q). is ∙ ap (λ (x : ℕ). bit_xor x t) was in
    let all : g ≡ bit_xor (bit_xor (bit_xor (bit_xor (bit_xor (bit_xor (bit_xor (register_of words) (later m r)) (later m (later 1 r))) (later m (later 12 r))) (later m (later 18 r))) (later m (later 58 r))) (later m (later 71 r))) (later m (later 75 r)) =
    added f g (later m (later 75 r)) (part word m n 75 3 f g (omega arith) hg) _
    (added e f (later m (later 71 r)) (part word m n 71 7 e f (omega arith) hf) _
    (added d e (later m (later 58 r)) (part word m n 58 20 d e (omega arith) he) _
    (added c d (later m (later 18 r)) (part word m n 18 60 c d (omega arith) hd) _
    (added b c (later m (later 12 r)) (part word m n 12 66 b c (omega arith) hc) _
    (added a b (later m (later 1 r)) (part word m n 1 77 a b (omega arith) hb) _
    (ha ∙ ap (λ (q : ℕ). bit_xor (register_of words) (later q r)) first)))))) in
    let whole : later (length words) r ≡ bit_xor (bit_xor (bit_xor (bit_xor (bit_xor (bit_xor (later m r) (later m (later 1 r))) (later m (later 12 r))) (later m (later 18 r))) (later m (later 58 r))) (later m (later 71 r))) (later m (later 75 r)) =
    ap (λ (q : ℕ). later q r) (sym k) ∙ later_later 79 m r ∙ ap (later m) (nearest word) ∙ later_seven m r (later 1 r) (later 12 r) (later 18 r) (later 58 r) (later 71 r) (later 75 r) in
    all ∙ sym (xor_seven (register_of words) (later m r) (later m (later 1 r)) (later m (later 12 r)) (later m (later 18 r)) (later m (later 58 r)) (later m (later 71 r)) (later m (later 75 r)))
    ∙ ap (bit_xor (register_of words)) (sym whole) ∙ sym (after_word word words)
