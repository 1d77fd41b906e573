-- What `{:08X}` writes of a number below 2 ^ 32.
use Rattle.std.proofs.Common.{◌≡◌, ◌≢◌, ℕ, zero, suc, ◌+◌, ◌-◌, ◌/◌, ◌%◌, ◌^◌, ◌<◌, ◌≤◌, Bool, true, false, cond, List, [], ◌∷◌, ◌++◌, length, replicate, refl, sym, ap, ◌∙◌, arith, append_assoc, add-one}
use Rattle.std.proofs.Math.Nat.{pow-suc}
use Rattle.std.proofs.Math.Dec.{eqb}
use Rattle.std.proofs.lemmas.Bool.{eqb-true, eqb-false}
use Rattle.std.proofs.lemmas.List.{replicate_more, append-nil}
use Rattle.std.specs.Fmt.{digits, digits_onto, digit_glyph, padded_integral, format_spec, char_count}
use Rattle.pcap_files.specs.Texts.{eight_hex_digits}

abbrev glyph : ℕ → ℕ
glyph n = digit_glyph true (n % 16)

-- the last k digits of n, before others
abbrev hex : ℕ → ℕ → List ℕ → List ℕ
hex zero n acc = acc
hex (suc k) n acc = hex k (n / 16) (glyph n ∷ acc)

one_more : (k glyph : ℕ) → replicate k glyph ++ glyph ∷ [] ≡ replicate (suc k) glyph
one_more k glyph = replicate_more k glyph ∙ ap (λ (m : ℕ). replicate m glyph) (add-one k)

zeros : (k : ℕ) (acc : List ℕ) → hex k 0 acc ≡ replicate k 48 ++ acc
zeros zero acc = refl
zeros (suc k) acc = zeros k (48 ∷ acc) ∙ sym (append_assoc (replicate k 48) (48 ∷ []) acc) ∙ ap (λ (l : List ℕ). l ++ acc) (one_more k 48)

-- the digits after as many zeros as they lack of k
filled : ℕ → List ℕ → List ℕ → List ℕ
filled k acc ds = replicate (k + length acc - length ds) 48 ++ ds

filled-last : (k n : ℕ) (acc : List ℕ) → n / 16 ≡ 0 → filled (suc k) acc (glyph n ∷ acc) ≡ hex (suc k) n acc
unfolding filled
filled-last k n acc e =
    let left : suc k + length acc - length (glyph n ∷ acc) ≡ k = omega arith in
    ap (λ (m : ℕ). replicate m 48 ++ glyph n ∷ acc) left ∙ sym (zeros k (glyph n ∷ acc)) ∙ ap (λ (m : ℕ). hex k m (glyph n ∷ acc)) (sym e)

filled-more : (k n : ℕ) (acc ds : List ℕ) → filled k (glyph n ∷ acc) ds ≡ hex k (n / 16) (glyph n ∷ acc) → filled (suc k) acc ds ≡ hex (suc k) n acc
unfolding filled
filled-more k n acc ds h =
    let same : suc k + length acc - length ds ≡ k + length (glyph n ∷ acc) - length ds = omega arith in
    ap (λ (m : ℕ). replicate m 48 ++ ds) same ∙ h

smaller : (k n : ℕ) → n < 16 ^ suc k → n / 16 < 16 ^ k
smaller k n h = let e = pow-suc 16 k in omega arith

by_test : (f k n : ℕ) (acc : List ℕ) (b : Bool) → eqb (n / 16) 0 ≡ b → (n / 16 ≢ 0 → filled k (glyph n ∷ acc) (digits_onto f 16 true (n / 16) (glyph n ∷ acc)) ≡ hex k (n / 16) (glyph n ∷ acc)) → filled (suc k) acc (cond b (glyph n ∷ acc) (digits_onto f 16 true (n / 16) (glyph n ∷ acc))) ≡ hex (suc k) n acc
by_test f k n acc true e h = filled-last k n acc (eqb-true (n / 16) 0 e)
by_test f k n acc false e h = filled-more k n acc (digits_onto f 16 true (n / 16) (glyph n ∷ acc)) (h (eqb-false (n / 16) 0 e))

padded-hex : (f k n : ℕ) (acc : List ℕ) → n < 16 ^ k → 0 < k → k ≤ f → filled k acc (digits_onto f 16 true n acc) ≡ hex k n acc
padded-hex f zero n acc small some le = absurd (omega arith)
padded-hex zero (suc k) n acc small some le = absurd (omega arith)
padded-hex (suc f) (suc zero) n acc small some le = by_test f zero n acc (eqb (n / 16) 0) refl (λ ne. absurd (omega arith))
padded-hex (suc f) (suc (suc k)) n acc small some le =
    by_test f (suc k) n acc (eqb (n / 16) 0) refl
    (λ ne. padded-hex f (suc k) (n / 16) (glyph n ∷ acc) (smaller (suc k) n small) (omega arith) (omega arith))

-- the digits stand after zeros
laid : (ds : List ℕ) → padded_integral (format_spec 32 0 4 8 (2 ^ 64 - 1)) false [] ds ≡ filled 8 [] ds
unfolding padded_integral char_count filled
laid ds = let e : 8 - length ds - 0 - 0 ≡ 8 + 0 - length ds = omega arith in ap (λ (m : ℕ). replicate m 48 ++ (ds ++ [])) e ∙ ap (λ (l : List ℕ). replicate (8 + 0 - length ds) 48 ++ l) (append-nil ds)

eight-digits : (n : ℕ) → hex 8 n [] ≡ eight_hex_digits n
eight-digits n =
    let e : n / 1 ≡ n = omega arith in
    let a : n / 16 / 16 ≡ n / 256 = omega arith in
    let b : n / 16 / 16 / 16 ≡ n / 4096 = omega arith in
    let c : n / 16 / 16 / 16 / 16 ≡ n / 65536 = omega arith in
    let d : n / 16 / 16 / 16 / 16 / 16 ≡ n / 1048576 = omega arith in
    let f : n / 16 / 16 / 16 / 16 / 16 / 16 ≡ n / 16777216 = omega arith in
    let g : n / 16 / 16 / 16 / 16 / 16 / 16 / 16 ≡ n / 268435456 = omega arith in
    rw (g, f, d, c, b, a, e) refl

of_digits : (f base n : ℕ) → f ≡ 64 → digits_onto f base true n [] ≡ digits base true n
unfolding digits
of_digits f base n e = ap (λ (k : ℕ). digits_onto k base true n []) e

pub eight : (n : ℕ) → n < 2 ^ 32 → padded_integral (format_spec 32 0 4 8 (2 ^ 64 - 1)) false [] (digits 16 true n) ≡ eight_hex_digits n
eight n small = whole 64 refl
  where
    whole : (f : ℕ) → f ≡ 64 → padded_integral (format_spec 32 0 4 8 (2 ^ 64 - 1)) false [] (digits 16 true n) ≡ eight_hex_digits n
    whole f e = laid (digits 16 true n) ∙ ap (filled 8 []) (sym (of_digits f 16 n e)) ∙ padded-hex f 8 n [] small (omega arith) (omega arith) ∙ eight-digits n
