-- The last group of words is filled in one way.
use Rattle.std.proofs.Common.{◌≡◌, ℕ, ◌+◌, ◌-◌, ◌*◌, ◌/◌, ◌%◌, ◌<◌, ◌≤◌, ◌⊎◌, inl, inr, List, ◌++◌, length, replicate, refl, sym, ap, ◌∙◌, arith, length-append, append-nil, mul-le-mul}
use Rattle.std.proofs.Math.Nat.{mul-mod_right}
use Rattle.std.proofs.lemmas.Bool.{cases_lt}
use Rattle.std.proofs.lemmas.List.{length-replicate}
use Rattle.std.proofs.lemmas.Nat.{div-add-mod', mod_below}
use Rattle.lk_base.specs.Link.{Settings, group_of}
use Rattle.lk_base.specs.declared.word.Word.{Word}
use Rattle.lane_commands.specs.Stripe.{Stripes, filler}

-- ---- how many words fill a group

-- what lacks to the next whole group
pub lacking_whole : (n g : ℕ) → 0 < g → (n + (g - n % g)) % g ≡ 0
lacking_whole n g some =
    let below : n % g < g = mod_below n g some in
    let split : n / g * g + n % g ≡ n = div-add-mod' n g in
    let next : g * (n / g + 1) ≡ n / g * g + g = omega arith in
    let e : n + (g - n % g) ≡ g * (n / g + 1) = omega (arith, below, split, next) in
    ap (λ m. m % g) e ∙ mul-mod_right g (n / g + 1)

less_whole : (n a b q p g : ℕ) → q * g ≡ n + a → p * g ≡ n + b → b < g → q < p → ⊥
less_whole n a b q p g e f lt less =
    let more : (q + 1) * g ≤ p * g = mul-le-mul (omega (arith, less)) (omega arith) in
    let one : (q + 1) * g ≡ q * g + g = omega arith in
    omega (arith, more, one, e, f, lt)

groups_of : (m g : ℕ) → m % g ≡ 0 → m / g * g ≡ m
groups_of m g e = let split = div-add-mod' m g in omega (arith, split, e)

same_by : (n a b q p g : ℕ) → q * g ≡ n + a → p * g ≡ n + b → a < g → b < g → (q < p) ⊎ (p ≤ q) → (p < q) ⊎ (q ≤ p) → a ≡ b
same_by n a b q p g e f la lb (inl less) y = absurd (less_whole n a b q p g e f lb less)
same_by n a b q p g e f la lb (inr ge) (inl less) = absurd (less_whole n b a p q g f e la less)
same_by n a b q p g e f la lb (inr ge) (inr le) =
    let same : q ≡ p = omega (arith, ge, le) in
    let times : q * g ≡ p * g = ap (λ x. x * g) same in
    omega (arith, times, e, f)

pub one_count : (n a b g : ℕ) → a < g → b < g → (n + a) % g ≡ 0 → (n + b) % g ≡ 0 → a ≡ b
one_count n a b g la lb ea eb =
    let q = (n + a) / g in
    let p = (n + b) / g in
    same_by n a b q p g (groups_of (n + a) g ea) (groups_of (n + b) g eb) la lb (cases_lt q p) (cases_lt p q)

-- ---- words and their fillers

filled_length : (words stream : List Word) (n : ℕ) → stream ≡ words ++ replicate n filler → length stream ≡ length words + n
filled_length words stream n e = ap length e ∙ length-append words (replicate n filler) ∙ ap (λ k. length words + k) (length-replicate n filler)

pub stripe_once : (s : Settings) (words a b : List Word) → Stripes s words a → Stripes s words b → a ≡ b
stripe_once s words a b h k =
    let g = group_of s in
    let na : (length words + h.fillers) % g ≡ 0 = ap (λ n. n % g) (sym (filled_length words a h.fillers h.is)) ∙ h.whole in
    let nb : (length words + k.fillers) % g ≡ 0 = ap (λ n. n % g) (sym (filled_length words b k.fillers k.is)) ∙ k.whole in
    let same : h.fillers ≡ k.fillers = one_count (length words) h.fillers k.fillers g h.few k.few na nb in
    h.is ∙ ap (λ n. words ++ replicate n filler) same ∙ sym k.is

-- this many fillers are right
pub stripes_by : (s : Settings) (words stream : List Word) (n : ℕ) → n < group_of s → stream ≡ words ++ replicate n filler → (length words + n) % group_of s ≡ 0 → Stripes s words stream
stripes_by s words stream n few is whole = record {
  fillers = n;
  few = few;
  is = is;
  whole = ap (λ k. k % group_of s) (filled_length words stream n is) ∙ whole;
}

-- whole groups are not filled
pub stripes_whole : (s : Settings) (words : List Word) → 0 < group_of s → length words % group_of s ≡ 0 → Stripes s words words
stripes_whole s words some whole = record { fillers = 0; few = some; is = sym (append-nil words); whole = whole }

some_by : (s : Settings) (words : List Word) → 0 < group_of s → (length words % group_of s < 1) ⊎ (1 ≤ length words % group_of s) → (stream : List Word) × Stripes s words stream
some_by s words some (inl none) = (words, stripes_whole s words some (omega (arith, none)))
some_by s words some (inr over) =
    let n = group_of s - length words % group_of s in
    (words ++ replicate n filler, stripes_by s words (words ++ replicate n filler) n (omega (arith, over, some)) refl (lacking_whole (length words) (group_of s) some))

pub stripe_some : (s : Settings) (words : List Word) → 0 < group_of s → (stream : List Word) × Stripes s words stream
stripe_some s words some = some_by s words some (cases_lt (length words % group_of s) 1)
