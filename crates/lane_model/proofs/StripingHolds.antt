-- Which words a lane gets.
use Rattle.std.proofs.Common.{ℕ, ◌≡◌, sym, ◌∙◌, ◌+◌, ◌-◌, ◌*◌, ◌<◌, ◌≤◌, List, length, get_or, arith, inl, inr}
use Rattle.std.proofs.Math.Nat.{le-div_iff_mul-le}
use Rattle.std.proofs.lemmas.Bool.{cases_lt}
use Rattle.std.proofs.lemmas.List.{get_or_default, get_or_past}
use Rattle.std.proofs.lemmas.List.FromFn.{length-map-range_with_len, get_or-map-range_with_len}
use Rattle.lk_base.specs.declared.word.Word.{Word}
use Rattle.lk_base.specs.declared.word.Word.TheVariants.{Data}
use Rattle.lane_model.specs.Striping.{share, lane_payload}
use Rattle.lane_model.specs.StripingLaw.{WordsAreStriped}

-- the words of a lane reach its word at place n exactly where the words reach the number of that word
pub share-above : (lanes total i n : ℕ) → i < lanes → n < share lanes total i → n * lanes + i < total
share-above lanes total i n h k =
    let x : (n + 1) * lanes ≤ total + (lanes - 1 - i) = (le-div_iff_mul-le {k = lanes} {x = n + 1} {y = total + (lanes - 1 - i)} (omega arith)).0 (omega arith) in
    let e : (n + 1) * lanes ≡ n * lanes + lanes = omega arith in
    omega (arith, x, e)

pub share-below : (lanes total i n : ℕ) → i < lanes → n * lanes + i < total → n < share lanes total i
share-below lanes total i n h k =
    let e : (n + 1) * lanes ≡ n * lanes + lanes = omega arith in
    let x : n + 1 ≤ share lanes total i = (le-div_iff_mul-le {k = lanes} {x = n + 1} {y = total + (lanes - 1 - i)} (omega arith)).1 (omega (arith, e)) in
    omega (arith, x)

pub length-lane_payload : (lanes : ℕ) (words : List Word) (i : ℕ) → length (lane_payload lanes words i) ≡ share lanes (length words) i
length-lane_payload lanes words i = length-map-range_with_len (λ n. get_or words (n * lanes + i) (Data 0)) 0 (share lanes (length words) i)

there : (lanes : ℕ) (words : List Word) (i n : ℕ) (d : Word) → n < share lanes (length words) i → n * lanes + i < length words → get_or (lane_payload lanes words i) n d ≡ get_or words (n * lanes + i) d
there lanes words i n d h k =
    get_or-map-range_with_len (λ m. get_or words (m * lanes + i) (Data 0)) 0 (share lanes (length words) i) n n d h (omega arith)
    ∙ get_or_default words (n * lanes + i) (Data 0) d k

past : (lanes : ℕ) (words : List Word) (i n : ℕ) (d : Word) → share lanes (length words) i ≤ n → length words ≤ n * lanes + i → get_or (lane_payload lanes words i) n d ≡ get_or words (n * lanes + i) d
past lanes words i n d h k =
    let l : length (lane_payload lanes words i) ≤ n = (let e = length-lane_payload lanes words i in omega (arith, e, h)) in
    get_or_past (lane_payload lanes words i) n d l ∙ sym (get_or_past words (n * lanes + i) d k)

word_is : (lanes : ℕ) (words : List Word) (i n : ℕ) (d : Word) → i < lanes → get_or (lane_payload lanes words i) n d ≡ get_or words (n * lanes + i) d
word_is lanes words i n d h = elim (cases_lt (n * lanes + i) (length words)) [
  | inl k ↦ there lanes words i n d (share-below lanes (length words) i n h k) k
  | inr k ↦ elim (cases_lt n (share lanes (length words) i)) [
    | inl l ↦ let m = share-above lanes (length words) i n h l in absurd (omega (arith, k, m))
    | inr l ↦ past lanes words i n d l k
  ]
]

pub striping_holds : WordsAreStriped
striping_holds = record {
  count = λ lanes words i n h. (
    λ k. share-above lanes (length words) i n h (rw (length-lane_payload lanes words i) at k),
    λ k. rw (length-lane_payload lanes words i) (share-below lanes (length words) i n h k),
  );
  word = word_is;
}
