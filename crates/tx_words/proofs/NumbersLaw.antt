-- Each listed packet is that of its number, and no more are listed than there are.
use Rattle.std.proofs.Common.{◌≡◌, ℕ, zero, suc, ◌+◌, ◌<◌, ◌≤◌, ◌==◌, ◌&&◌, refl, sym, ap, ◌∙◌, subst, cond, true, false, Bool, List, [], ◌∷◌, ◌++◌, append_assoc, filter, flat_map, take, drop, length, get_or, nat_lt, slice_get, count_by, Some, arith, eqb-true}
use Rattle.std.proofs.Math.Seq.{drop-cons}
use Rattle.std.proofs.lemmas.Bool.{and_parts, eqb-false, ltb-true, ltb-false}
use Rattle.std.proofs.lemmas.List.{length-map, take-append-drop}
use Rattle.std.proofs.lemmas.List.Sums.{sum_by-cons, length-filter, count_by-le-length}
use Rattle.lk_base.specs.Words.{word_at}
use Rattle.lk_base.specs.Fields.{channel_number, has_burst, has_sop}
use Rattle.lk_base.specs.declared.word.Word.{Word}
use Rattle.lk_base.specs.declared.word.Word.TheVariants.{Data, Control}
use Rattle.receive_model.proofs.Cuts.{split}
use Rattle.stream_model.specs.BurstStream.{Source, next_chunk, chunk_of_burst, chunks_by, packets_of, bursts_in}
use Rattle.stream_model.proofs.OneStream.{good_of}
use Rattle.tx_words.specs.Sent.{starts, starts_on}
use Rattle.tx_words.specs.SentLaw.{EachHasBytes, NumbersArePackets, StartsAreFew}
use Rattle.tx_words.proofs.Slots.{have_bytes}
use Rattle.tx_words.proofs.Numbers.{Follows, follows, none, counted, chunk_next, begins, few_firsts, firsts}

-- the packet that an SOP word after the words p starts
record Begun (source : Source) (channel : ℕ) (p : List Word) (word : Word) : Type 0 where
  packet : List ℕ
  named : slice_get (packets_of source channel) (count_by (starts_on channel) p) ≡ Some packet
  first : chunk_of_burst source p word ≡ Some (next_chunk source.shape.burst_max source.shape.burst_min true packet)
  before : bursts_in p channel ≡ length (flat_map (chunks_by source.shape) (take (count_by (starts_on channel) p) (packets_of source channel)))

begun : (source : Source) (channel : ℕ) (p : List Word) (word : Word) (q : List Word) → EachHasBytes source → Follows source (p ++ word ∷ q) → starts_on channel word ≡ true → Begun source channel p word
begun source channel p (Data x) q each f h = cc
begun source channel p (Control x) q each f h =
    let one = and_parts (has_burst x) (has_sop x && (channel_number true x == channel)) h in
    let two = and_parts (has_sop x) (channel_number true x == channel) one.1 in
    let c = counted source channel [] p (Control x ∷ q) f (none source channel) in
    let n = chunk_next source channel p x q f (rw (one.0, two.1) refl) in
    let b = begins source.shape (packets_of source channel) (bursts_in p channel) n.0 (have_bytes channel source.packets each) n.1 (sym n.2 ∙ two.0) in
    let number : count_by (starts_on channel) p ≡ firsts (take (bursts_in p channel) (flat_map (chunks_by source.shape) (packets_of source channel))) = c.number in
    record {
      packet = b.packet;
      named = ap (slice_get (packets_of source channel)) number ∙ b.named;
      first = n.3 ∙ ap Some b.first;
      before = b.place ∙ ap (λ k. length (flat_map (chunks_by source.shape) (take k (packets_of source channel)))) (sym number);
    }

cut_at : (l : List Word) (i : ℕ) (d : Word) → i < length l → l ≡ take i l ++ get_or l i d ∷ drop (suc i) l
cut_at l i d h = sym (take-append-drop i l) ∙ ap (λ r. take i l ++ r) (drop-cons l i d h)

-- the first words of a stream, up to and with a slot among them
cut_in : (w : List Word) (t i : ℕ) (d : Word) → i < length (take t w) → w ≡ take i (take t w) ++ get_or (take t w) i d ∷ (drop (suc i) (take t w) ++ drop t w)
cut_in w t i d h =
    sym (take-append-drop t w) ∙ ap (λ v. v ++ drop t w) (cut_at (take t w) i d h)
    ∙ append_assoc (take i (take t w)) (get_or (take t w) i d ∷ drop (suc i) (take t w)) (drop t w)

pub numbers_are_packets : NumbersArePackets
numbers_are_packets source w t s each stream is =
    let f : Follows source w = follows source w (good_of source w stream) in
    let g = subst (Follows source) (cut_in w t s.first (Control 0) is.within) f in
    let b = begun source s.channel (take s.first (take t w)) (word_at (take t w) s.first) (drop (suc s.first) (take t w) ++ drop t w) each g is.starts in
    record {
      packet = b.packet;
      named = ap (slice_get (packets_of source s.channel)) is.number ∙ b.named;
      first = b.first;
      before = b.before ∙ ap (λ k. length (flat_map (chunks_by source.shape) (take k (packets_of source s.channel)))) (sym is.number);
    }

-- ---- how many there are

-- on one channel
few_on : (source : Source) (channel : ℕ) (p q : List Word) → EachHasBytes source → Follows source (p ++ q) → count_by (starts_on channel) p ≤ count_by (λ (r : ℕ × List ℕ). r.0 == channel) source.packets
few_on source channel p q each f =
    let c = counted source channel [] p q f (none source channel) in
    let few = few_firsts source.shape (packets_of source channel) (bursts_in p channel) (have_bytes channel source.packets each) in
    let on : ℕ × List ℕ → Bool = λ r. r.0 == channel in
    let size : length (packets_of source channel) ≡ count_by on source.packets = length-map (filter on source.packets) (λ (r : ℕ × List ℕ). r.1) ∙ length-filter on source.packets in
    by _ _ _ _ c.number few size
  where
    by : (a b c d : ℕ) → a ≡ b → b ≤ c → c ≡ d → a ≤ d
    by a b c d e h g = omega arith

add_counts : {X : Type 0} (r p q : X → Bool) → ((x : X) → cond (r x) 1 0 ≡ cond (p x) 1 0 + cond (q x) 1 0) → (xs : List X) → count_by r xs ≡ count_by p xs + count_by q xs
add_counts r p q h [] = refl
add_counts r p q h (x ∷ xs) =
    let a = sum_by-cons (λ v. cond (r v) 1 0) x xs in
    let b = sum_by-cons (λ v. cond (p v) 1 0) x xs in
    let c = sum_by-cons (λ v. cond (q v) 1 0) x xs in
    let i = add_counts r p q h xs in
    let here = h x in
    omega (arith, a, b, c, i, here)

-- below one number more
more_below : (c n : ℕ) → cond (nat_lt c (suc n)) 1 0 ≡ cond (nat_lt c n) 1 0 + cond (c == n) 1 0
more_below c n = split (nat_lt c n)
    (λ l. let a : c < n = ltb-true c n l in split (c == n)
    (λ e. let b : c ≡ n = eqb-true c n e in absurd (omega arith))
    (λ e. split (nat_lt c (suc n)) (λ m. rw (l, e, m) refl) (λ m. let b : suc n ≤ c = ltb-false c (suc n) m in absurd (omega arith))))
    (λ l. let a : n ≤ c = ltb-false c n l in split (c == n)
    (λ e. let b : c ≡ n = eqb-true c n e in split (nat_lt c (suc n)) (λ m. rw (l, e, m) refl) (λ m. let d : suc n ≤ c = ltb-false c (suc n) m in absurd (omega arith)))
    (λ e. split (nat_lt c (suc n)) (λ m. let d : c < suc n = ltb-true c (suc n) m in absurd (eqb-false c n e (omega arith))) (λ m. rw (l, e, m) refl)))

abbrev starts_below : ℕ → Word → Bool
starts_below n (Data x) = false
starts_below n (Control x) = has_burst x && (has_sop x && nat_lt (channel_number true x) n)

one_more : (n : ℕ) (word : Word) → cond (starts_below (suc n) word) 1 0 ≡ cond (starts_below n word) 1 0 + cond (starts_on n word) 1 0
one_more n (Data x) = refl
one_more n (Control x) = by (has_burst x) (has_sop x)
  where
    by : (a b : Bool) → cond (a && (b && nat_lt (channel_number true x) (suc n))) 1 0 ≡ cond (a && (b && nat_lt (channel_number true x) n)) 1 0 + cond (a && (b && (channel_number true x == n))) 1 0
    by true true = more_below (channel_number true x) n
    by true false = refl
    by false b = refl

none_below : (word : Word) → starts_below 0 word ≡ false
none_below (Data x) = refl
none_below (Control x) = by (has_burst x) (has_sop x)
  where
    by : (a b : Bool) → (a && (b && nat_lt (channel_number true x) 0)) ≡ false
    by true true = split (nat_lt (channel_number true x) 0) (λ h. let l : channel_number true x < 0 = ltb-true (channel_number true x) 0 h in absurd (omega arith)) (λ h. h)
    by true false = refl
    by false b = refl

no_counts : (v : List Word) → count_by (starts_below 0) v ≡ 0
no_counts [] = refl
no_counts (word ∷ v) =
    let a = sum_by-cons (λ w. cond (starts_below 0 w) 1 0) word v in
    let b = no_counts v in
    let here : ℕ = cond (starts_below 0 word) 1 0 in
    let c : here ≡ 0 = rw (none_below word) refl in
    omega (arith, a, b, c)

all_below : (source : Source) (p q : List Word) (n : ℕ) → EachHasBytes source → Follows source (p ++ q) → count_by (starts_below n) p ≤ count_by (λ (r : ℕ × List ℕ). nat_lt r.0 n) source.packets
all_below source p q zero each f = let z = no_counts p in omega (arith, z)
all_below source p q (suc n) each f =
    let a = add_counts (starts_below (suc n)) (starts_below n) (starts_on n) (one_more n) p in
    let b = add_counts (λ (r : ℕ × List ℕ). nat_lt r.0 (suc n)) (λ (r : ℕ × List ℕ). nat_lt r.0 n) (λ (r : ℕ × List ℕ). r.0 == n) (λ r. more_below r.0 n) source.packets in
    let c = all_below source p q n each f in
    let d = few_on source n p q each f in
    omega (arith, a, b, c, d)

below_all : (word : Word) → starts word ≡ starts_below 65536 word
below_all (Data x) = refl
below_all (Control x) =
    let low : channel_number true x < 65536 = omega arith in
    split (nat_lt (channel_number true x) 65536)
    (λ m. rw m (by (has_burst x) (has_sop x)))
    (λ m. let h : 65536 ≤ channel_number true x = ltb-false (channel_number true x) 65536 m in absurd (omega arith))
  where
    by : (a b : Bool) → (a && b) ≡ (a && (b && true))
    by true true = refl
    by true false = refl
    by false b = refl

same_counts : {X : Type 0} (p q : X → Bool) → ((x : X) → p x ≡ q x) → (xs : List X) → count_by p xs ≡ count_by q xs
same_counts p q h [] = refl
same_counts p q h (x ∷ xs) = sum_by-cons (λ v. cond (p v) 1 0) x xs ∙ rw (h x, same_counts p q h xs) refl ∙ sym (sum_by-cons (λ v. cond (q v) 1 0) x xs)

pub few_words : (source : Source) (p q : List Word) → EachHasBytes source → Follows source (p ++ q) → count_by starts p ≤ length source.packets
few_words source p q each f =
    let a = same_counts starts (starts_below 65536) below_all p in
    let b = all_below source p q 65536 each f in
    let c = count_by-le-length (λ (r : ℕ × List ℕ). nat_lt r.0 65536) source.packets in
    omega (arith, a, b, c)

pub starts_are_few : StartsAreFew
starts_are_few source w t each stream =
    few_words source (take t w) (drop t w) each (subst (Follows source) (sym (take-append-drop t w)) (follows source w (good_of source w stream)))
