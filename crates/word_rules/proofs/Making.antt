-- The channels before any word, and the list of words that is left.
use Rattle.std.proofs.Common.{ℕ, zero, suc, ◌+◌, ◌≡◌, ◌≤◌, ◌<◌, ◌==◌, refl, sym, ap, ◌∙◌, subst, Bool, true, false, ◌||◌, List, [], ◌∷◌, ◌++◌, length, get_or, take, drop, reverse, slice_set, slice_get, Option, eqb-true, arith, ap₂, replicate, append_assoc, append-nil}
use Rattle.std.proofs.lemmas.Bool.{eqb-false}
use Rattle.std.proofs.lemmas.List.{get_or-set_same, get_or-set_other, take_more, reverse-append, length-reverse, length-replicate, get_or-replicate, drop_more, drop_all}
use Rattle.std.proofs.lemmas.List.Folds.{list_any_more}
use Rattle.lk_base.specs.declared.word.RxWord.{RxWord}
use Rattle.word_rules.specs.declared.fault.Fault.{Fault}
use Rattle.word_rules.specs.Faults.{Plan, faults_at, faults_from}
use Rattle.receive_model.specs.Lists.{first_of}
use Rattle.word_rules.specs.declared.channel.ChannelState.{ChannelState}
use Rattle.word_rules.specs.Rules.{is_listed}
use Rattle.word_rules.specs.Channels.{none_kept, HasBursts, HasListed}
use Rattle.word_rules.specs.Made.{AreUnused, unused}

or_true : (b : Bool) → true ≡ (b || true)
or_true true = refl
or_true false = refl

or_none : (b : Bool) → b ≡ (b || false)
or_none true = refl
or_none false = refl

pub unused_more : (kept : List ChannelState) (channels : List ℕ) (i c : ℕ) → length kept ≡ 65536 → i < length channels → c ≡ get_or channels i 0 → AreUnused kept (take i channels) → AreUnused (slice_set kept c (unused true)) (take (i + 1) channels)
unused_more kept channels i c all lt is h k small = go (c == k) refl where
  more : (b : Bool) → (c == k) ≡ b → is_listed (take (i + 1) channels) k ≡ (is_listed (take i channels) k || b)
  more b e = list_any_more (λ n. n == k) channels i 0 lt ∙ ap (λ (t : Bool). is_listed (take i channels) k || t) (ap (λ (n : ℕ). n == k) (sym is) ∙ e)

  go : (b : Bool) → (c == k) ≡ b → get_or (slice_set kept c (unused true)) k none_kept ≡ unused (is_listed (take (i + 1) channels) k)
  go true e =
      subst (λ (n : ℕ). get_or (slice_set kept n (unused true)) k none_kept ≡ unused true) (sym (eqb-true c k e)) (get_or-set_same kept k (unused true) none_kept (omega (arith, all)))
      ∙ ap unused (or_true (is_listed (take i channels) k) ∙ sym (more true e))
  go false e =
      get_or-set_other kept c k (unused true) none_kept (λ same. eqb-false c k e (sym same)) ∙ h k small
      ∙ ap unused (or_none (is_listed (take i channels) k) ∙ sym (more false e))

pub unused_bursts : (kept : List ChannelState) (channels : List ℕ) (most : ℕ) (wide : Bool) → AreUnused kept channels → HasBursts kept 0 most wide []
unused_bursts kept channels most wide h k small = rw (h k small) (record { since = omega arith; going = refl; packet = refl })

pub unused_listed : (kept : List ChannelState) (channels : List ℕ) → AreUnused kept channels → HasListed kept channels
unused_listed kept channels h k small = ap (λ (c : ChannelState). c.listed) (h k small)

pub next_is : (k : ℕ) (words : List RxWord) → first_of (drop k words) ≡ slice_get words k
next_is zero [] = refl
next_is zero (w ∷ words) = refl
next_is (suc k) [] = refl
next_is (suc k) (w ∷ words) = next_is k words

pub earlier_more : (words : List RxWord) (i : ℕ) (d : RxWord) → i < length words → reverse (take (i + 1) words) ≡ get_or words i d ∷ reverse (take i words)
earlier_more words i d lt = ap (λ (l : List RxWord). reverse l) (take_more words i d lt) ∙ reverse-append (take i words) (get_or words i d ∷ [])

pub all_first : (n : ℕ) (kept : List ChannelState) → kept ≡ replicate n (unused false) → length kept ≡ n
all_first n kept h = ap (λ (l : List ChannelState). length l) h ∙ length-replicate n (unused false)

pub unused_first : (kept : List ChannelState) (channels : List ℕ) → kept ≡ replicate 65536 (unused false) → AreUnused kept []
unused_first kept channels h k small = ap (λ (l : List ChannelState). get_or l k none_kept) h ∙ get_or-replicate 65536 k (unused false) none_kept small

pub take_whole : (xs : List ℕ) → take (length xs) xs ≡ xs
take_whole [] = refl
take_whole (x ∷ xs) = ap (λ (l : List ℕ). x ∷ l) (take_whole xs)

take_le : (i : ℕ) (words : List RxWord) → length (take i words) ≤ length words
take_le zero words = omega arith
take_le (suc i) [] = omega arith
take_le (suc i) (w ∷ words) = (let h = take_le i words in omega arith)

pub earlier_few : (i n : ℕ) (words : List RxWord) → length words < n → length (reverse (take i words)) < n
earlier_few i n words h = (let k = take_le i words in let r : length (reverse (take i words)) ≡ length (take i words) = length-reverse (take i words) in omega arith)

pub rows_more : (p : Plan) (words : List RxWord) (i : ℕ) (d : RxWord) (found new all : List Fault) (next : Option RxWord) → i < length words → next ≡ slice_get words (i + 1) →
    new ≡ found ++ faults_at p (reverse (take i words)) (get_or words i d) next →
    found ++ faults_from p (reverse (take i words)) (drop i words) ≡ all →
    new ++ faults_from p (reverse (take (i + 1) words)) (drop (i + 1) words) ≡ all
rows_more p words i d found new all next lt is more h =
    let e : List RxWord = reverse (take i words) in
    let w : RxWord = get_or words i d in
    let rest : List RxWord = drop (i + 1) words in
    let after : first_of rest ≡ next = next_is (i + 1) words ∙ sym is in
    ap₂ (λ (l : List Fault) (before : List RxWord). l ++ faults_from p before rest) more (earlier_more words i d lt)
    ∙ append_assoc found (faults_at p e w next) (faults_from p (w ∷ e) rest)
    ∙ ap (λ (o : Option RxWord). found ++ (faults_at p e w o ++ faults_from p (w ∷ e) rest)) (sym after)
    ∙ ap (λ (l : List RxWord). found ++ faults_from p e l) (sym (drop_more words i d lt))
    ∙ h

pub rows_done : (p : Plan) (words : List RxWord) (i : ℕ) (found all : List Fault) → length words ≤ i →
    found ++ faults_from p (reverse (take i words)) (drop i words) ≡ all → found ≡ all
rows_done p words i found all le h =
    sym (append-nil found) ∙ ap (λ (l : List RxWord). found ++ faults_from p (reverse (take i words)) l) (sym (drop_all i words le)) ∙ h
