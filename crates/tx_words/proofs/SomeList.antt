-- Any words have a list of sent packets.
use Rattle.std.proofs.Common.{◌≡◌, ℕ, zero, suc, ◌+◌, ◌==◌, ◌&&◌, refl, sym, ap, ◌∙◌, cond, true, false, Bool, List, [], ◌∷◌, ◌++◌, append_assoc, map, length, count_by, All, arith, eq-eqb}
use Rattle.std.proofs.Math.Seq.{take-append_seam}
use Rattle.std.proofs.lemmas.List.{length_push}
use Rattle.lk_base.specs.Fields.{channel_number, has_burst, has_sop}
use Rattle.lk_base.specs.declared.word.Word.{Word}
use Rattle.lk_base.specs.declared.word.Word.TheVariants.{Data, Control}
use Rattle.receive_model.proofs.Cuts.{split}
use Rattle.tx_words.specs.declared.sent.Sent.{Sent}
use Rattle.tx_words.specs.Sent.{starts, starts_on, slots_where, IsSent}
use Rattle.tx_words.specs.SentLaw.{SomeList}
use Rattle.tx_words.proofs.Listing.{is_last, is_last-control, end_in, end-found, inside, starts-seam}

-- the packet whose SOP word, with this payload, stands after p and before q
abbrev sent_at : List Word → ℕ → List Word → Sent
sent_at p y q = record {
  channel = channel_number true y;
  number = count_by (starts_on (channel_number true y)) p;
  first = length p;
  last = end_in (channel_number true y) true (length p + 1) q;
}

-- those that start in q, where p stands before q
abbrev listed_in : List Word → List Word → List Sent
listed_in p [] = []
listed_in p (Data x ∷ q) = listed_in (p ++ Data x ∷ []) q
listed_in p (Control y ∷ q) = cond (has_burst y && has_sop y) (sent_at p y q ∷ listed_in (p ++ Control y ∷ []) q) (listed_in (p ++ Control y ∷ []) q)

firsts_in : (p q : List Word) → map (λ (s : Sent). s.first) (listed_in p q) ≡ slots_where starts (length p) q
firsts_in p [] = refl
firsts_in p (Data x ∷ q) = rw (length_push p (Data x)) at (firsts_in (p ++ Data x ∷ []) q)
firsts_in p (Control y ∷ q) =
    let rest = rw (length_push p (Control y)) at (firsts_in (p ++ Control y ∷ []) q) in
    split (has_burst y && has_sop y)
    (λ h. rw h (ap (λ (ns : List ℕ). length p ∷ ns) rest))
    (λ h. rw h rest)

burst_of : (a b : Bool) → (a && b) ≡ true → a ≡ true
burst_of true b h = refl
burst_of false b h = cc

starts_too : (y : ℕ) → (has_burst y && has_sop y) ≡ true → starts_on (channel_number true y) (Control y) ≡ true
starts_too y h = by (has_burst y) (has_sop y) (channel_number true y == channel_number true y) h (eq-eqb (channel_number true y) (channel_number true y) refl)
  where
    by : (a b c : Bool) → (a && b) ≡ true → c ≡ true → (a && (b && c)) ≡ true
    by true true true h k = refl
    by true true false h k = cc
    by true false c h k = cc
    by false b c h k = cc

is_sent_at : (p : List Word) (y : ℕ) (q : List Word) → (has_burst y && has_sop y) ≡ true → IsSent (p ++ Control y ∷ q) (sent_at p y q)
is_sent_at p y q h =
    let c : ℕ = channel_number true y in
    let same : (p ++ Control y ∷ []) ++ q ≡ p ++ Control y ∷ q = append_assoc p (Control y ∷ []) q in
    let long : length (p ++ Control y ∷ []) ≡ length p + 1 = length_push p (Control y) in
    let burst : has_burst y ≡ true = burst_of (has_burst y) (has_sop y) h in
    let last : is_last c (p ++ Control y ∷ []) ≡ true = is_last-control c y p ∙ rw (burst, eq-eqb (channel_number true y) c refl) refl in
    let found = end-found c (length p) (p ++ Control y ∷ []) q (omega arith) (λ u a b. absurd (omega (arith, long))) in
    record {
      within = inside p (Control y) q;
      starts = starts-seam c p (Control y) q ∙ starts_too y h;
      number = sym (ap (count_by (starts_on c)) (take-append_seam p (Control y ∷ q)));
      last = rw (same, long, last) at found;
    }

all_cons : (P : Sent → Type 0) (s : Sent) (rest : List Sent) → P s → All P rest → All P (s ∷ rest)
all_cons P s rest h more zero d l = h
all_cons P s rest h more (suc k) d l = more k d (omega arith)

each_in : (p q : List Word) → All (IsSent (p ++ q)) (listed_in p q)
each_in p [] = λ k d l. absurd (omega arith)
each_in p (Data x ∷ q) = rw (append_assoc p (Data x ∷ []) q) at (each_in (p ++ Data x ∷ []) q)
each_in p (Control y ∷ q) =
    let w : List Word = p ++ Control y ∷ q in
    let rest : All (IsSent w) (listed_in (p ++ Control y ∷ []) q) = rw (append_assoc p (Control y ∷ []) q) at (each_in (p ++ Control y ∷ []) q) in
    split (has_burst y && has_sop y)
    (λ h. rw h (all_cons (IsSent w) (sent_at p y q) (listed_in (p ++ Control y ∷ []) q) (is_sent_at p y q h) rest))
    (λ h. rw h rest)

pub some_list : SomeList
some_list w = (listed_in [] w, record { firsts = firsts_in [] w; each = each_in [] w })
