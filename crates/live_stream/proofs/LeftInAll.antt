-- The packets that are left in all queues are those that are left of all listed channels.
use Rattle.std.proofs.Common.{◌≡◌, ◌≢◌, ◌↔◌, inl, inr, ℕ, ◌+◌, ◌-◌, ◌<◌, ◌==◌, nat_eq, true, false, not, List, [], ◌∷◌, length, filter, get_or, sum_by, Contains, All, refl, sym, ap, ap₂, subst, ◌∙◌, arith}
use Rattle.std.specs.List.{AllPairs, remove}
use Rattle.std.proofs.lemmas.Bool.{cases_eq}
use Rattle.std.proofs.lemmas.Bool.Decides.{nat_tests}
use Rattle.std.proofs.lemmas.List.{get_or_default}
use Rattle.std.proofs.lemmas.List.Quantifiers.{all_pairs_remove}
use Rattle.std.proofs.lemmas.List.Sums.{sum_by-cons, sum_by-remove}
use Rattle.lk_base.specs.declared.word.Word.{Word}
use Rattle.calendar.proofs.States.{first, rest}
use Rattle.calendar.specs.Changes.{told_back}
use Rattle.burst_scheduler.proofs.Lines.{head_in, in_cases, kept_in, none_in, tail_in}
use Rattle.live_stream.specs.LiveStream.{Given}
use Rattle.live_stream.specs.Waiting.{channels_of, left_of}
use Rattle.live_stream.specs.Gives.{Gives, packets_left, planned}
use Rattle.live_stream.specs.declared.scheduler.LiveScheduler.{LiveScheduler}
use Rattle.live_stream.specs.declared.waiting.Waiting.{Waiting}
use Rattle.live_stream.proofs.InTurn.{apart, not_first, remove_is, rest_apart}
use Rattle.live_stream.proofs.More.{counts_at}

-- what is kept but for one number stood there, and is another
out_in : (ch : ℕ) (xs : List ℕ) (c : ℕ) → Contains (filter (λ x. not (x == ch)) xs) c → Contains xs c × (c ≢ ch)
out_in ch [] c h = absurd (none_in c h)
out_in ch (x ∷ xs) c h = elim (cases_eq x ch) [
  | inl e ↦ (let n : nat_eq x ch ≡ true = grind (arith, nat_tests) in let r = out_in ch xs c (rw n at h) in (tail_in x c xs r.0, r.1))
  | inr ne ↦ (
      let n : nat_eq x ch ≡ false = grind (arith, nat_tests) in
      elim (in_cases x c (filter (λ y. not (y == ch)) xs) (rw n at h)) [
        | inl e ↦ (subst (Contains (x ∷ xs)) e (head_in x xs), λ z. ne (e ∙ z))
        | inr i ↦ (let r = out_in ch xs c i in (tail_in x c xs r.0, r.1))
      ])
]

abbrev AreApart : List ℕ → Type 0
AreApart xs = AllPairs (λ (a b : ℕ). a ≡ b → ⊥) xs

-- sums over lists of the same numbers, each of which stands once
sums_same : (p : ℕ → ℕ) (xs ys : List ℕ) → AreApart xs → AreApart ys → ((c : ℕ) → Contains ys c ↔ Contains xs c) → sum_by p ys ≡ sum_by p xs
sums_same p [] [] dx dy same = refl
sums_same p [] (y ∷ ys) dx dy same = absurd (none_in y ((same y).0 (head_in y ys)))
sums_same p (x ∷ xs) ys dx dy same =
    let here : Contains ys x = (same x).1 (head_in x xs) in
    let k : ℕ = here.0 in
    let inside : k < length ys = here.1 in
    let at : get_or ys k 0 ≡ x = get_or_default ys k 0 x inside ∙ here.2 in
    let cut : remove ys k ≡ filter (λ c. not (c == x)) ys = remove_is ys k dy inside ∙ ap (λ n. filter (λ c. not (c == n)) ys) at in
    let others : (c : ℕ) → Contains (remove ys k) c ↔ Contains xs c = λ c. (
      λ h. (let r = out_in x ys c (subst (λ zs. Contains zs c) cut h) in elim (in_cases x c xs ((same c).0 r.0)) [ inl e ↦ absurd (r.1 (sym e)) | inr i ↦ i ]),
      λ h. subst (λ zs. Contains zs c) (sym cut) (kept_in x ys c ((same c).1 (tail_in x c xs h)) (λ e. not_first x xs dx (subst (Contains xs) e h))),
    ) in
    let rest_same : sum_by p (remove ys k) ≡ sum_by p xs = sums_same p xs (remove ys k) (rest_apart x xs dx) (all_pairs_remove (λ (a b : ℕ). a ≡ b → ⊥) ys k inside dy) others in
    let all = sum_by-remove p ys k 0 inside in
    let one : p (get_or ys k 0) ≡ p x = ap p at in
    let whole = sum_by-cons p x xs in
    omega (arith, all, one, whole, rest_same)

-- a sum over queues is one over their channels
of_channels : (f : Waiting → ℕ) (p : ℕ → ℕ) (turns : List Waiting) → All (λ (q : Waiting). f q ≡ p q.channel) turns → sum_by f turns ≡ sum_by p (channels_of turns)
of_channels f p [] a = refl
of_channels f p (q ∷ turns) a =
    let here : f q ≡ p q.channel = first (λ (r : Waiting). f r ≡ p r.channel) q turns a in
    let others = of_channels f p turns (rest (λ (r : Waiting). f r ≡ p r.channel) q turns a) in
    sum_by-cons f q turns ∙ ap₂ (λ m n. m + n) here others ∙ sym (sum_by-cons p q.channel (channels_of turns))

module _ (s : LiveScheduler) (g : Given) (w : List Word) (h : Gives s g w) where
  each_left : All (λ (q : Waiting). left_of q.counts ≡ packets_left g w q.channel) s.turns.items
  each_left k d below =
      let q : Waiting = get_or s.turns.items k d in
      let c = counts_at s g w h k q below (get_or_default s.turns.items k d q below) q.channel refl in
      ap₂ (λ m n. m - n) c.packets_given c.packets_sent

  pub left_is : sum_by (λ (q : Waiting). left_of q.counts) s.turns.items ≡ sum_by (packets_left g w) g.channels
  left_is =
      of_channels (λ (q : Waiting). left_of q.counts) (packets_left g w) s.turns.items each_left
      ∙ sums_same (packets_left g w) g.channels (channels_of s.turns.items) h.distinct (apart g.channels (told_back g.entries g.flow) (planned s w) (channels_of s.turns.items) h.words.turns) h.words.turns.exact
