-- The listed packets of a channel, read off the slots of its burst words.
use Rattle.std.proofs.Common.{◌≡◌, inl, inr, ℕ, suc, ◌+◌, ◌<◌, ◌==◌, ◌&&◌, refl, sym, ap, ◌∙◌, subst, cond, true, false, Bool, List, [], ◌∷◌, ◌++◌, append_assoc, take, length, Option, Some, None, MatchOption, arith, append-nil, length-append}
use Rattle.std.specs.Option.{option_map_or}
use Rattle.std.proofs.Math.Bool.{and-false, and-true}
use Rattle.std.proofs.Math.Seq.{take-append_seam, get_or-append_seam}
use Rattle.std.proofs.lemmas.Bool.{cases_lt, both_ways}
use Rattle.std.proofs.lemmas.List.{length_push}
use Rattle.lk_base.specs.Words.{payload, word_at}
use Rattle.lk_base.specs.Fields.{channel_number, has_burst, has_sop, has_end}
use Rattle.lk_base.specs.declared.word.Word.{Word}
use Rattle.lk_base.specs.declared.word.Word.TheVariants.{Data, Control}
use Rattle.receive_model.proofs.Cuts.{split}
use Rattle.stream_model.proofs.Bursts.{drop_seam}
use Rattle.delivery_laws.specs.SentPackets.{burst_slots, control_slot, next_control}
use Rattle.tx_words.specs.Sent.{starts_on, last_channel, ends_on, IsQuiet, IsEnd}
use Rattle.tx_words.proofs.Slots.{next_ends, starts_at, ends_after, IdlesEndNone}
use Rattle.tx_words.proofs.Opening.{last-push}

-- ---- the end word of a packet, among the words after its SOP word

-- whether this is the channel of the last burst word
abbrev pub is_last : ℕ → List Word → Bool
is_last c p = option_map_or (λ i. i == c) (last_channel p) false

abbrev pub last_behind : ℕ → Bool → ℕ → Bool
last_behind c l y = cond (has_burst y) (channel_number true y == c) l

-- the slot of the end word of the open packet of a channel, where l says whether the last burst word is on the channel
abbrev pub end_in : ℕ → Bool → ℕ → List Word → Option ℕ
end_in c l n [] = None
end_in c l n (Data x ∷ q) = end_in c l (n + 1) q
end_in c l n (Control y ∷ q) = cond (has_end y && l) (Some n) (cond (starts_on c (Control y)) None (end_in c (last_behind c l y) (n + 1) q))

is_last-data : (c x : ℕ) (p : List Word) → is_last c (p ++ Data x ∷ []) ≡ is_last c p
is_last-data c x p = ap (λ o. option_map_or (λ i. i == c) o false) (last-push p (Data x))

pub is_last-control : (c y : ℕ) (p : List Word) → is_last c (p ++ Control y ∷ []) ≡ last_behind c (is_last c p) y
is_last-control c y p = ap (λ o. option_map_or (λ i. i == c) o false) (last-push p (Control y)) ∙ split (has_burst y) (λ b. rw b refl) (λ b. rw b refl)

-- at the slot after p
ends-seam : (c : ℕ) (p : List Word) (word : Word) (q : List Word) → ends_on c (take (length p) (p ++ word ∷ q)) (word_at (p ++ word ∷ q) (length p)) ≡ ends_on c p word
ends-seam c p word q = ap (λ v. ends_on c (take (length p) (p ++ word ∷ q)) v) (get_or-append_seam p word q (Control 0)) ∙ ap (λ r. ends_on c r word) (take-append_seam p (word ∷ q))

pub starts-seam : (c : ℕ) (p : List Word) (word : Word) (q : List Word) → starts_on c (word_at (p ++ word ∷ q) (length p)) ≡ starts_on c word
starts-seam c p word q = ap (starts_on c) (get_or-append_seam p word q (Control 0))

-- a quiet slot more
quiet-on : (c f : ℕ) (p : List Word) (word : Word) (q : List Word) → IsQuiet (p ++ word ∷ q) c f (length p) → ends_on c p word ≡ false → starts_on c word ≡ false → IsQuiet (p ++ word ∷ q) c f (length p + 1)
quiet-on c f p word q h no_end no_start = λ u a b. elim (cases_lt u (length p)) [
  | inl l ↦ h u a l
  | inr l ↦
      let e : length p ≡ u = omega arith in
      subst (λ t. (ends_on c (take t (p ++ word ∷ q)) (word_at (p ++ word ∷ q) t) ≡ false) × (starts_on c (word_at (p ++ word ∷ q) t) ≡ false)) e
      (ends-seam c p word q ∙ no_end, starts-seam c p word q ∙ no_start)
]

-- whether these are the slots of the end word
abbrev IsEndSlot : List Word → ℕ → ℕ → Option ℕ → Type 0
IsEndSlot w c f o = MatchOption o ((z : ℕ) → IsEnd w c f z → ⊥) (λ z. IsEnd w c f z)

-- a slot where the channel is quiet has no end
not_quiet : (w : List Word) (c f n z : ℕ) → IsQuiet w c f n → IsEnd w c f z → z < n → ⊥
not_quiet w c f n z quiet end l = both_ways (ends_on c (take z w) (word_at w z)) (quiet z end.behind l).0 end.ends

pub inside : (p : List Word) (word : Word) (q : List Word) → length p < length (p ++ word ∷ q)
inside p word q = let e : length (p ++ word ∷ q) ≡ length p + suc (length q) = length-append p (word ∷ q) in omega arith

pub end-found : (c f : ℕ) (p q : List Word) → f < length p → IsQuiet (p ++ q) c f (length p) → IsEndSlot (p ++ q) c f (end_in c (is_last c p) (length p) q)
end-found c f p [] l quiet = λ z end. not_quiet (p ++ []) c f (length p) z quiet end (let e : length (p ++ []) ≡ length p = ap length (append-nil p) in omega (arith, end.within))
end-found c f p (Data x ∷ q) l quiet =
    let more : IsQuiet (p ++ Data x ∷ q) c f (length p + 1) = quiet-on c f p (Data x) q quiet refl refl in
    let same : (p ++ Data x ∷ []) ++ q ≡ p ++ Data x ∷ q = append_assoc p (Data x ∷ []) q in
    let long : length (p ++ Data x ∷ []) ≡ length p + 1 = length_push p (Data x) in
    let rest = end-found c f (p ++ Data x ∷ []) q (omega arith) (rw (same, long) more) in
    rw (same, long, is_last-data c x p) at rest
end-found c f p (Control y ∷ q) l quiet = split (has_end y && is_last c p)
    (λ t. rw t (record {
      behind = l;
      within = inside p (Control y) q;
      ends = ends-seam c p (Control y) q ∙ t;
      quiet = quiet;
    }))
    (λ t. split (starts_on c (Control y))
    (λ s. rw (t, s) (λ z end. elim (cases_lt z (length p)) [
      | inl k ↦ not_quiet (p ++ Control y ∷ q) c f (length p) z quiet end k
      | inr k ↦ elim (cases_lt (length p) z) [
        | inl m ↦ both_ways (starts_on c (Control y)) (sym (starts-seam c p (Control y) q) ∙ (end.quiet (length p) l m).1) s
        | inr m ↦
            let e : z ≡ length p = omega arith in
            let at : ends_on c (take (length p) (p ++ Control y ∷ q)) (word_at (p ++ Control y ∷ q) (length p)) ≡ true = subst (λ i. ends_on c (take i (p ++ Control y ∷ q)) (word_at (p ++ Control y ∷ q) i) ≡ true) e end.ends in
            both_ways (has_end y && is_last c p) t (sym (ends-seam c p (Control y) q) ∙ at)
      ]
    ]))
    (λ s.
    let more : IsQuiet (p ++ Control y ∷ q) c f (length p + 1) = quiet-on c f p (Control y) q quiet t s in
    let same : (p ++ Control y ∷ []) ++ q ≡ p ++ Control y ∷ q = append_assoc p (Control y ∷ []) q in
    let long : length (p ++ Control y ∷ []) ≡ length p + 1 = length_push p (Control y) in
    let rest = end-found c f (p ++ Control y ∷ []) q (omega arith) (rw (same, long) more) in
    let here = rw (same, long, is_last-control c y p) at rest in
    rw (t, s) here))

-- there is one end word at most
one_end : (w : List Word) (c f y z : ℕ) → IsEnd w c f y → IsEnd w c f z → y ≡ z
one_end w c f y z a b = elim (cases_lt y z) [
  | inl l ↦ absurd (not_quiet w c f z y b.quiet a l)
  | inr l ↦ elim (cases_lt z y) [
    | inl m ↦ absurd (not_quiet w c f y z a.quiet b m)
    | inr m ↦ omega arith
  ]
]

pub one_end_slot : (w : List Word) (c f : ℕ) (a b : Option ℕ) → IsEndSlot w c f a → IsEndSlot w c f b → a ≡ b
one_end_slot w c f None None h k = refl
one_end_slot w c f None (Some z) h k = absurd (h z k)
one_end_slot w c f (Some y) None h k = absurd (k y h)
one_end_slot w c f (Some y) (Some z) h k = ap Some (one_end w c f y z h k)

-- ---- the same, read off the slots of the burst words

-- where an open packet ends that does not end before the next burst of its channel
abbrev pub rest_end : List Word → List ℕ → Option ℕ
rest_end w [] = None
rest_end w (s ∷ slots) = cond (starts_at w s) None (cond (ends_after w s) (next_control w s) (rest_end w slots))

-- where a packet ends whose last burst so far is at slot s
abbrev pub own_end : List Word → ℕ → List ℕ → Option ℕ
own_end w s slots = cond (ends_after w s) (next_control w s) (rest_end w slots)

pub starts_at-seam : (p : List Word) (y : ℕ) (q : List Word) → starts_at (p ++ Control y ∷ q) (length p) ≡ has_sop y
starts_at-seam p y q = ap (λ v. has_sop (payload v)) (get_or-append_seam p (Control y) q (Control 0))

ends_after-seam : (p : List Word) (y : ℕ) (q : List Word) → ends_after (p ++ Control y ∷ q) (length p) ≡ next_ends q
ends_after-seam p y q = ap next_ends (drop_seam p (Control y) q)

next-seam : (p : List Word) (y : ℕ) (q : List Word) → next_control (p ++ Control y ∷ q) (length p) ≡ control_slot (length p + 1) q
next-seam p y q = ap (control_slot (length p + 1)) (drop_seam p (Control y) q)

pub own-seam : (p : List Word) (y : ℕ) (q : List Word) (slots : List ℕ) → own_end (p ++ Control y ∷ q) (length p) slots ≡ cond (next_ends q) (control_slot (length p + 1) q) (rest_end (p ++ Control y ∷ q) slots)
own-seam p y q slots = rw (ends_after-seam p y q, next-seam p y q) refl

pub end-read : (c : ℕ) (l : Bool) (p q : List Word) → IdlesEndNone q → end_in c l (length p) q ≡ cond (next_ends q && l) (control_slot (length p) q) (rest_end (p ++ q) (burst_slots c (length p) q))
end-read c l p [] idles = refl
end-read c l p (Data x ∷ q) idles =
    let rest = end-read c l (p ++ Data x ∷ []) q idles in
    rw (append_assoc p (Data x ∷ []) q, length_push p (Data x)) at rest
end-read c l p (Control y ∷ q) (idle, idles) = split (has_end y && l)
    (λ t. rw t refl)
    (λ t.
    let rest = end-read c (last_behind c l y) (p ++ Control y ∷ []) q idles in
    let next : end_in c (last_behind c l y) (length p + 1) q ≡ cond (next_ends q && last_behind c l y) (control_slot (length p + 1) q) (rest_end (p ++ Control y ∷ q) (burst_slots c (length p + 1) q)) =
    rw (append_assoc p (Control y ∷ []) q, length_push p (Control y)) at rest in
    split (has_burst y)
    (λ b. split (channel_number true y == c)
    (λ k. split (has_sop y)
    (λ s. rw (t, b, s, k, starts_at-seam p y q, s) refl)
    (λ s. let here = rw (b, k) at next in rw (t, b, s, k, starts_at-seam p y q, s, ends_after-seam p y q, next-seam p y q) (here ∙ ap (λ e. cond e (control_slot (length p + 1) q) (rest_end (p ++ Control y ∷ q) (burst_slots c (length p + 1) q))) (and-true (next_ends q)))))
    (λ k. let here = rw (b, k) at next in split (has_sop y)
    (λ s. rw (t, b, s, k) (here ∙ rw (and-false (next_ends q)) refl))
    (λ s. rw (t, b, s, k) (here ∙ rw (and-false (next_ends q)) refl))))
    (λ b. let here = rw b at next in let none : next_ends q ≡ false = idle b in rw (t, b) (here ∙ rw none refl)))
