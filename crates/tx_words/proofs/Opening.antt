-- One more word: the packet that it ends, and the packet that it starts.
use Rattle.std.proofs.Common.{◌≡◌, ◌≢◌, ◌⊎◌, inl, inr, ℕ, suc, ◌+◌, ◌<◌, ◌≤◌, ◌==◌, refl, sym, ap, ◌∙◌, subst, cond, true, false, Bool, List, [], ◌∷◌, ◌++◌, length, take, get_or, count_by, Option, Some, None, MatchOption, arith, eq-eqb, eqb-true}
use Rattle.std.specs.List.{filter_map}
use Rattle.std.proofs.Math.ListN.{set}
use Rattle.std.proofs.Math.Seq.{take-append_seam, get_or-append_seam, map-set_same}
use Rattle.std.proofs.lemmas.Bool.{false_from_ne_true, eqb-false, cases_lt, both_ways}
use Rattle.std.proofs.lemmas.List.{get_or_append_left, get_or_default, get_or-set_same, get_or-set_other, length-set, length_push, take-append-le, map-append, append-nil, length-take-le, take_more}
use Rattle.std.proofs.lemmas.List.Elements.{All-push, filter_map-append}
use Rattle.std.proofs.lemmas.List.Sums.{sum_by-append, sum_by-cons}
use Rattle.lk_base.specs.Words.{word_at}
use Rattle.lk_base.specs.Fields.{has_burst, has_sop, channel_number}
use Rattle.lk_base.specs.declared.word.Word.{Word}
use Rattle.lk_base.specs.declared.word.Word.TheVariants.{Data, Control}
use Rattle.receive_model.specs.Lists.{last_of}
use Rattle.receive_model.proofs.Cuts.{split}
use Rattle.tx_words.specs.declared.sent.Sent.{Sent}
use Rattle.tx_words.specs.declared.sent.Place.{Place}
use Rattle.tx_words.specs.Sent.{burst_channel, starts, starts_on, ends, last_channel, ends_on, slots_where, IsQuiet, IsEnd, IsSent}
use Rattle.tx_words.specs.Places.{start_channel, ended_channel, channel_after, fresh_place, IsOpen, Stands, Half}

-- ---- the slots below stay as they were

ends-old : (p : List Word) (word : Word) (c u : ℕ) → u < length p → ends_on c (take u (p ++ word ∷ [])) (word_at (p ++ word ∷ []) u) ≡ ends_on c (take u p) (word_at p u)
ends-old p word c u h =
    let at : word_at (p ++ word ∷ []) u ≡ word_at p u = get_or_append_left p (word ∷ []) (Control 0) u h in
    let below : take u (p ++ word ∷ []) ≡ take u p = take-append-le u p (word ∷ []) (omega arith) in
    ap (λ v. ends_on c (take u (p ++ word ∷ [])) v) at ∙ ap (λ q. ends_on c q (word_at p u)) below

starts-old : (p : List Word) (word : Word) (c u : ℕ) → u < length p → starts_on c (word_at (p ++ word ∷ []) u) ≡ starts_on c (word_at p u)
starts-old p word c u h = ap (starts_on c) (get_or_append_left p (word ∷ []) (Control 0) u h)

ends-new : (p : List Word) (word : Word) (c : ℕ) → ends_on c (take (length p) (p ++ word ∷ [])) (word_at (p ++ word ∷ []) (length p)) ≡ ends_on c p word
ends-new p word c =
    ap (λ v. ends_on c (take (length p) (p ++ word ∷ [])) v) (get_or-append_seam p word [] (Control 0)) ∙ ap (λ q. ends_on c q word) (take-append_seam p (word ∷ []))

starts-new : (p : List Word) (word : Word) (c : ℕ) → starts_on c (word_at (p ++ word ∷ []) (length p)) ≡ starts_on c word
starts-new p word c = ap (starts_on c) (get_or-append_seam p word [] (Control 0))

quiet-more : (p : List Word) (word : Word) (c f z : ℕ) → z ≤ length p → IsQuiet p c f z → IsQuiet (p ++ word ∷ []) c f z
quiet-more p word c f z le h = λ u a b. (ends-old p word c u (omega arith) ∙ (h u a b).0, starts-old p word c u (omega arith) ∙ (h u a b).1)

quiet-less : (p : List Word) (word : Word) (c f z : ℕ) → z ≤ length p → IsQuiet (p ++ word ∷ []) c f z → IsQuiet p c f z
quiet-less p word c f z le h = λ u a b. (sym (ends-old p word c u (omega arith)) ∙ (h u a b).0, sym (starts-old p word c u (omega arith)) ∙ (h u a b).1)

is_end-more : (p : List Word) (word : Word) (c f z : ℕ) → IsEnd p c f z → IsEnd (p ++ word ∷ []) c f z
is_end-more p word c f z h = record {
  behind = h.behind;
  within = omega (arith, length_push p word, h.within);
  ends = ends-old p word c z h.within ∙ h.ends;
  quiet = quiet-more p word c f z (omega (arith, h.within)) h.quiet;
}

is_end-cases : (p : List Word) (word : Word) (c f z : ℕ) → IsEnd (p ++ word ∷ []) c f z → IsEnd p c f z ⊎ ((z ≡ length p) × (ends_on c p word ≡ true) × IsQuiet p c f (length p))
is_end-cases p word c f z h = elim (cases_lt z (length p)) [
  | inl l ↦ inl (record { behind = h.behind; within = l; ends = sym (ends-old p word c z l) ∙ h.ends; quiet = quiet-less p word c f z (omega arith) h.quiet })
  | inr l ↦
      let e : z ≡ length p = omega (arith, length_push p word, h.within) in
      let at_end : ends_on c (take (length p) (p ++ word ∷ [])) (word_at (p ++ word ∷ []) (length p)) ≡ true = subst (λ t. ends_on c (take t (p ++ word ∷ [])) (word_at (p ++ word ∷ []) t) ≡ true) e h.ends in
      let quiet : IsQuiet (p ++ word ∷ []) c f (length p) = subst (λ t. IsQuiet (p ++ word ∷ []) c f t) e h.quiet in
      inr (e, sym (ends-new p word c) ∙ at_end, quiet-less p word c f (length p) (omega arith) quiet)
]

-- ---- one listed packet

match-map : (o : Option ℕ) (A A' : Type 0) (B B' : ℕ → Type 0) → MatchOption o A B → (A → A') → ((z : ℕ) → B z → B' z) → MatchOption o A' B'
match-map None A A' B B' h f g = f h
match-map (Some z) A A' B B' h f g = g z h

count-old : (p : List Word) (word : Word) (c f : ℕ) → f ≤ length p → count_by (starts_on c) (take f (p ++ word ∷ [])) ≡ count_by (starts_on c) (take f p)
count-old p word c f h = ap (count_by (starts_on c)) (take-append-le f p (word ∷ []) h)

sent-same : (p : List Word) (word : Word) (s : Sent) → IsSent p s → (IsQuiet p s.channel s.first (length p) → ends_on s.channel p word ≡ true → ⊥) → IsSent (p ++ word ∷ []) s
sent-same p word s h other = record {
  within = omega (arith, length_push p word, h.within);
  starts = starts-old p word s.channel s.first h.within ∙ h.starts;
  number = h.number ∙ sym (count-old p word s.channel s.first (omega (arith, h.within)));
  last = match-map s.last ((z : ℕ) → IsEnd p s.channel s.first z → ⊥) ((z : ℕ) → IsEnd (p ++ word ∷ []) s.channel s.first z → ⊥) (λ z. IsEnd p s.channel s.first z) (λ z. IsEnd (p ++ word ∷ []) s.channel s.first z)
      h.last
      (λ none z e. elim (is_end-cases p word s.channel s.first z e) [
        | inl k ↦ none z k
        | inr k ↦ other k.2 k.1
      ])
      (λ z e. is_end-more p word s.channel s.first z e);
}

-- with this end word
abbrev pub with_last : Sent → ℕ → Sent
with_last s z = record { channel = s.channel; number = s.number; first = s.first; last = Some z }

sent-ended : (p : List Word) (word : Word) (s : Sent) → IsSent p s → IsQuiet p s.channel s.first (length p) → ends_on s.channel p word ≡ true → IsSent (p ++ word ∷ []) (with_last s (length p))
sent-ended p word s h quiet ended = record {
  within = omega (arith, length_push p word, h.within);
  starts = starts-old p word s.channel s.first h.within ∙ h.starts;
  number = h.number ∙ sym (count-old p word s.channel s.first (omega (arith, h.within)));
  last = record {
    behind = h.within;
    within = omega (arith, length_push p word);
    ends = ends-new p word s.channel ∙ ended;
    quiet = quiet-more p word s.channel s.first (length p) (omega arith) quiet;
  };
}

-- ---- the word that ends a packet

-- the word ends none
pub half-none : (p : List Word) (word : Word) (sent : List Sent) (places : List Place) → Stands p sent places → ((c : ℕ) → ends_on c p word ≡ false) → Half p word sent places
half-none p word sent places h none = record {
  len = h.len;
  firsts = h.firsts;
  each = λ k s l. sent-same p word (get_or sent k s) (h.each k s l) (λ quiet ended. both_ways (ends_on (get_or sent k s).channel p word) (none (get_or sent k s).channel) ended);
  below = λ k s l. (h.each k s l).within;
  named = record {
    low = h.named.low;
    current_is = λ c k e s l is. let r = h.named.current_is c k e s l is in (r.0, r.1, (r.2, none c));
    names = λ k e s l is. h.named.names k e s l is.0;
  };
  counted = h.counted;
}

-- on which channel the word ends a packet
ends-is : (p : List Word) (word : Word) (channel c : ℕ) → ends word ≡ true → last_channel p ≡ Some channel → ends_on c p word ≡ (channel == c)
ends-is p word channel c h last = rw (h, last) refl

-- no packet of its channel is open
pub half-idle : (p : List Word) (word : Word) (channel : ℕ) (sent : List Sent) (places : List Place) (e : Place) → Stands p sent places → ends word ≡ true → last_channel p ≡ Some channel → channel < 65536
    → (get_or places channel e).current ≡ None → Half p word sent places
half-idle p word channel sent places e h ended last low none = record {
  len = h.len;
  firsts = h.firsts;
  each = λ k s l. let is : IsSent p (get_or sent k s) = h.each k s l in
      sent-same p word (get_or sent k s) is
      (λ quiet ends_here.
      let same : channel ≡ (get_or sent k s).channel = eqb-true channel (get_or sent k s).channel (sym (ends-is p word channel (get_or sent k s).channel ended last) ∙ ends_here) in
      let named = h.named.names k e s l (record { within = is.within; starts = is.starts; quiet = quiet }) in
      let there : (get_or places channel e).current ≡ Some k = ap (λ c. (get_or places c e).current) same ∙ named in
      cc);
  below = λ k s l. (h.each k s l).within;
  named = record {
    low = h.named.low;
    current_is = λ c k d s l is.
        let r = h.named.current_is c k d s l is in
        let other : channel ≢ c = λ same. (let at : (get_or places channel e).current ≡ (get_or places c d).current = ap (λ i. (get_or places i e).current) same ∙ ap (λ (q : Place). q.current) (get_or_default places c e d (omega (arith, h.len))) in cc) in
        (r.0, r.1, (r.2, ends-is p word channel c ended last ∙ false_from_ne_true (channel == c) (λ t. other (eqb-true channel c t))));
    names = λ k d s l is. h.named.names k d s l is.0;
  };
  counted = h.counted;
}

-- a packet of its channel is open
set-at : (sent : List Sent) (k : ℕ) (y s : Sent) (j : ℕ) (f : Sent → ℕ) → k < length sent → f y ≡ f (get_or sent k s) → f (get_or (set sent k y) j s) ≡ f (get_or sent j s)
set-at sent k y s j f within same = split (j == k)
    (λ e. let is : j ≡ k = eqb-true j k e in ap (λ i. f (get_or (set sent k y) i s)) is ∙ ap f (get_or-set_same sent k y s within) ∙ same ∙ ap (λ i. f (get_or sent i s)) (sym is))
    (λ e. let other : j ≢ k = eqb-false j k e in ap f (get_or-set_other sent k j y s other))

abbrev pub idle_place : Place → Place
idle_place e = record { started = e.started; current = None }

pub half-end : (p : List Word) (word : Word) (channel k : ℕ) (sent : List Sent) (places : List Place) (e : Place) (y : Sent) → Stands p sent places → ends word ≡ true → last_channel p ≡ Some channel → channel < 65536
    → e ≡ get_or places channel e → e.current ≡ Some k → y ≡ get_or sent k y → Half p word (set sent k (with_last y (length p))) (set places channel (idle_place e))
half-end p word channel k sent places e y h ended last low place is_current read =
    let at : (get_or places channel e).current ≡ Some k = ap (λ (q : Place). q.current) (sym place) ∙ is_current in
    let is_open = h.named.current_is channel k e y low at in
    let within : k < length sent = is_open.0 in
    let on : y.channel ≡ channel = ap (λ (s : Sent). s.channel) read ∙ is_open.1 in
    let new : Sent = with_last y (length p) in
    let there : channel < length places = omega (arith, h.len) in
    let channels : (j : ℕ) (s : Sent) → (get_or (set sent k new) j s).channel ≡ (get_or sent j s).channel =
    λ j s. set-at sent k new s j (λ t. t.channel) within (ap (λ (t : Sent). t.channel) (read ∙ get_or_default sent k y s within)) in
    let firsts : (j : ℕ) (s : Sent) → (get_or (set sent k new) j s).first ≡ (get_or sent j s).first =
    λ j s. set-at sent k new s j (λ t. t.first) within (ap (λ (t : Sent). t.first) (read ∙ get_or_default sent k y s within)) in
    let names : (j : ℕ) (s : Sent) → j < length sent → IsOpen p (get_or sent j s).channel (get_or sent j s).first → channel ≡ (get_or sent j s).channel → j ≡ k =
    λ j s l o same. let there : (get_or places channel e).current ≡ Some j = ap (λ c. (get_or places c e).current) same ∙ h.named.names j e s l o in cc in
    record {
      len = length-set places channel (idle_place e) ∙ h.len;
      firsts = map-set_same (λ (s : Sent). s.first) sent k new y (ap (λ (t : Sent). t.first) read) ∙ h.firsts;
      each = λ j s l.
          let inside : j < length sent = omega (arith, length-set sent k new) in
          let is : IsSent p (get_or sent j s) = h.each j s inside in
          split (j == k)
          (λ t. let same : j ≡ k = eqb-true j k t in
          let was : get_or sent k s ≡ y = get_or_default sent k s y within ∙ sym read in
          let old : IsSent p y = subst (IsSent p) (ap (λ i. get_or sent i s) same ∙ was) is in
          let quiet : IsQuiet p y.channel y.first (length p) = subst (λ c. IsQuiet p c y.first (length p)) (sym on) (subst (λ (q : Sent). IsOpen p channel q.first) (sym read) is_open.2).quiet in
          let now : get_or (set sent k new) j s ≡ new = ap (λ i. get_or (set sent k new) i s) same ∙ get_or-set_same sent k new s within in
          subst (IsSent (p ++ word ∷ [])) (sym now) (sent-ended p word y old quiet (ends-is p word channel y.channel ended last ∙ eq-eqb channel y.channel (sym on))))
          (λ t. let other : j ≢ k = eqb-false j k t in
          subst (IsSent (p ++ word ∷ [])) (sym (get_or-set_other sent k j new s other))
          (sent-same p word (get_or sent j s) is
          (λ quiet ends_here.
          other (names j s inside (record { within = is.within; starts = is.starts; quiet = quiet })
          (eqb-true channel (get_or sent j s).channel (sym (ends-is p word channel (get_or sent j s).channel ended last) ∙ ends_here))))));
      below = λ j s l. rw (firsts j s) ((h.each j s (omega (arith, length-set sent k new))).within);
      named = record {
        low = λ j s l. rw (channels j s) (h.named.low j s (omega (arith, length-set sent k new)));
        current_is = λ c j d s l is. split (c == channel)
            (λ t. let same : c ≡ channel = eqb-true c channel t in
            let none : (get_or (set places channel (idle_place e)) c d).current ≡ None = ap (λ i. (get_or (set places channel (idle_place e)) i d).current) same ∙ ap (λ (q : Place). q.current) (get_or-set_same places channel (idle_place e) d there) in
            cc)
            (λ t. let other : c ≢ channel = eqb-false c channel t in
            let old : (get_or places c d).current ≡ Some j = ap (λ (q : Place). q.current) (sym (get_or-set_other places channel c (idle_place e) d other)) ∙ is in
            let r = h.named.current_is c j d s l old in
            let off : (channel == c) ≡ false = false_from_ne_true (channel == c) (λ u. other (sym (eqb-true channel c u))) in
            (omega (arith, length-set sent k new, r.0), channels j s ∙ r.1, (subst (λ f. IsOpen p c f) (sym (firsts j s)) r.2, ends-is p word channel c ended last ∙ off)));
        names = λ j d s l is.
            let inside : j < length sent = omega (arith, length-set sent k new) in
            let c : ℕ = (get_or sent j s).channel in
            let open_there : IsOpen p c (get_or sent j s).first = subst (λ f. IsOpen p c f) (firsts j s) (subst (λ i. IsOpen p i (get_or (set sent k new) j s).first) (channels j s) is.0) in
            let off : (channel == c) ≡ false = sym (ends-is p word channel c ended last) ∙ subst (λ i. ends_on i p word ≡ false) (channels j s) is.1 in
            let other : c ≢ channel = λ same. both_ways (channel == c) off (eq-eqb channel c (sym same)) in
            ap (λ i. (get_or (set places channel (idle_place e)) i d).current) (channels j s) ∙ ap (λ (q : Place). q.current) (get_or-set_other places channel c (idle_place e) d other) ∙ h.named.names j d s inside open_there;
      };
      counted = λ c d l. split (c == channel)
          (λ t. let same : c ≡ channel = eqb-true c channel t in
          ap (λ i. (get_or (set places channel (idle_place e)) i d).started) same ∙ ap (λ (q : Place). q.started) (get_or-set_same places channel (idle_place e) d there)
          ∙ ap (λ (q : Place). q.started) place ∙ h.counted channel e low ∙ ap (λ i. count_by (starts_on i) p) (sym same))
          (λ t. let other : c ≢ channel = eqb-false c channel t in
          ap (λ (q : Place). q.started) (get_or-set_other places channel c (idle_place e) d other) ∙ h.counted c d l);
    }

-- ---- the word that starts a packet

slots-push : (passes : Word → Bool) (n : ℕ) (p : List Word) (word : Word) → slots_where passes n (p ++ word ∷ []) ≡ slots_where passes n p ++ cond {A = List ℕ} (passes word) ((n + length p) ∷ []) []
slots-push passes n [] word = split (passes word)
    (λ h. let e : n + 0 ≡ n = omega arith in rw (h, e) refl)
    (λ h. rw h refl)
slots-push passes n (v ∷ p) word =
    let rest = slots-push passes (n + 1) p word in
    let e : n + 1 + length p ≡ n + suc (length p) = omega arith in
    let same : slots_where passes (n + 1) (p ++ word ∷ []) ≡ slots_where passes (n + 1) p ++ cond {A = List ℕ} (passes word) ((n + suc (length p)) ∷ []) [] = rest ∙ ap (λ (i : ℕ). slots_where passes (n + 1) p ++ cond {A = List ℕ} (passes word) (i ∷ []) []) e in
    split (passes v)
    (λ h. rw (h, same) refl)
    (λ h. rw (h, same) refl)

pub count-push : (passes : Word → Bool) (p : List Word) (word : Word) → count_by passes (p ++ word ∷ []) ≡ count_by passes p + cond (passes word) 1 0
count-push passes p word = sum_by-append (λ (v : Word). cond (passes v) 1 0) p (word ∷ []) ∙ ap (λ n. count_by passes p + n) (sum_by-cons (λ (v : Word). cond (passes v) 1 0) word [] ∙ omega arith)

-- on which channel the word starts a packet
starts-some : (word : Word) (channel c : ℕ) → start_channel word ≡ Some channel → (starts word ≡ true) × (starts_on c word ≡ (channel == c))
starts-some (Data x) channel c h = cc
starts-some (Control x) channel c h = split (has_burst x)
    (λ b. split (has_sop x)
    (λ s. let k = rw (b, s) at h in let same : channel_number true x ≡ channel = cc k in (rw (b, s) refl, rw (b, s, same) refl))
    (λ s. let k = rw (b, s) at h in cc k))
    (λ b. let k = rw b at h in cc k)

starts-none : (word : Word) (c : ℕ) → start_channel word ≡ None → (starts word ≡ false) × (starts_on c word ≡ false)
starts-none (Data x) c h = (refl, refl)
starts-none (Control x) c h = split (has_burst x)
    (λ b. split (has_sop x)
    (λ s. let k = rw (b, s) at h in cc k)
    (λ s. (rw (b, s) refl, rw (b, s) refl)))
    (λ b. (rw b refl, rw b refl))

open-more : (p : List Word) (word : Word) (c f : ℕ) → IsOpen p c f → ends_on c p word ≡ false → starts_on c word ≡ false → IsOpen (p ++ word ∷ []) c f
open-more p word c f h no_end no_start = record {
  within = omega (arith, length_push p word, h.within);
  starts = starts-old p word c f h.within ∙ h.starts;
  quiet = λ u a b. elim (cases_lt u (length p)) [
    | inl l ↦ quiet-more p word c f (length p) (omega arith) h.quiet u a l
    | inr l ↦
        let e : u ≡ length p = omega (arith, length_push p word) in
        subst (λ t. (ends_on c (take t (p ++ word ∷ [])) (word_at (p ++ word ∷ []) t) ≡ false) × (starts_on c (word_at (p ++ word ∷ []) t) ≡ false)) (sym e) (ends-new p word c ∙ no_end, starts-new p word c ∙ no_start)
  ];
}

open-less : (p : List Word) (word : Word) (c f : ℕ) → IsOpen (p ++ word ∷ []) c f → f < length p → IsOpen p c f × (ends_on c p word ≡ false) × (starts_on c word ≡ false)
open-less p word c f h l =
    let last = h.quiet (length p) l (omega (arith, length_push p word)) in (
      record {
        within = l;
        starts = sym (starts-old p word c f l) ∙ h.starts;
        quiet = quiet-less p word c f (length p) (omega arith) (λ u a b. h.quiet u a (omega (arith, length_push p word)));
      },
      sym (ends-new p word c) ∙ last.0,
      sym (starts-new p word c) ∙ last.1,
    )

-- the word starts none
pub stands-none : (p : List Word) (word : Word) (sent : List Sent) (places : List Place) → Half p word sent places → start_channel word ≡ None → Stands (p ++ word ∷ []) sent places
stands-none p word sent places h none = record {
  len = h.len;
  firsts = h.firsts ∙ sym (slots-push starts 0 p word ∙ rw (starts-none word 0 none).0 (append-nil (slots_where starts 0 p)));
  each = h.each;
  named = record {
    low = h.named.low;
    current_is = λ c k e s l is. let r = h.named.current_is c k e s l is in (r.0, r.1, open-more p word c (get_or sent k s).first r.2.0 r.2.1 (starts-none word c none).1);
    names = λ k e s l is. h.named.names k e s l (old k s l is);
  };
  counted = λ c e l. h.counted c e l ∙ sym (count-push (starts_on c) p word ∙ rw (starts-none word c none).1 (omega arith));
}
  where
    old : (k : ℕ) (s : Sent) → k < length sent → IsOpen (p ++ word ∷ []) (get_or sent k s).channel (get_or sent k s).first → IsOpen p (get_or sent k s).channel (get_or sent k s).first × (ends_on (get_or sent k s).channel p word ≡ false)
    old k s l is = let r = open-less p word (get_or sent k s).channel (get_or sent k s).first is (h.below k s l) in (r.0, r.1)

pub stands-some : (p : List Word) (word : Word) (channel : ℕ) (sent : List Sent) (places : List Place) (e : Place) → Half p word sent places → start_channel word ≡ Some channel → channel < 65536 → e ≡ get_or places channel e
    → Stands (p ++ word ∷ []) (sent ++ record { channel = channel; number = e.started; first = length p; last = None } ∷ []) (set places channel (record { started = e.started + 1; current = Some (length sent) }))
stands-some p word channel sent places e h is low place =
    let y : Sent = record { channel = channel; number = e.started; first = length p; last = None } in
    let new : Place = record { started = e.started + 1; current = Some (length sent) } in
    let there : channel < length places = omega (arith, h.len) in
    let old : (j : ℕ) (s : Sent) → j < length sent → get_or (sent ++ y ∷ []) j s ≡ get_or sent j s = λ j s l. get_or_append_left sent (y ∷ []) s j l in
    let last : (s : Sent) → get_or (sent ++ y ∷ []) (length sent) s ≡ y = λ s. get_or-append_seam sent y [] s in
    let on : starts_on channel word ≡ true = (starts-some word channel channel is).1 ∙ eq-eqb channel channel refl in
    let off : (c : ℕ) → c ≢ channel → starts_on c word ≡ false = λ c other. (starts-some word channel c is).1 ∙ false_from_ne_true (channel == c) (λ u. other (sym (eqb-true channel c u))) in
    let fresh : IsOpen (p ++ word ∷ []) channel (length p) = record {
      within = omega (arith, length_push p word);
      starts = starts-new p word channel ∙ on;
      quiet = λ u a b. absurd (omega (arith, length_push p word));
    } in
    let is_sent : IsSent (p ++ word ∷ []) y = record {
      within = omega (arith, length_push p word);
      starts = starts-new p word channel ∙ on;
      number = ap (λ (q : Place). q.started) place ∙ h.counted channel e low ∙ sym (ap (count_by (starts_on channel)) (take-append_seam p (word ∷ [])));
      last = λ z end. past p word (length p) z refl end.behind end.within;
    } in
    record {
      len = length-set places channel new ∙ h.len;
      firsts = map-append (λ (s : Sent). s.first) sent (y ∷ []) ∙ ap (λ xs. xs ++ length p ∷ []) h.firsts ∙ sym (slots-push starts 0 p word ∙ (let zero : 0 + length p ≡ length p = omega arith in rw ((starts-some word channel channel is).0, zero) refl));
      each = All-push (IsSent (p ++ word ∷ [])) sent y h.each is_sent;
      named = record {
        low = All-push (λ (s : Sent). s.channel < 65536) sent y h.named.low low;
        current_is = λ c k d s l at. split (c == channel)
            (λ t. let same : c ≡ channel = eqb-true c channel t in
            let now : (get_or (set places channel new) c d).current ≡ Some (length sent) = ap (λ i. (get_or (set places channel new) i d).current) same ∙ ap (λ (q : Place). q.current) (get_or-set_same places channel new d there) in
            let k_is : k ≡ length sent = cc in
            let entry : get_or (sent ++ y ∷ []) k s ≡ y = ap (λ i. get_or (sent ++ y ∷ []) i s) k_is ∙ last s in
            (omega (arith, length_push sent y), ap (λ (q : Sent). q.channel) entry ∙ sym same, subst (λ f. IsOpen (p ++ word ∷ []) c f) (ap (λ (q : Sent). q.first) (sym entry)) (subst (λ i. IsOpen (p ++ word ∷ []) i (length p)) (sym same) fresh)))
            (λ t. let other : c ≢ channel = eqb-false c channel t in
            let before : (get_or places c d).current ≡ Some k = ap (λ (q : Place). q.current) (sym (get_or-set_other places channel c new d other)) ∙ at in
            let r = h.named.current_is c k d s l before in (
              omega (arith, length_push sent y, r.0),
              ap (λ (q : Sent). q.channel) (old k s r.0) ∙ r.1,
              subst (λ f. IsOpen (p ++ word ∷ []) c f) (ap (λ (q : Sent). q.first) (sym (old k s r.0))) (open-more p word c (get_or sent k s).first r.2.0 r.2.1 (off c other)),
            ));
        names = λ j d s l at. elim (cases_lt j (length sent)) [
          | inl below ↦
              let c : ℕ = (get_or sent j s).channel in
              let opened : IsOpen (p ++ word ∷ []) c (get_or sent j s).first = subst (λ (q : Sent). IsOpen (p ++ word ∷ []) q.channel q.first) (old j s below) at in
              let r = open-less p word c (get_or sent j s).first opened (h.below j s below) in
              let other : c ≢ channel = λ same. both_ways (starts_on c word) r.2 ((starts-some word channel c is).1 ∙ eq-eqb channel c (sym same)) in
              ap (λ (q : Sent). (get_or (set places channel new) q.channel d).current) (old j s below) ∙ ap (λ (q : Place). q.current) (get_or-set_other places channel c new d other) ∙ h.named.names j d s below (r.0, r.1)
          | inr above ↦
              let j_is : j ≡ length sent = omega (arith, length_push sent y) in
              let entry : get_or (sent ++ y ∷ []) j s ≡ y = ap (λ i. get_or (sent ++ y ∷ []) i s) j_is ∙ last s in
              ap (λ (q : Sent). (get_or (set places channel new) q.channel d).current) entry ∙ ap (λ (q : Place). q.current) (get_or-set_same places channel new d there) ∙ ap Some (sym j_is)
        ];
      };
      counted = λ c d l. split (c == channel)
          (λ t. let same : c ≡ channel = eqb-true c channel t in
          let was : e.started ≡ count_by (starts_on channel) p = ap (λ (q : Place). q.started) place ∙ h.counted channel e low in
          ap (λ i. (get_or (set places channel new) i d).started) same ∙ ap (λ (q : Place). q.started) (get_or-set_same places channel new d there)
          ∙ ap (λ n. n + 1) was ∙ sym (ap (λ i. count_by (starts_on i) (p ++ word ∷ [])) same ∙ count-push (starts_on channel) p word ∙ rw on refl))
          (λ t. let other : c ≢ channel = eqb-false c channel t in
          ap (λ (q : Place). q.started) (get_or-set_other places channel c new d other) ∙ h.counted c d l ∙ sym (count-push (starts_on c) p word ∙ rw (off c other) (omega arith)));
    }
  where
    past : (p : List Word) (word : Word) (n z : ℕ) → n ≡ length p → n < z → z < length (p ++ word ∷ []) → ⊥
    past p word n z e a b = omega (arith, length_push p word)

-- ---- the words so far

-- the channel of the last burst word, with one word more
pub last-push : (p : List Word) (word : Word) → last_channel (p ++ word ∷ []) ≡ channel_after (last_channel p) word
last-push p word = ap last_of (filter_map-append burst_channel p (word ∷ [])) ∙ by (filter_map burst_channel p) word
  where
    last-append : (xs : List ℕ) (x : ℕ) → last_of (xs ++ x ∷ []) ≡ Some x
    last-append [] x = refl
    last-append (y ∷ []) x = refl
    last-append (y ∷ z ∷ xs) x = last-append (z ∷ xs) x

    by : (xs : List ℕ) (word : Word) → last_of (xs ++ filter_map burst_channel (word ∷ [])) ≡ channel_after (last_of xs) word
    by xs (Data x) = ap last_of (append-nil xs)
    by xs (Control x) = split (has_burst x)
        (λ b. rw b (last-append xs (channel_number true x)))
        (λ b. rw b (ap last_of (append-nil xs)))

-- the word ends no packet where its channel is missing
pub ends-none : (p : List Word) (word : Word) (last : Option ℕ) (c : ℕ) → last ≡ last_channel p → ended_channel last word ≡ None → ends_on c p word ≡ false
ends-none p word last c e h = split (ends word)
    (λ t. let k : last ≡ None = sym (rw t refl) ∙ h in let none : last_channel p ≡ None = sym e ∙ k in rw (t, none) refl)
    (λ t. rw t refl)

pub ended-some : (word : Word) (last : Option ℕ) (channel : ℕ) → ended_channel last word ≡ Some channel → (ends word ≡ true) × (last ≡ Some channel)
ended-some word last channel h = split (ends word)
    (λ t. (t, sym (rw t refl) ∙ h))
    (λ t. let k : None ≡ Some channel = sym (rw t refl) ∙ h in cc)

-- no words
pub stands-first : (places : List Place) → length places ≡ 65536 → ((c : ℕ) (e : Place) → c < 65536 → get_or places c e ≡ fresh_place) → Stands [] [] places
stands-first places len fresh = record {
  len = len;
  firsts = refl;
  each = λ k s l. absurd (omega arith);
  named = record {
    low = λ k s l. absurd (omega arith);
    current_is = λ c k e s l is. let none : (get_or places c e).current ≡ None = ap (λ (q : Place). q.current) (fresh c e l) in cc;
    names = λ k e s l is. absurd (omega arith);
  };
  counted = λ c e l. ap (λ (q : Place). q.started) (fresh c e l);
}

-- there is room for one packet more on the channel that the word starts
pub has_number : (p : List Word) (word : Word) (channel m : ℕ) → start_channel word ≡ Some channel → count_by (starts_on channel) (p ++ word ∷ []) < m → count_by (starts_on channel) p + 1 < m
has_number p word channel m is few =
    let on : starts_on channel word ≡ true = (starts-some word channel channel is).1 ∙ eq-eqb channel channel refl in
    let one : count_by (starts_on channel) (p ++ word ∷ []) ≡ count_by (starts_on channel) p + 1 = count-push (starts_on channel) p word ∙ rw on refl in
    subst (λ n. n < m) one few

-- the words so far, and one more
module _ (words : List Word) (i : ℕ) (d : Word) (within : i < length words) where
  pub so_far : i ≡ length (take i words)
  so_far = sym (length-take-le i words (omega arith))

  pub next : take i words ++ get_or words i d ∷ [] ≡ take (i + 1) words
  next = sym (take_more words i d within)
