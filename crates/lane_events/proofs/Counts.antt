-- The events of a lane are counted by its report.
use Rattle.std.proofs.Common.{ℕ, zero, suc, ◌≡◌, refl, sym, ap, ◌∙◌, subst, ◌+◌, ◌-◌, ◌*◌, ◌/◌, ◌<◌, ◌≤◌, ◌==◌, cond, Bool, true, false, List, [], ◌∷◌, ◌++◌, length, map, filter, flat_map, arith, count_by, sum_by, Option, Some, None, ne_eqb}
use Rattle.std.specs.List.{range_with_len}
use Rattle.std.proofs.lemmas.List.{append-nil}
use Rattle.std.proofs.lemmas.List.Sums.{sum_by-append, sum_by-cons}
use Rattle.lk_base.specs.Checksum.{digit}
use Rattle.lk_base.specs.Link.{Settings}
use Rattle.lane_model.proofs.Numbers.{split}
use Rattle.lock_model.specs.declared.types.LostWhy.{LostWhy}
use Rattle.lock_model.specs.declared.types.LostWhy.TheVariants as whys
use Rattle.lock_model.specs.Counting.{count_below}
use Rattle.lock_model.specs.Locks.{Attempt, AttemptsFrom, Loss, loses_headers, loses_state, loses_sync, loss_at, has_word, next_search}
use Rattle.std.specs.Prelude.{nat_le}
use Rattle.lock_model.specs.Received.{Lock, locks_of}
use Rattle.lock_model.specs.Report.{bad_words, is_unframed, report_of, wrong_diagnostics, wrong_states, wrong_syncs}
use Rattle.lane_events.specs.declared.types.EventKind.{EventKind}
use Rattle.lane_events.specs.declared.types.EventKind.TheVariants as kinds
use Rattle.lane_events.specs.declared.types.LaneEvent.{LaneEvent}
use Rattle.lane_events.specs.EventLaw.{AreCounted, EventsAreCounted, count_of, kind_place}
use Rattle.lane_events.specs.Events.{all_kinds, has_event, lane_events, losing_events, loss_kind, word_events}
use Rattle.lane_events.proofs.EventsHold.{events_by}
use Rattle.lane_events.proofs.Grow.{own, words_more}
use Rattle.lane_events.proofs.OneMore.{Declared, LostOr, declared_here, lost_behind}

-- ---- the events of one word

total : (EventKind → ℕ) → List EventKind → ℕ
total f [] = 0
total f (k ∷ ks) = f k + total f ks

pub count_append : (kind : EventKind) (xs ys : List LaneEvent) → count_of kind (xs ++ ys) ≡ count_of kind xs + count_of kind ys
count_append kind xs ys = sum_by-append (λ (e : LaneEvent). cond (kind_place e.kind == kind_place kind) 1 0) xs ys

pub count_cons : (kind : EventKind) (x : LaneEvent) (xs : List LaneEvent) → count_of kind (x ∷ xs) ≡ cond (kind_place x.kind == kind_place kind) 1 0 + count_of kind xs
count_cons kind x xs = sum_by-cons (λ (e : LaneEvent). cond (kind_place e.kind == kind_place kind) 1 0) x xs

abbrev event : ℕ → EventKind → LaneEvent
event bit kind = record { bit = bit; kind = kind }

count_kept : (p : EventKind → Bool) (bit : ℕ) (kind : EventKind) (ks : List EventKind) →
    count_of kind (map (event bit) (filter p ks)) ≡ total (λ k. cond (kind_place k == kind_place kind) (digit (p k)) 0) ks
unfolding total
count_kept p bit kind [] = refl
count_kept p bit kind (k ∷ ks) = split {b = p k}
    (λ t. rw t (count_cons kind (event bit k) (map (event bit) (filter p ks)) ∙ ap (λ n. cond (kind_place k == kind_place kind) 1 0 + n) (count_kept p bit kind ks)))
    (λ f. rw f (count_kept p bit kind ks ∙ nothing (kind_place k == kind_place kind) _))
  where
    nothing : (b : Bool) (n : ℕ) → n ≡ cond b 0 0 + n
    nothing true n = omega arith
    nothing false n = omega arith

abbrev chosen : (EventKind → Bool) → EventKind → EventKind → ℕ
chosen p kind k = cond (kind_place k == kind_place kind) (digit (p k)) 0

-- of the twelve kinds one is this one
totals : (p : EventKind → Bool) (kind : EventKind) → total (chosen p kind) all_kinds ≡ digit (p kind)
unfolding total
totals p kinds.Bad = omega arith
totals p kinds.Sync = omega arith
totals p kinds.State = omega arith
totals p kinds.Skip = omega arith
totals p kinds.Diagnostic = omega arith
totals p kinds.Health = omega arith
totals p kinds.Balance = omega arith
totals p kinds.Lock = omega arith
totals p kinds.LostHeaders = omega arith
totals p kinds.LostSync = omega arith
totals p kinds.LostState = omega arith
totals p kinds.Unframed = omega arith

-- a word has an event of a kind once, or not
pub counted_kinds : (p : EventKind → Bool) (bit : ℕ) (kind : EventKind) → count_of kind (map (event bit) (filter p all_kinds)) ≡ digit (p kind)
counted_kinds p bit kind = count_kept p bit kind all_kinds ∙ totals p kind

pub count_word : (s : Settings) (bits : List Bool) (at r : ℕ) (kind : EventKind) → count_of kind (word_events s bits at r) ≡ digit (has_event s bits at r kind)
unfolding word_events
count_word s bits at r kind = counted_kinds (has_event s bits at r) (at + 67 * r) kind

-- the first n words of a lock
count_words : (s : Settings) (bits : List Bool) (at : ℕ) (kind : EventKind) (n : ℕ) → count_of kind (flat_map (word_events s bits at) (range_with_len 0 n)) ≡ count_below (λ r. has_event s bits at r kind) n
unfolding count_below
count_words s bits at kind zero = refl
count_words s bits at kind (suc n) =
    let e : suc n ≡ n + 1 = omega arith in
    let w = count_word s bits at n kind in
    let rest = count_words s bits at kind n in
    ap (λ k. count_of kind (flat_map (word_events s bits at) (range_with_len 0 k))) e
    ∙ ap (count_of kind) (words_more (word_events s bits at) n)
    ∙ count_append kind (flat_map (word_events s bits at) (range_with_len 0 n)) (word_events s bits at n)
    ∙ omega (arith, w, rest)

none_below : (n : ℕ) → count_below (λ r. false) n ≡ 0
unfolding count_below
none_below zero = refl
none_below (suc n) = let e = none_below n in omega (arith, e)

one_below : (n : ℕ) → count_below (λ r. r == 0) (suc n) ≡ 1
unfolding count_below
one_below zero = refl
one_below (suc n) = let e = one_below n in let f : (suc n == 0) ≡ false = ne_eqb (suc n) 0 (λ z. omega (arith, z)) in rw f (let z : 0 + count_below (λ r. r == 0) (suc n) ≡ count_below (λ r. r == 0) (suc n) = omega arith in z ∙ e)

one_of : (n : ℕ) → 0 < n → count_below (λ r. r == 0) n ≡ 1
one_of zero h = absurd (omega (arith, h))
one_of (suc n) h = one_below n

-- ---- a losing word

-- a declared lock is not lost for the lack of a declaration
no_unframed : (L : ℕ) (bits : List Bool) (p d t : ℕ) → loss_at L bits p (Some d) t ≡ Some whys.Unframed → ⊥
no_unframed L bits p d t = none (has_word bits (p + 67 * t)) (nat_le t d) (loses_headers bits p t) (loses_sync L bits (p + 67 * d) (t - d)) (loses_state L bits (p + 67 * d) (t - d))
  where
    none : (a b c d e : Bool) → cond a (cond b None (cond c (Some whys.Headers) (cond d (Some whys.Sync) (cond e (Some whys.State) None)))) None ≡ Some whys.Unframed → ⊥
    none false b c d e h = cc
    none true true c d e h = cc
    none true false true d e h = cc
    none true false false true e h = cc
    none true false false false true h = cc
    none true false false false false h = cc

-- ---- all attempts

-- events, the locks that they are of, and the searches that ended without one
record Tallied (s : Settings) (bits : List Bool) (events : List LaneEvent) (locks : List Lock) (unframed : ℕ) : Type 0 where
  bad : count_of kinds.Bad events ≡ sum_by (bad_words bits) locks
  sync : count_of kinds.Sync events ≡ sum_by (wrong_syncs s bits) locks
  state : count_of kinds.State events ≡ sum_by (wrong_states s bits) locks
  diag : count_of kinds.Diagnostic events ≡ sum_by (wrong_diagnostics s bits) locks
  lock : count_of kinds.Lock events ≡ length locks
  lost : count_of kinds.LostHeaders events + count_of kinds.LostSync events + count_of kinds.LostState events ≡ count_by (λ (l : Lock). l.lost) locks
  over : count_of kinds.Unframed events ≡ unframed

module _ (s : Settings) (bits : List Bool) where
  none : Tallied s bits [] [] 0
  none = record { bad = refl; sync = refl; state = refl; diag = refl; lock = refl; lost = refl; over = refl }

  -- a search that ended without a lock
  one_unframed : (p : ℕ) (loss : Loss) (rest : List LaneEvent) (locks : List Lock) (u : ℕ) → Tallied s bits rest locks u →
      Tallied s bits (losing_events p false (Some loss) ++ rest) locks (1 + u)
  one_unframed p loss rest locks u k =
      let e : LaneEvent = record { bit = p + 67 * loss.word; kind = kinds.Unframed } in
      record {
        bad = count_cons kinds.Bad e rest ∙ (let h = k.bad in omega (arith, h));
        sync = count_cons kinds.Sync e rest ∙ (let h = k.sync in omega (arith, h));
        state = count_cons kinds.State e rest ∙ (let h = k.state in omega (arith, h));
        diag = count_cons kinds.Diagnostic e rest ∙ (let h = k.diag in omega (arith, h));
        lock = count_cons kinds.Lock e rest ∙ (let h = k.lock in omega (arith, h));
        lost = (let a = count_cons kinds.LostHeaders e rest in let b = count_cons kinds.LostSync e rest in let c = count_cons kinds.LostState e rest in let h = k.lost in omega (arith, a, b, c, h));
        over = count_cons kinds.Unframed e rest ∙ (let h = k.over in omega (arith, h));
      }

  -- the words that a lock covers
  covered : (at n : ℕ) (kind : EventKind) (rest : List LaneEvent) →
      count_of kind (flat_map (word_events s bits at) (range_with_len 0 n) ++ rest) ≡ count_below (λ r. has_event s bits at r kind) n + count_of kind rest
  covered at n kind rest = count_append kind (flat_map (word_events s bits at) (range_with_len 0 n)) rest ∙ ap (λ m. m + count_of kind rest) (count_words s bits at kind n)

  -- a lock, with its words, before events that say as much of its loss as it is lost
  one_lock : (at n : ℕ) (lost : Bool) (rest : List LaneEvent) (locks : List Lock) (u : ℕ) → 0 < n →
      count_of kinds.Bad rest ≡ sum_by (bad_words bits) locks → count_of kinds.Sync rest ≡ sum_by (wrong_syncs s bits) locks →
      count_of kinds.State rest ≡ sum_by (wrong_states s bits) locks → count_of kinds.Diagnostic rest ≡ sum_by (wrong_diagnostics s bits) locks →
      count_of kinds.Lock rest ≡ length locks →
      count_of kinds.LostHeaders rest + count_of kinds.LostSync rest + count_of kinds.LostState rest ≡ cond lost 1 0 + count_by (λ (l : Lock). l.lost) locks →
      count_of kinds.Unframed rest ≡ u →
      Tallied s bits (flat_map (word_events s bits at) (range_with_len 0 n) ++ rest) (record { at = at; count = n; lost = lost } ∷ locks) u
  one_lock at n lost rest locks u h b y t d l o f =
      let x : Lock = record { at = at; count = n; lost = lost } in
      record {
        bad = covered at n kinds.Bad rest ∙ ap (λ m. bad_words bits x + m) b ∙ sym (sum_by-cons (bad_words bits) x locks);
        sync = covered at n kinds.Sync rest ∙ ap (λ m. wrong_syncs s bits x + m) y ∙ sym (sum_by-cons (wrong_syncs s bits) x locks);
        state = covered at n kinds.State rest ∙ ap (λ m. wrong_states s bits x + m) t ∙ sym (sum_by-cons (wrong_states s bits) x locks);
        diag = covered at n kinds.Diagnostic rest ∙ ap (λ m. wrong_diagnostics s bits x + m) d ∙ sym (sum_by-cons (wrong_diagnostics s bits) x locks);
        lock = covered at n kinds.Lock rest ∙ (let e = one_of n h in omega (arith, e, l));
        lost = (let a = covered at n kinds.LostHeaders rest in let b = covered at n kinds.LostSync rest in let c = covered at n kinds.LostState rest in let z = none_below n in
            let g = sum_by-cons (λ (l : Lock). cond l.lost 1 0) x locks in omega (arith, a, b, c, z, g, o));
        over = covered at n kinds.Unframed rest ∙ (let z = none_below n in omega (arith, z, f));
      }

  -- a lost lock
  lost_lock : (p d : ℕ) (word : ℕ) (why : LostWhy) (rest : List LaneEvent) (locks : List Lock) (u : ℕ) → d < word → (why ≡ whys.Unframed → ⊥) → Tallied s bits rest locks u →
      Tallied s bits (own s bits p (Some d) (Some (record { word = word; why = why })) ++ rest) (record { at = p + 67 * d; count = word - d; lost = true } ∷ locks) u
  lost_lock p d word why rest locks u lt framed k =
      subst (λ (es : List LaneEvent). Tallied s bits es (record { at = p + 67 * d; count = word - d; lost = true } ∷ locks) u)
      (sym (assoc (flat_map (word_events s bits (p + 67 * d)) (range_with_len 0 (word - d))) _ rest))
      (by_why why framed)
    where
      assoc : (xs ys zs : List LaneEvent) → (xs ++ ys) ++ zs ≡ xs ++ (ys ++ zs)
      assoc [] ys zs = refl
      assoc (x ∷ xs) ys zs = ap (λ r. x ∷ r) (assoc xs ys zs)

      one : (kind : EventKind) (why : LostWhy) → count_of kind (record { bit = p + 67 * word; kind = loss_kind true why } ∷ rest) ≡ cond (kind_place (loss_kind true why) == kind_place kind) 1 0 + count_of kind rest
      one kind why = count_cons kind (record { bit = p + 67 * word; kind = loss_kind true why }) rest

      known : (why : LostWhy) → ((kind : EventKind) → kind_place kind < 8 → (kind_place (loss_kind true why) == kind_place kind) ≡ false) →
          (cond (kind_place (loss_kind true why) == 8) 1 0 + cond (kind_place (loss_kind true why) == 9) 1 0 + cond (kind_place (loss_kind true why) == 10) 1 0 ≡ 1) →
          (kind_place (loss_kind true why) == 11) ≡ false →
          Tallied s bits (flat_map (word_events s bits (p + 67 * d)) (range_with_len 0 (word - d)) ++ (record { bit = p + 67 * word; kind = loss_kind true why } ∷ rest)) (record { at = p + 67 * d; count = word - d; lost = true } ∷ locks) u
      known why none_of three last =
          one_lock (p + 67 * d) (word - d) true (record { bit = p + 67 * word; kind = loss_kind true why } ∷ rest) locks u (omega (arith, lt))
          (one kinds.Bad why ∙ ap (λ (b : Bool). cond b 1 0 + count_of kinds.Bad rest) (none_of kinds.Bad (omega arith)) ∙ (let h = k.bad in omega (arith, h)))
          (one kinds.Sync why ∙ ap (λ (b : Bool). cond b 1 0 + count_of kinds.Sync rest) (none_of kinds.Sync (omega arith)) ∙ (let h = k.sync in omega (arith, h)))
          (one kinds.State why ∙ ap (λ (b : Bool). cond b 1 0 + count_of kinds.State rest) (none_of kinds.State (omega arith)) ∙ (let h = k.state in omega (arith, h)))
          (one kinds.Diagnostic why ∙ ap (λ (b : Bool). cond b 1 0 + count_of kinds.Diagnostic rest) (none_of kinds.Diagnostic (omega arith)) ∙ (let h = k.diag in omega (arith, h)))
          (one kinds.Lock why ∙ ap (λ (b : Bool). cond b 1 0 + count_of kinds.Lock rest) (none_of kinds.Lock (omega arith)) ∙ (let h = k.lock in omega (arith, h)))
          (let a = one kinds.LostHeaders why in let b = one kinds.LostSync why in let c = one kinds.LostState why in let h = k.lost in omega (arith, a, b, c, h, three))
          (one kinds.Unframed why ∙ ap (λ (b : Bool). cond b 1 0 + count_of kinds.Unframed rest) last ∙ (let h = k.over in omega (arith, h)))

      lower : (n : ℕ) → 8 ≤ n → (kind : EventKind) → kind_place kind < 8 → (n == kind_place kind) ≡ false
      lower n h kind lt = ne_eqb n (kind_place kind) (λ e. omega (arith, h, lt, e))

      by_why : (why : LostWhy) → (why ≡ whys.Unframed → ⊥) →
          Tallied s bits (flat_map (word_events s bits (p + 67 * d)) (range_with_len 0 (word - d)) ++ (record { bit = p + 67 * word; kind = loss_kind true why } ∷ rest)) (record { at = p + 67 * d; count = word - d; lost = true } ∷ locks) u
      by_why whys.Headers framed = known whys.Headers (lower 8 (omega arith)) refl refl
      by_why whys.Sync framed = known whys.Sync (lower 9 (omega arith)) refl refl
      by_why whys.State framed = known whys.State (lower 10 (omega arith)) refl refl
      by_why whys.Unframed framed = absurd (framed refl)

  more_unframed : (a : Attempt) (rest : List Attempt) → count_by is_unframed (a ∷ rest) ≡ cond (is_unframed a) 1 0 + count_by is_unframed rest
  more_unframed a rest = sum_by-cons (λ (x : Attempt). cond (is_unframed x) 1 0) a rest

  TallyAll : List Attempt → Type 0
  TallyAll rest = (first : Option ℕ) → AttemptsFrom s.metaframe bits first rest → Tallied s bits (lane_events s bits rest) (locks_of bits rest) (count_by is_unframed rest)

  tally_step : (p : ℕ) (o : Option ℕ) (l : Option Loss) (rest : List Attempt) → TallyAll rest → Declared s.metaframe bits p o → LostOr s.metaframe bits p o l →
      AttemptsFrom s.metaframe bits (next_search p l) rest →
      Tallied s bits (lane_events s bits (record { starts = p; declared = o; lost = l } ∷ rest)) (locks_of bits (record { starts = p; declared = o; lost = l } ∷ rest)) (count_by is_unframed (record { starts = p; declared = o; lost = l } ∷ rest))
  unfolding TallyAll
  tally_step p o None (a ∷ rest) all is lost h = absurd h
  tally_step p None None [] all is lost h = none
  tally_step p (Some d) None [] all is lost h =
      let there = declared_here s.metaframe bits p d is in
      subst (λ (es : List LaneEvent). Tallied s bits es (record { at = p + 67 * d; count = (length bits - (p + 67 * d)) / 67; lost = false } ∷ []) 0)
      (sym (append-nil _))
      (one_lock (p + 67 * d) ((length bits - (p + 67 * d)) / 67) false [] [] 0 (omega (arith, there)) refl refl refl refl refl refl refl)
  tally_step p None (Some loss) rest all is lost h =
      subst (λ (n : ℕ). Tallied s bits (losing_events p false (Some loss) ++ lane_events s bits rest) (locks_of bits rest) n)
      (sym (more_unframed (record { starts = p; declared = None; lost = Some loss }) rest))
      (one_unframed p loss (lane_events s bits rest) (locks_of bits rest) (count_by is_unframed rest) (all (next_search p (Some loss)) h))
  tally_step p (Some d) (Some loss) rest all is lost h =
      subst (λ (n : ℕ). Tallied s bits (own s bits p (Some d) (Some loss) ++ lane_events s bits rest) (record { at = p + 67 * d; count = loss.word - d; lost = true } ∷ locks_of bits rest) n)
      (sym (more_unframed (record { starts = p; declared = Some d; lost = Some loss }) rest ∙ (let z : 0 + count_by is_unframed rest ≡ count_by is_unframed rest = omega arith in z)))
      (lost_lock p d loss.word loss.why (lane_events s bits rest) (locks_of bits rest) (count_by is_unframed rest)
      (lost_behind s.metaframe bits p d loss.word loss.why lost.why)
      (λ e. no_unframed s.metaframe bits p d loss.word (lost.why ∙ ap Some e))
      (all (next_search p (Some loss)) h))

  tally_all : (attempts : List Attempt) → TallyAll attempts
  unfolding TallyAll
  tally_all [] first h = none
  tally_all (a ∷ rest) None h = absurd h
  tally_all (a ∷ rest) (Some first) h = tally_step a.starts a.declared a.lost rest (tally_all rest) h.1.declared h.1.lost h.2

  counted : (attempts : List Attempt) → AttemptsFrom s.metaframe bits (Some 0) attempts → Tallied s bits (lane_events s bits attempts) (locks_of bits attempts) (count_by is_unframed attempts)
  unfolding TallyAll
  counted attempts h = tally_all attempts (Some 0) h

pub events_are_counted : EventsAreCounted
events_are_counted s bits events attempts k are =
    let all = counted s bits attempts are in
    let e = events_by s bits events k attempts are in
    subst (λ (es : List LaneEvent). AreCounted es (report_of s bits attempts)) (sym e)
    (record { bad = all.bad; sync = all.sync; state = all.state; diag = all.diag; locks = all.lock; lost = all.lost; unframed = all.over })
