-- Where the words end: after one control word more, after one data word more, and what is said of the whole stream.
use Rattle.std.proofs.Common.{◌≡◌, ◌⊎◌, inl, inr, ℕ, ◌+◌, ◌-◌, ◌*◌, ◌/◌, ◌%◌, ◌<◌, ◌≤◌, List, [], ◌∷◌, ◌++◌, length, map, get_or, Option, Some, None, refl, sym, ap, subst, ◌∙◌, arith}
use Rattle.std.specs.Option.{IsSome}
use Rattle.std.proofs.Math.Nat.{div-mul-le_self, mod-eq-sub-div-mul}
use Rattle.std.proofs.Math.Seq.{take-append_seam}
use Rattle.std.proofs.lemmas.Bool.{cases_lt}
use Rattle.std.proofs.lemmas.List.{take-append-le, length_push}
use Rattle.std.proofs.lemmas.Nat.{mod_below}
use Rattle.std.proofs.lemmas.Option.{slice_get_within}
use Rattle.lk_base.specs.Least.{IsLeast}
use Rattle.lk_base.specs.Words.{block}
use Rattle.lk_base.specs.declared.word.Word.{Word}
use Rattle.lk_base.specs.declared.word.Word.TheVariants.{Data, Control}
use Rattle.lk_base.proofs.LeastLemmas.{one_least}
use Rattle.stream_model.specs.BurstStream.{Source, IsAt, IsReady}
use Rattle.stream_model.proofs.Blocks.{at_cases}
use Rattle.stream_model.proofs.Bursts.{at_seam}
use Rattle.calendar.specs.Changes.{told_back}
use Rattle.burst_scheduler.specs.Gives.{SpacesFit}
use Rattle.burst_scheduler.specs.Bursts.{KeepsRun}
use Rattle.burst_scheduler.specs.declared.line.BurstLine.{BurstLine}
use Rattle.burst_scheduler.proofs.LineWords.{planned_data, holds_data}
use Rattle.burst_scheduler.proofs.Prefix.{two_groups}
use Rattle.live_stream.specs.LiveStream.{Given, source_at, warmup_of, IsLiveEnding, IsWholeLiveStream}
use Rattle.live_stream.specs.Waiting.{channels_of}
use Rattle.live_stream.specs.Turns.{AreInTurn, HaveLeft, IsFirstReady}
use Rattle.live_stream.specs.Gives.{Gives, Holds, AddsBlock, AreRight, HasChunks, GoesOn, HasEnd, AreGivenBy, MayGoOn, planned, to_come, source_of}
use Rattle.live_stream.specs.declared.scheduler.LiveScheduler.{LiveScheduler}
use Rattle.live_stream.proofs.Places.{at_place}
use Rattle.live_stream.proofs.Sources.{is_given}
use Rattle.live_stream.proofs.Steps.{ready_of, none_ready}
use Rattle.live_stream.proofs.OneLive.{ending_moves}
use Rattle.live_stream.proofs.LiveWords.{words_are_live}

-- ---- an ending among the words that were there

pub ending_front : (g : Given) (closed : ℕ) (w ys : List Word) (z : ℕ) → z < length w → IsLiveEnding g closed (w ++ ys) z → IsLiveEnding g closed w z
ending_front g closed w ys z h e = ending_moves g closed (w ++ ys) w z (take-append-le (z + 1) w ys (omega (arith, h))) e

pub ending_more : (g : Given) (closed : ℕ) (w ys : List Word) (z : ℕ) → z < length w → IsLiveEnding g closed w z → IsLiveEnding g closed (w ++ ys) z
ending_more g closed w ys z h e = ending_moves g closed w (w ++ ys) z (sym (take-append-le (z + 1) w ys (omega (arith, h)))) e

pub within : (g : Given) (closed : ℕ) (w : List Word) (z : ℕ) → IsLiveEnding g closed w z → z < length w
within g closed w z e = slice_get_within w z (Control e.control.0) e.control.1

in_group : (z n : ℕ) → 1 ≤ n → z < n * (z / n + 2)
in_group z n some =
    let low_part : z % n < n = mod_below z n (omega arith) in
    let e : z % n ≡ z - z / n * n = mod-eq-sub-div-mul z n in
    let whole : z / n * n ≤ z = div-mul-le_self z n in
    let split : n * (z / n + 2) ≡ z / n * n + 2 * n = two_groups n (z / n) in
    omega (arith, low_part, e, whole, split)

one_below : (m n : ℕ) → m ≤ n → (m ≡ n → ⊥) → m + 1 ≤ n
one_below m n h ne = elim (cases_lt m n) [ inl l ↦ omega arith | inr r ↦ absurd (ne (let s : m ≡ n = omega arith in s)) ]

module _ (g : Given) (w : List Word) (x : ℕ) (ds : List ℕ) where
  old_or_here : (closed z : ℕ) → IsLiveEnding g closed (w ++ block x ds) z → ((z < length w) × IsLiveEnding g closed w z) ⊎ (z ≡ length w)
  old_or_here closed z e = elim (at_cases w x ds z (Control e.control.0) e.control.1) [
    | inl r ↦ inl (r.0, ending_front g closed w (block x ds) z r.0 e)
    | inr r ↦ elim r [ inl s ↦ inr s.0 | inr s ↦ cc (s.3) ]
  ]

  -- the ending was found before
  pub end_still : (z : ℕ) → HasEnd (Some z) g (length w) w → (length w ≡ g.shape.group * (z / g.shape.group + 2) → ⊥) → HasEnd (Some z) g (length w + 1) (w ++ block x ds)
  end_still z h going =
      let closed : ℕ = h.0.0 in
      let inside : z < length w = within g closed w z h.0.2.0 in (
        (closed, h.0.1, (ending_more g closed w (block x ds) z inside h.0.2.0, λ m below e. h.0.2.1 m below (ending_front g closed w (block x ds) m (omega (arith, below, inside)) e))),
        one_below (length w) (g.shape.group * (z / g.shape.group + 2)) h.1 going,
      )

  -- it is here
  pub end_here : (closed : ℕ) → GoesOn g w → g.closed ≡ Some closed → closed ≤ length w → warmup_of g ≤ length w → AreGivenBy g (length w) → ((c : ℕ) → IsReady (source_of g) w c → ⊥) → HasEnd (Some (length w)) g (length w + 1) (w ++ block x ds)
  end_here closed goes is after warm by never =
      let here : source_at g (length w) ≡ source_of g = is_given g (length w) (length w) by (omega arith) in (
        (
          closed,
          is,
          (
            record {
              after = after;
              control = (x, at_seam w (Control x) (map Data ds));
              warm = warm;
              not_ready = λ c r. never c (subst (λ (source : Source). IsReady source w c) here (subst (λ (v : List Word). IsReady (source_at g (length w)) v c) (take-append_seam w (block x ds)) r));
            },
            λ m below e. goes closed m is (ending_front g closed w (block x ds) m below e),
          ),
        ),
        (let i = in_group (length w) g.shape.group g.shape.group_low in omega (arith, i)),
      )

  -- there is none
  pub end_open : GoesOn g w → ((closed : ℕ) → g.closed ≡ Some closed → IsLiveEnding g closed (w ++ block x ds) (length w) → ⊥) → GoesOn g (w ++ block x ds)
  end_open goes not_here closed z is e = elim (old_or_here closed z e) [
    | inl r ↦ goes closed z is r.1
    | inr here ↦ not_here closed is (subst (IsLiveEnding g closed (w ++ block x ds)) here e)
  ]

  -- it is not here where a channel is ready
  pub ready_here : (closed c : ℕ) → AreGivenBy g (length w) → IsReady (source_of g) w c → IsLiveEnding g closed (w ++ block x ds) (length w) → ⊥
  ready_here closed c by r e =
      let here : source_at g (length w) ≡ source_of g = is_given g (length w) (length w) by (omega arith) in
      e.not_ready c (subst (λ (v : List Word). IsReady (source_at g (length w)) v c) (sym (take-append_seam w (block x ds))) (subst (λ (source : Source). IsReady source w c) (sym here) r))

-- one data word more, where the last one is not made
pub end_data : (f : Option ℕ) (g : Given) (n : ℕ) (w : List Word) → ((z : ℕ) → f ≡ Some z → n ≡ g.shape.group * (z / g.shape.group + 2) → ⊥) → HasEnd f g n w → HasEnd f g (n + 1) w
end_data None g n w going h = h
end_data (Some z) g n w going h = (h.0, one_below n (g.shape.group * (z / g.shape.group + 2)) h.1 (going z refl))

-- the last word is not made, by what was given
not_last : (s : LiveScheduler) (g : Given) (w : List Word) → Gives s g w → MayGoOn s → (z : ℕ) → s.finish ≡ Some z → length w ≡ g.shape.group * (z / g.shape.group + 2) → ⊥
not_last s g w h going z e long = going z e (h.words.slot ∙ long ∙ sym (ap (λ n. n * (z / n + 2)) h.words.settings.group))

-- ---- the whole stream

module _ (s : LiveScheduler) (g : Given) (w : List Word) (h : Gives s g w) where
  -- an ending among the words that are planned is one of those made
  made : (closed z : ℕ) → IsLiveEnding g closed (planned s w) z → z < length w
  made closed z e = h.words.begun z e.control.0 e.control.1

  least_made : (closed z : ℕ) → IsLeast (IsLiveEnding g closed (planned s w)) z → IsLeast (IsLiveEnding g closed w) z
  least_made closed z l =
      let inside : z < length w = made closed z l.0 in
      (ending_front g closed w (map Data (to_come s)) z inside l.0, λ m below e. l.1 m below (ending_more g closed w (map Data (to_come s)) m (omega (arith, below, inside)) e))

  pub whole_of : (z : ℕ) → s.finish ≡ Some z → length w ≡ g.shape.group * (z / g.shape.group + 2) → IsWholeLiveStream g w
  whole_of z found long =
      let end : HasEnd (Some z) g (length w) (planned s w) = subst (λ (f : Option ℕ). HasEnd f g (length w) (planned s w)) found h.finish in
      record { live = words_are_live s g w h; finish = (end.0.0, z, end.0.1, least_made end.0.0 z end.0.2, long) }

  some_same : (m n : ℕ) → Some m ≡ Some n → m ≡ n
  some_same m n e = cc

  -- a whole stream ends where the scheduler says
  pub not_whole : MayGoOn s → IsWholeLiveStream g w → ⊥
  not_whole going whole = by s.finish refl h.finish
    where
      closed : ℕ
      closed = whole.finish.0

      z : ℕ
      z = whole.finish.1

      inside : z < length w
      inside = within g closed w z whole.finish.3.0

      by : (f : Option ℕ) → s.finish ≡ f → HasEnd f g (length w) (planned s w) → ⊥
      by None e goes = goes closed z whole.finish.2 (ending_more g closed w (map Data (to_come s)) z inside whole.finish.3.0)
      by (Some y) e end =
          let same_close : end.0.0 ≡ closed = some_same end.0.0 closed (sym end.0.1 ∙ whole.finish.2) in
          let same : y ≡ z = one_least (IsLiveEnding g closed w) y z (subst (λ (c : ℕ). IsLeast (IsLiveEnding g c w) y) same_close (least_made end.0.0 y end.0.2)) whole.finish.3 in
          going y e (h.words.slot ∙ whole.finish.4 ∙ ap (λ n. g.shape.group * (n / g.shape.group + 2)) (sym same) ∙ sym (ap (λ n. n * (y / n + 2)) h.words.settings.group))

-- ---- one data word more

pub data_step : (s : LiveScheduler) (burst : BurstLine) (g : Given) (w : List Word) (d : ℕ) → Gives s g w → MayGoOn s → s.burst.given < s.burst.count → KeepsRun s.burst burst → burst.given ≡ s.burst.given + 1
    → d ≡ get_or s.burst.run.items s.burst.given 0 → Gives (record s { slot = s.slot + 1; burst = burst }) g (w ++ Data d ∷ [])
data_step s burst g w d h going below kept given is =
    let k = h.words in
    let new : LiveScheduler = record s { slot = s.slot + 1; burst = burst } in
    let l : length (w ++ Data d ∷ []) ≡ length w + 1 = length_push w (Data d) in
    let same : planned new (w ++ Data d ∷ []) ≡ planned s w = planned_data s.burst burst (source_of g) w d k.burst kept below given is in
    record {
      words = record {
        settings = record { sizes = k.settings.sizes; short = k.settings.short; group = k.settings.group; warm = k.settings.warm };
        given_by = record {
          packets = λ i p r. let b = k.given_by.packets i p r in omega (arith, b, l);
          flow = λ i p r. let b = k.given_by.flow i p r in omega (arith, b, l);
          local = λ i p r. let b = k.given_by.local i p r in omega (arith, b, l);
          accepted = k.given_by.accepted;
        };
        slot = ap (λ n. n + 1) k.slot ∙ sym l;
        right = subst (AreRight g) (sym same) k.right;
        begun = λ t x at. let b = k.begun t x (subst (λ (v : List Word). IsAt v t (Control x)) same at) in omega (arith, b, l);
        has = subst (HasChunks (source_of g)) (sym same) k.has;
        incoming = k.incoming;
        turns = subst (λ (v : List Word). AreInTurn g.channels (told_back g.entries g.flow) v (channels_of s.turns.items)) (sym same) k.turns;
        left = subst (HaveLeft s.turns.items s.sizes (source_of g)) (sym same) k.left;
        burst = holds_data s.burst burst (source_of g) w d k.burst kept below given is;
        spaces = subst (SpacesFit s.free s.short) (sym same) k.spaces;
      };
      distinct = h.distinct;
      longest = h.longest;
      packets_closed = h.packets_closed;
      closed = h.closed;
      closed_by = λ c e. let b = h.closed_by c e in omega (arith, b, l);
      finish = subst (λ (n : ℕ). HasEnd s.finish g n (planned new (w ++ Data d ∷ []))) (sym l) (subst (HasEnd s.finish g (length w + 1)) (sym same) (end_data s.finish g (length w) (planned s w) (not_last s g w h going) h.finish));
    }

-- ---- one control word more

-- what the ending is where a control word stands at this slot
pub record IsSettled (s : LiveScheduler) (next f : Option ℕ) : Type 0 where
  pub found : s.finish ≡ None → IsSome s.closed → s.warm ≤ s.slot → next ≡ None → f ≡ Some s.slot
  pub still : s.finish ≡ None → s.closed ≡ None → f ≡ None
  pub early : s.finish ≡ None → s.slot < s.warm → f ≡ None
  pub ready : (at : ℕ) → s.finish ≡ None → next ≡ Some at → f ≡ None
  pub before : (z : ℕ) → s.finish ≡ Some z → f ≡ Some z

module _ (s mid new : LiveScheduler) (g : Given) (w : List Word) (x : ℕ) (h : Gives s g w) (none : planned s w ≡ w) (going : MayGoOn s) (next f : Option ℕ) (settled : IsSettled s next f) where
  -- the end after a block, whichever it is
  settled_end : (ds : List ℕ) → IsFirstReady (told_back g.entries g.flow) s.turns.items next → HasEnd f g (length w + 1) (w ++ block x ds)
  settled_end ds first = by s.finish refl h.finish
    where
      goes : s.finish ≡ None → GoesOn g w
      goes e = subst (GoesOn g) none (subst (λ (o : Option ℕ). HasEnd o g (length w) (planned s w)) e h.finish)

      open_end : s.finish ≡ None → f ≡ None → ((closed : ℕ) → g.closed ≡ Some closed → IsLiveEnding g closed (w ++ block x ds) (length w) → ⊥) → HasEnd f g (length w + 1) (w ++ block x ds)
      open_end e is not_here = subst (λ (o : Option ℕ). HasEnd o g (length w + 1) (w ++ block x ds)) (sym is) (end_open g w x ds (goes e) not_here)

      by_ready : s.finish ≡ None → (n : Option ℕ) → next ≡ n → HasEnd f g (length w + 1) (w ++ block x ds)
      by_ready e (Some at) is = open_end e (settled.ready at e is) (λ closed close ending.
          let here : IsFirstReady (told_back g.entries g.flow) s.turns.items (Some at) = subst (IsFirstReady (told_back g.entries g.flow) s.turns.items) is first in
          let there = at_place s.turns.items at here.0 in
          let read : there.0 ≡ get_or s.turns.items at there.0 = sym (there.1 there.0) in
          ready_here g w x ds closed there.0.channel h.words.given_by (ready_of s g w h.words none at there.0 here.0 read (here.1 there.0 read)) ending)
      by_ready e None is = by_closed s.closed refl
        where
          by_closed : (o : Option ℕ) → s.closed ≡ o → HasEnd f g (length w + 1) (w ++ block x ds)
          by_closed None c = open_end e (settled.still e c) (λ closed close ending. let no : None ≡ Some closed = sym c ∙ h.closed ∙ close in cc)
          by_closed (Some closed) c = elim (cases_lt s.slot s.warm) [
            | inl early ↦ open_end e (settled.early e early) (λ closed' close ending. let a = ending.warm in let m = h.words.settings.warm in let n = h.words.slot in omega (arith, a, m, n, early))
            | inr late ↦ (
                let is_closed : g.closed ≡ Some closed = sym h.closed ∙ c in
                let found : f ≡ Some s.slot = settled.found e (subst (λ (o : Option ℕ). IsSome o) (sym c) refl) late is in
                subst (λ (o : Option ℕ). HasEnd o g (length w + 1) (w ++ block x ds)) (sym (found ∙ ap (λ n. Some n) h.words.slot))
                (end_here g w x ds closed (goes e) is_closed (h.closed_by closed is_closed) (let m = h.words.settings.warm in let n = h.words.slot in omega (arith, m, n, late)) h.words.given_by
                (none_ready s g w h.words none (subst (IsFirstReady (told_back g.entries g.flow) s.turns.items) is first))))
          ]

      by : (o : Option ℕ) → s.finish ≡ o → HasEnd o g (length w) (planned s w) → HasEnd f g (length w + 1) (w ++ block x ds)
      by (Some z) e end = subst (λ (o : Option ℕ). HasEnd o g (length w + 1) (w ++ block x ds)) (sym (settled.before z e)) (end_still g w x ds z (subst (HasEnd (Some z) g (length w)) none end) (not_last s g w h going z e))
      by None e end = by_ready e next refl

  -- the scheduler after a block, the ending being known before it
  pub control_step : IsFirstReady (told_back g.entries g.flow) s.turns.items next → mid.max_packet ≡ s.max_packet → mid.packets_closed ≡ s.packets_closed → mid.closed ≡ s.closed → mid.finish ≡ f → Holds new g (w ++ Control x ∷ []) × AddsBlock mid new w x → Gives new g (w ++ Control x ∷ [])
  control_step first same_longest same_packets same_closed found adds =
      let l : length (w ++ Control x ∷ []) ≡ length w + 1 = length_push w (Control x) in
      let a = adds.1 in
      record {
        words = adds.0;
        distinct = h.distinct;
        longest = a.accepts.0 ∙ same_longest ∙ h.longest;
        packets_closed = a.accepts.1 ∙ same_packets ∙ h.packets_closed;
        closed = a.end.0 ∙ same_closed ∙ h.closed;
        closed_by = λ c e. let b = h.closed_by c e in omega (arith, b, l);
        finish = subst (λ (o : Option ℕ). HasEnd o g (length (w ++ Control x ∷ [])) (planned new (w ++ Control x ∷ []))) (sym (a.end.1 ∙ found))
            (subst (λ (n : ℕ). HasEnd f g n (planned new (w ++ Control x ∷ []))) (sym l) (subst (HasEnd f g (length w + 1)) (sym a.words) (settled_end a.run first)));
      }
