-- The scheduler with one more control word, and the data words after it, which are still to come.
use Rattle.std.proofs.Common.{◌≡◌, ◌≢◌, inl, inr, ℕ, suc, ◌+◌, ◌*◌, ◌^◌, ◌<◌, ◌≤◌, Bool, true, false, not, ◌&&◌, ◌==◌, nat_eq, List, [], ◌∷◌, ◌++◌, length, filter, take, get_or, Option, Some, None, slice_get, if◌then◌else◌, Contains, IsTrue, refl, sym, ap, ap₂, subst, ◌∙◌, arith, add-zero, eq-eqb}
use Rattle.std.specs.List.{AllPairs, remove}
use Rattle.std.specs.Option.{option_map_or}
use Rattle.std.specs.declared.cmp.Ordering.TheVariants.{Less}
use Rattle.std.proofs.lemmas.Bool.{cases_lt, ne_eqb}
use Rattle.std.proofs.lemmas.List.{length_push, get_or-map, get_or-take, length-take-le, take-append-le}
use Rattle.std.proofs.Math.Seq.{take-append_seam}
use Rattle.std.proofs.lemmas.List.Elements.{All-append, All-cons, All-nil, Contains-get_or}
use Rattle.lk_base.specs.Words.{block, word_at}
use Rattle.lk_base.specs.Fields.{burst_field, channel_number}
use Rattle.lk_base.specs.Checksum.{digit}
use Rattle.lk_base.specs.declared.word.Word.{Word}
use Rattle.lk_base.specs.declared.word.Word.TheVariants.{Control}
use Rattle.stream_model.specs.Calendar.{Told, on_by_latest, last_turn_on}
use Rattle.stream_model.specs.BurstStream.{Source, Chunk, IsAt, IsReady, IsSpaced, IsRightControl, key, mark_cmp, row_mark, start_mark, burst_mark, later, last_burst, is_burst, is_burst_on, chunk_of_burst, chunks_of, data_words, format_after, packets_of, bursts_in, controls_in, warmup_slots}
use Rattle.stream_model.proofs.Blocks.{IsWhole, at_cases}
use Rattle.stream_model.proofs.Growing.{burst_cases, bursts_block}
use Rattle.stream_model.proofs.NextBlock.{chunk_here}
use Rattle.control_words.specs.ControlWord.{eop_format}
use Rattle.control_words.specs.declared.fields.Control.{Control as Fields}
use Rattle.calendar.specs.Changes.{told_back, state_in}
use Rattle.calendar.specs.Incoming.{Stands}
use Rattle.calendar.specs.Outgoing.{StandsOut}
use Rattle.calendar.proofs.States.{told_of_all}
use Rattle.burst_scheduler.specs.Ring.{key_by}
use Rattle.burst_scheduler.specs.Gives.{SpacesFit}
use Rattle.burst_scheduler.specs.Queues.{chunks_in}
use Rattle.burst_scheduler.specs.declared.sizes.BurstSizes.{BurstSizes}
use Rattle.burst_scheduler.proofs.Adds.{begun_block, old_word, block_word}
use Rattle.burst_scheduler.proofs.Blocks.{length_block}
use Rattle.burst_scheduler.specs.Bursts.{IsSealed}
use Rattle.burst_scheduler.proofs.ControlWords.{right_idle, right_burst}
use Rattle.burst_scheduler.proofs.LineWords.{all_given, planned_block, holds_block}
use Rattle.burst_scheduler.proofs.FlowRows.{told_early}
use Rattle.live_stream.specs.LiveStream.{Given, source_at}
use Rattle.live_stream.specs.Waiting.{HasLeft, channels_of, has_packets}
use Rattle.live_stream.specs.Turns.{AreInTurn, HaveLeft, may_burst, IsFirstReady}
use Rattle.live_stream.specs.Gives.{Holds, HasChunks, AddsBlock, AreRight, IsIdleTime, IsBurstTime, planned, source_of}
use Rattle.live_stream.specs.declared.waiting.Waiting.{Waiting}
use Rattle.live_stream.specs.declared.scheduler.LiveScheduler.{LiveScheduler}
use Rattle.live_stream.proofs.Sources.{is_given}
use Rattle.live_stream.proofs.Right.{right_block}
use Rattle.live_stream.proofs.Left.{left_by}
use Rattle.live_stream.proofs.Places.{at_place, as_many, channel_at, queue_of, all_removed}
use Rattle.live_stream.proofs.InTurn.{turns_idle, turns_burst, apart, moved_back}

-- ---- where a control word is due nothing is to come of the last burst

pub none_to_come : (s : LiveScheduler) (w : List Word) → s.burst.count ≤ s.burst.given → planned s w ≡ w
none_to_come s w h = all_given s.burst w h

-- ---- one block more

pub record KeepsForBlock (old new : LiveScheduler) : Type 0 where
  pub settings : (new.sizes ≡ old.sizes) × (new.short ≡ old.short) × (new.group ≡ old.group) × (new.warm ≡ old.warm)
  pub incoming : new.incoming ≡ old.incoming
  pub slot : new.slot ≡ old.slot + 1
  pub given : new.burst.given ≡ 0
  pub end : (new.closed ≡ old.closed) × (new.finish ≡ old.finish)
  pub accepts : (new.max_packet ≡ old.max_packet) × (new.packets_closed ≡ old.packets_closed)

pub record IsBlock (new : LiveScheduler) (g : Given) (w : List Word) (x : ℕ) (ds : List ℕ) : Type 0 where
  pub run : take new.burst.count new.burst.run.items ≡ ds
  pub count : new.burst.count ≤ 512
  pub long : length new.burst.run.items ≡ 512
  pub fits : x < 2 ^ 64
  pub data_fit : (k d : ℕ) → slice_get ds k ≡ Some d → d < 2 ^ 64
  pub right : IsRightControl (source_of g) w x
  pub whole : IsWhole (source_of g) w x ds
  pub outgoing : StandsOut new.burst.outgoing g.entries g.local (controls_in w + 1)
  pub turns : AreInTurn g.channels (told_back g.entries g.flow) (w ++ block x ds) (channels_of new.turns.items)
  pub left : HaveLeft new.turns.items new.sizes (source_of g) (w ++ block x ds)
  pub end : eop_format new.burst.eop ≡ option_map_or format_after (chunk_of_burst (source_of g) w (Control x)) 0
  pub spaces : SpacesFit new.free new.short (w ++ block x ds)

has_block : (source : Source) (w : List Word) (x : ℕ) (ds : List ℕ) → HasChunks source w → IsRightControl source w x → HasChunks source (w ++ block x ds)
has_block source w x ds has right t y at burst = elim (at_cases w x ds t (Control y) at) [
  | inl r ↦ subst (λ (v : List Word). bursts_in v (channel_number true y) < length (chunks_of source (channel_number true y))) (sym (take-append-le t w (block x ds) (omega (arith, r.0)))) (has t y r.1 burst)
  | inr r ↦ elim r [
    | inl e ↦ (
        let same : y ≡ x = cc (e.1) in
        let here : take t (w ++ block x ds) ≡ w = ap (λ n. take n (w ++ block x ds)) e.0 ∙ take-append_seam w (block x ds) in
        subst (λ (n : ℕ). bursts_in (take t (w ++ block x ds)) (channel_number true n) < length (chunks_of source (channel_number true n))) (sym same)
        (subst (λ (v : List Word). bursts_in v (channel_number true x) < length (chunks_of source (channel_number true x))) (sym here) (right.ready (subst (λ (n : ℕ). burst_field n ≡ 1) same burst)).left))
    | inr e ↦ cc (e.3)
  ]
]

pub block_step : (s new : LiveScheduler) (g : Given) (w : List Word) (x : ℕ) (ds : List ℕ) → Holds s g w → planned s w ≡ w → KeepsForBlock s new → IsBlock new g w x ds → Holds new g (w ++ Control x ∷ []) × AddsBlock s new w x
block_step s new g w x ds h none k is =
    let l : length (w ++ Control x ∷ []) ≡ length w + 1 = length_push w (Control x) in
    let words : planned new (w ++ Control x ∷ []) ≡ w ++ block x ds = planned_block new.burst w x ds k.given is.run in
    let here : source_at g (length w) ≡ source_of g = is_given g (length w) (length w) h.given_by (omega arith) in (
      record {
        settings = record { sizes = k.settings.0 ∙ h.settings.sizes; short = k.settings.1 ∙ h.settings.short; group = k.settings.2 ∙ h.settings.group; warm = k.settings.3 ∙ h.settings.warm };
        given_by = record {
          packets = λ i d r. let b = h.given_by.packets i d r in omega (arith, b, l);
          flow = λ i d r. let b = h.given_by.flow i d r in omega (arith, b, l);
          local = λ i d r. let b = h.given_by.local i d r in omega (arith, b, l);
          accepted = h.given_by.accepted;
        };
        slot = k.slot ∙ ap (λ n. n + 1) h.slot ∙ sym l;
        right = subst (AreRight g) (sym words) (right_block g w x ds (subst (AreRight g) none h.right) is.fits is.data_fit
            (subst (λ (source : Source). IsRightControl source w x) (sym here) is.right) (subst (λ (source : Source). IsWhole source w x ds) (sym here) is.whole));
        begun = subst (λ (v : List Word). (t y : ℕ) → IsAt v t (Control y) → t < length (w ++ Control x ∷ [])) (sym words) (begun_block w x ds);
        has = subst (HasChunks (source_of g)) (sym words) (has_block (source_of g) w x ds (subst (HasChunks (source_of g)) none h.has) is.right);
        incoming = subst (λ c. Stands c g.entries g.flow) (sym k.incoming) h.incoming;
        turns = subst (λ (v : List Word). AreInTurn g.channels (told_back g.entries g.flow) v (channels_of new.turns.items)) (sym words) is.turns;
        left = subst (HaveLeft new.turns.items new.sizes (source_of g)) (sym words) is.left;
        burst = holds_block new.burst w x ds k.given is.run (source_of g) is.outgoing is.long is.count is.end;
        spaces = subst (SpacesFit new.free new.short) (sym words) is.spaces;
      },
      record { run = ds; words = words; end = k.end; accepts = k.accepts },
    )

-- ---- which channels are ready

not_burst : (b : Bool) → (b ≡ true → ⊥) → b ≡ false
not_burst true f = absurd (f refl)
not_burst false f = refl

and_true : (a b : Bool) → (a && b) ≡ true → (a ≡ true) × (b ≡ true)
and_true true b h = (refl, h)
and_true false b h = cc

both_true : (a b : Bool) → a ≡ true → b ≡ true → (a && b) ≡ true
both_true a b h k = rw (h, k) refl

module _ (s : LiveScheduler) (g : Given) (w : List Word) (h : Holds s g w) (none : planned s w ≡ w) where
  abbrev told : List Told
  told = told_back g.entries g.flow

  abbrev turns : List Waiting
  turns = s.turns.items

  line : AreInTurn g.channels told w (channels_of turns)
  line = subst (λ (v : List Word). AreInTurn g.channels told v (channels_of turns)) none h.turns

  pub left_at : (k : ℕ) (q : Waiting) → k < length turns → q ≡ get_or turns k q → HasLeft q s.sizes (packets_of (source_of g) q.channel) (bursts_in w q.channel)
  left_at k q below is =
      subst (λ (p : Waiting). HasLeft p s.sizes (packets_of (source_of g) p.channel) (bursts_in w p.channel)) (sym is) (subst (λ (v : List Word). HaveLeft turns s.sizes (source_of g) v) none h.left k q below)

  key_same : (c : ℕ) → key (source_of g) w c ≡ key_by told w c
  key_same c = ap (λ ts. option_map_or (λ t. later (option_map_or row_mark (last_turn_on ts) (start_mark c)) (burst_mark t)) (last_burst w c (length w)) (option_map_or row_mark (last_turn_on ts) (start_mark c)))
      (told_of_all g.entries g.flow c (length w) h.given_by.flow)

  -- a queue that may burst has a chunk left
  pub some_left : (k : ℕ) (q : Waiting) → k < length turns → q ≡ get_or turns k q → may_burst told q ≡ true → bursts_in w q.channel < length (chunks_in s.sizes (packets_of (source_of g) q.channel))
  some_left k q below is may = (left_by s.sizes q (packets_of (source_of g) q.channel) (bursts_in w q.channel) (left_at k q below is)).0 (and_true (state_in told q.channel) (has_packets q) may).1

  -- the channel of a queue that may burst is ready
  pub ready_of : (k : ℕ) (q : Waiting) → k < length turns → q ≡ get_or turns k q → may_burst told q ≡ true → IsReady (source_of g) w q.channel
  ready_of k q below is may =
      let parts = and_true (state_in told q.channel) (has_packets q) may in
      let left = some_left k q below is may in
      record {
        known = (line.exact q.channel).0 (listed k q below is);
        on = subst (λ ts. IsTrue (on_by_latest ts)) (sym (told_of_all g.entries g.flow q.channel (length w) h.given_by.flow)) parts.0;
        left = subst (λ (m : BurstSizes). bursts_in w q.channel < length (chunks_in m (packets_of (source_of g) q.channel))) h.settings.sizes left;
      }
    where
      listed : (k : ℕ) (q : Waiting) → k < length turns → q ≡ get_or turns k q → Contains (channels_of turns) q.channel
      listed k q below is =
          let n = as_many turns in
          subst (Contains (channels_of turns)) (channel_at turns k q below is) (Contains-get_or (channels_of turns) k 0 (omega (arith, below, n)))

  -- and a ready channel has a queue that may burst
  pub may_of : (c : ℕ) → IsReady (source_of g) w c → (k : ℕ) × (q : Waiting) × (k < length turns) × (q ≡ get_or turns k q) × (q.channel ≡ c) × (may_burst told q ≡ true)
  may_of c r =
      let there = queue_of turns c ((line.exact c).1 r.known) in
      let k : ℕ = there.0 in
      let q : Waiting = there.1 in
      let below : k < length turns = there.2 in
      let is : q ≡ get_or turns k q = there.3 in
      let named : q.channel ≡ c = there.4 in
      let on : state_in told q.channel ≡ true = subst (λ (n : ℕ). state_in told n ≡ true) (sym named) (subst (λ ts. IsTrue (on_by_latest ts)) (told_of_all g.entries g.flow c (length w) h.given_by.flow) r.on) in
      let some : bursts_in w q.channel < length (chunks_in s.sizes (packets_of (source_of g) q.channel)) =
      subst (λ (m : BurstSizes). bursts_in w q.channel < length (chunks_in m (packets_of (source_of g) q.channel))) (sym h.settings.sizes)
      (subst (λ (n : ℕ). bursts_in w n < length (chunks_of (source_of g) n)) (sym named) r.left) in
      (k, q, below, is, named, both_true (state_in told q.channel) (has_packets q) on ((left_by s.sizes q (packets_of (source_of g) q.channel) (bursts_in w q.channel) (left_at k q below is)).1 some))

  pub none_ready : IsFirstReady told turns None → (c : ℕ) → IsReady (source_of g) w c → ⊥
  none_ready never c r =
      let m = may_of c r in
      let off : may_burst told m.1 ≡ false = subst (λ (q : Waiting). may_burst told q ≡ false) (sym m.3) (never m.0 m.1 m.2) in
      let e : true ≡ false = sym m.5 ∙ off in cc

  -- ---- the last burst word is far enough, or it is not

  spaces : SpacesFit s.free s.short w
  spaces = subst (SpacesFit s.free s.short) none h.spaces

  spaced : s.free ≤ s.slot → IsSpaced (source_of g) w
  spaced far t below close = not_burst (is_burst (word_at w t)) (λ b. let n = spaces.near t below b in let e = h.settings.short in let l = h.slot in omega (arith, n, e, l, far, close))

  not_spaced : s.slot < s.free → IsSpaced (source_of g) w → ⊥
  not_spaced near sp = elim spaces.far [
    | inl z ↦ omega (arith, z, near)
    | inr r ↦ (let e = h.settings.short in let l = h.slot in let f : is_burst (word_at w r.0) ≡ false = sp r.0 r.1 (omega (arith, r.3, e, l, near)) in let t : true ≡ false = sym r.2 ∙ f in cc)
  ]

  idle_only : IsIdleTime s told → ((warmup_slots (source_of g) ≤ length w) × ((c : ℕ) × IsReady (source_of g) w c) × IsSpaced (source_of g) w) → ⊥
  idle_only idle may = elim idle [
    | inl warm ↦ (let e = h.settings.warm in let l = h.slot in omega (arith, e, l, warm, may.0))
    | inr r ↦ elim r [
      | inl near ↦ not_spaced near may.2
      | inr never ↦ none_ready never may.1.0 may.1.1
    ]
  ]

  -- the first queue in turn that may burst has the least key
  first_least : (at : ℕ) (q : Waiting) → IsFirstReady told turns (Some at) → q ≡ get_or turns at q → (c : ℕ) → IsReady (source_of g) w c → c ≢ q.channel → mark_cmp (key (source_of g) w q.channel) (key (source_of g) w c) ≡ Less
  first_least at q first is c r ne =
      let m = may_of c r in
      let k : ℕ = m.0 in
      let n = as_many turns in
      let here : get_or (channels_of turns) at 0 ≡ q.channel = channel_at turns at q first.0 is in
      let there : get_or (channels_of turns) k 0 ≡ c = channel_at turns k m.1 m.2 m.3 ∙ m.4 in
      ap₂ mark_cmp (key_same q.channel) (key_same c) ∙ elim (cases_lt at k) [
        | inl l ↦ ap₂ (λ a b. mark_cmp (key_by told w a) (key_by told w b)) (sym here) (sym there) ∙ line.ordered at k 0 l (omega (arith, m.2, n))
        | inr past ↦ elim (cases_lt k at) [
          | inl l ↦ (
              let long : length (take at turns) ≡ at = length-take-le at turns (omega (arith, first.0)) in
              let off : may_burst told (get_or (take at turns) k m.1) ≡ false = first.2 k m.1 (omega (arith, l, long)) in
              let same : get_or (take at turns) k m.1 ≡ m.1 = get_or-take at turns k m.1 l ∙ sym m.3 in
              let e : true ≡ false = sym m.5 ∙ ap (may_burst told) (sym same) ∙ off in cc)
          | inr z ↦ (let both : at ≡ k = omega (arith, past, z) in absurd (ne (sym there ∙ ap (λ i. get_or (channels_of turns) i 0) (sym both) ∙ here)))
        ]
      ]

  -- ---- an idle

  module _ (new : LiveScheduler) (x : ℕ) (fields : Fields) (seal : IsSealed (source_of g) w fields x) (k : KeepsForBlock s new) where
    module _ (fb : fields.burst ≡ false) (fs : fields.sop ≡ false) (fc : fields.channel ≡ 0) (fm : fields.multi ≡ 0) where
      idle_field : burst_field x ≡ 0
      idle_field = seal.burst ∙ ap digit fb

      off : is_burst (Control x) ≡ false
      off = rw idle_field refl

      on_none : (c : ℕ) → is_burst_on c (Control x) ≡ false
      on_none c = ap (λ b. b && (channel_number true x == c)) off

      same_bursts : (c : ℕ) → bursts_in (w ++ block x []) c ≡ bursts_in w c
      same_bursts c = bursts_block w x [] c ∙ ap (λ b. bursts_in w c + (if b then 1 else 0)) (on_none c) ∙ add-zero (bursts_in w c)

      pub idle_step : IsIdleTime s told → StandsOut new.burst.outgoing g.entries g.local (controls_in w + 1) → new.turns ≡ s.turns → new.burst.run ≡ s.burst.run → new.burst.count ≡ 0 → new.free ≡ s.free → eop_format new.burst.eop ≡ 0 → Holds new g (w ++ Control x ∷ []) × AddsBlock s new w x
      idle_step idle out same_turns same_run count free end =
          let long : length (w ++ block x []) ≡ 0 + suc (length w) = length_block w x [] in
          let own : SpacesFit new.free new.short w = subst (λ (n : ℕ). SpacesFit new.free n w) (sym k.settings.1) (subst (λ (n : ℕ). SpacesFit n s.short w) (sym free) spaces) in
          block_step s new g w x [] h none k (record {
            run = ap (λ n. take n new.burst.run.items) count;
            count = omega (arith, count);
            long = ap (λ r. length r.items) same_run ∙ h.burst.long;
            fits = seal.fits;
            data_fit = λ i d at. cc;
            right = right_idle (source_of g) w fields x seal fb fs fc fm (idle_only idle);
            whole = record { burst = λ b. absurd (let z = idle_field in omega (arith, b, z)); idle = λ _. refl };
            outgoing = out;
            turns = subst (λ ts. AreInTurn g.channels told (w ++ block x []) (channels_of ts.items)) (sym same_turns) (turns_idle g.channels told w x [] (channels_of turns) line on_none);
            left = subst (λ ts. HaveLeft ts.items new.sizes (source_of g) (w ++ block x [])) (sym same_turns)
                (subst (λ (m : BurstSizes). HaveLeft turns m (source_of g) (w ++ block x [])) (sym k.settings.0)
                (λ i q below. subst (λ (n : ℕ). HasLeft (get_or turns i q) s.sizes (packets_of (source_of g) (get_or turns i q).channel) n) (sym (same_bursts (get_or turns i q).channel))
                (subst (λ (v : List Word). HaveLeft turns s.sizes (source_of g) v) none h.left i q below)));
            end = end ∙ sym (ap (λ b. option_map_or format_after (if b then slice_get (chunks_of (source_of g) (channel_number true x)) (bursts_in w (channel_number true x)) else None) 0) off);
            spaces = record {
              near = λ t below b. elim (burst_cases w x [] t below b) [
                | inl r ↦ own.near t r.0 r.1
                | inr r ↦ (let e : true ≡ false = sym r.1 ∙ off in cc)
              ];
              far = elim own.far [ inl z ↦ inl z | inr r ↦ inr (r.0, omega (arith, r.1, long), old_word w x [] r.0 r.1 r.2, r.3) ];
            };
          })

    -- ---- a burst

    module _ (at : ℕ) (q : Waiting) (time : IsBurstTime s told at) (is : q ≡ get_or turns at q) (fb : fields.burst ≡ true) (on : fields.channel + 256 * fields.multi ≡ q.channel) (chunk : Chunk) (sop : fields.sop ≡ chunk.is_first)
        (next : slice_get (chunks_in s.sizes (packets_of (source_of g) q.channel)) (bursts_in w q.channel) ≡ Some chunk) where
      abbrev ch : ℕ
      ch = q.channel

      abbrev ds : List ℕ
      ds = data_words chunk.bytes

      below : at < length turns
      below = time.first.0

      ready : IsReady (source_of g) w ch
      ready = ready_of at q below is (time.first.1 q is)

      is_one : burst_field x ≡ 1
      is_one = seal.burst ∙ ap digit fb

      its_channel : channel_number true x ≡ ch
      its_channel = ap₂ (λ low high. low + 256 * high) seal.channel seal.multi ∙ on

      has : is_burst (Control x) ≡ true
      has = rw is_one refl

      on_it : is_burst_on ch (Control x) ≡ true
      on_it = let e : nat_eq (channel_number true x) ch ≡ true = eq-eqb (channel_number true x) ch its_channel in ap (λ t. t && (channel_number true x == ch)) has ∙ e

      others : (c : ℕ) → c ≢ ch → is_burst_on c (Control x) ≡ false
      others c ne = let e : nat_eq (channel_number true x) c ≡ false = ne_eqb (channel_number true x) c (λ z. ne (sym z ∙ its_channel)) in ap (λ t. t && (channel_number true x == c)) has ∙ e

      counted : bursts_in (w ++ block x ds) ch ≡ bursts_in w ch + 1
      counted = bursts_block w x ds ch ∙ ap (λ t. bursts_in w ch + (if t then 1 else 0)) on_it

      counted_other : (c : ℕ) → c ≢ ch → bursts_in (w ++ block x ds) c ≡ bursts_in w c
      counted_other c ne = bursts_block w x ds c ∙ ap (λ t. bursts_in w c + (if t then 1 else 0)) (others c ne) ∙ add-zero (bursts_in w c)

      carried : chunk_of_burst (source_of g) w (Control x) ≡ Some chunk
      carried = chunk_here (source_of g) w x ch chunk is_one its_channel
          (subst (λ (m : BurstSizes). slice_get (chunks_in m (packets_of (source_of g) ch)) (bursts_in w ch) ≡ Some chunk) h.settings.sizes next)

      right : IsRightControl (source_of g) w x
      right = right_burst (source_of g) w fields x ch chunk seal fb sop its_channel
          (subst (λ (m : BurstSizes). slice_get (chunks_in m (packets_of (source_of g) ch)) (bursts_in w ch) ≡ Some chunk) h.settings.sizes next)
          (let e = h.settings.warm in let l = h.slot in omega (arith, e, l, time.warm))
          (spaced time.free)
          ready
          (first_least at q time.first is)

      apart_here : AllPairs (λ (a b : ℕ). a ≡ b → ⊥) (channels_of turns)
      apart_here = apart g.channels told w (channels_of turns) line

      -- another queue has another channel
      other_channel : (i : ℕ) (d : Waiting) → i < length turns → i ≢ at → (get_or turns i d).channel ≢ ch
      other_channel i d inside ne e =
          let n = as_many turns in
          let there = at_place turns i inside in
          let named : get_or (channels_of turns) i 0 ≡ (get_or turns i d).channel = get_or-map (λ (p : Waiting). p.channel) turns i d 0 inside in
          let here : get_or (channels_of turns) at 0 ≡ ch = channel_at turns at q below is in
          elim (cases_lt i at) [
            | inl l ↦ apart_here i at 0 l (let b = below in omega (arith, b, n)) (named ∙ e ∙ sym here)
            | inr past ↦ apart_here at i 0 (omega (arith, past, ne)) (omega (arith, inside, n)) (here ∙ sym e ∙ sym named)
          ]

      pub burst_step : (taken : Waiting) → new.turns.items ≡ remove turns at ++ taken ∷ [] → taken.channel ≡ ch → HasLeft taken s.sizes (packets_of (source_of g) ch) (bursts_in w ch + 1)
          → StandsOut new.burst.outgoing g.entries g.local (controls_in w + 1) → take new.burst.count new.burst.run.items ≡ ds → new.burst.count ≤ 512 → length new.burst.run.items ≡ 512 → ((i d : ℕ) → slice_get ds i ≡ Some d → d < 2 ^ 64)
          → eop_format new.burst.eop ≡ format_after chunk → new.free ≡ s.slot + 1 + s.short → Holds new g (w ++ Control x ∷ []) × AddsBlock s new w x
      burst_step taken back same_channel after out run count long data_fit end free =
          let words : length (w ++ block x ds) ≡ length ds + suc (length w) = length_block w x ds in
          let slot : s.slot ≡ length w = h.slot in
          let n = as_many turns in
          let order : channels_of new.turns.items ≡ filter (λ c. not (c == ch)) (channels_of turns) ++ ch ∷ [] =
          subst (λ (c : ℕ). channels_of new.turns.items ≡ filter (λ d. not (d == c)) (channels_of turns) ++ c ∷ []) same_channel
          (moved_back turns new.turns.items at taken apart_here (let b = below in omega (arith, b, n)) (same_channel ∙ sym (channel_at turns at q below is)) back) in
          block_step s new g w x ds h none k (record {
            run = run;
            count = count;
            long = long;
            fits = seal.fits;
            data_fit = data_fit;
            right = right;
            whole = record { burst = λ _. (chunk, carried, refl); idle = λ z. absurd (let o = is_one in omega (arith, z, o)) };
            outgoing = out;
            turns = subst (AreInTurn g.channels told (w ++ block x ds)) (sym order) (turns_burst g.channels told w x ds (channels_of turns) line ch others on_it ready.known (told_early g.entries (length w) g.flow h.given_by.flow));
            left = subst (λ ts. HaveLeft ts new.sizes (source_of g) (w ++ block x ds)) (sym back)
                (subst (λ (m : BurstSizes). HaveLeft (remove turns at ++ taken ∷ []) m (source_of g) (w ++ block x ds)) (sym k.settings.0)
                (All-append (λ (p : Waiting). HasLeft p s.sizes (packets_of (source_of g) p.channel) (bursts_in (w ++ block x ds) p.channel)) (remove turns at) (taken ∷ [])
                (all_removed (λ (p : Waiting). HasLeft p s.sizes (packets_of (source_of g) p.channel) (bursts_in (w ++ block x ds) p.channel)) turns at below
                (λ i d inside ne. subst (λ (m : ℕ). HasLeft (get_or turns i d) s.sizes (packets_of (source_of g) (get_or turns i d).channel) m) (sym (counted_other (get_or turns i d).channel (other_channel i d inside ne)))
                (subst (λ (v : List Word). HaveLeft turns s.sizes (source_of g) v) none h.left i d inside)))
                (All-cons (λ (p : Waiting). HasLeft p s.sizes (packets_of (source_of g) p.channel) (bursts_in (w ++ block x ds) p.channel)) taken []
                (subst (λ (c : ℕ). HasLeft taken s.sizes (packets_of (source_of g) c) (bursts_in (w ++ block x ds) c)) (sym same_channel) (subst (HasLeft taken s.sizes (packets_of (source_of g) ch)) (sym counted) after))
                (All-nil (λ (p : Waiting). HasLeft p s.sizes (packets_of (source_of g) p.channel) (bursts_in (w ++ block x ds) p.channel))))));
            end = end ∙ sym (ap (λ o. option_map_or format_after o 0) carried);
            spaces = record {
              near = λ t inside b. elim (burst_cases w x ds t inside b) [
                | inl r ↦ (let m = spaces.near t r.0 r.1 in let e = k.settings.1 in let f = time.free in omega (arith, m, free, e, f))
                | inr r ↦ (let e = k.settings.1 in omega (arith, r.0, free, e, slot))
              ];
              far = inr (length w, omega (arith, words), block_word w x ds has, (let e = k.settings.1 in omega (arith, free, e, slot)));
            };
          })

-- the ending does not show in what the scheduler holds
pub settle_holds : (s : LiveScheduler) (f : Option ℕ) (g : Given) (w : List Word) → Holds s g w → Holds (record s { finish = f }) g w
settle_holds s f g w k = record {
  settings = record { sizes = k.settings.sizes; short = k.settings.short; group = k.settings.group; warm = k.settings.warm };
  given_by = k.given_by;
  slot = k.slot;
  right = k.right;
  begun = k.begun;
  has = k.has;
  incoming = k.incoming;
  turns = k.turns;
  left = k.left;
  burst = k.burst;
  spaces = k.spaces;
}
