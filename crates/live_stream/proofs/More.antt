-- The scheduler where a packet, a row or the close was given.
use Rattle.std.proofs.Common.{cond, add-zero, ◌≡◌, ◌≢◌, ◌↔◌, inl, inr, ℕ, zero, suc, ◌+◌, ◌-◌, ◌<◌, ◌≤◌, ◌==◌, nat_eq, nat_lt, Bool, true, false, List, [], ◌∷◌, ◌++◌, length, map, filter, take, get_or, Option, Some, None, if◌then◌else◌, slice_get, is_some, Contains, All, refl, sym, ap, ap₂, subst, ◌∙◌, arith, append-nil, length-append, eqb-true, Vec, Global}
use Rattle.std.specs.Option.{option_map_or, option_or}
use Rattle.std.proofs.Math.ListN.{set}
use Rattle.std.proofs.lemmas.Bool.Decides.{nat_tests}
use Rattle.std.proofs.lemmas.Bool.{cases_lt, cases_eq}
use Rattle.std.proofs.lemmas.List.{get_or_past, get_or-map, get_or-set_same, get_or-set_other, length-set, map-append}
use Rattle.std.proofs.lemmas.List.Concat.{flat_map-append}
use Rattle.std.proofs.lemmas.List.Elements.{filter-append, All-push, All-cons, All-nil, Contains-get_or}
use Rattle.lk_base.specs.Words.{word_at}
use Rattle.lk_base.specs.Fields.{burst_field, channel_number, has_burst}
use Rattle.lk_base.specs.declared.word.Word.{Word}
use Rattle.lk_base.specs.declared.word.Word.TheVariants.{Data, Control}
use Rattle.stream_model.specs.BurstStream.{is_burst_on, Source, Chunk, IsAt, chunk_of_burst, chunks_of, chunks_by, data_since, end_format, format_after, packets_of, bursts_in}
use Rattle.stream_model.specs.declared.rows.FlowRow.{FlowRow}
use Rattle.stream_model.specs.declared.rows.LocalRow.{LocalRow}
use Rattle.duplex_model.proofs.Runs.{at_word, IsData, IsControl, word_cases}
use Rattle.stream_model.proofs.Growing.{no_bursts}
use Rattle.std.proofs.lemmas.List.Sums.{sum_by-append}
use Rattle.burst_scheduler.specs.Queues.{chunks_in}
use Rattle.burst_scheduler.specs.declared.sizes.BurstSizes.{BurstSizes}
use Rattle.live_stream.specs.LiveStream.{LivePacket, Given, IsLiveEnding, IsLiveStream, IsWholeLiveStream, as_sent, with_more}
use Rattle.live_stream.specs.Waiting.{AreCounts, HasLeft, bytes_in, channels_of}
use Rattle.live_stream.specs.Turns.{AreInTurn, HaveLeft}
use Rattle.std.specs.List.{flat_map}
use Rattle.calendar.specs.Changes.{told_back}
use Rattle.calendar.specs.Incoming.{Stands}
use Rattle.calendar.specs.Outgoing.{StandsOut}
use Rattle.calendar.specs.declared.incoming.CalendarIn.{CalendarIn}
use Rattle.calendar.specs.declared.outgoing.CalendarOut.{CalendarOut}
use Rattle.burst_scheduler.specs.Bursts.{with_outgoing}
use Rattle.burst_scheduler.specs.declared.line.BurstLine.{BurstLine}
use Rattle.live_stream.proofs.InTurn.{apart}
use Rattle.stream_model.specs.BurstStream.{controls_in}
use Rattle.live_stream.specs.Gives.{AreCountsOf, IsAccepted, to_come, Gives, HasEnd, HasChunks, AreRight, packet_added, flow_added, local_added, packets_closed_in, closed_at, planned, source_of}
use Rattle.live_stream.specs.declared.waiting.Waiting.{Waiting}
use Rattle.live_stream.specs.declared.scheduler.LiveScheduler.{LiveScheduler}
use Rattle.live_stream.proofs.Right.{right_later}
use Rattle.live_stream.proofs.Places.{channel_at, as_many}

-- ---- the words stay right

module _ (g : Given) (w v : List Word) (begun : (t x : ℕ) → IsAt v t (Control x) → t < length w) (right : AreRight g v) where
  none_of : {X : Type 0} (P : X → Type 0) → All P []
  none_of P = All-nil P

  abbrev having_rows : Given → List LivePacket → List FlowRow → List LocalRow → Given
  having_rows h packets flow local = record h { packets = packets; flow = flow; local = local }

  pub right_packet : (channel : ℕ) (bytes : List ℕ) → AreRight (packet_added g w channel bytes) v
  right_packet channel bytes =
      let p : LivePacket = record { slot = length w; channel = channel; bytes = bytes } in
      let more : AreRight (with_more g (p ∷ []) [] []) v = right_later g (p ∷ []) [] [] v (length w) (record {
        packets_later = All-cons (λ (q : LivePacket). length w ≤ q.slot) p [] (omega arith) (All-nil (λ (q : LivePacket). length w ≤ q.slot));
        flow_later = All-nil (λ (r : FlowRow). length w ≤ r.slot);
        local_later = All-nil (λ (r : LocalRow). length w ≤ r.slot);
      }) begun right in
      subst (λ (h : Given). AreRight h v) (ap₂ (λ f l. having_rows g (g.packets ++ p ∷ []) f l) (append-nil g.flow) (append-nil g.local)) more

  pub right_flow : (word : ℕ) → AreRight (flow_added g w word) v
  right_flow word =
      let r : FlowRow = record { slot = length w; word = word } in
      let more : AreRight (with_more g [] (r ∷ []) []) v = right_later g [] (r ∷ []) [] v (length w) (record {
        packets_later = All-nil (λ (q : LivePacket). length w ≤ q.slot);
        flow_later = All-cons (λ (q : FlowRow). length w ≤ q.slot) r [] (omega arith) (All-nil (λ (q : FlowRow). length w ≤ q.slot));
        local_later = All-nil (λ (q : LocalRow). length w ≤ q.slot);
      }) begun right in
      subst (λ (h : Given). AreRight h v) (ap₂ (λ p l. having_rows g p (g.flow ++ r ∷ []) l) (append-nil g.packets) (append-nil g.local)) more

  pub right_local : (channel : ℕ) (on : Bool) → AreRight (local_added g w channel on) v
  right_local channel on =
      let r : LocalRow = record { slot = length w; channel = channel; on = on } in
      let more : AreRight (with_more g [] [] (r ∷ [])) v = right_later g [] [] (r ∷ []) v (length w) (record {
        packets_later = All-nil (λ (q : LivePacket). length w ≤ q.slot);
        flow_later = All-nil (λ (q : FlowRow). length w ≤ q.slot);
        local_later = All-cons (λ (q : LocalRow). length w ≤ q.slot) r [] (omega arith) (All-nil (λ (q : LocalRow). length w ≤ q.slot));
      }) begun right in
      subst (λ (h : Given). AreRight h v) (ap₂ (λ p f. having_rows g p f (g.local ++ r ∷ [])) (append-nil g.packets) (append-nil g.flow)) more

-- ---- the packets of the channels

module _ (g : Given) (w : List Word) (channel : ℕ) (bytes : List ℕ) where
  abbrev now : Source
  now = source_of (packet_added g w channel bytes)

  added_to : (c : ℕ) → packets_of now c ≡ packets_of (source_of g) c ++ map (λ (p : ℕ × List ℕ). p.1) (filter (λ (p : ℕ × List ℕ). p.0 == c) ((channel, bytes) ∷ []))
  added_to c =
      let test = λ (p : ℕ × List ℕ). p.0 == c in
      ap (λ ps. map (λ (p : ℕ × List ℕ). p.1) (filter test ps)) (map-append as_sent g.packets (record { slot = length w; channel = channel; bytes = bytes } ∷ []))
      ∙ ap (map (λ (p : ℕ × List ℕ). p.1)) (filter-append test (map as_sent g.packets) ((channel, bytes) ∷ []))
      ∙ map-append (λ (p : ℕ × List ℕ). p.1) (filter test (map as_sent g.packets)) (filter test ((channel, bytes) ∷ []))

  pub own_packets : packets_of now channel ≡ packets_of (source_of g) channel ++ bytes ∷ []
  own_packets =
      let test : nat_eq channel channel ≡ true = grind (arith, nat_tests) in
      added_to channel ∙ ap (λ (b : Bool). packets_of (source_of g) channel ++ map (λ (p : ℕ × List ℕ). p.1) (if b then (channel, bytes) ∷ [] else [])) test

  pub other_packets : (c : ℕ) → channel ≢ c → packets_of now c ≡ packets_of (source_of g) c
  other_packets c ne =
      let test : nat_eq channel c ≡ false = grind (arith, nat_tests) in
      added_to c ∙ ap (λ (b : Bool). packets_of (source_of g) c ++ map (λ (p : ℕ × List ℕ). p.1) (if b then (channel, bytes) ∷ [] else [])) test ∙ append-nil (packets_of (source_of g) c)

  -- chunks come after those that were there
  pub chunks_more : (c : ℕ) → (more : List Chunk) × (chunks_of now c ≡ chunks_of (source_of g) c ++ more)
  chunks_more c =
      let extra : List (List ℕ) = map (λ (p : ℕ × List ℕ). p.1) (filter (λ (p : ℕ × List ℕ). p.0 == c) ((channel, bytes) ∷ [])) in
      (_, ap (flat_map (chunks_by g.shape)) (added_to c) ∙ flat_map-append (chunks_by g.shape) (packets_of (source_of g) c) extra)

-- ---- the end format is that of the last burst, whose chunk was there

get_left : {X : Type 0} (xs ys : List X) (i : ℕ) → i < length xs → slice_get (xs ++ ys) i ≡ slice_get xs i
get_left [] ys i h = absurd (omega arith)
get_left (x ∷ xs) ys zero h = refl
get_left (x ∷ xs) ys (suc i) h = get_left xs ys i (omega arith)

module _ (g : Given) (w : List Word) (channel : ℕ) (bytes : List ℕ) (v : List Word) (has : HasChunks (source_of g) v) where
  same_slice : (c i : ℕ) → i < length (chunks_of (source_of g) c) → slice_get (chunks_of (now g w channel bytes) c) i ≡ slice_get (chunks_of (source_of g) c) i
  same_slice c i h = let m = chunks_more g w channel bytes c in ap (λ cs. slice_get cs i) m.1 ∙ get_left (chunks_of (source_of g) c) m.0 i h

  of_control : (t x : ℕ) → IsAt v t (Control x) → chunk_of_burst (now g w channel bytes) (take t v) (Control x) ≡ chunk_of_burst (source_of g) (take t v) (Control x)
  of_control t x at = by (has_burst x) refl
    where
      by : (b : Bool) → has_burst x ≡ b → (if b then slice_get (chunks_of (now g w channel bytes) (channel_number true x)) (bursts_in (take t v) (channel_number true x)) else None) ≡ (if b then slice_get (chunks_of (source_of g) (channel_number true x)) (bursts_in (take t v) (channel_number true x)) else None)
      by false e = refl
      by true e = same_slice (channel_number true x) (bursts_in (take t v) (channel_number true x)) (has t x at (eqb-true (burst_field x) 1 e))

  same_chunk : (t : ℕ) → chunk_of_burst (now g w channel bytes) (take t v) (word_at v t) ≡ chunk_of_burst (source_of g) (take t v) (word_at v t)
  same_chunk t = elim (cases_lt t (length v)) [
    | inl l ↦ elim (word_cases (word_at v t)) [
      | IsData x e ↦ ap (chunk_of_burst (now g w channel bytes) (take t v)) e ∙ sym (ap (chunk_of_burst (source_of g) (take t v)) e)
      | IsControl x e ↦ ap (chunk_of_burst (now g w channel bytes) (take t v)) e ∙ of_control t x (at_word v t l ∙ ap Some e) ∙ sym (ap (chunk_of_burst (source_of g) (take t v)) e)
    ]
    | inr past ↦ (let e : word_at v t ≡ Control 0 = get_or_past v t (Control 0) past in ap (chunk_of_burst (now g w channel bytes) (take t v)) e ∙ sym (ap (chunk_of_burst (source_of g) (take t v)) e))
  ]

  pub same_format : end_format (now g w channel bytes) v ≡ end_format (source_of g) v
  same_format =
      let upto : ℕ = length v - length (data_since v) in
      ap (λ o. if nat_lt 0 upto then option_map_or format_after o 0 else 0) (same_chunk (upto - 1))

  pub more_chunks : HasChunks (now g w channel bytes) v
  more_chunks t x at burst =
      let c : ℕ = channel_number true x in
      let m = chunks_more g w channel bytes c in
      let long : length (chunks_of (now g w channel bytes) c) ≡ length (chunks_of (source_of g) c) + length m.0 = ap length m.1 ∙ length-append (chunks_of (source_of g) c) m.0 in
      let below = has t x at burst in
      omega (arith, below, long)

-- ---- a queue that has one packet more

module _ (turns : List Waiting) (at : ℕ) (old new : Waiting) (below : at < length turns) (old_is : old ≡ get_or turns at old) (same : new.channel ≡ old.channel) where
  set_channels : (ts : List Waiting) (k : ℕ) → get_or ts k old ≡ old → channels_of (set ts k new) ≡ channels_of ts
  set_channels [] k e = refl
  set_channels (q ∷ ts) zero e = ap (λ c. c ∷ channels_of ts) (same ∙ ap (λ (p : Waiting). p.channel) (sym e))
  set_channels (q ∷ ts) (suc k) e = ap (λ cs. q.channel ∷ cs) (set_channels ts k e)

  pub same_channels : channels_of (set turns at new) ≡ channels_of turns
  same_channels = set_channels turns at (sym old_is)

  pub all_set : (P Q : Waiting → Type 0) → All P turns → Q new → ((k : ℕ) (q : Waiting) → k < length turns → k ≢ at → P (get_or turns k q) → Q (get_or turns k q)) → All Q (set turns at new)
  all_set P Q all here others k d l =
      let n : length (set turns at new) ≡ length turns = length-set turns at new in
      let inside : k < length turns = omega (arith, l, n) in
      elim (cases_eq k at) [
        | inl e ↦ subst Q (sym (ap (λ i. get_or (set turns at new) i d) e ∙ get_or-set_same turns at new d below)) here
        | inr ne ↦ subst Q (sym (get_or-set_other turns at k new d ne)) (others k d inside ne (all k d inside))
      ]

-- ---- the end of a stream whose packets are closed

ending_same : (g : Given) (closed : ℕ) (v : List Word) (z : ℕ) → IsLiveEnding g closed v z → IsLiveEnding (packets_closed_in g) closed v z
ending_same g closed v z e = record { after = e.after; control = e.control; warm = e.warm; not_ready = e.not_ready }

ending_back : (g : Given) (closed : ℕ) (v : List Word) (z : ℕ) → IsLiveEnding (packets_closed_in g) closed v z → IsLiveEnding g closed v z
ending_back g closed v z e = record { after = e.after; control = e.control; warm = e.warm; not_ready = e.not_ready }

live_same : (g : Given) (v : List Word) → IsLiveStream g v → IsLiveStream (packets_closed_in g) v
live_same g v l = record { sized = l.sized; data_in_bursts = l.data_in_bursts; warmup = l.warmup; chunks = l.chunks; controls = l.controls }

live_back : (g : Given) (v : List Word) → IsLiveStream (packets_closed_in g) v → IsLiveStream g v
live_back g v l = record { sized = l.sized; data_in_bursts = l.data_in_bursts; warmup = l.warmup; chunks = l.chunks; controls = l.controls }

pub live_either : (g : Given) (v : List Word) → IsLiveStream g v ↔ IsLiveStream (packets_closed_in g) v
live_either g v = (live_same g v, live_back g v)

pub whole_either : (g : Given) (v : List Word) → IsWholeLiveStream g v ↔ IsWholeLiveStream (packets_closed_in g) v
whole_either g v = (
  λ k. let (closed, z, is, least, long) = k.finish in record { live = live_same g v k.live; finish = (closed, z, is, (ending_same g closed v z least.0, λ m below e. least.1 m below (ending_back g closed v m e)), long) },
  λ k. let (closed, z, is, least, long) = k.finish in record { live = live_back g v k.live; finish = (closed, z, is, (ending_back g closed v z least.0, λ m below e. least.1 m below (ending_same g closed v m e)), long) },
)

end_same : (g : Given) (made : ℕ) (v : List Word) (f : Option ℕ) → HasEnd f g made v → HasEnd f (packets_closed_in g) made v
end_same g made v None goes = λ closed z is e. goes closed z is (ending_back g closed v z e)
end_same g made v (Some z) h = ((h.0.0, h.0.1, (ending_same g h.0.0 v z h.0.2.0, λ m below e. h.0.2.1 m below (ending_back g h.0.0 v m e))), h.1)

-- ---- the calls

abbrev pub with_turns : LiveScheduler → Vec Waiting Global → LiveScheduler
with_turns s turns = record s { turns = turns }

module _ (s : LiveScheduler) (g : Given) (w : List Word) (h : Gives s g w) where
  pub packet_step : (turns : Vec Waiting Global) (at : ℕ) (old new : Waiting) (channel : ℕ) (bytes : List ℕ) → turns.items ≡ set s.turns.items at new → at < length s.turns.items → old ≡ get_or s.turns.items at old → new.channel ≡ old.channel
      → old.channel ≡ channel → ((sizes : BurstSizes) (packets : List (List ℕ)) (done : ℕ) → HasLeft old sizes packets done → HasLeft new sizes (packets ++ bytes ∷ []) done) → 1 ≤ length bytes → length bytes ≤ g.max_packet → g.closed ≡ None → Gives (with_turns s turns) (packet_added g w channel bytes) w
  packet_step turns at old new channel bytes is below old_is same named more some short open_still =
      let k = h.words in
      let c : Given = packet_added g w channel bytes in
      let v : List Word = planned s w in
      let line : channels_of turns.items ≡ channels_of s.turns.items = ap channels_of is ∙ same_channels s.turns.items at old new below old_is same in
      let place : get_or (channels_of s.turns.items) at 0 ≡ channel = channel_at s.turns.items at old below old_is ∙ named in
      let n = as_many s.turns.items in
      let p : LivePacket = record { slot = length w; channel = channel; bytes = bytes } in
      record {
        words = record {
          settings = record { sizes = k.settings.sizes; short = k.settings.short; group = k.settings.group; warm = k.settings.warm };
          given_by = record {
            packets = All-push (λ (q : LivePacket). q.slot ≤ length w) g.packets p k.given_by.packets (omega arith);
            flow = k.given_by.flow;
            local = k.given_by.local;
            accepted = All-push (IsAccepted g.channels g.max_packet) g.packets p k.given_by.accepted (record { listed = (k.turns.exact channel).0 (subst (Contains (channels_of s.turns.items)) place (Contains-get_or (channels_of s.turns.items) at 0 (omega (arith, below, n)))); some = some; short = short });
          };
          slot = k.slot;
          right = right_packet g w v k.begun k.right channel bytes;
          begun = k.begun;
          has = more_chunks g w channel bytes v k.has;
          incoming = k.incoming;
          turns = subst (AreInTurn g.channels (told_back g.entries g.flow) v) (sym line) (record { exact = k.turns.exact; ordered = k.turns.ordered });
          left = subst (λ ts. HaveLeft ts s.sizes (source_of c) v) (sym is)
              (all_set s.turns.items at old new below old_is same
              (λ (q : Waiting). HasLeft q s.sizes (packets_of (source_of g) q.channel) (bursts_in v q.channel))
              (λ (q : Waiting). HasLeft q s.sizes (packets_of (source_of c) q.channel) (bursts_in v q.channel))
              k.left
              (subst (λ (i : ℕ). HasLeft new s.sizes (packets_of (source_of c) i) (bursts_in v i)) (sym (same ∙ named))
              (subst (λ ps. HasLeft new s.sizes ps (bursts_in v channel)) (sym (own_packets g w channel bytes))
              (more s.sizes (packets_of (source_of g) channel) (bursts_in v channel) (subst (λ (i : ℕ). HasLeft old s.sizes (packets_of (source_of g) i) (bursts_in v i)) named
              (subst (λ (q : Waiting). HasLeft q s.sizes (packets_of (source_of g) q.channel) (bursts_in v q.channel)) (sym old_is) (k.left at old below))))))
              (λ i q inside ne l. subst (λ ps. HasLeft (get_or s.turns.items i q) s.sizes ps (bursts_in v (get_or s.turns.items i q).channel))
              (sym (other_packets g w channel bytes (get_or s.turns.items i q).channel (λ e. other_place i q inside ne (sym e)))) l));
          burst = record { outgoing = k.burst.outgoing; long = k.burst.long; given = k.burst.given; since = k.burst.since; end = k.burst.end ∙ sym (same_format g w channel bytes v k.has) };
          spaces = k.spaces;
        };
        distinct = h.distinct;
        longest = h.longest;
        packets_closed = h.packets_closed;
        closed = h.closed;
        closed_by = h.closed_by;
        finish = end_kept s.finish h.finish;
      }
    where
      other_place : (i : ℕ) (q : Waiting) → i < length s.turns.items → i ≢ at → (get_or s.turns.items i q).channel ≡ channel → ⊥
      other_place i q inside ne e =
          let n = as_many s.turns.items in
          let distinct = apart g.channels (told_back g.entries g.flow) (planned s w) (channels_of s.turns.items) h.words.turns in
          let there : get_or (channels_of s.turns.items) i 0 ≡ channel = get_or-map (λ (p : Waiting). p.channel) s.turns.items i q 0 inside ∙ e in
          let here : get_or (channels_of s.turns.items) at 0 ≡ channel = channel_at s.turns.items at old below old_is ∙ named in
          elim (cases_lt i at) [
            | inl l ↦ distinct i at 0 l (omega (arith, below, n)) (there ∙ sym here)
            | inr past ↦ distinct at i 0 (omega (arith, past, ne)) (omega (arith, inside, n)) (here ∙ sym there)
          ]

      -- an open stream has no ending, whatever was given
      end_kept : (f : Option ℕ) → HasEnd f g (length w) (planned s w) → HasEnd f (packet_added g w channel bytes) (length w) (planned s w)
      end_kept None e = λ closed z is_closed ending. let no : None ≡ Some closed = sym open_still ∙ is_closed in cc
      end_kept (Some z) e = let no : None ≡ Some e.0.0 = sym open_still ∙ e.0.1 in cc

  -- a queue that holds what it held
  pub packet_kept : (turns : Vec Waiting Global) (at : ℕ) (old new : Waiting) → turns.items ≡ set s.turns.items at new → at < length s.turns.items → old ≡ get_or s.turns.items at old → new.channel ≡ old.channel
      → ((sizes : BurstSizes) (packets : List (List ℕ)) (done : ℕ) → HasLeft old sizes packets done → HasLeft new sizes packets done) → Gives (with_turns s turns) g w
  packet_kept turns at old new is below old_is same more =
      let k = h.words in
      let v : List Word = planned s w in
      let line : channels_of turns.items ≡ channels_of s.turns.items = ap channels_of is ∙ same_channels s.turns.items at old new below old_is same in
      let P = λ (q : Waiting). HasLeft q s.sizes (packets_of (source_of g) q.channel) (bursts_in v q.channel) in
      record {
        words = record {
          settings = record { sizes = k.settings.sizes; short = k.settings.short; group = k.settings.group; warm = k.settings.warm };
          given_by = k.given_by;
          slot = k.slot;
          right = k.right;
          begun = k.begun;
          has = k.has;
          incoming = k.incoming;
          turns = subst (AreInTurn g.channels (told_back g.entries g.flow) v) (sym line) (record { exact = k.turns.exact; ordered = k.turns.ordered });
          left = subst (λ ts. HaveLeft ts s.sizes (source_of g) v) (sym is)
              (all_set s.turns.items at old new below old_is same P P k.left
              (subst (λ (i : ℕ). HasLeft new s.sizes (packets_of (source_of g) i) (bursts_in v i)) (sym same) (more s.sizes (packets_of (source_of g) old.channel) (bursts_in v old.channel) (subst P (sym old_is) (k.left at old below))))
              (λ i q inside ne l. l));
          burst = k.burst;
          spaces = k.spaces;
        };
        distinct = h.distinct;
        longest = h.longest;
        packets_closed = h.packets_closed;
        closed = h.closed;
        closed_by = h.closed_by;
        finish = h.finish;
      }

  module _ (open_still : g.closed ≡ None) where
    end_open : (c : Given) → c.closed ≡ g.closed → (f : Option ℕ) → HasEnd f g (length w) (planned s w) → HasEnd f c (length w) (planned s w)
    end_open c same None e = λ closed z is_closed ending. let no : None ≡ Some closed = sym open_still ∙ sym same ∙ is_closed in cc
    end_open c same (Some z) e = let no : None ≡ Some e.0.0 = sym open_still ∙ e.0.1 in cc

    pub flow_step : (turns : Vec Waiting Global) (incoming : CalendarIn) (word : ℕ) → Stands incoming g.entries (flow_added g w word).flow
        → AreInTurn g.channels (told_back g.entries (flow_added g w word).flow) (planned s w) (channels_of turns.items) → HaveLeft turns.items s.sizes (source_of g) (planned s w)
        → Gives (record s { turns = turns; incoming = incoming }) (flow_added g w word) w
    flow_step turns incoming word stands order left =
        let k = h.words in
        record {
          words = record {
            settings = record { sizes = k.settings.sizes; short = k.settings.short; group = k.settings.group; warm = k.settings.warm };
            given_by = record {
              packets = k.given_by.packets;
              flow = All-push (λ (r : FlowRow). r.slot ≤ length w) g.flow (record { slot = length w; word = word }) k.given_by.flow (omega arith);
              local = k.given_by.local;
              accepted = k.given_by.accepted;
            };
            slot = k.slot;
            right = right_flow g w (planned s w) k.begun k.right word;
            begun = k.begun;
            has = k.has;
            incoming = stands;
            turns = order;
            left = left;
            burst = record { outgoing = k.burst.outgoing; long = k.burst.long; given = k.burst.given; since = k.burst.since; end = k.burst.end };
            spaces = k.spaces;
          };
          distinct = h.distinct;
          longest = h.longest;
          packets_closed = h.packets_closed;
          closed = h.closed;
          closed_by = h.closed_by;
          finish = end_open (flow_added g w word) refl s.finish h.finish;
        }

    pub local_step : (burst : BurstLine) (outgoing : CalendarOut) (channel : ℕ) (on : Bool) → burst ≡ with_outgoing s.burst outgoing → StandsOut outgoing g.entries (local_added g w channel on).local (controls_in w)
        → Gives (record s { burst = burst }) (local_added g w channel on) w
    local_step burst outgoing channel on is stands =
        let k = h.words in
        subst (λ (l : BurstLine). Gives (record s { burst = l }) (local_added g w channel on) w) (sym is) (record {
          words = record {
            settings = record { sizes = k.settings.sizes; short = k.settings.short; group = k.settings.group; warm = k.settings.warm };
            given_by = record {
              packets = k.given_by.packets;
              flow = k.given_by.flow;
              local = All-push (λ (r : LocalRow). r.slot ≤ length w) g.local (record { slot = length w; channel = channel; on = on }) k.given_by.local (omega arith);
              accepted = k.given_by.accepted;
            };
            slot = k.slot;
            right = right_local g w (planned s w) k.begun k.right channel on;
            begun = k.begun;
            has = k.has;
            incoming = k.incoming;
            turns = k.turns;
            left = k.left;
            burst = record { outgoing = stands; long = k.burst.long; given = k.burst.given; since = k.burst.since; end = k.burst.end };
            spaces = k.spaces;
          };
          distinct = h.distinct;
          longest = h.longest;
          packets_closed = h.packets_closed;
          closed = h.closed;
          closed_by = h.closed_by;
          finish = end_open (local_added g w channel on) refl s.finish h.finish;
        })

    -- closed at this slot, which is after all control words that are planned
    pub close_step : Gives (record s { closed = Some s.slot }) (closed_at g w) w
    close_step =
        let k = h.words in
        let is : option_or g.closed (Some (length w)) ≡ Some (length w) = ap (λ o. option_or o (Some (length w))) open_still in
        record {
          words = record {
            settings = record { sizes = k.settings.sizes; short = k.settings.short; group = k.settings.group; warm = k.settings.warm };
            given_by = record { packets = k.given_by.packets; flow = k.given_by.flow; local = k.given_by.local; accepted = k.given_by.accepted };
            slot = k.slot;
            right = record { sized = k.right.sized; data_in_bursts = k.right.data_in_bursts; chunks = k.right.chunks; controls = k.right.controls };
            begun = k.begun;
            has = k.has;
            incoming = k.incoming;
            turns = k.turns;
            left = k.left;
            burst = k.burst;
            spaces = k.spaces;
          };
          distinct = h.distinct;
          longest = h.longest;
          packets_closed = h.packets_closed;
          closed = ap (λ n. Some n) k.slot ∙ sym is;
          closed_by = λ c e. let same : Some c ≡ Some (length w) = sym e ∙ is in let n : c ≡ length w = cc in omega (arith, n);
          finish = none_yet s.finish h.finish;
        }
      where
        none_yet : (f : Option ℕ) → HasEnd f g (length w) (planned s w) → HasEnd f (closed_at g w) (length w) (planned s w)
        none_yet None e = λ closed z is_closed ending.
            let is : option_or g.closed (Some (length w)) ≡ Some (length w) = ap (λ o. option_or o (Some (length w))) open_still in
            let same : Some closed ≡ Some (length w) = sym is_closed ∙ is in
            let n : closed ≡ length w = cc in
            let inside : z < length w = h.words.begun z ending.control.0 ending.control.1 in
            absurd (let a = ending.after in omega (arith, n, inside, a))
        none_yet (Some z) e = let no : None ≡ Some e.0.0 = sym open_still ∙ e.0.1 in cc

  -- the packets are closed, and the stream goes on as it did
  pub packets_step : Gives (record s { packets_closed = true }) (packets_closed_in g) w
  packets_step =
      let k = h.words in
      record {
        words = record {
          settings = record { sizes = k.settings.sizes; short = k.settings.short; group = k.settings.group; warm = k.settings.warm };
          given_by = record { packets = k.given_by.packets; flow = k.given_by.flow; local = k.given_by.local; accepted = k.given_by.accepted };
          slot = k.slot;
          right = record { sized = k.right.sized; data_in_bursts = k.right.data_in_bursts; chunks = k.right.chunks; controls = k.right.controls };
          begun = k.begun;
          has = k.has;
          incoming = k.incoming;
          turns = k.turns;
          left = k.left;
          burst = k.burst;
          spaces = k.spaces;
        };
        distinct = h.distinct;
        longest = h.longest;
        packets_closed = refl;
        closed = h.closed;
        closed_by = h.closed_by;
        finish = end_same g (length w) (planned s w) s.finish h.finish;
      }

  -- a stream that was closed stays as it is
  pub closed_again : (closed : ℕ) → g.closed ≡ Some closed → closed_at g w ≡ g
  closed_again closed is = ap (λ (o : Option ℕ). record g { closed = o }) (by g.closed is)
    where
      by : (o : Option ℕ) → o ≡ Some closed → option_or o (Some (length w)) ≡ o
      by None e = cc
      by (Some c) e = refl

-- ---- whether it was closed

pub not_closed : (o : Option ℕ) (b : Bool) → b ≡ is_some o → b ≡ false → o ≡ None
not_closed None b e f = refl
not_closed (Some n) b e f = let no : false ≡ true = sym f ∙ e in cc

pub is_closed : (o : Option ℕ) (b : Bool) → b ≡ is_some o → b ≡ true → (n : ℕ) × (o ≡ Some n)
is_closed None b e f = let no : true ≡ false = sym f ∙ e in cc
is_closed (Some n) b e f = (n, refl)

-- ---- the counts of a channel

bursts_planned : (s : LiveScheduler) (w : List Word) (c : ℕ) → bursts_in (planned s w) c ≡ bursts_in w c
bursts_planned s w c = sum_by-append (λ (v : Word). cond (is_burst_on c v) 1 0) w (map Data (to_come s)) ∙ ap (λ n. bursts_in w c + n) (no_bursts c (to_come s)) ∙ add-zero (bursts_in w c)

module _ (s : LiveScheduler) (g : Given) (w : List Word) (h : Gives s g w) (at : ℕ) (q : Waiting) (below : at < length s.turns.items) (is : q ≡ get_or s.turns.items at q) where
  pub held_at : HasLeft q s.sizes (packets_of (source_of g) q.channel) (bursts_in (planned s w) q.channel)
  held_at = subst (λ (p : Waiting). HasLeft p s.sizes (packets_of (source_of g) p.channel) (bursts_in (planned s w) p.channel)) (sym is) (h.words.left at q below)

  module _ (c : ℕ) (named : q.channel ≡ c) where
    pub bytes_at : q.counts.bytes_given ≡ bytes_in (packets_of (source_of g) c)
    bytes_at = held_at.counts.bytes_given ∙ ap (λ n. bytes_in (packets_of (source_of g) n)) named

    pub counts_at : AreCountsOf q.counts g w c
    counts_at =
        let held : AreCounts q.counts (packets_of (source_of g) q.channel) (take (bursts_in (planned s w) q.channel) (chunks_in s.sizes (packets_of (source_of g) q.channel))) = held_at.counts in
        subst (λ (n : ℕ). AreCountsOf q.counts g w n) named
        (subst (λ (n : ℕ). AreCounts q.counts (packets_of (source_of g) q.channel) (take n (chunks_of (source_of g) q.channel))) (bursts_planned s w q.channel)
        (subst (λ (m : BurstSizes). AreCounts q.counts (packets_of (source_of g) q.channel) (take (bursts_in (planned s w) q.channel) (chunks_in m (packets_of (source_of g) q.channel)))) h.words.settings.sizes held))
