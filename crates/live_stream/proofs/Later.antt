-- What is given after the words changes none of them, and words that came of more were those of less.
use Rattle.std.proofs.Common.{◌≡◌, ◌↔◌, ℕ, ◌<◌, List, length, take, Some, sym, ap₂, subst, ◌∙◌, arith, All}
use Rattle.std.proofs.lemmas.List.{length-take-le}
use Rattle.std.proofs.lemmas.Option.{slice_get_within}
use Rattle.lk_base.specs.declared.word.Word.{Word}
use Rattle.lk_base.specs.declared.word.Word.TheVariants.{Control}
use Rattle.stream_model.specs.BurstStream.{Source, IsRightControl, chunk_of_burst, mark_cmp}
use Rattle.stream_model.specs.declared.rows.FlowRow.{FlowRow}
use Rattle.stream_model.specs.declared.rows.LocalRow.{LocalRow}
use Rattle.burst_scheduler.specs.Asked.{with_rows}
use Rattle.burst_scheduler.proofs.MoreRows.{right_more, ready_more, ready_back, key_more, bit_more, later_than}
use Rattle.live_stream.specs.LiveStream.{LivePacket, Given, source_at, with_more, AreGivenFrom, IsLiveStream}
use Rattle.live_stream.proofs.Sources.{source_later}

-- what is right of a source with later rows is right of the source without them
right_back : (source : Source) (flow : List FlowRow) (local : List LocalRow) (before : List Word) → All (λ (row : FlowRow). length before < row.slot) flow → All (λ (row : LocalRow). length before < row.slot) local → (x : ℕ) → IsRightControl (with_rows source flow local) before x → IsRightControl source before x
right_back source flow local before later_flow later_local x r = record {
  burst = (
    (λ b. let q = r.burst.0 b in (q.0, (q.1.0, ready_back source flow local before later_flow later_local q.1.0 q.1.1), q.2)),
    (λ h. r.burst.1 (h.0, (h.1.0, ready_more source flow local before later_flow later_local h.1.0 h.1.1), h.2)),
  );
  idle = r.idle;
  start = r.start;
  end = r.end;
  ready = λ b. ready_back source flow local before later_flow later_local _ (r.ready b);
  least = λ b other h ne. ap₂ mark_cmp (key_more source flow local before later_flow later_local _) (key_more source flow local before later_flow later_local other) ∙ r.least b other (ready_more source flow local before later_flow later_local other h) ne;
  multi = r.multi;
  control = r.control;
  reset = r.reset;
  entries = λ i h. r.entries i h ∙ sym (bit_more source flow local before later_flow later_local _ i);
  checksum = r.checksum;
}

module _ (g : Given) (packets : List LivePacket) (flow : List FlowRow) (local : List LocalRow) (w : List Word) (from : AreGivenFrom (length w) packets flow local) where
  same_at : (t : ℕ) → t < length w → source_at (with_more g packets flow local) t ≡ with_rows (source_at g t) flow local
  same_at t h = source_later g packets flow local t (later_than (λ (q : LivePacket). q.slot) packets t (length w) h from.packets_later)

  long_at : (t : ℕ) → t < length w → length (take t w) ≡ t
  long_at t h = length-take-le t w (omega (arith, h))

  flow_at : (t : ℕ) → t < length w → All (λ (row : FlowRow). length (take t w) < row.slot) flow
  flow_at t h = rw (long_at t h) (later_than (λ (r : FlowRow). r.slot) flow t (length w) h from.flow_later)

  local_at : (t : ℕ) → t < length w → All (λ (row : LocalRow). length (take t w) < row.slot) local
  local_at t h = rw (long_at t h) (later_than (λ (r : LocalRow). r.slot) local t (length w) h from.local_later)

  more : IsLiveStream g w → IsLiveStream (with_more g packets flow local) w
  more s = record {
    sized = s.sized;
    data_in_bursts = s.data_in_bursts;
    warmup = s.warmup;
    chunks = λ t x at b.
        let p = s.chunks t x at b in
        (p.0, subst (λ (source : Source). chunk_of_burst source (take t w) (Control x) ≡ Some p.0) (sym (same_at t (slice_get_within w t (Control x) at))) p.1, p.2);
    controls = λ t x at.
        let h = slice_get_within w t (Control x) at in
        subst (λ (source : Source). IsRightControl source (take t w) x) (sym (same_at t h)) (right_more (source_at g t) flow local (take t w) (flow_at t h) (local_at t h) x (s.controls t x at));
  }

  less : IsLiveStream (with_more g packets flow local) w → IsLiveStream g w
  less s = record {
    sized = s.sized;
    data_in_bursts = s.data_in_bursts;
    warmup = s.warmup;
    chunks = λ t x at b.
        let p = s.chunks t x at b in
        (p.0, subst (λ (source : Source). chunk_of_burst source (take t w) (Control x) ≡ Some p.0) (same_at t (slice_get_within w t (Control x) at)) p.1, p.2);
    controls = λ t x at.
        let h = slice_get_within w t (Control x) at in
        right_back (source_at g t) flow local (take t w) (flow_at t h) (local_at t h) x (subst (λ (source : Source). IsRightControl source (take t w) x) (same_at t h) (s.controls t x at));
  }

  pub later_is_not_heard : IsLiveStream g w ↔ IsLiveStream (with_more g packets flow local) w
  later_is_not_heard = (more, less)
