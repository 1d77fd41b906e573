-- Words that are right by what was given up to each: they stay right with more given later, and with one block more.
use Rattle.std.proofs.Common.{◌≡◌, inl, inr, ℕ, ◌^◌, ◌<◌, List, [], ◌++◌, length, take, Some, slice_get, refl, sym, ap, subst, ◌∙◌, arith}
use Rattle.std.proofs.lemmas.List.{take-append-le, length-take-le}
use Rattle.std.proofs.lemmas.Option.{slice_get_within}
use Rattle.std.proofs.Math.Seq.{take-append_seam}
use Rattle.lk_base.specs.Words.{block}
use Rattle.lk_base.specs.declared.word.Word.{Word}
use Rattle.lk_base.specs.declared.word.Word.TheVariants.{Data, Control}
use Rattle.stream_model.specs.BurstStream.{Source, IsAt, IsRightControl, chunk_of_burst, data_after}
use Rattle.stream_model.specs.declared.rows.FlowRow.{FlowRow}
use Rattle.stream_model.specs.declared.rows.LocalRow.{LocalRow}
use Rattle.stream_model.proofs.Blocks.{IsWhole, at_cases, bit_cases, stands, data_after_old, data_after_new}
use Rattle.burst_scheduler.proofs.MoreRows.{right_more, later_than}
use Rattle.live_stream.specs.LiveStream.{LivePacket, Given, source_at, with_more, AreGivenFrom}
use Rattle.live_stream.specs.Gives.{AreRight}
use Rattle.live_stream.proofs.Sources.{source_later}

-- ---- more given later

pub right_later : (g : Given) (packets : List LivePacket) (flow : List FlowRow) (local : List LocalRow) (w : List Word) (n : ℕ) → AreGivenFrom n packets flow local → ((t x : ℕ) → IsAt w t (Control x) → t < n) → AreRight g w → AreRight (with_more g packets flow local) w
right_later g packets flow local w n from below right = record {
  sized = right.sized;
  data_in_bursts = right.data_in_bursts;
  chunks = λ s x at b.
      let p = right.chunks s x at b in
      let same = source_later g packets flow local s (later_than (λ (q : LivePacket). q.slot) packets s n (below s x at) from.packets_later) in
      (p.0, subst (λ (source : Source). chunk_of_burst source (take s w) (Control x) ≡ Some p.0) (sym same) p.1, p.2);
  controls = λ t x at.
      let within : t < length w = slice_get_within w t (Control x) at in
      let long : length (take t w) ≡ t = length-take-le t w (omega arith) in
      let same = source_later g packets flow local t (later_than (λ (q : LivePacket). q.slot) packets t n (below t x at) from.packets_later) in
      subst (λ (source : Source). IsRightControl source (take t w) x) (sym same)
      (right_more (source_at g t) flow local (take t w)
      (rw long (later_than (λ (r : FlowRow). r.slot) flow t n (below t x at) from.flow_later))
      (rw long (later_than (λ (r : LocalRow). r.slot) local t n (below t x at) from.local_later))
      x (right.controls t x at));
}

-- ---- one block more

taken_old : (w ys : List Word) (t : ℕ) → t < length w → take t (w ++ ys) ≡ take t w
taken_old w ys t h = take-append-le t w ys (omega arith)

no_data : (ds : List ℕ) (k d : ℕ) → slice_get ds k ≡ Some d → ds ≡ [] → ⊥
no_data ds k d h e = let p : k < length ds = slice_get_within ds k d h in let q : length ds ≡ 0 = ap length e in omega arith

pub right_block : (g : Given) (w : List Word) (x : ℕ) (ds : List ℕ) → AreRight g w → x < 2 ^ 64 → ((k d : ℕ) → slice_get ds k ≡ Some d → d < 2 ^ 64) → IsRightControl (source_at g (length w)) w x → IsWhole (source_at g (length w)) w x ds → AreRight g (w ++ block x ds)
right_block g w x ds good fits all right whole = record {
  sized = λ t word h. elim (at_cases w x ds t word h) [
    | inl r ↦ good.sized t word r.1
    | inr r ↦ elim r [ inl s ↦ rw s.1 fits | inr s ↦ rw s.3 (all s.1 s.0 s.4) ]
  ];
  data_in_bursts = λ t d h. elim (at_cases w x ds t (Data d) h) [
    | inl r ↦ rw (taken_old w (block x ds) t r.0) (good.data_in_bursts t d r.1)
    | inr r ↦ elim r [
      | inl s ↦ cc (s.1)
      | inr s ↦ elim (bit_cases x) [
        | inl idle ↦ absurd (no_data ds s.1 s.0 s.4 (whole.idle idle))
        | inr burst ↦ stands w x ds t (rw burst refl) s.2 (let l : t < length (w ++ block x ds) = slice_get_within (w ++ block x ds) t (Data d) h in omega arith)
      ]
    ]
  ];
  chunks = λ s y h b. elim (at_cases w x ds s (Control y) h) [
    | inl r ↦ (let p = good.chunks s y r.1 b in (p.0, ap (λ v. chunk_of_burst (source_at g s) v (Control y)) (taken_old w (block x ds) s r.0) ∙ p.1, data_after_old w x ds s r.0 ∙ p.2))
    | inr r ↦ elim r [
      | inl e ↦ (
          let same : y ≡ x = cc (e.1) in
          let p = whole.burst (rw same at b) in (
            p.0,
            ap (λ n. chunk_of_burst (source_at g n) (take n (w ++ block x ds)) (Control y)) e.0 ∙ ap (λ v. chunk_of_burst (source_at g (length w)) v (Control y)) (take-append_seam w (block x ds)) ∙ ap (λ z. chunk_of_burst (source_at g (length w)) w (Control z)) same ∙ p.1,
            ap (data_after (w ++ block x ds)) e.0 ∙ data_after_new w x ds ∙ p.2,
          ))
      | inr e ↦ cc (e.3)
    ]
  ];
  controls = λ t y h. elim (at_cases w x ds t (Control y) h) [
    | inl r ↦ rw (taken_old w (block x ds) t r.0) (good.controls t y r.1)
    | inr r ↦ elim r [
      | inl e ↦ (let same : y ≡ x = cc (e.1) in rw (e.0, take-append_seam w (block x ds), same) right)
      | inr e ↦ cc (e.3)
    ]
  ];
}
