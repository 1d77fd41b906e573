-- Where all packets are given before the first word a live stream is an open stream, and a whole one is the stream of its source.
use Rattle.std.proofs.Common.{◌≡◌, ◌↔◌, inl, inr, ℕ, zero, suc, ◌+◌, ◌-◌, ◌<◌, ◌≤◌, min, true, List, [], ◌∷◌, ◌++◌, length, map, take, drop, take_while, Some, None, All, Contains, sym, ap, subst, ◌∙◌, arith}
use Rattle.std.proofs.lemmas.Bool.{cases_lt}
use Rattle.std.proofs.lemmas.List.{take_all, length-take-le, length-take, drop-append-le, take-append-drop}
use Rattle.std.proofs.lemmas.Option.{slice_get_within}
use Rattle.lk_base.specs.Least.{IsLeast}
use Rattle.lk_base.specs.Words.{payload, is_data}
use Rattle.lk_base.specs.Fields.{channel_number}
use Rattle.lk_base.specs.declared.word.Word.{Word}
use Rattle.lk_base.specs.declared.word.Word.TheVariants.{Control}
use Rattle.stream_model.specs.BurstStream.{Source, IsAt, IsReady, IsRightControl, IsEnding, IsBurstStream, chunk_of_burst, data_after, data_words}
use Rattle.stream_model.specs.declared.rows.FlowRow.{FlowRow}
use Rattle.stream_model.proofs.Blocks.{run_ends}
use Rattle.stream_model.proofs.Finish.{none_ready_behind}
use Rattle.duplex_model.specs.OpenStream.{IsOpenStream}
use Rattle.duplex_model.proofs.Growth.{after_short}
use Rattle.live_stream.specs.LiveStream.{LivePacket, Given, source_at, warmup_of, IsGivenAtOnce, IsLiveStream, IsLiveEnding, IsWholeLiveStream}
use Rattle.live_stream.proofs.Sources.{source_all}

module _ (g : Given) (once : IsGivenAtOnce g) where
  early : (t : ℕ) → All (λ (p : LivePacket). p.slot ≤ t) g.packets
  early t i d l = let z = once i d l in omega (arith, z)

  pub same_source : (t : ℕ) → source_at g t ≡ source_at g 0
  same_source t = source_all g t (early t) ∙ sym (source_all g 0 (early 0))

  pub live_open : (w : List Word) → IsLiveStream g w ↔ IsOpenStream (source_at g 0) w
  live_open w = (
    λ s. record {
      sized = s.sized;
      data_in_bursts = s.data_in_bursts;
      warmup = s.warmup;
      chunks = λ t x at b. let p = s.chunks t x at b in (p.0, subst (λ (source : Source). chunk_of_burst source (take t w) (Control x) ≡ Some p.0) (same_source t) p.1, p.2);
      controls = λ t x at. subst (λ (source : Source). IsRightControl source (take t w) x) (same_source t) (s.controls t x at);
    },
    λ s. record {
      sized = s.sized;
      data_in_bursts = s.data_in_bursts;
      warmup = s.warmup;
      chunks = λ t x at b. let p = s.chunks t x at b in (p.0, subst (λ (source : Source). chunk_of_burst source (take t w) (Control x) ≡ Some p.0) (sym (same_source t)) p.1, p.2);
      controls = λ t x at. subst (λ (source : Source). IsRightControl source (take t w) x) (sym (same_source t)) (s.controls t x at);
    },
  )

-- ---- a burst before a control word has all its data words

from_slot : (w : List Word) (z : ℕ) (v : Word) → IsAt w z v → drop z w ≡ v ∷ drop (z + 1) w
from_slot [] z v at = let e : None ≡ Some v = at in cc
from_slot (u ∷ w) zero v at = let e : u ≡ v = cc in ap (λ x. x ∷ w) e
from_slot (u ∷ w) (suc z) v at = let e : suc z + 1 ≡ suc (z + 1) = omega arith in rw e (from_slot w z v at)

before_control : (p : List Word) (x : ℕ) (rest : List Word) (s : ℕ) → s < length p → length (data_after (p ++ Control x ∷ rest) s) ≤ length p - (s + 1)
unfolding data_after
before_control p x rest s h =
    let same : data_after (p ++ Control x ∷ rest) s ≡ data_after p s = ap (λ xs. map payload (take_while is_data xs)) (drop-append-le (s + 1) p (Control x ∷ rest) (omega (arith, h))) ∙ ap (map payload) (run_ends (drop (s + 1) p) x rest) in
    let long = ap length same in
    let short = after_short p s in
    omega (arith, long, short)

short_after : (w : List Word) (z x s : ℕ) → IsAt w z (Control x) → s < z → length (data_after w s) < length w - (s + 1)
short_after w z x s at below =
    let inside : z < length w = slice_get_within w z (Control x) at in
    let long : length (take z w) ≡ z = length-take-le z w (omega (arith, inside)) in
    let split : take z w ++ Control x ∷ drop (z + 1) w ≡ w = ap (λ ys. take z w ++ ys) (sym (from_slot w z (Control x) at)) ∙ take-append-drop z w in
    let short : length (data_after (take z w ++ Control x ∷ drop (z + 1) w) s) ≤ length (take z w) - (s + 1) = before_control (take z w) x (drop (z + 1) w) s (omega (arith, below, long)) in
    let same = ap (λ v. length (data_after v s)) split in
    omega (arith, short, same, long, inside, below)

not_cut : (n : ℕ) (ds xs : List ℕ) → ds ≡ take n xs → length ds < n → ds ≡ xs
not_cut n ds xs is short =
    let long = ap length is in
    let cut : length (take n xs) ≡ min n (length xs) = length-take n xs in
    is ∙ take_all n xs (omega (arith, long, cut, short))

-- ---- the whole stream

module _ (g : Given) (w : List Word) (closed : ℕ) (once : IsGivenAtOnce g) (is : g.closed ≡ Some closed) (soon : closed ≤ warmup_of g) (rows : All (λ (row : FlowRow). row.slot ≤ closed) g.flow) where
  abbrev source : Source
  source = source_at g 0

  rows_by : (z : ℕ) → warmup_of g ≤ z → All (λ (row : FlowRow). row.slot ≤ z) g.flow
  rows_by z warm i d l = let r = rows i d l in omega (arith, r, soon, warm)

  each_row : (z : ℕ) → warmup_of g ≤ z → (row : FlowRow) → Contains g.flow row → row.slot ≤ z
  each_row z warm row h = subst (λ (r : FlowRow). r.slot ≤ z) h.2 (rows_by z warm h.0 row h.1)

  ending_of : (z : ℕ) → IsLiveEnding g closed w z → IsEnding source w z
  ending_of z e = record {
    control = e.control;
    warm = e.warm;
    not_ready = λ c r. e.not_ready c (subst (λ (q : Source). IsReady q (take z w) c) (sym (same_source g once z)) r);
    over = inr (each_row z e.warm);
  }

  ending_back : (z : ℕ) → IsEnding source w z → IsLiveEnding g closed w z
  ending_back z e = record {
    after = (let h = e.warm in omega (arith, h, soon));
    control = e.control;
    warm = e.warm;
    not_ready = λ c r. e.not_ready c (subst (λ (q : Source). IsReady q (take z w) c) (same_source g once z) r);
  }

  whole_to : IsWholeLiveStream g w → IsBurstStream source w
  whole_to whole =
      let open_stream : IsOpenStream source w = (live_open g once w).0 whole.live in
      let z : ℕ = whole.finish.1 in
      let same : whole.finish.0 ≡ closed = (let e : Some whole.finish.0 ≡ Some closed = sym whole.finish.2 ∙ is in cc) in
      let least : IsLeast (IsLiveEnding g closed w) z = subst (λ (c : ℕ). IsLeast (IsLiveEnding g c w) z) same whole.finish.3 in
      let end : IsEnding source w z = ending_of z least.0 in
      record {
        sized = open_stream.sized;
        data_in_bursts = open_stream.data_in_bursts;
        warmup = λ t h. open_stream.warmup t (let e = slice_get_within w z (Control end.control.0) end.control.1 in let warm = end.warm in omega (arith, h, e, warm)) h;
        chunks = λ s x at b.
            let p = open_stream.chunks s x at b in
            let inside : s < length w = slice_get_within w s (Control x) at in
            let below : s < z = elim (cases_lt s z) [
              | inl l ↦ l
              | inr past ↦ absurd (none_ready_behind source w z s (channel_number true x) end past (omega (arith, inside)) ((open_stream.controls s x at).ready b))
            ] in
            (p.0, p.1, not_cut (length w - (s + 1)) (data_after w s) (data_words p.0.bytes) p.2 (short_after w z end.control.0 s end.control.1 below));
        controls = open_stream.controls;
        finish = (z, (end, λ m below e. least.1 m below (ending_back m e)), whole.finish.4);
      }

  whole_back : IsBurstStream source w → IsWholeLiveStream g w
  whole_back s =
      let open_stream : IsOpenStream source w = record {
        sized = s.sized;
        data_in_bursts = s.data_in_bursts;
        warmup = λ t inside h. s.warmup t h;
        chunks = λ t x at b.
            let p = s.chunks t x at b in
            let short = after_short w t in
            let long = ap length p.2 in
            (p.0, p.1, p.2 ∙ sym (take_all (length w - (t + 1)) (data_words p.0.bytes) (omega (arith, short, long))));
        controls = s.controls;
      } in
      let z : ℕ = s.finish.0 in
      record {
        live = (live_open g once w).1 open_stream;
        finish = (closed, z, is, (ending_back z s.finish.1.0, λ m below e. s.finish.1.1 m below (ending_of m e)), s.finish.2);
      }

  pub whole_is_stream : IsWholeLiveStream g w ↔ IsBurstStream source w
  whole_is_stream = (whole_to, whole_back)
