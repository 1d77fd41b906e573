-- What the ring holds at a slot: the ready channels by their places, in the order of their keys.
use Rattle.std.proofs.Common.{◌≡◌, inl, inr, ℕ, suc, ◌+◌, ◌<◌, Bool, true, false, cond, List, [], ◌∷◌, ◌++◌, length, map, get_or, Some, Contains, All, if◌then◌else◌, refl, sym, ap, ap₂, subst, ◌∙◌, arith, append_assoc, append-nil, length-append, add-zero}
use Rattle.std.specs.Option.{option_map_or}
use Rattle.std.proofs.lemmas.Bool.{cases_eq}
use Rattle.std.proofs.lemmas.List.{get_or-map, length-map}
use Rattle.std.proofs.lemmas.List.Elements.{All-contains}
use Rattle.std.proofs.lemmas.List.Sums.{sum_by-append}
use Rattle.std.proofs.Math.Seq.{get_or-append_seam}
use Rattle.lk_base.specs.declared.word.Word.{Word}
use Rattle.lk_base.specs.declared.word.Word.TheVariants.{Data, Control}
use Rattle.stream_model.specs.Calendar.{Told}
use Rattle.stream_model.specs.BurstStream.{Source, mark_cmp, burst_mark, later, is_burst_on, bursts_in, last_burst, chunks_of}
use Rattle.calendar.specs.Changes.{told_back}
use Rattle.burst_scheduler.specs.Ring.{IsLine, turned, key_by, ring_list, channels_at, HoldsReady}
use Rattle.burst_scheduler.specs.Asked.{Asked}
use Rattle.burst_scheduler.specs.Gives.{HasWords, Holds, HasBegun, to_come, line_in}
use Rattle.burst_scheduler.specs.declared.scheduler.Scheduler.{Scheduler}
use Rattle.stream_model.proofs.Growing.{no_bursts}
use Rattle.burst_scheduler.proofs.Blocks.{last_step, last_old}
use Rattle.burst_scheduler.proofs.Due.{ready_by, ready_of, key_same}
use Rattle.burst_scheduler.proofs.Rings.{apart_at, at_place, place_at}
use Rattle.burst_scheduler.proofs.Turning.{listed_in}

-- ---- data words change nothing

pub bursts_data : (w : List Word) (ds : List ℕ) (c : ℕ) → bursts_in (w ++ map Data ds) c ≡ bursts_in w c
bursts_data w ds c = sum_by-append (λ (v : Word). cond (is_burst_on c v) 1 0) w (map Data ds) ∙ ap (λ n. bursts_in w c + n) (no_bursts c ds) ∙ add-zero (bursts_in w c)

last_one : (w : List Word) (d c : ℕ) → last_burst (w ++ Data d ∷ []) c (length (w ++ Data d ∷ [])) ≡ last_burst w c (length w)
last_one w d c =
    let long : length (w ++ Data d ∷ []) ≡ suc (length w) = length-append w (Data d ∷ []) ∙ omega arith in
    ap (last_burst (w ++ Data d ∷ []) c) long ∙ last_step (w ++ Data d ∷ []) c (length w)
    ∙ ap (λ (v : Word). if is_burst_on c v then Some (length w) else last_burst (w ++ Data d ∷ []) c (length w)) (get_or-append_seam w (Data d) [] (Control 0))
    ∙ last_old w (Data d ∷ []) c (length w) (omega arith)

pub last_datas : (ds : List ℕ) (w : List Word) (c : ℕ) → last_burst (w ++ map Data ds) c (length (w ++ map Data ds)) ≡ last_burst w c (length w)
last_datas [] w c = ap (λ (v : List Word). last_burst v c (length v)) (append-nil w)
last_datas (d ∷ ds) w c = ap (λ (v : List Word). last_burst v c (length v)) (sym (append_assoc w (Data d ∷ []) (map Data ds))) ∙ last_datas ds (w ++ Data d ∷ []) c ∙ last_one w d c

line_now : (source : Source) (told : List Told) (w : List Word) (ds line : List ℕ) → IsLine source told (w ++ map Data ds) line → IsLine source told w line
line_now source told w ds line h = record {
  exact = λ c. (
    (λ i. let r = (h.exact c).0 i in record { known = r.known; on = r.on; left = subst (λ n. n < length (chunks_of source c)) (bursts_data w ds c) r.left }),
    (λ r. (h.exact c).1 (record { known = r.known; on = r.on; left = subst (λ n. n < length (chunks_of source c)) (sym (bursts_data w ds c)) r.left })),
  );
  ordered = λ i j d l k. ap₂ mark_cmp (sym (same (get_or line i d))) (sym (same (get_or line j d))) ∙ h.ordered i j d l k;
}
  where
    same : (c : ℕ) → key_by told (w ++ map Data ds) c ≡ key_by told w c
    same c = ap (λ o. option_map_or (λ s. later (turned told c) (burst_mark s)) o (turned told c)) (last_datas ds w c)

-- ---- the ring

pub holds_ready : (s : Scheduler) (a : Asked) → Holds s a → s.started ≡ true → HoldsReady s.ready a.source a.words
holds_ready s a g on = record {
  nodes = g.room.0.nodes;
  one = g.room.0.one;
  listed = listed;
  exact = λ place below. (
    (λ i. ready_of s a g (get_or a.source.channels place 0) ((line.exact (get_or a.source.channels place 0)).0 (place_at a.source.channels (ring_list s.ready) place i))),
    (λ r.
        let at = at_place a.source.channels (ring_list s.ready) (get_or a.source.channels place 0) ((line.exact (get_or a.source.channels place 0)).1 (ready_by s a g (get_or a.source.channels place 0) r)) in
        let p : ℕ = at.0 in
        let inside : p < length a.source.channels = All-contains (λ q. q < length a.source.channels) (ring_list s.ready) p listed at.1 in
        elim (cases_eq p place) [
          | inl e ↦ subst (Contains (ring_list s.ready)) e at.1
          | inr ne ↦ absurd (apart_at a.source.channels place g.settings.distinct below p inside ne at.2)
        ]),
  );
  ordered = λ i j d l k.
      let many : length (channels_at a.source.channels (ring_list s.ready)) ≡ length (ring_list s.ready) = length-map (ring_list s.ready) (λ p. get_or a.source.channels p 0) in
      ap₂ mark_cmp
      (key_same s a g (get_or a.source.channels (get_or (ring_list s.ready) i d) 0) ∙ ap (key_by (told_back a.source.entries a.source.flow) a.words) (sym (get_or-map (λ p. get_or a.source.channels p 0) (ring_list s.ready) i d 0 (omega arith))))
      (key_same s a g (get_or a.source.channels (get_or (ring_list s.ready) j d) 0) ∙ ap (key_by (told_back a.source.entries a.source.flow) a.words) (sym (get_or-map (λ p. get_or a.source.channels p 0) (ring_list s.ready) j d 0 k)))
      ∙ line.ordered i j 0 l (omega (arith, k, many));
}
  where
    listed : All (λ p. p < length a.source.channels) (ring_list s.ready)
    listed = listed_in s.ready (length a.source.channels) g.room.0

    line : IsLine a.source (told_back a.source.entries a.source.flow) a.words (channels_at a.source.channels (ring_list s.ready))
    line = subst (λ cs. IsLine a.source (told_back a.source.entries a.source.flow) a.words (channels_at cs (ring_list s.ready))) g.settings.channels (line_now a.source (told_back a.source.entries a.source.flow) a.words (to_come s) (line_in s) (g.line on))

-- a flow or a step was asked, so the line was filled
pub ready_now : (s : Scheduler) (a : Asked) → HasWords s a → HasBegun a → HoldsReady s.ready a.source a.words
ready_now s a g begun = holds_ready s a g.holds (by s.started refl)
  where
    by : (b : Bool) → s.started ≡ b → s.started ≡ true
    by true e = e
    by false e = let u = g.holds.unstarted e in elim begun [
      | inl w ↦ absurd (let l = ap length u.0 in omega (arith, w, l))
      | inr f ↦ absurd (let l = ap length u.1 in omega (arith, f, l))
    ]
