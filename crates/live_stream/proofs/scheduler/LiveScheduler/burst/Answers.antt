use Rattle.std.proofs.Common.{◌≤◌, ◌+◌, Vec, Global, arith, ◌≡◌, ◌∙◌, ◌<◌, ◌++◌, ◌∷◌, [], ℕ, List, length, take, get_or, refl, sym, ap, ap₂, subst}
use Rattle.std.specs.List.{remove}
use Rattle.std.specs.Vec.{with_items}
use Rattle.std.proofs.lemmas.List.{get_or-set_same, get_or_default}
use Rattle.stream_model.specs.BurstStream.{Chunk, controls_in, data_words, packets_of, bursts_in}
use Rattle.burst_scheduler.proofs.Bursting.{fit_data, same_format}
use Rattle.calendar.specs.Outgoing.{StandsOut}
use Rattle.calendar.specs.declared.outgoing.CalendarOut.{CalendarOut}
use Rattle.live_stream.specs.Gives.{source_of}
use Rattle.live_stream.specs.Waiting.{HasLeft}
use Rattle.live_stream.specs.declared.waiting.Waiting.{Waiting}
use Rattle.live_stream.proofs.Places.{refill, removed_set}
use Rattle.live_stream.proofs.Steps.{none_to_come, left_at, some_left, burst_step}
use Rattle.live_stream.proofs.scheduler.LiveScheduler.burst.Goals as goal

-- two reads of one place
same_read : (turns : List Waiting) (at : ℕ) (p q : Waiting) → at < length turns → p ≡ get_or turns at p → q ≡ get_or turns at q → p ≡ q
same_read turns at p q below e f = e ∙ get_or_default turns at p q below ∙ sym f

pub take-taken-requires-clause-left : goal.take-taken-requires-clause-left
take-taken-requires-clause-left c =
    let s = c.args.self.now in
    let r = c.requires.words in
    let none = none_to_come s r.1 c.requires.due.given in
    let q : Waiting = c.index_mut.result.now in
    let below : c.args.at < length s.turns.items = r.3.first.0 in (
      packets_of (source_of r.0) q.channel,
      bursts_in r.1 q.channel,
      left_at s r.0 r.1 r.2 none c.args.at q below c.index_mut.ensures.value,
      some_left s r.0 r.1 r.2 none c.args.at q below c.index_mut.ensures.value (r.3.first.1 q c.index_mut.ensures.value),
    )

pub burst-x-requires : goal.burst-x-requires
burst-x-requires c = let (g, w, h, time) = c.requires.words in (source_of g, w, h.burst)

pub take-taken-requires-clause-room : goal.take-taken-requires-clause-room
take-taken-requires-clause-room c =
    let (g, w, h, time) = c.requires.words in
    ap length c.deref_mut.ensures.value ∙ ap (λ (v : Vec ℕ Global). length v.items) c.burst-x.ensures.run ∙ h.burst.long

pub returns : goal.returns
returns c g w h time =
    let s = c.args.self.now in
    let at : ℕ = c.args.at in
    let turns : List Waiting = s.turns.items in
    let none = none_to_come s w c.requires.due.given in
    let below : at < length turns = time.first.0 in
    let q : Waiting = c.index_mut.result.now in
    let is : q ≡ get_or turns at q = c.index_mut.ensures.value in
    let named : c.index.result.now.channel ≡ q.channel = ap (λ (p : Waiting). p.channel) (same_read turns at c.index.result.now q below c.index.ensures is) in
    let packets : List (List ℕ) = packets_of (source_of g) q.channel in
    let done : ℕ = bursts_in w q.channel in
    let left : HasLeft q s.sizes packets done = left_at s g w h none at q below is in
    let taken = c.take-taken.ensures.chunk packets done left in
    let chunk : Chunk = taken.0 in
    let now : Waiting = c.take-taken.new.self in
    let asked : HasLeft c.index-2.result.now s.sizes packets done = subst (λ (p : Waiting). HasLeft p s.sizes packets done) (same_read turns at q c.index-2.result.now below is c.index-2.ensures) left in
    let sop : c.is_first-first.result ≡ chunk.is_first = c.is_first-first.ensures s.sizes packets done chunk asked taken.1 in
    let back : c.to_back.new.turns.items ≡ remove turns at ++ now ∷ [] = c.to_back.ensures now ∙ ap₂ (λ xs x. xs ++ x ∷ []) (removed_set turns at now) (get_or-set_same turns at now now below) in
    let m = c.burst-x.ensures.word (source_of g) w h.burst c.requires.due.given h.given_by.local in
    let begun = c.start.ensures.words in
    let line = c.burst-x.new.self in
    let own : line.run ≡ s.burst.run = c.burst-x.ensures.run in
    let room : length c.take-taken.new.run ≡ length line.run.items = c.take-taken.ensures.long ∙ ap length c.deref_mut.ensures.value in
    let run : (with_items line.run c.take-taken.new.run).items ≡ c.take-taken.new.run = refill line.run.len line.run.items c.take-taken.new.run line.run.ok.0 room in
    let small : c.start.new.self.count ≤ 512 = (let n = begun.2 in let words = c.take-taken.ensures.words in omega (arith, n, words)) in
    burst_step s g w h none _ c.burst-x.result m.fields m.sealed (record { settings = (refl, refl, refl, refl); incoming = refl; slot = refl; given = begun.3; end = (refl, refl); accepts = (refl, refl) })
    at q time is m.burst (m.on ∙ named) chunk (m.sop ∙ sop) taken.1
    now back c.take-taken.ensures.channel (c.take-taken.ensures.next packets done left)
    (subst (λ (k : CalendarOut). StandsOut k g.entries g.local (controls_in w + 1)) (sym begun.0) m.outgoing)
    (ap₂ (λ n (v : Vec ℕ Global). take n v.items) begun.2 begun.1 ∙ ap (take c.take-taken.result.words) run ∙ taken.2) small
    (ap (λ (v : Vec ℕ Global). length v.items) begun.1 ∙ ap length run ∙ room ∙ ap (λ (v : Vec ℕ Global). length v.items) own ∙ h.burst.long)
    (fit_data c.take-taken.new.run (data_words chunk.bytes) c.take-taken.result.words c.take-taken.ensures.fits taken.2)
    (c.start.ensures.end ∙ same_format c.take-taken.result.bytes c.take-taken.result.last chunk taken.3 taken.5)
    refl
