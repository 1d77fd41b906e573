-- An end before its first slot.
use Rattle.std.proofs.Common.{◌≡◌, ℕ, zero, suc, ◌-◌, false, List, [], ◌∷◌, ◌++◌, take, drop, None, refl, sym, ap, ◌∙◌, subst}
use Rattle.circular_buffer.specs.Buffer.{buffer}
use Rattle.lk_base.specs.declared.shape.Shape.{Shape}
use Rattle.lk_base.specs.declared.word.Word.{Word}
use Rattle.stream_model.specs.BurstStream.{Source}
use Rattle.stream_model.specs.declared.rows.FlowRow.{FlowRow}
use Rattle.burst_scheduler.specs.Asked.{Asked, first_asked, packet_added}
use Rattle.burst_scheduler.specs.Gives.{Gives}
use Rattle.burst_scheduler.proofs.Calls.{has_words}
use Rattle.duplex_model.specs.DuplexRun.{Settings, AreSettings, Ends, alone, rows_from, flow_rows, last_control, queue_before, peak, local_rows, source_of}
use Rattle.duplex.specs.Queues.{names, empty_queue, queue_at, IsQueueOf, AreQueues}
use Rattle.duplex.specs.Ways.{IsOnWay}
use Rattle.duplex.specs.Sides.{IsFresh, IsSideAt, Hears}
use Rattle.duplex.specs.declared.queue.ArrivalQueue.{ArrivalQueue}
use Rattle.duplex.specs.declared.queue.Queues.{Queues}
use Rattle.duplex.specs.declared.side.Side.{Side}

-- a source with one packet more
abbrev with_packet : ℕ → List ℕ → Source → Source
with_packet channel bytes s = record { shape = s.shape; channels = s.channels; entries = s.entries; packets = s.packets ++ (channel, bytes) ∷ []; flow = s.flow; local = s.local }

pub fresh_with : (old new : Side) (settings : Settings) (ends : Ends) (packets : List (ℕ × List ℕ)) (channel : ℕ) (bytes : List ℕ) → (f : IsFresh old settings ends packets)
    → ((a : Asked) → Gives old.scheduler a → a.words ≡ [] → a.source.flow ≡ [] → Gives new.scheduler (packet_added a channel bytes))
    → new.queues ≡ old.queues → new.way ≡ old.way → new.burst ≡ old.burst → new.heard ≡ old.heard → IsFresh new settings ends (packets ++ (channel, bytes) ∷ [])
fresh_with old new settings ends packets channel bytes f adds queues way burst heard = record {
  asked = packet_added f.asked channel bytes;
  gives = adds f.asked f.gives f.words (ap (λ (s : Source). s.flow) f.source_is);
  source_is = ap (with_packet channel bytes) f.source_is;
  words = f.words;
  still = f.still;
  queues = subst AreQueues (sym queues) f.queues;
  empty = subst (λ (qs : Queues). (c : ℕ) → queue_at qs.by_channel.items c ≡ empty_queue) (sym queues) f.empty;
  way = subst (λ w. IsOnWay w settings.delay []) (sym way) f.way;
  burst = burst ∙ f.burst;
  heard = heard ∙ f.heard;
}

pub fresh_still : (old new : Side) (settings : Settings) (ends : Ends) (packets : List (ℕ × List ℕ)) → (f : IsFresh old settings ends packets) → ((a : Asked) → Gives old.scheduler a → Gives new.scheduler a)
    → new.queues ≡ old.queues → new.way ≡ old.way → new.burst ≡ old.burst → new.heard ≡ old.heard → IsFresh new settings ends packets
fresh_still old new settings ends packets f keeps queues way burst heard = record {
  asked = f.asked;
  gives = keeps f.asked f.gives;
  source_is = f.source_is;
  words = f.words;
  still = f.still;
  queues = subst AreQueues (sym queues) f.queues;
  empty = subst (λ (qs : Queues). (c : ℕ) → queue_at qs.by_channel.items c ≡ empty_queue) (sym queues) f.empty;
  way = subst (λ w. IsOnWay w settings.delay []) (sym way) f.way;
  burst = burst ∙ f.burst;
  heard = heard ∙ f.heard;
}

-- an end does not know what the other sends
pub fresh_among : (s : Side) (settings : Settings) (ends : Ends) (packets of_a of_b : List (ℕ × List ℕ)) → IsFresh s settings ends packets → IsFresh s settings (record ends { packets_of_a = of_a; packets_of_b = of_b }) packets
fresh_among s settings ends packets of_a of_b f = record {
  asked = f.asked;
  gives = f.gives;
  source_is = f.source_is;
  words = f.words;
  still = f.still;
  queues = f.queues;
  empty = f.empty;
  way = f.way;
  burst = f.burst;
  heard = f.heard;
}

-- ---- it is made

nothing_dropped : (n : ℕ) → (let none : List Word = [] in drop n none) ≡ []
nothing_dropped zero = refl
nothing_dropped (suc n) = refl

pub made : (s : Side) (settings : Settings) (ends : Ends) (shape : Shape) (channels entries : List ℕ) (delay : ℕ) → AreSettings settings → delay ≡ settings.delay → shape ≡ ends.shape → channels ≡ ends.channels → entries ≡ ends.entries
    → Gives s.scheduler (first_asked shape channels entries) → AreQueues s.queues → ((c : ℕ) → queue_at s.queues.by_channel.items c ≡ empty_queue) → s.way ≡ buffer [] delay → s.burst ≡ None → s.heard ≡ false → IsFresh s settings ends []
made s settings ends shape channels entries delay keeps delays shapes listed calendar gives queues empty way burst heard =
    let source : Shape → List ℕ → List ℕ → Source = λ sh cs es. record { shape = sh; channels = cs; entries = es; packets = []; flow = []; local = [] } in
    record {
      asked = first_asked shape channels entries;
      gives = gives;
      source_is = ap (λ sh. source sh channels entries) shapes ∙ ap (λ cs. source ends.shape cs entries) listed ∙ ap (source ends.shape ends.channels) calendar;
      words = refl;
      still = refl;
      queues = queues;
      empty = empty;
      way = record { is = way ∙ ap (buffer []) delays ∙ ap (λ w. buffer w settings.delay) (sym (nothing_dropped (0 - settings.delay))); some = keeps.delay_low };
      burst = burst;
      heard = heard;
    }

-- ---- it is an end of a run of no slots

pub nothing_sent : (n : ℕ) → (let none : List Word = [] in take n none) ≡ []
nothing_sent zero = refl
nothing_sent (suc n) = refl

no_rows : (settings : Settings) → flow_rows settings [] 0 ≡ []
unfolding rows_from
no_rows settings = ap (λ w. drop 1 (rows_from settings.delay w)) (nothing_sent (0 - settings.delay))

empty_is : (settings : Settings) (c : ℕ) (queue : ArrivalQueue) → queue ≡ empty_queue → IsQueueOf settings [] 0 c queue
unfolding queue_before peak
empty_is settings c queue e = record { words = ap (λ (q : ArrivalQueue). q.words) e; most = ap (λ (q : ArrivalQueue). q.peak) e }

pub begins : (s : Side) (settings : Settings) (ends : Ends) (packets : List (ℕ × List ℕ)) → IsFresh s settings ends packets → IsSideAt s settings ends packets [] [] 0
unfolding local_rows last_control
begins s settings ends packets f = record {
  hears = subst (λ (w : List Word). Hears s (source_of settings ends packets [] 0) [] w) (sym (nothing_sent (0 - settings.delay))) (record {
    asks = record {
      asked = f.asked;
      gives = has_words f.gives;
      source_is = f.source_is ∙ ap (λ (rows : List FlowRow). let source : Source = record (alone ends packets) { flow = rows } in source) (sym (no_rows settings));
      words = f.words;
      still = f.still;
    };
    burst = λ channel. ap (λ o. names o channel) f.burst;
    heard = f.heard;
  });
  queues = record {
    are = f.queues;
    all = λ c below. empty_is settings c (queue_at s.queues.by_channel.items c) (f.empty c);
  };
  way = f.way;
}
