-- The word that the other end sends in a slot is on its way, and changes nothing else.
use Rattle.std.proofs.Common.{◌≡◌, ℕ, zero, suc, ◌+◌, ◌-◌, ◌<◌, ◌≤◌, max, List, [], ◌∷◌, ◌++◌, length, take, refl, sym, ap, ap₂, ◌∙◌, subst, arith}
use Rattle.std.proofs.lemmas.List.{take-append-le}
use Rattle.std.proofs.Math.Seq.{take-append_seam}
use Rattle.lk_base.specs.declared.word.Word.{Word}
use Rattle.stream_model.specs.BurstStream.{Source}
use Rattle.duplex_model.specs.DuplexRun.{Settings, AreSettings, Ends, queue_before, peak, source_of}
use Rattle.duplex_model.proofs.Prefixes.{same_source, same_queue, same_arrival}
use Rattle.burst_scheduler.specs.Gives.{HasWords}
use Rattle.duplex.specs.Queues.{names, queue_at, IsQueueOf, AreQueues}
use Rattle.duplex.specs.Ways.{IsOnWay}
use Rattle.duplex.specs.Sides.{IsSideAt, Hears}
use Rattle.duplex.specs.declared.queue.ArrivalQueue.{ArrivalQueue}
use Rattle.duplex.specs.declared.queue.Queues.{Queues}
use Rattle.duplex.specs.declared.side.Side.{Side}
use Rattle.duplex.specs.declared.duplex.Duplex.{Duplex}
use Rattle.duplex.specs.declared.duplex.End.{End}
use Rattle.duplex.specs.declared.duplex.End.TheVariants.{A, B}
use Rattle.duplex.specs.Duplexes.{Waits, Runs, packet_added, side_of, sent_to}

same_peak : (settings : Settings) (sent : List Word) (channel k t : ℕ) → t ≤ k + settings.delay → peak settings (take k sent) channel t ≡ peak settings sent channel t
unfolding peak
same_peak settings sent channel k zero h = refl
same_peak settings sent channel k (suc t) h =
    ap₂ max (same_peak settings sent channel k t (omega (arith, h)))
    (ap₂ (λ q a. q + a) (same_queue settings sent channel k t (omega (arith, h))) (same_arrival settings sent channel k t (omega (arith, h))))

pub word_sent : (old new : Side) (settings : Settings) (ends : Ends) (packets : List (ℕ × List ℕ)) (own sent : List Word) (word : Word) → AreSettings settings → IsSideAt old settings ends packets own sent (suc (length sent))
    → IsOnWay new.way settings.delay (sent ++ word ∷ []) → new.scheduler ≡ old.scheduler → new.queues ≡ old.queues → new.burst ≡ old.burst → new.heard ≡ old.heard → IsSideAt new settings ends packets own (sent ++ word ∷ []) (suc (length sent))
word_sent old new settings ends packets own sent word keeps side way scheduler queues burst heard =
    let d : 1 ≤ settings.delay = keeps.delay_low in
    let k : ℕ = length sent in
    let all : List Word = sent ++ word ∷ [] in
    let front : take k all ≡ sent = take-append_seam sent (word ∷ []) in
    let near : suc k ≤ k + settings.delay = omega (arith, d) in
    let source : source_of settings ends packets sent (suc k) ≡ source_of settings ends packets all (suc k) = ap (λ s. source_of settings ends packets s (suc k)) (sym front) ∙ same_source settings ends packets all k (suc k) near in
    let arrived : take (suc k - settings.delay) sent ≡ take (suc k - settings.delay) all = sym (take-append-le (suc k - settings.delay) sent (word ∷ []) (omega (arith, d))) in
    let same = λ (c : ℕ) (q : ArrivalQueue) (h : IsQueueOf settings sent (suc k) c q). (let r : IsQueueOf settings all (suc k) c q = record {
      words = h.words ∙ ap (λ s. queue_before settings s c (suc k)) (sym front) ∙ same_queue settings all c k (suc k) near;
      most = h.most ∙ ap (λ s. peak settings s c (suc k)) (sym front) ∙ same_peak settings all c k (suc k) near;
    } in r) in
    let kept : Hears new (source_of settings ends packets sent (suc k)) own (take (suc k - settings.delay) sent) = record {
      asks = record {
        asked = side.hears.asks.asked;
        gives = subst (λ s. HasWords s side.hears.asks.asked) (sym scheduler) side.hears.asks.gives;
        source_is = side.hears.asks.source_is;
        words = side.hears.asks.words;
        still = side.hears.asks.still;
      };
      burst = λ channel. ap (λ o. names o channel) burst ∙ side.hears.burst channel;
      heard = heard ∙ side.hears.heard;
    } in
    record {
      hears = subst (λ (w : List Word). Hears new (source_of settings ends packets all (suc k)) own w) arrived
          (subst (λ (s : Source). Hears new s own (take (suc k - settings.delay) sent)) source kept);
      queues = record {
        are = subst AreQueues (sym queues) side.queues.are;
        all = subst (λ (qs : Queues). (c : ℕ) → c < 65536 → IsQueueOf settings all (suc k) c (queue_at qs.by_channel.items c)) (sym queues) (λ c below. same c (queue_at old.queues.by_channel.items c) (side.queues.all c below));
      };
      way = way;
    }

-- ---- the queue of a channel

pub queue_at_end : (d : Duplex) (end : End) (settings : Settings) (ends : Ends) (slots : ℕ) (a b : List Word) (channel : ℕ) → Runs d settings ends slots a b → channel < 65536
    → IsQueueOf settings (sent_to end a b) slots channel (queue_at (side_of d end).queues.by_channel.items channel)
queue_at_end d A settings ends slots a b channel r below = r.side_a.queues.all channel below
queue_at_end d B settings ends slots a b channel r below = r.side_b.queues.all channel below

pub are_queues : (d : Duplex) (end : End) (settings : Settings) (ends : Ends) (slots : ℕ) (a b : List Word) → Runs d settings ends slots a b → AreQueues (side_of d end).queues
are_queues d A settings ends slots a b r = r.side_a.queues.are
are_queues d B settings ends slots a b r = r.side_b.queues.are

-- the same, where the number of slots is told
pub word_sent_at : (old new : Side) (settings : Settings) (ends : Ends) (packets : List (ℕ × List ℕ)) (own sent : List Word) (word : Word) (slots : ℕ) → length sent ≡ slots → AreSettings settings → IsSideAt old settings ends packets own sent (suc (length sent))
    → IsOnWay new.way settings.delay (sent ++ word ∷ []) → new.scheduler ≡ old.scheduler → new.queues ≡ old.queues → new.burst ≡ old.burst → new.heard ≡ old.heard → IsSideAt new settings ends packets own (sent ++ word ∷ []) (suc slots)
word_sent_at old new settings ends packets own sent word slots long keeps side way scheduler queues burst heard =
    subst (λ (n : ℕ). IsSideAt new settings ends packets own (sent ++ word ∷ []) (suc n)) long (word_sent old new settings ends packets own sent word keeps side way scheduler queues burst heard)

-- ---- the ends

pub added_at : (d : Duplex) (settings : Settings) (ends : Ends) (end known : End) (channel : ℕ) (bytes : List ℕ) → end ≡ known → Waits d settings (packet_added ends known channel bytes) → Waits d settings (packet_added ends end channel bytes)
added_at d settings ends end known channel bytes e w = subst (λ (x : End). Waits d settings (packet_added ends x channel bytes)) (sym e) w
