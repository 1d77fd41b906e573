-- One slot of an end.
use Rattle.std.proofs.Common.{◌≡◌, ℕ, zero, suc, ◌+◌, ◌-◌, ◌%◌, ◌^◌, ◌<◌, ◌≤◌, max, Bool, ◌==◌, List, [], ◌∷◌, ◌++◌, length, map, nat_lt, if◌then◌else◌, Option, true, false, refl, sym, ap, ap₂, ◌∙◌, subst, arith}
use Rattle.lk_base.specs.declared.word.Word.{Word}
use Rattle.stream_model.specs.BurstStream.{Source}
use Rattle.stream_model.specs.declared.rows.LocalRow.{LocalRow}
use Rattle.calendar.specs.Outgoing.{last_local}
use Rattle.burst_scheduler.specs.Asked.{Asked, stepped}
use Rattle.burst_scheduler.specs.Gives.{HasWords}
use Rattle.burst_scheduler.specs.declared.scheduler.Scheduler.{Scheduler}
use Rattle.duplex_model.specs.DuplexRun.{Settings, AreSettings, Ends, arrival, queue_before, peak, local_row, local_rows}
use Rattle.duplex_model.proofs.Peaks.{queue_low}
use Rattle.duplex.specs.Queues.{names, queue_at, joined_by, drained_by, turned_in, locals_added, IsQueueOf, AreQueues, Tells}
use Rattle.duplex.specs.Ways.{IsOnWay}
use Rattle.duplex.specs.Sides.{IsSideAt, HasTaken, AreListed}
use Rattle.duplex.specs.declared.queue.ArrivalQueue.{ArrivalQueue}
use Rattle.duplex.specs.declared.side.Side.{Side}
use Rattle.duplex.proofs.Told.{told_before, told_after, rows_told, rows_here, far_on}

-- ---- queues

queue_within_peak : (settings : Settings) (sent : List Word) (c t : ℕ) → queue_before settings sent c t ≤ peak settings sent c t
unfolding queue_before peak
queue_within_peak settings sent c zero = omega arith
queue_within_peak settings sent c (suc t) = by (t % settings.drain == 0) (queue_before settings sent c t + arrival settings sent c t) (peak settings sent c t)
  where
    by : (b : Bool) (n m : ℕ) → (if b then n - 1 else n) ≤ max m n
    by true n m = omega arith
    by false n m = omega arith

turned_queue : (settings : Settings) (sent : List Word) (t c : ℕ) (queue : ArrivalQueue) (joined : Option ℕ) (drains : Bool) → IsQueueOf settings sent t c queue → arrival settings sent c t ≡ (if names joined c then 1 else 0) → drains ≡ (t % settings.drain == 0)
    → IsQueueOf settings sent (suc t) c (turned_in joined drains c queue)
unfolding queue_before peak
turned_queue settings sent t c queue joined drains is come drain =
    let low : queue_before settings sent c t ≤ peak settings sent c t = queue_within_peak settings sent c t in
    let full = filled (names joined c) come in
    record {
      words = drained drains (joined_by (names joined c) queue) ∙ ap₂ (λ (b : Bool) n. if b then n - 1 else n) drain full;
      most = same_peak drains (joined_by (names joined c) queue) ∙ most (names joined c) low come;
    }
  where
    filled : (b : Bool) → arrival settings sent c t ≡ (if b then 1 else 0) → (joined_by b queue).words ≡ queue_before settings sent c t + arrival settings sent c t
    filled true e = let w = is.words in omega (arith, e, w)
    filled false e = let w = is.words in omega (arith, e, w)

    most : (b : Bool) → queue_before settings sent c t ≤ peak settings sent c t → arrival settings sent c t ≡ (if b then 1 else 0) → (joined_by b queue).peak ≡ max (peak settings sent c t) (queue_before settings sent c t + arrival settings sent c t)
    most true low e = ap₂ (λ p n. max p n) is.most (let w = is.words in let n : queue.words + 1 ≡ queue_before settings sent c t + arrival settings sent c t = omega (arith, e, w) in n)
    most false low e = let m = is.most in omega (arith, low, e, m)

    drained : (b : Bool) (q : ArrivalQueue) → (drained_by b q).words ≡ (if b then q.words - 1 else q.words)
    drained true q = refl
    drained false q = refl

    same_peak : (b : Bool) (q : ArrivalQueue) → (drained_by b q).peak ≡ q.peak
    same_peak true q = refl
    same_peak false q = refl

pub low_queues : (settings : Settings) (sent : List Word) (t c : ℕ) (queue : ArrivalQueue) → t < 2 ^ 24 → IsQueueOf settings sent t c queue → queue.words < 2 ^ 31
low_queues settings sent t c queue h q =
    let is = q.words in
    let low : queue_before settings sent c t ≤ t = queue_low settings sent c t in
    omega (arith, is, low, h)

-- ---- the slot

-- what was told before it
pub tells_taken : (taken : Side) (settings : Settings) (ends : Ends) (packets : List (ℕ × List ℕ)) (own sent : List Word) (joined : Option ℕ) (mark : ℕ) → AreSettings settings → (t : HasTaken taken settings ends packets own sent joined)
    → AreListed ends.channels sent → mark ≡ settings.mark → Tells taken.scheduler t.hears.asks.asked mark taken.queues.by_channel.items
tells_taken taken settings ends packets own sent joined mark keeps t listed marks =
    let asks = t.hears.asks in
    told_before taken.scheduler asks.asked mark taken.queues.by_channel.items asks.gives
    (λ c below. ap (λ (s : Source). last_local s.local c) asks.source_is ∙ rows_told settings ends.channels sent (length sent) c listed keeps.mark_low
    ∙ ap₂ nat_lt (sym (t.queues.all c below).words) (sym marks))

pub side_turned : (taken new : Side) (settings : Settings) (ends : Ends) (packets : List (ℕ × List ℕ)) (own sent : List Word) (joined : Option ℕ) (drains : Bool) (mark : ℕ) (passed : Scheduler) (word : Word)
    → AreSettings settings → length own ≡ length sent → HasTaken taken settings ends packets own sent joined → AreListed ends.channels sent → mark ≡ settings.mark → drains ≡ (length sent % settings.drain == 0)
    → AreQueues new.queues → ((c : ℕ) → queue_at new.queues.by_channel.items c ≡ turned_in joined drains c (queue_at taken.queues.by_channel.items c))
    → ((a : Asked) → Tells taken.scheduler a mark taken.queues.by_channel.items → Tells passed a mark new.queues.by_channel.items)
    → ((a : Asked) → HasWords passed a → a.closed ≡ false → HasWords new.scheduler (stepped a true (word ∷ [])))
    → new.way ≡ taken.way → new.burst ≡ taken.burst → new.heard ≡ taken.heard → IsSideAt new settings ends packets (own ++ word ∷ []) sent (suc (length sent))
unfolding local_rows
side_turned taken new settings ends packets own sent joined drains mark passed word keeps long t listed marks drain are turned tells steps way burst heard =
    let slot : ℕ = length sent in
    let asks = t.hears.asks in
    let a : Asked = asks.asked in
    let all = λ (c : ℕ) (below : c < 65536). subst (IsQueueOf settings sent (suc slot) c) (sym (turned c)) (turned_queue settings sent slot c (queue_at taken.queues.by_channel.items c) joined drains (t.queues.all c below) (t.joined_is c) drain) in
    let at : slot ≡ length a.words = sym (ap length asks.words ∙ long) in
    let rows : List LocalRow = map (local_row settings sent slot) ends.channels in
    let b : Asked = locals_added a rows in
    let told : HasWords passed b = told_after passed a mark new.queues.by_channel.items rows (tells a (tells_taken taken settings ends packets own sent joined mark keeps t listed marks)) (rows_here settings sent slot (length a.words) ends.channels at)
    (λ c below. ap (λ (s : Source). last_local (s.local ++ rows) c) asks.source_is ∙ rows_told settings ends.channels sent (suc slot) c listed keeps.mark_low ∙ ap₂ nat_lt (sym (all c below).words) (sym marks))
    (λ c far. ap (λ (s : Source). last_local (s.local ++ rows) c) asks.source_is ∙ rows_told settings ends.channels sent (suc slot) c listed keeps.mark_low ∙ far_on settings sent (suc slot) c keeps.mark_low far) in
    record {
      hears = record {
        asks = record {
          asked = stepped b true (word ∷ []);
          gives = steps b told asks.still;
          source_is = ap (λ (s : Source). let source : Source = record s { local = s.local ++ rows } in source) asks.source_is;
          words = ap (λ w. w ++ word ∷ []) asks.words;
          still = asks.still;
        };
        burst = λ channel. ap (λ o. names o channel) burst ∙ t.hears.burst channel;
        heard = heard ∙ t.hears.heard;
      };
      queues = record { are = are; all = all };
      way = subst (λ w. IsOnWay w settings.delay sent) (sym way) t.way;
    }
