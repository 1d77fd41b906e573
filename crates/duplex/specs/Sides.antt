-- What one end of a run stands for.
use Rattle.std.specs.Prelude.{◌≡◌, ℕ, suc, ◌-◌, ◌<◌, true, false, ◌&&◌, List, [], ◌∷◌, ◌++◌, length, take, Contains, nat_lt, if◌then◌else◌, Option, None}
use Rattle.lk_base.specs.Words.{is_data}
use Rattle.lk_base.specs.declared.word.Word.{Word}
use Rattle.lk_base.specs.declared.word.Word.TheVariants.{Data, Control}
use Rattle.stream_model.specs.BurstStream.{Source, is_burst_on, controls_in}
use Rattle.stream_model.specs.declared.rows.FlowRow.{FlowRow}
use Rattle.burst_scheduler.specs.Asked.{Asked}
use Rattle.burst_scheduler.specs.Gives.{HasWords, Gives}
use Rattle.burst_scheduler.specs.declared.scheduler.Scheduler.{Scheduler}
use Rattle.duplex_model.specs.DuplexRun.{Settings, Ends, alone, heard_word, flow_rows, last_control, is_data_on, arrival, local_rows, source_of}
use Rattle.duplex.specs.Queues.{names, empty_queue, queue_at, IsQueueOf, AreQueues}
use Rattle.duplex.specs.Ways.{IsOnWay}
use Rattle.duplex.specs.declared.side.Side.{Side}

-- the scheduler was asked for the words of this source, and gave these
pub record Asks (scheduler : Scheduler) (source : Source) (own : List Word) : Type 0 where
  pub asked : Asked
  pub gives : HasWords scheduler asked
  pub source_is : asked.source ≡ source
  pub words : asked.words ≡ own
  pub still : asked.closed ≡ false

-- the rows by which a word that arrives in a slot is heard, after these words that arrived
abbrev pub heard_rows : ℕ → List Word → Word → List FlowRow
heard_rows slot arrived (Data x) = []
heard_rows slot arrived (Control x) = if nat_lt 0 (controls_in arrived) then record { slot = slot; word = heard_word x } ∷ [] else []

-- a source with them
abbrev pub hearing : Source → ℕ → List Word → Word → Source
hearing source slot arrived word = record source { flow = source.flow ++ heard_rows slot arrived word }

-- these words arrived, and were heard
pub record Hears (s : Side) (source : Source) (own arrived : List Word) : Type 0 where
  pub asks : Asks s.scheduler source own
  -- the channel of the burst that arrives
  pub burst : (channel : ℕ) → names s.burst channel ≡ is_burst_on channel (last_control arrived (length arrived))
  -- whether a control word arrived
  pub heard : s.heard ≡ nat_lt 0 (controls_in arrived)

-- after these words that arrived a word joins the queue of the channel that is named
abbrev pub joins : Option ℕ → List Word → Word → Type 0
joins joined arrived word = (channel : ℕ) → names joined channel ≡ (is_data word && is_burst_on channel (last_control arrived (length arrived)))

pub record KeepsQueues (old new : Side) : Type 0 where
  pub queues : new.queues ≡ old.queues
  pub way : new.way ≡ old.way

-- the queues are those of the channels before a slot
pub record HasQueues (s : Side) (settings : Settings) (sent : List Word) (slots : ℕ) : Type 0 where
  pub are : AreQueues s.queues
  pub all : (channel : ℕ) → channel < 65536 → IsQueueOf settings sent slots channel (queue_at s.queues.by_channel.items channel)

-- the words are data words of bursts on these channels alone
abbrev pub AreListed : List ℕ → List Word → Type 0
AreListed channels sent = (channel slot : ℕ) → is_data_on channel sent slot ≡ true → Contains channels channel

-- the end did this many slots, in which it sent its own words, while the other sent these
pub record IsSideAt (s : Side) (settings : Settings) (ends : Ends) (packets : List (ℕ × List ℕ)) (own sent : List Word) (slots : ℕ) : Type 0 where
  pub hears : Hears s (source_of settings ends packets sent slots) own (take (slots - settings.delay) sent)
  pub queues : HasQueues s settings sent slots
  pub way : IsOnWay s.way settings.delay sent

-- the end has taken the word that arrives in its next slot, which joins the queue of a channel, if of one
pub record HasTaken (s : Side) (settings : Settings) (ends : Ends) (packets : List (ℕ × List ℕ)) (own sent : List Word) (joined : Option ℕ) : Type 0 where
  pub hears : Hears s (record (alone ends packets) { flow = flow_rows settings sent (suc (length sent)); local = local_rows settings ends.channels sent (length sent) }) own (take (suc (length sent) - settings.delay) sent)
  pub joined_is : (channel : ℕ) → arrival settings sent channel (length sent) ≡ (if names joined channel then 1 else 0)
  pub queues : HasQueues s settings sent (length sent)
  pub way : IsOnWay s.way settings.delay sent

-- the end has done no slot
pub record IsFresh (s : Side) (settings : Settings) (ends : Ends) (packets : List (ℕ × List ℕ)) : Type 0 where
  pub asked : Asked
  pub gives : Gives s.scheduler asked
  pub source_is : asked.source ≡ alone ends packets
  pub words : asked.words ≡ []
  pub still : asked.closed ≡ false
  pub queues : AreQueues s.queues
  pub empty : (channel : ℕ) → queue_at s.queues.by_channel.items channel ≡ empty_queue
  pub way : IsOnWay s.way settings.delay []
  pub burst : s.burst ≡ None
  pub heard : s.heard ≡ false
