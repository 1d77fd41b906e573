-- Worked examples of queues, of what is heard and of what is told.
use Rattle.std.specs.Prelude.{◌≡◌, ℕ, true, false, List, [], ◌∷◌, map}
use Rattle.lk_base.specs.declared.word.Word.{Word}
use Rattle.lk_base.specs.declared.word.Word.TheVariants.{Data, Control}
use Rattle.stream_model.specs.declared.rows.LocalRow.{LocalRow}
use Rattle.duplex_model.specs.DuplexRun.{Settings, heard_word, flow_rows, is_data_on, filled, queue, peak, local_rows}

-- a word is one slot on its way, a channel is off from two queued words on, and each second slot takes one
abbrev pub short_way : Settings
short_way = record { delay = 1; mark = 2; drain = 2; slots = 7 }

-- the same, but each slot takes one
abbrev pub each_slot : Settings
each_slot = record { delay = 1; mark = 2; drain = 1; slots = 7 }

-- an idle, a burst on channel 1 with three data words, and an idle
abbrev pub one_burst : List Word
one_burst = Control 0x81ffff0000188177 ∷ Control 0xe1ffff01004eac73 ∷ Data 5 ∷ Data 6 ∷ Data 7 ∷ Control 0x81ffff00000a5ed8 ∷ []

-- the queue of channel 1 at these slots
abbrev pub queues_at : List ℕ → List ℕ
queues_at slots = map (queue short_way one_burst 1) slots

abbrev pub row_on : ℕ → LocalRow
row_on slot = record { slot = slot; channel = 1; on = true }

pub record RunExamples : Type 0 where
  -- the data words arrive at slots 3, 4 and 5, and slots 4 and 6 take one
  pub queues : queues_at (0 ∷ 1 ∷ 2 ∷ 3 ∷ 4 ∷ 5 ∷ 6 ∷ []) ≡ 0 ∷ 0 ∷ 0 ∷ 1 ∷ 1 ∷ 2 ∷ 1 ∷ []
  pub before_it_is_drained : filled short_way one_burst 1 4 ≡ 2
  pub most : peak short_way one_burst 1 7 ≡ 2
  -- a peak is what a slot has before it takes one
  pub drained_at_once : map (queue each_slot one_burst 1) (0 ∷ 1 ∷ 2 ∷ 3 ∷ 4 ∷ 5 ∷ 6 ∷ []) ≡ 0 ∷ 0 ∷ 0 ∷ 0 ∷ 0 ∷ 0 ∷ 0 ∷ []
  pub most_before_it_is_drained : peak each_slot one_burst 1 7 ≡ 1
  pub of_another_channel : peak short_way one_burst 3 7 ≡ 0
  pub a_burst_word_joins_no_queue : is_data_on 1 one_burst 1 ≡ false
  pub nothing_behind_the_end : is_data_on 1 one_burst 6 ≡ false
  -- off where two words are queued
  pub told : local_rows short_way (1 ∷ []) one_burst 7 ≡ row_on 0 ∷ row_on 1 ∷ row_on 2 ∷ row_on 3 ∷ row_on 4 ∷ (record (row_on 5) { on = false }) ∷ row_on 6 ∷ []
  -- the first control word is left out; a word after data has another checksum than its own, and is heard with its own
  pub heard : flow_rows short_way one_burst 7 ≡ record { slot = 2; word = 0xe1ffff01004eac73 } ∷ record { slot = 6; word = 0x81ffff0000188177 } ∷ []
  pub heard_in_fewer_slots : flow_rows short_way one_burst 6 ≡ record { slot = 2; word = 0xe1ffff01004eac73 } ∷ []
  pub heard_anew : heard_word 0x81ffff0000000000 ≡ 0x81ffff0000188177
