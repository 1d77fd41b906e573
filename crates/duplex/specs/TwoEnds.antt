-- A worked run of two ends: a packet of eight bytes each way on one channel, in five slots.
use Rattle.std.specs.Prelude.{◌≡◌, ℕ, refl, false, List, [], ◌∷◌}
use Rattle.lk_base.specs.declared.word.Word.{Word}
use Rattle.lk_base.specs.declared.word.Word.TheVariants.{Data, Control}
use Rattle.stream_model.specs.StreamExamples.{idle, one_packet_words, small_shape}
use Rattle.receive_model.specs.Events.{Setting}
use Rattle.receive_model.specs.Pieces.{Packet}
use Rattle.receive_model.specs.Positions.{numbered}
use Rattle.duplex_model.specs.DuplexRun.{Settings, Ends, IsDuplexRun, peak, queue}
use Rattle.duplex_model.specs.Came.{came}

-- a word is one slot on its way, a channel is off from two queued words on, and each slot takes one
abbrev pub five_slots : Settings
five_slots = record { delay = 1; mark = 2; drain = 1; slots = 5 }

-- what end a sends, and what end b sends
abbrev pub rising_bytes : List ℕ
rising_bytes = 1 ∷ 2 ∷ 3 ∷ 4 ∷ 5 ∷ 6 ∷ 7 ∷ 8 ∷ []

abbrev pub falling_bytes : List ℕ
falling_bytes = 8 ∷ 7 ∷ 6 ∷ 5 ∷ 4 ∷ 3 ∷ 2 ∷ 1 ∷ []

abbrev pub two_ends : Ends
two_ends = record { shape = small_shape; channels = 1 ∷ []; entries = 1 ∷ []; packets_of_a = (1, rising_bytes) ∷ []; packets_of_b = (1, falling_bytes) ∷ [] }

-- after the warm-up a burst of one data word, and the word that ends its packet
abbrev pub words_of_a : List Word
words_of_a = one_packet_words

abbrev pub words_of_b : List Word
words_of_b = idle ∷ Control 0xe1ffff01004eac73 ∷ Data 0x0807060504030201 ∷ Control 0x91ffff00006f52df ∷ idle ∷ []

abbrev pub one_channel : Setting
one_channel = record { channels = 1 ∷ []; in_order = refl; max_packet = 8; wide = false }

-- a packet whose SOP word was sent in slot 1 and its end word in slot 3
abbrev pub packet_of : List ℕ → Packet
packet_of bytes = record { bytes = bytes; first = numbered 1; last = numbered 3 }

pub record TwoEndsRun : Type 0 where
  pub run : IsDuplexRun five_slots two_ends words_of_a words_of_b
  -- there is no other
  pub only : (a b : List Word) → IsDuplexRun five_slots two_ends a b → (a ≡ words_of_a) × (b ≡ words_of_b)
  -- each end got the packet of the other, whose end word arrives in slot 4
  pub came_at_a : came five_slots one_channel words_of_b 1 5 ≡ packet_of falling_bytes ∷ []
  pub came_at_b : came five_slots one_channel words_of_a 1 5 ≡ packet_of rising_bytes ∷ []
  pub a_slot_before : came five_slots one_channel words_of_a 1 4 ≡ []
  -- its data word arrives in slot 3, which takes it
  pub most_at_a : peak five_slots words_of_b 1 5 ≡ 1
  pub most_at_b : peak five_slots words_of_a 1 5 ≡ 1
  pub left_at_b : queue five_slots words_of_a 1 3 ≡ 0
