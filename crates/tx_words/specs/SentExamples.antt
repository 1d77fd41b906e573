-- What is counted and listed of a few small streams.
use Rattle.std.specs.Prelude.{ℕ, ◌≡◌, [], ◌∷◌, take, Option, Some, None}
use Rattle.lk_base.specs.declared.word.Word.{Word}
use Rattle.lk_base.specs.declared.word.Word.TheVariants.{Control}
use Rattle.stream_model.specs.StreamExamples.{idle, one_packet_words, off_throughout, off_throughout_words, in_turn, in_turn_words, wide_pair, wide_pair_words, least_cut, least_cut_words}
use Rattle.tx_words.specs.declared.sent.Sent.{Sent}
use Rattle.tx_words.specs.Counts.{count_of}
use Rattle.tx_words.specs.Sent.{AreSent}

pub record CountExamples : Type 0 where
  -- a packet of 65 bytes on channel 1, and two of one byte on channel 3
  pub one : count_of in_turn in_turn_words 1 ≡ record { channel = 1; packets = 1; bytes = 65; left = 0 }
  pub three : count_of in_turn in_turn_words 3 ≡ record { channel = 3; packets = 2; bytes = 2; left = 0 }
  -- channels whose numbers have one remainder by 256, each with a packet of eight bytes
  pub five : count_of wide_pair wide_pair_words 5 ≡ record { channel = 5; packets = 1; bytes = 8; left = 0 }
  pub wide : count_of wide_pair wide_pair_words 261 ≡ record { channel = 261; packets = 1; bytes = 8; left = 0 }
  -- a packet of 65 bytes in bursts of 32 and 33
  pub least : count_of least_cut least_cut_words 0 ≡ record { channel = 0; packets = 1; bytes = 65; left = 0 }
  -- a channel that is off throughout
  pub off : count_of off_throughout off_throughout_words 1 ≡ record { channel = 1; packets = 0; bytes = 0; left = 1 }

-- SOP words on channels 0 and 1, and a control word with an end format for eight bytes
abbrev pub start_on_zero : Word
start_on_zero = Control 0xe1ffff00001e8142

abbrev pub start_on_one : Word
start_on_one = Control 0xe1ffff01004eac73

abbrev pub end_of_eight : Word
end_of_eight = Control 0x91ffff000038535e

abbrev pub listed : ℕ → ℕ → ℕ → Option ℕ → Sent
listed channel number first last = record { channel = channel; number = number; first = first; last = last }

pub record SentExamples : Type 0 where
  -- one packet, whose end word stands after its data word
  pub whole : AreSent one_packet_words (listed 1 0 1 (Some 3) ∷ [])
  -- two packets on channels whose numbers have one remainder by 256
  pub wide : AreSent wide_pair_words (listed 5 0 1 (Some 3) ∷ listed 261 0 6 (Some 8) ∷ [])
  -- the words of the one packet up to its data word
  pub cut : AreSent (take 3 one_packet_words) (listed 1 0 1 None ∷ [])
  -- a packet of the same channel starts before the first has ended, and ends; the first has no end word
  pub again : AreSent (start_on_zero ∷ start_on_zero ∷ end_of_eight ∷ []) (listed 0 0 0 None ∷ listed 0 1 1 (Some 2) ∷ [])
  -- the end word stands after a burst of channel 1, so it ends the packet of channel 1
  pub other : AreSent (start_on_zero ∷ start_on_one ∷ end_of_eight ∷ []) (listed 0 0 0 None ∷ listed 1 0 1 (Some 2) ∷ [])
  -- one control word ends a packet, and the next of the channel starts at once
  pub both : AreSent (start_on_zero ∷ end_of_eight ∷ start_on_zero ∷ idle ∷ end_of_eight ∷ []) (listed 0 0 0 (Some 1) ∷ listed 0 1 2 (Some 4) ∷ [])
