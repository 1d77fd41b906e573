-- What the burst under way means, and the control word after it.
use Rattle.std.specs.Prelude.{◌≡◌, ◌↔◌, ℕ, ◌+◌, ◌*◌, ◌-◌, ◌^◌, ◌<◌, ◌≤◌, ◌==◌, Bool, true, false, List, [], ◌++◌, length, map, take, drop}
use Rattle.std.specs.Int.{bit_at}
use Rattle.lk_base.specs.Fields.{control_field, burst_field, sop_field, eop_field, reset_field, channel_field, multi_field, crc_field}
use Rattle.lk_base.specs.Checksum.{control_crc, digit}
use Rattle.lk_base.specs.declared.word.Word.{Word}
use Rattle.lk_base.specs.declared.word.Word.TheVariants.{Data}
use Rattle.stream_model.specs.Calendar.{first_entry, calendar_bit}
use Rattle.stream_model.specs.BurstStream.{Source, controls_in, data_since, end_format}
use Rattle.calendar.specs.Outgoing.{StandsOut}
use Rattle.calendar.specs.declared.outgoing.CalendarOut.{CalendarOut}
use Rattle.control_words.specs.ControlWord.{eop_format}
use Rattle.control_words.specs.declared.fields.Eop.TheVariants.{Going}
use Rattle.control_words.specs.declared.fields.Control.{Control as Fields}
use Rattle.burst_scheduler.specs.declared.line.BurstLine.{BurstLine}

-- the data words of the burst under way that are still to come
abbrev pub left_of : BurstLine → List ℕ
left_of line = drop line.given (take line.count line.run.items)

-- these words, and the rest of the burst that is under way
abbrev pub planned_after : BurstLine → List Word → List Word
planned_after line w = w ++ map Data (left_of line)

-- a line with another calendar of this end's own
abbrev pub with_outgoing : BurstLine → CalendarOut → BurstLine
with_outgoing line outgoing = record line { outgoing = outgoing }

-- After these words of the source's stream the line has the data words of the last burst, and how they end. Its calendar is at the
-- entries of the next control word.
pub record HoldsBurst (line : BurstLine) (source : Source) (w : List Word) : Type 0 where
  pub outgoing : StandsOut line.outgoing source.entries source.local (controls_in w)
  pub long : length line.run.items ≡ 512
  pub given : (line.given ≤ line.count) × (line.count ≤ 512)
  pub since : data_since (planned_after line w) ≡ take line.count line.run.items
  pub end : eop_format line.eop ≡ end_format source (planned_after line w)

-- no word was given
pub record IsFreshLine (line : BurstLine) (entries : List ℕ) : Type 0 where
  pub outgoing : StandsOut line.outgoing entries [] 0
  pub long : length line.run.items ≡ 512
  pub count : line.count ≡ 0
  pub given : line.given ≡ 0
  pub eop : line.eop ≡ Going

-- a control word with these fields, the calendar's next entries, and the checksum of the data before it
pub record IsSealed (source : Source) (w : List Word) (fields : Fields) (x : ℕ) : Type 0 where
  pub fits : x < 2 ^ 64
  pub control : control_field x ≡ 1
  pub burst : burst_field x ≡ digit fields.burst
  pub sop : sop_field x ≡ digit fields.sop
  pub end : eop_field x ≡ end_format source w
  pub reset : (reset_field x ≡ 1) ↔ (first_entry source.entries (controls_in w) ≡ 0)
  pub entries : (i : ℕ) → i < 16 → (bit_at x (55 - i) == 1) ≡ calendar_bit source.entries source.local (controls_in w) (length w) i
  pub channel : channel_field x ≡ fields.channel
  pub multi : multi_field x ≡ fields.multi
  pub checksum : crc_field x ≡ control_crc (data_since w) x

-- after these words an idle was made
pub record IsIdleAfter (new : BurstLine) (source : Source) (w : List Word) (x : ℕ) : Type 0 where
  pub fields : Fields
  pub sealed : IsSealed source w fields x
  pub plain : (fields.burst ≡ false) × (fields.sop ≡ false) × (fields.channel ≡ 0) × (fields.multi ≡ 0)
  pub outgoing : StandsOut new.outgoing source.entries source.local (controls_in w + 1)

-- after these words a burst word on the channel was made, at the start of a packet or not
pub record IsBurstAfter (new : BurstLine) (source : Source) (w : List Word) (channel : ℕ) (first : Bool) (x : ℕ) : Type 0 where
  pub fields : Fields
  pub sealed : IsSealed source w fields x
  pub burst : fields.burst ≡ true
  pub sop : fields.sop ≡ first
  pub on : fields.channel + 256 * fields.multi ≡ channel
  pub outgoing : StandsOut new.outgoing source.entries source.local (controls_in w + 1)

-- only the number of data words given differs
pub record KeepsRun (old new : BurstLine) : Type 0 where
  pub outgoing : new.outgoing ≡ old.outgoing
  pub run : new.run ≡ old.run
  pub count : new.count ≡ old.count
  pub eop : new.eop ≡ old.eop
