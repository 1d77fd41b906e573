-- Each rule of a sender's words: whether the word at a place breaks it, by the words before the place, `earlier`, the latest first.
use Rattle.std.specs.Prelude.{ℕ, ◌+◌, ◌-◌, ◌*◌, ◌/◌, ◌%◌, ◌^◌, ◌==◌, nat_lt, nat_le, Bool, true, false, ◌&&◌, ◌||◌, not, cond, List, [], ◌∷◌, length, reverse, filter, filter_map, position, Option, Some, is_some}
use Rattle.std.specs.List.{range_with_len, list_any}
use Rattle.std.specs.Option.{option_map, option_map_or}
use Rattle.std.specs.Int.{bit_at}
use Rattle.lk_base.specs.declared.word.RxWord.{RxWord}
use Rattle.lk_base.specs.declared.word.RxWord.TheVariants.{Data, Control, Bad}
use Rattle.lk_base.specs.Fields.{is_control_word, has_burst, has_sop, has_end, channel_field, multi_field, reset_field, channel_number}
use Rattle.lk_base.specs.Words.{is_bad}
use Rattle.lk_base.specs.Checksum.{differ}
use Rattle.control_words.specs.declared.fields.Eop.{Eop}
use Rattle.control_words.specs.declared.fields.Eop.TheVariants as eops
use Rattle.control_words.specs.ControlWord.{end_of}
use Rattle.receive_model.specs.Lists.{first_of}
use Rattle.receive_model.specs.Stretches.{data_number, has_some, has_wrong_crc}
use Rattle.stream_model.specs.Calendar.{is_on}
use Rattle.stream_model.specs.declared.rows.FlowRow.{FlowRow}
use Rattle.word_rules.specs.declared.limits.WordLimits.{WordLimits}
use Rattle.word_rules.specs.Places.{control_number, is_burst_word, known, since_control, data_before, burst_before, follows_bad, words_since_burst}
use Rattle.word_rules.specs.declared.burst.Burst.{Burst}
use Rattle.word_rules.specs.Bursts.{bursts_on, ends, is_ended, burst_bytes, whole_bytes, since_sop}
pub use Rattle.stream_model.specs.Calendar.{is_listed}

-- ---- Data words

-- `data`: the word before the Data word is a Control word that is no burst word, or there is none; of several such Data words one
-- after the other it is the first
abbrev pub breaks_data : List RxWord → Bool
breaks_data [] = true
breaks_data (Data x ∷ earlier) = false
breaks_data (Control x ∷ earlier) = not (is_burst_word x)
breaks_data (Bad ∷ earlier) = false

-- `max`: the Data word is number BurstMax / 8, from 0, of a burst
abbrev pub breaks_max : WordLimits → List RxWord → Bool
breaks_max s earlier = is_some (burst_before earlier) && (length (data_before earlier) == s.burst_max / 8)

-- ---- the Control word x

-- `control`: it is not accepted
abbrev pub breaks_control : ℕ → Bool
breaks_control x = not (is_control_word x)

-- the Data words after the Control word before it, or from the start, in order
abbrev pub covered : List RxWord → List ℕ
covered earlier = reverse (filter_map data_number (since_control earlier))

-- `crc`: no Bad word stands between it and the Control word before it, or the start, and its bits 23:0 are not the CRC24 of the
-- Data words between and of itself
abbrev pub breaks_crc : List RxWord → ℕ → Bool
breaks_crc earlier x =
    not (list_any is_bad (since_control earlier))
    && has_wrong_crc (covered earlier) x

-- a next word is there, and is a Control word, accepted or not
abbrev pub is_next_control : Option RxWord → Bool
is_next_control next = option_map_or (λ w. is_some (control_number w)) next false

-- `empty`: it is a burst word, and the next word is a Control word
abbrev pub breaks_empty : ℕ → Option RxWord → Bool
breaks_empty x next = is_burst_word x && is_next_control next

-- `short`: it is a burst word, and between the last burst word before it, if that is not unknown, and it stand fewer than
-- BurstShort / 8 words
abbrev pub breaks_short : WordLimits → List RxWord → ℕ → Bool
breaks_short s earlier x =
    is_burst_word x && option_map_or (λ between. nat_lt between (s.burst_short / 8)) (words_since_burst (known earlier)) false

-- a burst with Data is closed at the place, where that is a Control word
abbrev pub closes_data : List RxWord → Bool
closes_data earlier = is_some (burst_before earlier) && has_some (data_before earlier)

-- `end`: it is accepted and has an end format, no burst with Data is closed at it, and no Bad word stands right before it or right
-- before the Data that stand before it
abbrev pub breaks_end : List RxWord → ℕ → Bool
breaks_end earlier x = ends x && (not (closes_data earlier) && not (follows_bad earlier))

-- of Data words, the last first, the last one is not 0 past its valid bytes, where the data end so
abbrev pub has_wrong_fill : Eop → List ℕ → Bool
has_wrong_fill eops.Going words = false
has_wrong_fill eops.Error words = false
has_wrong_fill (eops.End v) [] = false
has_wrong_fill (eops.End v) (last ∷ words) = not (last % 2 ^ (8 * (8 - v)) == 0)

-- `fill`: a burst with Data is closed by it, it is accepted and has the end format of v valid bytes, and the low 8 - v bytes of
-- the word before it are not all 0
abbrev pub breaks_fill : List RxWord → ℕ → Bool
breaks_fill earlier x = is_control_word x && (closes_data earlier && has_wrong_fill (end_of x) (data_before earlier))

-- `part`: a burst is closed by it, it is accepted and has no end format, and the number of Data words is above 0 and no multiple
-- of 4
abbrev pub breaks_part : List RxWord → ℕ → Bool
breaks_part earlier x = (is_control_word x && not (has_end x)) && (closes_data earlier && not (length (data_before earlier) % 4 == 0))

-- `min`: a burst with Data is closed by it, it is accepted, the bytes are fewer than BurstMin, and the burst is not the whole of a
-- packet: its burst word has no SOP, or the closing word has no end format
abbrev pub breaks_min : WordLimits → List RxWord → ℕ → Bool
breaks_min s earlier x =
    is_control_word x && (has_some (data_before earlier)
    && (nat_lt (burst_bytes (length (data_before earlier)) (end_of x)) s.burst_min
    && option_map_or (λ word. not (has_sop word && has_end x)) (burst_before earlier) false))

-- the last burst of its channel before x that is not unknown, if there is one
abbrev pub last_burst : Bool → List RxWord → ℕ → Option Burst
last_burst wide earlier x = first_of (bursts_on wide (channel_number wide x) x (known earlier))

-- Its channel is open: it has a burst word before that is not unknown, and of the last of these the first Control word after it, x
-- at the latest, is not accepted or has no end format.
abbrev pub is_open : Bool → List RxWord → ℕ → Bool
is_open wide earlier x = option_map_or (λ b. not (is_ended b)) (last_burst wide earlier x) false

-- Its channel is known not to be open: it is not open, and it has a burst word before that is not unknown, or no Bad word stands
-- before.
abbrev pub is_known_closed : Bool → List RxWord → ℕ → Bool
is_known_closed wide earlier x =
    not (is_open wide earlier x) && (is_some (last_burst wide earlier x) || not (list_any is_bad earlier))

-- `sop`: it is a burst word with SOP, and its channel is known to be open
abbrev pub breaks_sop : WordLimits → List RxWord → ℕ → Bool
breaks_sop s earlier x = is_burst_word x && (has_sop x && is_open s.wide earlier x)

-- `open`: it is a burst word without SOP, and its channel is known not to be open
abbrev pub breaks_open : WordLimits → List RxWord → ℕ → Bool
breaks_open s earlier x = is_burst_word x && (not (has_sop x) && is_known_closed s.wide earlier x)

-- `channel`: it is a burst word whose channel is not listed
abbrev pub breaks_channel : WordLimits → List ℕ → ℕ → Bool
breaks_channel s channels x = is_burst_word x && not (is_listed channels (channel_number s.wide x))

-- Of the bursts of a channel from its last burst word with SOP on, the last first, none before the last is ended, those before the
-- last have at most so many bytes, each counted whole, and with the last, which ends so, they have more.
abbrev pub passes_limit : ℕ → Eop → List Burst → Bool
passes_limit most end [] = false
passes_limit most end (b ∷ before) =
    not (list_any is_ended before)
    && (nat_le (whole_bytes before) most
    && nat_lt most (whole_bytes before + burst_bytes b.size end))

-- `long`: a burst is closed by it, it is accepted, the channel's last burst word with SOP up to this burst is not unknown, and with
-- this burst, and not before it, the channel's bytes from there on are more than the most of a packet, where no burst from there
-- on, before this one, is ended
abbrev pub breaks_long : WordLimits → List RxWord → ℕ → Bool
breaks_long s earlier x =
    is_control_word x
    && option_map_or
    (λ word. option_map_or (passes_limit s.max_packet (end_of x)) (since_sop (bursts_on s.wide (channel_number s.wide word) x (known earlier))) false)
    (burst_before earlier)
    false

-- `idle`: it is an accepted idle that has SOP, or a channel that is not 0, or multiple use that is not 0
abbrev pub breaks_idle : ℕ → Bool
breaks_idle x =
    (is_control_word x && not (has_burst x))
    && (has_sop x || (not (channel_field x == 0) || not (multi_field x == 0)))

-- `multi`: channel numbers are narrow, and it is a burst word whose multiple use is not 0
abbrev pub breaks_multi : WordLimits → ℕ → Bool
breaks_multi s x = not s.wide && (is_burst_word x && not (multi_field x == 0))

-- ---- the calendar

-- the accepted control words that are not unknown, the last first
abbrev pub accepted_before : List RxWord → List ℕ
accepted_before earlier = filter is_control_word (filter_map control_number (known earlier))

-- the word carries the calendar from entry 0 on
abbrev pub has_reset : ℕ → Bool
has_reset x = reset_field x == 1

-- how many accepted control words come after the last one with Reset Calendar, up to and with the one at the place; none where
-- none has it
abbrev pub words_since_reset : List ℕ → Option ℕ
words_since_reset accepted = option_map (λ k. k + 1) (position has_reset accepted)

-- the control words that carry all of so many entries, 16 each
abbrev pub calendar_words : ℕ → ℕ
calendar_words entries = (entries + 15) / 16

-- Reset Calendar is as is due: after a word with it, x has it exactly where it is the word that follows all entries. Where no word
-- has it, x has it, or fewer accepted words stand before than carry all entries.
abbrev pub is_as_due : ℕ → List ℕ → ℕ → Bool
is_as_due entries accepted x =
    option_map_or (λ d. not (differ (has_reset x) (d == calendar_words entries)))
    (words_since_reset accepted)
    (has_reset x || nat_lt (length accepted) (calendar_words entries))

-- which sixteen entries x carries, counted from 0, if that is known
abbrev pub entries_at : List ℕ → ℕ → Option ℕ
entries_at accepted x = cond (has_reset x) (Some 0) (words_since_reset accepted)

-- one of the flow bits i, 0 for bit 55, with entry 16 * e + i past the last one is 0
abbrev pub has_zero_past_last : ℕ → ℕ → ℕ → Bool
has_zero_past_last entries x e = list_any (λ i. nat_le entries (16 * e + i) && not (bit_at x (55 - i) == 1)) (range_with_len 0 16)

-- `calendar`: it is accepted, and its Reset Calendar is not as is due, or one of its flow bits past the last entry is 0
abbrev pub breaks_calendar : ℕ → List RxWord → ℕ → Bool
breaks_calendar entries earlier x =
    is_control_word x
    && (not (is_as_due entries (accepted_before earlier) x)
    || option_map_or (has_zero_past_last entries x) (entries_at (accepted_before earlier) x) false)

-- `off`: it is a burst word on a listed channel that is off at its slot by the flow rows
abbrev pub breaks_off : WordLimits → List ℕ → List ℕ → List FlowRow → List RxWord → ℕ → Bool
breaks_off s channels entries flow earlier x =
    is_burst_word x
    && (is_listed channels (channel_number s.wide x)
    && not (is_on entries flow (channel_number s.wide x) (length earlier)))
