-- Each rule that looks at the words right before a place, by what is kept of these.
use Rattle.std.specs.Prelude.{ℕ, ◌-◌, ◌*◌, ◌/◌, ◌%◌, ◌^◌, ◌==◌, nat_lt, Bool, false, ◌&&◌, not, is_some, is_none, List, ◌++◌, Option, Some, None}
use Rattle.std.specs.Option.{option_map_or, option_map}
use Rattle.lk_base.specs.Fields.{is_control_word, has_sop, has_end, crc_field, channel_number}
use Rattle.lk_base.specs.Checksum.{bits_of, register_after, complement}
use Rattle.control_words.specs.declared.fields.Eop.{Eop}
use Rattle.control_words.specs.declared.fields.Eop.TheVariants as eops
use Rattle.control_words.specs.ControlWord.{end_of}
use Rattle.lk_base.specs.declared.word.RxWord.{RxWord}
use Rattle.word_rules.specs.declared.fault.Fault.{Fault}
use Rattle.word_rules.specs.declared.rule.WordRule.TheVariants as rules
use Rattle.word_rules.specs.Rules.{breaks_control, breaks_empty}
use Rattle.word_rules.specs.Faults.{row}
use Rattle.word_rules.specs.declared.before.Before.{Before}
use Rattle.word_rules.specs.declared.limits.WordLimits.{WordLimits}
use Rattle.word_rules.specs.Places.{is_burst_word}
use Rattle.word_rules.specs.Bursts.{ends, burst_bytes}

abbrev pub data_by : Before → Bool
data_by b = (b.size == 0) && (is_none b.burst && not b.after_bad)

abbrev pub max_by : WordLimits → Before → Bool
max_by s b = is_some b.burst && (b.size == s.burst_max / 8)

abbrev pub crc_by : Before → ℕ → Bool
crc_by b x = not b.after_bad && not (crc_field x == complement 24 (register_after 24 0x328B63 b.register (bits_of 64 (x / 2 ^ 24 * 2 ^ 24))))

abbrev pub short_by : WordLimits → Before → ℕ → Bool
short_by s b x = is_burst_word x && option_map_or (λ between. nat_lt between (s.burst_short / 8)) b.since_burst false

abbrev pub closes_by : Before → Bool
closes_by b = is_some b.burst && not (b.size == 0)

abbrev pub end_by : Before → ℕ → Bool
end_by b x = ends x && (not (closes_by b) && not b.after_bad)

-- the last Data word is not 0 past its valid bytes
abbrev pub wrong_fill_by : Eop → ℕ → Bool
wrong_fill_by eops.Going last = false
wrong_fill_by eops.Error last = false
wrong_fill_by (eops.End v) last = not (last % 2 ^ (8 * (8 - v)) == 0)

abbrev pub fill_by : Before → ℕ → Bool
fill_by b x = is_control_word x && (closes_by b && wrong_fill_by (end_of x) b.last)

abbrev pub part_by : Before → ℕ → Bool
part_by b x = (is_control_word x && not (has_end x)) && (closes_by b && not (b.size % 4 == 0))

-- the burst is not the whole of a packet
abbrev pub partial_by : Before → ℕ → Bool
partial_by b x = option_map_or (λ word. not (has_sop word && has_end x)) b.burst false

abbrev pub min_by : WordLimits → Before → ℕ → Bool
min_by s b x =
    is_control_word x && (not (b.size == 0)
    && (nat_lt (burst_bytes b.size (end_of x)) s.burst_min
    && partial_by b x))

-- the channel of the burst right before the place
abbrev pub channel_by : Bool → Before → Option ℕ
channel_by wide b = option_map (channel_number wide) b.burst

-- the rows of a Data word
abbrev pub data_rows_by : WordLimits → Before → List Fault
data_rows_by s b =
    row b.number rules.Data None (data_by b)
    ++ row b.number rules.Max (channel_by s.wide b) (max_by s b)

-- the rows of the Control word x by how it stands among the words
abbrev pub word_rows_by : WordLimits → Before → ℕ → Option RxWord → List Fault
word_rows_by s b x next =
    row b.number rules.Control None (breaks_control x)
    ++ (row b.number rules.Crc None (crc_by b x)
    ++ (row b.number rules.Empty (Some (channel_number s.wide x)) (breaks_empty x next)
    ++ (row b.number rules.Short (Some (channel_number s.wide x)) (short_by s b x)
    ++ row b.number rules.End None (end_by b x))))

-- the rows of the Control word x by the burst that it closes
abbrev pub burst_rows_by : WordLimits → Before → ℕ → List Fault
burst_rows_by s b x =
    row b.number rules.Fill (channel_by s.wide b) (fill_by b x)
    ++ (row b.number rules.Part (channel_by s.wide b) (part_by b x)
    ++ row b.number rules.Min (channel_by s.wide b) (min_by s b x))
