-- The rows of a Control word, by what is kept.
use Rattle.std.specs.Prelude.{ℕ, Bool, ◌&&◌, not, List, ◌++◌, slice_index_or, Option, Some, None}
use Rattle.lk_base.specs.declared.word.RxWord.{RxWord}
use Rattle.lk_base.specs.Fields.{channel_number}
use Rattle.stream_model.specs.Calendar.{is_on}
use Rattle.stream_model.specs.declared.rows.FlowRow.{FlowRow}
use Rattle.word_rules.specs.declared.before.Before.{Before}
use Rattle.word_rules.specs.declared.channel.ChannelState.{ChannelState}
use Rattle.word_rules.specs.declared.channels.OwnChannel.{OwnChannel}
use Rattle.word_rules.specs.declared.fault.Fault.{Fault}
use Rattle.word_rules.specs.declared.rule.WordRule.TheVariants as rules
use Rattle.word_rules.specs.declared.limits.WordLimits.{WordLimits}
use Rattle.word_rules.specs.Places.{is_burst_word}
use Rattle.word_rules.specs.Rules.{breaks_idle, breaks_multi}
use Rattle.word_rules.specs.Faults.{row}
use Rattle.word_rules.specs.ByFields.{word_rows_by, burst_rows_by}
use Rattle.word_rules.specs.Channels.{none_kept, packet_rows_by}

-- the rows of x up to `long`
abbrev pub control_rows_by : WordLimits → Before → OwnChannel → ℕ → Option RxWord → List Fault
control_rows_by s b own x next = word_rows_by s b x next ++ (burst_rows_by s b x ++ packet_rows_by s b own x)

-- the rows of x after `long`, by whether `calendar` and `off` are broken
abbrev pub field_rows_by : WordLimits → ℕ → Bool → Bool → ℕ → List Fault
field_rows_by s number calendar off x =
    row number rules.Idle None (breaks_idle x)
    ++ (row number rules.Multi (Some (channel_number s.wide x)) (breaks_multi s x)
    ++ (row number rules.Calendar None calendar
    ++ row number rules.Off (Some (channel_number s.wide x)) off))

-- `off`, by what is kept of the channel
abbrev pub off_by : WordLimits → List ChannelState → List ℕ → List FlowRow → ℕ → ℕ → Bool
off_by s kept entries flow number x =
    is_burst_word x
    && ((slice_index_or kept (channel_number s.wide x) none_kept).listed
    && not (is_on entries flow (channel_number s.wide x) number))
