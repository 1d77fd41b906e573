-- The lines of a report. Each ends in the byte 0A, and its numbers are plain decimal.
use Rattle.std.specs.Prelude.{ℕ, List, [], ◌∷◌, ◌++◌, Option, Some, None, slice_index, flat_map}
use Rattle.std.specs.Fmt.{decimal}
use lib.Chars.{codes}
use Rattle.lk_base.specs.declared.fault.DropWhy.{DropWhy}
use Rattle.lock_model.specs.declared.types.LaneReport.{LaneReport}
use Rattle.link_reports.specs.Drops.{all_drops, drop_name, drop_place}
use Rattle.report_model.specs.declared.counts.Accidents.{Accidents}
use Rattle.report_model.specs.declared.counts.Missing.{Missing}
use Rattle.report_model.specs.declared.counts.SentCount.{SentCount}

-- a name of a value, its number, and what follows it
abbrev pub told : List ℕ → ℕ → List ℕ → List ℕ
told name number rest = name ++ (decimal number ++ rest)

abbrev pub line_end : List ℕ
line_end = 10 ∷ []

-- what was sent of a channel: its sent packets, their bytes, and how many others there are
abbrev pub sent_line : SentCount → List ℕ
sent_line count =
    told (codes "sent channel=") count.channel
    (told (codes " packets=") count.packets
    (told (codes " bytes=") count.bytes
    (told (codes " left=") count.left line_end)))

-- how many words the stream has
abbrev pub slots_line : ℕ → List ℕ
slots_line slots = told (codes "slots ") slots line_end

-- what was delivered on a channel: its packets, and their bytes together
abbrev pub got_line : ℕ → ℕ → ℕ → List ℕ
got_line channel packets bytes =
    told (codes "got channel=") channel
    (told (codes " packets=") packets
    (told (codes " bytes=") bytes line_end))

-- how many fault spans there are
abbrev pub spans_line : ℕ → List ℕ
spans_line spans = told (codes "spans ") spans line_end

-- how many pieces were dropped for a reason
abbrev pub drop_text : DropWhy → ℕ → List ℕ
drop_text why count = codes " " ++ (drop_name why ++ (codes "=" ++ decimal count))

-- by the counts of all reasons in their order
abbrev pub drop_text_of : List ℕ → DropWhy → List ℕ
drop_text_of counts why = drop_text why (slice_index counts (drop_place why))

-- how many pieces were dropped for each of the reasons, given their counts in the order of the reasons
abbrev pub dropped_line : List ℕ → List ℕ
dropped_line counts = (codes "dropped" ++ flat_map (drop_text_of counts) all_drops) ++ line_end

-- the least listed channel that has bytes left at the finish
abbrev pub held_line : ℕ → List ℕ
held_line channel = told (codes "held channel=") channel line_end

-- a name, and how many of what it names there are
abbrev pub count_line : List ℕ → ℕ → List ℕ
count_line name count = name ++ (codes " " ++ (decimal count ++ line_end))

-- a number, or a stroke if there is none
abbrev pub number_or_stroke : Option ℕ → List ℕ
number_or_stroke None = codes "-"
number_or_stroke (Some n) = decimal n

-- what a lane shows: its locks, the bit position of the first declaring Sync, the locks that were lost, and the losses and
-- given-up searches before a declaration
abbrev pub lane_locks : ℕ → LaneReport → List ℕ
lane_locks lane report =
    told (codes "lane ") lane
    (told (codes " locks=") report.locks
    (codes " first=" ++ (number_or_stroke report.first ++
    (told (codes " lost=") report.lost
    (codes " unframed=" ++ decimal report.unframed)))))

-- and of the words that its locks cover those that are Bad, wrong Sync words, Scrambler State words that are not that of the
-- running key, and Diagnostic words that are not right
abbrev pub lane_words : LaneReport → List ℕ
lane_words report =
    told (codes " bad=") report.bad
    (told (codes " sync=") report.sync
    (told (codes " state=") report.state
    (told (codes " diag=") report.diag line_end)))

abbrev pub lane_line : ℕ → LaneReport → List ℕ
lane_line lane report = lane_locks lane report ++ lane_words report

-- the accidents of a replayed link: locks at no Sync that was sent, groups of Syncs that were not sent together, and stretches
-- that pass and are not as they were sent
abbrev pub accidents_line : Accidents → List ℕ
accidents_line counts =
    told (codes "accidents locks=") counts.locks
    (told (codes " groups=") counts.groups
    (told (codes " stretches=") counts.stretches line_end))

-- a sent packet that was not delivered: its channel, its number there, the slots of its first and its last word, and the number of
-- the first span that it meets
abbrev pub missing_line : Missing → List ℕ
missing_line missing =
    told (codes "missing channel=") missing.channel
    (told (codes " packet=") missing.number
    (told (codes " first=") missing.first
    (told (codes " last=") missing.last
    (told (codes " span=") missing.span line_end))))

-- what was delivered at an end of a run on a channel: its packets, their bytes together, and the most words that were queued. The end is
-- named by its letter
abbrev pub end_line : ℕ → ℕ → ℕ → ℕ → ℕ → List ℕ
end_line letter channel packets bytes peak =
    (codes "end " ++ letter ∷ []) ++
    told (codes " channel=") channel
    (told (codes " packets=") packets
    (told (codes " bytes=") bytes
    (told (codes " peak=") peak line_end)))

-- what a retransmission came to: its pieces, those that were accepted, those that are acknowledged, and how many times one was
-- sent
abbrev pub resend_line : ℕ → ℕ → ℕ → ℕ → List ℕ
resend_line pieces accepted acknowledged sent =
    told (codes "resend pieces=") pieces
    (told (codes " accepted=") accepted
    (told (codes " acknowledged=") acknowledged
    (told (codes " sent=") sent line_end)))
