-- What a run of both ends comes to.
use Rattle.std.specs.Prelude.{◌≡◌, ℕ, List, ◌++◌, length, map, sum_by}
use Rattle.std.specs.List.{flat_map}
use Rattle.lk_base.specs.declared.word.Word.{Word}
use Rattle.pcap_files.specs.Written.{capture_bytes}
use Rattle.link_reports.specs.Lines.{end_line, slots_line}
use Rattle.duplex_model.specs.DuplexRun.{Settings, Ends, IsDuplexRun, peak}
use Rattle.duplex_model.specs.Came.{came}
use Rattle.duplex.specs.declared.duplex.End.{End}
use Rattle.duplex.specs.declared.duplex.End.TheVariants.{A, B}
use Rattle.receipts.specs.Received.{bytes_of}
use Rattle.pcap_files.specs.Names.{capture_name}
use Rattle.receipts.specs.declared.receipt.ChannelReceipt.{ChannelReceipt}
use Rattle.run_shell.specs.declared.status.Status.TheVariants.{Done}
use Rattle.run_shell.specs.Outcome.{Output, Outcome}
use Rattle.duplex_commands.specs.Names.{prefix_of_a, prefix_of_b}
use Rattle.duplex_commands.specs.Captures.{Beginning}

-- the packets of a channel that came at an end in the whole run, where the other sent these words
abbrev pub packets_on : Beginning → Settings → List Word → ℕ → List (List ℕ)
packets_on b settings sent channel = bytes_of (came settings b.setting sent channel settings.slots)

-- their captures by number, under names that begin so
abbrev pub files_under : Beginning → Settings → List ℕ → List Word → List Output
files_under b settings prefix sent =
    map (λ channel. record { name = capture_name prefix channel; content = capture_bytes b.link_type (packets_on b settings sent channel) }) b.setting.channels

-- the letter of an end
abbrev pub letter_of : End → ℕ
letter_of A = 97
letter_of B = 98

-- what is reported of the channels by number, of the end of this letter
abbrev pub text_under : Beginning → Settings → ℕ → List Word → List ℕ
text_under b settings letter sent =
    flat_map (λ channel. end_line letter channel (length (packets_on b settings sent channel)) (sum_by length (packets_on b settings sent channel)) (peak settings sent channel settings.slots)) b.setting.channels

-- the line of what was counted for a channel
abbrev pub counted_line : ℕ → Settings → List Word → ℕ → ChannelReceipt → List ℕ
counted_line letter settings sent slots c = end_line letter c.channel c.packets c.bytes (peak settings sent c.channel slots)

-- the lines of both ends, and how many slots there were
abbrev pub run_text : Beginning → Settings → List Word → List Word → List ℕ
run_text b settings from_a from_b = text_under b settings (letter_of A) from_b ++ (text_under b settings (letter_of B) from_a ++ slots_line settings.slots)

abbrev pub run_outcome : Beginning → Settings → List Word → List Word → Outcome
run_outcome b settings from_a from_b = record {
  status = Done;
  files = files_under b settings (prefix_of_a b.out) from_b ++ files_under b settings (prefix_of_b b.out) from_a;
  text = run_text b settings from_a from_b;
}

-- what the run comes to
abbrev pub IsEnded : Beginning → Settings → Ends → Outcome → Type 0
IsEnded b settings ends o = (from_a from_b : List Word) × IsDuplexRun settings ends from_a from_b × (o ≡ run_outcome b settings from_a from_b)
