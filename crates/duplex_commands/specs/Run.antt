-- What `duplex FILE` means: the packets that came at each end of a run become captures.
use Rattle.std.specs.Prelude.{◌≡◌, ◌<◌, ℕ, List, [], ◌++◌, length, map, sum_by, All, Contains}
use Rattle.std.specs.List.{flat_map}
use Rattle.lk_base.specs.declared.word.Word.{Word}
use Rattle.receive_model.specs.Events.{Setting}
use Rattle.pcap_files.specs.Written.{capture_bytes}
use Rattle.link_plan.specs.Listing.{channels_in_order}
use Rattle.link_plan.specs.Views.{numbers_in}
use Rattle.link_reports.specs.Lines.{end_line, slots_line}
use Rattle.duplex_plan.specs.Duplex.{DuplexValue}
use Rattle.duplex_model.specs.DuplexRun.{Settings, AreSettings, Ends, alone, IsDuplexRun, peak}
use Rattle.duplex_model.specs.Came.{came}
use Rattle.plan_inputs.specs.Inputs.{Inputs}
use Rattle.plan_inputs.specs.Sources.{IsSourceOf}
use Rattle.receipts.specs.Received.{bytes_of}
use Rattle.pcap_files.specs.Names.{capture_name}
use Rattle.receipts.specs.Settings.{IsSettingOf}
use Rattle.run_shell.specs.declared.status.Status.TheVariants.{Done}
use Rattle.run_shell.specs.Outcome.{Output, Outcome}
use Rattle.run_shell.specs.Meaning.{Meaning}
use Rattle.run_shell.specs.Work.{Work, meaning_by}
use Rattle.duplex_commands.specs.Names.{prefix_of_a, prefix_of_b}
use Rattle.duplex_commands.specs.Reading.{DuplexReading, duplex_in, IsReadFor}

-- ---- the run

-- each of these packets is of bytes
abbrev pub AreOfBytes : List (ℕ × List ℕ) → Type 0
AreOfBytes packets = All (λ (p : ℕ × List ℕ). All (λ byte. byte < 256) p.1) packets

abbrev pub run_settings : DuplexValue → Settings
run_settings settings = record { delay = settings.delay; mark = settings.mark; drain = settings.drain; slots = settings.slots }

-- packets alone, without a flow file and a local file
abbrev pub packets_alone : List (ℕ × List ℕ) → Inputs
packets_alone packets = record { packets = packets; flow = []; local = [] }

-- the ends have the shape, the channels and the calendar of the plan, and these packets
pub record AreEndsOf (r : DuplexReading) (ends : Ends) : Type 0 where
  pub a : IsSourceOf r.plan (packets_alone r.packets_of_a) (alone ends ends.packets_of_a)
  pub b : IsSourceOf r.plan (packets_alone r.packets_of_b) (alone ends ends.packets_of_b)

-- ---- what came at an end, where the other sent these words

-- the packets of a channel
abbrev pub came_on : DuplexReading → Setting → List Word → ℕ → List (List ℕ)
came_on r setting sent channel = bytes_of (came (run_settings r.settings) setting sent channel r.settings.slots)

-- their capture, under a name that begins so
abbrev pub end_file : DuplexReading → Setting → List ℕ → List Word → ℕ → Output
end_file r setting prefix sent channel = record { name = capture_name prefix channel; content = capture_bytes r.plan.link_type (came_on r setting sent channel) }

-- the captures of the channels by number
abbrev pub end_files : DuplexReading → Setting → List ℕ → List Word → List Output
end_files r setting prefix sent = map (end_file r setting prefix sent) setting.channels

-- the line of a channel at the end of this letter
abbrev pub channel_line : DuplexReading → Setting → ℕ → List Word → ℕ → List ℕ
channel_line r setting letter sent channel =
    end_line letter channel (length (came_on r setting sent channel)) (sum_by length (came_on r setting sent channel)) (peak (run_settings r.settings) sent channel r.settings.slots)

-- the lines of the channels by number
abbrev pub end_text : DuplexReading → Setting → ℕ → List Word → List ℕ
end_text r setting letter sent = flat_map (channel_line r setting letter sent) setting.channels

-- ---- the outcome

-- what end a got of the words b, then what end b got of the words a, and how many slots there were
abbrev pub duplex_outcome : DuplexReading → Setting → List Word → List Word → Outcome
duplex_outcome r setting a b = record {
  status = Done;
  files = end_files r setting (prefix_of_a r.settings.out) b ++ end_files r setting (prefix_of_b r.settings.out) a;
  text = end_text r setting 97 b ++ (end_text r setting 98 a ++ slots_line r.settings.slots);
}

-- the ends sent these words in the run of what was read, whose packets are of bytes
pub record IsRunFor (r : DuplexReading) (a b : List Word) : Type 0 where
  pub keeps : AreSettings (run_settings r.settings)
  pub ends : Ends
  pub are : AreEndsOf r ends
  pub run : IsDuplexRun (run_settings r.settings) ends a b
  pub bytes_of_a : AreOfBytes r.packets_of_a
  pub bytes_of_b : AreOfBytes r.packets_of_b

-- what the run comes to
abbrev pub IsDuplexed : DuplexReading → Outcome → Type 0
IsDuplexed r o = (a b : List Word) × IsRunFor r a b × ((setting : Setting) × IsSettingOf r.plan setting × (o ≡ duplex_outcome r setting a b))

-- the names of the captures of end a by number, and then those of end b
abbrev pub duplex_names : DuplexReading → List (List ℕ)
duplex_names r =
    map (capture_name (prefix_of_a r.settings.out)) (channels_in_order (numbers_in r.plan))
    ++ map (capture_name (prefix_of_b r.settings.out)) (channels_in_order (numbers_in r.plan))

-- The packets that came at each end of the run become the captures of the plan's channels by number, of its link type, under
-- names that begin with the `out` of FILE: first those of end a, then those of end b. No stream is held.
abbrev pub duplex_work : List ℕ → Work
duplex_work name = record {
  Inputs = DuplexReading;
  inputs_in = λ files. duplex_in files name;
  IsMade = IsDuplexed;
  IsHeld = λ r. ⊥;
  Creates = λ r q. Contains (duplex_names r) q;
  Names = IsReadFor name;
  IsReadLate = λ files q. ⊥;
}

abbrev pub duplex_meaning : List ℕ → Meaning
duplex_meaning name = meaning_by (duplex_work name)
