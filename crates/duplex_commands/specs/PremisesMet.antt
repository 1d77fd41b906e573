-- The premises of what is said of `duplex` are met by settings with their plan and the capture of end a.
use Rattle.std.specs.Prelude.{◌≡◌, ℕ, List, [], ◌∷◌, codes, Some, Ok}
use Rattle.std.specs.FinMap.{from_entries}
use Rattle.lk_outside.specs.Files.{Files, AreBytes}
use Rattle.link_plan.specs.Default.{default_plan, default_settings}
use Rattle.link_plan.specs.Plan.{PlanValue}
use Rattle.pcap_files.specs.Written.{capture_bytes}
use Rattle.duplex_plan.specs.Duplex.{DuplexValue}
use Rattle.run_shell.specs.Outcome.{Outcome}
use Rattle.duplex_commands.specs.HeldBack.{IsHeldBack}
use Rattle.duplex_commands.specs.Reading.{DuplexReading, duplex_in}
use Rattle.duplex_commands.specs.Run.{IsDuplexed}

abbrev pub settings_name : List ℕ
settings_name = codes "d"

-- the packet of end a
abbrev pub one_to_eight : List ℕ
one_to_eight = 1 ∷ 2 ∷ 3 ∷ 4 ∷ 5 ∷ 6 ∷ 7 ∷ 8 ∷ []

abbrev pub one_capture : List ℕ
one_capture = capture_bytes 1 (one_to_eight ∷ [])

abbrev pub settings_text : List ℕ
settings_text = codes "plan,p\ndelay,10\nmark,8\nslots,200\nout,o\n"

abbrev pub plan_text : List ℕ
plan_text = codes "lanes,1\nmetaframe,32\nwarmup,4\nchannel,1,a\nout,u\n"

abbrev pub two_ends_entries : List (List ℕ × List ℕ)
two_ends_entries = (settings_name, settings_text) ∷ (codes "p", plan_text) ∷ (codes "a", one_capture) ∷ []

abbrev pub two_ends_files : Files
two_ends_files = from_entries two_ends_entries

abbrev pub two_ends_settings : DuplexValue
two_ends_settings = record { plan = codes "p"; delay = 10; mark = 8; slots = 200; drain = 1; back = []; out = codes "o" }

abbrev pub two_ends_plan : PlanValue
two_ends_plan = record default_plan {
  settings = record default_settings { lanes = 1; metaframe = 32; warmup = 4 };
  channels = record { number = 1; capture = Some (codes "a") } ∷ [];
  entries = 1 ∷ [];
  out = codes "u";
}

abbrev pub two_ends_reading : DuplexReading
two_ends_reading = record { settings = two_ends_settings; plan = two_ends_plan; packets_of_a = (1, one_to_eight) ∷ []; packets_of_b = [] }

-- the files hold bytes, are read so, and come to an outcome in which the ends hold each other back
pub record TwoEndsMeet : Type 0 where
  pub bytes : AreBytes two_ends_files
  pub read : duplex_in two_ends_files settings_name ≡ Ok two_ends_reading
  pub outcome : Outcome
  pub made : IsDuplexed two_ends_reading outcome
  pub held : IsHeldBack two_ends_reading outcome
