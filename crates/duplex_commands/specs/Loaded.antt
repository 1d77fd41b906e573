-- What was read, ready to run.
use Rattle.std.specs.Prelude.{ℕ, ◌≤◌, List, [], ◌++◌}
use Rattle.lk_base.specs.Limits.{capture_limit, longest_packet}
use Rattle.receive_model.specs.Events.{Setting}
use Rattle.duplex_model.specs.DuplexRun.{Ends}
use Rattle.duplex.specs.Duplexes.{Waits, HasGot, IsGiven}
use Rattle.duplex.specs.declared.duplex.Duplex.{Duplex}
use Rattle.duplex.specs.declared.duplex.End.{End}
use Rattle.duplex.specs.declared.duplex.End.TheVariants.{A, B}
use Rattle.plan_inputs.specs.Values.{size_of, AreOn}
use Rattle.receipts.specs.Settings.{IsSettingOf}
use Rattle.duplex_commands.specs.Reading.{DuplexReading}
use Rattle.duplex_commands.specs.Run.{run_settings, AreEndsOf, AreOfBytes}

-- What the inputs of a run with these listed channels keep: each packet is on one of them, and the packets of an end have
-- together no more bytes than all captures may have.
pub record FitEnds (channels : List ℕ) (packets_of_a packets_of_b : List (ℕ × List ℕ)) : Type 0 where
  pub on_a : AreOn channels packets_of_a
  pub on_b : AreOn channels packets_of_b
  pub size_a : size_of packets_of_a ≤ capture_limit
  pub size_b : size_of packets_of_b ≤ capture_limit

-- more packets of an end
abbrev pub all_added : Ends → End → List (ℕ × List ℕ) → Ends
all_added ends A packets = record ends { packets_of_a = ends.packets_of_a ++ packets }
all_added ends B packets = record ends { packets_of_b = ends.packets_of_b ++ packets }

-- the run of what was read, before its first slot; what is lent to it is bytes
pub record IsLoaded (r : DuplexReading) (d : Duplex) : Type 0 where
  pub ends : Ends
  pub are : AreEndsOf r ends
  pub waits : Waits d (run_settings r.settings) ends
  pub given : IsGiven d
  pub got : (setting : Setting) → IsSettingOf r.plan setting → HasGot d setting (run_settings r.settings) 0 [] [] [] []
  pub fits : r.plan.settings.max_packet ≤ longest_packet
  pub bytes_of_a : AreOfBytes r.packets_of_a
  pub bytes_of_b : AreOfBytes r.packets_of_b
