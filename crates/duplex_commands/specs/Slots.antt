-- How far a run has come: slots were done, and the packets that arrived were put into the captures.
use Rattle.std.specs.Prelude.{◌≡◌, ℕ, ◌≤◌, List, ◌++◌, Option, Result, Ok, Err, Contains}
use Rattle.lk_base.specs.Limits.{longest_packet}
use Rattle.lk_base.specs.declared.word.Word.{Word}
use Rattle.lk_outside.specs.Files.{Files, Told}
use Rattle.receive_model.specs.Pieces.{Packet}
use Rattle.receive_model.specs.Events.{Setting}
use Rattle.duplex_model.specs.DuplexRun.{Settings, AreSettings, Ends, IsRunOf}
use Rattle.duplex_model.specs.Came.{came}
use Rattle.duplex.specs.Inboxes.{on_channel}
use Rattle.duplex.specs.Duplexes.{Runs, HasGot}
use Rattle.duplex.specs.declared.duplex.Duplex.{Duplex}
use Rattle.run_stops.specs.declared.stop.Stop.{Stop}
use Rattle.run_shell.specs.Outcome.{HoldsPart}
use Rattle.run_stops.specs.Stops.{IsOfStore}
use Rattle.run_shell.specs.Outputs.{outs}
use Rattle.duplex_commands.specs.declared.captures.Captures.{Captures}
use Rattle.duplex_commands.specs.Captures.{Beginning, AreKept, names_of, given_of}

-- this many slots of the run were done, and these captures have the packets that were given
pub record IsAt (b : Beginning) (settings : Settings) (ends : Ends) (slots : ℕ) (d : Duplex) (c : Captures) (now : Option Files) : Type 0 where
  pub from_a : List Word
  pub from_b : List Word
  pub got_a : List (ℕ × Packet)
  pub got_b : List (ℕ × Packet)
  pub runs : Runs d settings ends slots from_a from_b
  pub has : HasGot d b.setting settings slots from_a from_b got_a got_b
  pub kept : AreKept b got_a got_b c now
  pub fits : b.setting.max_packet ≤ longest_packet

-- on each channel these are the first of the packets that came in this many slots
abbrev pub AreFirst : Settings → Setting → List Word → ℕ → List (ℕ × Packet) → Type 0
AreFirst settings setting sent slots got = (channel : ℕ) → (rest : List Packet) × (came settings setting sent channel slots ≡ on_channel channel got ++ rest)

-- the run was stopped within this many slots: of the captures of the first packets that came a part stands
pub record IsCut (b : Beginning) (settings : Settings) (ends : Ends) (most : ℕ) (s : Stop) (now : Option Files) : Type 0 where
  pub keeps : AreSettings settings
  pub by_store : IsOfStore (Contains (names_of b)) s
  pub slots : ℕ
  pub within : slots ≤ most
  pub from_a : List Word
  pub from_b : List Word
  pub run : IsRunOf settings ends slots from_a from_b
  pub got_a : List (ℕ × Packet)
  pub got_b : List (ℕ × Packet)
  pub first_a : AreFirst settings b.setting from_b slots got_a
  pub first_b : AreFirst settings b.setting from_a slots got_b
  pub part : Told b.was now (HoldsPart (outs (names_of b) (given_of b got_a got_b)))

-- this many slots of the run were done, or it was stopped within them
abbrev pub Takes : {T : Type 0} → Beginning → Settings → Ends → ℕ → Result T Stop → Duplex → Captures → Option Files → Type 0
Takes b settings ends slots (Ok _) d c now = IsAt b settings ends slots d c now
Takes b settings ends slots (Err s) d c now = IsCut b settings ends slots s now
