-- The captures of both ends, which grow while packets come.
use Rattle.std.specs.Prelude.{◌≡◌, ℕ, ◌≤◌, List, [], ◌∷◌, ◌++◌, length, map, Option, Result, Ok, Err, Contains}
use Rattle.lk_outside.specs.Files.{Files, Told}
use Rattle.receive_model.specs.Pieces.{Packet}
use Rattle.receive_model.specs.Events.{Event, Setting, Delivered}
use Rattle.duplex.specs.declared.duplex.End.{End}
use Rattle.duplex.specs.declared.duplex.End.TheVariants.{A, B}
use Rattle.run_stops.specs.declared.stop.Stop.{Stop}
use Rattle.run_shell.specs.Outcome.{HoldsPart}
use Rattle.run_stops.specs.Stops.{IsOfStore}
use Rattle.run_shell.specs.Outputs.{Differ, IsOpen, open_names, outs}
use Rattle.receipts.specs.Receipts.{capture_of, counts_of}
use Rattle.duplex_commands.specs.Names.{names_by}
use Rattle.duplex_commands.specs.declared.captures.Captures.{Captures}

-- what the captures begin with: the setting by which each end receives, their link type, what their names begin with, and the
-- files before they were created
pub record Beginning : Type 0 where
  pub setting : Setting
  pub link_type : ℕ
  pub out : List ℕ
  pub was : Option Files

abbrev pub names_of : Beginning → List (List ℕ)
names_of b = names_by b.out b.setting.channels

-- packets that were given, each with its channel, as outputs of a receiver
abbrev pub outputs_of : List (ℕ × Packet) → List Event
outputs_of got = map (λ (p : ℕ × Packet). Delivered p.0 p.1) got

-- the captures of an end by number, of the packets that were given at it
abbrev pub end_given : Beginning → List (ℕ × Packet) → List (List ℕ)
end_given b got = map (capture_of b.link_type (outputs_of got)) b.setting.channels

-- those of end a, and then those of end b
abbrev pub given_of : Beginning → List (ℕ × Packet) → List (ℕ × Packet) → List (List ℕ)
given_of b got_a got_b = end_given b got_a ++ end_given b got_b

-- these packets came at each end, and no others; there are few channels
pub record AreKept (b : Beginning) (got_a got_b : List (ℕ × Packet)) (c : Captures) (now : Option Files) : Type 0 where
  pub few : length b.setting.channels ≤ 1024
  pub names : open_names c.outputs ≡ names_of b
  pub differ : Differ (open_names c.outputs)
  pub given : IsOpen c.outputs (given_of b got_a got_b) b.was now
  pub counts_a : c.a.items ≡ map (counts_of (outputs_of got_a)) b.setting.channels
  pub counts_b : c.b.items ≡ map (counts_of (outputs_of got_b)) b.setting.channels

-- the store or memory stopped the work, and of the captures of these packets a part stands
pub record IsBroken (b : Beginning) (got_a got_b : List (ℕ × Packet)) (s : Stop) (now : Option Files) : Type 0 where
  pub by_store : IsOfStore (Contains (names_of b)) s
  pub part : Told b.was now (HoldsPart (outs (names_of b) (given_of b got_a got_b)))

-- these packets came, or something stopped them
abbrev pub Keeps : {T : Type 0} → Beginning → List (ℕ × Packet) → List (ℕ × Packet) → Result T Stop → Captures → Option Files → Type 0
Keeps b got_a got_b (Ok _) c now = AreKept b got_a got_b c now
Keeps b got_a got_b (Err s) c now = IsBroken b got_a got_b s now

-- the captures are made and no packet came yet, or something stopped their making
abbrev pub Opens : Beginning → Result Captures Stop → Option Files → Type 0
Opens b (Ok c) now = AreKept b [] [] c now
Opens b (Err s) now = IsBroken b [] [] s now

-- the packets that were given at a, and those that were given at b, with one more at this end
abbrev pub more_at_a : End → ℕ → Packet → List (ℕ × Packet) → List (ℕ × Packet)
more_at_a A channel packet got = got ++ (channel, packet) ∷ []
more_at_a B channel packet got = got

abbrev pub more_at_b : End → ℕ → Packet → List (ℕ × Packet) → List (ℕ × Packet)
more_at_b A channel packet got = got
more_at_b B channel packet got = got ++ (channel, packet) ∷ []
