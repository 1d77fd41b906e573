-- What `duplex FILE` reads: the settings of the run, the plan of both ends, and the captures of each.
use Rattle.std.specs.Prelude.{◌≡◌, ◌⊎◌, ℕ, ◌-◌, List, [], ◌∷◌, map, Option, Some, None, Result, Ok, Err, MatchResult, if◌then◌else◌}
use Rattle.lk_base.specs.Limits.{capture_limit, plan_limit}
use Rattle.lk_outside.specs.Files.{Files}
use Rattle.csv_rows.specs.Rows.{rows_of}
use Rattle.link_plan.specs.Plan.{Listed, PlanValue, plan_of}
use Rattle.link_plan.specs.Listing.{is_listed}
use Rattle.link_plan.specs.Views.{numbers_in}
use Rattle.plan_errors.specs.declared.error.PlanError.{PlanError}
use Rattle.plan_errors.specs.declared.error.PlanError.TheVariants.{Clash}
use Rattle.duplex_plan.specs.Duplex.{BackValue, DuplexValue, duplex_of}
use Rattle.plan_inputs.specs.Inputs.{rows_by, packets_in, capture_sizes, IsCapture}
use Rattle.run_stops.specs.Reading.{Refusal, of_plan, behind, bytes_in, plan_bytes}

-- ---- the settings

abbrev pub settings_by : Result DuplexValue PlanError → Result DuplexValue Refusal
settings_by (Ok settings) = Ok settings
settings_by (Err why) = Err (of_plan why)

-- the settings in the file of this name, or why it is refused: it is absent, too large, or its rows are
unfoldable pub settings_in : Files → List ℕ → Result DuplexValue Refusal
settings_in files name = behind (plan_bytes files name plan_limit) (λ bytes. settings_by (duplex_of (rows_of bytes)))

-- ---- the plan

-- the plan of both ends, which is an input, in the file of this name; or why it is refused
unfoldable pub shared_plan_in : Files → List ℕ → Result PlanValue Refusal
shared_plan_in files name = behind (bytes_in files name plan_limit) (λ bytes. rows_by name (plan_of (rows_of bytes)))

-- ---- the channels of end b

-- the number of the first row with a capture of end b whose channel is not listed; these numbers rise
unfoldable pub first_unlisted : List ℕ → List BackValue → Option ℕ
first_unlisted numbers [] = None
first_unlisted numbers (b ∷ rest) = if is_listed numbers b.channel then first_unlisted numbers rest else Some b.row

-- the channels of end b with their captures, in the order of their rows
abbrev pub backs : List BackValue → List Listed
backs back = map (λ (b : BackValue). record { number = b.channel; capture = Some b.capture }) back

-- these, where no row has a channel that is not listed; else the least of those rows clashes
abbrev pub unless_unlisted : List BackValue → Option ℕ → Result (List Listed) Refusal
unless_unlisted back None = Ok (backs back)
unless_unlisted back (Some row) = Err (of_plan (Clash row))

abbrev pub back_channels : PlanValue → List BackValue → Result (List Listed) Refusal
back_channels plan back = unless_unlisted back (first_unlisted (numbers_in plan) back)

-- ---- the captures

-- how many bytes all captures together may have after those of these channels
abbrev pub room_after : Files → List Listed → ℕ
room_after files channels = capture_limit - capture_sizes files channels

-- ---- all

-- the settings of a run, the plan of both ends, and what each end sends: its packets, each with the number of its channel
pub record DuplexReading : Type 0 where
  pub settings : DuplexValue
  pub plan : PlanValue
  pub packets_of_a : List (ℕ × List ℕ)
  pub packets_of_b : List (ℕ × List ℕ)

-- the captures of end a as the plan names them, and then those of end b
abbrev pub with_captures : Files → DuplexValue → PlanValue → List Listed → Result DuplexReading Refusal
with_captures files settings plan back =
    behind (packets_in files plan.settings.max_packet capture_limit plan.channels) (λ a.
    behind (packets_in files plan.settings.max_packet (room_after files plan.channels) back) (λ b.
    Ok (record { settings = settings; plan = plan; packets_of_a = a; packets_of_b = b })))

abbrev pub with_plan : Files → DuplexValue → PlanValue → Result DuplexReading Refusal
with_plan files settings plan = behind (back_channels plan settings.back) (with_captures files settings plan)

abbrev pub with_settings : Files → DuplexValue → Result DuplexReading Refusal
with_settings files settings = behind (shared_plan_in files settings.plan) (with_plan files settings)

-- the settings in the file of this name, after them the plan, and after it the captures; or the first that is refused
unfoldable pub duplex_in : Files → List ℕ → Result DuplexReading Refusal
duplex_in files name = behind (settings_in files name) (with_settings files)

-- what is read after the plan, where no row of end b clashes: a capture of end a, or one of end b
abbrev pub IsReadAfter : DuplexValue → PlanValue → List ℕ → Type 0
IsReadAfter settings plan q = MatchResult (back_channels plan settings.back) (λ back. IsCapture plan.channels q ⊎ IsCapture back q) (λ r. ⊥)

-- what is read for settings: the plan, and where it is accepted the captures
abbrev pub IsReadBy : DuplexValue → Files → List ℕ → Type 0
IsReadBy settings files q = (q ≡ settings.plan) ⊎ MatchResult (shared_plan_in files settings.plan) (λ plan. IsReadAfter settings plan q) (λ r. ⊥)

-- what is read for FILE: itself, and where it is accepted what is read for its settings
abbrev pub IsReadFor : List ℕ → Files → List ℕ → Type 0
IsReadFor name files q = (q ≡ name) ⊎ MatchResult (settings_in files name) (λ settings. IsReadBy settings files q) (λ r. ⊥)
