-- What was read, part by part: the settings are in their ranges, the plan keeps what plans keep, and the packets are of bytes.
use Rattle.std.proofs.Common.{◌≡◌, ℕ, List, ap, subst, Result, Ok, Err}
use Rattle.lk_base.specs.Limits.{capture_limit, plan_limit}
use Rattle.lk_outside.specs.Files.{Files, AreBytes}
use Rattle.csv_rows.specs.Rows.{rows_of}
use Rattle.link_plan.specs.Plan.{Listed, PlanValue, plan_of}
use Rattle.plan_errors.specs.declared.error.PlanError.{PlanError}
use Rattle.duplex_plan.specs.Duplex.{DuplexValue, duplex_of}
use Rattle.duplex_plan.specs.Ranges.{AreInRange}
use Rattle.duplex_plan.proofs.InRange.{in_range}
use Rattle.run_stops.specs.Reading.{behind, bytes_in, plan_bytes}
use Rattle.run_stops.proofs.Readings.{behind_ok}
use Rattle.plan_inputs.specs.Inputs.{rows_by, packets_in}
use Rattle.plan_inputs.proofs.SomeSource.{Keeps, rows_keep}
use Rattle.plan_inputs.proofs.PlanStream.{AreFit, channels_fit}
use Rattle.duplex_commands.specs.Reading.{DuplexReading, settings_by, settings_in, shared_plan_in, back_channels, room_after, with_captures, with_plan, with_settings, duplex_in}
use Rattle.duplex_commands.proofs.Sized.{AreSized, packets_sized}

settings_by_ok : (r : Result DuplexValue PlanError) (settings : DuplexValue) → settings_by r ≡ Ok settings → r ≡ Ok settings
settings_by_ok (Ok s) settings e = let same : s ≡ settings = cc e in ap Ok same
settings_by_ok (Err why) settings e = absurd (cc e)

settings_fit : (files : Files) (name : List ℕ) (settings : DuplexValue) → settings_in files name ≡ Ok settings → AreInRange settings
unfolding settings_in
settings_fit files name settings e =
    let (bytes, had, is) = behind_ok (plan_bytes files name plan_limit) (λ b. settings_by (duplex_of (rows_of b))) settings e in
    in_range (rows_of bytes) settings (settings_by_ok (duplex_of (rows_of bytes)) settings is)

rows_by_ok : (name : List ℕ) (r : Result PlanValue PlanError) (plan : PlanValue) → rows_by name r ≡ Ok plan → r ≡ Ok plan
rows_by_ok name (Ok p) plan e = let same : p ≡ plan = cc e in ap Ok same
rows_by_ok name (Err why) plan e = absurd (cc e)

plan_keeps : (files : Files) (name : List ℕ) (plan : PlanValue) → shared_plan_in files name ≡ Ok plan → Keeps plan
unfolding shared_plan_in
plan_keeps files name plan e =
    let (bytes, had, is) = behind_ok (bytes_in files name plan_limit) (λ b. rows_by name (plan_of (rows_of b))) plan e in
    rows_keep (rows_of bytes) plan (rows_by_ok name (plan_of (rows_of bytes)) plan is)

-- each part was read from the files
record AreRead (files : Files) (name : List ℕ) (r : DuplexReading) : Type 0 where
  settings : settings_in files name ≡ Ok r.settings
  plan : shared_plan_in files r.settings.plan ≡ Ok r.plan
  back : List Listed
  a : packets_in files r.plan.settings.max_packet capture_limit r.plan.channels ≡ Ok r.packets_of_a
  b : packets_in files r.plan.settings.max_packet (room_after files r.plan.channels) back ≡ Ok r.packets_of_b

are_read : (files : Files) (name : List ℕ) (r : DuplexReading) → duplex_in files name ≡ Ok r → AreRead files name r
unfolding duplex_in
are_read files name r e =
    let (settings, had, next) = behind_ok (settings_in files name) (with_settings files) r e in
    let (plan, planned, then) = behind_ok (shared_plan_in files settings.plan) (with_plan files settings) r next in
    let (back, listed, last) = behind_ok (back_channels plan settings.back) (with_captures files settings plan) r then in
    let (a, first, behind_a) = behind_ok (packets_in files plan.settings.max_packet capture_limit plan.channels) (λ x. behind (packets_in files plan.settings.max_packet (room_after files plan.channels) back) (λ y. Ok (record { settings = settings; plan = plan; packets_of_a = x; packets_of_b = y }))) r last in
    let (b, second, all) = behind_ok (packets_in files plan.settings.max_packet (room_after files plan.channels) back) (λ y. Ok (record { settings = settings; plan = plan; packets_of_a = a; packets_of_b = y })) r behind_a in
    let same : record { settings = settings; plan = plan; packets_of_a = a; packets_of_b = b } ≡ r = cc all in
    subst (AreRead files name) same (record { settings = had; plan = planned; back = back; a = first; b = second })

-- the plan that was read keeps what plans keep, whatever the files hold
pub plan_part : (files : Files) (name : List ℕ) (r : DuplexReading) → duplex_in files name ≡ Ok r → Keeps r.plan
plan_part files name r e = let read = are_read files name r e in plan_keeps files r.settings.plan r.plan read.plan

-- the packets that were read have the lengths of packets, whatever the files hold
pub sized_part : (files : Files) (name : List ℕ) (r : DuplexReading) → duplex_in files name ≡ Ok r → AreSized r.plan.settings.max_packet r.packets_of_a × AreSized r.plan.settings.max_packet r.packets_of_b
sized_part files name r e = let read = are_read files name r e in (
  packets_sized files r.plan.settings.max_packet capture_limit r.plan.channels r.packets_of_a read.a,
  packets_sized files r.plan.settings.max_packet (room_after files r.plan.channels) read.back r.packets_of_b read.b,
)

-- what is known of what was read, where the files hold bytes
pub record AreParts (r : DuplexReading) : Type 0 where
  pub settings : AreInRange r.settings
  pub plan : Keeps r.plan
  pub a : AreFit r.plan.settings.max_packet r.packets_of_a
  pub b : AreFit r.plan.settings.max_packet r.packets_of_b

pub parts_of : (files : Files) (name : List ℕ) (r : DuplexReading) → AreBytes files → duplex_in files name ≡ Ok r → AreParts r
parts_of files name r are e = let read = are_read files name r e in record {
  settings = settings_fit files name r.settings read.settings;
  plan = plan_keeps files r.settings.plan r.plan read.plan;
  a = channels_fit files are r.plan.settings.max_packet capture_limit r.plan.channels r.packets_of_a read.a;
  b = channels_fit files are r.plan.settings.max_packet (room_after files r.plan.channels) read.back r.packets_of_b read.b;
}
