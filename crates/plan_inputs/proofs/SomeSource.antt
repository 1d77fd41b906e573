-- An accepted plan has a source.
use Rattle.std.proofs.Common.{◌≡◌, true, ℕ, ◌-◌, ◌*◌, ◌%◌, ◌≤◌, List, [], refl, ap, subst, arith, Option, Some, None, Result, Ok, Err}
use Rattle.std.proofs.lemmas.Nat.{mul-le}
use Rattle.std.proofs.Math.Nat.{one-le-mul}
use Rattle.lk_base.specs.Link.{IsLink, group_of}
use Rattle.lk_base.specs.Limits.{plan_limit}
use Rattle.lk_base.specs.declared.shape.Shape.{Shape}
use Rattle.lk_outside.specs.Files.{Files}
use Rattle.csv_rows.specs.Rows.{Row, rows_of}
use Rattle.csv_rows.specs.Checked.{first_fault}
use Rattle.csv_rows.specs.declared.items.RowFault.{RowFault}
use Rattle.link_plan.specs.Keys.{keys}
use Rattle.link_plan.specs.Listing.{fit_width, channels_in_order}
use Rattle.link_plan.specs.Plan.{PlanValue, plan_of, plan_from, said_by, missing, first_clash, unless_clash, unless_missing, unless_fault}
use Rattle.link_plan.specs.Views.{numbers_in}
use Rattle.plan_errors.specs.declared.error.Key.{Key}
use Rattle.plan_errors.specs.declared.error.PlanError.{PlanError}
use Rattle.link_plan.proofs.Links.{settings-limits, burst_min-whole, min-below, window-range}
use Rattle.link_plan.proofs.Whole.{KeepsValue, listed-fit, value-keeps}
use Rattle.run_stops.specs.Reading.{plan_bytes}
use Rattle.run_stops.proofs.Readings.{behind_ok}
use Rattle.stream_model.specs.BurstStream.{Source}
use Rattle.plan_inputs.specs.Inputs.{Inputs, plan_by, plan_in}
use Rattle.plan_inputs.specs.Sources.{IsShapeOf, IsSourceOf}

-- ---- the settings of an accepted plan

no_clash : (rows : List Row) (plan : PlanValue) (c : Option ℕ) → unless_clash rows c ≡ Ok plan → (c ≡ None) × (plan_from rows ≡ plan)
no_clash rows plan None e = (refl, cc)
no_clash rows plan (Some n) e = absurd cc

no_missing : (rows : List Row) (plan : PlanValue) (m : Option Key) → unless_missing rows m ≡ Ok plan → (m ≡ None) × (unless_clash rows (first_clash (said_by rows) 1 (said_by rows)) ≡ Ok plan)
no_missing rows plan None e = (refl, e)
no_missing rows plan (Some key) e = absurd cc

no_fault : (rows : List Row) (plan : PlanValue) (f : Option (ℕ × RowFault)) → unless_fault rows f ≡ Ok plan → (f ≡ None) × (unless_missing rows (missing (said_by rows)) ≡ Ok plan)
no_fault rows plan None e = (refl, e)
no_fault rows plan (Some f) e = absurd cc

-- what an accepted plan keeps
pub record Keeps (plan : PlanValue) : Type 0 where
  pub link : IsLink plan.settings
  pub least_whole : plan.burst_min % 32 ≡ 0
  pub least_high : 2 * plan.burst_min ≤ plan.settings.burst_max
  pub in_width : fit_width plan.wide (numbers_in plan) ≡ true
  pub calendar : KeepsValue plan
  pub window : (1 ≤ plan.window) × (plan.window ≤ 255)

from_limits : (rows : List Row) → first_fault keys [] rows ≡ None → missing (said_by rows) ≡ None → first_clash (said_by rows) 1 (said_by rows) ≡ None → Keeps (plan_from rows)
unfolding plan_from
from_limits rows f m c = record {
  link = settings-limits (said_by rows) (rows, refl) m c;
  least_whole = burst_min-whole (said_by rows) (rows, refl);
  least_high = min-below (said_by rows) c;
  in_width = listed-fit rows c;
  calendar = value-keeps rows f m c;
  window = window-range (said_by rows) (rows, refl);
}

pub rows_keep : (rows : List Row) (plan : PlanValue) → plan_of rows ≡ Ok plan → Keeps plan
unfolding plan_of
rows_keep rows plan e =
    let (f, whole) = no_fault rows plan (first_fault keys [] rows) e in
    let (m, clear) = no_missing rows plan (missing (said_by rows)) whole in
    let (c, is) = no_clash rows plan (first_clash (said_by rows) 1 (said_by rows)) clear in
    subst Keeps is (from_limits rows f m c)

told_ok : (r : Result PlanValue PlanError) (plan : PlanValue) → plan_by r ≡ Ok plan → r ≡ Ok plan
told_ok (Ok p) plan e = let same : p ≡ plan = cc in ap Ok same
told_ok (Err why) plan e = absurd cc

pub plan_keeps : (files : Files) (name : List ℕ) (plan : PlanValue) → plan_in files name ≡ Ok plan → Keeps plan
unfolding plan_in
plan_keeps files name plan e =
    let (bytes, had, is) = behind_ok (plan_bytes files name plan_limit) (λ b. plan_by (plan_of (rows_of b))) plan e in
    rows_keep (rows_of bytes) plan (told_ok (plan_of (rows_of bytes)) plan is)

pub plan_limits : (files : Files) (name : List ℕ) (plan : PlanValue) → plan_in files name ≡ Ok plan → IsLink plan.settings
plan_limits files name plan e = (plan_keeps files name plan e).link

-- ---- the shape of a link

group_least : (lanes metaframe skips : ℕ) → 1 ≤ lanes → 32 ≤ metaframe → skips ≤ 4 → 1 ≤ lanes * (metaframe - skips - 3)
group_least lanes metaframe skips l m s = one-le-mul l (omega (arith, m, s))

group_most : (lanes metaframe skips : ℕ) → lanes ≤ 64 → metaframe ≤ 8192 → lanes * (metaframe - skips - 3) ≤ 1048576
group_most lanes metaframe skips l m = let h = mul-le lanes (metaframe - skips - 3) 64 8192 l (omega (arith, m)) in omega (arith, h)

pub shape_of : (plan : PlanValue) → Keeps plan → (shape : Shape) × IsShapeOf plan shape
shape_of plan keeps =
    let s = plan.settings in
    let link = keeps.link in (
      record {
        burst_max = s.burst_max;
        burst_short = s.burst_short;
        burst_min = plan.burst_min;
        group = group_of s;
        warmup = s.warmup;
        burst_max_whole = link.burst_max.2;
        burst_max_low = link.burst_max.0;
        burst_max_high = link.burst_max.1;
        burst_short_whole = link.burst_short.2;
        burst_short_low = link.burst_short.0;
        burst_short_high = link.short_below_max;
        burst_min_whole = keeps.least_whole;
        burst_min_high = keeps.least_high;
        group_low = group_least s.lanes s.metaframe s.skips link.lanes.0 link.metaframe.0 link.skips.1;
        group_high = group_most s.lanes s.metaframe s.skips link.lanes.1 link.metaframe.1;
        warmup_low = (let w = link.warmup.0 in omega (arith, w));
        warmup_high = link.warmup.1;
      },
      record { burst_max = refl; burst_short = refl; burst_min = refl; group = refl; warmup = refl },
    )

pub some_source : (files : Files) (name : List ℕ) (plan : PlanValue) (inputs : Inputs) → plan_in files name ≡ Ok plan → (source : Source) × IsSourceOf plan inputs source
some_source files name plan inputs e =
    let (shape, is) = shape_of plan (plan_keeps files name plan e) in (
      record { shape = shape; channels = channels_in_order (numbers_in plan); entries = plan.entries; packets = inputs.packets; flow = inputs.flow; local = inputs.local },
      record { shape = is; channels = refl; entries = refl; packets = refl; flow = refl; local = refl },
    )
