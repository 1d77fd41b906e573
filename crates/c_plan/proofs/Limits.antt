-- The numbers of a plan are within the limits.
use Rattle.std.proofs.Common.{ℕ, ◌≡◌, refl, sym, ap, ◌∙◌, subst, ◌≤◌, Bool, true, false, List, [], Option, Some, None, Ok, arith, length}
use Rattle.std.specs.Prelude.{◌==◌, codes}
use Rattle.lk_base.specs.Checksum.{digit}
use Rattle.lk_base.specs.Link.{IsLink, Settings}
use Rattle.csv_rows.specs.Checked.{AreSaid, first_fault}
use Rattle.csv_rows.specs.Rows.{Row}
use Rattle.csv_rows.specs.Tables.{key_rule, place_in, rule_at}
use Rattle.csv_rows.specs.Said.{Item}
use Rattle.csv_rows.specs.declared.items.RowFault.{RowFault}
use Rattle.csv_rows.specs.declared.table.Form.TheVariants.{Number}
use Rattle.csv_rows.specs.declared.table.Times.TheVariants.{Once}
use Rattle.csv_rows.proofs.Ranges.{said-range, value_of-range}
use Rattle.plan_errors.specs.declared.error.Key.{Key}
use Rattle.link_plan.specs.Keys.{keys, number, place}
use Rattle.link_plan.specs.Listing.{most_channels}
use Rattle.link_plan.specs.Plan.{PlanValue, first_clash, missing, plan_from, plan_of, said_by, unless_clash, unless_fault, unless_missing}
use Rattle.link_plan.specs.Views.{plan_value}
use Rattle.link_plan.proofs.Links.{settings-limits}
use Rattle.c_plan.specs.Laws.{NumbersAreOfPlans}

-- rows that give a plan have no fault, no key that is missing, and no clash
record Clear (rows : List Row) (plan : PlanValue) : Type 0 where
  whole : missing (said_by rows) ≡ None
  clear : first_clash (said_by rows) 1 (said_by rows) ≡ None
  is : plan_from rows ≡ plan

by_clash : (rows : List Row) (plan : PlanValue) (o : Option ℕ) → first_clash (said_by rows) 1 (said_by rows) ≡ o → missing (said_by rows) ≡ None → unless_clash rows o ≡ Ok plan → Clear rows plan
by_clash rows plan None e m h = record { whole = m; clear = e; is = cc h }
by_clash rows plan (Some n) e m h = absurd (cc h)

by_missing : (rows : List Row) (plan : PlanValue) (o : Option Key) → missing (said_by rows) ≡ o → unless_missing rows o ≡ Ok plan → Clear rows plan
by_missing rows plan None e h = by_clash rows plan (first_clash (said_by rows) 1 (said_by rows)) refl e h
by_missing rows plan (Some key) e h = absurd (cc h)

by_fault : (rows : List Row) (plan : PlanValue) (o : Option (ℕ × RowFault)) → unless_fault rows o ≡ Ok plan → Clear rows plan
by_fault rows plan None h = by_missing rows plan (missing (said_by rows)) refl h
by_fault rows plan (Some f) h = absurd (cc h)

clear_of : (rows : List Row) (plan : PlanValue) → plan_of rows ≡ Ok plan → Clear rows plan
unfolding plan_of
clear_of rows plan h = by_fault rows plan (first_fault keys [] rows) h

-- ---- the link type

link_type-line : rule_at keys (place (codes "link_type")) ≡ Some (key_rule (codes "link_type") (Number 0 65535 1) Once (Some 1))
unfolding keys place place_in
link_type-line = refl

link_type-low : (items : List Item) → AreSaid keys items → number items (codes "link_type") ≤ 65535
unfolding number
link_type-low items said = (value_of-range keys items (place (codes "link_type")) _ link_type-line (said-range keys items said) (omega arith, omega arith, refl)).1

-- ---- all

from_rows : (rows : List Row) (link : Settings) (link_type : ℕ) → missing (said_by rows) ≡ None → first_clash (said_by rows) 1 (said_by rows) ≡ None → (plan : PlanValue) → plan_from rows ≡ plan →
    plan.settings ≡ link → plan.link_type ≡ link_type → IsLink link × (link_type ≤ 65535)
unfolding plan_from
from_rows rows link link_type whole clear plan e f g =
    let said : AreSaid keys (said_by rows) = (rows, refl) in (
      subst IsLink (ap (λ (p : PlanValue). p.settings) e ∙ f) (settings-limits (said_by rows) said whole clear),
      subst (λ (n : ℕ). n ≤ 65535) (ap (λ (p : PlanValue). p.link_type) e ∙ g) (link_type-low (said_by rows) said),
    )

digit-low : (b : Bool) → digit b ≤ 1
digit-low true = omega arith
digit-low false = omega arith

is_one : (b : Bool) → (digit b == 1) ≡ b
is_one true = refl
is_one false = refl

pub numbers_are_of_plans : NumbersAreOfPlans
numbers_are_of_plans rows plan gives =
    let c = clear_of rows (plan_value plan) gives in
    let r = from_rows rows plan.link plan.link_type c.whole c.clear (plan_value plan) c.is refl refl in
    record {
      link = r.0;
      others = record {
        wide = digit-low plan.wide;
        link_type = r.1;
        entries = (plan.some_entries, plan.few_entries);
        channels = (plan.some_channels, subst (λ (b : Bool). length plan.channels.items ≤ most_channels b) (sym (is_one plan.wide)) plan.few_channels);
        burst_min = (plan.burst_min_whole, plan.burst_min_high);
        window = (plan.window_low, plan.window_high);
      };
    }
