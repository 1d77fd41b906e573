-- The rules of a plan, as the code lends it.
use Rattle.std.proofs.Common.{◌≡◌, ℕ, List, refl, ap, ◌∙◌}
use Rattle.stream_model.specs.declared.rows.FlowRow.{FlowRow}
use Rattle.link_plan.specs.Listing.{channels_in_order, numbers_of}
use Rattle.link_plan.specs.Views.{plan_value}
use Rattle.link_plan.specs.declared.plan.Plan as code
use Rattle.plan_inputs.proofs.InputsRead.{same_numbers}
use Rattle.word_rules.specs.declared.limits.WordLimits.{WordLimits}
use Rattle.word_rules.specs.Limits.{limits_of}
use Rattle.check_commands.specs.Check.{rules_of}

pub same_rules : (plan : code.Plan) (flow : List FlowRow) (limits : WordLimits) (channels entries : List ℕ) (rows : List FlowRow) → limits ≡ limits_of (plan_value plan) → channels ≡ channels_in_order (numbers_of plan.channels.items) → entries ≡ plan.entries.items → rows ≡ flow
    → record { limits = limits; channels = channels; entries = entries; flow = rows } ≡ rules_of (plan_value plan) flow
same_rules plan flow limits channels entries rows a b c d = rw (a, b ∙ ap channels_in_order (same_numbers plan.channels.items), c, d) refl
