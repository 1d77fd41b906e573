-- The numbers of a plan that the rules of words read, for `check` and for a checker of the library.
use Rattle.link_plan.specs.Plan.{PlanValue}
use Rattle.word_rules.specs.declared.limits.WordLimits.{WordLimits}

-- the numbers of a plan that the rules read
abbrev pub limits_of : PlanValue → WordLimits
limits_of plan = record {
  burst_max = plan.settings.burst_max;
  burst_short = plan.settings.burst_short;
  burst_min = plan.burst_min;
  max_packet = plan.settings.max_packet;
  wide = plan.wide;
}
