-- What counts in a plan if no row says it. A plan is written as this record with the fields that its rows say.
use Rattle.std.specs.Prelude.{[], None, false}
use Rattle.lk_base.specs.Link.{Settings}
use Rattle.link_plan.specs.Plan.{PlanValue}

-- the settings; lanes and metaframe have no default
abbrev pub default_settings : Settings
default_settings = record { lanes = 0; metaframe = 0; skips = 1; burst_max = 256; burst_short = 64; deskew = 7; warmup = 8; max_packet = 262144 }

-- the plan; channels, their calendar and out have no default
abbrev pub default_plan : PlanValue
default_plan = record {
  settings = default_settings;
  link_type = 1;
  channels = [];
  entries = [];
  flow = None;
  local = None;
  schedule = None;
  out = [];
  wide = false;
  wide_row = None;
  burst_min = 0;
  oob = None;
  window = 64;
  events = None;
}
