-- The numbers of a plan, as C has them.
use Rattle.std.specs.Prelude.{◌≡◌, ◌*◌, ◌%◌, ◌≤◌, ◌==◌, length}
use Rattle.lk_base.specs.Checksum.{digit}
use Rattle.lk_base.specs.Link.{IsLink, Settings}
use Rattle.link_plan.specs.Listing.{most_channels}
use Rattle.link_plan.specs.declared.plan.Plan.{Plan}
use Rattle.c_plan.specs.declared.numbers.PlanNumbers.{PlanNumbers}

abbrev pub numbers_of : Plan → PlanNumbers
numbers_of plan = record {
  lanes = plan.link.lanes;
  metaframe = plan.link.metaframe;
  skips = plan.link.skips;
  wide = digit plan.wide;
  deskew = plan.link.deskew;
  max_packet = plan.link.max_packet;
  link_type = plan.link_type;
  entries = length plan.entries.items;
  warmup = plan.link.warmup;
  channels = length plan.channels.items;
  burst_max = plan.link.burst_max;
  burst_short = plan.link.burst_short;
  burst_min = plan.burst_min;
  window = plan.window;
}

-- all are 0
abbrev pub no_numbers : PlanNumbers
no_numbers = record {
  lanes = 0;
  metaframe = 0;
  skips = 0;
  wide = 0;
  deskew = 0;
  max_packet = 0;
  link_type = 0;
  entries = 0;
  warmup = 0;
  channels = 0;
  burst_max = 0;
  burst_short = 0;
  burst_min = 0;
  window = 0;
}

-- the settings of the link among them
abbrev pub settings_in : PlanNumbers → Settings
settings_in n = record {
  lanes = n.lanes;
  metaframe = n.metaframe;
  skips = n.skips;
  burst_max = n.burst_max;
  burst_short = n.burst_short;
  deskew = n.deskew;
  warmup = n.warmup;
  max_packet = n.max_packet;
}

-- the limits of the others
pub record AreWithin (n : PlanNumbers) : Type 0 where
  pub wide : n.wide ≤ 1
  pub link_type : n.link_type ≤ 65535
  pub entries : (1 ≤ n.entries) × (n.entries ≤ 1024)
  pub channels : (1 ≤ n.channels) × (n.channels ≤ most_channels (n.wide == 1))
  pub burst_min : (n.burst_min % 32 ≡ 0) × (2 * n.burst_min ≤ n.burst_max)
  pub window : (1 ≤ n.window) × (n.window ≤ 255)

-- the limits of a plan's numbers
pub record ArePlanNumbers (n : PlanNumbers) : Type 0 where
  pub link : IsLink (settings_in n)
  pub others : AreWithin n
