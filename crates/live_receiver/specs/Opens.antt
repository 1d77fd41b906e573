-- What a receiver is opened with.
use Rattle.std.specs.Prelude.{◌≡◌, false, List, [], ℕ, Ok}
use Rattle.csv_rows.specs.Rows.{rows_of}
use Rattle.link_plan.specs.Listing.{channels_in_order, numbers_of}
use Rattle.link_plan.specs.Plan.{plan_of}
use Rattle.link_plan.specs.Views.{GivesPlan}
use Rattle.link_plan.specs.declared.plan.Plan.{Plan}
use Rattle.rx_end.specs.Standing.{IsUnfed}
use Rattle.live_receiver.specs.FarEnd.{HasHeard}
use Rattle.live_receiver.specs.declared.session.Session.{Session}

-- a receiver of a plan, to which nothing was fed, which lends no packet, and which heard nothing
pub record IsUnused (plan : Plan) (s : Session) : Type 0 where
  pub unfed : IsUnfed plan s.receiver
  pub unlent : s.lends ≡ false
  pub unheard : HasHeard s.far plan.entries.items []
  -- it has the channels that the plan lists
  pub listed : s.channels.items ≡ channels_in_order (numbers_of plan.channels.items)

-- it is a receiver of the plan of these bytes
abbrev pub IsOfPlan : List ℕ → Session → Type 0
IsOfPlan bytes s = (plan : Plan) × GivesPlan (Ok plan) (plan_of (rows_of bytes)) × IsUnused plan s
