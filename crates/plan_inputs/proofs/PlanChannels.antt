-- The channels of a plan in order of number.
use Rattle.std.proofs.Common.{◌≡◌, ℕ, ◌<◌, ◌≤◌, Bool, true, false, length, arith, subst, sym, All, List, Ok}
use Rattle.std.proofs.lemmas.List.{length-map}
use Rattle.lk_outside.specs.Files.{Files}
use Rattle.link_plan.specs.Listing.{numbers_of, channels_in_order, greatest_channel, most_channels}
use Rattle.link_plan.specs.Plan.{PlanValue}
use Rattle.link_plan.specs.declared.channel.ChannelRow.{ChannelRow}
use Rattle.link_plan.specs.declared.plan.Plan.{Plan}
use Rattle.link_plan.specs.Views.{numbers_in}
use Rattle.link_plan.proofs.InOrder.{width_in_order}
use Rattle.link_plan.proofs.Whole.{order-few}
use Rattle.stream_model.specs.BurstStream.{Source}
use Rattle.plan_inputs.specs.Inputs.{Inputs, plan_in}
use Rattle.plan_inputs.specs.Sources.{IsSourceOf}
use Rattle.plan_inputs.proofs.SomeSource.{Keeps, plan_keeps}

few_by : (wide : Bool) (n : ℕ) → n ≤ most_channels wide → n ≤ 1024
few_by true n h = omega arith
few_by false n h = omega arith

-- there are no more than 1,024
pub few_in_order : (plan : Plan) → length (channels_in_order (numbers_of plan.channels.items)) ≤ 1024
few_in_order plan =
    let size = length-map plan.channels.items (λ (r : ChannelRow). r.number) in
    let few = order-few (numbers_of plan.channels.items) in
    let most = few_by plan.wide (length plan.channels.items) plan.few_channels in
    omega (arith, size, few, most)

-- where channels are not wide, they are below 256
pub narrow_of : (plan : PlanValue) → Keeps plan → plan.wide ≡ false → All (λ channel. channel < 256) (channels_in_order (numbers_in plan))
narrow_of plan keeps narrow k d lt =
    let low = width_in_order plan.wide (numbers_in plan) keeps.in_width k d lt in
    by plan.wide narrow _ low
  where
    by : (wide : Bool) → wide ≡ false → (n : ℕ) → n ≤ greatest_channel wide → n < 256
    by true is n h = absurd (cc is)
    by false is n h = omega arith

pub narrow_in_order : (files : Files) (name : List ℕ) (plan : PlanValue) → plan_in files name ≡ Ok plan → plan.wide ≡ false → All (λ channel. channel < 256) (channels_in_order (numbers_in plan))
narrow_in_order files name plan e narrow = narrow_of plan (plan_keeps files name plan e) narrow

-- so are those of its source
pub narrow_source : (files : Files) (name : List ℕ) (plan : PlanValue) (inputs : Inputs) (source : Source) → plan_in files name ≡ Ok plan → IsSourceOf plan inputs source → plan.wide ≡ false → All (λ channel. channel < 256) source.channels
narrow_source files name plan inputs source e is narrow = subst (λ (channels : List ℕ). All (λ channel. channel < 256) channels) (sym is.channels) (narrow_in_order files name plan e narrow)
