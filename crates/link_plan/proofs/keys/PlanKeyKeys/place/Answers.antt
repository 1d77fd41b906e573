use denote.Enum.Declared.{tag_of}
use Rattle.std.proofs.Common.{◌≡◌, refl}
use Rattle.csv_rows.specs.Tables.{place_in}
use Rattle.link_plan.specs.Keys.{keys, key_name, place}
use Rattle.link_plan.specs.contracts.plan_key.PlanKey.{the_type}
use Rattle.link_plan.specs.declared.plan_key.PlanKey.{PlanKey}
use Rattle.link_plan.specs.declared.plan_key.PlanKey.TheVariants as key
use Rattle.link_plan.proofs.keys.PlanKeyKeys.place.Goals as goal

place-is : (k : PlanKey) → tag_of the_type k ≡ place (key_name k)
unfolding keys place place_in
place-is key.Lanes = refl
place-is key.Metaframe = refl
place-is key.Skips = refl
place-is key.BurstMax = refl
place-is key.BurstShort = refl
place-is key.Deskew = refl
place-is key.Warmup = refl
place-is key.MaxPacket = refl
place-is key.LinkType = refl
place-is key.Channel = refl
place-is key.Entry = refl
place-is key.Flow = refl
place-is key.Local = refl
place-is key.Schedule = refl
place-is key.Out = refl
place-is key.Wide = refl
place-is key.BurstMin = refl
place-is key.Oob = refl
place-is key.Window = refl
place-is key.Events = refl

pub returns : goal.returns
returns c = place-is c.args.self
