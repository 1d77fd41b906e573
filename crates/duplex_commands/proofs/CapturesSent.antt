-- The captures of each end have the packets of the other end whose end word arrived.
use Rattle.std.proofs.Common.{◌≡◌, ℕ, ◌<◌, Bool, true, false, List, sym, ap, subst, All}
use Rattle.stream_model.specs.BurstStream.{IsPacket}
use Rattle.link_plan.specs.Plan.{PlanValue}
use Rattle.link_plan.specs.Listing.{channels_in_order}
use Rattle.link_plan.specs.Views.{numbers_in}
use Rattle.delivery_laws.specs.LawOnWords.{NumbersFit}
use Rattle.duplex_model.specs.DuplexRun.{Ends, alone}
use Rattle.duplex_model.proofs.WhatCame.{what_came}
use Rattle.plan_inputs.proofs.SomeSource.{Keeps}
use Rattle.plan_inputs.proofs.PlanChannels.{narrow_of}
use Rattle.plan_inputs.proofs.PlanStream.{AreFit}
use Rattle.receipts.specs.Received.{bytes_of}
use Rattle.duplex_commands.specs.Run.{run_settings}
use Rattle.duplex_commands.specs.Laws.{CapturesAreSent}
use Rattle.duplex_commands.proofs.Parts.{plan_part, sized_part}
use Rattle.duplex_commands.proofs.Sized.{sized_fit}

-- the numbers of the plan's channels are read as they were written
numbers_fit : (plan : PlanValue) → Keeps plan → (wide : Bool) → plan.wide ≡ wide → (ends : Ends) (packets : List (ℕ × List ℕ)) → ends.channels ≡ channels_in_order (numbers_in plan) → NumbersFit wide (alone ends packets)
numbers_fit plan keeps true is ends packets same = tt
numbers_fit plan keeps false is ends packets same = subst (λ (cs : List ℕ). All (λ channel. channel < 256) cs) (sym same) (narrow_of plan keeps is)

each_fits : (most most_too : ℕ) (packets packets_too : List (ℕ × List ℕ)) → most_too ≡ most → packets_too ≡ packets → AreFit most packets → All (λ (p : ℕ × List ℕ). IsPacket most_too p.1) packets_too
each_fits most most_too packets packets_too m same fit =
    subst (λ (n : ℕ). All (λ (p : ℕ × List ℕ). IsPacket n p.1) packets_too) (sym m) (subst (λ (ps : List (ℕ × List ℕ)). All (λ (p : ℕ × List ℕ). IsPacket most p.1) ps) (sym same) fit)

pub captures_are_sent : CapturesAreSent
captures_are_sent files name r setting a b channel run is of listed =
    let plan : Keeps r.plan = plan_part files name r is in
    let sized = sized_part files name r is in
    let came = what_came (run_settings r.settings) run.ends setting a b channel r.settings.slots listed
    (numbers_fit r.plan plan setting.wide (sym of.wide) run.ends run.ends.packets_of_a run.are.a.channels)
    (each_fits r.plan.settings.max_packet setting.max_packet r.packets_of_a run.ends.packets_of_a of.max_packet run.are.a.packets (sized_fit r.plan.settings.max_packet r.packets_of_a sized.0 run.bytes_of_a))
    (each_fits r.plan.settings.max_packet setting.max_packet r.packets_of_b run.ends.packets_of_b of.max_packet run.are.b.packets (sized_fit r.plan.settings.max_packet r.packets_of_b sized.1 run.bytes_of_b))
    run.run in
    (ap bytes_of came.0, ap bytes_of came.1)
