-- Outputs that are taken without the flow words among them.
use Rattle.std.specs.Prelude.{◌≡◌, Bool, true, false, List, ◌++◌, Option}
use Rattle.std.specs.List.{list_all}
use Rattle.lk_base.specs.declared.word.Aligned.{Aligned}
use Rattle.receive_model.specs.Events.{Event, Delivered, Dropped, FaultSpan, Flow, Setting}
use Rattle.reassembly.specs.declared.out.Out.{Out}
use Rattle.reassembly.specs.declared.out.Out.TheVariants as outs
use Rattle.reassembly.specs.Stands.{Gives}
use Rattle.reassembly.specs.States.{State}

-- the output is a flow word
abbrev pub is_flow : Event → Bool
is_flow (Delivered channel packet) = false
is_flow (Dropped channel why) = false
is_flow (FaultSpan span) = false
is_flow (Flow at word) = true

abbrev pub is_flow_out : Out → Bool
is_flow_out (outs.Packet channel n first last) = false
is_flow_out (outs.Dropped channel why) = false
is_flow_out (outs.Span span) = false
is_flow_out (outs.Flow at word) = true

-- what is given after some flow words, which are given up
pub record GivesAfterFlows (out : Option Out) (r : State) (setting : Setting) (put : List Aligned) (finished : Bool) (given : List Event) : Type 0 where
  pub flows : List Event
  pub are_flows : list_all is_flow flows ≡ true
  pub gives : Gives out r setting put finished (given ++ flows)
