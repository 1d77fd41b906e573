-- The premises of what is said of `resend` are met by a plan with its capture and its events, of which one loses a piece.
use Rattle.std.specs.Prelude.{◌≡◌, ℕ, List, [], ◌∷◌, codes, Some, Ok}
use Rattle.std.specs.FinMap.{from_entries}
use Rattle.lk_outside.specs.Files.{Files, AreBytes}
use Rattle.link_plan.specs.Default.{default_plan, default_settings}
use Rattle.link_plan.specs.Plan.{PlanValue}
use Rattle.pcap_files.specs.Written.{capture_bytes}
use Rattle.resend_events.specs.declared.row.EventRow.{EventRow}
use Rattle.resend_events.specs.Events.{times}
use Rattle.resend_events.specs.declared.event.Event.TheVariants.{Send, Lose, Take}
use Rattle.run_shell.specs.Outcome.{Outcome}
use Rattle.resend_commands.specs.Accepted.{IsResentInOrder}
use Rattle.resend_commands.specs.Plan.{ResendReading, IsPlanResent}
use Rattle.resend_commands.specs.Reading.{resend_in}

abbrev pub plan_name : List ℕ
plan_name = codes "p"

-- the packet
abbrev pub one_to_eight : List ℕ
one_to_eight = 1 ∷ 2 ∷ 3 ∷ 4 ∷ 5 ∷ 6 ∷ 7 ∷ 8 ∷ []

abbrev pub one_capture : List ℕ
one_capture = capture_bytes 1 (one_to_eight ∷ [])

abbrev pub plan_text : List ℕ
plan_text = codes "lanes,1\nmetaframe,32\nwarmup,4\nchannel,1,a\nout,o\nevents,e\n"

abbrev pub events_text : List ℕ
events_text = codes "send,3\ntake,1\nlose,1\ntake,1\n"

abbrev pub resent_entries : List (List ℕ × List ℕ)
resent_entries = (plan_name, plan_text) ∷ (codes "a", one_capture) ∷ (codes "e", events_text) ∷ []

abbrev pub resent_files : Files
resent_files = from_entries resent_entries

abbrev pub resent_plan : PlanValue
resent_plan = record default_plan {
  settings = record default_settings { lanes = 1; metaframe = 32; warmup = 4 };
  channels = record { number = 1; capture = Some (codes "a") } ∷ [];
  entries = 1 ∷ [];
  out = codes "o";
  events = Some (codes "e");
}

abbrev pub resent_rows : List EventRow
resent_rows = times Send 3 ∷ times Take 1 ∷ times Lose 1 ∷ times Take 1 ∷ []

abbrev pub resent_reading : ResendReading
resent_reading = record {
  reading = record { plan = resent_plan; inputs = record { packets = (1, one_to_eight) ∷ []; flow = []; local = [] } };
  window = 64;
  rows = resent_rows;
}

-- the files hold bytes, are read so, and come to an outcome whose words are the first of the stream, in order
pub record ResentMeets : Type 0 where
  pub bytes : AreBytes resent_files
  pub read : resend_in resent_files plan_name ≡ Ok resent_reading
  pub outcome : Outcome
  pub made : IsPlanResent resent_reading outcome
  pub in_order : IsResentInOrder resent_reading outcome
