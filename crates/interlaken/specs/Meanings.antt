-- What each request means.
use Rattle.std.specs.Prelude.{Option, Some, None}
use Rattle.run_shell.specs.Meaning.{Meaning}
use Rattle.run_shell.specs.Ending.{misused_meaning}
use Rattle.stream_commands.specs.Capture.{burst_capture_meaning}
use Rattle.stream_commands.specs.Plan.{burst_plan_meaning, send_plan_meaning}
use Rattle.join_commands.specs.JoinPlan.{join_plan_meaning}
use Rattle.join_commands.specs.JoinWords.{join_words_meaning}
use Rattle.receive_commands.specs.Receive.{receive_meaning}
use Rattle.link_commands.specs.Link.{link_meaning}
use Rattle.case_commands.specs.Generate.{generate_meaning}
use Rattle.duplex_commands.specs.Run.{duplex_meaning}
use Rattle.oob_commands.specs.WriteSamples.{oob_write_meaning}
use Rattle.oob_commands.specs.ReadRows.{oob_read_meaning}
use Rattle.resend_commands.specs.Command.{resend_meaning}
use Rattle.lane_commands.specs.Stripe.{stripe_meaning}
use Rattle.gather_commands.specs.Gather.{gather_meaning}
use Rattle.damage_commands.specs.Damage.{damage_meaning}
use Rattle.inspect_commands.specs.Inspect.{inspect_meaning}
use Rattle.check_commands.specs.Check.{check_meaning}
use Rattle.listing_commands.specs.Listing.{list_meaning}
use Rattle.listing_commands.specs.Assembling.{assemble_meaning}
use Rattle.interlaken.specs.declared.request.Request.{Request}
use Rattle.interlaken.specs.declared.request.Request.TheVariants.{BurstCapture, BurstPlan, JoinWords, JoinPlan, SendPlan, Receive, Link, Generate, Duplex, OobWrite, OobRead, Resend, Stripe, Gather, Damage, Inspect, Check, ListFile, AssembleText}

-- one line for each command
abbrev pub meaning_of : Request → Meaning
meaning_of (BurstCapture name) = burst_capture_meaning name
meaning_of (BurstPlan name) = burst_plan_meaning name
meaning_of (JoinWords name) = join_words_meaning name
meaning_of (JoinPlan name) = join_plan_meaning name
meaning_of (SendPlan name) = send_plan_meaning name
meaning_of (Receive name) = receive_meaning name
meaning_of (Link name) = link_meaning name
meaning_of (Generate a) = generate_meaning a
meaning_of (Duplex name) = duplex_meaning name
meaning_of (OobWrite name) = oob_write_meaning name
meaning_of (OobRead name) = oob_read_meaning name
meaning_of (Resend name) = resend_meaning name
meaning_of (Stripe name) = stripe_meaning name
meaning_of (Gather name) = gather_meaning name
meaning_of (Damage name) = damage_meaning name
meaning_of (Inspect name) = inspect_meaning name
meaning_of (Check name) = check_meaning name
meaning_of (ListFile name) = list_meaning name
meaning_of (AssembleText name) = assemble_meaning name

-- words that are not accepted have a meaning too: the line of the usage
abbrev pub meaning_by : Option Request → Meaning
meaning_by None = misused_meaning
meaning_by (Some r) = meaning_of r
