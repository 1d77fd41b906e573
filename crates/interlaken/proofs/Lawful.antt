-- Whatever words ask for, it has one outcome.
use Rattle.std.proofs.Common.{ℕ, List, refl, Option, Some, None, IsSome}
use Rattle.run_shell.specs.Meaning.{IsLawful, IsMeaning}
use Rattle.run_shell.proofs.Endings.{misused_lawful, asked_lawful}
use Rattle.stream_commands.proofs.CaptureWork.{capture_means}
use Rattle.stream_commands.proofs.PlanWork.{burst_means, send_means}
use Rattle.join_commands.proofs.Joins.{join_words_means, join_plan_means}
use Rattle.receive_commands.proofs.Receives.{receive_means}
use Rattle.link_commands.proofs.LinkWork.{link_means}
use Rattle.case_commands.proofs.GenerateWork.{generate_means}
use Rattle.duplex_commands.proofs.Works.{duplex_means}
use Rattle.oob_commands.proofs.Works.{write_means, read_means}
use Rattle.resend_commands.proofs.Work.{resend_means}
use Rattle.lane_commands.proofs.StripeWork.{stripe_means}
use Rattle.gather_commands.proofs.Gathers.{gather_means}
use Rattle.damage_commands.proofs.Damages.{damage_means}
use Rattle.inspect_commands.proofs.Inspects.{inspect_means}
use Rattle.check_commands.proofs.Checks.{check_means}
use Rattle.listing_commands.proofs.Conversions.{list_means, assemble_means}
use Rattle.interlaken.specs.declared.request.Request.{Request}
use Rattle.interlaken.specs.declared.request.Request.TheVariants.{BurstCapture, BurstPlan, JoinWords, JoinPlan, SendPlan, Receive, Link, Generate, Duplex, OobWrite, OobRead, Resend, Stripe, Gather, Damage, Inspect, Check, ListFile, AssembleText}
use Rattle.interlaken.specs.Request.{request_of}
use Rattle.interlaken.specs.Meanings.{meaning_of, meaning_by}
use Rattle.interlaken.specs.Run.{meaning_of_words, IsAccepted}
use Rattle.interlaken.proofs.Asking.{none_some}

-- one line for each command
pub request_lawful : (r : Request) → IsMeaning (meaning_of r)
request_lawful (BurstCapture name) = capture_means name
request_lawful (BurstPlan name) = burst_means name
request_lawful (JoinWords name) = join_words_means name
request_lawful (JoinPlan name) = join_plan_means name
request_lawful (SendPlan name) = send_means name
request_lawful (Receive name) = receive_means name
request_lawful (Link name) = link_means name
request_lawful (Generate a) = generate_means a
request_lawful (Duplex name) = duplex_means name
request_lawful (OobWrite name) = write_means name
request_lawful (OobRead name) = read_means name
request_lawful (Resend name) = resend_means name
request_lawful (Stripe name) = stripe_means name
request_lawful (Gather name) = gather_means name
request_lawful (Damage name) = damage_means name
request_lawful (Inspect name) = inspect_means name
request_lawful (Check name) = check_means name
request_lawful (ListFile name) = list_means name
request_lawful (AssembleText name) = assemble_means name

by : (a : Option Request) → IsLawful (IsSome a) (meaning_by a)
by None = misused_lawful (IsSome {T = Request} None) none_some
by (Some r) = asked_lawful (IsSome (Some r)) refl (meaning_of r) (request_lawful r)

pub lawful : (words : List (List ℕ)) → IsLawful (IsAccepted words) (meaning_of_words words)
lawful words = by (request_of words)
