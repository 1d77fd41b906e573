-- Proved above.
use Rattle.live_checker.proofs.CallLists.{calls_check, calls_tell}
use Rattle.live_checker.proofs.laws.calls_lead_to_checks.Goals as goal

pub returns : goal.returns
returns c = record { check = calls_check; tell = calls_tell }
