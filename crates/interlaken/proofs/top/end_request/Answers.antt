use Rattle.std.proofs.Common.{sym}
use Rattle.interlaken.proofs.Asking.{some_ends, none_ends}
use Rattle.interlaken.proofs.top.end_request.Goals as goal

pub returns-in-Some : goal.returns-in-Some
returns-in-Some g c = some_ends _ _ _ _ _ _ _ (sym c.in-Some.is) c.end.ensures

pub returns-in-None : goal.returns-in-None
returns-in-None g c = none_ends _ _ _ _ (sym c.in-None.is) c.misused.ensures
