use Rattle.std.proofs.Common.{refl}
use Rattle.std.proofs.lemmas.Result.{err_from_is_err_and}
use Rattle.receipts.proofs.Receiving.{no_memory}
use Rattle.receipts.proofs.receipt.Receipt.take.Goals as goal

pub returns-in_err-take_other-in-Dropped : goal.returns-in_err-take_other-in-Dropped
returns-in_err-take_other-in-Dropped g c =
    let p = err_from_is_err_and c.from_residual.result c.from_residual.ensures.1 in
    record { cause = rw (p.1, p.2) refl; receives = λ b outputs is. rw (p.1, p.2) (no_memory b outputs c.args.self.now _ is _) }
