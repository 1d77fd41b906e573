-- Where memory runs out nothing was added.
use Rattle.std.proofs.Common.{◌∙◌, [], refl, sym, ap, append-nil, arith}
use Rattle.std.proofs.lemmas.Result.{err_from_is_err_and}
use Rattle.lk_outside.proofs.mem_sink.MemSinkSink.write.Goals as goal

pub returns-in_err-extend_from_slice-clause-added : goal.returns-in_err-extend_from_slice-clause-added
returns-in_err-extend_from_slice-clause-added c =
    let p = err_from_is_err_and c.from_residual.result c.from_residual.ensures.1 in
    rw p.1 (record {
      added = [];
      by = (0, omega arith, refl);
      all = c.in_err-extend_from_slice.ensures.items ∙ ap (λ s. s.written) c.self.view_is ∙ sym (append-nil c.args.self.now.written);
    })
