use Rattle.std.proofs.Common.{false, true}
use Rattle.std.proofs.lemmas.Result.{err_from_is_err_and}
use Rattle.join_commands.specs.Going.{ended_at, outputs_of}
use Rattle.join_commands.proofs.Steps.{end_finished, end_put, last_stopped}
use Rattle.join_commands.proofs.Taking.{received_takes}
use Rattle.join_commands.proofs.words.take_end.Goals as goal

pub take_outputs-requires-clause-at : goal.take_outputs-requires-clause-at
take_outputs-requires-clause-at g c =
    let (b, put, ready) = c.requires.ready in
    (b, ended_at c.args.number put, false, outputs_of b put false, end_put b c.args.number put _ _ _ _ ready (c.put.ensures.stands b.setting put _ ready.after ready.at.stands))

pub returns-in_err-take_outputs-clause-receives : goal.returns-in_err-take_outputs-clause-receives
returns-in_err-take_outputs-clause-receives g c b put ready =
    let p = err_from_is_err_and c.from_residual.result c.from_residual.ensures.1 in
    rw (p.1, p.2) (last_stopped b (ended_at c.args.number put) c.in_err-take_outputs.field-0.0 _
    (c.in_err-take_outputs.ensures.takes b (ended_at c.args.number put) false (outputs_of b put false) (end_put b c.args.number put _ _ _ _ ready (c.put.ensures.stands b.setting put _ ready.after ready.at.stands))))

pub take_outputs-requires-2-clause-at : goal.take_outputs-requires-2-clause-at
take_outputs-requires-2-clause-at g c =
    let (b, put, ready) = c.requires.ready in
    let all = ended_at c.args.number put in (
      b,
      all,
      true,
      outputs_of b all false,
      end_finished b all _ _ _ _ (c.in_ok-take_outputs.ensures.takes b all false (outputs_of b put false) (end_put b c.args.number put _ _ _ _ ready (c.put.ensures.stands b.setting put _ ready.after ready.at.stands)))
          (c.finish.ensures b.setting all _ (c.in_ok-take_outputs.ensures.takes b all false (outputs_of b put false) (end_put b c.args.number put _ _ _ _ ready (c.put.ensures.stands b.setting put _ ready.after ready.at.stands))).stands),
    )

pub returns-clause-receives : goal.returns-clause-receives
returns-clause-receives g c b put ready =
    let all = ended_at c.args.number put in
    let at = c.in_ok-take_outputs.ensures.takes b all false (outputs_of b put false) (end_put b c.args.number put _ _ _ _ ready (c.put.ensures.stands b.setting put _ ready.after ready.at.stands)) in
    received_takes b all true c.take_outputs-2.result _ _ _
    (c.take_outputs-2.ensures.takes b all true (outputs_of b all false) (end_finished b all _ _ _ _ at (c.finish.ensures b.setting all _ at.stands)))
