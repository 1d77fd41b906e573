use Rattle.run_shell.proofs.Stepping.{create_goes_on, append_goes_on, others_stay}
use Rattle.run_shell.proofs.laws.steps_go_on.Goals as goal

pub returns-clause-create : goal.returns-clause-create
returns-clause-create c = create_goes_on

pub returns-clause-append : goal.returns-clause-append
returns-clause-append c = append_goes_on

pub returns-clause-others : goal.returns-clause-others
returns-clause-others c = others_stay
