-- Words more in the run.
use Rattle.std.proofs.Common.{◌≡◌, ◌+◌, ◌*◌, ◌++◌, [], List, length, take, ap, ◌∙◌}
use Rattle.lk_base.specs.declared.word.RxWord.{RxWord}
use Rattle.lock_model.specs.PayloadSteps.{payload_steps}
use Rattle.lane_lock.specs.Found.{FoundSteps, found_steps}
use Rattle.lane_lock.proofs.FoundSteps.{found_on}
use Rattle.lane_lock.proofs.step_list.StepList.put_on.Goals as goal

pub returns-clause-steps : goal.returns-clause-steps
returns-clause-steps c =
    let f = c.self.inside in
    let more = c.args.words.now in
    let old : List RxWord = take f.count f.words in
    let none : f.after.items ≡ [] = ap (λ (x : FoundSteps). x.after) c.self.view_is ∙ c.requires.last in
    ap (λ (ws : List RxWord). f.before.items ++ (payload_steps f.number f.at ws ++ f.after.items)) c.put_words.ensures
    ∙ found_on f.before.items f.after.items f.number f.at old more none
    ∙ ap (λ (x : FoundSteps). found_steps x ++ payload_steps (x.number + length x.words) (x.at + 67 * length x.words) more) c.self.view_is
