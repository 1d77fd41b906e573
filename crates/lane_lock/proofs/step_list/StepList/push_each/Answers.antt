-- One word more.
use Rattle.std.proofs.Common.{◌≡◌, ◌+◌, refl, sym, ap, ◌∙◌, length, take, arith}
use Rattle.std.proofs.lemmas.List.{append-nil, length-append, length-take-le}
use Rattle.lk_base.specs.declared.word.RxWord.TheVariants.{Data}
use Rattle.lock_model.specs.PayloadSteps.{payload_steps}
use Rattle.lane_lock.specs.Found.{found_steps}
use Rattle.lane_lock.proofs.FoundSteps.{length-payloads, words_more}
use Rattle.lane_lock.proofs.step_list.StepList.push_each.Goals as goal

pub loop-k-init : goal.loop-k-init
loop-k-init c = (sym (append-nil (found_steps c.args.self.now)), refl)

pub push-requires : goal.push-requires
push-requires c =
    let i = c.loop-k.invariant.0 in
    let room = c.loop-k.invariant.1 in
    let k = c.loop-k.k in
    let front = take k c.args.words.now in
    let few = c.requires.room in
    let l : length (found_steps c.loop-k.self) ≡ length (found_steps c.args.self.now) + length (payload_steps c.args.number c.args.at front) =
    ap length i ∙ length-append (found_steps c.args.self.now) (payload_steps c.args.number c.args.at front) in
    let p = length-payloads c.args.number c.args.at front in
    let t : length front ≡ k = length-take-le k c.args.words.now (omega arith) in
    omega (arith, l, p, t, room, few)

pub loop-k-preserved : goal.loop-k-preserved
loop-k-preserved c = (
  words_more (found_steps c.args.self.now) (found_steps c.loop-k.self) (found_steps c.push.new.self) c.args.number c.args.at c.loop-k.k c.args.words.now (Data 0) (omega arith) c.loop-k.invariant.0 c.push.ensures.steps,
  c.push.ensures.room ∙ c.loop-k.invariant.1,
)
