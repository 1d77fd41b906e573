use Rattle.std.proofs.Common.{ℕ, ◌≡◌, ◌+◌, ◌<◌, ◌∙◌, refl, sym, ap, subst, List, arith}
use Rattle.lk_base.specs.Link.{Settings}
use Rattle.run_shell.specs.Rests.{join, rests_of}
use Rattle.run_shell.proofs.Rests.{join_given}
use Rattle.tx_end.specs.Rounds.{InLastRound, longer}
use Rattle.tx_end.proofs.Rounds.{last_begins, last_ends, last_turn, last_waiting}
use Rattle.lane_commands.proofs.LaneMaking.{same_count}
use Rattle.lane_commands.proofs.lane_maker.give_ends.Goals as goal

pub loop-number-init : goal.loop-number-init
loop-number-init c = record {
  settings = refl;
  names = refl;
  round = λ words made done k. last_begins c.args.lanes.now.settings words made c.args.lanes.now.lanes _ k;
}

pub make_end-requires-clause-lane : goal.make_end-requires-clause-lane
make_end-requires-clause-lane c =
    let same : c.loop-number.lanes.settings.lanes ≡ c.args.lanes.now.settings.lanes = ap (λ (s : Settings). s.lanes) c.loop-number.invariant.settings in
    omega (arith, same, c.loop-number-test.true, c.count-number-end.ensures)

pub make_end-requires-clause-waiting : goal.make_end-requires-clause-waiting
make_end-requires-clause-waiting c =
    let (words, made, done, k) = c.requires.filled in
    let low : c.loop-number.number < c.args.lanes.now.settings.lanes = omega (arith, c.loop-number-test.true, c.count-number-end.ensures) in
    last_waiting c.args.lanes.now.settings words made c.loop-number.number c.loop-number.lanes.lanes _ low (c.loop-number.invariant.round words made done k)

pub give-requires : goal.give-requires
give-requires c =
    let same = same_count c.loop-number.outputs c.args.outputs.now c.loop-number.invariant.names in
    let count = c.requires.count in
    omega (arith, same, count, c.loop-number-test.true, c.count-number-end.ensures)

pub loop-number-preserved : goal.loop-number-preserved
loop-number-preserved c =
    let s = c.args.lanes.now.settings in
    let n : ℕ = c.loop-number.number in
    let low : n < s.lanes = omega (arith, c.loop-number-test.true, c.count-number-end.ensures) in
    let bytes : List ℕ = c.make_end.new.self.bytes in
    record {
      settings = c.make_end.ensures.settings ∙ c.loop-number.invariant.settings;
      names = c.give.ensures.names ∙ c.loop-number.invariant.names;
      round = λ words made done k.
          let files : List (List ℕ) = join done (rests_of c.loop-number.outputs) in
          let all : join done (rests_of c.give.new.self) ≡ longer files n bytes = join_given done (rests_of c.loop-number.outputs) (rests_of c.give.new.self) n c.bytes.result.now (c.in_ok-give.ensures {u = tt}).given ∙ ap (longer files n) c.bytes.ensures in
          subst (λ (fs : List (List ℕ)). InLastRound s words made (n + 1) c.make_end.new.self.lanes fs) (sym all)
          (last_turn s words made n c.loop-number.lanes.lanes c.make_end.new.self.lanes files bytes low (c.loop-number.invariant.round words made done k) c.make_end.ensures.makes);
    }

pub returns-clause-ended : goal.returns-clause-ended
returns-clause-ended c words made done k =
    last_ends c.args.lanes.now.settings words made c.loop-number.number c.loop-number.lanes.lanes _ (omega (arith, c.loop-number-test.false, c.count-number-end.ensures)) (c.loop-number.invariant.round words made done k)
