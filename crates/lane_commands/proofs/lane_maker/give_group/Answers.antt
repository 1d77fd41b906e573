use Rattle.std.proofs.Common.{ℕ, ◌≡◌, ◌+◌, ◌<◌, ◌∙◌, refl, sym, ap, subst, List, arith}
use Rattle.lk_base.specs.Link.{Settings, group_of}
use Rattle.run_shell.specs.Rests.{join, rests_of}
use Rattle.run_shell.proofs.Rests.{join_given}
use Rattle.tx_end.specs.Rounds.{InRound, MakesMetaframe, longer}
use Rattle.tx_end.proofs.Rounds.{round_begins, round_ends, round_ready, round_turn}
use Rattle.lane_commands.proofs.LaneMaking.{same_count}
use Rattle.lane_commands.proofs.lane_maker.give_group.Goals as goal

pub loop-number-init : goal.loop-number-init
loop-number-init c = record {
  settings = refl;
  names = refl;
  round = λ words made done e k. round_begins c.args.lanes.now.settings words c.args.group.now made c.args.lanes.now.lanes _ e k;
}

pub make_metaframe-requires-clause-lane : goal.make_metaframe-requires-clause-lane
make_metaframe-requires-clause-lane c =
    let same : c.loop-number.lanes.settings.lanes ≡ c.args.lanes.now.settings.lanes = ap (λ (s : Settings). s.lanes) c.loop-number.invariant.settings in
    omega (arith, same, c.loop-number-test.true, c.count-number-end.ensures)

pub make_metaframe-requires-clause-group : goal.make_metaframe-requires-clause-group
make_metaframe-requires-clause-group c = c.requires.group ∙ ap group_of (sym c.loop-number.invariant.settings)

pub make_metaframe-requires-clause-filled : goal.make_metaframe-requires-clause-filled
make_metaframe-requires-clause-filled c =
    let (words, made, done, e, k) = c.requires.filled in
    let s = c.args.lanes.now.settings in
    let low : c.loop-number.number < s.lanes = omega (arith, c.loop-number-test.true, c.count-number-end.ensures) in
    round_ready s words c.args.group.now made c.loop-number.lanes.settings c.loop-number.number c.loop-number.lanes.lanes _ c.loop-number.invariant.settings low (c.loop-number.invariant.round words made done e k)

pub give-requires : goal.give-requires
give-requires c =
    let same = same_count c.loop-number.outputs c.args.outputs.now c.loop-number.invariant.names in
    let count = c.requires.count in
    omega (arith, same, count, c.loop-number-test.true, c.count-number-end.ensures)

pub loop-number-preserved : goal.loop-number-preserved
loop-number-preserved c =
    let s = c.args.lanes.now.settings in
    let n : ℕ = c.loop-number.number in
    let low : n < s.lanes = omega (arith, c.loop-number-test.true, c.count-number-end.ensures) in
    let bytes : List ℕ = c.make_metaframe.new.self.bytes in
    record {
      settings = c.make_metaframe.ensures.settings ∙ c.loop-number.invariant.settings;
      names = c.give.ensures.names ∙ c.loop-number.invariant.names;
      round = λ words made done e k.
          let files : List (List ℕ) = join done (rests_of c.loop-number.outputs) in
          let all : join done (rests_of c.give.new.self) ≡ longer files n bytes = join_given done (rests_of c.loop-number.outputs) (rests_of c.give.new.self) n c.bytes.result.now (c.in_ok-give.ensures {u = tt}).given ∙ ap (longer files n) c.bytes.ensures in
          subst (λ (fs : List (List ℕ)). InRound s words c.args.group.now made (n + 1) c.make_metaframe.new.self.lanes fs) (sym all)
          (round_turn s words c.args.group.now made n c.loop-number.lanes.lanes c.make_metaframe.new.self.lanes files bytes low (c.loop-number.invariant.round words made done e k)
          (subst (λ (t : Settings). MakesMetaframe t n c.args.group.now c.loop-number.lanes.lanes c.make_metaframe.new.self.lanes bytes) c.loop-number.invariant.settings c.make_metaframe.ensures.makes));
    }

pub returns-clause-filled : goal.returns-clause-filled
returns-clause-filled c words made done e k =
    round_ends c.args.lanes.now.settings words c.args.group.now made c.loop-number.number c.loop-number.lanes.lanes _ (omega (arith, c.loop-number-test.false, c.count-number-end.ensures)) (c.loop-number.invariant.round words made done e k)
