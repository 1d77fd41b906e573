use Rattle.std.proofs.Common.{ℕ, ◌≡◌, ◌+◌, ◌<◌, [], ◌++◌, ◌∙◌, refl, sym, ap, subst, map, get_or, List, arith}
use Rattle.std.proofs.lemmas.List.{get_or-map, length-map, length-set, map-set}
use Rattle.std.proofs.Math.ListN.{set}
use Rattle.lk_base.specs.Link.{Settings, group_of}
use Rattle.tx_end.specs.Rounds.{InRound, MakesMetaframe, longer}
use Rattle.tx_end.proofs.Rounds.{round_begins, round_ends, round_ready, round_turn}
use Rattle.tx_end.proofs.lanes.fill_group.Goals as goal

pub loop-number-init : goal.loop-number-init
loop-number-init c = record {
  settings = refl;
  files_count = (let (words, made, e, k) = c.requires.filled in sym (length-map c.args.files.now (λ file. file.items)) ∙ k.files_count);
  round = λ words made e k. round_begins c.args.filler.now.settings words c.args.group.now made c.args.filler.now.lanes _ e k;
}

pub make_metaframe-requires-clause-lane : goal.make_metaframe-requires-clause-lane
make_metaframe-requires-clause-lane c =
    let same : c.loop-number.filler.settings.lanes ≡ c.args.filler.now.settings.lanes = ap (λ (s : Settings). s.lanes) c.loop-number.invariant.settings in
    omega (arith, same, c.loop-number-test.true, c.count-number-end.ensures)

pub make_metaframe-requires-clause-group : goal.make_metaframe-requires-clause-group
make_metaframe-requires-clause-group c = c.requires.group ∙ ap group_of (sym c.loop-number.invariant.settings)

pub make_metaframe-requires-clause-filled : goal.make_metaframe-requires-clause-filled
make_metaframe-requires-clause-filled c =
    let (words, made, e, k) = c.requires.filled in
    let s = c.args.filler.now.settings in
    let low : c.loop-number.number < s.lanes = omega (arith, c.loop-number-test.true, c.count-number-end.ensures) in
    round_ready s words c.args.group.now made c.loop-number.filler.settings c.loop-number.number c.loop-number.filler.lanes _ c.loop-number.invariant.settings low (c.loop-number.invariant.round words made e k)

pub loop-number-preserved : goal.loop-number-preserved
loop-number-preserved c =
    let s = c.args.filler.now.settings in
    let n : ℕ = c.loop-number.number in
    let low : n < s.lanes = omega (arith, c.loop-number-test.true, c.count-number-end.ensures) in
    let files : List (List ℕ) = map (λ file. file.items) c.loop-number.files in
    let file : List ℕ = c.extend_from_slice.new.self.items in
    let old : List ℕ = get_or files n [] in
    let own : (get_or c.loop-number.files n c.index-files-number.result).items ≡ old = sym (get_or-map (λ file. file.items) c.loop-number.files n c.index-files-number.result [] (omega (arith, low, c.loop-number.invariant.files_count))) in
    let now : file ≡ old ++ c.make_metaframe.new.self.bytes = (c.in_ok-extend_from_slice.ensures {u = tt}).items ∙ ap (λ b. b ++ c.bytes.result.now) own ∙ ap (λ b. old ++ b) c.bytes.ensures in
    let all : map (λ file. file.items) (set c.loop-number.files n c.extend_from_slice.new.self) ≡ longer files n c.make_metaframe.new.self.bytes = map-set (λ file. file.items) c.loop-number.files n c.extend_from_slice.new.self ∙ ap (λ b. set files n b) now in
    record {
      settings = c.make_metaframe.ensures.settings ∙ c.loop-number.invariant.settings;
      files_count = length-set c.loop-number.files n c.extend_from_slice.new.self ∙ c.loop-number.invariant.files_count;
      round = λ words made e k.
          subst (λ (fs : List (List ℕ)). InRound s words c.args.group.now made (n + 1) c.make_metaframe.new.self.lanes fs) (sym all)
          (round_turn s words c.args.group.now made n c.loop-number.filler.lanes c.make_metaframe.new.self.lanes files c.make_metaframe.new.self.bytes low (c.loop-number.invariant.round words made e k)
          (subst (λ (t : Settings). MakesMetaframe t n c.args.group.now c.loop-number.filler.lanes c.make_metaframe.new.self.lanes c.make_metaframe.new.self.bytes) c.loop-number.invariant.settings c.make_metaframe.ensures.makes));
    }

pub returns-clause-filled : goal.returns-clause-filled
returns-clause-filled c words made e k =
    round_ends c.args.filler.now.settings words c.args.group.now made c.loop-number.number c.loop-number.filler.lanes _ (omega (arith, c.loop-number-test.false, c.count-number-end.ensures)) (c.loop-number.invariant.round words made e k)
