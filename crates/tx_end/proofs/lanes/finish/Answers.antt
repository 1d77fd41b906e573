use Rattle.std.proofs.Common.{ℕ, ◌≡◌, ◌+◌, ◌<◌, [], ◌++◌, ◌∙◌, refl, sym, ap, subst, map, length, get_or, List, arith}
use Rattle.std.proofs.lemmas.List.{get_or-map, length-map, length-set, map-set}
use Rattle.std.proofs.Math.ListN.{set}
use Rattle.lk_base.specs.Link.{Settings}
use Rattle.tx_end.specs.Rounds.{InLastRound, longer}
use Rattle.tx_end.proofs.Rounds.{last_begins, last_ends, last_turn, last_waiting}
use Rattle.tx_end.proofs.lanes.finish.Goals as goal

pub loop-number-init : goal.loop-number-init
loop-number-init c = record {
  settings = refl;
  files_count = refl;
  round = λ words made k. last_begins c.args.filler.now.settings words made c.args.filler.now.lanes _ k;
}

pub make_end-requires-clause-lane : goal.make_end-requires-clause-lane
make_end-requires-clause-lane c =
    let same : c.loop-number.filler.settings.lanes ≡ c.args.filler.now.settings.lanes = ap (λ (s : Settings). s.lanes) c.loop-number.invariant.settings in
    omega (arith, same, c.loop-number-test.true, c.count-number-end.ensures)

pub make_end-requires-clause-waiting : goal.make_end-requires-clause-waiting
make_end-requires-clause-waiting c =
    let (words, made, k) = c.requires.filled in
    let low : c.loop-number.number < c.args.filler.now.settings.lanes = omega (arith, c.loop-number-test.true, c.count-number-end.ensures) in
    last_waiting c.args.filler.now.settings words made c.loop-number.number c.loop-number.filler.lanes _ low (c.loop-number.invariant.round words made k)

pub loop-number-preserved : goal.loop-number-preserved
loop-number-preserved c =
    let s = c.args.filler.now.settings in
    let n : ℕ = c.loop-number.number in
    let low : n < s.lanes = omega (arith, c.loop-number-test.true, c.count-number-end.ensures) in
    let (words, made, k) = c.requires.filled in
    let many : length c.loop-number.files ≡ s.lanes = c.loop-number.invariant.files_count ∙ sym (length-map c.args.files.now (λ file. file.items)) ∙ k.files_count in
    let files : List (List ℕ) = map (λ file. file.items) c.loop-number.files in
    let file : List ℕ = c.extend_from_slice.new.self.items in
    let old : List ℕ = get_or files n [] in
    let own : (get_or c.loop-number.files n c.index-files-number.result).items ≡ old = sym (get_or-map (λ file. file.items) c.loop-number.files n c.index-files-number.result [] (omega (arith, low, many))) in
    let now : file ≡ old ++ c.make_end.new.self.bytes = (c.in_ok-extend_from_slice.ensures {u = tt}).items ∙ ap (λ b. b ++ c.bytes.result.now) own ∙ ap (λ b. old ++ b) c.bytes.ensures in
    let all : map (λ file. file.items) (set c.loop-number.files n c.extend_from_slice.new.self) ≡ longer files n c.make_end.new.self.bytes = map-set (λ file. file.items) c.loop-number.files n c.extend_from_slice.new.self ∙ ap (λ b. set files n b) now in
    record {
      settings = c.make_end.ensures.settings ∙ c.loop-number.invariant.settings;
      files_count = length-set c.loop-number.files n c.extend_from_slice.new.self ∙ c.loop-number.invariant.files_count;
      round = λ words made k.
          subst (λ (fs : List (List ℕ)). InLastRound s words made (n + 1) c.make_end.new.self.lanes fs) (sym all)
          (last_turn s words made n c.loop-number.filler.lanes c.make_end.new.self.lanes files c.make_end.new.self.bytes low (c.loop-number.invariant.round words made k) c.make_end.ensures.makes);
    }

pub returns-clause-ended : goal.returns-clause-ended
returns-clause-ended c words made k =
    last_ends c.args.filler.now.settings words made c.loop-number.number c.loop-number.filler.lanes _ (omega (arith, c.loop-number-test.false, c.count-number-end.ensures)) (c.loop-number.invariant.round words made k)
