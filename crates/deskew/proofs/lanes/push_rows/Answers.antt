-- One more lane writes its words.
use Rattle.std.proofs.Common.{◌≡◌, ap, ◌∙◌, ◌+◌, ◌*◌, List, drop, length}
use Rattle.lk_base.specs.declared.word.RxWord.{RxWord}
use Rattle.deskew.specs.Spread.{column, spread_all}
use Rattle.deskew.proofs.Spread.{all_spread, lane_more, length_spread}
use Rattle.deskew.proofs.lanes.push_rows.Goals as goal

pub loop-i-init : goal.loop-i-init
loop-i-init c =
    let long : length c.resize.new.self.words ≡ c.args.rows * length c.args.lanes.now = c.resize.ensures.words in
    (c.resize.ensures.room, long, all_spread c.args.after c.args.rows c.args.lanes.now c.resize.new.self.words long)

pub loop-i-preserved : goal.loop-i-preserved
loop-i-preserved c =
    let inv = c.loop-i.invariant in
    let lanes = c.args.lanes.now in
    let i = c.loop-i.i in
    let lane = c.index-lanes-i.result in
    let step = length lanes in (
      c.spread.ensures.room ∙ inv.0,
      ap length c.spread.ensures.words ∙ length_spread step i (column c.args.after c.args.rows lane) c.loop-i.block.words ∙ inv.1,
      ap (λ (ws : List RxWord). spread_all step (i + 1) c.args.after c.args.rows (drop (i + 1) lanes) ws) c.spread.ensures.words
          ∙ lane_more step i c.args.after c.args.rows lanes lane c.loop-i.block.words c.loop-i-test.true c.index-lanes-i.is ∙ inv.2,
    )
