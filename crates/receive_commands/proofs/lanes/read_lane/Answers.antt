use Rattle.std.proofs.Common.{◌≡◌, ◌<◌, ◌≤◌, ℕ, List, [], length, set, get_or, sym, subst, Option, Some, None, IfSome, Result, Ok, Err}
use Rattle.lk_base.specs.Limits.{lane_limit}
use Rattle.lk_outside.specs.Files.{Files, file}
use Rattle.run_stops.specs.declared.stop.Stop.{Stop}
use Rattle.lane_receipts.specs.Taking.{IsPieceAt}
use Rattle.receive_commands.specs.declared.lane_buffer.LaneBuffer.{LaneBuffer}
use Rattle.receive_commands.specs.ReadLanes.{FillsBuffer, HoldsOf, LanesFill}
use Rattle.receive_commands.proofs.Buffers.{hold_at, hold_set, piece_set}
use Rattle.receive_commands.proofs.lanes.read_lane.Goals as goal

module _ {T : Type 0} (name : List ℕ) (buffers : List LaneBuffer) (lane offset : ℕ) (before after : LaneBuffer) (lt : lane < length buffers) (is : before ≡ get_or buffers lane before) where
  lanes_fill : (lanes : List (List ℕ)) (result : Result T Stop) → (HoldsOf (get_or lanes lane []) before → FillsBuffer name (get_or lanes lane []) offset result after) → LanesFill name lanes lane offset result buffers (set buffers lane after)
  lanes_fill lanes (Ok x) h = λ all.
      let (holds, piece) = h (hold_at lanes buffers lane before lt is all) in
      (hold_set lanes buffers lane after all holds, subst (λ p. IsPieceAt offset p (get_or lanes lane [])) (sym (piece_set buffers lane offset after lt)) piece)
  lanes_fill lanes (Err why) h = λ all. h (hold_at lanes buffers lane before lt is all)

pub returns-clause-reads : goal.returns-clause-reads
returns-clause-reads g c =
    by (g.S.Store.files c.args.store.now)
    (subst (λ (b : LaneBuffer). IfSome (g.S.Store.files c.args.store.now) (λ files. (bytes : List ℕ) → file files c.args.name.now ≡ Some bytes → length bytes ≤ lane_limit → HoldsOf bytes b → FillsBuffer c.args.name.now bytes c.args.offset c.read_on.result c.read_on.new.self)) (sym c.index-buffers-lane.is) c.read_on.ensures.reads)
  where
    by : (x : Option Files) → IfSome x (λ files. (bytes : List ℕ) → file files c.args.name.now ≡ Some bytes → length bytes ≤ lane_limit → HoldsOf bytes c.index-buffers-lane.result → FillsBuffer c.args.name.now bytes c.args.offset c.read_on.result c.read_on.new.self)
        → IfSome x (λ files. (lanes : List (List ℕ)) → file files c.args.name.now ≡ Some (get_or lanes c.args.lane []) → length (get_or lanes c.args.lane []) ≤ lane_limit → LanesFill c.args.name.now lanes c.args.lane c.args.offset c.read_on.result c.args.buffers.now (set c.args.buffers.now c.args.lane c.read_on.new.self))
    by None h = tt
    by (Some files) h = λ lanes there few. lanes_fill c.args.name.now c.args.buffers.now c.args.lane c.args.offset c.index-buffers-lane.result c.read_on.new.self c.requires.place c.index-buffers-lane.is lanes c.read_on.result (h (get_or lanes c.args.lane []) there few)
