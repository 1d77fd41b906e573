use Rattle.std.proofs.Common.{◌≡◌, ◌∙◌, ◌≤◌, ℕ, List, length, sym, Option, Some, None, IfSome}
use Rattle.lk_base.specs.Limits.{lane_limit}
use Rattle.lk_outside.specs.Files.{Files, file}
use Rattle.lane_receipts.specs.Taking.{IsPieceAt}
use Rattle.receive_commands.specs.ReadLanes.{HoldsOf, held_from}
use Rattle.receive_commands.proofs.Buffers.{already_held, held_so}
use Rattle.receive_commands.proofs.lane_buffer.LaneBuffer.read_on.Goals as goal

pub returns-then-holds-clause-reads : goal.returns-then-holds-clause-reads
returns-then-holds-clause-reads g c = by (g.S.Store.files c.args.store.now)
  where
    by : (x : Option Files) → IfSome x (λ files. (bytes : List ℕ) → file files c.args.name.now ≡ Some bytes → length bytes ≤ lane_limit → HoldsOf bytes c.args.self.now → HoldsOf bytes c.args.self.now × IsPieceAt c.args.offset (held_from c.args.self.now c.args.offset) bytes)
    by None = tt
    by (Some files) = λ bytes there few holds.
        let so = held_so c.args.self.now c.args.offset (sym c.holds.ensures ∙ c.if-holds.true) in
        (holds, already_held c.args.self.now bytes c.args.offset c.requires.buffer holds so.0 so.1)
