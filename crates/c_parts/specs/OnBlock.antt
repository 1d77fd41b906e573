-- What a block for C owns: the same as a box of its value, if it has one.
use base.Fml.{Fml, ftrue}
use denote.RattleType.{RattleType}
use denote.Param.{param}
use denote.RawPtr.{Ptr}
use Rattle.std.specs.Prelude.{Option, Some, None}
use Rattle.std.specs.Box.Ownership.{box_owns}
use Rattle.std.specs.Global.{Global}
use Rattle.std_heap.specs.contracts.GlobalAllocator.TheImpl.{ghosts}

abbrev pub block_owns : (row : RattleType) → Global → Ptr → Option row.Denot → Fml
block_owns row alloc ptr None = ftrue
block_owns row alloc ptr (Some value) = box_owns (ghosts.dealloc_token alloc) (param 0 row) ptr value
