use Rattle.std.proofs.Common.{◌≡◌, ◌≤◌, ◌<◌, ◌-◌, ◌⊎◌, ℕ, List, length, nat_lt, refl, Option, Some, None, IfSome, IsSomeAnd, Ok, arith, inl, inr}
use Rattle.std.proofs.lemmas.Bool.{cases_Bool}
use Rattle.std.proofs.lemmas.Bool.Decides.{nat_tests}
use Rattle.lk_base.specs.Limits.{lane_limit}
use Rattle.lk_outside.specs.Files.{Files, file}
use Rattle.lane_receipts.specs.Taking.{IsPieceAt}
use Rattle.receive_commands.specs.declared.lane_buffer.LaneBuffer.{LaneBuffer}
use Rattle.receive_commands.specs.ReadLanes.{HoldsOf, IsBuffer, IsFront, held_from}
use Rattle.receive_commands.proofs.Buffers.{front_fills}
use Rattle.receive_commands.proofs.lane_buffer.LaneBuffer.refill.Goals as goal

-- bytes may be read, or the offset is past all bytes
some_left : (limit offset : ℕ) (bytes : List ℕ) → length bytes ≤ limit → (0 < limit - offset) ⊎ (length bytes ≤ offset)
some_left limit offset bytes few = elim (cases_Bool (nat_lt offset limit)) [
  | inl t ↦ inl (let lt : offset < limit = grind (arith, nat_tests) in omega arith)
  | inr t ↦ inr (let le : limit ≤ offset = grind (arith, nat_tests) in omega arith)
]

module _ (b : LaneBuffer) (name : List ℕ) (offset : ℕ) (is : IsBuffer b) (at : b.start ≡ offset) where
  filled : (x : Option Files) → IfSome x (λ files. IsSomeAnd (file files name) (IsFront offset (lane_limit - offset) b.count b.bytes.items))
      → IfSome x (λ files. (bytes : List ℕ) → file files name ≡ Some bytes → length bytes ≤ lane_limit → HoldsOf bytes b × IsPieceAt offset (held_from b offset) bytes)
  filled None h = tt
  filled (Some files) h = λ bytes there few.
      let front : IsFront offset (lane_limit - offset) b.count b.bytes.items bytes = rw there at h in
      front_fills b bytes offset (lane_limit - offset) is at front (some_left lane_limit offset bytes few)

pub returns-clause-reads : goal.returns-clause-reads
returns-clause-reads g c =
    let b : LaneBuffer = record { start = c.args.offset; count = c.in_ok-count.count; bytes = c.read_chunk.new.bytes } in
    let old = c.requires.buffer in
    let room = c.in_ok-count.ensures.room in
    let few = c.in_ok-count.ensures.few in
    let within = c.requires.within in
    let is : IsBuffer b = record { room = omega arith; inside = omega arith; within = omega arith } in
    filled b c.args.name.now c.args.offset is refl (g.S.Store.files c.args.store.now) c.in_ok-count.ensures.reads
