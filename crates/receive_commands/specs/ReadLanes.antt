-- How the lanes of files are read.
use Rattle.std.specs.Prelude.{ℕ, zero, suc, ◌≡◌, ◌⊎◌, ◌≤◌, ◌<◌, ◌+◌, ◌-◌, ◌^◌, Bool, ◌&&◌, nat_le, nat_lt, List, [], ◌∷◌, get_or, length, take, drop, All, Option, Some, None, Result, Ok, Err, IsSomeAnd}
use Rattle.lk_outside.specs.Files.{Files, file}
use Rattle.run_stops.specs.declared.stop.Stop.{Stop}
use Rattle.run_stops.specs.Stops.{IsOfStore}
use Rattle.lane_receipts.specs.Taking.{IsPieceAt}
use Rattle.receive_commands.specs.declared.lane_buffer.LaneBuffer.{LaneBuffer}
use Rattle.receive_commands.specs.Receive.{lanes_in}

-- ---- the buffer of a lane

-- it has room, what is held keeps within it, and stands among the first 2^56 bytes
pub record IsBuffer (b : LaneBuffer) : Type 0 where
  pub room : 0 < length b.bytes.items
  pub inside : b.count ≤ length b.bytes.items
  pub within : b.start + b.count ≤ 2 ^ 56

-- nothing is held in it yet
pub record IsFresh (b : LaneBuffer) : Type 0 where
  pub buffer : IsBuffer b
  pub nothing : b.count ≡ 0

-- what is held is of these bytes
abbrev pub HoldsOf : List ℕ → LaneBuffer → Type 0
HoldsOf bytes b = take b.count b.bytes.items ≡ take b.count (drop b.start bytes)

-- what is held from this offset on, at most 4,096 bytes
abbrev pub held_from : LaneBuffer → ℕ → List ℕ
held_from b offset = take 4096 (drop (offset - b.start) (take b.count b.bytes.items))

-- the byte at this offset is held
abbrev pub holds_at : LaneBuffer → ℕ → Bool
holds_at b offset = nat_le b.start offset && nat_lt offset (b.start + b.count)

-- n bytes of the file stand at the front; none only at its end, or where none may be read
pub record IsFront (offset most n : ℕ) (front bytes : List ℕ) : Type 0 where
  pub taken : take n front ≡ take n (drop offset bytes)
  pub stops : n ≡ 0 → 0 < most → 0 < length front → length bytes ≤ offset

abbrev pub ReadsFront : Result ℕ Stop → List ℕ → ℕ → ℕ → List ℕ → Files → Type 0
ReadsFront (Ok n) name offset most front files = IsSomeAnd (file files name) (IsFront offset most n front)
ReadsFront (Err why) name offset most front files = IsOfStore (λ n. n ≡ name) why ⊎ (file files name ≡ None)

-- bytes of the lane from the offset on are held, unless it ends there; or the store, at this name, or memory stopped the reading
abbrev pub FillsBuffer : {T : Type 0} → List ℕ → List ℕ → ℕ → Result T Stop → LaneBuffer → Type 0
FillsBuffer name bytes offset (Ok _) b = HoldsOf bytes b × IsPieceAt offset (held_from b offset) bytes
FillsBuffer name bytes offset (Err why) b = IsOfStore (λ n. n ≡ name) why

-- ---- those of all lanes

abbrev pub piece_in : List LaneBuffer → ℕ → ℕ → List ℕ
piece_in [] lane offset = []
piece_in (b ∷ buffers) zero offset = held_from b offset
piece_in (b ∷ buffers) (suc lane) offset = piece_in buffers lane offset

-- what is held of each lane is of its bytes
abbrev pub AllHold : List (List ℕ) → List LaneBuffer → Type 0
AllHold [] [] = Unit {0}
AllHold (bytes ∷ lanes) (b ∷ buffers) = HoldsOf bytes b × AllHold lanes buffers
AllHold lanes buffers = ⊥

-- the lane's bytes are held so, and what is held of each lane is still of its bytes where it was
abbrev pub LanesFill : {T : Type 0} → List ℕ → List (List ℕ) → ℕ → ℕ → Result T Stop → List LaneBuffer → List LaneBuffer → Type 0
LanesFill name lanes lane offset (Ok _) before buffers = AllHold lanes before → AllHold lanes buffers × IsPieceAt offset (piece_in buffers lane offset) (get_or lanes lane [])
LanesFill name lanes lane offset (Err why) before buffers = AllHold lanes before → IsOfStore (λ n. n ≡ name) why

-- there is a buffer for each name
pub record AreBuffers (names : List (List ℕ)) (buffers : List LaneBuffer) : Type 0 where
  pub many : length names ≡ length buffers
  pub each : All IsBuffer buffers

-- these are the bytes of the files of these names, and what is held is of them
abbrev pub AreFileLanes : List (List ℕ) → List LaneBuffer → Option Files → List (List ℕ) → Type 0
AreFileLanes names buffers None lanes = ⊥
AreFileLanes names buffers (Some files) lanes = (lanes_in files names ≡ Ok lanes) × AllHold lanes buffers
