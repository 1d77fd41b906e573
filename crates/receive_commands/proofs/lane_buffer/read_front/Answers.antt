use Rattle.std.proofs.Common.{◌≡◌, ◌∙◌, ◌≤◌, ◌<◌, ◌-◌, ℕ, List, length, length-append, take, drop, ◌++◌, min, arith, inl, inr, Option, Some, None, IfSome, IfOk, IsSomeAnd, Result, Ok, Err}
use Rattle.std.proofs.lemmas.List.{length-drop, take-append-le}
use Rattle.lk_outside.specs.Files.{Files, file}
use Rattle.lk_outside.specs.Reads.{Reads}
use Rattle.run_stops.specs.declared.stop.Stop.{Stop}
use Rattle.run_stops.specs.declared.stop.Stop.TheVariants as stop
use Rattle.run_stops.specs.Reading.{ReadsPiece}
use Rattle.receive_commands.specs.ReadLanes.{IsFront, ReadsFront}
use Rattle.receive_commands.proofs.lane_buffer.read_front.Goals as goal

-- what stands after the bytes that were read is none of them
module _ (name buf rest : List ℕ) (offset most : ℕ) (some : 0 < most → 0 < length (buf ++ rest) → 0 < length buf) where
  one_front : (n : ℕ) (o : Option (List ℕ)) → n ≤ length buf → IsSomeAnd o (λ bytes. Reads bytes offset n buf) → IsSomeAnd o (IsFront offset most n (buf ++ rest))
  one_front n None le h = h
  one_front n (Some bytes) le h = record {
    taken = take-append-le n buf rest le ∙ h.taken;
    stops = λ none more room. h.stops none (some more room);
  }

  front_at : (files : Files) (result : Result ℕ Stop) → IfOk result (λ n. n ≤ length buf) → ReadsPiece result name offset buf files → ReadsFront result name offset most (buf ++ rest) files
  front_at files (Ok n) le h = one_front n (file files name) le h
  front_at files (Err (stop.Plan why)) le h = absurd h
  front_at files (Err (stop.Input n why)) le h = inr h.2
  front_at files (Err (stop.Store n)) le h = inl h
  front_at files (Err stop.StoreNoMemory) le h = inl tt
  front_at files (Err stop.OutOfMemory) le h = inl tt

  front : (x : Option Files) (result : Result ℕ Stop) → IfOk result (λ n. n ≤ length buf) → IfSome x (ReadsPiece result name offset buf) → IfSome x (ReadsFront result name offset most (buf ++ rest))
  front None result le h = tt
  front (Some files) result le h = front_at files result le h

pub returns-clause-reads : goal.returns-clause-reads
returns-clause-reads g c =
    let buf = c.read_piece.new.buf in
    let rest = drop c.min-count.result c.args.bytes.now in
    let same = c.read_piece.auto.buf in
    let count = c.min-count.ensures in
    let all = length-append buf rest in
    let behind = length-drop c.min-count.result c.args.bytes.now in
    front c.args.name.now buf rest c.args.offset c.args.most (λ more room. omega arith) (g.S.Store.files c.args.store.now) c.read_piece.result c.read_piece.ensures.within c.read_piece.ensures.reads
