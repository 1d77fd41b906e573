use Rattle.std.proofs.Common.{◌≡◌, Some, sym, ap, ◌∙◌}
use Rattle.std.proofs.lemmas.Option.{slice_get_within}
use Rattle.stream_model.specs.BurstStream.{Chunk}
use Rattle.burst_scheduler.specs.Queues.{chunks_in}
use Rattle.live_stream.proofs.Left.{held_of, the_chunk}
use Rattle.live_stream.proofs.waiting.Waiting.is_first.Goals as goal

some_same : (x y : Chunk) → Some x ≡ Some y → x ≡ y
some_same x y e = cc

pub returns : goal.returns
returns c sizes packets done chunk h is =
    let held = held_of sizes c.args.self.now packets done h (slice_get_within (chunks_in sizes packets) done chunk is) in
    ap (λ (k : Chunk). k.is_first) (some_same _ chunk (sym (the_chunk sizes c.args.self.now packets done h held.0 held.1 held.2) ∙ is))
