use Rattle.std.proofs.Common.{◌≡◌, ◌∙◌, ◌-◌, ℕ, List, sym, subst, length, take, drop, ◌++◌, IfSome}
use Rattle.std.proofs.lemmas.List.{take_at}
use Rattle.lk_base.specs.Limits.{lane_limit}
use Rattle.receive_commands.specs.ReadLanes.{ReadsFront}
use Rattle.receive_commands.proofs.lane_buffer.read_chunk.Goals as goal

pub returns-clause-reads : goal.returns-clause-reads
returns-clause-reads g c =
    let whole : length c.read_front.new.bytes ≡ c.args.bytes.now.len = c.read_front.ensures.room ∙ c.deref_mut.ensures.len in
    subst (λ (bytes : List ℕ). IfSome (g.S.Store.files c.args.store.now) (ReadsFront c.read_front.result c.args.name.now c.args.offset (lane_limit - c.args.offset) bytes))
    (sym (take_at c.read_front.new.bytes (drop (length c.read_front.new.bytes) c.args.bytes.now.items) c.args.bytes.now.len whole))
    (subst (λ (most : ℕ). IfSome (g.S.Store.files c.args.store.now) (ReadsFront c.read_front.result c.args.name.now c.args.offset most c.read_front.new.bytes)) c.saturating_sub-most.ensures c.read_front.ensures.reads)
