use Rattle.std.proofs.Common.{◌∙◌, sym, subst, List, ℕ}
use Rattle.std.proofs.lemmas.Result.{err_from_is_err_and}
use Rattle.lk_base.specs.Limits.{longest_packet}
use Rattle.reassembly.specs.OutputLaws.{HasSize}
use Rattle.duplex_commands.specs.Captures.{Keeps, more_at_a, more_at_b}
use Rattle.duplex_commands.proofs.Kept.{no_memory_at}
use Rattle.duplex_commands.proofs.slots.take_packet.Goals as goal

pub returns-in_err-bytes-clause-keeps : goal.returns-in_err-bytes-clause-keeps
returns-in_err-bytes-clause-keeps g c b got_a got_b first last is =
    let p = err_from_is_err_and c.from_residual.result c.from_residual.ensures.1 in
    rw (p.1, p.2) (no_memory_at b got_a got_b c.args.captures.now _ is c.args.got.end c.args.got.channel _)

pub put-requires-clause-sized : goal.put-requires-clause-sized
put-requires-clause-sized g c = subst (HasSize longest_packet) (sym (c.deref.ensures.value ∙ c.in_ok-bytes.ensures)) c.requires.sized

pub returns-clause-keeps : goal.returns-clause-keeps
returns-clause-keeps g c b got_a got_b first last is =
    subst (λ (bytes : List ℕ). Keeps b (more_at_a c.args.got.end c.args.got.channel (record { bytes = bytes; first = first; last = last }) got_a) (more_at_b c.args.got.end c.args.got.channel (record { bytes = bytes; first = first; last = last }) got_b) c.put.result c.put.new.self (g.S.Store.files c.put.new.store)) (c.deref.ensures.value ∙ c.in_ok-bytes.ensures)
    (c.put.ensures.keeps b got_a got_b first last is)
