-- Nothing is put yet.
use Rattle.std.proofs.Common.{refl}
use Rattle.reassembly.proofs.MadeFirst.{stands-first}
use Rattle.reassembly.proofs.reassembly.Reassembly.new.Goals as goal

pub returns : goal.returns
returns c = (
  (c.in_ok-waiting.ensures.items, refl),
  λ setting of. rw (c.in_ok-waiting.ensures.items, c.begun_by.ensures, c.first_run.ensures, c.in_ok-table.ensures.greatest, c.in_ok-table.ensures.numbers, c.in_ok-table.ensures.packet)
      (stands-first setting c.in_ok-sorted.sorted.items c.args.channels.now c.args.max_packet c.args.wide c.in_ok-table.table.rows
      c.in_ok-sorted.ensures.rising c.in_ok-sorted.ensures.same c.in_ok-table.ensures.rows of),
)
