use Rattle.std.proofs.Common.{ℕ, length, refl, sym, subst}
use Rattle.stream_model.specs.Calendar.{told_by_row}
use Rattle.stream_model.specs.declared.rows.FlowRow.{FlowRow}
use Rattle.calendar.specs.Changes.{words_back, told_back}
use Rattle.calendar.proofs.Rows.{told_back_more}
use Rattle.burst_scheduler.proofs.FlowRows.{row_later, bursts_below}
use Rattle.duplex_model.specs.DuplexRun.{heard_word}
use Rattle.duplex_model.proofs.Telling.{upper_of_heard, heard_crc}
use Rattle.live_stream.specs.Gives.{planned, source_of}
use Rattle.live_stream.specs.Turns.{AreInTurn}
use Rattle.live_stream.specs.Waiting.{channels_of}
use Rattle.live_stream.proofs.More.{flow_step}
use Rattle.live_stream.proofs.scheduler.LiveScheduler.hear.Goals as goal

pub returns-clause-open : goal.returns-clause-open
returns-clause-open c g w h open_still =
    let s = c.args.self.now in
    let k = h.words in
    let heard : ℕ = heard_word c.args.word in
    let right = c.verified_word.ensures heard (upper_of_heard c.args.word, heard_crc c.args.word) in
    let row : FlowRow = record { slot = length w; word = heard } in
    let taken = c.take.ensures.stands g.entries g.flow (length w) heard k.incoming right in
    let changed = c.take.ensures.changed g.entries g.flow (length w) heard k.incoming right in
    let later = row_later g.entries g.flow row (planned s w) k.given_by.flow (bursts_below (planned s w) (length w) k.begun) in
    let order = c.turn_all.ensures.turns g.channels (told_back g.entries g.flow) (planned s w) (told_by_row g.entries (length g.flow) (words_back g.flow) row) k.turns changed later in
    let left = c.turn_all.ensures.left s.sizes (source_of g) (planned s w) k.left in
    (refl, flow_step s g w h open_still c.turn_all.new.turns c.take.new.self heard taken (subst (λ ts. AreInTurn g.channels ts (planned s w) (channels_of c.turn_all.new.turns.items)) (sym (told_back_more g.entries g.flow row)) order) left)
