use Rattle.std.proofs.Common.{inr, ℕ, arith, length-append, ◌∷◌, [], ◌++◌, length, refl, sym, subst}
use Rattle.stream_model.specs.Calendar.{told_by_row}
use Rattle.stream_model.specs.declared.rows.FlowRow.{FlowRow}
use Rattle.calendar.specs.Changes.{words_back, told_back}
use Rattle.calendar.specs.Incoming.{Stands}
use Rattle.calendar.specs.declared.incoming.CalendarIn.{CalendarIn}
use Rattle.burst_scheduler.specs.Asked.{Asked, flow_added}
use Rattle.burst_scheduler.specs.Gives.{planned, HasBegun}
use Rattle.burst_scheduler.proofs.Calls.{ring_more}
use Rattle.burst_scheduler.proofs.Turning.{relined}
use Rattle.burst_scheduler.proofs.FlowRows.{flow_step, words_flow_step, line_of, row_later, bursts_below}
use Rattle.burst_scheduler.proofs.scheduler.Scheduler.take_flow.Goals as goal

-- the call asked for a flow
asked : (a : Asked) (word : ℕ) → HasBegun (flow_added a word)
asked a word = inr (let l = length-append a.source.flow (record { slot = length a.words; word = word } ∷ []) in omega (arith, l))

pub turn_all-requires : goal.turn_all-requires
turn_all-requires c =
    let (a, word, words, still, fields) = c.requires.gives in
    let begun = c.begin.ensures.words a words.holds in
    let row : FlowRow = record { slot = length a.words; word = word } in
    let h = line_of c.begin.new.self a begun.0 begun.1 in (
      a.source,
      told_back a.source.entries a.source.flow,
      planned c.begin.new.self a,
      told_by_row a.source.entries (length a.source.flow) (words_back a.source.flow) row,
      relined c.begin.new.self _ a.source (told_back a.source.entries a.source.flow) (told_back a.source.entries a.source.flow) (planned c.begin.new.self a) h refl refl refl h.room h.line,
      c.take.ensures.changed a.source.entries a.source.flow (length a.words) word begun.0.incoming fields,
      row_later a.source.entries a.source.flow row (planned c.begin.new.self a) begun.0.flow (bursts_below (planned c.begin.new.self a) (length a.words) begun.0.begun),
    )

pub returns-clause-gives : goal.returns-clause-gives
returns-clause-gives c a word g open_still fields =
    let begun = c.begin.ensures.runs a g.runs in
    let k = c.turn_all.ensures.rest in
    let row : FlowRow = record { slot = length a.words; word = word } in
    let h = line_of c.begin.new.self a begun.0.words begun.1 in
    let taken = c.take.ensures.stands a.source.entries a.source.flow (length a.words) word begun.0.words.incoming fields in
    let changed = c.take.ensures.changed a.source.entries a.source.flow (length a.words) word begun.0.words.incoming fields in
    record {
      runs = flow_step c.begin.new.self c.turn_all.new.self a word begun.0 begun.1 open_still
          (record { settings = k.settings; channels = k.channels; words = k.words; rest = k.rest })
          (subst (λ (calendar : CalendarIn). Stands calendar a.source.entries (a.source.flow ++ row ∷ [])) (sym k.incoming) taken)
          (c.turn_all.ensures.line a.source (told_back a.source.entries a.source.flow) (planned c.begin.new.self a) (told_by_row a.source.entries (length a.source.flow) (words_back a.source.flow) row)
          (relined c.begin.new.self _ a.source (told_back a.source.entries a.source.flow) (told_back a.source.entries a.source.flow) (planned c.begin.new.self a) h refl refl refl h.room h.line)
          changed
          (row_later a.source.entries a.source.flow row (planned c.begin.new.self a) begun.0.words.flow (bursts_below (planned c.begin.new.self a) (length a.words) begun.0.words.begun)));
      waiting = λ _. asked a word;
    }

pub returns-clause-words : goal.returns-clause-words
returns-clause-words c a word g open_still fields =
    let begun = c.begin.ensures.words a g.holds in
    let k = c.turn_all.ensures.rest in
    let row : FlowRow = record { slot = length a.words; word = word } in
    let h = line_of c.begin.new.self a begun.0 begun.1 in
    let taken = c.take.ensures.stands a.source.entries a.source.flow (length a.words) word begun.0.incoming fields in
    let changed = c.take.ensures.changed a.source.entries a.source.flow (length a.words) word begun.0.incoming fields in
    record {
      holds = words_flow_step c.begin.new.self c.turn_all.new.self a word begun.0 begun.1
          (record { settings = k.settings; channels = k.channels; words = k.words; rest = k.rest })
          (subst (λ (calendar : CalendarIn). Stands calendar a.source.entries (a.source.flow ++ row ∷ [])) (sym k.incoming) taken)
          (c.turn_all.ensures.line a.source (told_back a.source.entries a.source.flow) (planned c.begin.new.self a) (told_by_row a.source.entries (length a.source.flow) (words_back a.source.flow) row)
          (relined c.begin.new.self _ a.source (told_back a.source.entries a.source.flow) (told_back a.source.entries a.source.flow) (planned c.begin.new.self a) h refl refl refl h.room h.line)
          changed
          (row_later a.source.entries a.source.flow row (planned c.begin.new.self a) begun.0.flow (bursts_below (planned c.begin.new.self a) (length a.words) begun.0.begun)));
      waiting = λ _. asked a word;
    }

pub returns-clause-links : goal.returns-clause-links
returns-clause-links c a g = ring_more c.args.self.now c.begin.new.self c.turn_all.new.self a 32 (c.begin.ensures.links a g) c.turn_all.ensures.links

pub begin-requires : goal.begin-requires
begin-requires c = let (a, word, words, still, fields) = c.requires.gives in (a, words.holds)

pub take-requires-clause-stands : goal.take-requires-clause-stands
take-requires-clause-stands c = let (a, word, words, still, fields) = c.requires.gives in (a.source.entries, a.source.flow, (c.begin.ensures.words a words.holds).0.incoming)
