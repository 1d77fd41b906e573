-- Events are passed, and the others are left.
use Rattle.std.proofs.Common.{◌≡◌, ℕ, ◌+◌, ◌-◌, ◌<◌, ◌≤◌, List, [], ◌∷◌, ◌++◌, length, drop, get_or, replicate, append_assoc, length-append, refl, sym, ap, subst, ◌∙◌, arith}
use Rattle.std.proofs.Math.Seq.{drop-append_seam}
use Rattle.std.proofs.lemmas.List.{drop_all, drop-drop, drop_more, length-replicate, replicate-append-replicate}
use Rattle.std.proofs.lemmas.List.Sums.{sum_by-cons}
use Rattle.resend_events.specs.Events.{count_of, times}
use Rattle.resend_events.specs.declared.event.Event.{Event}
use Rattle.resend_events.specs.declared.event.Event.TheVariants.{Send}
use Rattle.resend_events.specs.declared.row.EventRow.{EventRow}
use Rattle.retransmit.specs.Rows.{events_of}
use Rattle.resend_commands.specs.Left.{events_left}
use Rattle.resend_commands.specs.declared.place.Place.{Place}

-- ---- an event that comes often

after_some : (n : ℕ) (event : Event) (more : List Event) → drop n (replicate n event ++ more) ≡ more
after_some n event more = subst (λ (k : ℕ). drop k (replicate n event ++ more) ≡ more) (length-replicate n event) (drop-append_seam (replicate n event) more)

-- it was done some times, and n times more
some_more : (count done n : ℕ) (event : Event) (more : List Event) → done + n ≤ count → drop done (replicate count event ++ more) ≡ replicate n event ++ drop (done + n) (replicate count event ++ more)
some_more count done n event more le =
    let rest = count - (done + n) in
    let all : count ≡ done + (n + rest) = omega (arith, le) in
    let behind : List Event = replicate rest event ++ more in
    let parts : replicate count event ++ more ≡ replicate done event ++ (replicate n event ++ behind) =
    ap (λ (k : ℕ). replicate k event ++ more) all
    ∙ ap (λ (l : List Event). l ++ more) (sym (replicate-append-replicate done (n + rest) event))
    ∙ append_assoc (replicate done event) (replicate (n + rest) event) more
    ∙ ap (λ (l : List Event). replicate done event ++ (l ++ more)) (sym (replicate-append-replicate n rest event))
    ∙ ap (λ (l : List Event). replicate done event ++ l) (append_assoc (replicate n event) (replicate rest event) more) in
    let first : drop done (replicate count event ++ more) ≡ replicate n event ++ behind = ap (drop done) parts ∙ after_some done event (replicate n event ++ behind) in
    let later : drop (done + n) (replicate count event ++ more) ≡ behind = sym (drop-drop n done (replicate count event ++ more)) ∙ ap (drop n) first ∙ after_some n event behind in
    first ∙ ap (λ (l : List Event). replicate n event ++ l) (sym later)

-- ---- rows

-- the events are as many as the rows say
pub events_count : (rows : List EventRow) → length (events_of rows) ≡ count_of rows
events_count [] = refl
events_count (row ∷ rows) =
    length-append (replicate row.count row.event) (events_of rows)
    ∙ ap (λ (n : ℕ). n + length (events_of rows)) (length-replicate row.count row.event)
    ∙ ap (λ (n : ℕ). row.count + n) (events_count rows)
    ∙ sym (sum_by-cons (λ (r : EventRow). r.count) row rows)

-- no event is left after the last row
pub none_left : (rows : List EventRow) (place : Place) → place.row ≡ length rows → events_left rows place ≡ []
none_left rows place end = ap (λ (rs : List EventRow). drop place.done (events_of rs)) (drop_all place.row rows (omega (arith, end))) ∙ drop_all place.done [] (omega arith)

module _ (rows : List EventRow) (row done : ℕ) (lt : row < length rows) where
  abbrev here : EventRow
  here = get_or rows row (times Send 0)

  abbrev at : ℕ → ℕ → Place
  at r d = record { row = r; done = d }

  -- the events from this row on
  from_row : events_of (drop row rows) ≡ replicate here.count here.event ++ events_of (drop (row + 1) rows)
  from_row = ap events_of (drop_more rows row (times Send 0) lt)

  -- n events more of this row
  pub some_passed : (n : ℕ) → done + n ≤ here.count → events_left rows (at row done) ≡ replicate n here.event ++ events_left rows (at row (done + n))
  some_passed n le =
      ap (drop done) from_row
      ∙ some_more here.count done n here.event (events_of (drop (row + 1) rows)) le
      ∙ ap (λ (l : List Event). replicate n here.event ++ drop (done + n) l) (sym from_row)

  -- all that were left of it
  pub row_passed : (n : ℕ) → done + n ≡ here.count → events_left rows (at row done) ≡ replicate n here.event ++ events_left rows (at (row + 1) 0)
  row_passed n all =
      some_passed n (omega (arith, all))
      ∙ ap (λ (l : List Event). replicate n here.event ++ l)
      (ap (drop (done + n)) from_row ∙ ap (λ (k : ℕ). drop k (replicate here.count here.event ++ events_of (drop (row + 1) rows))) all ∙ after_some here.count here.event (events_of (drop (row + 1) rows)))

-- so many fewer are left
pub left_after : (rows : List EventRow) (old new : Place) (n : ℕ) (event : Event) → events_left rows old ≡ replicate n event ++ events_left rows new → length (events_left rows old) ≡ n + length (events_left rows new)
left_after rows old new n event e =
    ap length e
    ∙ length-append (replicate n event) (events_left rows new)
    ∙ ap (λ (k : ℕ). k + length (events_left rows new)) (length-replicate n event)
