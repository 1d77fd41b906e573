-- Of the rows of the present slot only what the last of each channel says counts: a row that says what already holds changes
-- nothing.
use Rattle.std.proofs.Common.{◌≡◌, inl, inr, ℕ, suc, ◌<◌, ◌≤◌, Bool, true, false, List, [], ◌∷◌, ◌++◌, length, take, find, reverse, ◌==◌, if◌then◌else◌, Some, All, refl, sym, ap, ◌∙◌, arith}
use Rattle.std.specs.Option.{option_map_or}
use Rattle.std.proofs.lemmas.Bool.{cases_lt}
use Rattle.std.proofs.lemmas.List.{reverse-append, length-take-le}
use Rattle.std.proofs.lemmas.List.Elements.{All-cons, All-append, All-weaker}
use Rattle.std.proofs.lemmas.Option.{slice_get_within}
use Rattle.lk_base.specs.declared.word.Word.{Word}
use Rattle.lk_base.specs.declared.word.Word.TheVariants.{Control}
use Rattle.stream_model.specs.BurstStream.{IsAt}
use Rattle.stream_model.specs.Calendar.{Told}
use Rattle.stream_model.specs.declared.rows.LocalRow.{LocalRow}
use Rattle.calendar.specs.Outgoing.{last_local}
use Rattle.burst_scheduler.specs.Asked.{Asked}
use Rattle.burst_scheduler.specs.Gives.{HasWords, IsRight, planned}
use Rattle.burst_scheduler.specs.Ring.{IsLine}
use Rattle.burst_scheduler.specs.declared.scheduler.Scheduler.{Scheduler}
use Rattle.burst_scheduler.proofs.MoreRows.{local_more}
use Rattle.duplex_model.proofs.MoreRows.{SameBelow, right}
use Rattle.duplex.specs.Queues.{locals_added}

-- one row more
pub last_push : (local : List LocalRow) (row : LocalRow) (channel : ℕ) → last_local (local ++ row ∷ []) channel ≡ (if row.channel == channel then row.on else last_local local channel)
last_push local row channel =
    ap (λ (rows : List LocalRow). option_map_or (λ (r : LocalRow). r.on) (find (λ (r : LocalRow). r.channel == channel) rows) true) (reverse-append local (row ∷ []))
    ∙ by (row.channel == channel)
  where
    by : (b : Bool) → option_map_or (λ (r : LocalRow). r.on) (if b then Some row else find (λ (r : LocalRow). r.channel == channel) (reverse local)) true ≡ (if b then row.on else last_local local channel)
    by true = refl
    by false = refl

-- all rows are of this slot
abbrev pub AreHere : ℕ → List LocalRow → Type 0
AreHere slot rows = All (λ (row : LocalRow). row.slot ≡ slot) rows

module _ (s : Scheduler) (a : Asked) (rows rows_too : List LocalRow) (here : AreHere (length a.words) rows) (here_too : AreHere (length a.words) rows_too) where
  later : (t : ℕ) (rs : List LocalRow) → t < length a.words → AreHere (length a.words) rs → All (λ (row : LocalRow). t < row.slot) rs
  later t rs below h = All-weaker (λ (row : LocalRow). row.slot ≡ length a.words) (λ (row : LocalRow). t < row.slot) (λ row e. omega (arith, e, below)) rs h

  same_below : SameBelow a.source.entries (length a.words) a.source.flow a.source.flow (a.source.local ++ rows) (a.source.local ++ rows_too)
  same_below = record {
    told = λ channel t h. refl;
    shown = λ channel t h. local_more a.source.local rows channel t (later t rows h here) ∙ sym (local_more a.source.local rows_too channel t (later t rows_too h here_too));
  }

  right_too : (w : List Word) → ((t x : ℕ) → IsAt w t (Control x) → t < length a.words) → IsRight (locals_added a rows).source w → IsRight (locals_added a rows_too).source w
  right_too w begun r = record {
    sized = r.sized;
    data_in_bursts = r.data_in_bursts;
    chunks = r.chunks;
    controls = λ t x at.
        let below : t < length a.words = begun t x at in
        let within : t < length w = slice_get_within w t (Control x) at in
        let long : length (take t w) ≡ t = length-take-le t w (omega (arith, within)) in
        right a.source (length a.words) a.source.flow a.source.flow (a.source.local ++ rows) (a.source.local ++ rows_too) same_below (take t w) x (omega (arith, below, long)) (r.controls t x at);
  }

  line_too : (told : List Told) (w : List Word) (line : List ℕ) → IsLine (locals_added a rows).source told w line → IsLine (locals_added a rows_too).source told w line
  line_too told w line l = record {
    exact = λ c. (
      (λ h. let r = (l.exact c).0 h in record { known = r.known; on = r.on; left = r.left }),
      (λ r. (l.exact c).1 (record { known = r.known; on = r.on; left = r.left })),
    );
    ordered = l.ordered;
  }

  front : (xs ys : List LocalRow) → All (λ (row : LocalRow). row.slot ≤ length a.words) (xs ++ ys) → All (λ (row : LocalRow). row.slot ≤ length a.words) xs
  front [] ys h = λ k d below. absurd (omega (arith, below))
  front (x ∷ xs) ys h = All-cons (λ (row : LocalRow). row.slot ≤ length a.words) x xs (h 0 x (omega arith)) (front xs ys (λ k d below. h (suc k) d (omega (arith, below))))

  none_later : All (λ (row : LocalRow). row.slot ≤ length a.words) (a.source.local ++ rows) → All (λ (row : LocalRow). row.slot ≤ length a.words) (a.source.local ++ rows_too)
  none_later h = All-append (λ (row : LocalRow). row.slot ≤ length a.words) a.source.local rows_too (front a.source.local rows h)
      (All-weaker (λ (row : LocalRow). row.slot ≡ length a.words) (λ (row : LocalRow). row.slot ≤ length a.words) (λ row e. omega (arith, e)) rows_too here_too)

  -- the words are given as well with other rows of the slot, where the last of each channel says the same
  pub same_words : ((channel : ℕ) → channel < 65536 → last_local (a.source.local ++ rows) channel ≡ last_local (a.source.local ++ rows_too) channel)
      → ((channel : ℕ) → 65536 ≤ channel → last_local (a.source.local ++ rows_too) channel ≡ true) → HasWords s (locals_added a rows) → HasWords s (locals_added a rows_too)
  same_words same far g = record {
    holds = record {
      settings = g.holds.settings;
      slot = g.holds.slot;
      right = right_too (planned s a) g.holds.begun g.holds.right;
      begun = g.holds.begun;
      flow = g.holds.flow;
      local = none_later g.holds.local;
      opened = g.holds.opened;
      answered = g.holds.answered;
      calls = g.holds.calls;
      incoming = g.holds.incoming;
      queues = g.holds.queues;
      at = g.holds.at;
      only = g.holds.only;
      room = g.holds.room;
      line = λ h. line_too _ _ _ (g.holds.line h);
      unstarted = g.holds.unstarted;
      burst = record {
        outgoing = record {
          shown = g.holds.burst.outgoing.shown;
          low = g.holds.burst.outgoing.low;
          wide = g.holds.burst.outgoing.wide;
          first = g.holds.burst.outgoing.first;
          states = λ channel h. g.holds.burst.outgoing.states channel h ∙ same channel h;
          same = λ on channel. elim (cases_lt channel 65536) [
            | inl below ↦ sym (same channel below) ∙ g.holds.burst.outgoing.same on channel
            | inr above ↦ far channel (omega (arith, above))
          ];
        };
        long = g.holds.burst.long;
        given = g.holds.burst.given;
        since = g.holds.burst.since;
        end = g.holds.burst.end;
      };
      spaces = g.holds.spaces;
    };
    waiting = g.waiting;
  }
