-- What `resend` makes is accepted in order.
use Rattle.std.proofs.Common.{◌≡◌, ◌∙◌, ℕ, ◌≤◌, List, ◌++◌, append_assoc, ap, drop, length, map, Ok, refl, sym, subst, take}
use Rattle.std.proofs.lemmas.List.{take-append-drop}
use Rattle.std.proofs.lemmas.List.Concat.{flat_map-append}
use Rattle.lk_base.specs.declared.word.Word.{Word}
use Rattle.lk_base.specs.declared.word.Word.TheVariants.{Data}
use Rattle.lk_outside.specs.Files.{Files}
use Rattle.run_shell.specs.Outcome.{Outcome}
use Rattle.run_stops.proofs.Readings.{behind_ok}
use Rattle.plan_inputs.specs.Inputs.{inputs_in}
use Rattle.plan_inputs.proofs.SomeSource.{plan_keeps}
use Rattle.resend_events.specs.declared.event.Event.{Event}
use Rattle.retransmit.specs.Pieces.{Piece, IsCutInto, words_of, words_of_piece}
use Rattle.retransmit.specs.Resending.{Setting, state_after, accepted_after}
use Rattle.retransmit.specs.Rows.{events_of}
use Rattle.retransmit.proofs.Accepts.{in_order}
use Rattle.retransmit.proofs.Near.{acknowledged_below, accepted_below, reached_below}
use Rattle.resend_commands.specs.Plan.{ResendReading, IsPlanResent}
use Rattle.resend_commands.specs.Resent.{state_of}
use Rattle.resend_commands.specs.Reading.{resend_plan_in, events_in, reading_of, with_events, with_inputs, resend_in}
use Rattle.resend_commands.specs.Accepted.{IsInOrder, IsResentInOrder}
use Rattle.resend_commands.proofs.Work.{accepted_plan}

-- the window is that of an accepted plan
some_window : (files : Files) (name : List ℕ) (i : ResendReading) → resend_in files name ≡ Ok i → 1 ≤ i.window
unfolding resend_in
some_window files name i e =
    let (plan, had, next) = behind_ok (resend_plan_in files name) (with_inputs files) i e in
    let (inputs, read, last) = behind_ok (inputs_in files plan) (with_events plan files) i next in
    let (rows, told, all) = behind_ok (events_in files plan) (λ rows. Ok (reading_of plan inputs rows)) i last in
    let same : reading_of plan inputs rows ≡ i = cc in
    subst (λ (r : ResendReading). 1 ≤ r.window) same (plan_keeps files name plan (accepted_plan files name plan had)).window.0

-- the words of the first pieces are the first words
first_words : (words : List Word) (pieces : List Piece) (n : ℕ) → IsCutInto words pieces → (rest : List Word) × (words ≡ words_of (take n pieces) ++ rest)
first_words words pieces n (last, is) = (
  words_of (drop n pieces) ++ map Data last,
  is
      ∙ ap (λ (ps : List Piece). words_of ps ++ map Data last) (sym (take-append-drop n pieces))
      ∙ ap (λ (ws : List Word). ws ++ map Data last) (flat_map-append words_of_piece (take n pieces) (drop n pieces))
      ∙ append_assoc (words_of (take n pieces)) (words_of (drop n pieces)) (map Data last),
)

are_in_order : (pieces : List Piece) (g : Setting) (events : List Event) → length pieces ≡ g.pieces → 1 ≤ g.window → IsInOrder pieces (accepted_after g events) (state_after g events)
are_in_order pieces g events many some = record {
  in_order = in_order g events;
  acknowledged = acknowledged_below g events some;
  accepted = accepted_below g events some;
  reached = subst (λ (n : ℕ). (state_after g events).reached ≤ n) (sym many) (reached_below g events some);
}

pub resent_in_order : (files : Files) (name : List ℕ) (i : ResendReading) (o : Outcome) → resend_in files name ≡ Ok i → IsPlanResent i o → IsResentInOrder i o
resent_in_order files name i o is h = record {
  source = h.source;
  is_source = h.is_source;
  words = h.words;
  stream = h.stream;
  pieces = h.resent.pieces;
  cut = h.resent.cut;
  outcome = h.resent.outcome;
  begins = first_words h.words h.resent.pieces (state_of h.resent.pieces i.window i.rows).accepted h.resent.cut;
  accepts = are_in_order h.resent.pieces (record { pieces = length h.resent.pieces; window = i.window }) (events_of i.rows) refl (some_window files name i is);
}
