-- A plan, its inputs and its events come to one outcome, and it is what is made of them.
use Rattle.std.proofs.Common.{◌≡◌, ℕ, ◌<◌, Bool, true, false, All, arith, List, [], ◌∷◌, length, take, refl, sym, ap, ◌∙◌, subst, Result, Ok, Err, IfOk}
use Rattle.lk_base.specs.declared.word.Word.{Word}
use Rattle.plan_inputs.proofs.InputsRead.{same_numbers}
use Rattle.stream_model.specs.BurstStream.{Source, IsBurstStream}
use Rattle.stream_model.proofs.OneStream.{one_stream}
use Rattle.words_files.specs.WordsFile.{words_file}
use Rattle.retransmit.specs.Pieces.{Piece, AreSealed, words_of}
use Rattle.retransmit.specs.Resending.{State, state_from}
use Rattle.retransmit.specs.Rows.{events_of}
use Rattle.retransmit.specs.Carried.{Carried, IsFresh}
use Rattle.resend_events.specs.declared.row.EventRow.{EventRow}
use Rattle.retransmit.proofs.Cutting.{one_cut, streams_are_sealed}
use Rattle.run_shell.specs.Outcome.{Outcome}
use Rattle.link_plan.specs.Listing.{numbers_of, channels_in_order, fit_width}
use Rattle.link_plan.specs.Views.{plan_value}
use Rattle.link_plan.specs.declared.plan.Plan.{Plan}
use Rattle.link_plan.proofs.InOrder.{width_in_order}
use Rattle.plan_inputs.specs.Inputs.{Inputs, Reading}
use Rattle.plan_inputs.specs.Values.{inputs_value, reading_value}
use Rattle.plan_inputs.specs.declared.inputs.PlanReading.{PlanReading}
use Rattle.plan_inputs.specs.Sources.{IsSourceOf}
use Rattle.plan_inputs.proofs.SameSource.{same_source}
use Rattle.stream_commands.specs.Payload.{IsStreamOfPlan}
use Rattle.stream_commands.specs.declared.stream.PayloadStream.{PayloadStream}
use Rattle.resend_commands.specs.Resent.{outcome_of, state_of, accepted_words, IsResent}
use Rattle.resend_commands.specs.Plan.{ResendReading, IsPlanResent}
use Rattle.resend_commands.specs.Carried.{events_done, accepted_file, IsBegun}
use Rattle.resend_commands.specs.Making.{outcome_at}

-- words come to one outcome
one_resent : (prefix : List ℕ) (words : List Word) (window : ℕ) (rows : List EventRow) (o p : Outcome) → IsResent prefix words window rows o → IsResent prefix words window rows p → o ≡ p
one_resent prefix words window rows o p a b =
    a.outcome
    ∙ ap (λ (ps : List Piece). outcome_of prefix ps (state_of ps window rows)) (one_cut words a.pieces b.pieces a.cut b.cut)
    ∙ sym b.outcome

pub one_outcome : (i : ResendReading) (o p : Outcome) → IsPlanResent i o → IsPlanResent i p → o ≡ p
one_outcome i o p a b =
    let same : a.source ≡ b.source = same_source i.reading.plan i.reading.inputs a.source b.source a.is_source b.is_source in
    let words : a.words ≡ b.words = one_stream b.source a.words b.words (subst (λ (s : Source). IsBurstStream s a.words) same a.stream) b.stream in
    one_resent i.reading.plan.out b.words i.window i.rows o p (subst (λ (w : List Word). IsResent i.reading.plan.out w i.window i.rows o) words a.resent) b.resent

-- where a stream was begun, nothing was sent yet, and nothing accepted
pub begun_few : (i : Reading) (window : ℕ) (start : Carried) → IsBegun i window start → start.state.sends ≡ 0
begun_few i window start begun = ap (λ (s : State). s.sends) begun.fresh.state

pub begun_blank : (i : Reading) (window : ℕ) (start : Carried) → IsBegun i window start → accepted_file start ≡ []
begun_blank i window start begun = ap (λ (s : State). words_file (accepted_words start.pieces s)) begun.fresh.state ∙ none start.pieces
  where
    none : (pieces : List Piece) → words_file (words_of (take 0 pieces)) ≡ []
    none [] = refl
    none (p ∷ ps) = refl

-- after their events it comes to what is made of them
pub begun_resent : (i : ResendReading) (start : Carried) → IsBegun i.reading i.window start → IsPlanResent i (outcome_at i.reading.plan.out (events_done start (events_of i.rows)))
begun_resent i start begun = record {
  source = begun.source;
  is_source = begun.is_source;
  words = begun.words;
  stream = begun.stream;
  resent = record { pieces = start.pieces; cut = begun.fresh.cut; outcome = ap (λ (s : State). outcome_of i.reading.plan.out start.pieces s) state_is };
}
  where
    state_is : (events_done start (events_of i.rows)).state ≡ state_of start.pieces i.window i.rows
    state_is =
        ap (λ (w : ℕ). state_from (record { pieces = length start.pieces; window = w }) start.state (events_of i.rows)) begun.fresh.window_is
        ∙ ap (λ (s : State). state_from (record { pieces = length start.pieces; window = i.window }) s (events_of i.rows)) begun.fresh.state

-- its window is that which it was begun with
pub begun_window : (i : Reading) (window : ℕ) (start : Carried) → IsBegun i window start → start.window ≡ window
begun_window i window start begun = begun.fresh.window_is

-- ---- the stream

-- where it was taken from a stream of theirs, it was begun
pub stream_begun : {E : Type 0} (i : Reading) (window : ℕ) (s : PayloadStream) → IsStreamOfPlan i s → (r : Result Carried E) → IfOk r (IsFresh s.words window) → IfOk r (IsBegun i window)
stream_begun i window s is (Ok c) h = record {
  source = is.source;
  is_source = is.is_source;
  words = s.words;
  stream = is.is.stream;
  fresh = h;
}
stream_begun i window s is (Err e) h = tt

-- the channels of a plan that is not wide have eight bits
narrow_source : (plan : Plan) (inputs : Inputs) (source : Source) → plan.wide ≡ false → IsSourceOf (plan_value plan) inputs source → All (λ channel. channel < 256) source.channels
narrow_source plan inputs source narrow is =
    let numbers = numbers_of plan.channels.items in
    let fit : fit_width false numbers ≡ true = subst (λ (w : Bool). fit_width w numbers ≡ true) narrow plan.in_width in
    let low = width_in_order false numbers fit in
    let same : source.channels ≡ channels_in_order numbers = is.channels ∙ ap channels_in_order (sym (same_numbers plan.channels.items)) in
    subst (All (λ channel. channel < 256)) (sym same) (λ k d lt. let h = low k d lt in omega arith)

-- so its stream is sealed
pub sealed_plan : (r : PlanReading) (s : PayloadStream) → r.plan.wide ≡ false → IsStreamOfPlan (reading_value r) s → AreSealed s.words
sealed_plan r s narrow is = streams_are_sealed is.source s.words (narrow_source r.plan (inputs_value r.inputs) is.source narrow is.is_source) is.is.stream
