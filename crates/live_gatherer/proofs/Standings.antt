-- How a gatherer stands after each call.
use Rattle.std.proofs.Common.{ℕ, ◌≡◌, refl, sym, ◌∙◌, ◌==◌, Bool, true, false, List, inl, inr, ◌⊎◌, Option, Some, None}
use Rattle.std.proofs.lemmas.Bool.{and_parts}
use Rattle.lk_base.specs.Link.{Settings}
use Rattle.epoch_model.proofs.Leasts.{clash}
use Rattle.event_model.specs.Fed.{Fed, all_finished}
use Rattle.rx_front.specs.Lanes.{are_ready}
use Rattle.rx_front.specs.Standing.{AtRound, is_over}
use Rattle.rx_front.specs.States.{State}
use Rattle.rx_front.specs.Calls.{is_open}
use Rattle.rx_front.proofs.Feeding.{not_all}
use Rattle.live_gatherer.specs.declared.gatherer.LiveGatherer.{LiveGatherer}
use Rattle.live_gatherer.specs.declared.taker.Taker.{Taker}
use Rattle.live_gatherer.specs.declared.types.Gathered.{Gathered}
use Rattle.live_gatherer.specs.declared.types.Gathered.TheVariants as gathereds
use Rattle.live_gatherer.specs.Calls.{Changes, GivesOne, IsNext}
use Rattle.live_gatherer.specs.Numbers.{Numbered}
use Rattle.live_gatherer.specs.Standing.{IsEnd}
use Rattle.live_gatherer.specs.Taking as takings
use Rattle.live_gatherer.specs.Taking.{Takes}

-- ---- a lane that is open is fed or finished: the end was not given

pub changes : (change : List Fed → List Fed) (i : ℕ) (g h : LiveGatherer) → is_open i g.taker.front.lanes ≡ true → h.over ≡ g.over →
    ((s : Settings) (fed : List Fed) (given : List Numbered) → Takes g.taker s fed given → Takes h.taker s (change fed) given) → Changes change g h
changes change i g h free over takes s fed given st = record {
  takes = takes s fed given st.takes;
  over = λ e. absurd (
      let k = st.takes in
      not_all i g.taker.front.lanes s k.progress.rounds fed k.progress.columns free k.front.lanes (st.over (sym over ∙ e)).finished);
}

-- ---- next

-- what a taker gives
abbrev pub TakerGives : Taker → Option Gathered → Taker → Type 0
TakerGives v answer w = (s : Settings) (fed : List Fed) (given : List Numbered) → Takes v s fed given → takings.GivesNext answer w s fed given

-- after the end
pub next_over : (g : LiveGatherer) → g.over ≡ true → IsNext g g None
next_over g e = record {
  gives = λ s fed given st. (st, (st.over e).all);
  none = inl e;
  over = λ f. refl;
  once = λ f. inl f;
}

one_given : (answer : Gathered) (h : LiveGatherer) (s : Settings) (fed : List Fed) (given : List Numbered) → h.over ≡ false → takings.GivesNext (Some answer) h.taker s fed given → GivesOne answer h s fed given
one_given (gathereds.Word w) h s fed given e k = record { next = k.next; told = k.told; shown = k.shown; stands = record { takes = k.takes; over = λ f. absurd (clash f e) } }
one_given (gathereds.Break b) h s fed given e k = record { next = k.next; told = k.told; shown = k.shown; stands = record { takes = k.takes; over = λ f. absurd (clash f e) } }
one_given gathereds.Ended h s fed given e k = absurd k.told

pub next_given : (g h : LiveGatherer) (answer : Gathered) → g.over ≡ false → h.over ≡ g.over → TakerGives g.taker (Some answer) h.taker → IsNext g h (Some answer)
next_given g h answer e same gives = record {
  gives = λ s fed given st. one_given answer h s fed given (same ∙ e) (gives s fed given st.takes);
  none = tt;
  over = λ f. absurd (clash f e);
  once = λ f. absurd (clash f (same ∙ e));
}

abbrev pub IsStuck : State → Type 0
IsStuck f = (f.left ≡ 0) × ((f.over ≡ true) ⊎ (are_ready f.lanes ≡ false))

over_now : (f : State) → IsStuck f → f.over ≡ true → is_over f ≡ true
over_now f stuck over = rw (over, stuck.0) refl

lacks : (f : State) → is_over f ≡ false → IsStuck f → are_ready f.lanes ≡ false
lacks f going (left, inl over) = absurd (clash (over_now f (left, inl over) over) going)
lacks f going (left, inr lacking) = lacking

pub next_none : (g h : LiveGatherer) → g.over ≡ false → h.over ≡ g.over → is_over h.taker.front ≡ false → IsStuck h.taker.front → TakerGives g.taker None h.taker → IsNext g h None
next_none g h e same going stuck gives = record {
  gives = λ s fed given st. (
      let k = gives s fed given st.takes in
      (record { takes = k.0; over = λ f. absurd (clash f (same ∙ e)) }, k.1));
  none = inr (lacks h.taker.front going stuck);
  over = λ f. refl;
  once = λ f. absurd (clash f (same ∙ e));
}

at_end : (over : Bool) (fed : List Fed) (rounds : ℕ) → AtRound over fed rounds → over ≡ true → all_finished fed ≡ true
at_end true fed rounds h e = h.0
at_end false fed rounds h e = absurd (let f : false ≡ true = e in cc)

pub next_end : (g h : LiveGatherer) → g.over ≡ false → h.over ≡ true → is_over h.taker.front ≡ true → TakerGives g.taker None h.taker → IsNext g h (Some gathereds.Ended)
next_end g h e now over gives = record {
  gives = λ s fed given st. (
      let k = gives s fed given st.takes in
      let parts = and_parts h.taker.front.over (h.taker.front.left == 0) over in
      let end : IsEnd s fed given = record { finished = at_end h.taker.front.over fed k.0.progress.rounds k.0.front.at_round parts.0; all = k.1 } in
      (now, end, record { takes = k.0; over = λ f. end }));
  none = tt;
  over = λ f. absurd (clash f e);
  once = λ f. inr refl;
}
