-- The outcome that a run of `link` answered delivers.
use Rattle.std.proofs.Common.{◌≡◌, ◌∙◌, sym, subst, ℕ, List, Contains, Option, Some, Ok}
use Rattle.lk_base.specs.declared.word.Word.{Word}
use Rattle.lk_outside.specs.Files.{Files}
use Rattle.run_shell.specs.declared.status.Status.{Status}
use Rattle.run_shell.specs.Outcome.{Outcome, IsAnswer, content_of}
use Rattle.run_shell.specs.Run.{Found, Settles}
use Rattle.run_shell.proofs.Works.{made_of}
use Rattle.link_commands.specs.Inputs.{LinkReading, linked_in}
use Rattle.link_commands.specs.Link.{link_work}
use Rattle.link_commands.specs.Linked.{IsLinkedBy}
use Rattle.link_laws.specs.Accidents.{no_accidents}
use Rattle.link_commands.specs.Delivery.{DeliversAll, DeliversUnmet, PassingAreSenders}
use Rattle.link_commands.proofs.Delivers.{clean_counts, clean_delivers, counts_blocks, delivers, lists_spans, never_when_off}
use Rattle.interlaken.specs.declared.request.Request.TheVariants.{Link}
use Rattle.interlaken.specs.Request.{request_of}
use Rattle.interlaken.specs.Run.{OutcomeOf}
use Rattle.interlaken.specs.Outcomes.{FollowsFromOutcomes, IsLinkRun, OfOutcomes, OutcomeAll, OutcomesDeliver, OutcomesDeliverClean, OutcomesWhenOn, OutcomeUnmet}
use Rattle.interlaken.proofs.Told.{asked_for, is_answered, told}

-- ---- an outcome

module _ (i : LinkReading) (stream : List Word) (o : Outcome) (h : IsLinkedBy i stream o) where
  -- the channels of the receiver are those of the source
  sent_there : (channel : ℕ) → Contains h.setting.channels channel → Contains h.over.source.channels channel
  sent_there channel has = subst (λ (cs : List ℕ). Contains cs channel) (h.is_setting.channels ∙ sym h.over.is_source.channels) has

  unmet_of : DeliversUnmet i stream h.over (content_of o.files) → OutcomeUnmet i stream o h
  unmet_of d = record {
    epochs = h.over.epochs;
    are = h.over.are_epochs;
    table = lists_spans i stream o h;
    captures = λ channel has. d channel (sent_there channel has);
  }

  -- each passing block is the sender's
  passing_of : h.counts.stretches ≡ 0 → PassingAreSenders i stream h.over
  passing_of none = (counts_blocks i stream o h).none.0 none

  all_of : h.counts ≡ no_accidents → DeliversUnmet i stream h.over (content_of o.files) → DeliversAll i stream h.over (content_of o.files) → OutcomeAll i stream o h
  all_of none unmet d = record {
    none = none;
    unmet = record {
      epochs = h.over.epochs;
      are = h.over.are_epochs;
      table = lists_spans i stream o h;
      captures = λ channel has. unmet channel (sent_there channel has);
    };
    two = d.two;
    meet_none = d.meet_none;
    captures = λ channel has. d.captures channel (sent_there channel has);
  }

-- ---- a run

module _ (words : List (List ℕ)) (status : Status) (u : Files) (x y : Option Files) (found : IsAnswer status → Found (OutcomeOf words u) status) (settled : (o : Outcome) → OutcomeOf words u o → Settles o status x y) where
  run_there : (name : List ℕ) (i : LinkReading) → request_of words ≡ Some (Link name) → linked_in u name ≡ Ok i → IsAnswer status → IsLinkRun words u i status x y
  run_there name i asks is answer =
      let (o, of, s) = found answer in
      let (stream, h) = made_of (link_work name) u i o is (asked_for words (Link name) u o asks of) in
      record { outcome = o; is_outcome = of; status = s; stands = (settled o of).done answer; stream = stream; linked = h }

  module _ (Says : (i : LinkReading) → (stream : List Word) → (o : Outcome) → IsLinkedBy i stream o → Type 0) where
    -- what holds of whatever comes of the inputs
    of_outcomes : ((name : List ℕ) (i : LinkReading) (stream : List Word) (o : Outcome) → linked_in u name ≡ Ok i → (h : IsLinkedBy i stream o) → Says i stream o h) → OfOutcomes Says words u status x y
    of_outcomes says name i asks is answer = record {
      run = run_there name i asks is answer;
      answered = λ o of. is_answered o status x y answer (settled o of);
      each = λ o of stream h. says name i stream o is h;
    }

  deliver_at : OutcomesDeliver words u status x y
  deliver_at = of_outcomes _ (λ name i stream o is h none. unmet_of i stream o h (delivers u name i stream o is h (passing_of i stream o h none)))

  clean_at : OutcomesDeliverClean words u status x y
  clean_at = of_outcomes _ (λ name i stream o is h whole within.
      let all = clean_delivers u name i stream o is h whole within in
      all_of i stream o h (clean_counts i stream o h whole within) (delivers u name i stream o is h all.passing) all)

  when_on_at : OutcomesWhenOn words u status x y
  when_on_at = of_outcomes _ (λ name i stream o is h. never_when_off i stream h.over)

pub outcomes_deliver : FollowsFromOutcomes OutcomesDeliver
outcomes_deliver words status x y found settled = told (λ u z. OutcomesDeliver words u status z y) words status x y (λ u f s. deliver_at words status u x y f s) found settled

pub outcomes_deliver_clean : FollowsFromOutcomes OutcomesDeliverClean
outcomes_deliver_clean words status x y found settled = told (λ u z. OutcomesDeliverClean words u status z y) words status x y (λ u f s. clean_at words status u x y f s) found settled

pub outcomes_when_on : FollowsFromOutcomes OutcomesWhenOn
outcomes_when_on words status x y found settled = told (λ u z. OutcomesWhenOn words u status z y) words status x y (λ u f s. when_on_at words status u x y f s) found settled
