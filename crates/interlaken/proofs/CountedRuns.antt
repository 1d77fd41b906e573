-- A run of `link` delivers, by the accidents.
use Rattle.std.proofs.Common.{◌≡◌, ◌∙◌, sym, ap, subst, ℕ, List, [], get_or, map, Option, Ok}
use Rattle.lk_base.specs.Checksum.{bits_of_bytes}
use Rattle.lk_base.specs.declared.word.Word.{Word}
use Rattle.lk_outside.specs.Files.{Files, file}
use Rattle.run_shell.specs.declared.status.Status.{Status}
use Rattle.run_shell.specs.Names.{lane_name}
use Rattle.run_shell.specs.Outcome.{Outcome, IsAnswer, Holds, content_of}
use Rattle.run_shell.specs.Run.{Found, Settles}
use Rattle.run_shell.proofs.Works.{made_of}
use Rattle.report_model.specs.declared.counts.Accidents.{Accidents}
use Rattle.epoch_model.specs.KnownLaw.{epoch_of}
use Rattle.link_laws.specs.Accidents.{no_accidents}
use Rattle.link_laws.specs.CleanLaw.{IsClean}
use Rattle.link_laws.proofs.Damage.{passing_have_words}
use Rattle.link_laws.proofs.NoAccidents.{no_accidents_there}
use Rattle.link_laws.proofs.OfBits.{grouped_epochs}
use Rattle.lane_model.specs.Damage.{IsWithinDepth}
use Rattle.link_commands.specs.Inputs.{LinkReading, linked_in}
use Rattle.link_commands.specs.Link.{link_work}
use Rattle.link_commands.specs.Linked.{IsLinkedBy, IsSentBy, sent_over}
use Rattle.link_commands.specs.Delivery.{AllUndamaged, DeliversAll, DeliversUnmet, ListsSpans, PassingAreSenders}
use Rattle.link_commands.proofs.Delivers.{clean_delivers, delivers, is_clean, lists_spans, never_when_off}
use Rattle.link_commands.proofs.OneLink.{over_sent}
use Rattle.interlaken.specs.declared.request.Request.TheVariants.{Link}
use Rattle.interlaken.specs.Run.{OutcomeOf}
use Rattle.interlaken.specs.Delivery.{AreWritten}
use Rattle.interlaken.specs.Counted.{CountedAll, CountedDeliver, CountedDeliverClean, CountedUnmet, CountedWhenOn, IsCountedBy, OfCounted}
use Rattle.interlaken.specs.Outcomes.{FollowsFromOutcomes}
use Rattle.interlaken.proofs.LinkRuns.{Keeps, held_kept, told_as}
use Rattle.interlaken.proofs.Told.{asked_for, told}
use Rattle.interlaken.proofs.Written.{written}

-- ---- what was sent

module _ (i : LinkReading) (stream : List Word) (c : IsCountedBy i stream) where
  -- with the epochs in which its accidents are counted
  abbrev sent_of : IsSentBy i stream
  sent_of = record {
    source = c.source;
    is_source = c.is_source;
    is_stream = c.is_stream;
    lanes = c.lanes;
    are_lanes = c.are_lanes;
    epochs = map (epoch_of i.reading.plan.settings) c.are_counts.epochs;
    are_epochs = record { lanes = c.are_counts.lanes; bits = c.are_counts.bits; are = grouped_epochs i.reading.plan.settings c.are_counts.lanes c.are_counts.epochs c.are_counts.are };
  }

  passing_of : c.counts.stretches ≡ 0 → PassingAreSenders i stream sent_of
  passing_of none = passing_have_words (sent_over i stream) sent_of.epochs (sym (ap (λ (a : Accidents). a.stretches) c.are_counts.counted) ∙ none)

  module _ (f : List ℕ → Option (List ℕ)) where
    unmet_of : ListsSpans i stream sent_of f → DeliversUnmet i stream sent_of f → CountedUnmet i stream c f
    unmet_of table captures = record { epochs = sent_of.epochs; are = sent_of.are_epochs; table = table; captures = captures }

    all_of : c.counts ≡ no_accidents → ListsSpans i stream sent_of f → DeliversUnmet i stream sent_of f → DeliversAll i stream sent_of f → CountedAll i stream c f
    all_of none table captures all = record {
      none = none;
      unmet = record { epochs = sent_of.epochs; are = sent_of.are_epochs; table = table; captures = captures };
      two = all.two;
      meet_none = all.meet_none;
      captures = all.captures;
    }

counted_of : (i : LinkReading) (stream : List Word) (o : Outcome) → IsLinkedBy i stream o → IsCountedBy i stream
counted_of i stream o h = record {
  source = h.over.source;
  is_source = h.over.is_source;
  is_stream = h.over.is_stream;
  lanes = h.over.lanes;
  are_lanes = h.over.are_lanes;
  counts = h.counts;
  are_counts = h.are_counts;
}

-- what is said of what was sent, wherever it comes to an outcome
module _ (u : Files) (name : List ℕ) (i : LinkReading) (w : List Word) (o : Outcome) (is : linked_in u name ≡ Ok i) (c : IsCountedBy i w) (h : IsLinkedBy i w o) (e : h.over ≡ sent_of i w c) where
  table_of : ListsSpans i w (sent_of i w c) (content_of o.files)
  table_of = subst (λ (d : IsSentBy i w). ListsSpans i w d (content_of o.files)) e (lists_spans i w o h)

  captures_of : PassingAreSenders i w (sent_of i w c) → DeliversUnmet i w (sent_of i w c) (content_of o.files)
  captures_of passing =
      subst (λ (d : IsSentBy i w). DeliversUnmet i w d (content_of o.files)) e (delivers u name i w o is h (subst (λ (d : IsSentBy i w). PassingAreSenders i w d) (sym e) passing))

  unmet_by : c.counts.stretches ≡ 0 → CountedUnmet i w c (content_of o.files)
  unmet_by none = unmet_of i w c (content_of o.files) table_of (captures_of (passing_of i w c none))

  all_by : AllUndamaged i.reading.plan.settings i.schedule w → IsWithinDepth i.reading.plan.settings i.schedule.skews → CountedAll i w c (content_of o.files)
  all_by whole within =
      let clean : IsClean c.source (sent_over i w) (map bits_of_bytes c.lanes) = subst (λ (d : IsSentBy i w). IsClean d.source (sent_over i w) (map bits_of_bytes d.lanes)) e (is_clean i w o h whole within) in
      let none : c.counts ≡ no_accidents = no_accidents_there c.source (sent_over i w) (map bits_of_bytes c.lanes) c.counts clean c.are_counts in
      let zero : c.counts.stretches ≡ 0 = ap (λ (a : Accidents). a.stretches) none in
      all_of i w c (content_of o.files) none table_of (captures_of (passing_of i w c zero))
      (subst (λ (d : IsSentBy i w). DeliversAll i w d (content_of o.files)) e (clean_delivers u name i w o is h whole within))

-- ---- files by name

unmet_moved : (i : LinkReading) (stream : List Word) (c : IsCountedBy i stream) (f g : List ℕ → Option (List ℕ)) → Keeps f g → CountedUnmet i stream c f → CountedUnmet i stream c g
unmet_moved i stream c f g keeps d = record {
  epochs = d.epochs;
  are = d.are;
  table = keeps _ _ d.table;
  captures = λ channel has. keeps _ _ (d.captures channel has);
}

all_moved : (i : LinkReading) (stream : List Word) (c : IsCountedBy i stream) (f g : List ℕ → Option (List ℕ)) → Keeps f g → CountedAll i stream c f → CountedAll i stream c g
all_moved i stream c f g keeps d = record {
  none = d.none;
  unmet = record {
    epochs = d.unmet.epochs;
    are = d.unmet.are;
    table = keeps _ _ d.unmet.table;
    captures = λ channel has. keeps _ _ (d.unmet.captures channel has);
  };
  two = d.two;
  meet_none = d.meet_none;
  captures = λ channel has. keeps _ _ (d.captures channel has);
}

-- ---- a run

module _ (words : List (List ℕ)) (status : Status) (u : Files) (x y : Option Files) (found : IsAnswer status → Found (OutcomeOf words u) status) (settled : (o : Outcome) → OutcomeOf words u o → Settles o status x y) where
  module _ (Says : (i : LinkReading) → (stream : List Word) → IsCountedBy i stream → (List ℕ → Option (List ℕ)) → Type 0)
      (moved : (i : LinkReading) (stream : List Word) (c : IsCountedBy i stream) (f g : List ℕ → Option (List ℕ)) → Keeps f g → Says i stream c f → Says i stream c g) where
    of_counted : ((name : List ℕ) (i : LinkReading) (w : List Word) (o : Outcome) → linked_in u name ≡ Ok i → (c : IsCountedBy i w) (h : IsLinkedBy i w o) → h.over ≡ sent_of i w c → Says i w c (content_of o.files)) → OfCounted Says words u status x y
    of_counted says name i asks is answer =
        let (o, of, s) = found answer in
        let (stream, h) = made_of (link_work name) u i o is (asked_for words (Link name) u o asks of) in
        record {
          some = (stream, counted_of i stream o h);
          each = λ w c.
              let (k, e) = over_sent i o (stream, h) w (sent_of i w c) in
              let lanes : AreWritten i c.lanes (content_of o.files) = subst (λ (d : IsSentBy i w). AreWritten i d.lanes (content_of o.files)) e (written i w o k) in
              told_as x y (Holds o.files) (λ before after. AreWritten i c.lanes (file after) × Says i w c (file after)) ((settled o of).done answer)
              (λ before after holds.
              let keeps = held_kept o.files before after holds in
              ((λ n lt. keeps (lane_name i.reading.plan.out n) (get_or c.lanes n []) (lanes n lt)), moved i w c (content_of o.files) (file after) keeps (says name i w o is c k e)));
        }

  deliver_at : CountedDeliver words u status x y
  deliver_at = of_counted _ (λ i stream c f g keeps says none. unmet_moved i stream c f g keeps (says none)) (λ name i w o is c h e none. unmet_by u name i w o is c h e none)

  clean_at : CountedDeliverClean words u status x y
  clean_at = of_counted _ (λ i stream c f g keeps says whole within. all_moved i stream c f g keeps (says whole within)) (λ name i w o is c h e whole within. all_by u name i w o is c h e whole within)

  when_on_at : CountedWhenOn words u status x y
  when_on_at = of_counted _ (λ i stream c f g keeps says. says) (λ name i w o is c h e. never_when_off i w h.over)

pub counted_deliver : FollowsFromOutcomes CountedDeliver
counted_deliver words status x y found settled = told (λ u z. CountedDeliver words u status z y) words status x y (λ u f s. deliver_at words status u x y f s) found settled

pub counted_deliver_clean : FollowsFromOutcomes CountedDeliverClean
counted_deliver_clean words status x y found settled = told (λ u z. CountedDeliverClean words u status z y) words status x y (λ u f s. clean_at words status u x y f s) found settled

pub counted_when_on : FollowsFromOutcomes CountedWhenOn
counted_when_on words status x y found settled = told (λ u z. CountedWhenOn words u status z y) words status x y (λ u f s. when_on_at words status u x y f s) found settled
