-- A run of `link` delivers.
use Rattle.std.proofs.Common.{◌≡◌, ◌∙◌, sym, ap, subst, ℕ, List, [], get_or, Option, Some, None, IfSome, Result, Ok, MatchResult}
use Rattle.std.specs.Option.{option_or}
use Rattle.lk_base.specs.declared.word.Word.{Word}
use Rattle.lk_outside.specs.Files.{Files, Told, file}
use Rattle.run_shell.specs.declared.status.Status.{Status}
use Rattle.run_shell.specs.Names.{lane_name}
use Rattle.run_shell.specs.Outcome.{Output, Outcome, IsAnswer, Holds, content_of}
use Rattle.run_shell.specs.Run.{Found, Settles}
use Rattle.run_shell.specs.Work.{refused_outcome}
use Rattle.run_shell.proofs.Works.{made_of}
use Rattle.run_stops.specs.Reading.{Refusal}
use Rattle.link_commands.specs.Inputs.{LinkReading, linked_in}
use Rattle.link_commands.specs.Link.{link_work}
use Rattle.link_laws.specs.CleanLaw.{HaveOwnLocks as LawOnOwnLocks}
use Rattle.link_commands.specs.Linked.{IsLinked, IsLinkedBy, IsSentBy}
use Rattle.link_commands.specs.Delivery.{DeliversAll, DeliversUnmet}
use Rattle.link_commands.proofs.AllSent.{sends_all}
use Rattle.link_commands.proofs.Delivers.{clean_counts, clean_delivers, counts_blocks, delivers, lists_spans, never_when_off}
use Rattle.link_commands.proofs.Lacks.{lacks_a_packet}
use Rattle.link_commands.proofs.Missed.{tells_missing}
use Rattle.link_commands.proofs.Narrow.{narrow_spans}
use Rattle.link_commands.proofs.OneLink.{over_sent}
use Rattle.interlaken.specs.declared.request.Request.{Request}
use Rattle.interlaken.specs.declared.request.Request.TheVariants.{Link}
use Rattle.interlaken.specs.Request.{request_of}
use Rattle.interlaken.specs.Meanings.{meaning_by as meaning_for}
use Rattle.interlaken.specs.Run.{OutcomeOf}
use Rattle.interlaken.specs.Answered.{IsAnswered}
use Rattle.interlaken.specs.Delivery.{AreWritten, CountsAllBlocks, CountsNone, Delivers, DeliversClean, HeldLacksAPacket, LinksLock, ListsAllSpans, LinksWhenOn, MissingAreTold, OfLinks, OfSent, SendsAllPackets, SpansAreNarrow}
use Rattle.interlaken.proofs.CleanLocks.{clean_locks}
use Rattle.interlaken.proofs.LinkWords.{answers, asks_link}
use Rattle.interlaken.proofs.Written.{written}
use Rattle.interlaken.proofs.Told.{asked_for, is_answered, told}

-- ---- files by name

-- what the first of them finds, the second finds too
abbrev pub Keeps : (List ℕ → Option (List ℕ)) → (List ℕ → Option (List ℕ)) → Type 0
Keeps f g = (q bytes : List ℕ) → f q ≡ Some bytes → g q ≡ Some bytes

pub held_kept : (outputs : List Output) (before after : Files) → Holds outputs before after → Keeps (content_of outputs) (file after)
held_kept outputs before after holds q bytes is = holds q ∙ ap (λ (m : Option (List ℕ)). option_or m (file before q)) is

pub told_as : (x y : Option Files) (P Q : Files → Files → Type 0) → Told x y P → ((before after : Files) → P before after → Q before after) → Told x y Q
told_as None None P Q h f = tt
told_as None (Some v) P Q h f = absurd h
told_as (Some u) None P Q h f = absurd h
told_as (Some u) (Some v) P Q h f = f u v h

unmet_moved : (i : LinkReading) (stream : List Word) (c : IsSentBy i stream) (f g : List ℕ → Option (List ℕ)) → Keeps f g → DeliversUnmet i stream c f → DeliversUnmet i stream c g
unmet_moved i stream c f g keeps d channel has = keeps _ _ (d channel has)

all_moved : (i : LinkReading) (stream : List Word) (c : IsSentBy i stream) (f g : List ℕ → Option (List ℕ)) → Keeps f g → DeliversAll i stream c f → DeliversAll i stream c g
all_moved i stream c f g keeps d = record {
  passing = d.passing;
  two = d.two;
  meet_none = d.meet_none;
  captures = λ channel has. keeps _ _ (d.captures channel has);
}

-- ---- a run

module _ (words : List (List ℕ)) (status : Status) (u : Files) (x y : Option Files) (found : IsAnswer status → Found (OutcomeOf words u) status) (settled : (o : Outcome) → OutcomeOf words u o → Settles o status x y) where
  -- what the words ask for comes to whatever the inputs come to
  comes_of : (name : List ℕ) (i : LinkReading) (o : Outcome) → request_of words ≡ Some (Link name) → linked_in u name ≡ Ok i → IsLinked i o → OutcomeOf words u o
  comes_of name i o asks is made =
      subst (λ (a : Option Request). (meaning_for a).IsOutcome u o) (sym asks)
      (subst (λ (r : Result LinkReading Refusal). MatchResult r (λ (j : LinkReading). IsLinked j o) (λ (e : Refusal). o ≡ refused_outcome e)) (sym is) made)

  module _ (Says : (i : LinkReading) → (stream : List Word) → IsSentBy i stream → (List ℕ → Option (List ℕ)) → Type 0)
      (moved : (i : LinkReading) (stream : List Word) (c : IsSentBy i stream) (f g : List ℕ → Option (List ℕ)) → Keeps f g → Says i stream c f → Says i stream c g) where
    -- what holds of the files of whatever comes of the inputs, holds of the files that are there after
    of_sent : ((name : List ℕ) (i : LinkReading) (stream : List Word) (o : Outcome) → linked_in u name ≡ Ok i → (h : IsLinkedBy i stream o) → Says i stream h.over (content_of o.files)) → OfSent Says words u status x y
    of_sent says name i are is come =
        let answer : IsAnswer status = answers status come in
        let (o, of, s) = found answer in
        let asks : request_of words ≡ Some (Link name) = asks_link words name u o status are come of s in
        let (stream, h) = made_of (link_work name) u i o is (asked_for words (Link name) u o asks of) in
        record {
          some = (stream, h.over);
          each = λ w c.
              let (k, e) = over_sent i o (stream, h) w c in
              let said : Says i w c (content_of o.files) = subst (λ (d : IsSentBy i w). Says i w d (content_of o.files)) e (says name i w o is k) in
              let lanes : AreWritten i c.lanes (content_of o.files) = subst (λ (d : IsSentBy i w). AreWritten i d.lanes (content_of o.files)) e (written i w o k) in
              told_as x y (Holds o.files) (λ before after. AreWritten i c.lanes (file after) × Says i w c (file after)) ((settled o of).done answer)
              (λ before after holds.
              let keeps = held_kept o.files before after holds in
              ((λ n lt. keeps (lane_name i.reading.plan.out n) (get_or c.lanes n []) (lanes n lt)), moved i w c (content_of o.files) (file after) keeps said));
        }

  module _ (Says : (i : LinkReading) → (stream : List Word) → (o : Outcome) → IsLinkedBy i stream o → Type 0) where
    -- what holds of whatever comes of the inputs, where this status was answered
    of_links : ((name : List ℕ) (i : LinkReading) (stream : List Word) (o : Outcome) → linked_in u name ≡ Ok i → status ≡ o.status → (h : IsLinkedBy i stream o) → Says i stream o h) → OfLinks Says words u status x y
    of_links says name i asks is answer =
        let (o, of, s) = found answer in
        record {
          some = (o, made_of (link_work name) u i o is (asked_for words (Link name) u o asks of));
          each = λ p stream h.
              let there : IsAnswered p status x y = is_answered p status x y answer (settled p (comes_of name i p asks is (stream, h))) in
              (there, says name i stream p is there.status h);
        }

  delivers_at : Delivers words u status x y
  delivers_at = of_sent _ (λ i stream c f g keeps says passing. unmet_moved i stream c f g keeps (says passing)) (λ name i stream o is h passing. delivers u name i stream o is h passing)

  clean_at : DeliversClean words u status x y
  clean_at = of_sent _ (λ i stream c f g keeps says whole within. all_moved i stream c f g keeps (says whole within)) (λ name i stream o is h whole within. clean_delivers u name i stream o is h whole within)

  spans_at : ListsAllSpans words u status x y
  spans_at = of_sent _ (λ i stream c f g keeps says. keeps _ _ says) (λ name i stream o is h. lists_spans i stream o h)

  blocks_at : CountsAllBlocks words u status x y
  blocks_at = of_links _ (λ name i stream o is s h. counts_blocks i stream o h)

  none_at : CountsNone words u status x y
  none_at = of_links _ (λ name i stream o is s h whole within. clean_counts i stream o h whole within)

  lock_at : LawOnOwnLocks → LinksLock words u status x y
  lock_at law = of_links _ (λ name i stream o is s h whole within. clean_locks law i stream o h whole within)

  sends_at : SendsAllPackets words u status x y
  sends_at = of_links _ (λ name i stream o is s h done. sends_all u name i stream o is h (sym s ∙ done))

  lacks_at : HeldLacksAPacket words u status x y
  lacks_at = of_links _ (λ name i stream o is s h held. lacks_a_packet i stream o h (sym s ∙ held))

  narrow_at : SpansAreNarrow words u status x y
  narrow_at = of_links _ (λ name i stream o is s h whole none kept. narrow_spans u name i stream o is h whole none kept)

  missing_at : MissingAreTold words u status x y
  missing_at = of_links _ (λ name i stream o is s h. tells_missing u name i stream o is h)

  when_on_at : LinksWhenOn words u status x y
  when_on_at = of_sent _ (λ i stream c f g keeps says. says) (λ name i stream o is h. never_when_off i stream h.over)

module _ (words : List (List ℕ)) (status : Status) (x y : Option Files) (found : IfSome x (λ files. IsAnswer status → Found (OutcomeOf words files) status)) (settled : IfSome x (λ files. (o : Outcome) → OutcomeOf words files o → Settles o status x y)) where
  pub run_delivers : IfSome x (λ files. Delivers words files status x y)
  run_delivers = told (λ u z. Delivers words u status z y) words status x y (λ u f s. delivers_at words status u x y f s) found settled

  pub run_delivers_clean : IfSome x (λ files. DeliversClean words files status x y)
  run_delivers_clean = told (λ u z. DeliversClean words u status z y) words status x y (λ u f s. clean_at words status u x y f s) found settled

  pub run_lists_spans : IfSome x (λ files. ListsAllSpans words files status x y)
  run_lists_spans = told (λ u z. ListsAllSpans words u status z y) words status x y (λ u f s. spans_at words status u x y f s) found settled

  pub run_counts_blocks : IfSome x (λ files. CountsAllBlocks words files status x y)
  run_counts_blocks = told (λ u z. CountsAllBlocks words u status z y) words status x y (λ u f s. blocks_at words status u x y f s) found settled

  pub run_counts_none : IfSome x (λ files. CountsNone words files status x y)
  run_counts_none = told (λ u z. CountsNone words u status z y) words status x y (λ u f s. none_at words status u x y f s) found settled

  pub run_links_lock : LawOnOwnLocks → IfSome x (λ files. LinksLock words files status x y)
  run_links_lock law = told (λ u z. LinksLock words u status z y) words status x y (λ u f s. lock_at words status u x y f s law) found settled

  pub run_sends_all : IfSome x (λ files. SendsAllPackets words files status x y)
  run_sends_all = told (λ u z. SendsAllPackets words u status z y) words status x y (λ u f s. sends_at words status u x y f s) found settled

  pub run_held_lacks : IfSome x (λ files. HeldLacksAPacket words files status x y)
  run_held_lacks = told (λ u z. HeldLacksAPacket words u status z y) words status x y (λ u f s. lacks_at words status u x y f s) found settled

  pub run_narrow_spans : IfSome x (λ files. SpansAreNarrow words files status x y)
  run_narrow_spans = told (λ u z. SpansAreNarrow words u status z y) words status x y (λ u f s. narrow_at words status u x y f s) found settled

  pub run_tells_missing : IfSome x (λ files. MissingAreTold words files status x y)
  run_tells_missing = told (λ u z. MissingAreTold words u status z y) words status x y (λ u f s. missing_at words status u x y f s) found settled

  pub run_links_when_on : IfSome x (λ files. LinksWhenOn words files status x y)
  run_links_when_on = told (λ u z. LinksWhenOn words u status z y) words status x y (λ u f s. when_on_at words status u x y f s) found settled
