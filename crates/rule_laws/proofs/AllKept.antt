-- A stream breaks no rule.
use Rattle.std.proofs.Common.{ℕ, ◌≡◌, ◌≤◌, Bool, false, List, [], ◌∷◌, ◌++◌, length, map, reverse, None, Option, All, refl, sym, ap, ap₂, subst, ◌∙◌, append_assoc}
use Rattle.std.proofs.lemmas.List.{reverse-append}
use Rattle.lk_base.specs.Words.{as_sent, block}
use Rattle.lk_base.specs.declared.word.Word.{Word}
use Rattle.lk_base.specs.declared.word.Word.TheVariants.{Data, Control}
use Rattle.lk_base.specs.declared.word.RxWord.{RxWord}
use Rattle.lk_base.specs.declared.word.RxWord.TheVariants as received
use Rattle.stream_model.specs.BurstStream.{Source, IsBurstStream, IsAt}
use Rattle.stream_model.specs.declared.rows.FlowRow.{FlowRow}
use Rattle.delivery_laws.proofs.Links.{warm}
use Rattle.receive_model.specs.Lists.{first_of}
use Rattle.word_rules.specs.declared.fault.Fault.{Fault}
use Rattle.word_rules.specs.declared.rule.WordRule.{WordRule}
use Rattle.word_rules.specs.declared.rule.WordRule.TheVariants as rules
use Rattle.word_rules.specs.Rules.{breaks_calendar, breaks_off}
use Rattle.word_rules.specs.Faults.{Plan, row, data_rows, word_rows, burst_rows, packet_rows, field_rows, faults, faults_at, faults_from}
use Rattle.rule_laws.specs.Law.{IsPlanOf, LawOnRules}
use Rattle.rule_laws.proofs.Places.{Blocks, Start, behind, right_at, one_more}
use Rattle.rule_laws.proofs.Calendars.{keeps_calendar}
use Rattle.rule_laws.proofs.Packets.{keeps_sop, keeps_open, keeps_long}
use Rattle.rule_laws.proofs.Filled.{keeps_data, keeps_max, keeps_empty, keeps_short, closing}
use Rattle.rule_laws.proofs.Closed.{keeps_end, keeps_fill, keeps_part, keeps_min}
use Rattle.rule_laws.proofs.SingleWords.{keeps_control, keeps_crc, keeps_idle, keeps_multi, keeps_channel, keeps_off}

no_row : (t : ℕ) (rule : WordRule) (channel : Option ℕ) (broken : Bool) → broken ≡ false → row t rule channel broken ≡ []
no_row t rule channel broken h = rw h refl

no_rows : (xs ys : List Fault) → xs ≡ [] → ys ≡ [] → xs ++ ys ≡ []
no_rows xs ys h k = rw h k

module _ (source : Source) (plan : Plan) (some : 1 ≤ length source.entries) (of : IsPlanOf plan source) where
  fits : All (λ (p : ℕ × List ℕ). length p.1 ≤ plan.limits.max_packet) source.packets
  fits k d below = (of.packets k d below).fits

  -- a Data word has no row
  at_data : (p : List Word) (e : List RxWord) (y : ℕ) (xs : List ℕ) (d : ℕ) (q : List Word) → Blocks source p e y → IsBurstStream source (p ++ Control y ∷ (map Data (reverse xs) ++ Data d ∷ q)) → data_rows plan.limits (behind xs y e) ≡ []
  at_data p e y xs d q before stream =
      no_rows _ _
      (no_row _ rules.Data None _ (keeps_data source p e y xs d q before stream))
      (no_row _ rules.Max _ _ (keeps_max source plan.limits p e y xs d q of.burst_max stream))

  module _ (p : List Word) (e : List RxWord) (x : ℕ) (q : List Word) (before : Blocks source p e x) (stream : IsBurstStream source (p ++ Control x ∷ q)) where
    no_word_rows : word_rows plan.limits e x (first_of (map as_sent q)) ≡ []
    no_word_rows =
        no_rows _ _ (no_row _ rules.Control _ _ (keeps_control source p e x before))
        (no_rows _ _ (no_row _ rules.Crc _ _ (keeps_crc source p e x before))
        (no_rows _ _ (no_row _ rules.Empty _ _ (keeps_empty source p x q stream))
        (no_rows _ _ (no_row _ rules.Short _ _ (keeps_short source plan.limits p e x of.burst_short before))
        (no_row _ rules.End _ _ (keeps_end source p e x (closing source p e x before))))))

    no_burst_rows : burst_rows plan.limits e x ≡ []
    no_burst_rows =
        no_rows _ _ (no_row _ rules.Fill _ _ (keeps_fill source p e x (closing source p e x before)))
        (no_rows _ _ (no_row _ rules.Part _ _ (keeps_part source p e x (closing source p e x before)))
        (no_row _ rules.Min _ _ (keeps_min source p e x (closing source p e x before) plan.limits of.burst_min)))

    no_packet_rows : packet_rows plan.limits plan.channels e x ≡ []
    no_packet_rows =
        no_rows _ _ (no_row _ rules.Sop _ _ (keeps_sop source plan.limits of.numbers p e x q before stream))
        (no_rows _ _ (no_row _ rules.Open _ _ (keeps_open source plan.limits of.numbers p e x q before stream))
        (no_rows _ _ (no_row _ rules.Channel _ _ (keeps_channel source p e x before plan.limits plan.channels of.numbers of.listed))
        (no_row _ rules.Long _ _ (keeps_long source plan.limits of.numbers fits p e x before))))

    calendar_kept : breaks_calendar (length plan.entries) e x ≡ false
    calendar_kept = ap (λ (es : List ℕ). breaks_calendar (length es) e x) of.entries ∙ keeps_calendar source some p e x before

    off_kept : breaks_off plan.limits plan.channels plan.entries plan.flow e x ≡ false
    off_kept = ap₂ (λ (es : List ℕ) (rows : List FlowRow). breaks_off plan.limits plan.channels es rows e x) of.entries of.flow ∙ keeps_off source p e x before plan.limits plan.channels of.numbers

    no_field_rows : field_rows plan e x ≡ []
    no_field_rows =
        no_rows _ _ (no_row _ rules.Idle _ _ (keeps_idle source p e x before))
        (no_rows _ _ (no_row _ rules.Multi _ _ (keeps_multi source p e x before plan.limits of.numbers))
        (no_rows _ _ (no_row _ rules.Calendar _ _ calendar_kept)
        (no_row _ rules.Off _ _ off_kept)))

    -- nor has a Control word
    at_control : faults_at plan e (received.Control x) (first_of (map as_sent q)) ≡ []
    at_control = no_rows _ _ no_word_rows (no_rows _ _ no_burst_rows (no_rows _ _ no_packet_rows no_field_rows))

  data_push : (xs : List ℕ) (d : ℕ) (q : List Word) → map Data (reverse (d ∷ xs)) ++ q ≡ map Data (reverse xs) ++ Data d ∷ q
  data_push xs d q = ap (λ (ds : List ℕ). map Data ds ++ q) (reverse-append (d ∷ []) xs) ∙ by (reverse xs)
    where
      by : (ds : List ℕ) → map Data (ds ++ d ∷ []) ++ q ≡ map Data ds ++ Data d ∷ q
      by [] = refl
      by (c ∷ ds) = ap (λ (ws : List Word). Data c ∷ ws) (by ds)

  -- the words q after the control word y and its data so far
  from_here : (p : List Word) (e : List RxWord) (y : ℕ) (xs : List ℕ) (q : List Word) → Blocks source p e y → IsBurstStream source (p ++ Control y ∷ (map Data (reverse xs) ++ q)) → faults_from plan (behind xs y e) (map as_sent q) ≡ []
  from_here p e y xs [] before stream = refl
  from_here p e y xs (Data d ∷ q) before stream =
      no_rows (data_rows plan.limits (behind xs y e)) (faults_from plan (behind (d ∷ xs) y e) (map as_sent q))
      (at_data p e y xs d q before stream)
      (from_here p e y (d ∷ xs) q before (subst (λ (ws : List Word). IsBurstStream source (p ++ Control y ∷ ws)) (sym (data_push xs d q)) stream))
  from_here p e y xs (Control x ∷ q) before stream =
      let more = one_more source p e y xs x q before stream in
      let whole : (p ++ block y (reverse xs)) ++ Control x ∷ q ≡ p ++ Control y ∷ (map Data (reverse xs) ++ Control x ∷ q) = append_assoc p (block y (reverse xs)) (Control x ∷ q) in
      let same : IsBurstStream source ((p ++ block y (reverse xs)) ++ Control x ∷ q) = subst (λ (ws : List Word). IsBurstStream source ws) (sym whole) stream in
      no_rows (faults_at plan (behind xs y e) (received.Control x) (first_of (map as_sent q))) (faults_from plan (behind [] x (behind xs y e)) (map as_sent q))
      (at_control (p ++ block y (reverse xs)) (behind xs y e) x q more same)
      (from_here (p ++ block y (reverse xs)) (behind xs y e) x [] q more same)

  from_start : (w : List Word) (x : ℕ) → IsAt w 0 (Control x) → IsBurstStream source w → faults_from plan [] (map as_sent w) ≡ []
  from_start [] x at stream = refl
  from_start (Data d ∷ q) x at stream = cc
  from_start (Control y ∷ q) x at stream =
      let start : Blocks source [] [] y = Start y (right_at source [] y q stream) in
      no_rows (faults_at plan [] (received.Control y) (first_of (map as_sent q))) (faults_from plan (behind [] y []) (map as_sent q))
      (at_control [] [] y q start stream)
      (from_here [] [] y [] q start stream)

-- of what a source keeps, that its calendar has an entry is all that is needed
pub breaks_none : (source : Source) (plan : Plan) (w : List Word) → 1 ≤ length source.entries → IsPlanOf plan source → IsBurstStream source w → faults plan (map as_sent w) ≡ []
breaks_none source plan w some of stream =
    let first = stream.warmup 0 (warm source) in
    from_start source plan some of w first.0 first.1 stream

pub the_law_on_rules : LawOnRules
the_law_on_rules source plan w keeps of stream = breaks_none source plan w keeps.some_entry of stream
