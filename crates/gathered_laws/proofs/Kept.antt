-- A word that breaks no rule breaks none where the idles before the words before it are not there.
use Rattle.std.proofs.Common.{ℕ, ◌≡◌, ◌≤◌, ◌/◌, ◌%◌, Bool, true, false, not, ◌&&◌, ◌||◌, List, [], ◌∷◌, ◌++◌, length, reverse, filter, filter_map, Some, None, Option, is_some, ◌==◌, nat_lt, refl, sym, ap, ap₂, ◌∙◌, subst}
use Rattle.std.specs.Option.{option_map_or}
use Rattle.std.specs.List.{list_any}
use Rattle.std.proofs.lemmas.Bool.{and_right, or_parts, or_from}
use Rattle.lk_base.specs.Words.{is_bad}
use Rattle.lk_base.specs.Fields.{is_control_word, has_sop, has_end, channel_number}
use Rattle.lk_base.specs.declared.word.RxWord.{RxWord}
use Rattle.lk_base.specs.declared.word.RxWord.TheVariants.{Data, Control, Bad}
use Rattle.control_words.specs.ControlWord.{end_of}
use Rattle.receive_model.specs.Lists.{first_of}
use Rattle.receive_model.specs.Stretches.{data_number, has_some, has_wrong_crc}
use Rattle.stream_model.specs.declared.rows.FlowRow.{FlowRow}
use Rattle.word_rules.specs.declared.burst.Burst.{Burst}
use Rattle.word_rules.specs.declared.fault.Fault.{Fault}
use Rattle.word_rules.specs.declared.limits.WordLimits.{WordLimits}
use Rattle.word_rules.specs.declared.rule.WordRule.{WordRule}
use Rattle.word_rules.specs.declared.rule.WordRule.TheVariants as rules
use Rattle.word_rules.specs.Places.{is_burst_word}
use Rattle.word_rules.specs.Bursts.{ends, is_ended, burst_bytes, since_sop}
use Rattle.word_rules.specs.Rules.{breaks_max, breaks_control, breaks_crc, breaks_empty, breaks_short, closes_data, breaks_end, has_wrong_fill, breaks_fill, breaks_part, breaks_min, last_burst, breaks_sop, breaks_open, passes_limit, breaks_channel, breaks_long, breaks_idle, breaks_multi, is_listed, accepted_before, is_as_due, entries_at, has_zero_past_last, breaks_calendar, breaks_off}
use Rattle.word_rules.specs.Faults.{Plan, row, data_rows, word_rows, burst_rows, packet_rows, field_rows, faults_at}
use Rattle.gathered_laws.proofs.Alike.{Alike}
use Rattle.gathered_laws.proofs.Resets.{Within, due_without, stays_within}

-- ---- rows

pub no_part : (xs ys : List Fault) → xs ++ ys ≡ [] → (xs ≡ []) × (ys ≡ [])
no_part [] ys h = (refl, h)
no_part (x ∷ xs) ys h = cc

no_parts : (xs ys us vs : List Fault) → (xs ≡ [] → us ≡ []) → (ys ≡ [] → vs ≡ []) → xs ++ ys ≡ [] → us ++ vs ≡ []
no_parts xs ys us vs f g h = let two = no_part xs ys h in rw (f two.0, g two.1) refl

pub not_broken : (t : ℕ) (rule : WordRule) (channel : Option ℕ) (broken : Bool) → row t rule channel broken ≡ [] → broken ≡ false
not_broken t rule channel true h = cc
not_broken t rule channel false h = refl

no_row : (t : ℕ) (rule : WordRule) (channel : Option ℕ) (broken : Bool) → broken ≡ false → row t rule channel broken ≡ []
no_row t rule channel broken h = rw h refl

-- a row that is not there by the one test is not there by the other
kept : (t u : ℕ) (rule : WordRule) (one other : Option ℕ) (was is : Bool) → is ≡ was → row t rule one was ≡ [] → row u rule other is ≡ []
kept t u rule one other was is same h = no_row u rule other is (same ∙ not_broken t rule one was h)

kept_by : (t u : ℕ) (rule : WordRule) (one other : Option ℕ) (was is : Bool) → (was ≡ false → is ≡ false) → row t rule one was ≡ [] → row u rule other is ≡ []
kept_by t u rule one other was is then h = no_row u rule other is (then (not_broken t rule one was h))

yes : (b : Bool) → not b ≡ false → b ≡ true
yes true h = refl
yes false h = sym h

-- ---- the rules

module _ (e g : List RxWord) (a : Alike e g) where
  same_max : (s : WordLimits) → breaks_max s e ≡ breaks_max s g
  same_max s = ap₂ (λ (o : Option ℕ) (ds : List ℕ). is_some o && (length ds == s.burst_max / 8)) (sym a.burst) (sym a.data_words)

  same_crc : (x : ℕ) → breaks_crc e x ≡ breaks_crc g x
  same_crc x = ap (λ (ws : List RxWord). not (list_any is_bad ws) && has_wrong_crc (reverse (filter_map data_number ws)) x) (sym a.since)

  same_short : (s : WordLimits) (x : ℕ) → breaks_short s e x ≡ breaks_short s g x
  same_short s x = ap (λ (o : Option ℕ). is_burst_word x && option_map_or (λ between. nat_lt between (s.burst_short / 8)) o false) (sym a.between)

  same_closes : closes_data e ≡ closes_data g
  same_closes = ap₂ (λ (o : Option ℕ) (ds : List ℕ). is_some o && has_some ds) (sym a.burst) (sym a.data_words)

  same_end : (x : ℕ) → breaks_end e x ≡ breaks_end g x
  same_end x = ap₂ (λ (closed bad : Bool). ends x && (not closed && not bad)) same_closes (sym a.follows)

  same_fill : (x : ℕ) → breaks_fill e x ≡ breaks_fill g x
  same_fill x = ap₂ (λ (closed : Bool) (ds : List ℕ). is_control_word x && (closed && has_wrong_fill (end_of x) ds)) same_closes (sym a.data_words)

  same_part : (x : ℕ) → breaks_part e x ≡ breaks_part g x
  same_part x = ap₂ (λ (closed : Bool) (ds : List ℕ). (is_control_word x && not (has_end x)) && (closed && not (length ds % 4 == 0))) same_closes (sym a.data_words)

  same_min : (s : WordLimits) (x : ℕ) → breaks_min s e x ≡ breaks_min s g x
  same_min s x = ap₂
      (λ (ds : List ℕ) (o : Option ℕ). is_control_word x && (has_some ds && (nat_lt (burst_bytes (length ds) (end_of x)) s.burst_min && option_map_or (λ word. not (has_sop word && has_end x)) o false)))
      (sym a.data_words) (sym a.burst)

  same_last : (wide : Bool) (x : ℕ) → last_burst wide e x ≡ last_burst wide g x
  same_last wide x = ap (λ (bs : List Burst). first_of (filter (λ (b : Burst). channel_number wide b.word == channel_number wide x) bs)) (sym (a.bursts x 0))

  same_sop : (s : WordLimits) (x : ℕ) → breaks_sop s e x ≡ breaks_sop s g x
  same_sop s x = ap (λ (o : Option Burst). is_burst_word x && (has_sop x && option_map_or (λ b. not (is_ended b)) o false)) (same_last s.wide x)

  same_open : (s : WordLimits) (x : ℕ) → breaks_open s e x ≡ breaks_open s g x
  same_open s x = ap₂
      (λ (o : Option Burst) (bad : Bool). is_burst_word x && (not (has_sop x) && (not (option_map_or (λ b. not (is_ended b)) o false) && (is_some o || not bad))))
      (same_last s.wide x) (sym a.bad)

  same_long : (s : WordLimits) (x : ℕ) → breaks_long s e x ≡ breaks_long s g x
  same_long s x = ap₂
      (λ (bs : List Burst) (o : Option ℕ).
      is_control_word x
      && option_map_or
      (λ word. option_map_or (passes_limit s.max_packet (end_of x)) (since_sop (filter (λ (b : Burst). channel_number s.wide b.word == channel_number s.wide word) bs)) false)
      o
      false)
      (sym (a.bursts x 0)) (sym a.burst)

  abbrev wrong_calendar : ℕ → List ℕ → ℕ → Bool
  wrong_calendar n cs x = not (is_as_due n cs x) || option_map_or (has_zero_past_last n x) (entries_at cs x) false

  calendar_by : (n x : ℕ) → 1 ≤ n → Within n (accepted_before g) → wrong_calendar n (accepted_before g) x ≡ false → wrong_calendar n (accepted_before e) x ≡ false
  calendar_by n x some within h =
      let was : wrong_calendar n (accepted_before e ++ a.more) x ≡ false = subst (λ (cs : List ℕ). wrong_calendar n cs x ≡ false) a.accepted h in
      let two = or_parts (not (is_as_due n (accepted_before e ++ a.more) x)) (option_map_or (has_zero_past_last n x) (entries_at (accepted_before e ++ a.more) x) false) was in
      let d = due_without n some (accepted_before e) a.more x (subst (Within n) a.accepted within) (yes (is_as_due n (accepted_before e ++ a.more) x) two.0) two.1 in
      or_from (not (is_as_due n (accepted_before e) x)) (option_map_or (has_zero_past_last n x) (entries_at (accepted_before e) x) false) (ap not d.due) d.past

  keeps_calendar : (n x : ℕ) → 1 ≤ n → is_control_word x ≡ true → Within n (accepted_before g) → breaks_calendar n g x ≡ false → breaks_calendar n e x ≡ false
  keeps_calendar n x some right within h =
      let was : wrong_calendar n (accepted_before g) x ≡ false = ap (λ (b : Bool). b && wrong_calendar n (accepted_before g) x) (sym right) ∙ h in
      and_right (is_control_word x) (wrong_calendar n (accepted_before e) x) (calendar_by n x some within was)

  never_off : (p : Plan) (x : ℕ) → p.flow ≡ [] → breaks_off p.limits p.channels p.entries p.flow e x ≡ false
  never_off p x none =
      ap (λ (rows : List FlowRow). breaks_off p.limits p.channels p.entries rows e x) none
      ∙ and_right (is_burst_word x) _ (and_right (is_listed p.channels (channel_number p.limits.wide x)) false refl)

  -- ---- the rows of a word

  -- a row that says nothing of the words before
  own : (rule : WordRule) (channel : Option ℕ) (broken : Bool) → row (length g) rule channel broken ≡ [] → row (length e) rule channel broken ≡ []
  own rule channel broken = kept (length g) (length e) rule channel channel broken broken refl

  module _ (p : Plan) (some : 1 ≤ length p.entries) (none : p.flow ≡ []) (within : Within (length p.entries) (accepted_before g)) where
    keeps_data_rows : data_rows p.limits g ≡ [] → data_rows p.limits e ≡ []
    keeps_data_rows = no_parts _ _ _ _ (kept _ _ rules.Data _ _ _ _ (sym a.first)) (kept _ _ rules.Max _ _ _ _ (same_max p.limits))

    module _ (x : ℕ) (next : Option RxWord) where
      keeps_word_rows : word_rows p.limits g x next ≡ [] → word_rows p.limits e x next ≡ []
      keeps_word_rows =
          no_parts _ _ _ _ (own rules.Control None (breaks_control x))
          (no_parts _ _ _ _ (kept _ _ rules.Crc _ _ _ _ (same_crc x))
          (no_parts _ _ _ _ (own rules.Empty (Some (channel_number p.limits.wide x)) (breaks_empty x next))
          (no_parts _ _ _ _ (kept _ _ rules.Short _ _ _ _ (same_short p.limits x))
          (kept _ _ rules.End _ _ _ _ (same_end x)))))

      keeps_burst_rows : burst_rows p.limits g x ≡ [] → burst_rows p.limits e x ≡ []
      keeps_burst_rows =
          no_parts _ _ _ _ (kept _ _ rules.Fill _ _ _ _ (same_fill x))
          (no_parts _ _ _ _ (kept _ _ rules.Part _ _ _ _ (same_part x))
          (kept _ _ rules.Min _ _ _ _ (same_min p.limits x)))

      keeps_packet_rows : packet_rows p.limits p.channels g x ≡ [] → packet_rows p.limits p.channels e x ≡ []
      keeps_packet_rows =
          no_parts _ _ _ _ (kept _ _ rules.Sop _ _ _ _ (same_sop p.limits x))
          (no_parts _ _ _ _ (kept _ _ rules.Open _ _ _ _ (same_open p.limits x))
          (no_parts _ _ _ _ (own rules.Channel (Some (channel_number p.limits.wide x)) (breaks_channel p.limits p.channels x))
          (kept _ _ rules.Long _ _ _ _ (same_long p.limits x))))

      keeps_field_rows : is_control_word x ≡ true → field_rows p g x ≡ [] → field_rows p e x ≡ []
      keeps_field_rows right =
          no_parts _ _ _ _ (own rules.Idle None (breaks_idle x))
          (no_parts _ _ _ _ (own rules.Multi (Some (channel_number p.limits.wide x)) (breaks_multi p.limits x))
          (no_parts _ _ _ _ (kept_by _ _ rules.Calendar _ _ _ _ (keeps_calendar (length p.entries) x some right within))
          (kept_by _ _ rules.Off _ _ (breaks_off p.limits p.channels p.entries p.flow g x) _ (λ h. never_off p x none))))

      right_word : word_rows p.limits g x next ≡ [] → is_control_word x ≡ true
      right_word h = yes (is_control_word x) (not_broken (length g) rules.Control None (breaks_control x) (no_part _ _ h).0)

      keeps_control_rows : faults_at p g (Control x) next ≡ [] → faults_at p e (Control x) next ≡ []
      keeps_control_rows h =
          let right = right_word (no_part _ _ h).0 in
          no_parts _ _ _ _ keeps_word_rows (no_parts _ _ _ _ keeps_burst_rows (no_parts _ _ _ _ keeps_packet_rows (keeps_field_rows right))) h

    -- no row by the words with the idles, none by those without
    pub keeps_rows : (word : RxWord) (next : Option RxWord) → faults_at p g word next ≡ [] → faults_at p e word next ≡ []
    keeps_rows (Data x) next h = keeps_data_rows h
    keeps_rows (Control x) next h = keeps_control_rows x next h
    keeps_rows Bad next h = cc

-- ---- the calendar after a word without a fault

accepted_control : (x : ℕ) (e : List RxWord) → is_control_word x ≡ true → accepted_before (Control x ∷ e) ≡ x ∷ accepted_before e
accepted_control x e h = rw h refl

module _ (p : Plan) (some : 1 ≤ length p.entries) (e : List RxWord) where
  accepted_by : (x : ℕ) (next : Option RxWord) → word_rows p.limits e x next ≡ [] → is_control_word x ≡ true
  accepted_by x next h = yes (is_control_word x) (not_broken (length e) rules.Control None (breaks_control x) (no_part _ _ h).0)

  calendar_kept : (x : ℕ) → field_rows p e x ≡ [] → breaks_calendar (length p.entries) e x ≡ false
  calendar_kept x h =
      let more = (no_part (row (length e) rules.Idle None (breaks_idle x)) _ h).1 in
      let last = (no_part (row (length e) rules.Multi (Some (channel_number p.limits.wide x)) (breaks_multi p.limits x)) _ more).1 in
      not_broken (length e) rules.Calendar None (breaks_calendar (length p.entries) e x) (no_part _ _ last).0

  due_by : (x : ℕ) → is_control_word x ≡ true → breaks_calendar (length p.entries) e x ≡ false → is_as_due (length p.entries) (accepted_before e) x ≡ true
  due_by x right h =
      let n : ℕ = length p.entries in
      let past : Bool = option_map_or (has_zero_past_last n x) (entries_at (accepted_before e) x) false in
      let both : (not (is_as_due n (accepted_before e) x) || past) ≡ false = ap (λ (b : Bool). b && (not (is_as_due n (accepted_before e) x) || past)) (sym right) ∙ h in
      yes (is_as_due n (accepted_before e) x) (or_parts (not (is_as_due n (accepted_before e) x)) past both).0

  pub keeps_within : (word : RxWord) (next : Option RxWord) → faults_at p e word next ≡ [] → Within (length p.entries) (accepted_before e) → Within (length p.entries) (accepted_before (word ∷ e))
  keeps_within (Data x) next h within = within
  keeps_within Bad next h within = cc
  keeps_within (Control x) next h within =
      let words = no_part (word_rows p.limits e x next) (burst_rows p.limits e x ++ (packet_rows p.limits p.channels e x ++ field_rows p e x)) h in
      let bursts = no_part (burst_rows p.limits e x) (packet_rows p.limits p.channels e x ++ field_rows p e x) words.1 in
      let packets = no_part (packet_rows p.limits p.channels e x) (field_rows p e x) bursts.1 in
      let right = accepted_by x next words.0 in
      let due = due_by x right (calendar_kept x packets.1) in
      subst (Within (length p.entries)) (sym (accepted_control x e right)) (stays_within (length p.entries) some x (accepted_before e) due within)
