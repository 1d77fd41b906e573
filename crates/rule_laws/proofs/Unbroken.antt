-- Words without a fault: what their rows say, and that each stretch of them passes.
use Rattle.std.proofs.Common.{ℕ, ◌≡◌, ◌+◌, Bool, true, false, not, ◌&&◌, List, [], ◌∷◌, ◌++◌, append_assoc, append-nil, reverse, length, map, Option, Some, None, is_some, MatchOption, refl, sym, ap, ◌∙◌}
use Rattle.std.specs.List.{list_all, list_any}
use Rattle.std.proofs.lemmas.Bool.{and_right, not-false}
use Rattle.std.proofs.lemmas.List.{reverse-append}
use Rattle.lk_base.specs.declared.word.RxWord.{RxWord}
use Rattle.lk_base.specs.declared.word.RxWord.TheVariants.{Data, Control, Bad}
use Rattle.lk_base.specs.Fields.{channel_number, has_end, is_control_word}
use Rattle.lk_base.specs.Words.{is_bad}
use Rattle.receive_model.specs.Lists.{first_of, neighbours}
use Rattle.receive_model.specs.Positions.{Placed, placed_from, numbered}
use Rattle.receive_model.specs.Stretches.{Headed, headed, is_no_control, between, any_bad, data_among, has_some, has_wrong_crc, breaks_protocol, fault_from, stretches, passes}
use Rattle.receive_model.proofs.Cuts.{same}
use Rattle.receive_model.proofs.HeadsOn.{headed-cons}
use Rattle.word_rules.specs.declared.fault.Fault.{Fault}
use Rattle.word_rules.specs.declared.rule.WordRule.{WordRule}
use Rattle.word_rules.specs.declared.rule.WordRule.TheVariants as rules
use Rattle.word_rules.specs.Places.{is_burst_word, since_control, channel_before, burst_before}
use Rattle.word_rules.specs.Rules.{breaks_control, breaks_crc, breaks_data, breaks_end, breaks_sop, breaks_open, breaks_channel, breaks_long, breaks_empty, breaks_short}
use Rattle.word_rules.specs.Faults.{Plan, row, data_rows, word_rows, burst_rows, packet_rows, field_rows, faults_at, faults_from}
use Rattle.rule_laws.specs.WordsWithoutFault.{LawOnStretches}
use Rattle.rule_laws.proofs.Places.{behind}
use Rattle.rule_laws.proofs.Behind.{covered_of}

-- no rows are no rows of either part
none_of : (xs ys : List Fault) → xs ++ ys ≡ [] → (xs ≡ []) × (ys ≡ [])
none_of [] ys h = (refl, h)
none_of (x ∷ xs) ys h = cc

-- a rule without a row is kept
kept : (t : ℕ) (rule : WordRule) (channel : Option ℕ) (broken : Bool) → row t rule channel broken ≡ [] → broken ≡ false
kept t rule channel true h = cc
kept t rule channel false h = refl

-- the first rule is kept, and the rest has no row
kept_first : (t : ℕ) (rule : WordRule) (channel : Option ℕ) (broken : Bool) (ys : List Fault) → row t rule channel broken ++ ys ≡ [] → (broken ≡ false) × (ys ≡ [])
kept_first t rule channel true ys h = cc
kept_first t rule channel false ys h = (refl, h)

-- the rules that a receiver goes by, at a Control word
pub record Keeps (p : Plan) (earlier : List RxWord) (x : ℕ) : Type 0 where
  pub control : breaks_control x ≡ false
  pub crc : breaks_crc earlier x ≡ false
  pub end : breaks_end earlier x ≡ false
  pub sop : breaks_sop p.limits earlier x ≡ false
  pub going_on : breaks_open p.limits earlier x ≡ false
  pub channel : breaks_channel p.limits p.channels x ≡ false
  pub long : breaks_long p.limits earlier x ≡ false

pub keeps_at : (p : Plan) (e : List RxWord) (x : ℕ) (next : Option RxWord) → faults_at p e (Control x) next ≡ [] → Keeps p e x
keeps_at p e x next h =
    let t = length e in
    let own = Some (channel_number p.limits.wide x) in
    let a = none_of (word_rows p.limits e x next) (burst_rows p.limits e x ++ (packet_rows p.limits p.channels e x ++ field_rows p e x)) h in
    let b = none_of (burst_rows p.limits e x) (packet_rows p.limits p.channels e x ++ field_rows p e x) a.1 in
    let c = none_of (packet_rows p.limits p.channels e x) (field_rows p e x) b.1 in
    let control = kept_first t rules.Control None (breaks_control x) _ a.0 in
    let crc = kept_first t rules.Crc None (breaks_crc e x) _ control.1 in
    let empty = kept_first t rules.Empty own (breaks_empty x next) _ crc.1 in
    let short = kept_first t rules.Short own (breaks_short p.limits e x) _ empty.1 in
    let sop = kept_first t rules.Sop own (breaks_sop p.limits e x) _ c.0 in
    let opens = kept_first t rules.Open own (breaks_open p.limits e x) _ sop.1 in
    let channel = kept_first t rules.Channel own (breaks_channel p.limits p.channels x) _ opens.1 in
    record {
      control = control.0;
      crc = crc.0;
      end = kept t rules.End None (breaks_end e x) short.1;
      sop = sop.0;
      going_on = opens.0;
      channel = channel.0;
      long = kept t rules.Long (channel_before p.limits.wide e) (breaks_long p.limits e x) channel.1;
    }

-- of a Data word, the rule of Data
pub data_kept : (p : Plan) (e : List RxWord) → data_rows p.limits e ≡ [] → breaks_data e ≡ false
data_kept p e h = (kept_first (length e) rules.Data None (breaks_data e) _ h).0

-- without a fault, the words from a place on
pub faults_on : (p : Plan) (e : List RxWord) (word : RxWord) (words : List RxWord) → faults_from p e (word ∷ words) ≡ [] → (faults_at p e word (first_of words) ≡ []) × (faults_from p (word ∷ e) words ≡ [])
faults_on p e word words h = none_of (faults_at p e word (first_of words)) (faults_from p (word ∷ e) words) h

-- ---- one stretch

no_bad_since : (xs : List ℕ) (y : ℕ) (e : List RxWord) → list_any is_bad (since_control (behind xs y e)) ≡ false
no_bad_since [] y e = refl
no_bad_since (x ∷ xs) y e = no_bad_since xs y e

some_push : (xs : List ℕ) (d : ℕ) → has_some (xs ++ d ∷ []) ≡ true
some_push [] d = refl
some_push (x ∷ xs) d = refl

some_reverse : (xs : List ℕ) → has_some (reverse xs) ≡ has_some xs
some_reverse [] = refl
some_reverse (x ∷ xs) = ap has_some (reverse-append (x ∷ []) xs) ∙ some_push (reverse xs) x

is_accepted : (x : ℕ) → breaks_control x ≡ false → is_control_word x ≡ true
is_accepted x h = not-false (is_control_word x) h

-- an end comes after data alone
end_after_data : (p : Plan) (e : List RxWord) (x : ℕ) (xs : List ℕ) (y : ℕ) → Keeps p (behind xs x e) y → (has_end y && not (has_some xs)) ≡ false
end_after_data p e x (d ∷ xs) y k = and_right (has_end y) false refl
end_after_data p e x [] y k =
    let none : (is_some (burst_before (behind [] x e)) && false) ≡ false = and_right (is_some (burst_before (behind [] x e))) false refl in
    rw (is_accepted y k.control, none) at k.end

no_fault : (x y : ℕ) (ds : List ℕ) → has_wrong_crc ds y ≡ false → breaks_protocol x ds y ≡ false → fault_from false x ds y ≡ None
unfolding fault_from
no_fault x y ds crc right = rw (crc, right) refl

-- no data, or they stand after a burst word
abbrev StandRight : ℕ → List ℕ → Type 0
StandRight x xs = (has_some xs && not (is_burst_word x)) ≡ false

closed_right : (p : Plan) (e : List RxWord) (x : ℕ) (xs : List ℕ) (y : ℕ) → StandRight x xs → Keeps p (behind xs x e) y → fault_from false x (reverse xs) y ≡ None
closed_right p e x xs y stand k =
    let crc : has_wrong_crc (reverse xs) y ≡ false = rw (no_bad_since xs x e, covered_of xs x e) at k.crc in
    let end = end_after_data p e x xs y k in
    no_fault x y (reverse xs) crc (rw (is_accepted y k.control, some_reverse xs, stand, end) refl)

-- the data go on right
stand_on : (x : ℕ) (xs : List ℕ) (d : ℕ) (e : List RxWord) → StandRight x xs → breaks_data (behind xs x e) ≡ false → StandRight x (d ∷ xs)
stand_on x [] d e stand h = h
stand_on x (c ∷ xs) d e stand h = stand

-- what stands after the control word x up to the next one has no fault; `xs` are its data so far
abbrev NextRight : ℕ → List ℕ → List Placed → Option Headed → Type 0
NextRight x xs inner next = MatchOption next (Unit {0}) (λ h. fault_from (any_bad inner) x (reverse xs ++ data_among inner) h.number ≡ None)

module _ (p : Plan) (e : List RxWord) (x : ℕ) where
  next_right : (q : Placed) (n : ℕ) (xs : List ℕ) (words : List RxWord) → StandRight x xs → faults_from p (behind xs x e) words ≡ []
      → NextRight x xs (same is_no_control q (placed_from n words)) (first_of (headed (placed_from n words)))
  next_right q n xs [] stand h = tt
  next_right q n xs (Data d ∷ words) stand h =
      let here : Placed = record { at = numbered n; word = Data d } in
      let on = faults_on p (behind xs x e) (Data d) words h in
      let right = next_right here (n + 1) (d ∷ xs) words (stand_on x xs d e stand (data_kept p (behind xs x e) on.0)) on.1 in
      rw (headed-cons here (placed_from (n + 1) words)) (by (first_of (headed (placed_from (n + 1) words))) (same is_no_control here (placed_from (n + 1) words)) right)
    where
      pushed : (ds : List ℕ) → reverse (d ∷ xs) ++ ds ≡ reverse xs ++ d ∷ ds
      pushed ds = ap (λ ys. ys ++ ds) (reverse-append (d ∷ []) xs) ∙ append_assoc (reverse xs) (d ∷ []) ds

      by : (next : Option Headed) (inner : List Placed) → NextRight x (d ∷ xs) inner next → NextRight x xs (record { at = numbered n; word = Data d } ∷ inner) next
      by None inner right = tt
      by (Some z) inner right = ap (λ ds. fault_from (any_bad inner) x ds z.number) (sym (pushed (data_among inner))) ∙ right
  next_right q n xs (Control y ∷ words) stand h =
      let here : Placed = record { at = numbered n; word = Control y } in
      let on = faults_on p (behind xs x e) (Control y) words h in
      rw (headed-cons here (placed_from (n + 1) words)) (ap (λ ds. fault_from false x ds y) (append-nil (reverse xs)) ∙ closed_right p e x xs y stand (keeps_at p (behind xs x e) y (first_of words) on.0))
  next_right q n xs (Bad ∷ words) stand h = cc

-- ---- all stretches

stretches_pass : (p : Plan) (e : List RxWord) (n : ℕ) (words : List RxWord) → faults_from p e words ≡ [] → list_all passes (stretches (placed_from n words)) ≡ true
stretches_pass p e n [] h = refl
stretches_pass p e n (Data d ∷ words) h =
    let here : Placed = record { at = numbered n; word = Data d } in
    rw (headed-cons here (placed_from (n + 1) words)) (stretches_pass p (Data d ∷ e) (n + 1) words (faults_on p e (Data d) words h).1)
stretches_pass p e n (Control x ∷ words) h =
    let here : Placed = record { at = numbered n; word = Control x } in
    let later = (faults_on p e (Control x) words h).1 in
    rw (headed-cons here (placed_from (n + 1) words))
    (by (same is_no_control here (placed_from (n + 1) words)) (headed (placed_from (n + 1) words)) (next_right p e x here (n + 1) [] words refl later) (stretches_pass p (Control x ∷ e) (n + 1) words later))
  where
    by : (inner : List Placed) (heads : List Headed) → NextRight x [] inner (first_of heads) → list_all passes (map between (neighbours heads)) ≡ true
        → list_all passes (map between (neighbours (record { at = numbered n; number = x; following = inner } ∷ heads))) ≡ true
    by inner [] right rest = refl
    by inner (z ∷ heads) right rest = rw right rest
stretches_pass p e n (Bad ∷ words) h = cc

pub the_law_on_stretches : LawOnStretches
the_law_on_stretches p words h = stretches_pass p [] 0 words h
