-- How many faults there may be, and the order of the rows of flow control.
use Rattle.std.proofs.Common.{◌≡◌, ℕ, suc, ◌+◌, ◌*◌, ◌≤◌, ◌<◌, ◌^◌, Bool, true, false, List, [], ◌∷◌, ◌++◌, length, Option, Some, None, ap, arith}
use Rattle.std.proofs.lemmas.List.{length-append}
use Rattle.lk_base.specs.declared.word.RxWord.{RxWord}
use Rattle.lk_base.specs.declared.word.RxWord.TheVariants.{Data, Control, Bad}
use Rattle.receive_model.specs.Lists.{first_of}
use Rattle.stream_model.specs.declared.rows.FlowRow.{FlowRow}
use Rattle.std.specs.List.Sorted.{IsNonDecreasingBy}
use Rattle.word_rules.specs.Faults.{Plan, data_rows, word_rows, burst_rows, packet_rows, field_rows, faults, faults_at, faults_from, row}
use Rattle.word_rules.specs.Flows.{InOrder, no_row}
use Rattle.word_rules.specs.declared.fault.Fault.{Fault}
use Rattle.word_rules.specs.declared.rule.WordRule.{WordRule}
use Rattle.word_rules.specs.declared.rule.WordRule.TheVariants as rules
use Rattle.word_rules.specs.declared.limits.WordLimits.{WordLimits}
use Rattle.word_rules.specs.Places.{channel_before}
use Rattle.word_rules.specs.Rules.{breaks_data, breaks_max, breaks_control, breaks_crc, breaks_empty, breaks_short, breaks_end, breaks_fill, breaks_part, breaks_min, breaks_sop, breaks_open, breaks_channel, breaks_long, breaks_idle, breaks_multi, breaks_calendar, breaks_off}
use Rattle.lk_base.specs.Fields.{channel_number}

one_row : (t : ℕ) (rule : WordRule) (channel : Option ℕ) (broken : Bool) → length (row t rule channel broken) ≤ 1
one_row t rule channel true = omega arith
one_row t rule channel false = omega arith

join : (xs ys : List Fault) (m n : ℕ) → length xs ≤ m → length ys ≤ n → length (xs ++ ys) ≤ m + n
join xs ys m n a b = let e = length-append xs ys in omega (arith, a, b, e)

at_most : (t : ℕ) (rule : WordRule) (channel : Option ℕ) (broken : Bool) (rest : List Fault) (n : ℕ) → length rest ≤ n → length (row t rule channel broken ++ rest) ≤ suc n
at_most t rule channel true rest n h = omega (arith, h)
at_most t rule channel false rest n h = omega (arith, h)

few_data : (s : WordLimits) (earlier : List RxWord) → length (data_rows s earlier) ≤ 2
few_data s earlier =
    let t : ℕ = length earlier in
    let burst : Option ℕ = channel_before s.wide earlier in
    at_most t rules.Data None (breaks_data earlier) (row t rules.Max burst (breaks_max s earlier)) 1 (one_row t rules.Max burst (breaks_max s earlier))

few_word : (s : WordLimits) (earlier : List RxWord) (x : ℕ) (next : Option RxWord) → length (word_rows s earlier x next) ≤ 5
few_word s earlier x next =
    let t : ℕ = length earlier in
    let own : Option ℕ = Some (channel_number s.wide x) in
    let e : List Fault = row t rules.End None (breaks_end earlier x) in
    let d : List Fault = row t rules.Short own (breaks_short s earlier x) ++ e in
    let c : List Fault = row t rules.Empty own (breaks_empty x next) ++ d in
    let b : List Fault = row t rules.Crc None (breaks_crc earlier x) ++ c in
    at_most t rules.Control None (breaks_control x) b 4
    (at_most t rules.Crc None (breaks_crc earlier x) c 3
    (at_most t rules.Empty own (breaks_empty x next) d 2
    (at_most t rules.Short own (breaks_short s earlier x) e 1 (one_row t rules.End None (breaks_end earlier x)))))

few_burst : (s : WordLimits) (earlier : List RxWord) (x : ℕ) → length (burst_rows s earlier x) ≤ 3
few_burst s earlier x =
    let t : ℕ = length earlier in
    let burst : Option ℕ = channel_before s.wide earlier in
    let c : List Fault = row t rules.Min burst (breaks_min s earlier x) in
    let b : List Fault = row t rules.Part burst (breaks_part earlier x) ++ c in
    at_most t rules.Fill burst (breaks_fill earlier x) b 2
    (at_most t rules.Part burst (breaks_part earlier x) c 1 (one_row t rules.Min burst (breaks_min s earlier x)))

few_packet : (s : WordLimits) (channels : List ℕ) (earlier : List RxWord) (x : ℕ) → length (packet_rows s channels earlier x) ≤ 4
few_packet s channels earlier x =
    let t : ℕ = length earlier in
    let own : Option ℕ = Some (channel_number s.wide x) in
    let burst : Option ℕ = channel_before s.wide earlier in
    let d : List Fault = row t rules.Long burst (breaks_long s earlier x) in
    let c : List Fault = row t rules.Channel own (breaks_channel s channels x) ++ d in
    let b : List Fault = row t rules.Open own (breaks_open s earlier x) ++ c in
    at_most t rules.Sop own (breaks_sop s earlier x) b 3
    (at_most t rules.Open own (breaks_open s earlier x) c 2
    (at_most t rules.Channel own (breaks_channel s channels x) d 1 (one_row t rules.Long burst (breaks_long s earlier x))))

few_field : (p : Plan) (earlier : List RxWord) (x : ℕ) → length (field_rows p earlier x) ≤ 4
few_field p earlier x =
    let t : ℕ = length earlier in
    let own : Option ℕ = Some (channel_number p.limits.wide x) in
    let off : Bool = breaks_off p.limits p.channels p.entries p.flow earlier x in
    let d : List Fault = row t rules.Off own off in
    let c : List Fault = row t rules.Calendar None (breaks_calendar (length p.entries) earlier x) ++ d in
    let b : List Fault = row t rules.Multi own (breaks_multi p.limits x) ++ c in
    at_most t rules.Idle None (breaks_idle x) b 3
    (at_most t rules.Multi own (breaks_multi p.limits x) c 2
    (at_most t rules.Calendar None (breaks_calendar (length p.entries) earlier x) d 1 (one_row t rules.Off own off)))

pub few_at : (p : Plan) (earlier : List RxWord) (word : RxWord) (next : Option RxWord) → length (faults_at p earlier word next) ≤ 16
few_at p earlier (Data x) next = let h = few_data p.limits earlier in omega (arith, h)
few_at p earlier (Control x) next =
    let fields : List Fault = field_rows p earlier x in
    let packets : List Fault = packet_rows p.limits p.channels earlier x ++ fields in
    let bursts : List Fault = burst_rows p.limits earlier x ++ packets in
    join (word_rows p.limits earlier x next) bursts 5 11 (few_word p.limits earlier x next)
    (join (burst_rows p.limits earlier x) packets 3 8 (few_burst p.limits earlier x)
    (join (packet_rows p.limits p.channels earlier x) fields 4 4 (few_packet p.limits p.channels earlier x) (few_field p earlier x)))
few_at p earlier Bad next = omega arith

pub few_from : (p : Plan) (earlier words : List RxWord) → length (faults_from p earlier words) ≤ 16 * length words
few_from p earlier [] = omega arith
few_from p earlier (word ∷ words) =
    let a = few_at p earlier word (first_of words) in
    let b = few_from p (word ∷ earlier) words in
    let e = length-append (faults_at p earlier word (first_of words)) (faults_from p (word ∷ earlier) words) in
    omega (arith, a, b, e)

-- faults that were told, those that are found next, and the others are all faults of few words
pub few_told : (p : Plan) (words : List RxWord) (told found rest : List Fault) → length words < 2 ^ 32 → told ++ (found ++ rest) ≡ faults p words → length told + length found < 2 ^ 64
few_told p words told found rest few e =
    let a = few_from p [] words in
    let b = length-append told (found ++ rest) in
    let c = length-append found rest in
    let d = ap length e in
    omega (arith, few, a, b, c, d)

pub in_order : (rows : List FlowRow) → IsNonDecreasingBy (λ (row : FlowRow). row.slot) rows → InOrder rows
in_order rows h i j le lt = h i j no_row le lt
