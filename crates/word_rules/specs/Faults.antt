-- The faults of a list of words: for each word in order, a row for each rule that it breaks, in the order of the rules.
use Rattle.std.specs.Prelude.{ℕ, Bool, true, cond, List, [], ◌∷◌, ◌++◌, length, Option, Some, None}
use Rattle.lk_base.specs.declared.word.RxWord.{RxWord}
use Rattle.lk_base.specs.declared.word.RxWord.TheVariants.{Data, Control, Bad}
use Rattle.lk_base.specs.Fields.{channel_number}
use Rattle.receive_model.specs.Lists.{first_of}
use Rattle.stream_model.specs.declared.rows.FlowRow.{FlowRow}
use Rattle.word_rules.specs.declared.fault.Fault.{Fault}
use Rattle.word_rules.specs.declared.rule.WordRule.{WordRule}
use Rattle.word_rules.specs.declared.rule.WordRule.TheVariants as rules
use Rattle.word_rules.specs.declared.limits.WordLimits.{WordLimits}
use Rattle.word_rules.specs.declared.plan.WordPlan.{WordPlan}
use Rattle.word_rules.specs.Places.{channel_before}
use Rattle.word_rules.specs.Rules.{breaks_data, breaks_max, breaks_control, breaks_crc, breaks_empty, breaks_short, breaks_end, breaks_fill, breaks_part, breaks_min, breaks_sop, breaks_open, breaks_channel, breaks_long, breaks_idle, breaks_multi, breaks_calendar, breaks_off}

-- what the words are checked by
pub record Plan : Type 0 where
  pub limits : WordLimits
  -- the listed channels
  pub channels : List ℕ
  -- the entries of the calendar
  pub entries : List ℕ
  -- the rows of flow control, in order of slot
  pub flow : List FlowRow

-- the plan that the lent lists say
abbrev pub plan_by : WordPlan → Plan
plan_by p = record { limits = p.limits; channels = p.channels.now; entries = p.entries.now; flow = p.flow.now }

-- the plan with these rows of flow control
abbrev pub with_flow : Plan → List FlowRow → Plan
with_flow p rows = record { limits = p.limits; channels = p.channels; entries = p.entries; flow = rows }

-- one row where the rule is broken
abbrev pub row : ℕ → WordRule → Option ℕ → Bool → List Fault
row t rule channel broken = cond broken (record { word = t; rule = rule; channel = channel } ∷ []) []

-- the rows of a Data word
abbrev pub data_rows : WordLimits → List RxWord → List Fault
data_rows s earlier =
    row (length earlier) rules.Data None (breaks_data earlier)
    ++ row (length earlier) rules.Max (channel_before s.wide earlier) (breaks_max s earlier)

-- the rows of the Control word x by how it stands among the words
abbrev pub word_rows : WordLimits → List RxWord → ℕ → Option RxWord → List Fault
word_rows s earlier x next =
    row (length earlier) rules.Control None (breaks_control x)
    ++ (row (length earlier) rules.Crc None (breaks_crc earlier x)
    ++ (row (length earlier) rules.Empty (Some (channel_number s.wide x)) (breaks_empty x next)
    ++ (row (length earlier) rules.Short (Some (channel_number s.wide x)) (breaks_short s earlier x)
    ++ row (length earlier) rules.End None (breaks_end earlier x))))

-- the rows of the Control word x by the burst that it closes
abbrev pub burst_rows : WordLimits → List RxWord → ℕ → List Fault
burst_rows s earlier x =
    row (length earlier) rules.Fill (channel_before s.wide earlier) (breaks_fill earlier x)
    ++ (row (length earlier) rules.Part (channel_before s.wide earlier) (breaks_part earlier x)
    ++ row (length earlier) rules.Min (channel_before s.wide earlier) (breaks_min s earlier x))

-- the rows of the Control word x by the packets of channels
abbrev pub packet_rows : WordLimits → List ℕ → List RxWord → ℕ → List Fault
packet_rows s channels earlier x =
    row (length earlier) rules.Sop (Some (channel_number s.wide x)) (breaks_sop s earlier x)
    ++ (row (length earlier) rules.Open (Some (channel_number s.wide x)) (breaks_open s earlier x)
    ++ (row (length earlier) rules.Channel (Some (channel_number s.wide x)) (breaks_channel s channels x)
    ++ row (length earlier) rules.Long (channel_before s.wide earlier) (breaks_long s earlier x)))

-- the rows of the Control word x by its other fields
abbrev pub field_rows : Plan → List RxWord → ℕ → List Fault
field_rows p earlier x =
    row (length earlier) rules.Idle None (breaks_idle x)
    ++ (row (length earlier) rules.Multi (Some (channel_number p.limits.wide x)) (breaks_multi p.limits x)
    ++ (row (length earlier) rules.Calendar None (breaks_calendar (length p.entries) earlier x)
    ++ row (length earlier) rules.Off (Some (channel_number p.limits.wide x)) (breaks_off p.limits p.channels p.entries p.flow earlier x)))

-- the rows of a word, by the words before it, the latest first, and by the next word, if there is one
abbrev pub faults_at : Plan → List RxWord → RxWord → Option RxWord → List Fault
faults_at p earlier (Data x) next = data_rows p.limits earlier
faults_at p earlier (Control x) next =
    word_rows p.limits earlier x next
    ++ (burst_rows p.limits earlier x
    ++ (packet_rows p.limits p.channels earlier x
    ++ field_rows p earlier x))
faults_at p earlier Bad next = row (length earlier) rules.Bad None true

-- the rows of these words, which come after the words `earlier`
abbrev pub faults_from : Plan → List RxWord → List RxWord → List Fault
faults_from p earlier [] = []
faults_from p earlier (word ∷ words) = faults_at p earlier word (first_of words) ++ faults_from p (word ∷ earlier) words

-- the faults of a list of words
abbrev pub faults : Plan → List RxWord → List Fault
faults p words = faults_from p [] words

-- ---- told as words come

-- the row of `empty` of the word before a place, if the word at the place shows that it is broken
abbrev pub empty_rows : WordLimits → List RxWord → RxWord → List Fault
empty_rows s [] word = []
empty_rows s (Data x ∷ earlier) word = []
empty_rows s (Control x ∷ earlier) word = row (length earlier) rules.Empty (Some (channel_number s.wide x)) (breaks_empty x (Some word))
empty_rows s (Bad ∷ earlier) word = []
