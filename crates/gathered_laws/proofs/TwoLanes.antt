-- A plan of two lanes whose lanes were written: what `gather` reads of it, and that it comes to an outcome.
use Rattle.std.proofs.Common.{◌≡◌, ℕ, zero, suc, ◌*◌, ◌/◌, ◌<◌, ◌≤◌, ◌^◌, true, false, cond, All, List, [], ◌∷◌, length, get_or, refl, sym, ap, ◌∙◌, subst, arith, lit≤, nat_cmp, nat_lt, Some, Result, Ok}
use Rattle.std.specs.Fmt.{digits}
use Rattle.std.specs.List.{AllByRecursion}
use Rattle.std.specs.Ordering.{eq_by_cmp}
use Rattle.std.specs.Cmp.Lexicographic.{slice_cmp, nat_list_cmp_total}
use Rattle.std.specs.FinMap.{find, from_entries, get-from_entries}
use Rattle.std.proofs.lemmas.Bool.{ltb-true}
use Rattle.std.proofs.lemmas.List.Sums.{AllPass-from_list_all}
use lib.Chars.{codes}
use Rattle.lk_base.specs.Limits.{lane_limit, plan_limit}
use Rattle.lk_base.specs.Link.{group_of}
use Rattle.lk_base.specs.declared.word.Word.{Word}
use Rattle.lk_outside.specs.Files.{Files, AreBytes, file}
use Rattle.lane_model.specs.LaneBits.{IsFileOf, lane_bits, stream_lane_bits}
use Rattle.lane_model.specs.LaneWords.{lane_words}
use Rattle.lane_model.specs.Striping.{lane_payload}
use Rattle.tx_end.proofs.FewBytes.{carried_few}
use Rattle.link_laws.specs.PremisesMet.{two_lanes}
use Rattle.link_plan.specs.Plan.{plan_of}
use Rattle.link_plan.specs.Schedules.{ScheduleValue}
use Rattle.csv_rows.specs.Rows.{rows_of}
use Rattle.plan_inputs.specs.Inputs as inputs
use Rattle.plan_inputs.specs.Inputs.{Reading, plan_in, planned_in, schedule_in}
use Rattle.plan_inputs.proofs.ListedFiles.{file_at, then_at}
use Rattle.plan_inputs.proofs.PlanStream.{planned_parts}
use Rattle.run_stops.specs.Reading as reading
use Rattle.run_stops.specs.Reading.{Refusal, behind, bytes_by, bytes_in}
use Rattle.run_stops.proofs.Readings.{behind_ok}
use Rattle.run_shell.specs.Names.{lane_name}
use Rattle.run_shell.specs.Outcome.{Outcome, Output, content_of}
use Rattle.stream_commands.specs.Outputs.{AreLaneOutputs}
use Rattle.link_commands.specs.Inputs.{LinkReading, linked_in, with_schedule}
use Rattle.link_commands.specs.PremisesMet.{plan_name, skewed_entries, skewed_files, skewed_text}
use Rattle.lane_receipts.specs.LaneReports.{names_of_lanes}
use Rattle.receive_commands.specs.Receive.{PlanLanes, lanes_in, plan_lanes_in, with_lanes}
use Rattle.gather_commands.specs.Gather.{gather_meaning}
use Rattle.gather_commands.proofs.Gathers.{gather_means}
use Rattle.gathered_laws.specs.AfterSend.{ReadsLanes}
use Rattle.gathered_laws.specs.AfterSendMet.{one_reading}
use Rattle.gathered_laws.proofs.LanesRead.{was_written}
use Rattle.gathered_laws.proofs.CheckGathered.{read_within}

-- ---- the plan

same_reading : (r : Reading) (s : ScheduleValue) (i : LinkReading) → ◌≡◌ {A = Result LinkReading Refusal} (Ok (record { reading = r; schedule = s })) (Ok i) → r ≡ i.reading
same_reading r s i e =
    let is : ◌≡◌ {A = LinkReading} (record { reading = r; schedule = s }) i = cc in
    ap (λ (x : LinkReading). x.reading) is

-- a plan that is read for a link is read without its schedule
pub planned_had : (files : Files) (name : List ℕ) (i : LinkReading) → linked_in files name ≡ Ok i → planned_in files name ≡ Ok i.reading
unfolding linked_in
planned_had files name i e =
    let (r, is, more) = behind_ok (planned_in files name) (with_schedule files) i e in
    let (schedule, is_schedule, all) = behind_ok (schedule_in files r.plan) (λ (s : ScheduleValue). Ok (record { reading = r; schedule = s })) i more in
    is ∙ ap Ok (same_reading r schedule i all)

-- it is the same where its file is
same_plan : (old new : Files) (name : List ℕ) → file new name ≡ file old name → plan_in new name ≡ plan_in old name
unfolding plan_in
same_plan old new name e = ap (λ o. behind (reading.plan_by plan_limit o) (λ bytes. inputs.plan_by (plan_of (rows_of bytes)))) e

-- ---- files that are told one by one

abbrev pub AreOfBytes : List (List ℕ × List ℕ) → Type 0
AreOfBytes = AllByRecursion (λ (e : List ℕ × List ℕ). All (λ b. b < 256) e.1)

entry_bytes : (es : List (List ℕ × List ℕ)) (q bytes : List ℕ) → AreOfBytes es → find (slice_cmp nat_cmp) q es ≡ Some bytes → All (λ b. b < 256) bytes
entry_bytes [] q bytes all e = absurd cc
entry_bytes (x ∷ es) q bytes all e = elim (eq_by_cmp (slice_cmp nat_cmp) q x.0) as (λ t. cond t (Some x.1) (find (slice_cmp nat_cmp) q es) ≡ Some bytes → All (λ b. b < 256) bytes) [
  | true ↦ λ is. (let same : x.1 ≡ bytes = cc in subst (λ (bs : List ℕ). All (λ b. b < 256) bs) same all.0)
  | false ↦ λ is. entry_bytes es q bytes all.1 is
] e

pub files_of_bytes : (es : List (List ℕ × List ℕ)) → AreOfBytes es → AreBytes (from_entries es)
files_of_bytes es all q bytes e = entry_bytes es q bytes all (sym (get-from_entries nat_list_cmp_total es q) ∙ e)

-- the plan and its lanes
abbrev pub lane_entries : List ℕ → List ℕ → List (List ℕ × List ℕ)
lane_entries a b = (plan_name, skewed_text) ∷ (codes "o.lane.0", a) ∷ (codes "o.lane.1", b) ∷ []

-- the plan and its words file
abbrev pub word_entries : List ℕ → List (List ℕ × List ℕ)
word_entries content = (plan_name, skewed_text) ∷ (codes "o.words", content) ∷ []

first_name : lane_name (codes "o") 0 ≡ codes "o.lane.0"
unfolding digits
first_name = refl

second_name : lane_name (codes "o") 1 ≡ codes "o.lane.1"
unfolding digits
second_name = refl

lane_names_are : names_of_lanes one_reading.plan ≡ codes "o.lane.0" ∷ codes "o.lane.1" ∷ []
unfolding digits
lane_names_are = refl

-- ---- the lanes

-- a stream whose lanes are within the limit of their files
abbrev pub AreFewWords : List Word → Type 0
AreFewWords w = 9 * (length w / group_of two_lanes * two_lanes.metaframe) ≤ lane_limit

lane_few : (w : List Word) (lane : ℕ) (bytes : List ℕ) → AreFewWords w → IsFileOf bytes (stream_lane_bits two_lanes w lane) → length bytes ≤ lane_limit
unfolding lane_bits lane_words
lane_few w lane bytes so is =
    let few : length bytes ≤ 9 * (length w / group_of two_lanes * two_lanes.metaframe) = carried_few two_lanes lane (length w / group_of two_lanes * two_lanes.metaframe) (lane_payload two_lanes.lanes w lane) bytes is in
    omega (arith, few, so)

byte_low : (bytes : List ℕ) → All (λ b. b < 2 ^ 8) bytes → All (λ b. b < 256) bytes
byte_low bytes h = h

module _ (a b : List ℕ) where
  abbrev pub lane_files : Files
  lane_files = from_entries (lane_entries a b)

  bytes_had : (name bytes : List ℕ) → find (slice_cmp nat_cmp) name (lane_entries a b) ≡ Some bytes → length bytes ≤ lane_limit → bytes_in lane_files name lane_limit ≡ Ok bytes
  bytes_had name bytes there le = ap (bytes_by name lane_limit) (file_at (lane_entries a b) name ∙ there) ∙ read_within name lane_limit bytes le

  both_read : length a ≤ lane_limit → length b ≤ lane_limit → lanes_in lane_files (codes "o.lane.0" ∷ codes "o.lane.1" ∷ []) ≡ Ok (a ∷ b ∷ [])
  unfolding lanes_in
  both_read la lb =
      then_at (bytes_in lane_files (codes "o.lane.0") lane_limit) a (λ x. behind (lanes_in lane_files (codes "o.lane.1" ∷ [])) (λ ls. Ok (x ∷ ls))) (bytes_had (codes "o.lane.0") a refl la)
      ∙ ap (λ r. behind r (λ ls. Ok (a ∷ ls))) (then_at (bytes_in lane_files (codes "o.lane.1") lane_limit) b (λ x. behind (lanes_in lane_files []) (λ ls. Ok (x ∷ ls))) (bytes_had (codes "o.lane.1") b refl lb))

  lanes_read : plan_in lane_files plan_name ≡ Ok one_reading.plan → length a ≤ lane_limit → length b ≤ lane_limit → plan_lanes_in lane_files plan_name ≡ Ok (record { plan = one_reading.plan; lanes = a ∷ b ∷ [] })
  lanes_read planned la lb =
      then_at (plan_in lane_files plan_name) one_reading.plan (with_lanes lane_files) planned
      ∙ ap (λ names. behind (lanes_in lane_files names) (λ ls. Ok (record { plan = one_reading.plan; lanes = ls }))) lane_names_are
      ∙ then_at (lanes_in lane_files (codes "o.lane.0" ∷ codes "o.lane.1" ∷ [])) (a ∷ b ∷ []) (λ ls. Ok (record { plan = one_reading.plan; lanes = ls })) (both_read la lb)

  lane_there : (contents : List (List ℕ)) (outputs : List Output) → get_or contents 0 [] ≡ a → get_or contents 1 [] ≡ b
      → ((lane : ℕ) → lane < 2 → content_of outputs (lane_name (codes "o") lane) ≡ Some (get_or contents lane []))
      → (lane : ℕ) → lane < 2 → file lane_files (lane_name (codes "o") lane) ≡ content_of outputs (lane_name (codes "o") lane)
  lane_there contents outputs is_a is_b wrote zero lt = ap (file lane_files) first_name ∙ file_at (lane_entries a b) (codes "o.lane.0") ∙ ap Some (sym is_a) ∙ sym (wrote 0 lt)
  lane_there contents outputs is_a is_b wrote (suc zero) lt = ap (file lane_files) second_name ∙ file_at (lane_entries a b) (codes "o.lane.1") ∙ ap Some (sym is_b) ∙ sym (wrote 1 lt)
  lane_there contents outputs is_a is_b wrote (suc (suc lane)) lt = absurd (omega arith)

-- ---- what stands after the lanes were written

pub record LanesSent (written : Outcome) : Type 0 where
  pub contents : List (List ℕ)
  pub wrote : (lane : ℕ) → lane < 2 → content_of written.files (lane_name (codes "o") lane) ≡ Some (get_or contents lane [])
  pub few : (lane : ℕ) → lane < 2 → length (get_or contents lane []) ≤ lane_limit
  pub low : (lane : ℕ) → lane < 2 → All (λ b. b < 256) (get_or contents lane [])

pub lanes_written : (w : List Word) (written : Outcome) → AreFewWords w → AreLaneOutputs one_reading.plan.settings one_reading.plan.out w written.files → LanesSent written
lanes_written w written so (contents, are, wrote) = record {
  contents = contents;
  wrote = was_written (codes "o") 2 (lit≤ tt) contents written.files are.one_each wrote;
  few = λ lane lt. lane_few w lane (get_or contents lane []) so (are.each lane lt);
  low = λ lane lt. byte_low (get_or contents lane []) (are.each lane lt).each;
}

pub text_low : All (λ b. b < 256) skewed_text
text_low = λ k d lt. ltb-true (get_or skewed_text k d) 256 (AllPass-from_list_all (λ (b : ℕ). nat_lt b 256) skewed_text refl k d lt)

module _ (planned : planned_in skewed_files plan_name ≡ Ok one_reading) where
  pub plan_there : (entries : List (List ℕ × List ℕ)) → find (slice_cmp nat_cmp) plan_name entries ≡ Some skewed_text → plan_in (from_entries entries) plan_name ≡ Ok one_reading.plan
  plan_there entries is =
      same_plan skewed_files (from_entries entries) plan_name (file_at entries plan_name ∙ is ∙ sym (file_at skewed_entries plan_name))
      ∙ (planned_parts skewed_files plan_name one_reading planned).0

  pub record Gathering (written : Outcome) : Type 0 where
    pub gathered : Outcome
    pub lanes : Files
    pub read : PlanLanes
    pub reads : ReadsLanes plan_name one_reading.plan written lanes read
    pub gathers : (gather_meaning plan_name).IsOutcome lanes gathered

  pub gathering : (send : Outcome) → LanesSent send → Gathering send
  gathering send l =
      let a : List ℕ = get_or l.contents 0 [] in
      let b : List ℕ = get_or l.contents 1 [] in
      let has = (gather_means plan_name).some_outcome (lane_files a b) (files_of_bytes (lane_entries a b) (text_low, (l.low 0 (lit≤ tt), (l.low 1 (lit≤ tt), tt)))) in
      record {
        gathered = has.0;
        lanes = lane_files a b;
        read = record { plan = one_reading.plan; lanes = a ∷ b ∷ [] };
        reads = record {
          is_read = lanes_read a b (plan_there (lane_entries a b) refl) (l.few 0 (lit≤ tt)) (l.few 1 (lit≤ tt));
          plan = refl;
          sent = lane_there a b l.contents send.files refl refl l.wrote;
        };
        gathers = has.1;
      }
