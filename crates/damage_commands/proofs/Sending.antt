-- `damage` after `send` gives the lanes of `link`.
use Rattle.std.proofs.Common.{◌≡◌, ◌≢◌, ℕ, zero, suc, ◌<◌, ◌≤◌, ◌*◌, ◌+◌, List, [], ◌∷◌, ◌++◌, length, get_or, sym, ap, ◌∙◌, subst, arith, cond, Some, Result, Ok, append-nil}
use Rattle.std.proofs.lemmas.List.FromFn.{length-map-range_with_len, get_or-map-range_with_len}
use Rattle.lk_base.specs.Link.{Settings}
use Rattle.lk_base.specs.declared.word.Word.{Word}
use Rattle.lane_model.specs.Damage.{received_bits}
use Rattle.lane_model.specs.LaneBits.{IsFileOf, bits_of_codes, lane_bits, stream_lane_bits}
use Rattle.lane_model.proofs.FilesHold.{length-flat_map_bits}
use Rattle.lk_outside.specs.Files.{Files, file}
use Rattle.stream_model.specs.BurstStream.{Source, IsBurstStream}
use Rattle.stream_model.proofs.OneStream.{one_stream}
use Rattle.link_plan.specs.Plan.{PlanValue}
use Rattle.link_plan.specs.Schedules.{ScheduleValue}
use Rattle.link_replay.specs.Damages.{lane_damage}
use Rattle.plan_inputs.specs.Inputs.{plan_in, schedule_in}
use Rattle.plan_inputs.proofs.SameSource.{same_source}
use Rattle.run_stops.specs.Reading.{Refusal}
use Rattle.run_stops.proofs.Readings.{behind_ok}
use Rattle.run_shell.specs.Names.{lane_name, lane_names}
use Rattle.run_shell.specs.Outcome.{Output, content_of}
use Rattle.run_shell.specs.Outputs.{Differ, outs}
use Rattle.run_shell.proofs.Fills.{other, same}
use Rattle.run_shell.proofs.OutputNames.{lanes_differ}
use Rattle.lane_receipts.specs.LaneReports.{names_of_lanes}
use Rattle.damage_commands.specs.PlanLanes.{DamageInputs, damage_inputs_in, lanes_in, with_lanes, with_schedule}
use Rattle.damage_commands.specs.Damage.{IsArrived, damaged_out}
use Rattle.damage_commands.specs.DamageLaws.{DamageAfterSend}
use Rattle.damage_commands.proofs.LanesRead.{as_many_read, lane_read}
use Rattle.damage_commands.proofs.Zeros.{padding_stays}

-- the codes of a lane have 67 bits each
lane_codes : (s : Settings) (stream : List Word) (lane : ℕ) → (codes : ℕ) × (length (stream_lane_bits s stream lane) ≡ 67 * codes)
unfolding lane_bits bits_of_codes
lane_codes s stream lane = (_, length-flat_map_bits 67 _)

-- ---- what files of different names hold

content_among : (names contents : List (List ℕ)) (rest : List Output) (i : ℕ) → Differ names → length contents ≡ length names → i < length names → content_of (outs names contents ++ rest) (get_or names i []) ≡ Some (get_or contents i [])
content_among [] contents rest i d e lt = absurd (omega arith)
content_among (n ∷ names) [] rest i d e lt = absurd (omega (arith, e))
content_among (n ∷ names) (c ∷ contents) rest zero d e lt = ap (λ b. cond b (Some c) (content_of (outs names contents ++ rest) n)) (same n)
content_among (n ∷ names) (c ∷ contents) rest (suc i) d e lt =
    let ne : n ≢ get_or names i [] = d 0 (suc i) [] (omega arith) lt in
    ap (λ b. cond b (Some c) (content_of (outs names contents ++ rest) (get_or names i []))) (other n (get_or names i []) ne)
    ∙ content_among names contents rest i (λ a b z less there. d (suc a) (suc b) z (omega (arith, less)) (omega (arith, there))) (omega (arith, e)) (omega (arith, lt))

from_zero : (k : ℕ) → 0 + k ≡ k
from_zero k = omega arith

module _ (prefix : List ℕ) (lanes lane : ℕ) (few : lanes ≤ 64) (lt : lane < lanes) where
  name_at : get_or (lane_names prefix lanes) lane [] ≡ lane_name prefix lane
  name_at = get_or-map-range_with_len (lane_name prefix) 0 lanes lane lane [] lt (from_zero lane)

  content_at : (contents : List (List ℕ)) (rest files : List Output) (content : List ℕ) → length contents ≡ lanes → files ≡ outs (lane_names prefix lanes) contents ++ rest → content_of files (lane_name prefix lane) ≡ Some content → content ≡ get_or contents lane []
  content_at contents rest files content many is e =
      let long = length-map-range_with_len (lane_name prefix) 0 lanes in
      let here = content_among (lane_names prefix lanes) contents rest lane (lanes_differ prefix lanes (omega (arith, few))) (many ∙ sym long) (omega (arith, long, lt)) in
      let all : Some content ≡ Some (get_or contents lane []) =
      sym e ∙ ap (λ (os : List Output). content_of os (lane_name prefix lane)) is
      ∙ ap (content_of (outs (lane_names prefix lanes) contents ++ rest)) (sym name_at) ∙ here in
      cc

  read_at : (files : Files) (read : List (List ℕ)) (content : List ℕ) → lanes_in files (lane_names prefix lanes) ≡ Ok read → file files (lane_name prefix lane) ≡ Some content → get_or read lane [] ≡ content
  read_at files read content is e =
      let long = length-map-range_with_len (lane_name prefix) 0 lanes in
      let all : Some (get_or read lane []) ≡ Some content =
      sym (lane_read files (lane_names prefix lanes) read lane is (omega (arith, long, lt))) ∙ ap (file files) name_at ∙ e in
      cc

  many_read : (files : Files) (read : List (List ℕ)) → lanes_in files (lane_names prefix lanes) ≡ Ok read → length read ≡ lanes
  many_read files read is = as_many_read files (lane_names prefix lanes) read is ∙ length-map-range_with_len (lane_name prefix) 0 lanes

-- the lanes that were read
lanes_of_read : (files : Files) (read : DamageInputs) (plan : PlanValue) (schedule : ScheduleValue) (lanes : List (List ℕ)) → lanes_in files (names_of_lanes plan) ≡ Ok lanes →
    ◌≡◌ {A = Result DamageInputs Refusal} (Ok (record { plan = plan; schedule = schedule; lanes = lanes })) (Ok read) → lanes_in files (names_of_lanes read.plan) ≡ Ok read.lanes
lanes_of_read files read plan schedule lanes are all =
    let is : ◌≡◌ {A = DamageInputs} (record { plan = plan; schedule = schedule; lanes = lanes }) read = cc in
    subst (λ (r : DamageInputs). lanes_in files (names_of_lanes r.plan) ≡ Ok r.lanes) is are

lanes_had : (files : Files) (name : List ℕ) (read : DamageInputs) → damage_inputs_in files name ≡ Ok read → lanes_in files (names_of_lanes read.plan) ≡ Ok read.lanes
lanes_had files name read e =
    let (plan, is_plan, more) = behind_ok (plan_in files name) (with_schedule files) read e in
    let (schedule, is_schedule, rest) = behind_ok (schedule_in files plan) (with_lanes files plan) read more in
    let (lanes, are, all) = behind_ok (lanes_in files (names_of_lanes plan)) (λ ls. Ok (record { plan = plan; schedule = schedule; lanes = ls })) read rest in
    lanes_of_read files read plan schedule lanes are all

pub damage_after_send : DamageAfterSend
damage_after_send name i send link damage files read (w, h) (v, k) r d lane lt sent damaged linked is_sent free is_damaged is_linked =
    let plan = i.reading.plan in
    let s = plan.settings in
    let out = plan.out in
    let few : s.lanes ≤ 64 = k.link.lanes.1 in
    let one : h.source ≡ k.over.source = same_source plan i.reading.inputs h.source k.over.source h.is_source k.over.is_source in
    let same_stream : w ≡ v = one_stream k.over.source w v (subst (λ (x : Source). IsBurstStream x w) one h.of_stream.stream) k.over.is_stream in
    let (contents, are, wrote) = h.of_stream.files in
    let sent_is : sent ≡ get_or contents lane [] = content_at out s.lanes lane few lt contents [] send.files sent are.one_each (wrote ∙ sym (append-nil (outs (lane_names out s.lanes) contents))) is_sent in
    let code = stream_lane_bits s v lane in
    let coded : IsFileOf sent code =
    subst (λ (x : List Word). IsFileOf sent (stream_lane_bits s x lane)) same_stream (subst (λ (bytes : List ℕ). IsFileOf bytes (stream_lane_bits s w lane)) (sym sent_is) (are.each lane lt)) in
    let codes = lane_codes s v lane in
    let had : lanes_in files (names_of_lanes plan) ≡ Ok read.lanes = subst (λ (p : PlanValue). lanes_in files (names_of_lanes p) ≡ Ok read.lanes) r.plan (lanes_had files name read r.is_read) in
    let read_is : get_or read.lanes lane [] ≡ sent = read_at out s.lanes lane few lt files read.lanes sent had (r.sent lane lt ∙ is_sent) in
    let many : length read.lanes ≡ s.lanes = many_read out s.lanes lane few lt files read.lanes had in
    let made : damage.files ≡ outs (lane_names (damaged_out out) s.lanes) d.received ++ [] =
    d.files ∙ ap (λ (p : PlanValue). outs (lane_names (damaged_out p.out) p.settings.lanes) d.received) r.plan ∙ sym (append-nil (outs (lane_names (damaged_out out) s.lanes) d.received)) in
    let damaged_is : damaged ≡ get_or d.received lane [] = content_at (damaged_out out) s.lanes lane few lt d.received [] damage.files damaged (d.are.as_many ∙ many) made is_damaged in
    let linked_is : linked ≡ get_or k.over.lanes lane [] = content_at out s.lanes lane few lt k.over.lanes _ link.files linked k.over.are_lanes.one_each k.files is_linked in
    let of_link : IsFileOf linked (received_bits (lane_damage i.schedule lane) code) = subst (λ (bytes : List ℕ). IsFileOf bytes (received_bits (lane_damage i.schedule lane) code)) (sym linked_is) (k.over.are_lanes.each lane lt) in
    let arrived = arrives_at read.schedule i.schedule lane (get_or read.lanes lane []) sent (get_or d.received lane []) damaged r.schedule read_is (sym damaged_is) (d.are.each lane (omega (arith, many, lt))) in
    padding_stays (lane_damage i.schedule lane) codes.0 code sent damaged linked codes.1 coded free of_link arrived
  where
    arrives_at : (a b : ScheduleValue) (lane : ℕ) (x y p q : List ℕ) → a ≡ b → x ≡ y → p ≡ q → IsArrived a lane x p → IsArrived b lane y q
    arrives_at a b lane x y p q e f g h =
        subst (λ (t : ScheduleValue). IsArrived t lane y q) e (subst (λ (t : List ℕ). IsArrived a lane t q) f (subst (λ (t : List ℕ). IsArrived a lane x t) g h))
