-- `receive`: where its lanes begin, and what each of its ends fills.
use Rattle.std.proofs.Common.{◌≡◌, ℕ, false, All, List, [], ◌++◌, length, refl, sym, ap, ◌∙◌, subst, arith, Option, Some, None, IfSome, Result, Ok, Err, Contains}
use Rattle.std.proofs.lemmas.List.FromFn.{length-map-range_with_len}
use Rattle.run_shell.specs.Names.{lane_name}
use Rattle.lk_outside.specs.Files.{Files, Told}
use Rattle.event_model.specs.Fed.{AllBegin, Fed}
use Rattle.link_plan.specs.Plan.{PlanValue}
use Rattle.link_plan.specs.Views.{plan_value}
use Rattle.link_plan.specs.declared.plan.Plan.{Plan}
use Rattle.rx_front.specs.Calls.{nothing_fed}
use Rattle.rx_end.specs.Standing.{Stands}
use Rattle.rx_end.specs.States.{State}
use Rattle.run_stops.specs.declared.stop.Stop.{Stop}
use Rattle.run_stops.specs.declared.stop.Stop.TheVariants as stop
use Rattle.run_shell.specs.declared.finished.Finished.{Finished}
use Rattle.run_shell.specs.Outcome.{LeavesOthers}
use Rattle.run_shell.specs.Outputs.{open_names}
use Rattle.run_shell.specs.Writing.{Fills}
use Rattle.receipts.specs.declared.receipt.Receipt.{Receipt}
use Rattle.receipts.specs.Received.{output_names}
use Rattle.receipts.specs.Receipts.{Beginning, IsReceipt, IsStopped}
use Rattle.receipts.specs.Settings.{plan_names}
use Rattle.receipts.proofs.Settings.{is_the_setting, the_setting}
use Rattle.lane_receipts.specs.Feeding.{IsTaking}
use Rattle.lane_receipts.specs.LaneReports.{names_of_lanes}
use Rattle.lane_receipts.specs.Taking.{IsBroken}
use Rattle.lane_receipts.proofs.Beginnings.{longest_of}
use Rattle.lane_receipts.proofs.HeldLanes.{nothing_begins}
use Rattle.lane_receipts.proofs.LaneNames.{apart}
use Rattle.lane_receipts.proofs.TakenLanes.{cut_broken}
use Rattle.receive_commands.specs.declared.lane_buffer.LaneBuffer.{LaneBuffer}
use Rattle.receive_commands.specs.Receive.{IsReceived, lanes_in}
use Rattle.receive_commands.specs.ReadLanes.{AreFileLanes, IsFresh}
use Rattle.receive_commands.proofs.Buffers.{fresh_hold}
use Rattle.receive_commands.proofs.OpenFiles.{lanes_count}
use Rattle.receive_commands.proofs.Receives.{broken_fills, broken_leaves, none_fills}

-- what an end fills, and that other files are as they were
pub record Ends (plan : Plan) (was : Option Files) (result : Result Finished Stop) (later : Option Files) : Type 0 where
  pub fills : IfSome was (λ files. (lanes : List (List ℕ)) → lanes_in files (names_of_lanes (plan_value plan)) ≡ Ok lanes →
      Fills (IsReceived (record { plan = plan_value plan; lanes = lanes })) (plan_names (plan_value plan) ++ names_of_lanes (plan_value plan)) result was later)
  pub others : Told was later (LeavesOthers (λ files q. Contains (plan_names (plan_value plan)) q))

-- what the outputs begin with
abbrev pub beginning : Plan → List ℕ → Option Files → Beginning
beginning plan prefix was = record { ahead = []; lists = false; setting = the_setting (plan_value plan); link_type = plan.link_type; prefix = prefix; was = was }

-- memory ran out before anything was created
pub unmade : (plan : Plan) (was : Option Files) → IfSome was (λ files. (lanes : List (List ℕ)) → lanes_in files (names_of_lanes (plan_value plan)) ≡ Ok lanes →
    Fills (IsReceived (record { plan = plan_value plan; lanes = lanes })) (plan_names (plan_value plan) ++ names_of_lanes (plan_value plan)) (Err stop.OutOfMemory) was was)
unmade plan was = none_fills (plan_value plan) (beginning plan (plan_value plan).out was) (is_the_setting (plan_value plan)) refl refl refl stop.OutOfMemory tt

module _ (plan : Plan) (prefix : List ℕ) (was : Option Files) (prefixed : prefix ≡ (plan_value plan).out) (names : List (List ℕ)) (named : names ≡ names_of_lanes (plan_value plan)) (buffers : List LaneBuffer) (many : length names ≡ length buffers) (fresh : All IsFresh buffers) where
  abbrev value : PlanValue
  value = plan_value plan

  abbrev b : Beginning
  b = beginning plan prefix was

  abbrev first : List Fed
  first = nothing_fed plan.link.lanes

  abbrev Are : List (List ℕ) → Type 0
  Are lanes = AreFileLanes names buffers was lanes

  pub begins : IfSome was (λ files. (lanes : List (List ℕ)) → lanes_in files (names_of_lanes value) ≡ Ok lanes → Are lanes × AllBegin first lanes)
  begins = by was
    where
      by : (x : Option Files) → IfSome x (λ files. (lanes : List (List ℕ)) → lanes_in files (names_of_lanes value) ≡ Ok lanes → AreFileLanes names buffers x lanes × AllBegin first lanes)
      by None = tt
      by (Some files) = λ lanes e.
          let count : length lanes ≡ plan.link.lanes = lanes_count files value.out plan.link.lanes lanes e in
          let as_many = names_many in
          ((subst (λ ns. lanes_in files ns ≡ Ok lanes) (sym named) e, fresh_hold lanes buffers (omega arith) fresh), subst (λ (n : ℕ). AllBegin (nothing_fed n) lanes) count (nothing_begins lanes))
        where
          names_many : length names ≡ plan.link.lanes
          names_many = ap (λ (ns : List (List ℕ)). length ns) named ∙ length-map-range_with_len (lane_name value.out) 0 plan.link.lanes

  -- something stopped it
  pub broken : (why : Stop) (later : Option Files) → IsBroken b value.settings first Are names why later → Ends plan was (Err why) later
  broken why later h = record {
    fills = broken_fills value b (is_the_setting value) refl prefixed refl first Are begins names named why later h;
    others = broken_leaves value b (is_the_setting value) refl prefixed refl first Are begins names named why later h;
  }

  -- the outputs were not opened
  pub unopened : (why : Stop) (later : Option Files) → IsStopped b [] why later → Ends plan was (Err why) later
  unopened why later h = broken why later (cut_broken b value.settings first first Are names why later (λ lanes are begin. begin) (record { outputs = []; stopped = h; first = λ lanes all begin are. (all, refl) }))

  module _ (r : State) (stands : Stands r value.settings (the_setting value) first []) (kept : Receipt) (now : Option Files) (opened : IsReceipt b [] kept now) where
    -- the lanes begin
    pub begun : IsTaking b value.settings first [] r kept now
    begun = record { stands = stands; receipt = opened; fits = longest_of value.settings stands.front.link }

    -- no output is a lane
    pub no_output : (q : List ℕ) → Contains names q → Contains (open_names kept.outputs) q → ⊥
    no_output q among output =
        apart value.out b.setting.channels plan.link.lanes stands.front.link.lanes.1 q (subst (λ ns. Contains ns q) named among)
        (subst (λ p. Contains (output_names p b.setting.channels) q) prefixed (subst (λ ns. Contains ns q) opened.names output))
