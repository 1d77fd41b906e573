-- The reading of a plan and its lanes, and the ends of what they are read for.
use Rattle.std.proofs.Common.{◌≡◌, ℕ, List, ◌++◌, refl, sym, ap, ◌∙◌, subst, inl, inr, Option, Some, None, IfSome, Result, Ok, Err, MatchResult, Contains}
use Rattle.std.proofs.lemmas.List.Elements.{Contains-append_cases}
use Rattle.lk_outside.specs.Files.{Files, Told}
use Rattle.link_plan.specs.Plan.{PlanValue}
use Rattle.link_plan.specs.Views.{plan_value}
use Rattle.link_plan.specs.declared.plan.Plan.{Plan}
use Rattle.plan_inputs.specs.Inputs.{plan_in}
use Rattle.run_stops.specs.declared.stop.Stop.{Stop}
use Rattle.run_shell.specs.declared.finished.Finished.{Finished}
use Rattle.run_shell.specs.Outcome.{LeavesOthers, Outcome}
use Rattle.run_shell.specs.Ends.{Comes, FailsAt}
use Rattle.run_shell.specs.Work.{Work, meaning_by}
use Rattle.run_stops.specs.Reading.{Reads, behind}
use Rattle.run_shell.specs.Writing.{Fills}
use Rattle.run_stops.proofs.Readings.{first_stops, second_reads}
use Rattle.run_stops.proofs.Readings.{behind_stops}
use Rattle.run_shell.proofs.Works.{fails_late, fails_made, made_of, store_stops}
use Rattle.run_shell.proofs.Writing.{writes_comes}
use Rattle.receive_commands.specs.Receive.{IsLaneInput, IsReceiveInput, PlanLanes, lanes_in, lanes_work, plan_lanes_in, with_lanes}
use Rattle.lane_receipts.specs.LaneReports.{names_of_lanes}

-- ---- reading

-- memory ran out, which says nothing of the files
pub out_of_memory : (x : Option Files) → IfSome x (λ files. Unit {0})
out_of_memory None = tt
out_of_memory (Some files) = tt

module _ (file : List ℕ) where
  abbrev Had : Stop → Option Files → Type 0
  Had s x = IfSome x (λ files. Reads {T = PlanLanes} (λ v. v) (IsReceiveInput file files) (Err s) (plan_lanes_in files file))

  -- the plan was refused, or reading it stopped
  pub no_plan : (s : Stop) (x : Option Files) → IfSome x (λ files. Reads plan_value (λ n. n ≡ file) (Err s) (plan_in files file)) → Had s x
  no_plan s x h = first_stops PlanValue PlanLanes Plan PlanLanes (λ files. plan_in files file) with_lanes plan_value (λ v. v) (λ files n. n ≡ file) (IsReceiveInput file) s x (λ u q n. inl n) h

  module _ (x y : Option Files) (same : y ≡ x) (plan : Plan) (had : IfSome x (λ files. plan_in files file ≡ Ok (plan_value plan))) (names : List (List ℕ)) (named : names ≡ names_of_lanes (plan_value plan)) where
    lane_named : (u : Files) (q : List ℕ) → plan_in u file ≡ Ok (plan_value plan) → Contains names q → IsReceiveInput file u q
    lane_named u q is among = inr (subst (λ r. MatchResult r (λ p. Contains (names_of_lanes p) q) (λ e. ⊥)) (sym is) (subst (λ ns. Contains ns q) named among))

    -- a lane was refused, or asking for it stopped
    pub no_lanes : (s : Stop) → IfSome y (λ files. Reads {T = List (List ℕ)} (λ v. v) (Contains names) (Err s) (lanes_in files names)) → Had s x
    no_lanes s h =
        second_reads PlanValue PlanLanes Plan PlanLanes (λ files. plan_in files file) with_lanes (λ v. v) (λ files q. Contains names q) (IsReceiveInput file) (plan_value plan) (Err s) x y same (λ u q is n. lane_named u q is n) had (by y h)
      where
        by : (z : Option Files) → IfSome z (λ files. Reads {T = List (List ℕ)} (λ v. v) (Contains names) (Err s) (lanes_in files names)) → IfSome z (λ files. Reads {T = PlanLanes} (λ v. v) (Contains names) (Err s) (with_lanes files (plan_value plan)))
        by None k = tt
        by (Some u) k =
            subst (λ ns. Reads {T = PlanLanes} (λ v. v) (Contains names) (Err s) (behind (lanes_in u ns) (λ lanes. Ok (record { plan = plan_value plan; lanes = lanes })))) named
            (behind_stops (List (List ℕ)) PlanLanes (List (List ℕ)) PlanLanes (lanes_in u names) (λ lanes. Ok (record { plan = plan_value plan; lanes = lanes })) (λ v. v) (λ v. v) (Contains names) (Contains names) s (λ q n. n) k)

    -- all lanes are there
    pub lanes_there : IfSome y (λ files. (lanes : List (List ℕ)) × (lanes_in files names ≡ Ok lanes)) → IfSome x (λ files. (lanes : List (List ℕ)) × (lanes_in files (names_of_lanes (plan_value plan)) ≡ Ok lanes))
    lanes_there h = subst (λ ns. IfSome x (λ files. (lanes : List (List ℕ)) × (lanes_in files ns ≡ Ok lanes))) named (subst (λ z. IfSome z (λ files. (lanes : List (List ℕ)) × (lanes_in files names ≡ Ok lanes))) same h)

  pub both_there : (x : Option Files) (plan : PlanValue) → IfSome x (λ files. plan_in files file ≡ Ok plan) → IfSome x (λ files. (lanes : List (List ℕ)) × (lanes_in files (names_of_lanes plan) ≡ Ok lanes))
      → IfSome x (λ files. (value : PlanLanes) × (plan_lanes_in files file ≡ Ok value))
  both_there None plan had h = tt
  both_there (Some u) plan had (lanes, got) = (
    record { plan = plan; lanes = lanes },
    ap (λ r. behind r (with_lanes u)) had ∙ ap (λ r. behind r (λ ls. Ok (record { plan = plan; lanes = ls }))) got,
  )

-- ---- the ends

-- of any work that a plan and its lanes are read for
module _ (Makes : PlanLanes → Outcome → Type 0) (names : PlanValue → List (List ℕ)) (file : List ℕ) (plan : PlanValue) where
  abbrev Filled : Result Finished Stop → Option Files → Option Files → Files → Type 0
  Filled r y z files = (lanes : List (List ℕ)) → lanes_in files (names_of_lanes plan) ≡ Ok lanes → Fills (Makes (record { plan = plan; lanes = lanes })) (names plan ++ names_of_lanes plan) r y z

  abbrev Leaves : Option Files → Option Files → Type 0
  Leaves y z = Told y z (LeavesOthers (λ files q. Contains (names plan) q))

  abbrev work : Work
  work = lanes_work Makes names file

  module _ (u : Files) (had : plan_in u file ≡ Ok plan) (lanes : List (List ℕ)) (got : lanes_in u (names_of_lanes plan) ≡ Ok lanes) where
    abbrev i : PlanLanes
    i = record { plan = plan; lanes = lanes }

    is_in : plan_lanes_in u file ≡ Ok i
    is_in = ap (λ r. behind r (with_lanes u)) had ∙ ap (λ r. behind r (λ ls. Ok (record { plan = plan; lanes = ls }))) got

    ends : (r : Result Finished Stop) (z : Option Files) → Leaves (Some u) z → Filled r (Some u) z u → Comes (meaning_by work) (Some u) z r u
    ends (Ok f) z leaves h =
        writes_comes work i (names plan) (λ q c. c) (Ok f) (Some u) (Some u) z refl is_in (record { fills = h lanes got; others = leaves })
    ends (Err s) z leaves h =
        store_stops (meaning_by work) (Contains (names plan ++ names_of_lanes plan)) s u (Some u) z (h lanes got).by_store named (λ o k. (h lanes got).part o (made_of work u i o is_in k))
      where
        read_late : (q : List ℕ) → IsLaneInput file u q → FailsAt (meaning_by work) u q (Some u) z
        read_late q lane = fails_late (meaning_by work) u q (Some u) z (inl (inr lane)) lane

        named : (q : List ℕ) → Contains (names plan ++ names_of_lanes plan) q → FailsAt (meaning_by work) u q (Some u) z
        named q c = elim (Contains-append_cases (names plan) (names_of_lanes plan) q c) [
          | inl made ↦ fails_made work u i q (Some u) z is_in made
          | inr lane ↦ read_late q (subst (λ r. MatchResult r (λ p. Contains (names_of_lanes p) q) (λ e. ⊥)) (sym had) lane)
        ]

  pub lanes_come : (r : Result Finished Stop) (x y z : Option Files) → y ≡ x → IfSome x (λ files. plan_in files file ≡ Ok plan) → IfSome x (λ files. (lanes : List (List ℕ)) × (lanes_in files (names_of_lanes plan) ≡ Ok lanes))
      → Leaves y z → IfSome y (Filled r y z) → IfSome x (Comes (meaning_by work) x z r)
  lanes_come r None y z same had got leaves h = tt
  lanes_come r (Some u) y z same had (lanes, got) leaves h =
      ends u had lanes got r z (subst (λ v. Leaves v z) same leaves) (subst (λ v. IfSome v (Filled r v z)) same h)

  pub lanes_leave : (x y z : Option Files) → y ≡ x → IfSome x (λ files. plan_in files file ≡ Ok plan) → IfSome x (λ files. (lanes : List (List ℕ)) × (lanes_in files (names_of_lanes plan) ≡ Ok lanes)) → Leaves y z → Told x z (LeavesOthers (meaning_by work).Creates)
  lanes_leave x y z same had got leaves = by x z had got (subst (λ v. Leaves v z) same leaves)
    where
      by : (a b : Option Files) → IfSome a (λ files. plan_in files file ≡ Ok plan) → IfSome a (λ files. (lanes : List (List ℕ)) × (lanes_in files (names_of_lanes plan) ≡ Ok lanes)) → Leaves a b → Told a b (LeavesOthers (meaning_by work).Creates)
      by None None k l t = tt
      by None (Some v) k l t = absurd t
      by (Some u) None k l t = absurd t
      by (Some u) (Some v) k (lanes, got) t = λ q out. t q (λ c. out (subst (λ r. MatchResult r (λ j. Contains (names j.plan) q) (λ e. ⊥)) (sym (is_in u k lanes got)) c))
