-- What the maker of damaged lanes gave begins what is made of its inputs.
use Rattle.std.proofs.Common.{◌≡◌, ◌∙◌, ◌<◌, ◌≤◌, ◌+◌, ◌-◌, ◌++◌, ◌∷◌, [], ℕ, zero, suc, All, false, List, Vec, Global, length, take, replicate, refl, sym, ap, ap₂, subst, arith, append-nil}
use Rattle.std.proofs.lemmas.List.{length-map, length-take-le, take_all}
use Rattle.std.proofs.lemmas.List.FromFn.{length-map-range_with_len}
use Rattle.link_plan.specs.Schedules.{ScheduleValue}
use Rattle.link_plan.specs.ScheduleViews.{schedule_value}
use Rattle.link_plan.specs.Views.{plan_value}
use Rattle.run_stops.specs.Reading.{vec_items}
use Rattle.run_shell.specs.Ends.{held_status}
use Rattle.run_shell.specs.Names.{lane_name, lane_names}
use Rattle.run_shell.specs.Outcome.{Outcome}
use Rattle.run_shell.specs.Open.{Open}
use Rattle.run_shell.specs.Outputs.{Prefixes, blank, more, open_names, outs}
use Rattle.run_shell.specs.Writing.{Begin, delivered}
use Rattle.run_shell.specs.declared.finished.Finished.{Finished}
use Rattle.damage_commands.specs.PlanLanes.{whole_lane_limit}
use Rattle.damage_commands.specs.Damage.{AreArrived, IsArrived, IsDamaged, damaged_names, damaged_out, line_of, lines_from}
use Rattle.damage_commands.specs.Making.{GaveLanes, lanes_of}
use Rattle.damage_commands.specs.Values.{inputs_value}
use Rattle.damage_commands.specs.declared.inputs.DamageInputs as code
use Rattle.damage_commands.proofs.Arrived.{arrived_more, lines_more, none_arrived, prefix_arrived}

-- the outputs are as many as the lanes
as_many_names : (out : List ℕ) (lanes : ℕ) → length (lane_names (damaged_out out) lanes) ≡ lanes
as_many_names out lanes = length-map-range_with_len (lane_name (damaged_out out)) 0 lanes

pub outputs_count : (opens : List Open) (out : List ℕ) (lanes : ℕ) → open_names opens ≡ lane_names (damaged_out out) lanes → length opens ≡ lanes
outputs_count opens out lanes e = sym (length-map opens (λ (f : Open). f.name)) ∙ ap length e ∙ as_many_names out lanes

nothing_in_each : (names : List (List ℕ)) (n : ℕ) → length names ≡ n → blank names ≡ replicate n []
nothing_in_each [] zero e = refl
nothing_in_each [] (suc n) e = absurd (omega (arith, e))
nothing_in_each (name ∷ names) zero e = absurd (omega (arith, e))
nothing_in_each (name ∷ names) (suc n) e = ap (λ (cs : List (List ℕ)). [] ∷ cs) (nothing_in_each names n (omega (arith, e)))

-- the first of some contents, and nothing of the others
first_of_all : (first rest : List (List ℕ)) → Prefixes (first ++ replicate (length rest) []) (first ++ rest)
first_of_all [] [] = tt
first_of_all [] (c ∷ rest) = ((c, refl), first_of_all [] rest)
first_of_all (c ∷ first) rest = (([], sym (append-nil c)), first_of_all first rest)

-- the next output is given its content
next_given : (first : List (List ℕ)) (left : ℕ) (bytes : List ℕ) → 0 < left → more (first ++ replicate left []) (length first) bytes ≡ (first ++ bytes ∷ []) ++ replicate (left - 1) []
next_given [] zero bytes h = absurd (omega (arith, h))
next_given [] (suc left) bytes h = (let e : left ≡ suc left - 1 = omega arith in ap (λ n. bytes ∷ replicate n []) e)
next_given (c ∷ first) left bytes h = ap (λ (cs : List (List ℕ)). c ∷ cs) (next_given first left bytes h)

module _ (i : code.DamageInputs) where
  abbrev all : List (List ℕ)
  all = lanes_of i

  abbrev schedule : ScheduleValue
  schedule = schedule_value i.schedule

  abbrev names : List (List ℕ)
  names = damaged_names (inputs_value i).plan

  many_names : length i.lanes.items ≡ i.plan.link.lanes → length names ≡ length i.lanes.items
  many_names many = as_many_names (plan_value i.plan).out (plan_value i.plan).settings.lanes ∙ sym many

  module _ (lines : Vec ℕ Global) where
    pub none_gave : length i.lanes.items ≡ i.plan.link.lanes → length i.schedule.skews.items ≡ i.plan.link.lanes → All (λ (v : Vec ℕ Global). length v.items ≤ whole_lane_limit) i.lanes.items → lines.items ≡ []
        → GaveLanes i lines 0 (blank names)
    none_gave many skews few none = record {
      many = many;
      skews = skews;
      few = few;
      within = omega arith;
      received = [];
      are = none_arrived schedule;
      is = nothing_in_each names (length i.lanes.items - 0) (many_names many ∙ omega arith);
      told = none;
    }

    pub gave_begins : (count : ℕ) (given : List (List ℕ)) (o : Outcome) → GaveLanes i lines count given → IsDamaged (inputs_value i) o → Begin names given o.files
    gave_begins count given o g is =
        let (rest, (e, long)) = prefix_arrived schedule all count g.received is.received (omega (arith, g.within, length-map i.lanes.items vec_items)) g.are is.are in
        let left : length i.lanes.items - count ≡ length rest = omega (arith, long, length-map i.lanes.items vec_items) in
        let begins = subst (Prefixes (g.received ++ replicate (length rest) [])) (sym e) (first_of_all g.received rest) in
        (is.received, is.files, subst (λ (cs : List (List ℕ)). Prefixes cs is.received) (sym (g.is ∙ ap (λ n. g.received ++ replicate n []) left)) begins)

    module _ (count : ℕ) (given : List (List ℕ)) (g : GaveLanes i lines count given) where
      -- the next lane
      pub lane_gave : (next : Vec ℕ Global) (sent bytes : List ℕ) → count < length i.lanes.items → take (count + 1) all ≡ take count all ++ sent ∷ [] → IsArrived schedule count sent bytes → next.items ≡ lines.items ++ line_of schedule count sent
          → GaveLanes i next (count + 1) (more given count bytes)
      lane_gave next sent bytes lt seam arrived told =
          let long : length (take count all) ≡ count = length-take-le count all (omega (arith, lt, length-map i.lanes.items vec_items)) in
          let place : length g.received ≡ count = g.are.as_many ∙ long in
          let fewer : length i.lanes.items - count - 1 ≡ length i.lanes.items - (count + 1) = omega arith in
          record {
            many = g.many;
            skews = g.skews;
            few = g.few;
            within = omega (arith, lt);
            received = g.received ++ bytes ∷ [];
            are = subst (λ (ls : List (List ℕ)). AreArrived schedule ls (g.received ++ bytes ∷ [])) (sym seam) (arrived_more schedule (take count all) g.received sent bytes count long g.are arrived);
            is = ap₂ (λ (gs : List (List ℕ)) n. more gs n bytes) g.is (sym place) ∙ next_given g.received (length i.lanes.items - count) bytes (omega (arith, lt)) ∙ ap (λ n. (g.received ++ bytes ∷ []) ++ replicate n []) fewer;
            told = told ∙ ap (λ (t : List ℕ). t ++ line_of schedule count sent) g.told ∙ sym (lines_more schedule 0 count (take count all) sent (omega (arith, long))) ∙ ap (lines_from schedule 0) (sym seam);
          }

      -- all lanes were given
      pub all_done : (f : Finished) → count ≡ i.plan.link.lanes → f.held ≡ false → f.text.items ≡ lines.items → IsDamaged (inputs_value i) (delivered names given f)
      all_done f end free text =
          let whole : take count all ≡ all = take_all count all (omega (arith, end, g.many, length-map i.lanes.items vec_items)) in
          let none : length i.lanes.items - count ≡ 0 = omega (arith, end, g.many) in
          record {
            received = g.received;
            are = subst (λ (ls : List (List ℕ)). AreArrived schedule ls g.received) whole g.are;
            status = ap held_status free;
            files = ap (λ (cs : List (List ℕ)). outs names cs) (g.is ∙ ap (λ n. g.received ++ replicate n []) none ∙ append-nil g.received);
            text = text ∙ g.told ∙ ap (lines_from schedule 0) whole;
          }
