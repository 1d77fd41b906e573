-- `stripe`: its outcomes, and the readings before it.
use Rattle.std.proofs.Common.{◌≡◌, ℕ, ◌<◌, ◌≤◌, ◌*◌, ◌-◌, mul-le-mul, List, length, refl, sym, ap, ◌∙◌, subst, arith, Option, Some, None, IfSome, Ok, Err, MatchResult, inl, inr}
use Rattle.lk_base.specs.Link.{Settings, IsLink, group_of}
use Rattle.lk_base.specs.declared.word.Word.{Word}
use Rattle.lk_outside.specs.Files.{Files}
use Rattle.link_plan.specs.Plan.{PlanValue}
use Rattle.link_plan.specs.Views.{plan_value}
use Rattle.link_plan.specs.declared.plan.Plan.{Plan}
use Rattle.link_reports.specs.Lines.{slots_line}
use Rattle.plan_inputs.specs.Inputs.{plan_in}
use Rattle.plan_inputs.proofs.SomeSource.{plan_limits}
use Rattle.run_stops.specs.declared.stop.Stop.{Stop}
use Rattle.run_stops.specs.Reading.{Reads, behind}
use Rattle.run_stops.proofs.Readings.{behind_ok, behind_stops, first_stops, second_reads}
use Rattle.run_shell.specs.declared.status.Status.TheVariants.{Done}
use Rattle.run_shell.specs.Names.{words_name}
use Rattle.run_shell.specs.Outcome.{Outcome}
use Rattle.run_shell.specs.Meaning.{IsMeaning}
use Rattle.run_shell.specs.Work.{IsWork}
use Rattle.run_shell.proofs.Works.{is_meaning}
use Rattle.stream_commands.specs.Outputs.{AreLaneOutputs}
use Rattle.stream_commands.proofs.LaneContents.{one_list, some_list}
use Rattle.stream_commands.proofs.OneOutcome.{same_parts}
use Rattle.lane_commands.specs.SentWords.{sent_words_in}
use Rattle.lane_commands.specs.Stripe.{IsReadFor, IsStriped, StripeInputs, plan_words_in, stripe_meaning, stripe_work, with_words}
use Rattle.lane_commands.specs.Values.{words_value}
use Rattle.lane_commands.specs.declared.plan_words.StripeInputs as code
use Rattle.lane_commands.proofs.Filling.{stripe_once, stripe_some}

-- ---- the work

group_some : (s : Settings) → IsLink s → 0 < group_of s
group_some s link = by s.lanes (s.metaframe - s.skips - 3) link.lanes.0 (omega (arith, link.metaframe.0, link.skips.1))
  where
    by : (a b : ℕ) → 1 ≤ a → 1 ≤ b → 0 < a * b
    by a b la lb = omega (arith, mul-le-mul la lb)

-- the plan was accepted
plan_had : (files : Files) (name : List ℕ) (i : StripeInputs) → plan_words_in files name ≡ Ok i → plan_in files name ≡ Ok i.plan
plan_had files name i e = let (plan, is, more) = behind_ok (plan_in files name) (with_words files) i e in is ∙ ap Ok (same plan more)
  where
    same : (plan : PlanValue) → with_words files plan ≡ Ok i → plan ≡ i.plan
    same plan more = let (words, had, k) = behind_ok (sent_words_in files (words_name plan.out)) (λ ws. Ok (record { plan = plan; words = ws })) i more in cc

pub one_made : (i : StripeInputs) (o p : Outcome) → IsStriped i o → IsStriped i p → o ≡ p
one_made i o p h k =
    let e : k.stream ≡ h.stream = stripe_once i.plan.settings i.words k.stream h.stream k.stripes h.stripes in
    same_parts o p (h.status ∙ sym k.status)
    (one_list i.plan.settings i.plan.out h.stream o.files p.files h.files (subst (λ (w : List Word). AreLaneOutputs i.plan.settings i.plan.out w p.files) e k.files))
    (h.text ∙ ap (λ (w : List Word). slots_line (length w)) (sym e) ∙ sym k.text)

some_made : (i : StripeInputs) → 0 < group_of i.plan.settings → (o : Outcome) × IsStriped i o
some_made i some =
    let (stream, stripes) = stripe_some i.plan.settings i.words some in
    let (files, are) = some_list i.plan.settings i.plan.out stream in
    (record { status = Done; files = files; text = slots_line (length stream) }, record { stream = stream; stripes = stripes; status = refl; files = are; text = refl })

stripe_is_work : (name : List ℕ) → IsWork (stripe_work name)
stripe_is_work name = record {
  one_made = one_made;
  some_made = λ files bytes i is. some_made i (group_some i.plan.settings (plan_limits files name i.plan (plan_had files name i is)));
  made_status = λ i o h. inr (h.status, λ x. x);
}

pub stripe_means : (name : List ℕ) → IsMeaning (stripe_meaning name)
stripe_means name = is_meaning (stripe_work name) (stripe_is_work name)

-- ---- a plan and its words

-- memory ran out, which says nothing of the files
pub out_of_memory : (x : Option Files) → IfSome x (λ files. Unit {0})
out_of_memory None = tt
out_of_memory (Some u) = tt

module _ (file : List ℕ) where
  -- the plan was refused, or reading it stopped
  pub no_plan : (s : Stop) (x : Option Files) → IfSome x (λ files. Reads plan_value (λ n. n ≡ file) (Err s) (plan_in files file)) → IfSome x (λ files. Reads words_value (IsReadFor file files) (Err s) (plan_words_in files file))
  no_plan s x h = first_stops PlanValue StripeInputs Plan code.StripeInputs (λ files. plan_in files file) with_words plan_value words_value (λ files n. n ≡ file) (IsReadFor file) s x (λ u q n. inl n) h

  named_for : (plan : Plan) (name : List ℕ) (u : Files) (q : List ℕ) → name ≡ words_name (plan_value plan).out → plan_in u file ≡ Ok (plan_value plan) → q ≡ name → IsReadFor file u q
  named_for plan name u q named is e = inr (subst (λ r. MatchResult r (λ p. q ≡ words_name p.out) (λ f. ⊥)) (sym is) (e ∙ named))

  module _ (x y : Option Files) (same : y ≡ x) (plan : Plan) (had : IfSome x (λ files. plan_in files file ≡ Ok (plan_value plan))) where
    module _ (name : List ℕ) (named : name ≡ words_name (plan_value plan).out) where
      -- the words were refused, or reading them stopped
      pub no_words : (s : Stop) → IfSome y (λ files. Reads (λ (ws : List Word). ws) (λ n. n ≡ name) (Err s) (sent_words_in files name)) → IfSome x (λ files. Reads words_value (IsReadFor file files) (Err s) (plan_words_in files file))
      no_words s h =
          second_reads PlanValue StripeInputs Plan code.StripeInputs (λ files. plan_in files file) with_words words_value (IsReadFor file) (IsReadFor file) (plan_value plan) (Err s) x y same (λ u q is n. n) had
          (subst (λ z. IfSome z (λ files. Reads words_value (IsReadFor file files) (Err s) (with_words files (plan_value plan)))) (sym same)
          (by x had (subst (λ z. IfSome z (λ files. Reads (λ (ws : List Word). ws) (λ n. n ≡ name) (Err s) (sent_words_in files name))) same h)))
        where
          by : (z : Option Files) → IfSome z (λ files. plan_in files file ≡ Ok (plan_value plan)) → IfSome z (λ files. Reads (λ (ws : List Word). ws) (λ n. n ≡ name) (Err s) (sent_words_in files name)) → IfSome z (λ files. Reads words_value (IsReadFor file files) (Err s) (with_words files (plan_value plan)))
          by None is k = tt
          by (Some u) is k =
              subst (λ m. Reads words_value (IsReadFor file u) (Err s) (behind (sent_words_in u m) (λ words. Ok (record { plan = plan_value plan; words = words })))) named
              (behind_stops (List Word) StripeInputs (List Word) code.StripeInputs (sent_words_in u name) (λ words. Ok (record { plan = plan_value plan; words = words })) (λ (ws : List Word). ws) words_value (λ n. n ≡ name) (IsReadFor file u) s (λ q n. named_for plan name u q named is n) k)

      -- both were read
      pub both_read : (words : List Word) → IfSome y (λ files. sent_words_in files name ≡ Ok words) → IfSome x (λ files. plan_words_in files file ≡ Ok (record { plan = plan_value plan; words = words }))
      both_read words h = by x had (subst (λ z. IfSome z (λ files. sent_words_in files name ≡ Ok words)) same h)
        where
          by : (z : Option Files) → IfSome z (λ files. plan_in files file ≡ Ok (plan_value plan)) → IfSome z (λ files. sent_words_in files name ≡ Ok words) → IfSome z (λ files. plan_words_in files file ≡ Ok (record { plan = plan_value plan; words = words }))
          by None is k = tt
          by (Some u) is k =
              let got : sent_words_in u (words_name (plan_value plan).out) ≡ Ok words = subst (λ m. sent_words_in u m ≡ Ok words) named k in
              ap (λ r. behind r (with_words u)) is ∙ ap (λ r. behind r (λ ws. Ok (record { plan = plan_value plan; words = ws }))) got
