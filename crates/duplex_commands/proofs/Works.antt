-- What is read for `duplex` has one outcome.
use Rattle.std.proofs.Common.{◌≡◌, ℕ, List, refl, sym, ap, ap₂, ◌∙◌, subst, inr}
use Rattle.lk_base.specs.declared.word.Word.{Word}
use Rattle.lk_base.specs.declared.shape.Shape.{Shape}
use Rattle.receive_model.specs.Events.{Setting}
use Rattle.stream_model.specs.BurstStream.{Source}
use Rattle.link_plan.specs.Listing.{channels_in_order}
use Rattle.link_plan.specs.Views.{numbers_in}
use Rattle.duplex_plan.specs.Ranges.{AreInRange}
use Rattle.duplex_model.specs.DuplexRun.{AreSettings, Ends, alone, IsDuplexRun}
use Rattle.duplex_model.proofs.OneRun.{CanRun, one_run, some_run}
use Rattle.run_shell.specs.Outcome.{Outcome}
use Rattle.run_shell.specs.Meaning.{IsMeaning}
use Rattle.run_shell.proofs.Works.{is_meaning}
use Rattle.plan_inputs.proofs.PlanStream.{in_order_low}
use Rattle.plan_inputs.proofs.SameSource.{same_source}
use Rattle.plan_inputs.proofs.SomeSource.{Keeps, shape_of}
use Rattle.receipts.proofs.Settings.{plan_setting, the_setting, is_the_setting}
use Rattle.duplex_commands.specs.Reading.{DuplexReading}
use Rattle.duplex_commands.specs.Run.{run_settings, packets_alone, AreEndsOf, IsRunFor, IsDuplexed, duplex_outcome, duplex_work, duplex_meaning}
use Rattle.duplex_commands.specs.Laws.{DuplexIsWork}
use Rattle.duplex_commands.proofs.Parts.{AreParts, parts_of}

-- ---- one run

-- the ends by their sources
ends_by : Source → List (ℕ × List ℕ) → Ends
ends_by source packets = record { shape = source.shape; channels = source.channels; entries = source.entries; packets_of_a = source.packets; packets_of_b = packets }

pub same_ends : (r : DuplexReading) (x y : Ends) → AreEndsOf r x → AreEndsOf r y → x ≡ y
unfolding ends_by
same_ends r x y h k =
    let a : alone x x.packets_of_a ≡ alone y y.packets_of_a = same_source r.plan (packets_alone r.packets_of_a) (alone x x.packets_of_a) (alone y y.packets_of_a) h.a k.a in
    let b : alone x x.packets_of_b ≡ alone y y.packets_of_b = same_source r.plan (packets_alone r.packets_of_b) (alone x x.packets_of_b) (alone y y.packets_of_b) h.b k.b in
    ap₂ (λ (s t : Source). ends_by s t.packets) a b

one_pair : (r : DuplexReading) (a b a_too b_too : List Word) → IsRunFor r a b → IsRunFor r a_too b_too → (a ≡ a_too) × (b ≡ b_too)
one_pair r a b a_too b_too h k =
    one_run (run_settings r.settings) h.ends r.settings.slots a b a_too b_too h.keeps h.run
    (subst (λ (e : Ends). IsDuplexRun (run_settings r.settings) e a_too b_too) (sym (same_ends r h.ends k.ends h.are k.are)) k.run)

one_outcome : (r : DuplexReading) (o p : Outcome) → IsDuplexed r o → IsDuplexed r p → o ≡ p
one_outcome r o p (a, b, run, (s, is, e)) (a_too, b_too, run_too, (t, are, f)) =
    let same = one_pair r a b a_too b_too run run_too in
    e ∙ ap (λ (x : Setting). duplex_outcome r x a b) (plan_setting r.plan s t is are)
    ∙ ap₂ (λ (v w : List Word). duplex_outcome r t v w) same.0 same.1 ∙ sym f

-- ---- some run

settings_keep : (r : DuplexReading) → AreInRange r.settings → AreSettings (run_settings r.settings)
settings_keep r h = record { delay_low = h.delay.0; mark_low = h.mark.0; drain_low = h.drain.0 }

the_shape : (r : DuplexReading) → Keeps r.plan → Shape
the_shape r keeps = (shape_of r.plan keeps).0

the_ends : (r : DuplexReading) → Keeps r.plan → Ends
the_ends r keeps = record { shape = the_shape r keeps; channels = channels_in_order (numbers_in r.plan); entries = r.plan.entries; packets_of_a = r.packets_of_a; packets_of_b = r.packets_of_b }

they_are : (r : DuplexReading) (keeps : Keeps r.plan) → AreEndsOf r (the_ends r keeps)
unfolding the_shape the_ends
they_are r keeps = record {
  a = record { shape = (shape_of r.plan keeps).1; channels = refl; entries = refl; packets = refl; flow = refl; local = refl };
  b = record { shape = (shape_of r.plan keeps).1; channels = refl; entries = refl; packets = refl; flow = refl; local = refl };
}

they_run : (r : DuplexReading) (parts : AreParts r) → CanRun (run_settings r.settings) (the_ends r parts.plan)
unfolding the_ends
they_run r parts = record {
  a = λ sent slots. record { channels_fit = in_order_low (numbers_in r.plan); bytes = λ k p below. (parts.a k p below).bytes };
  b = λ sent slots. record { channels_fit = in_order_low (numbers_in r.plan); bytes = λ k p below. (parts.b k p below).bytes };
}

pub some_for : (r : DuplexReading) → AreParts r → (a b : List Word) × IsRunFor r a b
some_for r parts =
    let keeps : AreSettings (run_settings r.settings) = settings_keep r parts.settings in
    let (a, b, run) = some_run (run_settings r.settings) (the_ends r parts.plan) r.settings.slots keeps (they_run r parts) in
    (a, b, record { keeps = keeps; ends = the_ends r parts.plan; are = they_are r parts.plan; run = run; bytes_of_a = λ k p below. (parts.a k p below).bytes; bytes_of_b = λ k p below. (parts.b k p below).bytes })

some_outcome : (r : DuplexReading) → AreParts r → (o : Outcome) × IsDuplexed r o
some_outcome r parts =
    let (a, b, run) = some_for r parts in
    (duplex_outcome r (the_setting r.plan) a b, (a, b, run, (the_setting r.plan, is_the_setting r.plan, refl)))

-- ---- the work

pub duplex_is_work : DuplexIsWork
duplex_is_work name = record {
  one_made = one_outcome;
  some_made = λ files bytes r is. some_outcome r (parts_of files name r bytes is);
  made_status = λ r o (a, b, run, (s, is, e)). inr (ap (λ (p : Outcome). p.status) e, λ x. x);
}

pub duplex_means : (name : List ℕ) → IsMeaning (duplex_meaning name)
duplex_means name = is_meaning (duplex_work name) (duplex_is_work name)
