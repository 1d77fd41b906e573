-- From a run of what was read to what the command makes.
use Rattle.std.proofs.Common.{[], refl, ap, ◌∙◌, subst, Option, Result, Ok, Err, arith}
use Rattle.lk_outside.specs.Files.{Files}
use Rattle.receive_model.specs.Events.{Setting}
use Rattle.duplex_model.specs.DuplexRun.{Ends, IsDuplexRun}
use Rattle.duplex_model.specs.Came.{came}
use Rattle.duplex.specs.declared.duplex.Duplex.{Duplex}
use Rattle.duplex.proofs.Opens.{begins_run, is_run}
use Rattle.run_stops.specs.declared.stop.Stop.{Stop}
use Rattle.run_shell.specs.declared.finished.Finished.{Finished}
use Rattle.run_shell.specs.Outcome.{Outcome}
use Rattle.run_shell.specs.Writing.{Fills, Writes}
use Rattle.receipts.proofs.Settings.{is_the_setting, plan_setting, the_setting}
use Rattle.duplex_commands.specs.Reading.{DuplexReading}
use Rattle.duplex_commands.specs.Run.{run_settings, IsDuplexed, duplex_names, duplex_outcome}
use Rattle.duplex_commands.specs.declared.captures.Captures.{Captures}
use Rattle.duplex_commands.specs.Captures.{Beginning, AreKept, IsBroken, names_of}
use Rattle.duplex_commands.specs.Slots.{IsAt, IsCut}
use Rattle.duplex_commands.specs.Ended.{IsEnded}
use Rattle.duplex_commands.specs.Loaded.{IsLoaded}
use Rattle.duplex_commands.proofs.Ends.{cut_writes}
use Rattle.duplex_commands.proofs.Works.{same_ends}

abbrev pub beginning : DuplexReading → Option Files → Beginning
beginning r was = record { setting = the_setting r.plan; link_type = r.plan.link_type; out = r.settings.out; was = was }

module _ (r : DuplexReading) (d : Duplex) (loaded : IsLoaded r d) (was : Option Files) where
  abbrev Plain : Outcome → Type 0
  Plain o = IsEnded (beginning r was) (run_settings r.settings) loaded.ends o

  to_duplexed : (o : Outcome) → Plain o → IsDuplexed r o
  to_duplexed o (a, b, run, e) = (a, b, record { keeps = loaded.waits.keeps; ends = loaded.ends; are = loaded.are; run = run; bytes_of_a = loaded.bytes_of_a; bytes_of_b = loaded.bytes_of_b }, (the_setting r.plan, is_the_setting r.plan, e))

  of_duplexed : (o : Outcome) → IsDuplexed r o → Plain o
  of_duplexed o (a, b, run, (setting, is, e)) = (
    a,
    b,
    subst (λ (ends : Ends). IsDuplexRun (run_settings r.settings) ends a b) (same_ends r run.ends loaded.ends run.are loaded.are) run.run,
    e ∙ ap (λ (s : Setting). duplex_outcome r s a b) (plan_setting r.plan setting (the_setting r.plan) is (is_the_setting r.plan)),
  )

  fills : (x : Result Finished Stop) (now : Option Files) → Fills Plain (duplex_names r) x was now → Fills (IsDuplexed r) (duplex_names r) x was now
  fills (Ok f) now h = record { outcome = h.outcome; is_outcome = to_duplexed h.outcome h.is_outcome; status = h.status; text = h.text; files = h.files }
  fills (Err s) now h = record { by_store = h.by_store; part = λ o made. h.part o (of_duplexed o made) }

  pub as_duplexed : (x : Result Finished Stop) (now : Option Files) → Writes Plain (names_of (beginning r was)) x was now → Writes (IsDuplexed r) (duplex_names r) x was now
  as_duplexed x now h = record { fills = fills x now h.fills; others = h.others }

  -- nothing was sent yet
  pub begins_at : (c : Captures) (now : Option Files) → AreKept (beginning r was) [] [] c now → IsAt (beginning r was) (run_settings r.settings) loaded.ends 0 d c now
  begins_at c now kept = record {
    from_a = [];
    from_b = [];
    got_a = [];
    got_b = [];
    runs = begins_run d (run_settings r.settings) loaded.ends loaded.waits;
    has = loaded.got (the_setting r.plan) (is_the_setting r.plan);
    kept = kept;
    fits = loaded.fits;
  }

  broken_cut : (s : Stop) (now : Option Files) → IsBroken (beginning r was) [] [] s now → IsCut (beginning r was) (run_settings r.settings) loaded.ends 0 s now
  broken_cut s now h = record {
    keeps = loaded.waits.keeps;
    by_store = h.by_store;
    slots = 0;
    within = omega arith;
    from_a = [];
    from_b = [];
    run = is_run d (run_settings r.settings) loaded.ends 0 [] [] (begins_run d (run_settings r.settings) loaded.ends loaded.waits);
    got_a = [];
    got_b = [];
    first_a = λ channel. (came (run_settings r.settings) (the_setting r.plan) [] channel 0, refl);
    first_b = λ channel. (came (run_settings r.settings) (the_setting r.plan) [] channel 0, refl);
    part = h.part;
  }

  -- the captures could not be created
  pub broken_writes : (s : Stop) (now : Option Files) → IsBroken (beginning r was) [] [] s now → Writes (IsDuplexed r) (duplex_names r) (Err s) was now
  broken_writes s now h = as_duplexed (Err s) now (cut_writes (beginning r was) (run_settings r.settings) loaded.ends 0 s now (omega arith) (broken_cut s now h))
