-- What stands between the calls.
use Rattle.std.proofs.Common.{◌≡◌, ℕ, zero, suc, ◌+◌, ◌-◌, ◌<◌, Bool, take, List, [], ◌∷◌, ◌++◌, length, sum_by, Contains, Result, Ok, Err, IfOk, get_or, refl, sym, ap, ◌∙◌, subst, arith}
use Rattle.std.proofs.lemmas.List.Sums.{sum_by-append, sum_by-cons}
use Rattle.duplex_model.specs.DuplexRun.{Settings, Ends}
use Rattle.receive_model.specs.Events.{Setting}
use Rattle.lk_base.specs.declared.word.Word.{Word}
use Rattle.receive_model.specs.Pieces.{Packet}
use Rattle.reassembly.specs.Settings.{IsSettingOf}
use Rattle.reassembly.proofs.Channels.{settings_are_one}
use Rattle.duplex.proofs.Opens.{begins_run}
use Rattle.reassembly.specs.States.{NothingWaits}
use Rattle.duplex.specs.Inboxes.{Gave}
use Rattle.duplex.specs.Sides.{IsSideAt}
use Rattle.duplex.specs.Duplexes.{Waits, Runs, HasGot, IsGiven, GivesGot, KeepsInboxes, KeepsSides, packet_added}
use Rattle.duplex.specs.declared.duplex.Duplex.{Duplex}
use Rattle.duplex.specs.declared.duplex.End.{End}
use Rattle.duplex.specs.declared.duplex.End.TheVariants.{A, B}
use Rattle.word_calls.specs.Calls.{IsReady, IsRunning}

pub only_one : (k d : ℕ) → k < 1 → Contains (1 ∷ []) (get_or (1 ∷ []) k d)
only_one zero d h = (0, omega arith, refl)
only_one (suc k) d h = absurd (omega arith)

pub added : (old new : Duplex) (total : ℕ) (bytes : List ℕ) → IsReady total old → ((settings : Settings) (ends : Ends) → Waits old settings ends → Waits new settings (packet_added ends A 1 bytes)) → KeepsInboxes old new → IsReady (total + length bytes) new
added old new total bytes r adds k = record {
  settings = r.settings;
  ends = packet_added r.ends A 1 bytes;
  setting = r.setting;
  waits = adds r.settings r.ends r.waits;
  listed = r.listed;
  total_is =
      let f : ℕ × List ℕ → ℕ = λ p. length p.1 in
      let two = sum_by-append f r.ends.packets_of_a ((1, bytes) ∷ []) in
      let one = sum_by-cons f (1, bytes) [] in
      let t = r.total_is in
      omega (arith, two, one, t);
  given = (subst (λ i. NothingWaits i.reassembly) (sym k.inbox_a) r.given.0, subst (λ i. NothingWaits i.reassembly) (sym k.inbox_b) r.given.1);
  got = record {
    at_a = subst (λ i. Gave i r.setting (take (0 - r.settings.delay) []) []) (sym k.inbox_a) r.got.at_a;
    at_b = subst (λ i. Gave i r.setting (take (0 - r.settings.delay) []) []) (sym k.inbox_b) r.got.at_b;
  };
}

runs_still : (old new : Duplex) (settings : Settings) (ends : Ends) (slots : ℕ) (r : IsRunning old slots) → KeepsSides old new → Runs new r.settings r.ends slots r.a r.b
runs_still old new settings ends slots r k = record {
  keeps = r.runs.keeps;
  mark = k.rest.0 ∙ r.runs.mark;
  drain = k.rest.1 ∙ r.runs.drain;
  slot = k.rest.2 ∙ r.runs.slot;
  slots_of_a = r.runs.slots_of_a;
  slots_of_b = r.runs.slots_of_b;
  side_a = subst (λ s. IsSideAt s r.settings r.ends r.ends.packets_of_a r.a r.b slots) (sym k.sides.0) r.runs.side_a;
  side_b = subst (λ s. IsSideAt s r.settings r.ends r.ends.packets_of_b r.b r.a slots) (sym k.sides.1) r.runs.side_b;
}

pub one_given : (old new : Duplex) (slots : ℕ) (end : End) (channel n : ℕ) (r : IsRunning old slots) → KeepsSides old new → GivesGot new r.setting r.settings slots r.a r.b r.got_a r.got_b end channel n → IsRunning new slots
one_given old new slots A channel n r k g = record {
  settings = r.settings;
  ends = r.ends;
  setting = r.setting;
  a = r.a;
  b = r.b;
  got_a = r.got_a ++ (channel, g.0) ∷ [];
  got_b = r.got_b;
  listed = r.listed;
  runs = runs_still old new r.settings r.ends slots r k;
  got = g.1.has;
}
one_given old new slots B channel n r k g = record {
  settings = r.settings;
  ends = r.ends;
  setting = r.setting;
  a = r.a;
  b = r.b;
  got_a = r.got_a;
  got_b = r.got_b ++ (channel, g.0) ∷ [];
  listed = r.listed;
  runs = runs_still old new r.settings r.ends slots r k;
  got = g.1.has;
}

pub none_given : (old new : Duplex) (slots : ℕ) (r : IsRunning old slots) → KeepsSides old new → HasGot new r.setting r.settings slots r.a r.b r.got_a r.got_b → IsRunning new slots
none_given old new slots r k g = record {
  settings = r.settings;
  ends = r.ends;
  setting = r.setting;
  a = r.a;
  b = r.b;
  got_a = r.got_a;
  got_b = r.got_b;
  listed = r.listed;
  runs = runs_still old new r.settings r.ends slots r k;
  got = g;
}

pub made : {E : Type 0} (r : Result Duplex E) (settings : Settings) (ends : Ends) (most : ℕ) (wide : Bool) → Contains ends.channels 1 → ends.packets_of_a ≡ [] → IfOk r (λ d. Waits d settings ends) → IfOk r IsGiven
    → IfOk r (λ d. (setting : Setting) → IsSettingOf setting ends.channels most wide → HasGot d setting settings 0 [] [] [] []) → IfOk r (IsReady 0)
made (Ok d) settings ends most wide listed none waits given got =
    let one = settings_are_one ends.channels most wide in
    record { settings = settings; ends = ends; setting = one.0; waits = waits; listed = listed; total_is = ap (sum_by (λ (p : ℕ × List ℕ). length p.1)) none; given = given; got = got one.0 one.1 }
made (Err e) settings ends most wide listed none waits given got = tt

pub starts : (d : Duplex) (total : ℕ) → IsReady total d → IsRunning d 0
starts d total r = record { settings = r.settings; ends = r.ends; setting = r.setting; a = []; b = []; got_a = []; got_b = []; listed = r.listed; runs = begins_run d r.settings r.ends r.waits; got = r.got }

pub slot_done : (old new : Duplex) (n : ℕ) (r : IsRunning old n)
    → ((settings : Settings) (ends : Ends) (slots : ℕ) (a b : List Word) → Runs old settings ends slots a b → (from_a from_b : Word) × Runs new settings ends (suc slots) (a ++ from_a ∷ []) (b ++ from_b ∷ []))
    → ((setting : Setting) (settings : Settings) (ends : Ends) (slots : ℕ) (a b : List Word) (got_a got_b : List (ℕ × Packet)) (from_a from_b : Word) → Runs old settings ends slots a b → HasGot old setting settings slots a b got_a got_b → HasGot new setting settings (suc slots) (a ++ from_a ∷ []) (b ++ from_b ∷ []) got_a got_b)
    → IsRunning new (n + 1)
slot_done old new n r runs got =
    let next = runs r.settings r.ends n r.a r.b r.runs in
    let e : suc n ≡ n + 1 = omega arith in
    let running : IsRunning new (suc n) = record {
      settings = r.settings;
      ends = r.ends;
      setting = r.setting;
      a = r.a ++ next.0 ∷ [];
      b = r.b ++ next.1 ∷ [];
      got_a = r.got_a;
      got_b = r.got_b;
      listed = r.listed;
      runs = next.2;
      got = got r.setting r.settings r.ends n r.a r.b r.got_a r.got_b next.0 next.1 r.runs r.got;
    } in
    subst (λ (k : ℕ). IsRunning new k) e running
