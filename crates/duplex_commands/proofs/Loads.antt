-- A run that is made, and its packets.
use Rattle.std.proofs.Common.{◌≡◌, ℕ, ◌+◌, ◌<◌, ◌≤◌, ◌^◌, ◌-◌, take, Bool, true, List, [], refl, sym, ◌∙◌, subst, arith}
use Rattle.lk_base.specs.Limits.{capture_limit, longest_packet}
use Rattle.lk_base.specs.declared.shape.Shape.{Shape}
use Rattle.receive_model.specs.Events.{Setting}
use Rattle.reassembly.specs.States.{NothingWaits}
use Rattle.link_plan.specs.Listing.{channels_in_order, fit_width}
use Rattle.link_plan.specs.Views.{numbers_in}
use Rattle.link_plan.proofs.InOrder.{in_order}
use Rattle.duplex_model.specs.DuplexRun.{Settings, Ends}
use Rattle.duplex_plan.specs.Duplex.{DuplexValue}
use Rattle.duplex.specs.Duplexes.{Waits, HasGot, IsGiven, KeepsInboxes, empty_ends}
use Rattle.duplex.specs.Inboxes.{Gave}
use Rattle.duplex.specs.declared.duplex.Duplex.{Duplex}
use Rattle.duplex.specs.declared.inbox.Inbox.{Inbox}
use Rattle.plan_inputs.specs.Values.{AreOn}
use Rattle.duplex.specs.declared.duplex.End.TheVariants.{A, B}
use Rattle.plan_inputs.specs.Sources.{IsShapeOf}
use Rattle.reassembly.specs.Settings as reassembly
use Rattle.receipts.proofs.Settings.{lists_channels}
use Rattle.duplex_commands.specs.Reading.{DuplexReading}
use Rattle.duplex_commands.specs.Run.{run_settings, AreOfBytes}
use Rattle.duplex_commands.specs.Loaded.{IsLoaded, all_added}

-- the same settings, but for the slots of the whole run
module _ (s : Settings) (value : DuplexValue) (delay : s.delay ≡ value.delay) (mark : s.mark ≡ value.mark) (drain : s.drain ≡ value.drain) where
  abbrev timed : Settings
  timed = record s { slots = value.slots }

  same : timed ≡ run_settings value
  same = cc

  pub waits_so : (d : Duplex) (ends : Ends) → Waits d s ends → Waits d (run_settings value) ends
  waits_so d ends w = subst (λ (x : Settings). Waits d x ends) same (record {
    keeps = record { delay_low = w.keeps.delay_low; mark_low = w.keeps.mark_low; drain_low = w.keeps.drain_low };
    mark = w.mark;
    drain = w.drain;
    slot = w.slot;
    a = record { asked = w.a.asked; gives = w.a.gives; source_is = w.a.source_is; words = w.a.words; still = w.a.still; queues = w.a.queues; empty = w.a.empty; way = w.a.way; burst = w.a.burst; heard = w.a.heard };
    b = record { asked = w.b.asked; gives = w.b.gives; source_is = w.b.source_is; words = w.b.words; still = w.b.still; queues = w.b.queues; empty = w.b.empty; way = w.b.way; burst = w.b.burst; heard = w.b.heard };
  })

  pub got_so : (d : Duplex) (setting : Setting) → HasGot d setting s 0 [] [] [] [] → HasGot d setting (run_settings value) 0 [] [] [] []
  got_so d setting h = subst (λ (x : Settings). HasGot d setting x 0 [] [] [] []) same (record { at_a = h.at_a; at_b = h.at_b })

-- packets that are lent change no inbox
pub still_given : (old new : Duplex) → KeepsInboxes old new → IsGiven old → IsGiven new
still_given old new k h = (subst (λ (i : Inbox). NothingWaits i.reassembly) (sym k.inbox_a) h.0, subst (λ (i : Inbox). NothingWaits i.reassembly) (sym k.inbox_b) h.1)

pub still_got : (old new : Duplex) (setting : Setting) (s : Settings) → KeepsInboxes old new → HasGot old setting s 0 [] [] [] [] → HasGot new setting s 0 [] [] [] []
still_got old new setting s k h = record {
  at_a = subst (λ (i : Inbox). Gave i setting (take (0 - s.delay) []) []) (sym k.inbox_a) h.at_a;
  at_b = subst (λ (i : Inbox). Gave i setting (take (0 - s.delay) []) []) (sym k.inbox_b) h.at_b;
}

-- packets on listed channels are on those in order of number
pub on_order : (wide : Bool) (numbers channels : List ℕ) (packets : List (ℕ × List ℕ)) → fit_width wide numbers ≡ true → channels ≡ channels_in_order numbers → AreOn numbers packets → AreOn channels packets
on_order wide numbers channels packets small is on = subst (λ (cs : List ℕ). AreOn cs packets) (sym is) (λ k d lt. in_order wide numbers _ small (on k d lt))

pub has_room : (n : ℕ) → n ≤ capture_limit → 0 + n < 2 ^ 40
has_room n h = omega arith

pub is_loaded : (r : DuplexReading) (s : Settings) (shape : Shape) (channels entries : List ℕ) (longest : ℕ) (wide : Bool) (old new : Duplex) (of_a of_b : List (ℕ × List ℕ)) → s.delay ≡ r.settings.delay → s.mark ≡ r.settings.mark → s.drain ≡ r.settings.drain
    → IsShapeOf r.plan shape → channels ≡ channels_in_order (numbers_in r.plan) → entries ≡ r.plan.entries → longest ≡ r.plan.settings.max_packet → wide ≡ r.plan.wide → longest ≤ longest_packet → of_a ≡ r.packets_of_a → of_b ≡ r.packets_of_b
    → Waits new s (all_added (all_added (empty_ends shape channels entries) A of_a) B of_b) → KeepsInboxes old new → IsGiven old → ((setting : Setting) → reassembly.IsSettingOf setting channels longest wide → HasGot old setting s 0 [] [] [] []) → AreOfBytes of_a → AreOfBytes of_b → IsLoaded r new
is_loaded r s shape channels entries longest wide old new of_a of_b delay mark drain shaped order calendar most width within same_a same_b waits keeps given got bytes_a bytes_b = record {
  ends = all_added (all_added (empty_ends shape channels entries) A of_a) B of_b;
  are = record {
    a = record { shape = shaped; channels = order; entries = calendar; packets = same_a; flow = refl; local = refl };
    b = record { shape = shaped; channels = order; entries = calendar; packets = same_b; flow = refl; local = refl };
  };
  waits = waits_so s r.settings delay mark drain new _ waits;
  given = still_given old new keeps given;
  got = λ setting is.
      got_so s r.settings delay mark drain new setting
      (still_got old new setting s keeps (got setting (lists_channels setting channels longest wide (record { listed = is.channels ∙ sym order; longest = is.max_packet ∙ sym most; width = is.wide ∙ sym width }))));
  fits = subst (λ n. n ≤ longest_packet) most within;
  bytes_of_a = subst AreOfBytes same_a bytes_a;
  bytes_of_b = subst AreOfBytes same_b bytes_b;
}
