use Rattle.std.proofs.Common.{◌≡◌, ◌+◌, ◌<◌, ◌^◌, ap, sym, subst, List, ℕ}
use Rattle.duplex_model.specs.DuplexRun.{Settings, Ends}
use Rattle.duplex.specs.Duplexes.{Waits, empty_ends}
use Rattle.duplex.specs.declared.duplex.Duplex.{Duplex}
use Rattle.duplex.specs.declared.duplex.End.TheVariants.{A, B}
use Rattle.plan_inputs.specs.Values.{packet_values, size_of, AreOn}
use Rattle.duplex_commands.specs.Loaded.{all_added}
use Rattle.duplex_commands.specs.Run.{AreOfBytes}
use Rattle.duplex_commands.proofs.Lends.{keeps_both}
use Rattle.duplex_commands.proofs.Loads.{has_room}
use Rattle.duplex_commands.proofs.lending.lend_both.Goals as goal

pub lend_all-requires : goal.lend_all-requires
lend_all-requires c =
    let (settings, shape, channels, entries, waits, fit) = c.requires in
    let same = ap packet_values c.deref.ensures.value in (
      settings,
      empty_ends shape channels entries,
      waits,
      subst (λ (ps : List (ℕ × List ℕ)). AreOn channels ps) (sym same) fit.on_a,
      subst (λ (ps : List (ℕ × List ℕ)). 0 + size_of ps < 2 ^ 40) (sym same) (has_room (size_of (packet_values c.args.inputs.now.packets_of_a.items)) fit.size_a),
    )

pub lend_all-requires-2 : goal.lend_all-requires-2
lend_all-requires-2 c =
    let (settings, shape, channels, entries, waits, fit) = c.requires in
    let same = ap packet_values c.deref-2.ensures.value in
    let ends = empty_ends shape channels entries in (
      settings,
      all_added ends A (packet_values c.deref.result.now),
      c.in_ok-lend_all.ensures.waits settings ends waits,
      subst (λ (ps : List (ℕ × List ℕ)). AreOn channels ps) (sym same) fit.on_b,
      subst (λ (ps : List (ℕ × List ℕ)). 0 + size_of ps < 2 ^ 40) (sym same) (has_room (size_of (packet_values c.args.inputs.now.packets_of_b.items)) fit.size_b),
    )

module _ (d : Duplex) (settings : Settings) (ends : Ends) (of_a in_a of_b in_b : List (ℕ × List ℕ)) (a : of_a ≡ in_a) (b : of_b ≡ in_b) where
  both_added : Waits d settings (all_added (all_added ends A of_a) B of_b) → Waits d settings (all_added (all_added ends A in_a) B in_b)
  both_added w =
      subst (λ (ps : List (ℕ × List ℕ)). Waits d settings (all_added (all_added ends A ps) B in_b)) a
      (subst (λ (ps : List (ℕ × List ℕ)). Waits d settings (all_added (all_added ends A of_a) B ps)) b w)

pub returns-clause-waits : goal.returns-clause-waits
returns-clause-waits c settings ends waits =
    both_added _ settings ends _ _ _ _ (ap packet_values c.deref.ensures.value) (ap packet_values c.deref-2.ensures.value)
    (c.in_ok-lend_all-2.ensures.waits settings (all_added ends A (packet_values c.deref.result.now)) (c.in_ok-lend_all.ensures.waits settings ends waits))

pub returns-clause-inboxes : goal.returns-clause-inboxes
returns-clause-inboxes c = keeps_both _ _ _ c.lend_all.ensures.inboxes c.lend_all-2.ensures.inboxes

pub returns-clause-bytes_of_a : goal.returns-clause-bytes_of_a
returns-clause-bytes_of_a c = subst AreOfBytes (ap packet_values c.deref.ensures.value) c.in_ok-lend_all.ensures.bytes

pub returns-clause-bytes_of_b : goal.returns-clause-bytes_of_b
returns-clause-bytes_of_b c = subst AreOfBytes (ap packet_values c.deref-2.ensures.value) c.in_ok-lend_all-2.ensures.bytes
