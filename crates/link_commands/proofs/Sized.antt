-- The packets that were read have the lengths of packets, whatever the files hold.
use Rattle.std.proofs.Common.{◌≡◌, ℕ, ◌-◌, ◌<◌, ◌++◌, List, [], ◌∷◌, length, ap, subst, arith, All, Option, Some, None, Result, Ok, Err}
use Rattle.std.proofs.lemmas.List.Elements.{All-append, All-from_recursion, All-map}
use Rattle.lk_base.specs.Limits.{capture_limit}
use Rattle.lk_outside.specs.Files.{Files}
use Rattle.link_plan.specs.Plan.{Listed, PlanValue}
use Rattle.link_plan.specs.Timed.{flow_of, local_of}
use Rattle.link_plan.specs.Views.{numbers_in}
use Rattle.pcap_files.specs.Capture.{capture_of}
use Rattle.pcap_files.specs.Records.{IsWithin}
use Rattle.pcap_files.specs.declared.error.PcapError.{PcapError}
use Rattle.pcap_files.proofs.Sizes.{packets-within}
use Rattle.run_stops.specs.Reading.{Refusal, behind, bytes_in}
use Rattle.run_stops.proofs.Readings.{behind_ok}
use Rattle.plan_inputs.specs.Inputs.{Inputs, inputs_in, on_channel, packets_by, packets_in, packets_then, rows_in}
use Rattle.plan_inputs.proofs.PlanStream.{AreFit}

abbrev AreSized : ℕ → List (ℕ × List ℕ) → Type 0
AreSized most packets = All (λ (p : ℕ × List ℕ). IsWithin most p.1) packets

packets_by_ok : (name : List ℕ) (r : Result (List (List ℕ)) PcapError) (packets : List (List ℕ)) → packets_by name r ≡ Ok packets → r ≡ Ok packets
packets_by_ok name (Ok ps) packets e = let same : ps ≡ packets = cc in ap Ok same
packets_by_ok name (Err why) packets e = absurd cc

module _ (files : Files) (most : ℕ) where
  then_sized : (room channel : ℕ) (more : ℕ → Result (List (ℕ × List ℕ)) Refusal) (o : Option (List ℕ)) (packets : List (ℕ × List ℕ)) → ((left : ℕ) (rest : List (ℕ × List ℕ)) → more left ≡ Ok rest → AreSized most rest) → packets_then files most room channel more o ≡ Ok packets → AreSized most packets
  then_sized room channel more None packets h e = h room packets e
  then_sized room channel more (Some name) packets h e =
      let (bytes, had, next) = behind_ok (bytes_in files name room) (λ b. behind (packets_by name (capture_of b most)) (λ ps. behind (more (room - length b)) (λ rest. Ok (on_channel channel ps ++ rest)))) packets e in
      let (found, is, last) = behind_ok (packets_by name (capture_of bytes most)) (λ ps. behind (more (room - length bytes)) (λ rest. Ok (on_channel channel ps ++ rest))) packets next in
      let (rest, left, all) = behind_ok (more (room - length bytes)) (λ rest. Ok (on_channel channel found ++ rest)) packets last in
      let same : on_channel channel found ++ rest ≡ packets = cc in
      let sized = All-from_recursion (IsWithin most) found (packets-within bytes most found (packets_by_ok name (capture_of bytes most) found is)) in
      subst (AreSized most) same (All-append (λ (p : ℕ × List ℕ). IsWithin most p.1) (on_channel channel found) rest (All-map (λ (p : ℕ × List ℕ). IsWithin most p.1) (λ (packet : List ℕ). (channel, packet)) found sized) (h (room - length bytes) rest left))

  pub packets_sized : (room : ℕ) (cs : List Listed) (packets : List (ℕ × List ℕ)) → packets_in files most room cs ≡ Ok packets → AreSized most packets
  unfolding packets_in
  packets_sized room [] packets e = let same : [] ≡ packets = cc in subst (AreSized most) same (λ k d lt. absurd (omega (arith, lt)))
  packets_sized room (c ∷ cs) packets e = then_sized room c.number (λ left. packets_in files most left cs) c.capture packets (λ left rest f. packets_sized left cs rest f) e

-- packets of bytes with these lengths are packets
pub sized_fit : (most : ℕ) (packets : List (ℕ × List ℕ)) → AreSized most packets → All (λ (p : ℕ × List ℕ). All (λ byte. byte < 256) p.1) packets → AreFit most packets
sized_fit most packets sized bytes k d lt = let w = sized k d lt in record { some = w.least; fits = w.largest; bytes = bytes k d lt }

-- of all captures of a plan
pub inputs_fit : (files : Files) (plan : PlanValue) (inputs : Inputs) → inputs_in files plan ≡ Ok inputs → All (λ (p : ℕ × List ℕ). All (λ byte. byte < 256) p.1) inputs.packets → AreFit plan.settings.max_packet inputs.packets
unfolding inputs_in
inputs_fit files plan inputs e bytes =
    let (packets, had, next) = behind_ok (packets_in files plan.settings.max_packet capture_limit plan.channels) (λ ps. behind (rows_in files [] flow_of plan.flow) (λ flow. behind (rows_in files [] (local_of (numbers_in plan)) plan.local) (λ local. Ok (record { packets = ps; flow = flow; local = local })))) inputs e in
    let (flow, flowed, last) = behind_ok (rows_in files [] flow_of plan.flow) (λ flow. behind (rows_in files [] (local_of (numbers_in plan)) plan.local) (λ local. Ok (record { packets = packets; flow = flow; local = local }))) inputs next in
    let (local, told, all) = behind_ok (rows_in files [] (local_of (numbers_in plan)) plan.local) (λ local. Ok (record { packets = packets; flow = flow; local = local })) inputs last in
    let same : record { packets = packets; flow = flow; local = local } ≡ inputs = cc in
    sized_fit plan.settings.max_packet inputs.packets (subst (λ (i : Inputs). AreSized plan.settings.max_packet i.packets) same (packets_sized files plan.settings.max_packet capture_limit plan.channels packets had)) bytes
