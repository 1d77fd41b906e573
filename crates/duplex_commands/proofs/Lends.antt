-- Packets that are lent to a run, one after the other.
use Rattle.std.proofs.Common.{◌≡◌, ℕ, ◌+◌, ◌<◌, ◌≤◌, ◌^◌, List, [], ◌∷◌, ◌++◌, length, take, drop, get_or, refl, sym, ap, ◌∙◌, subst, append_assoc, append-nil, arith, All, Contains}
use Rattle.std.specs.List.{sum_by}
use Rattle.std.proofs.lemmas.Grind.{flat_map-append}
use Rattle.std.proofs.lemmas.List.{length-map, get_or-map, take_more, take_all, take-append-drop}
use Rattle.std.proofs.lemmas.List.Concat.{get_or-flat_map}
use Rattle.std.proofs.lemmas.List.Elements.{All-append, All-cons, All-nil}
use Rattle.std.proofs.lemmas.List.Folds.{length-flat_map-take}
use Rattle.std.proofs.lemmas.List.Sums.{sum_by-append, sum_by-take-le}
use Rattle.duplex_model.specs.DuplexRun.{Settings, Ends}
use Rattle.duplex.specs.Duplexes.{Waits, KeepsInboxes, packet_added, packets_of}
use Rattle.duplex.specs.declared.duplex.Duplex.{Duplex}
use Rattle.duplex.specs.declared.duplex.End.{End}
use Rattle.duplex.specs.declared.duplex.End.TheVariants.{A, B}
use Rattle.plan_inputs.specs.Inputs.{on_channel}
use Rattle.plan_inputs.specs.Values.{packet_values, size_of, AreOn}
use Rattle.plan_inputs.specs.Values as values
use Rattle.plan_inputs.specs.declared.channel_packets.CapturePackets.{CapturePackets}
use Rattle.duplex_commands.specs.Loaded.{all_added}
use Rattle.duplex_commands.specs.Run.{AreOfBytes}

abbrev pub Packets : Type 0
Packets = List (ℕ × List ℕ)

abbrev IsOfBytes : ℕ × List ℕ → Type 0
IsOfBytes p = All (λ byte. byte < 256) p.1

-- ---- packets of an end

pub added_channels : (ends : Ends) (end : End) (packets : Packets) → (all_added ends end packets).channels ≡ ends.channels
added_channels ends A packets = refl
added_channels ends B packets = refl

added_packets : (ends : Ends) (end : End) (packets : Packets) → packets_of (all_added ends end packets) end ≡ packets_of ends end ++ packets
added_packets ends A packets = refl
added_packets ends B packets = refl

pub none_added : (ends : Ends) (end : End) → all_added ends end [] ≡ ends
none_added ends A = ap (λ (ps : Packets). record ends { packets_of_a = ps }) (append-nil ends.packets_of_a)
none_added ends B = ap (λ (ps : Packets). record ends { packets_of_b = ps }) (append-nil ends.packets_of_b)

one_added : (ends : Ends) (end : End) (packets : Packets) (channel : ℕ) (bytes : List ℕ) → packet_added (all_added ends end packets) end channel bytes ≡ all_added ends end (packets ++ (channel, bytes) ∷ [])
one_added ends A packets channel bytes = ap (λ (ps : Packets). record ends { packets_of_a = ps }) (append_assoc ends.packets_of_a packets ((channel, bytes) ∷ []))
one_added ends B packets channel bytes = ap (λ (ps : Packets). record ends { packets_of_b = ps }) (append_assoc ends.packets_of_b packets ((channel, bytes) ∷ []))

both_added : (ends : Ends) (end : End) (packets more : Packets) → all_added (all_added ends end packets) end more ≡ all_added ends end (packets ++ more)
both_added ends A packets more = ap (λ (ps : Packets). record ends { packets_of_a = ps }) (append_assoc ends.packets_of_a packets more)
both_added ends B packets more = ap (λ (ps : Packets). record ends { packets_of_b = ps }) (append_assoc ends.packets_of_b packets more)

added_size : (ends : Ends) (end : End) (packets : Packets) → size_of (packets_of (all_added ends end packets) end) ≡ size_of (packets_of ends end) + size_of packets
added_size ends end packets = ap size_of (added_packets ends end packets) ∙ sum_by-append (λ (p : ℕ × List ℕ). length p.1) (packets_of ends end) packets

pub keeps_both : (x y z : Duplex) → KeepsInboxes x y → KeepsInboxes y z → KeepsInboxes x z
keeps_both x y z h k = record { inbox_a = k.inbox_a ∙ h.inbox_a; inbox_b = k.inbox_b ∙ h.inbox_b }

-- ---- the packets of a capture

module _ (ends : Ends) (end : End) (channel : ℕ) (packets : List (List ℕ)) (k : ℕ) (lt : k < length packets) where
  abbrev all : Packets
  all = on_channel channel packets

  within : k < length all
  within = let e : length all ≡ length packets = length-map packets (λ (packet : List ℕ). (channel, packet)) in omega (arith, lt, e)

  one_at : get_or all k (channel, []) ≡ (channel, get_or packets k [])
  one_at = get_or-map (λ (packet : List ℕ). (channel, packet)) packets k [] (channel, []) lt

  pub its_channel : AreOn ends.channels all → Contains (all_added ends end (take k all)).channels channel
  its_channel on =
      subst (λ cs. Contains cs channel) (sym (added_channels ends end (take k all)))
      (subst (λ (p : ℕ × List ℕ). Contains ends.channels p.0) one_at (on k (channel, []) within))

  pub room_left : size_of (packets_of ends end) + size_of all < 2 ^ 40 → sum_by (λ (p : ℕ × List ℕ). length p.1) (packets_of (all_added ends end (take k all)) end) < 2 ^ 40
  room_left h =
      let size = added_size ends end (take k all) in
      let less = sum_by-take-le (λ (p : ℕ × List ℕ). length p.1) all k in
      low (size_of (packets_of (all_added ends end (take k all)) end)) (size_of (packets_of ends end)) (size_of (take k all)) (size_of all) size less h
    where
      low : (x a t n : ℕ) → x ≡ a + t → t ≤ n → a + n < 2 ^ 40 → x < 2 ^ 40
      low x a t n e l h = omega arith

  pub next_added : (d : Duplex) (settings : Settings) (bytes : List ℕ) → bytes ≡ get_or packets k [] → Waits d settings (packet_added (all_added ends end (take k all)) end channel bytes) → Waits d settings (all_added ends end (take (k + 1) all))
  next_added d settings bytes is w =
      let last : take k all ++ (channel, bytes) ∷ [] ≡ take (k + 1) all =
      ap (λ (p : ℕ × List ℕ). take k all ++ p ∷ []) (ap (λ (b : List ℕ). (channel, b)) is ∙ sym one_at) ∙ sym (take_more all k (channel, []) within) in
      subst (λ (e : Ends). Waits d settings e) (one_added ends end (take k all) channel bytes ∙ ap (all_added ends end) last) w

-- the loop over them is done
pub all_lent : (d : Duplex) (settings : Settings) (ends : Ends) (end : End) (channel : ℕ) (packets : List (List ℕ)) (k : ℕ) → length packets ≤ k → Waits d settings (all_added ends end (take k (on_channel channel packets))) → Waits d settings (all_added ends end (on_channel channel packets))
all_lent d settings ends end channel packets k le w =
    let e : length (on_channel channel packets) ≡ length packets = length-map packets (λ (packet : List ℕ). (channel, packet)) in
    subst (λ (ps : Packets). Waits d settings (all_added ends end ps)) (take_all k (on_channel channel packets) (omega (arith, le, e))) w

-- ---- the captures of an end

abbrev pub capture_values : CapturePackets → Packets
capture_values c = on_channel c.channel (values.packets_of c)

next_values : (captures : List CapturePackets) (i : ℕ) (capture : CapturePackets) → i < length captures → capture ≡ get_or captures i capture → packet_values (take i captures) ++ capture_values capture ≡ packet_values (take (i + 1) captures)
next_values captures i capture lt is =
    ap (λ (c : CapturePackets). packet_values (take i captures) ++ capture_values c) is
    ∙ sym (ap packet_values (take_more captures i capture lt) ∙ flat_map-append capture_values (take i captures) (get_or captures i capture ∷ [])
    ∙ ap (λ (ps : Packets). packet_values (take i captures) ++ ps) (append-nil (capture_values (get_or captures i capture))))

module _ (ends : Ends) (end : End) (captures : List CapturePackets) (i : ℕ) (capture : CapturePackets) (lt : i < length captures) (is : capture ≡ get_or captures i capture) where
  pub these_on : AreOn ends.channels (packet_values captures) → AreOn (all_added ends end (packet_values (take i captures))).channels (capture_values capture)
  these_on on j d below =
      let here : j < length (capture_values (get_or captures i capture)) = subst (λ (c : CapturePackets). j < length (capture_values c)) is below in
      let at = get_or-flat_map capture_values captures i j capture d lt here in
      let most = length-flat_map-take capture_values captures i capture lt in
      let inside : length (packet_values (take i captures)) + j < length (packet_values captures) = omega (arith, here, most) in
      subst (λ cs. Contains cs (get_or (capture_values capture) j d).0) (sym (added_channels ends end (packet_values (take i captures))))
      (subst (λ (c : CapturePackets). Contains ends.channels (get_or (capture_values c) j d).0) (sym is)
      (subst (λ (p : ℕ × List ℕ). Contains ends.channels p.0) at (on (length (packet_values (take i captures)) + j) d inside)))

  pub these_fit : size_of (packets_of ends end) + size_of (packet_values captures) < 2 ^ 40 → size_of (packets_of (all_added ends end (packet_values (take i captures))) end) + size_of (capture_values capture) < 2 ^ 40
  these_fit h =
      let front = added_size ends end (packet_values (take i captures)) in
      let both = sum_by-append (λ (p : ℕ × List ℕ). length p.1) (packet_values (take i captures)) (capture_values capture) in
      let same : size_of (packet_values (take i captures) ++ capture_values capture) ≡ size_of (packet_values (take (i + 1) captures)) = ap size_of (next_values captures i capture lt is) in
      let less = take_less (i + 1) captures in
      low _ _ _ _ _ _ front (sym both ∙ same) less h
    where
      take_less : (n : ℕ) (cs : List CapturePackets) → size_of (packet_values (take n cs)) ≤ size_of (packet_values cs)
      take_less n cs =
          let whole = sum_by-append (λ (p : ℕ × List ℕ). length p.1) (packet_values (take n cs)) (packet_values (drop n cs)) in
          let parts : packet_values (take n cs) ++ packet_values (drop n cs) ≡ packet_values cs = sym (flat_map-append capture_values (take n cs) (drop n cs)) ∙ ap packet_values (take-append-drop n cs) in
          let e : size_of (packet_values (take n cs) ++ packet_values (drop n cs)) ≡ size_of (packet_values cs) = ap size_of parts in
          omega (arith, whole, e)

      low : (x a t c u n : ℕ) → x ≡ a + t → t + c ≡ u → u ≤ n → a + n < 2 ^ 40 → x + c < 2 ^ 40
      low x a t c u n e f l h = omega arith

  pub these_added : (d : Duplex) (settings : Settings) → Waits d settings (all_added (all_added ends end (packet_values (take i captures))) end (capture_values capture)) → Waits d settings (all_added ends end (packet_values (take (i + 1) captures)))
  these_added d settings w = subst (λ (e : Ends). Waits d settings e) (both_added ends end (packet_values (take i captures)) (capture_values capture) ∙ ap (all_added ends end) (next_values captures i capture lt is)) w

-- the loop over them is done
pub all_captures : (d : Duplex) (settings : Settings) (ends : Ends) (end : End) (captures : List CapturePackets) (i : ℕ) → length captures ≤ i → Waits d settings (all_added ends end (packet_values (take i captures))) → Waits d settings (all_added ends end (packet_values captures))
all_captures d settings ends end captures i le w = subst (λ (cs : List CapturePackets). Waits d settings (all_added ends end (packet_values cs))) (take_all i captures le) w

-- ---- what is lent is bytes

pub next_of_bytes : (channel : ℕ) (packets : List (List ℕ)) (k : ℕ) → k < length packets → (bytes : List ℕ) → bytes ≡ get_or packets k [] → All (λ byte. byte < 256) bytes → AreOfBytes (take k (on_channel channel packets)) → AreOfBytes (take (k + 1) (on_channel channel packets))
next_of_bytes channel packets k lt bytes is small before =
    let every : Packets = on_channel channel packets in
    let many : length every ≡ length packets = length-map packets (λ (packet : List ℕ). (channel, packet)) in
    let within : k < length every = omega (arith, lt, many) in
    let at : get_or every k (channel, []) ≡ (channel, get_or packets k []) = get_or-map (λ (packet : List ℕ). (channel, packet)) packets k [] (channel, []) lt in
    let last : take k every ++ (channel, bytes) ∷ [] ≡ take (k + 1) every =
    ap (λ (p : ℕ × List ℕ). take k every ++ p ∷ []) (ap (λ (b : List ℕ). (channel, b)) is ∙ sym at) ∙ sym (take_more every k (channel, []) within) in
    subst AreOfBytes last (All-append IsOfBytes (take k every) ((channel, bytes) ∷ []) before (All-cons IsOfBytes (channel, bytes) [] small (All-nil IsOfBytes)))

pub all_of_bytes : (channel : ℕ) (packets : List (List ℕ)) (k : ℕ) → length packets ≤ k → AreOfBytes (take k (on_channel channel packets)) → AreOfBytes (on_channel channel packets)
all_of_bytes channel packets k le h =
    let e : length (on_channel channel packets) ≡ length packets = length-map packets (λ (packet : List ℕ). (channel, packet)) in
    subst AreOfBytes (take_all k (on_channel channel packets) (omega (arith, le, e))) h

pub these_of_bytes : (captures : List CapturePackets) (i : ℕ) (capture : CapturePackets) → i < length captures → capture ≡ get_or captures i capture → AreOfBytes (packet_values (take i captures)) → AreOfBytes (capture_values capture) → AreOfBytes (packet_values (take (i + 1) captures))
these_of_bytes captures i capture lt is before these =
    subst AreOfBytes (next_values captures i capture lt is) (All-append IsOfBytes (packet_values (take i captures)) (capture_values capture) before these)

pub captures_of_bytes : (captures : List CapturePackets) (i : ℕ) → length captures ≤ i → AreOfBytes (packet_values (take i captures)) → AreOfBytes (packet_values captures)
captures_of_bytes captures i le h = subst (λ (cs : List CapturePackets). AreOfBytes (packet_values cs)) (take_all i captures le) h
