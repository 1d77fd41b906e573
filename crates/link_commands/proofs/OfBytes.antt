-- The packets of captures are bytes, which the captures are.
use Rattle.std.proofs.Common.{◌≡◌, ℕ, ◌+◌, ◌<◌, ◌≤◌, List, [], ◌∷◌, ◌++◌, length, take, drop, get_or, sym, ap, ◌∙◌, subst, append-nil, arith, All}
use Rattle.std.proofs.lemmas.Grind.{flat_map-append}
use Rattle.std.proofs.lemmas.List.{get_or_default, take_all, take_more}
use Rattle.std.proofs.lemmas.List.Elements.{All-append, All-drop, All-map, All-nil, All-take}
use Rattle.pcap_files.specs.Places.{bytes_at}
use Rattle.plan_inputs.specs.Inputs.{on_channel}
use Rattle.plan_inputs.specs.Values.{packet_values, packets_of}
use Rattle.plan_inputs.specs.declared.channel_packets.CapturePackets.{CapturePackets}

abbrev pub IsOfBytes : ℕ × List ℕ → Type 0
IsOfBytes p = All (λ byte. byte < 256) p.1

abbrev capture_values : CapturePackets → List (ℕ × List ℕ)
capture_values c = on_channel c.channel (packets_of c)

pub small_bytes : (bytes : List ℕ) → ((i : ℕ) → get_or bytes i 0 < 256) → All (λ byte. byte < 256) bytes
small_bytes bytes small k d lt = let e = get_or_default bytes k 0 d lt in let h = small k in omega (arith, e, h)

pub cut_bytes : (c : CapturePackets) (bytes : List ℕ) → bytes ≡ c.bytes.items → All (λ byte. byte < 256) bytes → All IsOfBytes (capture_values c)
cut_bytes c bytes is small =
    let all : All (λ byte. byte < 256) c.bytes.items = subst (λ (bs : List ℕ). All (λ byte. byte < 256) bs) is small in
    All-map IsOfBytes (λ (packet : List ℕ). (c.channel, packet)) (packets_of c)
    (All-map (λ (packet : List ℕ). All (λ byte. byte < 256) packet) (bytes_at c.bytes.items) c.places.items
    (λ k d lt. let place = get_or c.places.items k d in All-take (λ byte. byte < 256) place.size (drop place.start c.bytes.items) (All-drop (λ byte. byte < 256) place.start c.bytes.items all)))

pub none_of_bytes : All IsOfBytes (packet_values [])
none_of_bytes = All-nil IsOfBytes

pub these_of_bytes : (captures : List CapturePackets) (i : ℕ) (capture : CapturePackets) → i < length captures → capture ≡ get_or captures i capture →
    All IsOfBytes (packet_values (take i captures)) → All IsOfBytes (capture_values capture) → All IsOfBytes (packet_values (take (i + 1) captures))
these_of_bytes captures i capture lt is before these =
    let next : packet_values (take i captures) ++ capture_values capture ≡ packet_values (take (i + 1) captures) =
    ap (λ (c : CapturePackets). packet_values (take i captures) ++ capture_values c) is
    ∙ sym (ap packet_values (take_more captures i capture lt) ∙ flat_map-append capture_values (take i captures) (get_or captures i capture ∷ [])
    ∙ ap (λ (ps : List (ℕ × List ℕ)). packet_values (take i captures) ++ ps) (append-nil (capture_values (get_or captures i capture)))) in
    subst (All IsOfBytes) next (All-append IsOfBytes (packet_values (take i captures)) (capture_values capture) before these)

pub all_of_bytes : (captures : List CapturePackets) (i : ℕ) → length captures ≤ i → All IsOfBytes (packet_values (take i captures)) → All IsOfBytes (packet_values captures)
all_of_bytes captures i le h = subst (λ (cs : List CapturePackets). All IsOfBytes (packet_values cs)) (take_all i captures le) h
