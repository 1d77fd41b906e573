use Rattle.std.proofs.Common.{◌≡◌, ℕ, List, [], ◌∷◌, ◌++◌, Option, Some, None, Ok, map, sym, ap, ◌∙◌}
use Rattle.std.proofs.lemmas.List.{append-nil}
use Rattle.pcap_files.specs.declared.error.PcapError.{PcapError}
use Rattle.pcap_files.specs.Capture.{Packets, answer_by, whole_by, reading_of, capture_of}
use Rattle.pcap_files.proofs.Sizes.{packets-within, records-whole}
use Rattle.pcap_files.proofs.capture.packets_of.Goals as goal

-- with nothing left, the packets so far are the whole
whole-of : (xs : List (List ℕ)) (left : List (List ℕ)) (end : Option PcapError) (r : Packets) → xs ++ left ≡ r.packets → end ≡ r.refusal → answer_by left end ≡ Ok None → whole_by r.packets r.refusal ≡ Ok xs
whole-of xs [] None r p e h = ap (whole_by r.packets) (sym e) ∙ ap (λ (ps : List (List ℕ)). Ok ps) (sym p ∙ append-nil xs)
whole-of xs [] (Some x) r p e h = absurd cc
whole-of xs (q ∷ left) end r p e h = absurd cc

accepted : (c : goal.In_default) → capture_of c.args.bytes.now c.args.most ≡ Ok (map (λ p. p.now) c.loop-packets.packets.items)
accepted c =
    whole-of (map (λ p. p.now) c.loop-packets.packets.items) c.loop-packets.reader.packets c.loop-packets.reader.refusal (reading_of c.args.bytes.now c.args.most)
    c.loop-packets.invariant.packets c.loop-packets.invariant.refusal (rw c.in_default.is at (c.in_ok-packet.ensures {u = tt}).answer)

pub returns-clause-within : goal.returns-clause-within
returns-clause-within c = packets-within c.args.bytes.now c.args.most _ (accepted c)

pub returns-clause-whole : goal.returns-clause-whole
returns-clause-whole c = records-whole c.args.bytes.now c.args.most _ (accepted c)
