-- What is left of a capture after a packet: any bound that is above the bytes gives the same.
use Rattle.std.proofs.Common.{◌≡◌, ◌≢◌, ℕ, zero, suc, ◌+◌, ◌<◌, Bool, true, false, cond, List, length, Option, Some, None, Result, Ok, Err, refl, ap, arith, add-one}
use Rattle.std.proofs.lemmas.Bool.{eqb-false}
use Rattle.std.proofs.lemmas.List.{length-drop}
use Rattle.pcap_files.specs.declared.error.PcapError.{PcapError}
use Rattle.pcap_files.specs.Capture.{Place, Packets, packet_at, packets_by, packets_within, packets_from, behind, with_packet, nothing, refused}

not_first : (b : Bool) (packet : List ℕ) (r : Result (Option (List ℕ)) PcapError) → cond b (Ok None) r ≡ Ok (Some packet) → b ≡ false
not_first true packet r e = absurd cc
not_first false packet r e = refl

-- a record has bytes
pub has_bytes : (p : Place) (packet : List ℕ) → packet_at p ≡ Ok (Some packet) → 0 < length p.rest
unfolding packet_at
has_bytes p packet h =
    let ne : length p.rest ≢ 0 = eqb-false (length p.rest) 0 (not_first _ packet _ h) in
    omega arith

-- less is left after a record
pub shorter : (p : Place) (packet : List ℕ) → packet_at p ≡ Ok (Some packet) → length (behind p (length packet)).rest < length p.rest
shorter p packet h = let has = has_bytes p packet h in simp length-drop (omega arith)

-- two ways on that agree after the packet of a place
agree : (f g : ℕ → Packets) (p : Place) (r : Result (Option (List ℕ)) PcapError) → packet_at p ≡ r → ((packet : List ℕ) → packet_at p ≡ Ok (Some packet) → f (length packet) ≡ g (length packet)) → packets_by f r ≡ packets_by g r
agree f g p (Ok None) e h = refl
agree f g p (Ok (Some packet)) e h = ap (with_packet packet) (h packet e)
agree f g p (Err x) e h = refl

within_enough : (n m : ℕ) (p : Place) → length p.rest < n → length p.rest < m → packets_within n p ≡ packets_within m p
unfolding packets_within
within_enough zero m p a b = absurd (omega arith)
within_enough (suc n) zero p a b = absurd (omega arith)
within_enough (suc n) (suc m) p a b =
    agree (λ size. packets_within n (behind p size)) (λ size. packets_within m (behind p size)) p (packet_at p) refl
    (λ packet e. let less = shorter p packet e in within_enough n m (behind p (length packet)) (omega arith) (omega arith))

-- a place with a packet
pub from-some : (p : Place) (packet : List ℕ) → packet_at p ≡ Ok (Some packet) → packets_from p ≡ with_packet packet (packets_from (behind p (length packet)))
unfolding packets_within
from-some p packet e =
    let less = shorter p packet e in
    rw (add-one (length p.rest), e) (ap (with_packet packet) (within_enough (length p.rest) (length (behind p (length packet)).rest + 1) (behind p (length packet)) (omega arith) (omega arith)))

-- a place at the end
pub from-none : (p : Place) → packet_at p ≡ Ok None → packets_from p ≡ nothing
unfolding packets_within
from-none p e = rw (add-one (length p.rest), e) refl

-- a place with a refusal
pub from-err : (p : Place) (x : PcapError) → packet_at p ≡ Err x → packets_from p ≡ refused x
unfolding packets_within
from-err p x e = rw (add-one (length p.rest), e) refl
