-- Each record stands where the packets before it end.
use Rattle.std.proofs.Common.{◌≡◌, ℕ, zero, suc, ◌+◌, ◌<◌, List, [], ◌∷◌, ◌++◌, length, drop, Option, Some, None, Result, Ok, Err, refl, sym, subst, ap, ◌∙◌, arith, length-append, append_assoc}
use Rattle.std.proofs.lemmas.List.{append-nil, drop-drop}
use Rattle.std.proofs.lemmas.List.Sums.{sum_by_push}
use Rattle.pcap_files.specs.declared.order.Order.{Order}
use Rattle.pcap_files.specs.declared.error.PcapError.{PcapError}
use Rattle.pcap_files.specs.Capture.{Place, Packets, packet_at, packets_by, packets_within, packets_from, behind, header_of, reading_of, packets_behind, first_place}
use Rattle.pcap_files.specs.Records.{space_of, place_behind, end_of, AreRecords}
use Rattle.pcap_files.proofs.Left.{shorter}

-- the place of record n at an offset
abbrev at : Order → ℕ → List ℕ → ℕ → ℕ → Place
at order most bytes n o = record { order = order; most = most; number = n; offset = o; rest = drop o bytes }

behind-at : (order : Order) (most : ℕ) (bytes : List ℕ) (n o size : ℕ) → behind (at order most bytes n o) size ≡ at order most bytes (n + 1) (o + (16 + size))
behind-at order most bytes n o size = ap (λ (rest : List ℕ). record { order = order; most = most; number = n + 1; offset = o + (16 + size); rest = rest }) (drop-drop (16 + size) o bytes)

behind-one : (order : Order) (most : ℕ) (bytes : List ℕ) (before : List (List ℕ)) (packet : List ℕ) → behind (place_behind order most bytes before) (length packet) ≡ place_behind order most bytes (before ++ packet ∷ [])
behind-one order most bytes before packet =
    let count : length before + 1 ≡ length (before ++ packet ∷ []) = sym (length-append before (packet ∷ [])) in
    let push = sum_by_push (λ (p : List ℕ). 16 + length p) before packet in
    let offset : 24 + space_of before + (16 + length packet) ≡ 24 + space_of (before ++ packet ∷ []) = omega (arith, push) in
    behind-at order most bytes (length before) (24 + space_of before) (length packet)
    ∙ ap (λ (n : ℕ). at order most bytes n (24 + space_of before + (16 + length packet))) count
    ∙ ap (at order most bytes (length (before ++ packet ∷ []))) offset

-- the records from a place on
record Stands (order : Order) (most : ℕ) (bytes : List ℕ) (before : List (List ℕ)) (r : Packets) : Type 0 where
  each : (next : List (List ℕ)) (packet : List ℕ) (more : List (List ℕ)) → r.packets ≡ next ++ packet ∷ more → packet_at (place_behind order most bytes (before ++ next)) ≡ Ok (Some packet)
  end : packet_at (place_behind order most bytes (before ++ r.packets)) ≡ end_of r.refusal

no_packet : (next : List (List ℕ)) (packet : List ℕ) (more : List (List ℕ)) {P : Type 0} → [] ≡ next ++ packet ∷ more → P
no_packet [] packet more e = absurd cc
no_packet (x ∷ next) packet more e = absurd cc

at-nil : (order : Order) (most : ℕ) (bytes : List ℕ) (before : List (List ℕ)) (r : Result (Option (List ℕ)) PcapError) → packet_at (place_behind order most bytes before) ≡ r → packet_at (place_behind order most bytes (before ++ [])) ≡ r
at-nil order most bytes before r e = ap (λ (b : List (List ℕ)). packet_at (place_behind order most bytes b)) (append-nil before) ∙ e

first-of : (x y : List ℕ) (xs ys : List (List ℕ)) → x ∷ xs ≡ y ∷ ys → x ≡ y
first-of x y xs ys e = cc

rest-of : (x y : List ℕ) (xs ys : List (List ℕ)) → x ∷ xs ≡ y ∷ ys → xs ≡ ys
rest-of x y xs ys e = cc

one-more : (order : Order) (most : ℕ) (bytes : List ℕ) (before : List (List ℕ)) (q : List ℕ) (r : Packets) → packet_at (place_behind order most bytes before) ≡ Ok (Some q) → Stands order most bytes (before ++ q ∷ []) r → (next : List (List ℕ)) (packet : List ℕ) (more : List (List ℕ)) → q ∷ r.packets ≡ next ++ packet ∷ more → packet_at (place_behind order most bytes (before ++ next)) ≡ Ok (Some packet)
one-more order most bytes before q r e h [] packet more eq = at-nil order most bytes before (Ok (Some packet)) (e ∙ ap (λ (p : List ℕ). Ok (Some p)) (first-of q packet r.packets more eq))
one-more order most bytes before q r e h (x ∷ next) packet more eq =
    let same : x ≡ q = sym (first-of q x r.packets (next ++ packet ∷ more) eq) in
    let whole : before ++ x ∷ next ≡ (before ++ q ∷ []) ++ next = ap (λ (y : List ℕ). before ++ y ∷ next) same ∙ sym (append_assoc before (q ∷ []) next) in
    ap (λ (b : List (List ℕ)). packet_at (place_behind order most bytes b)) whole
    ∙ h.each next packet more (rest-of q x r.packets (next ++ packet ∷ more) eq)

by_answer : (order : Order) (most : ℕ) (bytes : List ℕ) (before : List (List ℕ)) (f : ℕ → Packets) (r : Result (Option (List ℕ)) PcapError) → packet_at (place_behind order most bytes before) ≡ r → ((q : List ℕ) → packet_at (place_behind order most bytes before) ≡ Ok (Some q) → Stands order most bytes (before ++ q ∷ []) (f (length q))) → Stands order most bytes before (packets_by f r)
by_answer order most bytes before f (Ok None) e h = record { each = λ next packet more eq. no_packet next packet more eq; end = at-nil order most bytes before (Ok None) e }
by_answer order most bytes before f (Err x) e h = record { each = λ next packet more eq. no_packet next packet more eq; end = at-nil order most bytes before (Err x) e }
by_answer order most bytes before f (Ok (Some q)) e h = record {
  each = one-more order most bytes before q (f (length q)) e (h q e);
  end = ap (λ (b : List (List ℕ)). packet_at (place_behind order most bytes b)) (sym (append_assoc before (q ∷ []) (f (length q)).packets)) ∙ (h q e).end;
}

on : (n : ℕ) (order : Order) (most : ℕ) (bytes : List ℕ) (before : List (List ℕ)) (q : List ℕ) → length (place_behind order most bytes before).rest < suc n → packet_at (place_behind order most bytes before) ≡ Ok (Some q) → (length (place_behind order most bytes (before ++ q ∷ [])).rest < n → Stands order most bytes (before ++ q ∷ []) (packets_within n (place_behind order most bytes (before ++ q ∷ [])))) → Stands order most bytes (before ++ q ∷ []) (packets_within n (behind (place_behind order most bytes before) (length q)))
on n order most bytes before q enough e h =
    let less = shorter (place_behind order most bytes before) q e in
    let same = behind-one order most bytes before q in
    let fewer = ap (λ (p : Place). length p.rest) same in
    let few : length (place_behind order most bytes (before ++ q ∷ [])).rest < n = omega arith in
    subst (λ (p : Place). Stands order most bytes (before ++ q ∷ []) (packets_within n p)) (sym same) (h few)

stand : (n : ℕ) (order : Order) (most : ℕ) (bytes : List ℕ) (before : List (List ℕ)) → length (place_behind order most bytes before).rest < n → Stands order most bytes before (packets_within n (place_behind order most bytes before))
unfolding packets_within
stand zero order most bytes before enough = absurd (omega arith)
stand (suc n) order most bytes before enough = by_answer order most bytes before (λ size. packets_within n (behind (place_behind order most bytes before) size)) (packet_at (place_behind order most bytes before)) refl
    (λ q e. on n order most bytes before q enough e (λ few. stand n order most bytes (before ++ q ∷ []) few))

from_stands : (order : Order) (most : ℕ) (bytes : List ℕ) (r : Packets) → Stands order most bytes [] r → AreRecords order most bytes r
from_stands order most bytes r h = record { each = h.each; end = h.end }

pub records-stand : (bytes : List ℕ) (most : ℕ) (order : Order) → header_of bytes ≡ Ok order → AreRecords order most bytes (reading_of bytes most)
records-stand bytes most order e =
    subst (AreRecords order most bytes) (sym (ap (packets_behind most bytes) e))
    (from_stands order most bytes (packets_from (first_place most bytes order)) (stand (length (drop 24 bytes) + 1) order most bytes [] (omega arith)))
