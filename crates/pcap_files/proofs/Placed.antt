-- Each packet stands after the head of its record.
use Rattle.std.proofs.Common.{◌≡◌, ℕ, zero, suc, ◌+◌, ◌≤◌, List, [], ◌∷◌, ◌++◌, length, map, take, drop, Some, Result, Ok, Err, IsOk, All, refl, sym, subst, ap, ap₂, ◌∙◌, arith, append_assoc}
use Rattle.std.proofs.lemmas.List.{append-nil, drop-drop, length-drop, length-take, map-append, take_min}
use Rattle.std.proofs.lemmas.List.Elements.{All-append}
use Rattle.std.proofs.lemmas.List.Sums.{sum_by_push}
use Rattle.pcap_files.specs.declared.order.Order.{Order}
use Rattle.pcap_files.specs.declared.error.PcapError.{PcapError}
use Rattle.pcap_files.specs.declared.place.PacketPlace.{PacketPlace}
use Rattle.pcap_files.specs.Capture.{Packets, packet_at, with_packet, nothing, header_of, reading_of, whole_by, capture_of}
use Rattle.pcap_files.specs.Places.{bytes_at, IsPlace}
use Rattle.pcap_files.specs.Records.{space_of, place_behind, IsWithin}
use Rattle.pcap_files.proofs.Sizes.{packet-at}
use Rattle.pcap_files.proofs.Stand.{records-stand}

-- a packet of a capture, after the records of these packets
record StandsBehind (most : ℕ) (bytes : List ℕ) (before : List (List ℕ)) (packet : List ℕ) : Type 0 where
  within : IsWithin most packet
  inside : 24 + space_of before + (16 + length packet) ≤ length bytes
  part : take (length packet) (drop (24 + space_of before + 16) bytes) ≡ packet

-- a part that was taken has its own length
own_length : (n : ℕ) (xs packet : List ℕ) → take n xs ≡ packet → take (length packet) xs ≡ packet
own_length n xs packet e =
    ap (λ (p : List ℕ). take (length p) xs) (sym e) ∙ ap (λ m. take m xs) (length-take n xs) ∙ take_min n xs ∙ e

of_record : (order : Order) (most : ℕ) (bytes : List ℕ) (before : List (List ℕ)) (packet : List ℕ) → packet_at (place_behind order most bytes before) ≡ Ok (Some packet) → StandsBehind most bytes before packet
of_record order most bytes before packet e =
    let p = packet-at (place_behind order most bytes before) packet e in
    let left = length-drop (24 + space_of before) bytes in
    let some = p.within.least in
    let space = p.space in
    record {
      within = p.within;
      inside = omega arith;
      part = subst (λ (xs : List ℕ). take (length packet) xs ≡ packet) (drop-drop 16 (24 + space_of before) bytes) (own_length _ (drop 16 (drop (24 + space_of before) bytes)) packet p.part);
    }

stands_behind : (bytes : List ℕ) (most : ℕ) (r : Result Order PcapError) (before : List (List ℕ)) (packet : List ℕ) (more : List (List ℕ)) → header_of bytes ≡ r → IsOk r → before ++ packet ∷ more ≡ (reading_of bytes most).packets → StandsBehind most bytes before packet
stands_behind bytes most (Ok order) before packet more h ok e = of_record order most bytes before packet ((records-stand bytes most order h).each before packet more (sym e))
stands_behind bytes most (Err x) before packet more h ok e = absurd cc

-- ---- one record after the other

-- the places of the packets before an offset, where this is left
pub record PlacedSoFar (bytes : List ℕ) (most : ℕ) (places : List PacketPlace) (offset : ℕ) (left : Packets) : Type 0 where
  pub header : IsOk (header_of bytes)
  pub packets : map (bytes_at bytes) places ++ left.packets ≡ (reading_of bytes most).packets
  pub refusal : left.refusal ≡ (reading_of bytes most).refusal
  pub offset_is : offset ≡ 24 + space_of (map (bytes_at bytes) places)
  pub placed : All (IsPlace most bytes) places

module _ (bytes : List ℕ) (most : ℕ) (places : List PacketPlace) (offset : ℕ) (old new : Packets) (packet : List ℕ) (so_far : PlacedSoFar bytes most places offset old) (is : old ≡ with_packet packet new) where
  next : StandsBehind most bytes (map (bytes_at bytes) places) packet
  next =
      stands_behind bytes most (header_of bytes) (map (bytes_at bytes) places) packet new.packets refl so_far.header
      (ap (λ (r : Packets). map (bytes_at bytes) places ++ r.packets) (sym is) ∙ so_far.packets)

  -- the next packet ends within the bytes
  pub next_inside : offset + (16 + length packet) ≤ length bytes
  next_inside = let inside = next.inside in let at = so_far.offset_is in omega arith

  module _ (place : PacketPlace) (start : place.start ≡ offset + 16) (size : place.size ≡ length packet) where
    is_packet : bytes_at bytes place ≡ packet
    is_packet = ap₂ (λ m n. take m (drop n bytes)) size (start ∙ ap (λ n. n + 16) so_far.offset_is) ∙ next.part

    is_place : IsPlace most bytes place
    is_place =
        let inside = next_inside in
        let least = next.within.least in
        let largest = next.within.largest in
        record { least = omega arith; largest = omega arith; inside = omega arith }

    more : map (bytes_at bytes) (places ++ place ∷ []) ≡ map (bytes_at bytes) places ++ packet ∷ []
    more = map-append (bytes_at bytes) places (place ∷ []) ∙ ap (λ (q : List ℕ). map (bytes_at bytes) places ++ q ∷ []) is_packet

    one : All (IsPlace most bytes) (place ∷ [])
    one zero d lt = is_place
    one (suc k) d lt = absurd (omega arith)

    -- with its place
    pub one_more : PlacedSoFar bytes most (places ++ place ∷ []) (place.start + place.size) new
    one_more =
        let push = sum_by_push (λ (p : List ℕ). 16 + length p) (map (bytes_at bytes) places) packet in
        let same : space_of (map (bytes_at bytes) (places ++ place ∷ [])) ≡ space_of (map (bytes_at bytes) places ++ packet ∷ []) = ap space_of more in
        let at = so_far.offset_is in
        record {
          header = so_far.header;
          packets =
              ap (λ (ps : List (List ℕ)). ps ++ new.packets) more ∙ append_assoc (map (bytes_at bytes) places) (packet ∷ []) new.packets
              ∙ ap (λ (r : Packets). map (bytes_at bytes) places ++ r.packets) (sym is) ∙ so_far.packets;
          refusal = ap (λ (r : Packets). r.refusal) (sym is) ∙ so_far.refusal;
          offset_is = omega (arith, push);
          placed = All-append (IsPlace most bytes) places (place ∷ []) so_far.placed one;
        }

-- with nothing left they are those of the whole capture
pub all_placed : (bytes : List ℕ) (most : ℕ) (places : List PacketPlace) (offset : ℕ) (left : Packets) → PlacedSoFar bytes most places offset left → left ≡ nothing → capture_of bytes most ≡ Ok (map (bytes_at bytes) places)
all_placed bytes most places offset left so_far none =
    ap₂ whole_by (sym so_far.packets ∙ ap (λ (r : Packets). map (bytes_at bytes) places ++ r.packets) none ∙ append-nil (map (bytes_at bytes) places))
    (sym so_far.refusal ∙ ap (λ (r : Packets). r.refusal) none)
