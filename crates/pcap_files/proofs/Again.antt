-- What is written is read again.
use Rattle.std.proofs.Common.{◌≡◌, ◌≢◌, ℕ, ◌+◌, ◌-◌, ◌<◌, ◌≤◌, ◌^◌, List, [], ◌∷◌, ◌++◌, length, take, drop, Some, None, Ok, refl, sym, ap, ◌∙◌, arith, length-append}
use Rattle.std.proofs.lemmas.Bool.{le-ltb, ne_eqb}
use Rattle.std.proofs.Math.Seq.{take-append_seam, drop-append_seam}
use Rattle.std.proofs.lemmas.List.{drop-drop}
use Rattle.std.proofs.lemmas.List.Sums.{sum_by-cons}
use Rattle.pcap_files.specs.Records.{space_of}
use Rattle.std.proofs.lemmas.List.Concat.{flat_map-cons}
use Rattle.std.specs.List.{flat_map, AllByRecursion}
use Rattle.byteorder.specs.Endian.{little_bytes}
use Rattle.byteorder.specs.Numbers.{little_number-reads_back}
use Rattle.pcap_files.specs.declared.order.Order.TheVariants.{Little}
use Rattle.pcap_files.specs.Numbers.{number}
use Rattle.pcap_files.specs.Written.{Fits, header_bytes, record_head, record_bytes, capture_bytes}
use Rattle.pcap_files.specs.Capture.{Place, header_of, packet_at, size_at, packets_from, behind, with_packet, first_place, reading_of, packets_behind}
use Rattle.pcap_files.proofs.Left.{from-some, from-none}

-- the bytes of a header, one by one, and what follows
cells : ℕ → List ℕ → List ℕ
cells l rest = 0xD4 ∷ 0xC3 ∷ 0xB2 ∷ 0xA1 ∷ 2 ∷ 0 ∷ 4 ∷ 0 ∷ 0 ∷ 0 ∷ 0 ∷ 0 ∷ 0 ∷ 0 ∷ 0 ∷ 0 ∷ 0 ∷ 0 ∷ 4 ∷ 0 ∷ (little_bytes 4 l ++ rest)

header-cells : (l : ℕ) (rest : List ℕ) → header_bytes l ++ rest ≡ cells l rest
unfolding header_bytes cells
header-cells l rest = refl

header-read : (l : ℕ) (rest : List ℕ) → header_of (cells l rest) ≡ Ok Little
unfolding header_of cells number
header-read l rest =
    let n : 24 ≤ length (cells l rest) = omega arith in
    rw (le-ltb (length (cells l rest)) 4 (omega arith), le-ltb (length (cells l rest)) 24 n) refl

-- ---- a record

-- a record of a packet and what follows, one cell after the other
record_cells : ℕ → List ℕ → List ℕ
record_cells n rest = 0 ∷ 0 ∷ 0 ∷ 0 ∷ 0 ∷ 0 ∷ 0 ∷ 0 ∷ (little_bytes 4 n ++ (little_bytes 4 n ++ rest))

record-cells : (packet more : List ℕ) → record_bytes packet ++ more ≡ record_cells (length packet) (packet ++ more)
unfolding record_head record_cells
record-cells packet more = refl

at : ℕ → ℕ → ℕ → List ℕ → Place
at most n o rest = record { order = Little; most = most; number = n; offset = o; rest = rest }

size-read : (most k o n : ℕ) (rest : List ℕ) → n < 2 ^ 32 → size_at (at most k o (record_cells n rest)) ≡ n
unfolding number record_cells at
size-read most k o n rest h = little_number-reads_back 4 n (little_bytes 4 n ++ rest) h

length-cells : (n : ℕ) (rest : List ℕ) → length (record_cells n rest) ≡ 16 + length rest
unfolding record_cells
length-cells n rest = omega arith

drop-cells : (n : ℕ) (rest : List ℕ) → drop 16 (record_cells n rest) ≡ rest
unfolding record_cells
drop-cells n rest = refl

packet-ok : (p : Place) (packet : List ℕ) → 16 + length packet ≤ length p.rest → size_at p ≡ length packet → 1 ≤ length packet → length packet ≤ p.most → take (length packet) (drop 16 p.rest) ≡ packet → packet_at p ≡ Ok (Some packet)
unfolding packet_at
packet-ok p packet long size least largest part =
    let some : length p.rest ≢ 0 = omega arith in
    let full : length packet ≢ 0 = omega arith in
    rw (ne_eqb (length p.rest) 0 some, le-ltb (length p.rest) 16 (omega arith), size, ne_eqb (length packet) 0 full, le-ltb p.most (length packet) largest, le-ltb (length p.rest - 16) (length packet) (omega arith), part) refl

packet-read : (most k o : ℕ) (packet more : List ℕ) → 1 ≤ length packet → length packet ≤ most → length packet < 2 ^ 32 → packet_at (at most k o (record_cells (length packet) (packet ++ more))) ≡ Ok (Some packet)
unfolding at
packet-read most k o packet more least largest fits =
    let n = length-cells (length packet) (packet ++ more) in
    let m = length-append packet more in
    let long : 16 + length packet ≤ length (record_cells (length packet) (packet ++ more)) = omega arith in
    packet-ok (at most k o (record_cells (length packet) (packet ++ more))) packet long (size-read most k o (length packet) (packet ++ more) fits) least largest
    (ap (take (length packet)) (drop-cells (length packet) (packet ++ more)) ∙ take-append_seam packet more)

drop-more : (n : ℕ) (packet more : List ℕ) → drop (16 + length packet) (record_cells n (packet ++ more)) ≡ more
drop-more n packet more = sym (drop-drop (length packet) 16 (record_cells n (packet ++ more))) ∙ ap (drop (length packet)) (drop-cells n (packet ++ more)) ∙ drop-append_seam packet more

packet-none : (most k o : ℕ) → packet_at (at most k o []) ≡ Ok None
unfolding packet_at at
packet-none most k o = refl

behind-at : (most k o n : ℕ) (packet more : List ℕ) → n ≡ length packet → behind (at most k o (record_cells n (packet ++ more))) n ≡ at most (k + 1) (o + (16 + n)) more
unfolding at
behind-at most k o n packet more e = ap (λ (rest : List ℕ). at most (k + 1) (o + (16 + n)) rest) (ap (λ (m : ℕ). drop (16 + m) (record_cells n (packet ++ more))) e ∙ drop-more n packet more)

first-at : (most l : ℕ) (rest : List ℕ) → first_place most (cells l rest) Little ≡ at most 0 24 rest
unfolding at cells
first-at most l rest = refl

records-read : (most k o : ℕ) (packets : List (List ℕ)) → AllByRecursion (Fits most) packets → packets_from (at most k o (flat_map record_bytes packets)) ≡ record { packets = packets; refusal = None }
records-read most k o [] h = from-none (at most k o []) (packet-none most k o)
records-read most k o (p ∷ ps) h =
    let cells : flat_map record_bytes (p ∷ ps) ≡ record_cells (length p) (p ++ flat_map record_bytes ps) = flat_map-cons record_bytes p ps ∙ record-cells p (flat_map record_bytes ps) in
    let first = from-some (at most k o (record_cells (length p) (p ++ flat_map record_bytes ps))) p (packet-read most k o p (flat_map record_bytes ps) h.0.within.least h.0.within.largest h.0.fits) in
    let rest = records-read most (k + 1) (o + (16 + length p)) ps h.1 in
    ap (λ (bytes : List ℕ). packets_from (at most k o bytes)) cells ∙ first ∙ ap (with_packet p) (ap packets_from (behind-at most k o (length p) p (flat_map record_bytes ps) refl) ∙ rest)

-- a written capture is read as its packets
pub written-read : (link_type most : ℕ) (packets : List (List ℕ)) → AllByRecursion (Fits most) packets → reading_of (capture_bytes link_type packets) most ≡ record { packets = packets; refusal = None }
written-read link_type most packets h =
    ap (λ (bytes : List ℕ). reading_of bytes most) (header-cells link_type (flat_map record_bytes packets))
    ∙ ap (packets_behind most (cells link_type (flat_map record_bytes packets))) (header-read link_type (flat_map record_bytes packets))
    ∙ ap packets_from (first-at most link_type (flat_map record_bytes packets))
    ∙ records-read most 0 24 packets h

-- ---- how long it is

header-length : (l : ℕ) → length (header_bytes l) ≡ 24
unfolding header_bytes
header-length l = refl

record-length : (packet : List ℕ) → length (record_bytes packet) ≡ 16 + length packet
unfolding record_head
record-length packet = omega arith

records-length : (packets : List (List ℕ)) → length (flat_map record_bytes packets) ≡ space_of packets
records-length [] = refl
records-length (p ∷ ps) =
    let rest = records-length ps in
    let one = record-length p in
    let both = length-append (record_bytes p) (flat_map record_bytes ps) in
    let split = sum_by-cons (λ (packet : List ℕ). 16 + length packet) p ps in
    ap length (flat_map-cons record_bytes p ps) ∙ omega (arith, rest, one, both, split)

pub written-length : (link_type : ℕ) (packets : List (List ℕ)) → length (capture_bytes link_type packets) ≡ 24 + space_of packets
written-length link_type packets =
    let both = length-append (header_bytes link_type) (flat_map record_bytes packets) in
    let head = header-length link_type in
    let rest = records-length packets in
    omega (arith, both, head, rest)
