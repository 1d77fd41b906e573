-- The packets of an accepted capture are within their limits, and their records fill it.
use Rattle.std.proofs.Common.{◌≡◌, ℕ, zero, suc, ◌+◌, ◌-◌, ◌<◌, ◌≤◌, Bool, true, false, cond, List, length, take, drop, Option, Some, None, Result, Ok, Err, refl, sym, subst, ap, ◌∙◌, arith}
use Rattle.std.specs.Prelude.{◌↔◌, nat_lt, ◌==◌, ◌&&◌}
use Rattle.std.specs.List.{All, AllByRecursion}
use Rattle.std.proofs.lemmas.Bool.{ltb-false, eqb-true, eqb-false, eq-eqb}
use Rattle.std.proofs.lemmas.List.{length-drop, length-take-le}
use Rattle.std.proofs.lemmas.List.Elements.{All-take, All-drop}
use Rattle.std.proofs.lemmas.List.Sums.{sum_by-cons}
use Rattle.pcap_files.specs.declared.order.Order.{Order}
use Rattle.pcap_files.specs.declared.error.PcapError.{PcapError}
use Rattle.pcap_files.specs.declared.error.PcapError.TheVariants.{NgFile, Version, Short, Empty, Long}
use Rattle.pcap_files.specs.Capture.{Place, Packets, packet_at, size_at, packets_by, packets_within, packets_from, behind, header_of, header_by, reading_of, packets_behind, first_place, whole_by, capture_of}
use Rattle.pcap_files.specs.Numbers.{number, magic_of, order_of}
use Rattle.pcap_files.specs.Records.{AreRecords, IsWithin, space_of, place_behind, end_of}
use Rattle.pcap_files.proofs.Stand.{records-stand}
use Rattle.pcap_files.proofs.Left.{shorter}

-- all tests of a record are passed
record Passed (none head empty long cut : Bool) (q packet : List ℕ) : Type 0 where
  is_empty : empty ≡ false
  is_head : head ≡ false
  is_long : long ≡ false
  is_cut : cut ≡ false
  is_packet : q ≡ packet

passed : (none head empty long cut : Bool) (w x y z : PcapError) (q packet : List ℕ) → cond none (Ok None) (cond head (Err w) (cond empty (Err x) (cond long (Err y) (cond cut (Err z) (Ok (Some q)))))) ≡ Ok (Some packet) → Passed none head empty long cut q packet
passed true head empty long cut w x y z q packet e = absurd cc
passed false true empty long cut w x y z q packet e = absurd cc
passed false false true long cut w x y z q packet e = absurd cc
passed false false false true cut w x y z q packet e = absurd cc
passed false false false false true w x y z q packet e = absurd cc
passed false false false false false w x y z q packet e = record { is_empty = refl; is_head = refl; is_long = refl; is_cut = refl; is_packet = cc }

ended : (none : Bool) (r : Result (Option (List ℕ)) PcapError) → (r ≡ Ok None → none ≡ true) → cond none (Ok None) r ≡ Ok None → none ≡ true
ended true r h e = refl
ended false r h e = h e

not_ended : (head empty long cut : Bool) (w x y z : PcapError) (q : List ℕ) {P : Type 0} → cond head (Err w) (cond empty (Err x) (cond long (Err y) (cond cut (Err z) (Ok (Some q))))) ≡ Ok None → P
not_ended true empty long cut w x y z q e = absurd cc
not_ended false true long cut w x y z q e = absurd cc
not_ended false false true cut w x y z q e = absurd cc
not_ended false false false true w x y z q e = absurd cc
not_ended false false false false w x y z q e = absurd cc

-- the packet of a record
pub record IsPacketAt (p : Place) (packet : List ℕ) : Type 0 where
  pub within : IsWithin p.most packet
  pub space : 16 + length packet ≤ length p.rest
  pub part : take (size_at p) (drop 16 p.rest) ≡ packet

pub packet-at : (p : Place) (packet : List ℕ) → packet_at p ≡ Ok (Some packet) → IsPacketAt p packet
unfolding packet_at
packet-at p packet e =
    let h = passed _ _ _ _ _ _ _ _ _ _ packet e in
    let some = eqb-false (size_at p) 0 h.is_empty in
    let head = ltb-false (length p.rest) 16 h.is_head in
    let long = ltb-false p.most (size_at p) h.is_long in
    let cut = ltb-false (length p.rest - 16) (size_at p) h.is_cut in
    let left = length-drop 16 p.rest in
    let taken = length-take-le (size_at p) (drop 16 p.rest) (omega arith) in
    let same : length packet ≡ size_at p = ap length (sym h.is_packet) ∙ taken in
    record { within = record { least = omega arith; largest = omega arith }; space = omega arith; part = h.is_packet }

at-end : (p : Place) → packet_at p ≡ Ok None → length p.rest ≡ 0
unfolding packet_at
at-end p e =
    eqb-true (length p.rest) 0 (ended (length p.rest == 0) _
    (not_ended (nat_lt (length p.rest) 16) (size_at p == 0) (nat_lt p.most (size_at p)) (nat_lt (length p.rest - 16) (size_at p)) (Short p.offset) (Empty p.number) (Long p.number (size_at p)) (Short p.offset) (take (size_at p) (drop 16 p.rest))) e)

-- the packets that a place gives are within their limits, if those after its packet are
within_by : (most : ℕ) (f : ℕ → Packets) (p : Place) (r : Result (Option (List ℕ)) PcapError) → p.most ≡ most → packet_at p ≡ r → ((q : List ℕ) → packet_at p ≡ Ok (Some q) → AllByRecursion (IsWithin most) (f (length q)).packets) → AllByRecursion (IsWithin most) (packets_by f r).packets
within_by most f p (Ok None) m e h = tt
within_by most f p (Err x) m e h = tt
within_by most f p (Ok (Some q)) m e h = (subst (λ (k : ℕ). IsWithin k q) m (packet-at p q e).within, h q e)

within : (n : ℕ) (most : ℕ) (p : Place) → p.most ≡ most → AllByRecursion (IsWithin most) (packets_within n p).packets
unfolding packets_within
within zero most p m = tt
within (suc n) most p m = within_by most (λ size. packets_within n (behind p size)) p (packet_at p) m refl (λ q e. within n most (behind p (length q)) m)

-- the packets that a place gives have bytes of the capture alone
bytes_by : (P : ℕ → Type 0) (f : ℕ → Packets) (p : Place) (r : Result (Option (List ℕ)) PcapError) → All P p.rest → packet_at p ≡ r → ((q : List ℕ) → packet_at p ≡ Ok (Some q) → AllByRecursion (All P) (f (length q)).packets) → AllByRecursion (All P) (packets_by f r).packets
bytes_by P f p (Ok None) all e h = tt
bytes_by P f p (Err x) all e h = tt
bytes_by P f p (Ok (Some q)) all e h = (subst (All P) (packet-at p q e).part (All-take P (size_at p) (drop 16 p.rest) (All-drop P 16 p.rest all)), h q e)

bytes : (P : ℕ → Type 0) (n : ℕ) (p : Place) → All P p.rest → AllByRecursion (All P) (packets_within n p).packets
unfolding packets_within
bytes P zero p all = tt
bytes P (suc n) p all = bytes_by P (λ size. packets_within n (behind p size)) p (packet_at p) all refl (λ q e. bytes P n (behind p (length q)) (All-drop P (16 + length q) p.rest all))

-- with no refusal the records from a place on take what is left
Fills : Place → Packets → Type 0
Fills p r = r.refusal ≡ None → space_of r.packets ≡ length p.rest

fills_by : (f : ℕ → Packets) (p : Place) (r : Result (Option (List ℕ)) PcapError) → packet_at p ≡ r → ((q : List ℕ) → packet_at p ≡ Ok (Some q) → Fills (behind p (length q)) (f (length q))) → Fills p (packets_by f r)
unfolding Fills
fills_by f p (Ok None) e h none = sym (at-end p e)
fills_by f p (Err x) e h none = absurd cc
fills_by f p (Ok (Some q)) e h none =
    let more = h q e none in
    let left = length-drop (16 + length q) p.rest in
    let fits = (packet-at p q e).space in
    sum_by-cons (λ (packet : List ℕ). 16 + length packet) q (f (length q)).packets ∙ (omega arith)

fills : (n : ℕ) (p : Place) → length p.rest < n → Fills p (packets_within n p)
unfolding packets_within
fills zero p enough = absurd (omega arith)
fills (suc n) p enough = fills_by (λ size. packets_within n (behind p size)) p (packet_at p) refl (λ q e. let less = shorter p q e in fills n (behind p (length q)) (omega arith))

-- ---- the whole

-- a capture that is accepted has its header and no refusal
record Accepted (order : Order) (bytes : List ℕ) (most : ℕ) (packets : List (List ℕ)) : Type 0 where
  header : header_of bytes ≡ Ok order
  packets_are : (packets_from (first_place most bytes order)).packets ≡ packets
  refusal_is : (packets_from (first_place most bytes order)).refusal ≡ None

no_refusal : (ps qs : List (List ℕ)) (o : Option PcapError) → whole_by ps o ≡ Ok qs → (ps ≡ qs) × (o ≡ None)
no_refusal ps qs None e = (cc, refl)
no_refusal ps qs (Some x) e = absurd cc

with_header : {P : Type 0} (bytes : List ℕ) (most : ℕ) (packets : List (List ℕ)) (r : Result Order PcapError) → header_of bytes ≡ r → whole_by (packets_behind most bytes r).packets (packets_behind most bytes r).refusal ≡ Ok packets → ((order : Order) → Accepted order bytes most packets → P) → P
with_header bytes most packets (Ok order) h e then =
    let both = no_refusal (packets_from (first_place most bytes order)).packets packets (packets_from (first_place most bytes order)).refusal e in
    then order (record { header = h; packets_are = both.0; refusal_is = both.1 })
with_header bytes most packets (Err x) h e then = absurd cc

pub packets-within : (bytes : List ℕ) (most : ℕ) (packets : List (List ℕ)) → capture_of bytes most ≡ Ok packets → AllByRecursion (IsWithin most) packets
packets-within bytes most packets e = with_header bytes most packets (header_of bytes) refl e
    (λ order a. subst (AllByRecursion (IsWithin most)) a.packets_are (within (length (drop 24 bytes) + 1) most (first_place most bytes order) refl))

pub packets-bytes : (P : ℕ → Type 0) (bytes : List ℕ) (most : ℕ) (packets : List (List ℕ)) → All P bytes → capture_of bytes most ≡ Ok packets → AllByRecursion (All P) packets
packets-bytes P file most packets all e = with_header file most packets (header_of file) refl e
    (λ order a. subst (AllByRecursion (All P)) a.packets_are (bytes P (length (drop 24 file) + 1) (first_place most file order) (All-drop P 24 file all)))

-- an accepted header has 24 bytes
whole-by : (short version : Bool) (order found : Order) (x v : PcapError) → cond short (Err x) (cond version (Ok order) (Err v)) ≡ Ok found → short ≡ false
whole-by true version order found x v e = absurd cc
whole-by false version order found x v e = refl

long-by : (magic : ℕ) (bytes : List ℕ) (o : Option Order) (found : Order) → header_by magic bytes o ≡ Ok found → 24 ≤ length bytes
long-by magic bytes None found e = absurd cc
long-by magic bytes (Some order) found e = ltb-false (length bytes) 24 (whole-by (nat_lt (length bytes) 24) ((number order 2 4 bytes == 2) && (number order 2 6 bytes == 4)) order found (Short 0) (Version (number order 2 4 bytes) (number order 2 6 bytes)) e)

behind_tests : (short newer : Bool) (x y : PcapError) (r : Result Order PcapError) (found : Order) → cond short (Err x) (cond newer (Err y) r) ≡ Ok found → r ≡ Ok found
behind_tests true newer x y r found e = absurd cc
behind_tests false true x y r found e = absurd cc
behind_tests false false x y r found e = e

long-header : (bytes : List ℕ) (order : Order) → header_of bytes ≡ Ok order → 24 ≤ length bytes
unfolding header_of
long-header bytes order e =
    long-by (magic_of bytes) bytes (order_of (magic_of bytes)) order
    (behind_tests (nat_lt (length bytes) 4) (magic_of bytes == 0x0A0D0D0A) (Short 0) NgFile (header_by (magic_of bytes) bytes (order_of (magic_of bytes))) order e)

-- at the end of the bytes there is no record
none-at-end : (p : Place) → length p.rest ≡ 0 → packet_at p ≡ Ok None
unfolding packet_at
none-at-end p e = rw (eq-eqb (length p.rest) 0 e) refl

no_end : (o : Option PcapError) → end_of o ≡ Ok None → o ≡ None
no_end None e = refl
no_end (Some x) e = absurd cc

-- with no refusal the records take the whole file
filled : (most : ℕ) (bytes : List ℕ) (order : Order) → header_of bytes ≡ Ok order → (packets_from (first_place most bytes order)).refusal ≡ None → 24 + space_of (packets_from (first_place most bytes order)).packets ≡ length bytes
unfolding Fills
filled most bytes order h none =
    let some = long-header bytes order h in
    let left = length-drop 24 bytes in
    let full = fills (length (drop 24 bytes) + 1) (first_place most bytes order) (omega arith) none in
    omega arith

pub records-whole : (bytes : List ℕ) (most : ℕ) (packets : List (List ℕ)) → capture_of bytes most ≡ Ok packets → 24 + space_of packets ≡ length bytes
records-whole bytes most packets e = with_header bytes most packets (header_of bytes) refl e
    (λ order a. ap (λ (ps : List (List ℕ)). 24 + space_of ps) (sym a.packets_are) ∙ filled most bytes order a.header a.refusal_is)

ends : (most : ℕ) (bytes : List ℕ) (order : Order) (r : Packets) → AreRecords order most bytes r → 24 + space_of r.packets ≡ length bytes → r.refusal ≡ None
ends most bytes order r records e =
    let left = length-drop (24 + space_of r.packets) bytes in
    no_end r.refusal (sym records.end ∙ none-at-end (place_behind order most bytes r.packets) (left ∙ omega arith))

pub none-exactly : (bytes : List ℕ) (most : ℕ) (order : Order) → header_of bytes ≡ Ok order → ((reading_of bytes most).refusal ≡ None) ↔ (24 + space_of (reading_of bytes most).packets ≡ length bytes)
none-exactly bytes most order h =
    let same = ap (packets_behind most bytes) h in
    ((λ none. ap (λ (r : Packets). 24 + space_of r.packets) same ∙ filled most bytes order h (ap (λ (r : Packets). r.refusal) (sym same) ∙ none)), ends most bytes order (reading_of bytes most) (records-stand bytes most order h))
