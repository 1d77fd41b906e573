-- The chunks of a channel: how they follow one another, and how many bytes they have.
use Rattle.std.proofs.Common.{ℕ, zero, suc, ◌≡◌, ◌+◌, ◌-◌, ◌%◌, ◌<◌, ◌≤◌, min, nat_le, Bool, true, false, List, [], ◌∷◌, ◌++◌, length, map, drop, take, filter, All, Contains, Some, slice_get, if◌then◌else◌, ◌==◌, refl, sym, ap, subst, ◌∙◌, arith, length-drop}
use Rattle.std.specs.List.{flat_map}
use Rattle.std.proofs.lemmas.Bool.{leb-false}
use Rattle.std.proofs.lemmas.List.{nil_from_length}
use Rattle.std.proofs.lemmas.List.Concat.{flat_map-cons}
use Rattle.std.proofs.lemmas.Nat.{div_below}
use Rattle.lk_base.specs.declared.shape.Shape.{Shape}
use Rattle.stream_model.specs.BurstStream.{Source, Chunk, piece_size, cut, chunks_of_packet, chunks_by, chunks_of, packets_of, parts}
use Rattle.stream_model.specs.Cutting.{IsCutOf}
use Rattle.stream_model.proofs.BurstsHold.{of_all, of_packets}
use Rattle.stream_model.proofs.Cutting.{CanCut, Whole, Shorter, Full, size_cases, size_within, cut_nil, rest_less, length_next, all_cut, can_cut, cut_of}
use Rattle.receive_model.proofs.Cuts.{split}

-- ---- a first chunk follows a last one, and no other does

abbrev pub Turns : Bool → List Chunk → Type 0
Turns over [] = Unit {0}
Turns over (chunk ∷ chunks) = (chunk.is_first ≡ over) × Turns chunk.is_last chunks

module _ (most least : ℕ) (can : CanCut most least) where
  turns_cut : (count : ℕ) (first : Bool) (bytes : List ℕ) (ys : List Chunk) → length bytes ≤ count → 1 ≤ length bytes → Turns true ys → Turns first (cut most least count first bytes ++ ys)
  turns_cut zero first bytes ys h k more = absurd (omega arith)
  turns_cut (suc count) first [] ys h k more = absurd (omega arith)
  turns_cut (suc count) first (byte ∷ bytes) ys h k more = split (nat_le (length (byte ∷ bytes)) most)
      (λ fits.
      let all : piece_size most least (length (byte ∷ bytes)) ≡ length (byte ∷ bytes) = rw fits refl in
      let room = length-drop (piece_size most least (length (byte ∷ bytes))) (byte ∷ bytes) in
      let none : drop (piece_size most least (length (byte ∷ bytes))) (byte ∷ bytes) ≡ [] = nil_from_length (drop (piece_size most least (length (byte ∷ bytes))) (byte ∷ bytes)) (omega arith) in
      let rest : cut most least count false (drop (piece_size most least (length (byte ∷ bytes))) (byte ∷ bytes)) ≡ [] = ap (cut most least count false) none ∙ cut_nil most least count false in
      let both : Turns true (cut most least count false (drop (piece_size most least (length (byte ∷ bytes))) (byte ∷ bytes)) ++ ys) = subst (λ (cs : List Chunk). Turns true (cs ++ ys)) (sym rest) more in
      (refl, subst (λ (b : Bool). Turns b (cut most least count false (drop (piece_size most least (length (byte ∷ bytes))) (byte ∷ bytes)) ++ ys)) (sym fits) both))
      (λ longer.
      let long : most < length (byte ∷ bytes) = leb-false (length (byte ∷ bytes)) most longer in
      let room = length-drop (piece_size most least (length (byte ∷ bytes))) (byte ∷ bytes) in
      let half = can.half in
      let some = can.some in
      let left : 1 ≤ length (drop (piece_size most least (length (byte ∷ bytes))) (byte ∷ bytes)) =
      elim (size_cases most least (length (byte ∷ bytes))) [ Whole a e ↦ absurd (omega arith) | Shorter a l e ↦ omega arith | Full a l e ↦ omega arith ] in
      let rest = turns_cut count false (drop (piece_size most least (length (byte ∷ bytes))) (byte ∷ bytes)) ys (rest_less most least can count byte bytes h) left more in
      (refl, subst (λ (b : Bool). Turns b (cut most least count false (drop (piece_size most least (length (byte ∷ bytes))) (byte ∷ bytes)) ++ ys)) (sym longer) rest))

turns_packets : (shape : Shape) (packets : List (List ℕ)) → Turns true (flat_map (chunks_by shape) packets)
turns_packets shape [] = tt
turns_packets shape ([] ∷ packets) = subst (λ (cs : List Chunk). Turns true cs) (sym (flat_map-cons (chunks_by shape) [] packets)) (turns_packets shape packets)
turns_packets shape ((byte ∷ bytes) ∷ packets) =
    subst (λ (cs : List Chunk). Turns true cs) (sym (flat_map-cons (chunks_by shape) (byte ∷ bytes) packets))
    (turns_cut shape.burst_max shape.burst_min (can_cut shape) (length (byte ∷ bytes)) true (byte ∷ bytes) (flat_map (chunks_by shape) packets) (omega arith) (omega arith) (turns_packets shape packets))

pub turns_source : (source : Source) (channel : ℕ) → Turns true (chunks_of source channel)
turns_source source channel = turns_packets source.shape (packets_of source channel)

-- ---- the bytes of a packet so far

-- the bytes with those of this chunk, where there were so many before it
abbrev pub bytes_with : ℕ → Chunk → ℕ
bytes_with n chunk = (if chunk.is_first then 0 else n) + length chunk.bytes

-- no packet has more bytes than m
abbrev pub Room : ℕ → ℕ → List Chunk → Type 0
Room m n [] = Unit {0}
Room m n (chunk ∷ chunks) = (bytes_with n chunk ≤ m) × Room m (bytes_with n chunk) chunks

module _ (most least : ℕ) (can : CanCut most least) (m : ℕ) where
  room_cut : (count : ℕ) (first : Bool) (bytes : List ℕ) (n : ℕ) (ys : List Chunk) → (if first then 0 else n) + length bytes ≤ m → ((k : ℕ) → Room m k ys) → Room m n (cut most least count first bytes ++ ys)
  room_cut zero first bytes n ys h more = more n
  room_cut (suc count) first [] n ys h more = more n
  room_cut (suc count) first (byte ∷ bytes) n ys h more =
      let size : ℕ = piece_size most least (length (byte ∷ bytes)) in
      let within = size_within most least (length (byte ∷ bytes)) in
      let taken : length (take size (byte ∷ bytes)) ≡ size = length_next most least can first (byte ∷ bytes) in
      let room = length-drop size (byte ∷ bytes) in
      (omega arith, room_cut count false (drop size (byte ∷ bytes)) ((if first then 0 else n) + length (take size (byte ∷ bytes))) ys (omega arith) more)

AllFit : ℕ → List (List ℕ) → Type 0
AllFit m [] = Unit {0}
AllFit m (packet ∷ packets) = (length packet ≤ m) × AllFit m packets

room_packets : (shape : Shape) (m : ℕ) (packets : List (List ℕ)) → AllFit m packets → (n : ℕ) → Room m n (flat_map (chunks_by shape) packets)
unfolding AllFit
room_packets shape m [] fit n = tt
room_packets shape m (packet ∷ packets) (fit, fits) n =
    subst (λ (cs : List Chunk). Room m n cs) (sym (flat_map-cons (chunks_by shape) packet packets))
    (room_cut shape.burst_max shape.burst_min (can_cut shape) m (length packet) true packet n (flat_map (chunks_by shape) packets) (omega arith) (room_packets shape m packets fits))

all_fit : (m channel : ℕ) (packets : List (ℕ × List ℕ)) → All (λ (p : ℕ × List ℕ). length p.1 ≤ m) packets → AllFit m (map (λ (p : ℕ × List ℕ). p.1) (filter (λ (p : ℕ × List ℕ). p.0 == channel) packets))
unfolding AllFit
all_fit m channel [] h = tt
all_fit m channel (p ∷ packets) h =
    let rest = all_fit m channel packets (λ k d below. h (suc k) d (omega arith)) in
    split (p.0 == channel) (λ e. rw e (h 0 p (omega arith), rest)) (λ e. rw e rest)

pub room_source : (source : Source) (m channel n : ℕ) → All (λ (p : ℕ × List ℕ). length p.1 ≤ m) source.packets → Room m n (chunks_of source channel)
room_source source m channel n h = room_packets source.shape m (packets_of source channel) (all_fit m channel source.packets h) n

-- ---- the size of a chunk

-- what the rules on bursts ask of a chunk
pub record IsPiece (shape : Shape) (chunk : Chunk) : Type 0 where
  pub some : 1 ≤ length chunk.bytes
  pub most : length chunk.bytes ≤ shape.burst_max
  -- all but the last are multiples of 32 bytes
  pub whole : chunk.is_last ≡ false → length chunk.bytes % 32 ≡ 0
  -- less than the least is a whole packet
  pub least : length chunk.bytes < shape.burst_min → (chunk.is_first ≡ true) × (chunk.is_last ≡ true)

whole_cut : (most least : ℕ) (can : CanCut most least) → most % 32 ≡ 0 → least % 32 ≡ 0 → (packet : List ℕ) → All (λ (chunk : Chunk). chunk.is_last ≡ false → length chunk.bytes % 32 ≡ 0) (chunks_of_packet most least packet)
whole_cut most least can m l packet = all_cut most least can (λ (chunk : Chunk). chunk.is_last ≡ false → length chunk.bytes % 32 ≡ 0) (λ bytes. Unit {0})
    (λ first byte bytes q. (
      (λ goes_on.
          let n = length_next most least can first (byte ∷ bytes) in
          let half = can.half in
          let longer : most < length (byte ∷ bytes) = leb-false (length (byte ∷ bytes)) most goes_on in
          elim (size_cases most least (length (byte ∷ bytes))) [
            | Whole h e ↦ absurd (omega arith)
            | Shorter h k e ↦ omega arith
            | Full h k e ↦ omega arith
          ]),
      tt,
    )) (length packet) true packet tt

get_of : (chunks : List Chunk) (chunk : Chunk) → Contains chunks chunk → (k : ℕ) × (k < length chunks) × (slice_get chunks k ≡ Some chunk)
get_of [] chunk (k, l, e) = absurd (omega arith)
get_of (c ∷ chunks) chunk (zero, l, e) = (0, omega arith, ap Some e)
get_of (c ∷ chunks) chunk (suc k, l, e) = let r = get_of chunks chunk (k, omega arith, e) in (suc r.0, omega arith, r.2)

one_part : (most n : ℕ) → 1 ≤ most → n ≤ most → parts most n < 2
one_part most n some fits = div_below (n + (most - 1)) most 2 some (omega arith)

only_piece : (shape : Shape) (packet : List ℕ) (chunk : Chunk) → IsCutOf shape.burst_max shape.burst_min packet (chunks_by shape packet) → Contains (chunks_by shape packet) chunk → length packet ≤ shape.burst_max → (chunk.is_first ≡ true) × (chunk.is_last ≡ true)
only_piece shape packet chunk is here fits =
    let at = get_of (chunks_by shape packet) chunk here in
    let count : length (chunks_by shape packet) ≡ parts shape.burst_max (length packet) = is.count in
    let few : parts shape.burst_max (length packet) < 2 = one_part shape.burst_max (length packet) (can_cut shape).some fits in
    let first = is.first at.0 chunk at.2 in
    let last = is.last at.0 chunk at.2 in
    (first.1 (omega arith), last.1 (omega arith))

piece_of : (shape : Shape) (packet : List ℕ) (chunk : Chunk) → Contains (chunks_by shape packet) chunk → IsPiece shape chunk
piece_of shape packet chunk here =
    let is : IsCutOf shape.burst_max shape.burst_min packet (chunks_by shape packet) = cut_of shape packet in
    let most : length chunk.bytes ≤ shape.burst_max = of_all (λ (c : Chunk). length c.bytes ≤ shape.burst_max) (chunks_by shape packet) chunk is.fits here in
    let no_less : min shape.burst_min (length packet) ≤ length chunk.bytes = of_all (λ (c : Chunk). min shape.burst_min (length packet) ≤ length c.bytes) (chunks_by shape packet) chunk is.no_less here in
    record {
      some = of_all (λ (c : Chunk). 1 ≤ length c.bytes) (chunks_by shape packet) chunk is.some here;
      most = most;
      whole = of_all (λ (c : Chunk). c.is_last ≡ false → length c.bytes % 32 ≡ 0) (chunks_by shape packet) chunk
          (whole_cut shape.burst_max shape.burst_min (can_cut shape) (let m = shape.burst_max_whole in omega arith) shape.burst_min_whole packet) here;
      least = λ low. only_piece shape packet chunk is here (omega arith);
    }

pub piece_at : (source : Source) (channel k : ℕ) (chunk : Chunk) → slice_get (chunks_of source channel) k ≡ Some chunk → IsPiece source.shape chunk
piece_at source channel k chunk at =
    let from = of_packets source.shape.burst_max source.shape.burst_min (packets_of source channel) k chunk at in
    piece_of source.shape from.0 chunk from.2
