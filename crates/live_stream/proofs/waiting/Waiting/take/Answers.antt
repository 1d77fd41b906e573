use Rattle.std.proofs.Common.{◌≡◌, ◌≤◌, ◌+◌, ◌-◌, ◌==◌, ℕ, List, ◌∷◌, length, map, take, drop, nat_eq, nat_le, refl, sym, ap, ◌∙◌, arith, inl, inr, length-drop, le-leb, eq-eqb, leb-true}
use Rattle.std.proofs.lemmas.Bool.{cases_lt, false_from_ne_true, ne_eqb}
use Rattle.stream_model.specs.BurstStream.{piece_size, next_chunk, data_words}
use Rattle.stream_model.proofs.Cutting.{CanCut, size_within, size_most, length_next}
use Rattle.burst_scheduler.specs.declared.sizes.BurstSizes.{BurstSizes}
use Rattle.live_stream.specs.Waiting.{HasLeft, packets_in}
use Rattle.live_stream.specs.declared.waiting.Waiting.{Waiting}
use Rattle.live_stream.proofs.Left.{held_of, the_chunk, next_packet, next_part, packet_is, rest_is, some_held}
use Rattle.live_stream.proofs.waiting.Waiting.take.Goals as goal
use Rattle.live_stream.proofs.waiting.Waiting.take.Goals.{then-last, else-last}

-- the next piece is all that is left exactly where it is at most as long as a burst
same_end : (most least n : ℕ) → CanCut most least → (piece_size most least n == n) ≡ nat_le n most
same_end most least n can = elim (cases_lt most n) [
  | inr fits ↦ (
      let all : piece_size most least n ≡ n = rw (le-leb n most fits) refl in
      eq-eqb (piece_size most least n) n all ∙ sym (le-leb n most fits))
  | inl more ↦ (
      let some = can.some in
      let half = can.half in
      let size = size_most most least n in
      ne_eqb (piece_size most least n) n (λ e. omega arith) ∙ sym (false_from_ne_true (nat_le n most) (λ t. let fits : n ≤ most = leb-true n most t in omega arith)))
]

pub index-packet-requires : goal.index-packet-requires
index-packet-requires c =
    let left = c.requires.left in
    let held = held_of c.args.sizes c.args.self.now left.0 left.1 left.2 left.3 in
    let some = some_held c.args.self.now held.0 held.1 held.2 in
    omega (arith, some, c.args.self.now.packets.ok.0)

module _ (c : goal.Joined-last) (packets : List (List ℕ)) (done : ℕ) (h : HasLeft c.args.self.now c.args.sizes packets done) where
  abbrev q : Waiting
  q = c.args.self.now

  abbrev sizes : BurstSizes
  sizes = c.args.sizes

  abbrev xs : List ℕ
  xs = c.index-packet.result.now.items

  can : CanCut sizes.most sizes.least
  can = (let low = c.requires.low in record { some = omega arith; half = c.requires.half })

  held : (packet : List ℕ) × (rest : List (List ℕ)) × (packets_in q ≡ packet ∷ rest)
  held =
      let left = c.requires.left in
      held_of sizes q left.0 left.1 left.2 left.3

  is : xs ≡ held.0
  is = packet_is q c.index-packet.result.now held.0 held.1 c.index-packet.ensures held.2

  long : c.len.result ≡ length xs
  long = c.len.ensures ∙ c.index-packet.result.now.ok.0

  room : length (drop q.taken held.0) ≡ length held.0 - q.taken
  room = length-drop q.taken held.0

  size : c.next-bytes.result ≡ piece_size sizes.most sizes.least (length (drop q.taken held.0))
  size = c.next-bytes.ensures ∙ ap (λ n. piece_size sizes.most sizes.least (n - q.taken)) (long ∙ ap length is) ∙ ap (piece_size sizes.most sizes.least) (sym room)

minus : (s n : ℕ) → s + n - s ≡ n
minus s n = omega arith

pub returns-clause-chunk : goal.returns-clause-chunk
returns-clause-chunk c packets done h =
    let start : ℕ = c.args.self.now.taken in
    let sizes : BurstSizes = c.args.sizes in
    let packet : List ℕ = (held c packets done h).0 in
    let same : xs c packets done h ≡ packet = is c packets done h in (
      next_chunk sizes.most sizes.least (start == 0) (drop start packet),
      the_chunk sizes c.args.self.now packets done h packet (held c packets done h).1 (held c packets done h).2,
      c.fill-words.ensures.words ∙ ap (λ ds. data_words (take (start + c.next-bytes.result - start) (drop start ds))) (c.deref.ensures.value ∙ same) ∙ ap (λ n. data_words (take n (drop start packet))) (minus start c.next-bytes.result ∙ size c packets done h),
      size c packets done h ∙ sym (length_next sizes.most sizes.least (can c packets done h) (start == 0) (drop start packet)),
      refl,
      ap (λ n. nat_eq c.next-bytes.result (n - start)) (long c packets done h ∙ ap length same) ∙ ap (λ n. nat_eq n (length packet - start)) (size c packets done h)
          ∙ ap (λ n. nat_eq (piece_size sizes.most sizes.least n) (length packet - start)) (room c packets done h)
          ∙ same_end sizes.most sizes.least (length packet - start) (can c packets done h)
          ∙ ap (λ n. nat_le n sizes.most) (sym (room c packets done h)),
    )

pub returns-clause-next : goal.returns-clause-next
returns-clause-next c packets done h =
    let q : Waiting = c.args.self.now in
    let sizes : BurstSizes = c.args.sizes in
    let hd = held c packets done h in
    let can_cut = can c packets done h in
    let len = long c packets done h ∙ ap length (is c packets done h) in
    let sz = size c packets done h in
    let rm = room c packets done h in
    elim c.if-last.branch [
      | then-last w ↦ next_packet sizes q packets done h hd.0 hd.1 hd.2 can_cut c.if-last.self
          (let t = w.if-last.true in omega (arith, sz, rm, len, t))
          (ap (λ p. packets_in p) w.self-is ∙ ap (map (λ p. p.items)) w.pop_front.ensures.rest ∙ rest_is q.packets.items hd.0 hd.1 hd.2)
          (ap (λ p. p.taken) w.self-is)
          (record { packets = ap (λ p. p.counts.packets_given) w.self-is; bytes = ap (λ p. p.counts.bytes_given) w.self-is; ends = ap (λ p. p.counts.packets_sent) w.self-is; sent = ap (λ p. p.counts.bytes_sent) w.self-is ∙ ap (λ n. q.counts.bytes_sent + n) sz })
      | else-last w ↦ next_part sizes q packets done h hd.0 hd.1 hd.2 can_cut c.if-last.self
          (let most = size_within sizes.most sizes.least (length (drop q.taken hd.0)) in
          elim (cases_lt (piece_size sizes.most sizes.least (length (drop q.taken hd.0))) (length (drop q.taken hd.0))) [
            | inl short ↦ short
            | inr all ↦ absurd (w.if-last.false (omega (arith, all, most, sz, rm, len)))
          ])
          (ap (λ s. packets_in s) w.self-is)
          (ap (λ s. s.taken) w.self-is ∙ ap (λ n. q.taken + n) sz)
          (record { packets = ap (λ p. p.counts.packets_given) w.self-is; bytes = ap (λ p. p.counts.bytes_given) w.self-is; ends = ap (λ p. p.counts.packets_sent) w.self-is ∙ omega arith; sent = ap (λ p. p.counts.bytes_sent) w.self-is ∙ ap (λ n. q.counts.bytes_sent + n) sz })
    ]
