-- The chunks that are left of a channel's packets, by the packets that its queue holds.
use Rattle.std.proofs.Common.{◌≡◌, ◌↔◌, ℕ, Bool, nat_le, suc, ◌+◌, ◌-◌, ◌<◌, ◌≤◌, ◌==◌, true, false, List, [], ◌∷◌, ◌++◌, length, map, take, drop, cond, sum_by, Some, slice_get, nat_lt, get_or, All, Vec, Global, refl, sym, ap, ap₂, subst, ◌∙◌, arith, length-append, length-drop, append_assoc, eqb-true, le-leb}
use Rattle.std.proofs.lemmas.Bool.{false_from_ne_true, ltb-true, lt-ltb}
use Rattle.std.proofs.lemmas.List.{drop-drop, drop-append-le, drop_all, length-map, take_more, take-append-le, length_push}
use Rattle.std.proofs.lemmas.List.Sums.{sum_by-append, sum_by-cons}
use Rattle.std.proofs.lemmas.List.Concat.{flat_map-append, flat_map-cons}
use Rattle.std.proofs.lemmas.List.Elements.{All-push, All-nil}
use Rattle.std.proofs.lemmas.Option.{slice_get_within, slice_get-get_or}
use Rattle.calendar.proofs.States.{first, rest}
use Rattle.stream_model.specs.BurstStream.{Chunk, piece_size, next_chunk, cut, chunks_of_packet}
use Rattle.stream_model.proofs.Cutting.{CanCut, cut_more, size_some, size_most, length_next}
use Rattle.burst_scheduler.specs.Queues.{chunks_in, chunks_behind}
use Rattle.burst_scheduler.specs.declared.sizes.BurstSizes.{BurstSizes}
use Rattle.burst_scheduler.proofs.Chunks.{none, head_of, first_left, rest_left}
use Rattle.live_stream.specs.Waiting.{packets_in, chunks_left, IsWithin, IsEmpty, HasLeft, AreCounts, DoFit, bytes_in, bytes_of, ends_in, most_bytes, has_packets}
use Rattle.live_stream.specs.declared.counts.Counts.{Counts}
use Rattle.live_stream.specs.declared.waiting.Waiting.{Waiting}

-- one packet more was given, of so many bytes
pub record IsGivenMore (old new : Counts) (n : ℕ) : Type 0 where
  pub packets : new.packets_given ≡ old.packets_given + 1
  pub bytes : new.bytes_given ≡ old.bytes_given + n
  pub ends : new.packets_sent ≡ old.packets_sent
  pub sent : new.bytes_sent ≡ old.bytes_sent

-- one burst more was sent, of so many bytes, the last of its packet or not
pub record IsSentMore (old new : Counts) (n : ℕ) (last : Bool) : Type 0 where
  pub packets : new.packets_given ≡ old.packets_given
  pub bytes : new.bytes_given ≡ old.bytes_given
  pub ends : new.packets_sent ≡ old.packets_sent + cond last 1 0
  pub sent : new.bytes_sent ≡ old.bytes_sent + n

one_most : (b : Bool) → cond b 1 0 ≤ 1
one_most true = omega arith
one_most false = omega arith

few_of : (n : ℕ) → n ≡ 0 → n ≤ most_bytes
few_of n e = let low : 0 ≤ most_bytes = omega arith in rw e low

-- one chunk more is taken
take_one : (f : Chunk → ℕ) (xs : List Chunk) (n : ℕ) (chunk : Chunk) → slice_get xs n ≡ Some chunk → sum_by f (take (n + 1) xs) ≡ sum_by f (take n xs) + f chunk
take_one f xs n chunk at =
    let inside : n < length xs = slice_get_within xs n chunk at in
    let here : Some (get_or xs n none) ≡ Some chunk = sym (slice_get-get_or xs n none inside) ∙ at in
    let same : get_or xs n none ≡ chunk = cc in
    ap (sum_by f) (take_more xs n none inside ∙ ap (λ c. take n xs ++ c ∷ []) same) ∙ sum_by-append f (take n xs) (chunk ∷ []) ∙ ap (λ m. sum_by f (take n xs) + m) (sum_by-cons f chunk [] ∙ omega arith)

bytes_more : (packets : List (List ℕ)) (packet : List ℕ) → bytes_in (packets ++ packet ∷ []) ≡ bytes_in packets + length packet
bytes_more packets packet = sum_by-append (λ (p : List ℕ). length p) packets (packet ∷ []) ∙ ap (λ n. bytes_in packets + n) (sum_by-cons (λ (p : List ℕ). length p) packet [] ∙ omega arith)

module _ (sizes : BurstSizes) where
  abbrev of_packet : List ℕ → List Chunk
  of_packet packet = chunks_of_packet sizes.most sizes.least packet

  -- of a first packet of which nothing was taken all chunks are left
  left_whole : (held : List (List ℕ)) → chunks_left sizes held 0 ≡ chunks_in sizes held
  left_whole [] = refl
  left_whole (packet ∷ held) = sym (flat_map-cons of_packet packet held)

  -- ---- one packet more

  left_more : (held : List (List ℕ)) (packet : List ℕ) (taken : ℕ) → IsWithin held taken → chunks_left sizes (held ++ packet ∷ []) taken ≡ chunks_left sizes held taken ++ chunks_in sizes (packet ∷ [])
  left_more [] packet taken none = ap (λ n. chunks_behind sizes packet n ++ chunks_in sizes []) none ∙ sym (flat_map-cons of_packet packet [])
  left_more (p ∷ held) packet taken w =
      ap (λ cs. chunks_behind sizes p taken ++ cs) (flat_map-append of_packet held (packet ∷ [])) ∙ sym (append_assoc (chunks_behind sizes p taken) (chunks_in sizes held) (chunks_in sizes (packet ∷ [])))

  within_more : (held : List (List ℕ)) (packet : List ℕ) (taken : ℕ) → 1 ≤ length packet → IsWithin held taken → IsWithin (held ++ packet ∷ []) taken
  within_more [] packet taken some none = omega arith
  within_more (p ∷ held) packet taken some w = w

  pub with_packet : (q new : Waiting) (packets : List (List ℕ)) (done : ℕ) (packet : List ℕ) → 1 ≤ length packet → packets_in new ≡ packets_in q ++ packet ∷ [] → new.taken ≡ q.taken → IsGivenMore q.counts new.counts (length packet) → q.counts.bytes_given + length packet ≤ most_bytes → HasLeft q sizes packets done → HasLeft new sizes (packets ++ packet ∷ []) done
  with_packet q new packets done packet some items taken more room h =
      let all : chunks_in sizes (packets ++ packet ∷ []) ≡ chunks_in sizes packets ++ chunks_in sizes (packet ∷ []) = flat_map-append of_packet packets (packet ∷ []) in
      let long : length (chunks_in sizes (packets ++ packet ∷ [])) ≡ length (chunks_in sizes packets) + length (chunks_in sizes (packet ∷ [])) = ap length all ∙ length-append (chunks_in sizes packets) (chunks_in sizes (packet ∷ [])) in
      let known = h.known in
      record {
        known = omega arith;
        left = ap (drop done) all ∙ drop-append-le done (chunks_in sizes packets) (chunks_in sizes (packet ∷ [])) known ∙ ap (λ cs. cs ++ chunks_in sizes (packet ∷ [])) h.left
            ∙ sym (left_more (packets_in q) packet q.taken h.within) ∙ sym (ap₂ (chunks_left sizes) items taken);
        within = rw (items, taken) (within_more (packets_in q) packet q.taken some h.within);
        full = subst (All (λ (p : List ℕ). 1 ≤ length p)) (sym items) (All-push (λ (p : List ℕ). 1 ≤ length p) (packets_in q) packet h.full some);
        counts = (
            let same_taken : take done (chunks_in sizes (packets ++ packet ∷ [])) ≡ take done (chunks_in sizes packets) = ap (take done) all ∙ take-append-le done (chunks_in sizes packets) (chunks_in sizes (packet ∷ [])) known in
            record {
              packets_given = more.packets ∙ ap (λ n. n + 1) h.counts.packets_given ∙ sym (length_push packets packet);
              bytes_given = more.bytes ∙ ap (λ n. n + length packet) h.counts.bytes_given ∙ sym (bytes_more packets packet);
              packets_sent = more.ends ∙ h.counts.packets_sent ∙ ap ends_in (sym same_taken);
              bytes_sent = more.sent ∙ h.counts.bytes_sent ∙ ap bytes_of (sym same_taken);
            });
        fit = (let f = h.fit in record { packets = omega (arith, more.packets, more.bytes, f.packets, some); ends = omega (arith, more.ends, more.sent, f.ends); few = omega (arith, more.bytes, room) });
        whole = (let n = ap bytes_in items ∙ bytes_more (packets_in q) packet in let o = h.whole in omega (arith, n, o, more.sent, more.bytes, taken));
      }

  pub empty_left : (q : Waiting) → IsEmpty q → HasLeft q sizes [] 0
  empty_left q e = let none : packets_in q ≡ [] = ap (map (λ p. p.items)) e.packets in let taken = e.taken in record {
    known = omega arith;
    left = sym (ap₂ (chunks_left sizes) none taken);
    within = rw none taken;
    full = subst (All (λ (p : List ℕ). 1 ≤ length p)) (sym none) (All-nil (λ (p : List ℕ). 1 ≤ length p));
    counts = record { packets_given = e.given.0; bytes_given = e.given.1; packets_sent = e.sent.0; bytes_sent = e.sent.1 };
    fit = (let a = e.given in let b = e.sent in record { packets = omega (arith, a.0, a.1); ends = omega (arith, b.0, b.1); few = few_of q.counts.bytes_given a.1 });
    whole = (let n = ap bytes_in none in omega (arith, n, e.given.1, e.sent.1, taken));
  }

  pub same_left : (q new : Waiting) (packets : List (List ℕ)) (done : ℕ) → packets_in new ≡ packets_in q → new.taken ≡ q.taken → new.counts ≡ q.counts → HasLeft q sizes packets done → HasLeft new sizes packets done
  same_left q new packets done items taken same h = record {
    known = h.known;
    left = h.left ∙ sym (ap₂ (chunks_left sizes) items taken);
    within = rw (items, taken) h.within;
    full = subst (All (λ (p : List ℕ). 1 ≤ length p)) (sym items) h.full;
    counts = subst (λ c. AreCounts c packets (take done (chunks_in sizes packets))) (sym same) h.counts;
    fit = subst DoFit (sym same) h.fit;
    whole = (let n = ap bytes_in items in let a = ap (λ c. c.bytes_sent) same in let b = ap (λ c. c.bytes_given) same in let o = h.whole in omega (arith, n, a, b, o, taken));
  }

  -- ---- where a packet is held

  module _ (q : Waiting) (packets : List (List ℕ)) (done : ℕ) (h : HasLeft q sizes packets done) where
    module _ (packet : List ℕ) (held : List (List ℕ)) (is : packets_in q ≡ packet ∷ held) where
      abbrev pub bytes_left : List ℕ
      bytes_left = drop q.taken packet

      pub within_first : q.taken < length packet
      within_first = subst (λ ps. IsWithin ps q.taken) is h.within

      pub some_left : 1 ≤ length bytes_left
      some_left = let n = length-drop q.taken packet in let w = within_first in omega arith

      left_here : drop done (chunks_in sizes packets) ≡ chunks_behind sizes packet q.taken ++ chunks_in sizes held
      left_here = h.left ∙ ap (λ ps. chunks_left sizes ps q.taken) is

      pub the_chunk : slice_get (chunks_in sizes packets) done ≡ Some (next_chunk sizes.most sizes.least (q.taken == 0) bytes_left)
      the_chunk =
          let head = head_of sizes.most sizes.least (q.taken == 0) bytes_left some_left in
          first_left done (chunks_in sizes packets) _ _ (left_here ∙ ap (λ cs. cs ++ chunks_in sizes held) head.1)

      pub below_all : done < length (chunks_in sizes packets)
      below_all = slice_get_within (chunks_in sizes packets) done _ the_chunk

      module _ (can : CanCut sizes.most sizes.least) where
        abbrev behind : List ℕ
        behind = drop (piece_size sizes.most sizes.least (length bytes_left)) bytes_left

        left_behind : drop (done + 1) (chunks_in sizes packets) ≡ cut sizes.most sizes.least (length behind) false behind ++ chunks_in sizes held
        left_behind = rest_left done (chunks_in sizes packets) _ _ (left_here ∙ ap (λ cs. cs ++ chunks_in sizes held) (cut_more sizes.most sizes.least can (q.taken == 0) bytes_left some_left))

        all_within : (ps : List (List ℕ)) → All (λ (p : List ℕ). 1 ≤ length p) ps → IsWithin ps 0
        all_within [] a = refl
        all_within (p ∷ ps) a = let some : 1 ≤ length p = first (λ (x : List ℕ). 1 ≤ length x) p ps a in omega arith

        -- ---- the counts

        abbrev size : ℕ
        size = piece_size sizes.most sizes.least (length bytes_left)

        held_bytes : bytes_in (packets_in q) ≡ length packet + bytes_in held
        held_bytes = ap bytes_in is ∙ sum_by-cons (λ (p : List ℕ). length p) packet held

        is_last : size ≡ length bytes_left → nat_le (length bytes_left) sizes.most ≡ true
        is_last all = let most = size_most sizes.most sizes.least (length bytes_left) in le-leb (length bytes_left) sizes.most (omega (arith, all, most))

        goes_on : size < length bytes_left → nat_le (length bytes_left) sizes.most ≡ false
        goes_on short = false_from_ne_true (nat_le (length bytes_left) sizes.most) (λ t. let all : size ≡ length bytes_left = rw t refl in omega (arith, all, short))

        sent_more : (counts : Counts) (b : Bool) → nat_le (length bytes_left) sizes.most ≡ b → IsSentMore q.counts counts size b → AreCounts counts packets (take (done + 1) (chunks_in sizes packets))
        sent_more counts b e more =
            let chunks : List Chunk = chunks_in sizes packets in
            let chunk : Chunk = next_chunk sizes.most sizes.least (q.taken == 0) bytes_left in
            let ends : ends_in (take (done + 1) chunks) ≡ ends_in (take done chunks) + cond b 1 0 = take_one (λ (k : Chunk). cond k.is_last 1 0) chunks done chunk the_chunk ∙ ap (λ t. ends_in (take done chunks) + cond t 1 0) e in
            let long : length chunk.bytes ≡ size = length_next sizes.most sizes.least can (q.taken == 0) bytes_left in
            let bytes : bytes_of (take (done + 1) chunks) ≡ bytes_of (take done chunks) + size = take_one (λ (k : Chunk). length k.bytes) chunks done chunk the_chunk ∙ ap (λ n. bytes_of (take done chunks) + n) long in
            record {
              packets_given = more.packets ∙ h.counts.packets_given;
              bytes_given = more.bytes ∙ h.counts.bytes_given;
              packets_sent = more.ends ∙ ap (λ n. n + cond b 1 0) h.counts.packets_sent ∙ sym ends;
              bytes_sent = more.sent ∙ ap (λ n. n + size) h.counts.bytes_sent ∙ sym bytes;
            }

        fit_more : (counts : Counts) (b : Bool) → IsSentMore q.counts counts size b → DoFit counts
        fit_more counts b more =
            let f = h.fit in
            let one = one_most b in
            let some = size_some sizes.most sizes.least (length bytes_left) can some_left in
            record { packets = omega (arith, f.packets, more.packets, more.bytes); ends = omega (arith, f.ends, more.ends, more.sent, one, some); few = omega (arith, f.few, more.bytes) }

        -- after the last chunk the packet is let go
        pub next_packet : (new : Waiting) → piece_size sizes.most sizes.least (length bytes_left) ≡ length bytes_left → packets_in new ≡ held → new.taken ≡ 0 → IsSentMore q.counts new.counts (piece_size sizes.most sizes.least (length bytes_left)) true → HasLeft new sizes packets (done + 1)
        next_packet new all items taken more =
            let below = below_all in
            let full : All (λ (p : List ℕ). 1 ≤ length p) held = rest (λ (p : List ℕ). 1 ≤ length p) packet held (subst (All (λ (p : List ℕ). 1 ≤ length p)) is h.full) in
            record {
              known = omega arith;
              left = left_behind
                  ∙ ap (λ bs. cut sizes.most sizes.least (length bs) false bs ++ chunks_in sizes held) (drop_all (piece_size sizes.most sizes.least (length bytes_left)) bytes_left (omega arith))
                  ∙ sym (left_whole held) ∙ sym (ap₂ (chunks_left sizes) items taken);
              within = rw (items, taken) (all_within held full);
              full = subst (All (λ (p : List ℕ). 1 ≤ length p)) (sym items) full;
              counts = sent_more new.counts true (is_last all) more;
              fit = fit_more new.counts true more;
              whole = (let n = ap bytes_in items in let m = held_bytes in let o = h.whole in let w = within_first in let r = length-drop q.taken packet in omega (arith, n, m, o, w, r, all, taken, more.sent, more.bytes));
            }

        -- else the next chunk is one of the same packet
        pub next_part : (new : Waiting) → piece_size sizes.most sizes.least (length bytes_left) < length bytes_left → packets_in new ≡ packets_in q → new.taken ≡ q.taken + piece_size sizes.most sizes.least (length bytes_left) → IsSentMore q.counts new.counts (piece_size sizes.most sizes.least (length bytes_left)) false → HasLeft new sizes packets (done + 1)
        next_part new short items next more =
            let below = below_all in
            let some = size_some sizes.most sizes.least (length bytes_left) can some_left in
            let room : length bytes_left ≡ length packet - q.taken = length-drop q.taken packet in
            let after : behind ≡ drop new.taken packet = drop-drop (piece_size sizes.most sizes.least (length bytes_left)) q.taken packet ∙ ap (λ n. drop n packet) (omega arith) in
            let started : (new.taken == 0) ≡ false = false_from_ne_true (new.taken == 0) (λ e. let z : new.taken ≡ 0 = eqb-true new.taken 0 e in omega arith) in
            let same : packets_in new ≡ packet ∷ held = items ∙ is in
            record {
              known = omega arith;
              left = left_behind
                  ∙ ap (λ bs. cut sizes.most sizes.least (length bs) false bs ++ chunks_in sizes held) after
                  ∙ ap (λ b. cut sizes.most sizes.least (length (drop new.taken packet)) b (drop new.taken packet) ++ chunks_in sizes held) (sym started)
                  ∙ ap (λ ps. chunks_left sizes ps new.taken) (sym same);
              within = subst (λ ps. IsWithin ps new.taken) (sym same) (omega arith);
              full = subst (All (λ (p : List ℕ). 1 ≤ length p)) (sym items) h.full;
              counts = sent_more new.counts false (goes_on short) more;
              fit = fit_more new.counts false more;
              whole = (let n = ap bytes_in items in let o = h.whole in omega (arith, n, o, next, more.sent, more.bytes));
            }

    -- a chunk is left exactly where a packet is held
    by_held : (held : List (List ℕ)) → packets_in q ≡ held → (nat_lt 0 (length held) ≡ true) ↔ (done < length (chunks_in sizes packets))
    by_held [] is = (
      λ e. absurd (let f : 0 < 0 = ltb-true 0 0 e in omega arith),
      λ l. absurd (let none : length (drop done (chunks_in sizes packets)) ≡ 0 = ap length (h.left ∙ ap (λ ps. chunks_left sizes ps q.taken) is) in let n = length-drop done (chunks_in sizes packets) in omega arith),
    )
    by_held (packet ∷ held) is = (λ e. below_all packet held is, λ l. lt-ltb 0 (suc (length held)) (omega arith))

    pub left_by : (has_packets q ≡ true) ↔ (done < length (chunks_in sizes packets))
    left_by =
        let n : length q.packets.items ≡ length (packets_in q) = sym (length-map q.packets.items (λ p. p.items)) in
        subst (λ (m : ℕ). (nat_lt 0 m ≡ true) ↔ (done < length (chunks_in sizes packets))) (sym n) (by_held (packets_in q) refl)

    -- so the first packet is there
    pub held_of : done < length (chunks_in sizes packets) → (packet : List ℕ) × (held : List (List ℕ)) × (packets_in q ≡ packet ∷ held)
    held_of l = by (packets_in q) refl
      where
        by : (ps : List (List ℕ)) → packets_in q ≡ ps → (packet : List ℕ) × (held : List (List ℕ)) × (packets_in q ≡ packet ∷ held)
        by [] is = absurd (let none : length (drop done (chunks_in sizes packets)) ≡ 0 = ap length (h.left ∙ ap (λ ps. chunks_left sizes ps q.taken) is) in let n = length-drop done (chunks_in sizes packets) in omega arith)
        by (packet ∷ held) is = (packet, held, is)

-- ---- the first packet that is held

first_is : (xs : List (Vec ℕ Global)) (v : Vec ℕ Global) (packet : List ℕ) (held : List (List ℕ)) → v ≡ get_or xs 0 v → map (λ p. p.items) xs ≡ packet ∷ held → v.items ≡ packet
first_is [] v packet held e is = let no : [] ≡ packet ∷ held = is in cc
first_is (x ∷ xs) v packet held e is = let same : x.items ≡ packet = (let f : x.items ∷ map (λ p. p.items) xs ≡ packet ∷ held = is in cc) in ap (λ p. p.items) e ∙ same

pub rest_is : (xs : List (Vec ℕ Global)) (packet : List ℕ) (held : List (List ℕ)) → map (λ p. p.items) xs ≡ packet ∷ held → map (λ p. p.items) (drop 1 xs) ≡ held
rest_is [] packet held is = let no : [] ≡ packet ∷ held = is in cc
rest_is (x ∷ xs) packet held is = let f : x.items ∷ map (λ p. p.items) xs ≡ packet ∷ held = is in cc

pub packet_is : (q : Waiting) (v : Vec ℕ Global) (packet : List ℕ) (held : List (List ℕ)) → v ≡ get_or q.packets.items 0 v → packets_in q ≡ packet ∷ held → v.items ≡ packet
packet_is q v packet held e is = first_is q.packets.items v packet held e is

pub some_held : (q : Waiting) (packet : List ℕ) (held : List (List ℕ)) → packets_in q ≡ packet ∷ held → 0 < length q.packets.items
some_held q packet held is = by q.packets.items is
  where
    by : (xs : List (Vec ℕ Global)) → map (λ p. p.items) xs ≡ packet ∷ held → 0 < length xs
    by [] e = let no : [] ≡ packet ∷ held = e in cc
    by (x ∷ xs) e = omega arith
