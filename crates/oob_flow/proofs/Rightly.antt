-- A frame that was sent is read as the words of its states.
use Rattle.std.proofs.Common.{◌≡◌, ℕ, zero, suc, ◌+◌, ◌-◌, ◌*◌, ◌/◌, ◌<◌, ◌≤◌, ◌==◌, nat_lt, Bool, true, false, List, [], ◌∷◌, ◌++◌, length, take, drop, All, refl, sym, ap, ap₂, ◌∙◌, append_assoc, eq-eqb, arith}
use Rattle.std.specs.Int.{bit_at}
use Rattle.std.proofs.lemmas.Bool.Decides.{nat_tests}
use Rattle.std.proofs.lemmas.List.{length-append, length-take-le, length-drop, take_at, drop_at, drop-map}
use Rattle.std.proofs.lemmas.List.Elements.{All-nil, All-cons, All-append}
use Rattle.lk_base.specs.Checksum.{bits_of, digit}
use Rattle.stream_model.specs.declared.rows.FlowRow.{FlowRow}
use Rattle.oob_flow.specs.Frames.{block_sizes, block_checksum, block_bits, blocks_from, frame_bits}
use Rattle.oob_flow.specs.Taken.{Taken}
use Rattle.oob_flow.specs.Words.{spelled, block_words}
use Rattle.oob_flow.specs.Reading.{states_of, number_at, is_right, rows_at, rows_of_blocks, rows_of_frame}
use Rattle.oob_flow.proofs.Blocks.{total, total_sizes, block_length}
use Rattle.oob_flow.proofs.Steps.{states_length}

-- ---- the checksum of a block

four : (x : ℕ) → length (bits_of 4 x) ≡ 4
unfolding bits_of
four x = refl

bit_of : (r : ℕ) → r < 2 → digit (r == 1) ≡ r
bit_of zero h = refl
bit_of (suc zero) h = refl
bit_of (suc (suc r)) h = absurd (omega arith)

four_bits : (x : ℕ) → x < 16 → spelled (bits_of 4 x) ≡ x
unfolding spelled bits_of
four_bits x h =
    let a = bit_of (bit_at x 3) (omega arith) in
    let b = bit_of (bit_at x 2) (omega arith) in
    let c = bit_of (bit_at x 1) (omega arith) in
    let d = bit_of (bit_at x 0) (omega arith) in
    let one : x / 1 ≡ x = omega arith in
    rw (a, b, c, d) (omega (arith, one))

checksum_small : (states : List Bool) → block_checksum states < 16
unfolding block_checksum
checksum_small states = omega arith

front : (states more : List Bool) → take (length states) (block_bits states ++ more) ≡ states
unfolding block_bits
front states more = ap (take (length states)) (append_assoc states (bits_of 4 (block_checksum states)) more) ∙ take_at states (bits_of 4 (block_checksum states) ++ more) (length states) refl

check : (states more : List Bool) → take 4 (drop (length states) (block_bits states ++ more)) ≡ bits_of 4 (block_checksum states)
unfolding block_bits
check states more =
    ap (λ (bits : List Bool). take 4 (drop (length states) bits)) (append_assoc states (bits_of 4 (block_checksum states)) more)
    ∙ ap (take 4) (drop_at states (bits_of 4 (block_checksum states) ++ more) (length states) refl)
    ∙ take_at (bits_of 4 (block_checksum states)) more 4 (four (block_checksum states))

behind : (states more : List Bool) → drop (length states + 4) (block_bits states ++ more) ≡ more
behind states more = drop_at (block_bits states) more (length states + 4) (block_length states)

sent_right : (size : ℕ) (states more bits : List Bool) → length states ≡ size → bits ≡ block_bits states ++ more → is_right size bits ≡ true
sent_right size states more bits len e =
    let c : take 4 (drop size bits) ≡ bits_of 4 (block_checksum states) = ap₂ (λ (n : ℕ) (v : List Bool). take 4 (drop n v)) (sym len) e ∙ check states more in
    let s : take size bits ≡ states = ap₂ (λ (n : ℕ) (v : List Bool). take n v) (sym len) e ∙ front states more in
    ap₂ (λ (u v : List Bool). spelled u == block_checksum v) c s ∙ eq-eqb (spelled (bits_of 4 (block_checksum states))) (block_checksum states) (four_bits (block_checksum states) (checksum_small states))

-- ---- the rows of a frame

-- the rows of blocks that are right: of states, by bits
abbrev pub right_rows : Bool → List ℕ → List Taken → List Bool → List FlowRow
right_rows is_first [] bits states = []
right_rows is_first (size ∷ sizes) bits states = rows_at (number_at bits (size + 3)) (block_words is_first (take size states)) ++ right_rows false sizes (drop (size + 4) bits) (drop size states)

pub blocks_right : (is_first : Bool) (sizes : List ℕ) (bits : List Taken) (states : List Bool) → total sizes ≤ length states → states_of bits ≡ blocks_from sizes states → rows_of_blocks is_first sizes bits ≡ right_rows is_first sizes bits states
blocks_right is_first [] bits states h e = refl
blocks_right is_first (size ∷ sizes) bits states h e =
    let first : length (take size states) ≡ size = length-take-le size states (omega arith) in
    let more : List Bool = blocks_from sizes (drop size states) in
    let len : length bits ≡ length (block_bits (take size states) ++ blocks_from sizes (drop size states)) = sym (states_length bits) ∙ ap length e in
    let block : length (block_bits (take size states)) ≡ length (take size states) + 4 = block_length (take size states) in
    let both : length (block_bits (take size states) ++ blocks_from sizes (drop size states)) ≡ length (block_bits (take size states)) + length (blocks_from sizes (drop size states)) = length-append (block_bits (take size states)) (blocks_from sizes (drop size states)) in
    let test : nat_lt (length bits) (size + 4) ≡ false = grind (arith, nat_tests) in
    let right : is_right size (states_of bits) ≡ true = sent_right size (take size states) more (states_of bits) first e in
    let own : take size (states_of bits) ≡ take size states = ap₂ (λ (n : ℕ) (v : List Bool). take n v) (sym first) e ∙ front (take size states) more in
    let rest : states_of (drop (size + 4) bits) ≡ blocks_from sizes (drop size states) =
    sym (drop-map (λ (b : Taken). b.state) (size + 4) bits) ∙ ap₂ (λ (n : ℕ) (v : List Bool). drop (n + 4) v) (sym first) e ∙ behind (take size states) more in
    let left : length (drop size states) ≡ length states - size = length-drop size states in
    rw (test, right, own) (ap (λ (rows : List FlowRow). rows_at (number_at bits (size + 3)) (block_words is_first (take size states)) ++ rows) (blocks_right false sizes (drop (size + 4) bits) (drop size states) (omega arith) rest))

pub frame_right : (entries : ℕ) (bits : List Taken) (states : List Bool) → length states ≡ entries → 1 ≤ entries → states_of bits ≡ frame_bits states → rows_of_frame entries bits ≡ right_rows true (block_sizes entries) bits states
unfolding rows_of_frame frame_bits
frame_right entries bits states len some e =
    let t = total_sizes entries some in
    blocks_right true (block_sizes entries) bits states (omega arith) (e ∙ ap (λ (n : ℕ). blocks_from (block_sizes n) states) len)

-- ---- the slots of the rows

-- bits whose numbers go up by two from n + 1 on
abbrev pub AreNumbered : ℕ → List Taken → Type 0
AreNumbered n bits = (i : ℕ) → i < length bits → number_at bits i ≡ n + 2 * i + 1

dropped : (bits : List Taken) (m i : ℕ) → number_at (drop m bits) i ≡ number_at bits (m + i)
dropped bits zero i = let e : i ≡ 0 + i = omega arith in ap (number_at bits) e
dropped [] (suc m) i = refl
dropped (b ∷ bits) (suc m) i = let e : suc m + i ≡ suc (m + i) = omega arith in dropped bits m i ∙ sym (ap (number_at (b ∷ bits)) e)

numbered_behind : (n m : ℕ) (bits : List Taken) → AreNumbered n bits → AreNumbered (n + 2 * m) (drop m bits)
numbered_behind n m bits h i l =
    let len : length (drop m bits) ≡ length bits - m = length-drop m bits in
    dropped bits m i ∙ h (m + i) (omega arith) ∙ omega arith

-- a slot is at or after one, and before another
abbrev pub IsBetween : ℕ → ℕ → FlowRow → Type 0
IsBetween low high row = (low ≤ row.slot) × (row.slot < high)

at_slot : (low high slot : ℕ) (words : List ℕ) → low ≤ slot → slot < high → All (IsBetween low high) (rows_at slot words)
at_slot low high slot [] h k = All-nil (IsBetween low high)
at_slot low high slot (w ∷ words) h k = All-cons (IsBetween low high) (record { slot = slot; word = w }) (rows_at slot words) (h, k) (at_slot low high slot words h k)

pub slots_between : (is_first : Bool) (sizes : List ℕ) (bits : List Taken) (states : List Bool) (n low high : ℕ) → AreNumbered n bits → total sizes + 4 * length sizes ≤ length bits
    → ((size : ℕ) (others : List ℕ) → sizes ≡ size ∷ others → low ≤ n + 2 * size + 7) → n + 2 * length bits ≤ high → All (IsBetween low high) (right_rows is_first sizes bits states)
slots_between is_first [] bits states n low high num len first last = All-nil (IsBetween low high)
slots_between is_first (size ∷ sizes) bits states n low high num len first last =
    let here : low ≤ n + 2 * size + 7 = first size sizes refl in
    let number : number_at bits (size + 3) ≡ n + 2 * (size + 3) + 1 = num (size + 3) (omega arith) in
    let left : length (drop (size + 4) bits) ≡ length bits - (size + 4) = length-drop (size + 4) bits in
    All-append (IsBetween low high) (rows_at (number_at bits (size + 3)) (block_words is_first (take size states))) (right_rows false sizes (drop (size + 4) bits) (drop size states))
    (at_slot low high (number_at bits (size + 3)) (block_words is_first (take size states)) (omega arith) (omega arith))
    (slots_between false sizes (drop (size + 4) bits) (drop size states) (n + 2 * (size + 4)) low high (numbered_behind n (size + 4) bits num) (omega arith) (λ s others e. omega arith) (omega arith))
