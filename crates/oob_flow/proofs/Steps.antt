-- What one more bit gives.
use Rattle.std.proofs.Common.{◌≡◌, ℕ, zero, suc, ◌+◌, ◌-◌, ◌<◌, ◌≤◌, min, ◌==◌, nat_lt, Bool, true, false, List, [], ◌∷◌, ◌++◌, length, take, drop, refl, sym, ap, ap₂, ◌∙◌, append_assoc, append-nil, eq-eqb, arith}
use Rattle.std.proofs.lemmas.Bool.Decides.{nat_tests}
use Rattle.std.proofs.lemmas.List.{length-append, length-map, map-append, take-append-le, drop-append-le, drop_at, length-drop}
use Rattle.stream_model.specs.declared.rows.FlowRow.{FlowRow}
use Rattle.oob_flow.specs.Frames.{sizes_left, block_checksum}
use Rattle.oob_flow.specs.Taken.{Taken, until_sync}
use Rattle.oob_flow.specs.Words.{spelled, block_words}
use Rattle.oob_flow.specs.Reading.{states_of, number_at, is_right, rows_at, rows_of_blocks, rows_of_frame, rows_of_bits}
use Rattle.oob_flow.specs.Receiving.{rows_ahead}
use Rattle.oob_flow.proofs.Blocks.{sizes_some, sizes_step}

pub no_bits : (entries : ℕ) → rows_of_bits entries [] ≡ []
unfolding rows_of_bits
no_bits entries = refl

pub sync_bit : (entries : ℕ) (b : Taken) (bits : List Taken) → b.sync ≡ true → rows_of_bits entries (b ∷ bits) ≡ rows_of_frame entries (b ∷ until_sync bits) ++ rows_of_bits entries bits
unfolding rows_of_bits
sync_bit entries b bits h = rw h refl

pub other_bit : (entries : ℕ) (b : Taken) (bits : List Taken) → b.sync ≡ false → rows_of_bits entries (b ∷ bits) ≡ rows_of_bits entries bits
unfolding rows_of_bits
other_bit entries b bits h = rw h refl

pub until_here : (b : Taken) (bits : List Taken) → b.sync ≡ true → until_sync (b ∷ bits) ≡ []
until_here b bits h = rw h refl

pub until_later : (b : Taken) (bits : List Taken) → b.sync ≡ false → until_sync (b ∷ bits) ≡ b ∷ until_sync bits
until_later b bits h = rw h refl

-- ---- what stands in front of other bits

pub number_left : (bits more : List Taken) (i : ℕ) → i < length bits → number_at (bits ++ more) i ≡ number_at bits i
number_left [] more i h = absurd (omega arith)
number_left (b ∷ bits) more zero h = refl
number_left (b ∷ bits) more (suc i) h = number_left bits more i (omega arith)

pub states_append : (bits more : List Taken) → states_of (bits ++ more) ≡ states_of bits ++ states_of more
states_append bits more = map-append (λ (b : Taken). b.state) bits more

pub states_length : (bits : List Taken) → length (states_of bits) ≡ length bits
states_length bits = length-map bits (λ (b : Taken). b.state)

states_left : (size : ℕ) (bits more : List Taken) → size ≤ length bits → take size (states_of (bits ++ more)) ≡ take size (states_of bits)
states_left size bits more h =
    let len : length (states_of bits) ≡ length bits = states_length bits in
    ap (take size) (states_append bits more) ∙ take-append-le size (states_of bits) (states_of more) (omega arith)

same_right : (size : ℕ) (bits more : List Taken) → length bits ≡ size + 4 → is_right size (states_of (bits ++ more)) ≡ is_right size (states_of bits)
same_right size bits more h =
    let len : length (states_of bits) ≡ length bits = states_length bits in
    let dropped : drop size (states_of (bits ++ more)) ≡ drop size (states_of bits) ++ states_of more = ap (drop size) (states_append bits more) ∙ drop-append-le size (states_of bits) (states_of more) (omega arith) in
    let four : length (drop size (states_of bits)) ≡ length (states_of bits) - size = length-drop size (states_of bits) in
    let check : take 4 (drop size (states_of (bits ++ more))) ≡ take 4 (drop size (states_of bits)) = ap (take 4) dropped ∙ take-append-le 4 (drop size (states_of bits)) (states_of more) (omega arith) in
    ap₂ (λ (c s : List Bool). spelled c == block_checksum s) check (states_left size bits more (omega arith))

-- ---- blocks

-- a block that is not whole gives nothing
pub short_block : (is_first : Bool) (size : ℕ) (sizes : List ℕ) (bits : List Taken) → length bits < size + 4 → rows_of_blocks is_first (size ∷ sizes) bits ≡ []
short_block is_first size sizes bits h = let test : nat_lt (length bits) (size + 4) ≡ true = grind (arith, nat_tests) in rw test refl

pub not_whole : (is_first : Bool) (left : ℕ) (bits : List Taken) → length bits < min 64 left + 4 → rows_of_blocks is_first (sizes_left left) bits ≡ []
not_whole is_first zero bits h = refl
not_whole is_first (suc n) bits h =
    ap (λ (sizes : List ℕ). rows_of_blocks is_first sizes bits) (sizes_step (suc n) (omega arith)) ∙ short_block is_first (min 64 (suc n)) (sizes_left (suc n - min 64 (suc n))) bits h

-- a whole block that is right, with what comes after it
pub right_block : (is_first : Bool) (size : ℕ) (sizes : List ℕ) (bits more : List Taken) → length bits ≡ size + 4 → is_right size (states_of bits) ≡ true
    → rows_of_blocks is_first (size ∷ sizes) (bits ++ more) ≡ rows_at (number_at bits (size + 3)) (block_words is_first (take size (states_of bits))) ++ rows_of_blocks false sizes more
right_block is_first size sizes bits more len right =
    let both : length (bits ++ more) ≡ length bits + length more = length-append bits more in
    let test : nat_lt (length (bits ++ more)) (size + 4) ≡ false = grind (arith, nat_tests) in
    rw (test, same_right size bits more len, right, number_left bits more (size + 3) (omega arith), states_left size bits more (omega arith), drop_at bits more (size + 4) len) refl

-- a whole block that is wrong
pub wrong_block : (is_first : Bool) (size : ℕ) (sizes : List ℕ) (bits more : List Taken) → length bits ≡ size + 4 → is_right size (states_of bits) ≡ false
    → rows_of_blocks is_first (size ∷ sizes) (bits ++ more) ≡ rows_at (number_at bits (size + 3)) (0 ∷ [])
wrong_block is_first size sizes bits more len wrong =
    let both : length (bits ++ more) ≡ length bits + length more = length-append bits more in
    let test : nat_lt (length (bits ++ more)) (size + 4) ≡ false = grind (arith, nat_tests) in
    rw (test, same_right size bits more len, wrong, number_left bits more (size + 3) (omega arith)) refl

-- ---- what bits to come give

-- a sync bit begins a frame
pub at_sync : (entries left : ℕ) (open_bits : List Taken) (b : Taken) (more : List Taken) → 1 ≤ entries → length open_bits < min 64 left + 4 → b.sync ≡ true
    → rows_ahead entries left open_bits (b ∷ more) ≡ rows_ahead entries entries (b ∷ []) more
unfolding rows_ahead rows_of_frame
at_sync entries left open_bits b more low short sync =
    let same : (entries == entries) ≡ true = eq-eqb entries entries refl in
    ap (λ (bits : List Taken). rows_of_blocks (left == entries) (sizes_left left) (open_bits ++ bits) ++ rows_of_bits entries (b ∷ more)) (until_here b more sync)
    ∙ ap (λ (bits : List Taken). rows_of_blocks (left == entries) (sizes_left left) bits ++ rows_of_bits entries (b ∷ more)) (append-nil open_bits)
    ∙ ap (λ (rows : List FlowRow). rows ++ rows_of_bits entries (b ∷ more)) (not_whole (left == entries) left open_bits short)
    ∙ sync_bit entries b more sync
    ∙ ap₂ (λ (first : Bool) (sizes : List ℕ). rows_of_blocks first sizes (b ∷ until_sync more) ++ rows_of_bits entries more) (sym same) (sym (sizes_some entries low))

-- another bit goes to the open block
pub at_other : (entries left : ℕ) (open_bits : List Taken) (b : Taken) (more : List Taken) → b.sync ≡ false
    → rows_ahead entries left open_bits (b ∷ more) ≡ rows_ahead entries left (open_bits ++ b ∷ []) more
unfolding rows_ahead
at_other entries left open_bits b more other =
    ap₂ (λ (bits : List Taken) (rows : List FlowRow). rows_of_blocks (left == entries) (sizes_left left) bits ++ rows)
    (ap (λ (bits : List Taken). open_bits ++ bits) (until_later b more other) ∙ sym (append_assoc open_bits (b ∷ []) (until_sync more)))
    (other_bit entries b more other)

-- where no entry is left the bits of the open block do not matter
pub none_left : (entries : ℕ) (first second more : List Taken) → rows_ahead entries 0 first more ≡ rows_ahead entries 0 second more
unfolding rows_ahead
none_left entries first second more = refl

-- the open block is whole and right
pub at_right : (entries left : ℕ) (open_bits more : List Taken) → 1 ≤ left → left ≤ entries → length open_bits ≡ min 64 left + 4 → is_right (min 64 left) (states_of open_bits) ≡ true
    → rows_ahead entries left open_bits more ≡ rows_at (number_at open_bits (min 64 left + 3)) (block_words (left == entries) (take (min 64 left) (states_of open_bits))) ++ rows_ahead entries (left - min 64 left) [] more
unfolding rows_ahead
at_right entries left open_bits more some within len right =
    let size : ℕ = min 64 left in
    let less : left - min 64 left < entries = omega arith in
    let later : ((left - min 64 left) == entries) ≡ false = grind (arith, nat_tests) in
    let rows : List FlowRow = rows_at (number_at open_bits (min 64 left + 3)) (block_words (left == entries) (take (min 64 left) (states_of open_bits))) in
    ap (λ (sizes : List ℕ). rows_of_blocks (left == entries) sizes (open_bits ++ until_sync more) ++ rows_of_bits entries more) (sizes_step left some)
    ∙ ap (λ (xs : List FlowRow). xs ++ rows_of_bits entries more) (right_block (left == entries) (min 64 left) (sizes_left (left - min 64 left)) open_bits (until_sync more) len right)
    ∙ append_assoc rows (rows_of_blocks false (sizes_left (left - min 64 left)) (until_sync more)) (rows_of_bits entries more)
    ∙ ap (λ (first : Bool). rows ++ (rows_of_blocks first (sizes_left (left - min 64 left)) (until_sync more) ++ rows_of_bits entries more)) (sym later)

-- the open block is whole and wrong
pub at_wrong : (entries left : ℕ) (open_bits more : List Taken) → 1 ≤ left → length open_bits ≡ min 64 left + 4 → is_right (min 64 left) (states_of open_bits) ≡ false
    → rows_ahead entries left open_bits more ≡ rows_at (number_at open_bits (min 64 left + 3)) (0 ∷ []) ++ rows_ahead entries 0 [] more
unfolding rows_ahead
at_wrong entries left open_bits more some len wrong =
    ap (λ (sizes : List ℕ). rows_of_blocks (left == entries) sizes (open_bits ++ until_sync more) ++ rows_of_bits entries more) (sizes_step left some)
    ∙ ap (λ (xs : List FlowRow). xs ++ rows_of_bits entries more) (wrong_block (left == entries) (min 64 left) (sizes_left (left - min 64 left)) open_bits (until_sync more) len wrong)

-- nothing comes any more
pub at_end : (entries left : ℕ) (open_bits : List Taken) → length open_bits < min 64 left + 4 → rows_ahead entries left open_bits [] ≡ []
unfolding rows_ahead
at_end entries left open_bits short =
    ap₂ (λ (a b : List FlowRow). a ++ b) (ap (rows_of_blocks (left == entries) (sizes_left left)) (append-nil open_bits) ∙ not_whole (left == entries) left open_bits short) (no_bits entries)

-- before the first bit
pub at_start : (entries : ℕ) (more : List Taken) → rows_of_bits entries more ≡ rows_of_bits entries [] ++ rows_ahead entries 0 [] more
unfolding rows_ahead
at_start entries more = sym (ap (λ (rows : List FlowRow). rows ++ rows_of_bits entries more) (no_bits entries))
