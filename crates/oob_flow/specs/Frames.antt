-- A frame of out-of-band status: the states of a calendar's entries in blocks, each with four checksum bits, and the
-- samples that carry its bits.
use Rattle.std.specs.Prelude.{ℕ, zero, suc, ◌+◌, ◌-◌, ◌*◌, ◌/◌, ◌%◌, Bool, true, false, List, [], ◌∷◌, ◌++◌, length, take, drop, replicate}
use Rattle.std.specs.List.{flat_map}
use Rattle.lk_base.specs.Checksum.{bits_of, checksum}
use Rattle.oob_flow.specs.Samples.{sample_of}

-- the entries of each block: blocks of 64, and a last block of 1 to 64
unfoldable pub block_sizes : ℕ → List ℕ
block_sizes entries = replicate ((entries - 1) / 64) 64 ++ ((entries - 1) % 64 + 1) ∷ []

-- the sizes of the blocks of the entries that are left; no block where no entry is
abbrev pub sizes_left : ℕ → List ℕ
sizes_left zero = []
sizes_left (suc n) = block_sizes (suc n)

-- the checksum of the states of a block: four bits, by the polynomial 3
unfoldable pub block_checksum : List Bool → ℕ
block_checksum states = checksum 4 3 states

-- a block: its states, and then the bits of its checksum, the highest first
unfoldable pub block_bits : List Bool → List Bool
block_bits states = states ++ bits_of 4 (block_checksum states)

-- the blocks of these sizes, one after another
abbrev pub blocks_from : List ℕ → List Bool → List Bool
blocks_from [] states = []
blocks_from (size ∷ sizes) states = block_bits (take size states) ++ blocks_from sizes (drop size states)

-- the bits of a frame that shows these states
unfoldable pub frame_bits : List Bool → List Bool
frame_bits states = blocks_from (block_sizes (length states)) states

-- a bit is two samples, clock 0 and then 1, with the same data and the same sync
abbrev pub bit_samples : Bool → Bool → List ℕ
bit_samples sync state = sample_of false state sync ∷ sample_of true state sync ∷ []

-- sync is 1 on the first bit and 0 on all others
abbrev pub samples_of_bits : List Bool → List ℕ
samples_of_bits [] = []
samples_of_bits (first ∷ others) = bit_samples true first ++ flat_map (bit_samples false) others

-- the samples of a frame that shows these states
unfoldable pub frame_samples : List Bool → List ℕ
frame_samples states = samples_of_bits (frame_bits states)

-- how many samples a frame of n entries has: two for each entry and for each checksum bit
unfoldable pub frame_length : ℕ → ℕ
frame_length entries = 2 * (entries + 4 * length (block_sizes entries))
