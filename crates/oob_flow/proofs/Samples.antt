-- Each sample of a frame is one.
use Rattle.std.proofs.Common.{ℕ, Bool, true, false, List, [], ◌∷◌, All, refl}
use Rattle.std.specs.Bool.{IsTrue}
use Rattle.std.specs.List.{flat_map}
use Rattle.std.proofs.lemmas.List.Elements.{All-nil, All-cons, All-append}
use Rattle.oob_flow.specs.Samples.{sample_of, is_sample}
use Rattle.oob_flow.specs.Frames.{frame_bits, frame_samples, bit_samples, samples_of_bits}

abbrev pub IsSample : ℕ → Type 0
IsSample sample = IsTrue (is_sample sample)

small : (clock state sync : Bool) → IsSample (sample_of clock state sync)
small true true true = refl
small true true false = refl
small true false true = refl
small true false false = refl
small false true true = refl
small false true false = refl
small false false true = refl
small false false false = refl

pair : (sync state : Bool) → All IsSample (bit_samples sync state)
pair sync state = All-cons IsSample (sample_of false state sync) (sample_of true state sync ∷ []) (small false state sync) (All-cons IsSample (sample_of true state sync) [] (small true state sync) (All-nil IsSample))

others : (bits : List Bool) → All IsSample (flat_map (bit_samples false) bits)
others [] = All-nil IsSample
others (b ∷ bits) = All-append IsSample (bit_samples false b) (flat_map (bit_samples false) bits) (pair false b) (others bits)

bits_are : (bits : List Bool) → All IsSample (samples_of_bits bits)
bits_are [] = All-nil IsSample
bits_are (b ∷ bits) = All-append IsSample (bit_samples true b) (flat_map (bit_samples false) bits) (pair true b) (others bits)

pub frame_is : (states : List Bool) → All IsSample (frame_samples states)
unfolding frame_samples
frame_is states = bits_are (frame_bits states)
