-- The words of a lane by position, for its payload words.
use Rattle.std.specs.Prelude.{ℕ, ◌+◌, ◌*◌, ◌/◌, ◌%◌, Bool, List, get_or, map, bit_xor}
use Rattle.std.specs.List.{range_with_len}
use Rattle.lk_base.specs.declared.word.Word.{Word}
use Rattle.lk_base.specs.declared.word.Word.TheVariants.{Data, Control}
use Rattle.lk_base.specs.Words.{payload}
use Rattle.lk_base.specs.Checksum.{crc32, bits_of_words}
use Rattle.lk_base.specs.Link.{Settings}
use Rattle.lane_model.specs.declared.role.Role.{Role}
use Rattle.lane_model.specs.declared.role.Role.TheVariants.{Sync, State, Skip, Payload, Diagnostic}
use Rattle.lane_model.specs.Framing.{payloads, role_of, sync_payload, skip_payload, state_payload, diagnostic_payload}
use Rattle.lane_model.specs.Key.{state_before, key_word, key_place}

-- the word with its payload xored; its header is not scrambled
abbrev pub scrambled : ℕ → Word → Word
scrambled key (Data x) = Data (bit_xor x key)
scrambled key (Control x) = Control (bit_xor x key)

-- payload number n of the metaframe in which this position is
abbrev pub payload_at : Settings → List Word → ℕ → ℕ → Word
payload_at s sent position n = get_or sent (position / s.metaframe * payloads s + n) (Data 0)

-- what a CRC32 covers of the word of this role: its payload before it is scrambled, with the state and the CRC32 as zeros
abbrev pub covered_as : Role → (ℕ → Word) → ℕ
covered_as Sync words = sync_payload
covered_as State words = state_payload 0
covered_as Skip words = skip_payload
covered_as (Payload n) words = payload (words n)
covered_as Diagnostic words = diagnostic_payload 0

abbrev pub covered_at : Settings → List Word → ℕ → ℕ
covered_at s sent position = covered_as (role_of s (position % s.metaframe)) (payload_at s sent position)

-- the CRC32 of metaframe number m
unfoldable pub metaframe_crc : Settings → List Word → ℕ → ℕ
metaframe_crc s sent m = crc32 (bits_of_words (map (covered_at s sent) (range_with_len (m * s.metaframe) s.metaframe)))

-- the word of this role, given the state, the metaframe's payload words and its CRC32
abbrev pub framed_as : Role → ℕ → (ℕ → Word) → ℕ → Word
framed_as Sync state words crc = Control sync_payload
framed_as State state words crc = Control (state_payload state)
framed_as Skip state words crc = Control skip_payload
framed_as (Payload n) state words crc = words n
framed_as Diagnostic state words crc = Control (diagnostic_payload crc)

-- the word at this position before it is scrambled; a Scrambler State word carries the state at its moment
unfoldable pub framed_at : Settings → List Bool → List Word → ℕ → Word
framed_at s start sent position =
    framed_as (role_of s (position % s.metaframe)) (state_before start (key_place s.metaframe position)) (payload_at s sent position)
    (metaframe_crc s sent (position / s.metaframe))

-- Sync and Scrambler State words are sent as they are, and every other word is xored with its key bits
abbrev pub scrambled_as : Role → ℕ → Word → Word
scrambled_as Sync key word = word
scrambled_as State key word = word
scrambled_as Skip key word = scrambled key word
scrambled_as (Payload n) key word = scrambled key word
scrambled_as Diagnostic key word = scrambled key word

-- the word at this position as it is sent
unfoldable pub sent_at : Settings → List Bool → List Word → ℕ → Word
sent_at s start sent position =
    scrambled_as (role_of s (position % s.metaframe)) (key_word start (key_place s.metaframe position)) (framed_at s start sent position)

-- the words of this many metaframes
unfoldable pub lane_words : Settings → List Bool → List Word → ℕ → List Word
lane_words s start sent metaframes = map (sent_at s start sent) (range_with_len 0 (metaframes * s.metaframe))
