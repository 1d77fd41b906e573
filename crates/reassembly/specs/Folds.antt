-- Data words that come one after another, part by part: folds of what one word does.
use Rattle.std.specs.Prelude.{ℕ, Bool, true, cond, ◌&&◌, nat_lt, List, [], ◌∷◌, length, is_some}
use Rattle.reassembly.specs.declared.stretch.Stretch.{Stretch}
use Rattle.reassembly.specs.Packets.{grown}
use Rattle.reassembly.specs.States.{Row, State, with_stretch, with_table}
use Rattle.reassembly.specs.Parts.{open_burst}
use Rattle.reassembly.specs.Steps.{change, with_data, with_data_word, with_word}

-- the bytes with these words more, each kept where the bytes before it are fewer than the greatest length
abbrev pub grown_by : ℕ → List ℕ → List ℕ → List ℕ
grown_by greatest bytes [] = bytes
grown_by greatest bytes (x ∷ xs) = grown_by greatest (grown greatest bytes x) xs

-- each of these words is kept
abbrev pub are_kept : ℕ → List ℕ → List ℕ → Bool
are_kept greatest bytes [] = true
are_kept greatest bytes (x ∷ xs) = nat_lt (length bytes) greatest && are_kept greatest (grown greatest bytes x) xs

-- an open packet goes on with these words
abbrev pub with_words : ℕ → List ℕ → Row → Row
with_words max_packet [] r = r
with_words max_packet (x ∷ xs) r = with_words max_packet xs (with_word max_packet x r)

-- the stretch goes on with these words
abbrev pub with_all_data : List ℕ → Stretch → Stretch
with_all_data [] s = s
with_all_data (x ∷ xs) s = with_all_data xs (with_data x s)

-- these data words come
abbrev pub with_data_words : State → List ℕ → State
with_data_words r [] = r
with_data_words r (x ∷ xs) = with_data_words (with_data_word r x) xs

-- the same, part by part: the burst's channel is looked up once
abbrev pub with_data_at_once : State → List ℕ → State
with_data_at_once r xs =
    with_table (cond (is_some r.stretch.opened) (change (open_burst r.wide r.run) (with_words r.max_packet xs) r.table) r.table)
    (with_stretch (with_all_data xs r.stretch) r)
