-- What rows tell of channels, one entry at a time, and which entries change a channel's state.
use Rattle.std.specs.Prelude.{ℕ, ◌-◌, Bool, List, [], ◌∷◌, ◌++◌, map, reverse, filter, if◌then◌else◌, ◌==◌, slice_index}
use Rattle.std.specs.Int.{bit_at}
use Rattle.lk_base.specs.Checksum.{differ}
use Rattle.stream_model.specs.Calendar.{Told, on_by_latest, told_by}
use Rattle.stream_model.specs.declared.rows.FlowRow.{FlowRow}
use Rattle.calendar.specs.declared.change.Change.{Change}

-- the words of rows, the latest first
abbrev pub words_back : List FlowRow → List ℕ
words_back rows = reverse (map (λ (row : FlowRow). row.word) rows)

-- all that rows tell, the latest first
abbrev pub told_back : List ℕ → List FlowRow → List Told
told_back entries rows = reverse (told_by entries rows)

-- a channel's state by all that was told, the latest first
abbrev pub state_in : List Told → ℕ → Bool
state_in told channel = on_by_latest (filter (λ (e : Told). e.channel == channel) told)

-- a channel is on or off from now on
abbrev pub change : ℕ → Bool → Change
change channel on = record { channel = channel; on = on }

-- the change that an entry makes after all that was told, if it makes one
abbrev pub change_of : List Told → Told → List Change
change_of told e = if differ e.on (state_in told e.channel) then change e.channel e.on ∷ [] else []

-- the changes that entries make in order after all that was told
abbrev pub changes : List Told → List Told → List Change
changes told [] = []
changes told (e ∷ es) = change_of told e ++ changes (e ∷ told) es

-- what the flow bits tell of a word's entries: entry i is bit 15 - i
abbrev pub told_by_bits : ℕ → ℕ → List ℕ → ℕ → ℕ → Told
told_by_bits slot row entries flow i = record { slot = slot; row = row; place = i; channel = slice_index entries i; on = bit_at flow (15 - i) == 1 }
