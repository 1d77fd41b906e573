-- The closed bursts before a Control word, and what they say of a channel.
use Rattle.std.specs.Prelude.{ℕ, suc, ◌+◌, ◌-◌, ◌*◌, ◌==◌, Bool, ◌&&◌, cond, List, [], ◌∷◌, filter, Option, Some, None}
use Rattle.std.specs.Option.{option_map}
use Rattle.lk_base.specs.declared.word.RxWord.{RxWord}
use Rattle.lk_base.specs.declared.word.RxWord.TheVariants.{Data, Control, Bad}
use Rattle.lk_base.specs.Fields.{is_control_word, has_sop, has_end, channel_number}
use Rattle.control_words.specs.declared.fields.Eop.{Eop}
use Rattle.control_words.specs.declared.fields.Eop.TheVariants as eops
use Rattle.word_rules.specs.declared.burst.Burst.{Burst}
use Rattle.word_rules.specs.Places.{is_burst_word}

-- The bursts of words of which none is Bad, the last first, where `n` Data words come after them and then the Control word
-- `next`. Since no word is Bad, the first Control word after a burst word closes its burst.
abbrev pub bursts_from : ℕ → ℕ → List RxWord → List Burst
bursts_from next n [] = []
bursts_from next n (Data x ∷ earlier) = bursts_from next (suc n) earlier
bursts_from next n (Control x ∷ earlier) =
    cond (is_burst_word x)
    (record { word = x; size = n; closer = next } ∷ bursts_from x 0 earlier)
    (bursts_from x 0 earlier)
bursts_from next n (Bad ∷ earlier) = []

-- the bursts of one channel before the Control word x, the last first
abbrev pub bursts_on : Bool → ℕ → ℕ → List RxWord → List Burst
bursts_on wide channel x earlier = filter (λ (b : Burst). channel_number wide b.word == channel) (bursts_from x 0 earlier)

-- an accepted control word with an end format; an end with error is one
abbrev pub ends : ℕ → Bool
ends x = is_control_word x && has_end x

-- an accepted control word with an end format closes the burst
abbrev pub is_ended : Burst → Bool
is_ended b = ends b.closer

-- The bytes of a burst of n Data words, by how the data before the word that closes it end: 8 * n, less 8 - v where its last word
-- has v valid bytes. An end with error does not say how many are valid.
abbrev pub burst_bytes : ℕ → Eop → ℕ
burst_bytes n eops.Going = 8 * n
burst_bytes n (eops.End v) = 8 * n - (8 - v)
burst_bytes n eops.Error = 8 * n

-- the bytes of bursts, each counted whole
abbrev pub whole_bytes : List Burst → ℕ
whole_bytes [] = 0
whole_bytes (b ∷ bursts) = 8 * b.size + whole_bytes bursts

-- of bursts, the last first, those from the last one with SOP on, if one has SOP
abbrev pub since_sop : List Burst → Option (List Burst)
since_sop [] = None
since_sop (b ∷ bursts) = cond (has_sop b.word) (Some (b ∷ [])) (option_map (λ (rest : List Burst). b ∷ rest) (since_sop bursts))
