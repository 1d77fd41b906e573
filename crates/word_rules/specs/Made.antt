-- The channels before any word.
use Rattle.std.specs.Prelude.{ℕ, ◌≡◌, ◌<◌, Bool, List, get_or, None}
use Rattle.word_rules.specs.declared.channel.ChannelState.{ChannelState}
use Rattle.word_rules.specs.Rules.{is_listed}
use Rattle.word_rules.specs.Channels.{none_kept}

-- a channel of which nothing is kept, listed or not
abbrev pub unused : Bool → ChannelState
unused listed = record { since = 0; going = None; packet = None; listed = listed }

-- nothing is kept of any channel, and these are listed
abbrev pub AreUnused : List ChannelState → List ℕ → Type 0
AreUnused kept channels = (channel : ℕ) → channel < 65536 → get_or kept channel none_kept ≡ unused (is_listed channels channel)
