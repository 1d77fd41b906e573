-- Worked places.
use Rattle.std.specs.Prelude.{ℕ}
use Rattle.lk_base.specs.Link.{Settings}
use Rattle.c_plan.specs.declared.places.LaneBit.{LaneBit}

-- two lanes, with metaframes of 32 words: a group has 56
abbrev pub two_lanes : Settings
two_lanes = record { lanes = 2; metaframe = 32; skips = 1; burst_max = 256; burst_short = 64; deskew = 7; warmup = 8; max_packet = 262144 }

abbrev pub at : ℕ → ℕ → LaneBit
at lane bit = record { lane = lane; bit = bit }
