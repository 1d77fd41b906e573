-- What the lanes of a link hold as they are sent.
use Rattle.std.specs.Prelude.{ℕ, Bool, List}
use Rattle.lk_base.specs.Link.{Settings}
use Rattle.tx_end.specs.declared.lane_writer.LaneWriter.{LaneWriter}

-- one lane
pub record Lane : Type 0 where
  pub writer : LaneWriter
  -- its bytes that are made and not taken, the next first
  pub waiting : List ℕ

-- all lanes, in order
pub record Lanes : Type 0 where
  pub link : Settings
  pub lanes : List Lane
  -- the place of the next words in their metaframe, one for all lanes
  pub place : ℕ
  -- each lane has its last byte
  pub ended : Bool

abbrev pub lanes_of : Settings → List Lane → ℕ → Bool → Lanes
lanes_of link lanes place ended = record { link = link; lanes = lanes; place = place; ended = ended }
