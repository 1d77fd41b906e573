-- The law on any calls, in any order.
use Rattle.std.specs.Prelude.{ℕ, ◌≡◌, ◌*◌, ◌==◌, ◌++◌, List, [], ◌∷◌, length, Result, Ok, Err, if◌then◌else◌}
use Rattle.lk_base.specs.Checksum.{bits_of_bytes}
use Rattle.lane_model.specs.Damage.{LaneDamage, damaged_bits}
use Rattle.lane_damage.specs.OnWay.{OnWay, dark_from, unharmed, with_dark, with_flip}
use Rattle.lane_damage.specs.Calls.{AreUntouched, IsApplyOf, IsDarkOf, IsFlipOf}
use Rattle.lane_damage.specs.declared.refused.Refused.{Refused}

-- a call, with its arguments and its answer
pub data Call : Type 0 where
  Flip : (lane bit : ℕ) (answer : Result (Unit {0}) Refused) → Call
  Dark : (lane first count : ℕ) (answer : Result (Unit {0}) Refused) → Call
  -- the bytes that were given, and those that they became
  Apply : (lane : ℕ) (old new : List ℕ) (answer : Result (Unit {0}) Refused) → Call

-- a call leads from these lanes to those
abbrev pub Leads : Call → List OnWay → List OnWay → Type 0
Leads (Flip lane bit answer) vs ws = IsFlipOf vs ws lane bit answer
Leads (Dark lane first count answer) vs ws = IsDarkOf vs ws lane first count answer
Leads (Apply lane old new answer) vs ws = IsApplyOf vs ws lane old new answer

-- calls one after another
abbrev pub AreCalls : List OnWay → List Call → List OnWay → Type 0
AreCalls vs [] ws = vs ≡ ws
AreCalls vs (call ∷ calls) ws = (us : List OnWay) × Leads call vs us × AreCalls us calls ws

-- of one lane: its bytes as they were given, as they were received, and all that was to happen to it by the calls that were not refused
pub record Account : Type 0 where
  pub sent : List ℕ
  pub received : List ℕ
  pub damage : LaneDamage

-- of a stretch those of its bits are dark that had not passed
abbrev pub taken : Call → Account → Account
taken (Flip lane bit (Ok u)) a = record a { damage = with_flip bit a.damage }
taken (Flip lane bit (Err why)) a = a
taken (Dark lane first count (Ok u)) a = record a { damage = with_dark (dark_from (8 * length a.sent) first count) a.damage }
taken (Dark lane first count (Err why)) a = a
taken (Apply lane old new (Ok u)) a = record a { sent = a.sent ++ old; received = a.received ++ new }
taken (Apply lane old new (Err why)) a = a

abbrev pub lane_of : Call → ℕ
lane_of (Flip lane bit answer) = lane
lane_of (Dark lane first count answer) = lane
lane_of (Apply lane old new answer) = lane

-- the account of a lane after further calls, on whatever lanes
abbrev pub account : ℕ → List Call → Account → Account
account lane [] a = a
account lane (call ∷ calls) a = account lane calls (if lane_of call == lane then taken call a else a)

abbrev pub no_account : Account
no_account = record { sent = []; received = []; damage = unharmed }

-- After any calls the bytes of a lane, joined, are those of the damaged lane: each bit of the joined bytes that were given is
-- 0 where a dark stretch covers it, else inverted where an odd number of flips names it
abbrev pub JoinsToTheDamagedLane : Type 0
JoinsToTheDamagedLane = (lanes lane : ℕ) (vs ws : List OnWay) (calls : List Call) → AreUntouched lanes vs → AreCalls vs calls ws →
    let a = account lane calls no_account in bits_of_bytes a.received ≡ damaged_bits a.damage (bits_of_bytes a.sent)
