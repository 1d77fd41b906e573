-- The words of a metaframe by position.
use Rattle.std.specs.Prelude.{ℕ, ◌+◌, ◌-◌, ◌*◌, ◌^◌, ◌==◌, if◌then◌else◌, nat_le}
use Rattle.lk_base.specs.Link.{Settings}
use Rattle.lane_model.specs.declared.role.Role.{Role}
use Rattle.lane_model.specs.declared.role.Role.TheVariants as roles

-- the payload words of a metaframe on one lane
abbrev pub payloads : Settings → ℕ
payloads s = s.metaframe - s.skips - 3

-- the role of a position below the length of a metaframe: position 0 is Sync and 1 Scrambler State, then come the Skip
-- words, then payload words numbered from 0, and the last position is Diagnostic
unfoldable pub role_of : Settings → ℕ → Role
role_of s position =
    if position == 0 then roles.Sync else
    if position == 1 then roles.State else
    if nat_le position (s.skips + 1) then roles.Skip else
    if nat_le position (s.metaframe - 2) then roles.Payload (position - (s.skips + 2)) else
    roles.Diagnostic

abbrev pub sync_payload : ℕ
sync_payload = 0x78F678F678F678F6

abbrev pub skip_payload : ℕ
skip_payload = 0x1E1E1E1E1E1E1E1E

-- bits 63:58 of a Scrambler State word are 001010
abbrev pub state_mark : ℕ
state_mark = 10

-- bits 63:58 of a Diagnostic word are 011001
abbrev pub diagnostic_mark : ℕ
diagnostic_mark = 25

-- the payload of a Scrambler State word: the state in bits 57:0
abbrev pub state_payload : ℕ → ℕ
state_payload state = state_mark * 2 ^ 58 + state

-- the payload of a Diagnostic word that is sent: zeros in bits 57:34, both health bits 1, in bits 33 and 32, and the
-- CRC32 in bits 31:0
abbrev pub diagnostic_payload : ℕ → ℕ
diagnostic_payload crc = diagnostic_mark * 2 ^ 58 + 3 * 2 ^ 32 + crc
