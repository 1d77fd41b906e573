-- `absent` makes a block that owns nothing but its allocator.
use mathlib.Core.Path.{◌≡◌, refl}
use denote.RawPtr.{null_ptr}
use Rattle.std.specs.Prelude.{None}
use Rattle.c_parts.proofs.Meeting.{absent_met}
use Rattle.c_transmitter.specs.contracts.bit_transmitter.BitTransmitter as Held
use Rattle.c_transmitter.proofs.bit_transmitter.BitTransmitter.TheLaws as held
use Rattle.c_transmitter.specs.contracts.block.TransmitterBlock as Block
use Rattle.c_transmitter.specs.contracts.block.TransmitterBlock.absent.Key.{name as #self}
use Rattle.c_transmitter.proofs.block.TransmitterBlock.absent.Statement.{statement}
use Rattle.c_transmitter.proofs.block.TransmitterBlock.absent.Code as code

pub absent_spec : {M : Type 1} → statement M
absent_spec 𝓤 𝓛 𝓜 𝓡 wired =
    absent_met Held.the_row held.the_row_laws Block.the_row (λ a. record { ptr = null_ptr; alloc = a; transmitter = None }) (λ a r. r.transmitter ≡ None) (λ a. refl) (λ a vs. refl)
    𝓤 𝓛 𝓜 𝓡 #self (Block.struct).name (code.unfolded 𝓤 𝓛.H 𝓜 𝓡 wired)
