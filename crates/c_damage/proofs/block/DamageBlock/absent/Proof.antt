-- `absent` makes a block that owns nothing but its allocator.
use mathlib.Core.Path.{◌≡◌, refl}
use denote.RawPtr.{null_ptr}
use Rattle.std.specs.Prelude.{None}
use Rattle.c_parts.proofs.Meeting.{absent_met}
use Rattle.lane_damage.specs.contracts.damage.Damage as Held
use Rattle.lane_damage.proofs.damage.Damage.TheLaws as held
use Rattle.c_damage.specs.contracts.block.DamageBlock as Block
use Rattle.c_damage.specs.contracts.block.DamageBlock.absent.Key.{name as #self}
use Rattle.c_damage.proofs.block.DamageBlock.absent.Statement.{statement}
use Rattle.c_damage.proofs.block.DamageBlock.absent.Code as code

pub absent_spec : {M : Type 1} → statement M
absent_spec 𝓤 𝓛 𝓜 𝓡 wired =
    absent_met Held.the_row held.the_row_laws Block.the_row (λ a. record { ptr = null_ptr; alloc = a; damage = None }) (λ a r. r.damage ≡ None) (λ a. refl) (λ a vs. refl)
    𝓤 𝓛 𝓜 𝓡 #self (Block.struct).name (code.unfolded 𝓤 𝓛.H 𝓜 𝓡 wired)
