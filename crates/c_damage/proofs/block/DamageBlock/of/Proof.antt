-- `of` moves two fields, and what they own goes with them.
use mathlib.Core.Path.{◌≡◌, refl}
use Rattle.std.specs.Prelude.{Some}
use Rattle.std_heap.specs.contracts.Global as Heap
use Rattle.std_heap.specs.contracts.GlobalAllocator.TheImpl.{ghosts}
use Rattle.c_parts.specs.contracts.parts.Parts as Parts
use Rattle.c_parts.proofs.Meeting.{of_met}
use Rattle.lane_damage.specs.contracts.damage.Damage as Held
use Rattle.lane_damage.proofs.damage.Damage.TheLaws as held
use Rattle.c_damage.specs.contracts.block.DamageBlock as Block
use Rattle.c_damage.specs.contracts.block.DamageBlock.of.Key.{name as #self}
use Rattle.c_damage.proofs.block.DamageBlock.of.Statement.{statement}
use Rattle.c_damage.proofs.block.DamageBlock.of.Code as code

pub of_spec : {M : Type 1} → statement M
of_spec 𝓤 𝓛 𝓜 𝓡 wired =
    of_met Held.the_row held.the_row_laws (Parts.the_row Held.the_row Heap.the_row ghosts) Block.the_row (λ x. tt) (λ x. record { ptr = x.ptr; alloc = x.alloc; value = x.value }) (λ x vs. refl)
    (λ x. record { ptr = x.ptr; alloc = x.alloc; damage = Some x.value }) (λ x r. r.damage ≡ Some x.value) (λ x. refl) (λ x vs. refl)
    𝓤 𝓛 𝓜 𝓡 (λ κs x f. refl) #self (Block.struct).name (Parts.struct Held.the_row Heap.the_row ghosts).name (code.unfolded 𝓤 𝓛.H 𝓜 𝓡 wired)
