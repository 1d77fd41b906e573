-- `into_parts` moves two fields, and what they own goes with them.
use mathlib.Core.Path.{◌≡◌, refl}
use Rattle.std.specs.Prelude.{Some}
use Rattle.std_heap.specs.contracts.Global as Heap
use Rattle.std_heap.specs.contracts.GlobalAllocator.TheImpl.{ghosts}
use Rattle.c_parts.specs.contracts.parts.Parts as Parts
use Rattle.c_parts.proofs.Meeting.{into_met}
use Rattle.c_receiver.specs.contracts.bit_receiver.BitReceiver as Held
use Rattle.c_receiver.proofs.bit_receiver.BitReceiver.TheLaws as held
use Rattle.c_receiver.specs.contracts.block.ReceiverBlock as Block
use Rattle.c_receiver.specs.contracts.block.ReceiverBlock.into_parts.Key.{name as #self}
use Rattle.c_receiver.proofs.block.ReceiverBlock.into_parts.Statement.{statement}
use Rattle.c_receiver.proofs.block.ReceiverBlock.into_parts.Code as code

pub into_parts_spec : {M : Type 1} → statement M
into_parts_spec 𝓤 𝓛 𝓜 𝓡 wired =
    into_met Held.the_row held.the_row_laws Block.the_row (Parts.the_row Held.the_row Heap.the_row ghosts) (λ x. tt) (λ h. h.ptr) (λ h. h.alloc) (λ h. h.session) (λ h vs. refl)
    (λ d. record { ptr = d.ptr; alloc = d.alloc; value = d.value }) (λ h r. h.session ≡ Some r.value) (λ h d is. is) (λ d vs. refl)
    𝓤 𝓛 𝓜 𝓡 (λ κs x f. refl) #self (Parts.struct Held.the_row Heap.the_row ghosts).name (Block.struct).name (code.unfolded 𝓤 𝓛.H 𝓜 𝓡 wired)
