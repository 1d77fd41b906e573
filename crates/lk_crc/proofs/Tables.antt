-- The tables in src are right: each row is computed from the row before it.
use Rattle.std.proofs.Common.{◌≡◌, zero, suc, refl, arith, [], map, get_or}
use Rattle.lk_base.specs.Checksum.{bits_of, register_after}
use Rattle.lk_crc.specs.Slices.{AreSlices}
use Rattle.lk_crc.specs.declared.far24.TheConstants.{SLICES as FAR24}
use Rattle.lk_crc.specs.declared.far32.TheConstants.{SLICES as FAR32}
use Rattle.lk_crc.specs.declared.slices24.TheConstants.{SLICES as NEAR24}
use Rattle.lk_crc.specs.declared.slices32.TheConstants.{SLICES as NEAR32}
use Rattle.lk_crc.proofs.Slices.{GoOn, bytes_alone, far_slices, near_slices, zeros_more}

near24_first : get_or NEAR24 0 [] ≡ bytes_alone 24 0x328B63
unfolding bits_of register_after
near24_first = refl

near24_next : GoOn 24 0x328B63 NEAR24
unfolding bits_of register_after
near24_next zero h = refl
near24_next (suc zero) h = refl
near24_next (suc (suc zero)) h = refl
near24_next (suc (suc (suc zero))) h = refl
near24_next (suc (suc (suc (suc zero)))) h = refl
near24_next (suc (suc (suc (suc (suc zero))))) h = refl
near24_next (suc (suc (suc (suc (suc (suc zero)))))) h = refl
near24_next (suc (suc (suc (suc (suc (suc (suc n))))))) h = absurd (omega arith)

pub near24 : AreSlices 24 0x328B63 0 NEAR24
near24 = near_slices 24 0x328B63 NEAR24 near24_first near24_next

far24_first : get_or FAR24 0 [] ≡ map (zeros_more 24 0x328B63) (get_or NEAR24 7 [])
unfolding bits_of register_after
far24_first = refl

far24_next : GoOn 24 0x328B63 FAR24
unfolding bits_of register_after
far24_next zero h = refl
far24_next (suc zero) h = refl
far24_next (suc (suc zero)) h = refl
far24_next (suc (suc (suc zero))) h = refl
far24_next (suc (suc (suc (suc zero)))) h = refl
far24_next (suc (suc (suc (suc (suc zero))))) h = refl
far24_next (suc (suc (suc (suc (suc (suc zero)))))) h = refl
far24_next (suc (suc (suc (suc (suc (suc (suc n))))))) h = absurd (omega arith)

pub far24 : AreSlices 24 0x328B63 64 FAR24
far24 = far_slices 24 0x328B63 NEAR24 FAR24 near24 far24_first far24_next

near32_first : get_or NEAR32 0 [] ≡ bytes_alone 32 0x1EDC6F41
unfolding bits_of register_after
near32_first = refl

near32_next : GoOn 32 0x1EDC6F41 NEAR32
unfolding bits_of register_after
near32_next zero h = refl
near32_next (suc zero) h = refl
near32_next (suc (suc zero)) h = refl
near32_next (suc (suc (suc zero))) h = refl
near32_next (suc (suc (suc (suc zero)))) h = refl
near32_next (suc (suc (suc (suc (suc zero))))) h = refl
near32_next (suc (suc (suc (suc (suc (suc zero)))))) h = refl
near32_next (suc (suc (suc (suc (suc (suc (suc n))))))) h = absurd (omega arith)

pub near32 : AreSlices 32 0x1EDC6F41 0 NEAR32
near32 = near_slices 32 0x1EDC6F41 NEAR32 near32_first near32_next

far32_first : get_or FAR32 0 [] ≡ map (zeros_more 32 0x1EDC6F41) (get_or NEAR32 7 [])
unfolding bits_of register_after
far32_first = refl

far32_next : GoOn 32 0x1EDC6F41 FAR32
unfolding bits_of register_after
far32_next zero h = refl
far32_next (suc zero) h = refl
far32_next (suc (suc zero)) h = refl
far32_next (suc (suc (suc zero))) h = refl
far32_next (suc (suc (suc (suc zero)))) h = refl
far32_next (suc (suc (suc (suc (suc zero))))) h = refl
far32_next (suc (suc (suc (suc (suc (suc zero)))))) h = refl
far32_next (suc (suc (suc (suc (suc (suc (suc n))))))) h = absurd (omega arith)

pub far32 : AreSlices 32 0x1EDC6F41 64 FAR32
far32 = far_slices 32 0x1EDC6F41 NEAR32 FAR32 near32 far32_first far32_next
