-- Lanes that are there whole, as lanes so far.
use Rattle.std.proofs.Common.{ℕ, ◌≡◌, Bool, true, false, List, [], ◌∷◌, length, map, refl, ap, ◌∙◌, arith}
use Rattle.std.specs.Prelude.{nat_lt}
use Rattle.std.proofs.lemmas.Bool.{lt-ltb}
use Rattle.std.proofs.lemmas.List.{take_all}
use Rattle.lk_base.specs.Checksum.{bits_of_bytes}
use Rattle.lk_base.specs.Link.{Settings}
use Rattle.lk_base.specs.declared.word.Aligned.{Aligned}
use Rattle.lk_base.proofs.Lists.{head_same, tail_same}
use Rattle.epoch_model.specs.GroupLaw.{HasAttempts, tracks_received}
use Rattle.epoch_model.specs.KnownLaw.{EachIsLane, all_over}
use Rattle.epoch_model.specs.SoFar.{AreKnown, LaneSoFar, tracks_in}
use Rattle.epoch_model.proofs.KnownDetermined.{tracks_are}
use Rattle.event_model.specs.Fed.{clock_of, first_bits, whole}
use Rattle.event_model.specs.Given.{bits_in, lanes_at}
use Rattle.event_model.proofs.Clocks.{AreShort, all_whole, short_at_end}
use Rattle.lane_words.specs.Items.{AreAllItems}

bits_joined : (t u : List Bool) (ts us : List (List Bool)) → t ≡ u → ts ≡ us → ◌≡◌ {A = List (List Bool)} (t ∷ ts) (u ∷ us)
bits_joined t u ts us e f = cc

not_none : (x : List Bool) (xs : List (List Bool)) → ◌≡◌ {A = List (List Bool)} (x ∷ xs) [] → ⊥
not_none x xs e = cc e

none_not : (x : List Bool) (xs : List (List Bool)) → ◌≡◌ {A = List (List Bool)} [] (x ∷ xs) → ⊥
none_not x xs e = cc e

not_both : (b : Bool) → b ≡ true → b ≡ false → ⊥
not_both b e f = cc

module _ (s : Settings) (clock : ℕ) where
  whole_bits : (lanes : List (List ℕ)) → AreShort clock (map whole lanes) → map (first_bits clock) (map whole lanes) ≡ map bits_of_bytes lanes
  whole_bits [] short = refl
  whole_bits (bytes ∷ lanes) short =
      bits_joined (first_bits clock (whole bytes)) (bits_of_bytes bytes) (map (first_bits clock) (map whole lanes)) (map bits_of_bytes lanes)
      (take_all clock (bits_of_bytes bytes) (let lt = short.0 in omega (arith, lt))) (whole_bits lanes short.1)

  whole_over : (lanes : List (List ℕ)) (received : List (HasAttempts s.metaframe)) → AreShort clock (map whole lanes) → all_over (lanes_at s clock (map whole lanes) received) ≡ true
  whole_over [] received short = refl
  whole_over (bytes ∷ lanes) [] short = refl
  whole_over (bytes ∷ lanes) (x ∷ received) short = rw (lt-ltb (length (bits_of_bytes bytes)) clock short.0) (whole_over lanes received short.1)

  whole_received : (lanes : List (List ℕ)) (received : List (HasAttempts s.metaframe)) → AreShort clock (map whole lanes) → bits_in s.metaframe received ≡ map bits_of_bytes lanes → EachIsLane s clock (lanes_at s clock (map whole lanes) received) received
  whole_received [] [] short e = tt
  whole_received [] (x ∷ received) short e = absurd (not_none x.bits (bits_in s.metaframe received) e)
  whole_received (bytes ∷ lanes) [] short e = absurd (none_not (bits_of_bytes bytes) (map bits_of_bytes lanes) e)
  whole_received (bytes ∷ lanes) (x ∷ received) short e =
      let size : length x.bits ≡ length (bits_of_bytes bytes) = ap length (head_same x.bits (bits_of_bytes bytes) (bits_in s.metaframe received) (map bits_of_bytes lanes) e) in
      let lt = short.0 in
      let over : nat_lt (length (bits_of_bytes bytes)) clock ≡ true = lt-ltb (length (bits_of_bytes bytes)) clock lt in (
        record { tracks = refl; within = omega (arith, size, lt); all = λ open_lane. absurd (not_both (nat_lt (length (bits_of_bytes bytes)) clock) over open_lane) },
        whole_received lanes received short.1 (tail_same x.bits (bits_of_bytes bytes) (bits_in s.metaframe received) (map bits_of_bytes lanes) e),
      )

-- lanes whose bits are over, with all that is known of them
pub record AreWhole (s : Settings) (lanes : List (List ℕ)) (items : List Aligned) : Type 0 where
  pub so_far : List LaneSoFar
  pub received : List (HasAttempts s.metaframe)
  pub bits : bits_in s.metaframe received ≡ map bits_of_bytes lanes
  pub tracks : tracks_in so_far ≡ map (tracks_received s) received
  pub over : all_over so_far ≡ true
  pub known : AreKnown s so_far items

pub are_whole : (s : Settings) (lanes : List (List ℕ)) (items : List Aligned) → AreAllItems s lanes items → AreWhole s lanes items
are_whole s lanes items are =
    let clock : ℕ = clock_of (map whole lanes) in
    let short = short_at_end (map whole lanes) (all_whole lanes) in
    let bits : bits_in s.metaframe are.received ≡ map bits_of_bytes lanes = are.bits ∙ whole_bits s clock lanes short in
    record {
      so_far = lanes_at s clock (map whole lanes) are.received;
      received = are.received;
      bits = bits;
      tracks = tracks_are s clock (lanes_at s clock (map whole lanes) are.received) are.received (whole_received s clock lanes are.received short bits);
      over = whole_over s clock lanes are.received short;
      known = are.are;
    }
