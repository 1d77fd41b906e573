-- The frame whose samples a maker gives.
use Rattle.std.proofs.Common.{◌≡◌, ℕ, suc, ◌+◌, ◌*◌, ◌<◌, ◌≤◌, ◌==◌, Bool, true, false, List, [], ◌∷◌, length, map, get_or, refl, sym, ap, ap₂, ◌∙◌, subst, arith}
use Rattle.std.proofs.lemmas.Bool.Decides.{nat_tests}
use Rattle.std.proofs.lemmas.List.{length-map}
use Rattle.oob_flow.specs.Frames.{frame_bits, frame_length, samples_of_bits, frame_samples}
use Rattle.oob_flow.specs.Sending.{StandsOut, showing, one_given}
use Rattle.oob_flow.specs.declared.outgoing.OobOut.{OobOut}
use Rattle.oob_flow.proofs.Blocks.{frame_bits_length}

pub map_same : (f g : ℕ → Bool) (xs : List ℕ) → ((i : ℕ) → i < length xs → f (get_or xs i 0) ≡ g (get_or xs i 0)) → map f xs ≡ map g xs
map_same f g [] h = refl
map_same f g (x ∷ xs) h = ap₂ (λ (b : Bool) (bs : List Bool). b ∷ bs) (h 0 (omega arith)) (map_same f g xs (λ i l. h (suc i) (omega arith)))

-- the maker has the bits of the frame of its next sample
pub record IsReady (out mid : OobOut) (entries : List ℕ) (states : ℕ → Bool) (shown : List Bool) (given : ℕ) : Type 0 where
  pub entries_same : mid.entries ≡ out.entries
  pub on_same : mid.on ≡ out.on
  pub given_same : mid.given ≡ given
  pub bits : mid.frame.items ≡ frame_bits (showing entries states shown given)
  pub sized : length (showing entries states shown given) ≡ length entries

module _ (out mid : OobOut) (entries : List ℕ) (states : ℕ → Bool) (shown : List Bool) (given : ℕ) (s : StandsOut out entries states shown given) where
  pub begins : out.given ≡ 0 → mid.entries ≡ out.entries → mid.on ≡ out.on → mid.given ≡ out.given → mid.frame.items ≡ frame_bits (map (λ (channel : ℕ). get_or out.on.items channel false) out.entries.items) → IsReady out mid entries states shown given
  begins none e o g f =
      let zero_given : (given == 0) ≡ true = (let z : given ≡ 0 = sym s.place ∙ none in grind (arith, nat_tests)) in
      let shows : showing entries states shown given ≡ map states entries = rw zero_given refl in
      let same : map (λ (channel : ℕ). get_or out.on.items channel false) out.entries.items ≡ map states entries =
      ap (map (λ (channel : ℕ). get_or out.on.items channel false)) s.calendar ∙ map_same (λ (channel : ℕ). get_or out.on.items channel false) states entries (λ i l. s.own (get_or entries i 0) (s.small i)) in
      record {
        entries_same = e;
        on_same = o;
        given_same = g ∙ s.place;
        bits = f ∙ ap frame_bits (same ∙ sym shows);
        sized = ap length shows ∙ length-map entries states;
      }

  pub goes_on : 0 < out.given → mid ≡ out → IsReady out mid entries states shown given
  goes_on some e =
      let more : 0 < given = omega (arith, s.place) in
      let given_some : (given == 0) ≡ false = grind (arith, nat_tests) in
      let shows : showing entries states shown given ≡ shown = rw given_some refl in
      record {
        entries_same = ap (λ (o : OobOut). o.entries) e;
        on_same = ap (λ (o : OobOut). o.on) e;
        given_same = ap (λ (o : OobOut). o.given) e ∙ s.place;
        bits = ap (λ (o : OobOut). o.frame.items) e ∙ s.frame more ∙ ap frame_bits (sym shows);
        sized = ap length shows ∙ s.sized more;
      }

  pub long : IsReady out mid entries states shown given → 2 * length mid.frame.items ≡ frame_length (length entries)
  long r =
      let some : 1 ≤ length (showing entries states shown given) = omega (arith, r.sized, s.low) in
      ap (λ (bits : List Bool). 2 * length bits) r.bits ∙ frame_bits_length (showing entries states shown given) some ∙ ap frame_length r.sized

  pub value : (sample : ℕ) → IsReady out mid entries states shown given → sample ≡ get_or (samples_of_bits mid.frame.items) mid.given 0 → sample ≡ get_or (frame_samples (showing entries states shown given)) given 0
  unfolding frame_samples
  value sample r e = e ∙ ap₂ (λ (bits : List Bool) (n : ℕ). get_or (samples_of_bits bits) n 0) r.bits r.given_same

  module _ (new : OobOut) (r : IsReady out mid entries states shown given) (e : new.entries ≡ mid.entries) (o : new.on ≡ mid.on) (f : new.frame ≡ mid.frame) where
    stands : (n : ℕ) → new.given ≡ n → n < frame_length (length entries) → StandsOut new entries states (showing entries states shown given) n
    stands n g within = record {
      calendar = ap (λ v. v.items) (e ∙ r.entries_same) ∙ s.calendar;
      low = s.low;
      high = s.high;
      small = s.small;
      wide = ap (λ v. length v.items) (o ∙ r.on_same) ∙ s.wide;
      own = λ channel h. ap (λ v. get_or v.items channel false) (o ∙ r.on_same) ∙ s.own channel h;
      place = g;
      within = within;
      frame = λ h. ap (λ v. v.items) f ∙ r.bits;
      sized = λ h. r.sized;
    }

    pub more_left : new.given ≡ mid.given + 1 → mid.given + 1 < 2 * length mid.frame.items → StandsOut new entries states (showing entries states shown given) (one_given entries given)
    more_left g within =
        let l = long r in
        let test : (given + 1 == frame_length (length entries)) ≡ false = (let b : given + 1 < frame_length (length entries) = omega (arith, r.given_same) in grind (arith, nat_tests)) in
        let n : one_given entries given ≡ given + 1 = rw test refl in
        subst (StandsOut new entries states (showing entries states shown given)) (sym n) (stands (given + 1) (g ∙ ap (λ (k : ℕ). k + 1) r.given_same) (omega (arith, r.given_same)))

    pub at_end : new.given ≡ 0 → 2 * length mid.frame.items ≤ mid.given + 1 → StandsOut new entries states (showing entries states shown given) (one_given entries given)
    at_end g past =
        let l = long r in
        let w = s.within in
        let test : (given + 1 == frame_length (length entries)) ≡ true = (let b : given + 1 ≡ frame_length (length entries) = omega (arith, r.given_same) in grind (arith, nat_tests)) in
        let n : one_given entries given ≡ 0 = rw test refl in
        subst (StandsOut new entries states (showing entries states shown given)) (sym n) (stands 0 g (omega arith))
