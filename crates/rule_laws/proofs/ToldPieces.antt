-- Bursts of a channel that go on as the rules ask: what becomes of each piece of theirs.
use Rattle.std.proofs.Common.{ℕ, ◌≡◌, ◌⊎◌, inl, inr, ◌+◌, ◌-◌, ◌*◌, ◌≤◌, ◌==◌, nat_le, Bool, true, false, not, ◌&&◌, cond, List, [], ◌∷◌, ◌++◌, length, flat_map, Option, Some, None, MatchOption, refl, sym, ap, ap₂, subst, ◌∙◌, arith, le-leb, eqb-true, length-append, append-nil, append_assoc}
use Rattle.std.specs.Int.{w64, to_be_bytes}
use Rattle.std.specs.List.{cons_option}
use Rattle.std.specs.Option.{option_map}
use Rattle.std.proofs.lemmas.Bool.{and_parts, not-true, false≢true}
use Rattle.std.proofs.lemmas.List.{length-take}
use Rattle.lk_base.specs.declared.fault.Why.TheVariants as whys
use Rattle.lk_base.specs.declared.fault.DropWhy.TheVariants as drops
use Rattle.lk_base.specs.Fields.{eop_field, has_end}
use Rattle.lk_base.specs.declared.position.Pos.{Pos}
use Rattle.control_words.specs.declared.fields.Eop.{Eop}
use Rattle.control_words.specs.declared.fields.Eop.TheVariants as eops
use Rattle.control_words.specs.ControlWord.{end_of, end_of_format}
use Rattle.receive_model.specs.Lists.{parts_by}
use Rattle.receive_model.specs.Stretches.{Verified}
use Rattle.receive_model.specs.Pieces.{Burst, begins, ends, next_ends, next_data, goes_on, piece_words, bytes_of, packet_at, next_of_last}
use Rattle.receive_model.specs.Events.{Event, Dropped, Setting, is_listed, is_ended}
use Rattle.receive_model.specs.Outcomes.{ByRunEnd, packet_outcome, outcome_of, without_end, ending_of, outcomes_from}
use Rattle.receive_model.proofs.Cuts.{split, same, beyond, parts_by-cons}
use Rattle.word_rules.specs.Bursts.{burst_bytes}
use Rattle.rule_laws.specs.WordsWithoutFault.{told_by, told_with, told_from, told_at}

-- the bytes of its packet before the burst, each burst counted whole, where they are known
abbrev pub bytes_before : Option ℕ → Burst → Option ℕ
bytes_before held b = cond (begins b) (Some 0) held

-- with those of the burst
abbrev pub bytes_after : Option ℕ → Burst → Option ℕ
bytes_after held b = cond (ends b) None (option_map (λ n. 8 * length (next_data b.next) + n) (bytes_before held b))

-- after so many bytes these data, before this word, are not too many
abbrev pub EndFits : ℕ → Option ℕ → ℕ → Option Verified → Type 0
EndFits m o size None = Unit {0}
EndFits m o size (Some v) = MatchOption o (Unit {0}) (λ n. n + burst_bytes size (end_of v.number) ≤ m)

-- the bursts of a channel go on right: given whether its packet goes on, and the bytes of the packet, where they are known
abbrev pub GoRight : Bool → ℕ → Bool → Option ℕ → List Burst → Type 0
GoRight listed m going held [] = Unit {0}
GoRight listed m going held (b ∷ rest) =
    (listed ≡ true)
    × (begins b ≡ not going)
    × EndFits m (bytes_before held b) (length (next_data b.next)) b.next
    × GoRight listed m (not (ends b)) (bytes_after held b) rest

-- ---- where a piece ends

-- a burst that does not go on with the next one has ended
ended_there : (b n : Burst) → begins n ≡ not (not (ends b)) → goes_on b n ≡ false → ends b ≡ true
ended_there b n h g = by (ends b) (begins n) h g
  where
    by : (e s : Bool) → s ≡ not (not e) → (not e && not s) ≡ false → e ≡ true
    by true s h g = refl
    by false true h g = sym h
    by false false h g = sym g

-- the next one has SOP
begins_there : (b n : Burst) → begins n ≡ not (not (ends b)) → goes_on b n ≡ false → begins n ≡ true
begins_there b n h g = h ∙ ap (λ e. not (not e)) (ended_there b n h g)

-- a piece has ended, or none comes after it
no_cut : (listed : Bool) (m : ℕ) (held : Option ℕ) (b : Burst) (rest : List Burst) → GoRight listed m (not (ends b)) held rest
    → (without_end whys.End (parts_by goes_on (beyond goes_on b rest)) ≡ ByRunEnd whys.End) ⊎ (is_ended (b ∷ same goes_on b rest) ≡ true)
no_cut listed m held b [] h = inl refl
no_cut listed m held b (n ∷ rest) h = split (goes_on b n)
    (λ g. rw g (no_cut listed m (bytes_after held n) n rest h.3))
    (λ g. rw g (inr (ended_there b n h.1 g)))

-- ---- the bytes of a piece

more_bytes : (e : Eop) (n k l m : ℕ) → (8 * k + n) + burst_bytes l e ≤ m → n + burst_bytes (k + l) e ≤ m
more_bytes eops.Going n k l m h = omega arith
more_bytes (eops.End v) n k l m h = omega arith
more_bytes eops.Error n k l m h = omega arith

joined : (o : Option ℕ) (k : ℕ) (xs ys : List ℕ) (next : Option Verified) (m : ℕ) → k ≡ length xs → EndFits m (option_map (λ n. 8 * k + n) o) (length ys) next → EndFits m o (length (xs ++ ys)) next
joined o k xs ys None m e h = tt
joined None k xs ys (Some v) m e h = tt
joined (Some n) k xs ys (Some v) m e h =
    let size : k + length ys ≡ length (xs ++ ys) = ap (λ j. j + length ys) e ∙ sym (length-append xs ys) in
    subst (λ j. n + burst_bytes j (end_of v.number) ≤ m) size (more_bytes (end_of v.number) n k (length ys) m h)

piece_fits : (listed : Bool) (m : ℕ) (held : Option ℕ) (b : Burst) (rest : List Burst) →
    EndFits m (bytes_before held b) (length (next_data b.next)) b.next → GoRight listed m (not (ends b)) (bytes_after held b) rest
    → EndFits m (bytes_before held b) (length (piece_words (b ∷ same goes_on b rest))) (next_of_last (b ∷ same goes_on b rest))
piece_fits listed m held b [] h g = rw append-nil h
piece_fits listed m held b (n ∷ rest) h g = split (goes_on b n)
    (λ on.
    let parts = and_parts (not (ends b)) (not (begins n)) on in
    let no_sop : begins n ≡ false = not-true (begins n) parts.1 in
    let no_end : ends b ≡ false = not-true (ends b) parts.0 in
    let is : bytes_before (bytes_after held b) n ≡ option_map (λ k. 8 * length (next_data b.next) + k) (bytes_before held b) = rw (no_sop, no_end) refl in
    let later = piece_fits listed m (bytes_after held b) n rest g.2 g.3 in
    let tail : EndFits m (option_map (λ k. 8 * length (next_data b.next) + k) (bytes_before held b)) (length (piece_words (n ∷ same goes_on n rest))) (next_of_last (n ∷ same goes_on n rest)) =
    subst (λ o. EndFits m o (length (piece_words (n ∷ same goes_on n rest))) (next_of_last (n ∷ same goes_on n rest))) is later in
    rw on (joined (bytes_before held b) (length (next_data b.next)) (next_data b.next) (piece_words (n ∷ same goes_on n rest)) (next_of_last (n ∷ same goes_on n rest)) m refl tail))
    (λ off. rw (off, append-nil) h)

-- ---- what becomes of a piece

going_is_no_end : (f : ℕ) → nat_le 1 f ≡ true → end_of_format f ≡ eops.Going → ⊥
going_is_no_end f h e = split (f == 0)
    (λ t. let z : f ≡ 0 = eqb-true f 0 t in false≢true (rw z at h))
    (λ t. let g = rw t at e in split (f == 1) (λ u. no_error (rw u at g)) (λ u. split (f == 8) (λ w. no_valid 8 (rw (u, w) at g)) (λ w. no_valid (f - 8) (rw (u, w) at g))))
  where
    no_error : eops.Error ≡ eops.Going → ⊥
    no_error h = cc

    no_valid : (v : ℕ) → eops.End v ≡ eops.Going → ⊥
    no_valid v h = cc

bytes_at_most : (words : List ℕ) (valid : ℕ) → length (bytes_of words valid) ≤ 8 * length words - (8 - valid)
unfolding bytes_of
bytes_at_most words valid = let h = length-take (8 * length words - (8 - valid)) (flat_map (to_be_bytes w64) words) in omega arith

-- an ended piece is delivered, or was in error
ended_told : (channel m : ℕ) (words : List ℕ) (first : Pos) (v : Verified) (e : Eop) → (e ≡ eops.Going → ⊥) → burst_bytes (length words) e ≤ m
    → Some (packet_outcome channel (packet_at m words first v e) e) ≡ told_by channel words first v e
ended_told channel m words first v eops.Going ends h = absurd (ends refl)
ended_told channel m words first v eops.Error ends h = refl
ended_told channel m words first v (eops.End valid) ends h =
    let few = bytes_at_most words valid in
    rw (le-leb (length (bytes_of words valid)) m (omega arith)) refl

-- what becomes of a piece of these data, by the word after it
abbrev told_end : ℕ → Pos → List ℕ → Option Verified → Option Event
told_end channel first words None = Some (Dropped channel drops.End)
told_end channel first words (Some v) = cond (has_end v.number) (told_by channel words first v (end_of v.number)) (Some (Dropped channel drops.End))

ended_end : (channel : ℕ) (first : Pos) (words : List ℕ) (next : Option Verified) → next_ends next ≡ true → told_with channel words first next ≡ told_end channel first words next
ended_end channel first words None h = absurd (false≢true h)
ended_end channel first words (Some v) h = rw h refl

open_end : (channel : ℕ) (first : Pos) (words : List ℕ) (next : Option Verified) → next_ends next ≡ false → Some (Dropped channel drops.End) ≡ told_end channel first words next
open_end channel first words None h = refl
open_end channel first words (Some v) h = rw h refl

-- the packet that is read on from b ends where its piece does
told_is : (listed : Bool) (m channel : ℕ) (held : Option ℕ) (first : Pos) (so_far : List ℕ) (b : Burst) (rest : List Burst) → GoRight listed m (not (ends b)) held rest
    → told_from channel first so_far (b ∷ rest) ≡ told_end channel first (so_far ++ piece_words (b ∷ same goes_on b rest)) (next_of_last (b ∷ same goes_on b rest))
told_is listed m channel held first so_far b [] h =
    let whole : next_data b.next ++ [] ≡ next_data b.next = append-nil (next_data b.next) in
    rw whole (split (ends b)
    (λ t. rw t (ended_end channel first (so_far ++ next_data b.next) b.next t))
    (λ t. rw t (open_end channel first (so_far ++ next_data b.next) b.next t)))
told_is listed m channel held first so_far b (n ∷ rest) h = split (ends b)
    (λ t.
    let whole : next_data b.next ++ [] ≡ next_data b.next = append-nil (next_data b.next) in
    rw (t, whole) (ended_end channel first (so_far ++ next_data b.next) b.next t))
    (λ t.
    let no_sop : begins n ≡ false = h.1 ∙ ap (λ e. not (not e)) t in
    let later = told_is listed m channel (bytes_after held n) first (so_far ++ next_data b.next) n rest h.3 in
    rw (t, no_sop) (later ∙ ap (λ ds. told_end channel first ds (next_of_last (n ∷ same goes_on n rest))) (append_assoc so_far (next_data b.next) (piece_words (n ∷ same goes_on n rest)))))

module _ (setting : Setting) (channel : ℕ) (listed : is_listed setting channel ≡ true) where
  outcome_is : (first : Bool) (b : Burst) (rest later : List Burst) (next : Option Verified) → begins b ≡ true
      → next_of_last (b ∷ rest) ≡ next → EndFits setting.max_packet (Some 0) (length (piece_words (b ∷ rest))) next
      → (without_end whys.End (parts_by goes_on later) ≡ ByRunEnd whys.End) ⊎ (next_ends next ≡ true)
      → outcome_of setting channel first (b ∷ rest) (ending_of whys.End next (parts_by goes_on later)) ≡ told_end channel b.at (piece_words (b ∷ rest)) next
  outcome_is first b rest later None sop is fits (inl whole) = rw (listed, sop, whole) refl
  outcome_is first b rest later None sop is fits (inr ended) = absurd (false≢true ended)
  outcome_is first b rest later (Some v) sop is fits cut = split (has_end v.number)
      (λ t.
      let told = ended_told channel setting.max_packet (piece_words (b ∷ rest)) b.at v (end_of v.number) (going_is_no_end (eop_field v.number) t) (omega (arith, fits)) in
      rw (t, listed, sop, sop, is) told)
      (λ t. elim cut [
        | inl whole ↦ rw (t, listed, sop, whole) refl
        | inr ended ↦ absurd (false≢true (sym t ∙ ended))
      ])

  -- the piece that begins with b
  piece_is : (first : Bool) (held : Option ℕ) (b : Burst) (rest : List Burst) → begins b ≡ true
      → EndFits setting.max_packet (bytes_before held b) (length (next_data b.next)) b.next → GoRight true setting.max_packet (not (ends b)) (bytes_after held b) rest
      → outcome_of setting channel first (b ∷ same goes_on b rest) (ending_of whys.End (next_of_last (b ∷ same goes_on b rest)) (parts_by goes_on (beyond goes_on b rest)))
      ≡ cond (begins b) (told_from channel b.at [] (b ∷ rest)) None
  piece_is first held b rest sop h g =
      let fits : EndFits setting.max_packet (Some 0) (length (piece_words (b ∷ same goes_on b rest))) (next_of_last (b ∷ same goes_on b rest)) = rw sop at (piece_fits true setting.max_packet held b rest h g) in
      outcome_is first b (same goes_on b rest) (beyond goes_on b rest) (next_of_last (b ∷ same goes_on b rest)) sop refl fits (no_cut true setting.max_packet (bytes_after held b) b rest g)
      ∙ sym (told_is true setting.max_packet channel (bytes_after held b) b.at [] b rest g)
      ∙ ap (λ t. cond t (told_from channel b.at [] (b ∷ rest)) None) (sym sop)

  -- the pieces after one
  later_are : (held : Option ℕ) (b : Burst) (rest : List Burst) → GoRight true setting.max_packet (not (ends b)) held rest
      → outcomes_from setting channel whys.End false (parts_by goes_on (beyond goes_on b rest)) ≡ told_at channel rest
  later_are held b [] h = refl
  later_are held b (n ∷ rest) h = split (goes_on b n)
      (λ on.
      let no_sop : begins n ≡ false = not-true (begins n) (and_parts (not (ends b)) (not (begins n)) on).1 in
      let later = later_are (bytes_after held n) n rest h.3 in
      ap (λ bs. outcomes_from setting channel whys.End false (parts_by goes_on bs)) (beyond_on on)
      ∙ later
      ∙ sym (ap (λ t. cons_option (cond t (told_from channel n.at [] (n ∷ rest)) None) (told_at channel rest)) no_sop))
      (λ off.
      ap (λ bs. outcomes_from setting channel whys.End false (parts_by goes_on bs)) (beyond_off off)
      ∙ ap (outcomes_from setting channel whys.End false) (parts_by-cons goes_on n rest)
      ∙ ap₂ cons_option (piece_is false held n rest (begins_there b n h.1 off) h.2 h.3) (later_are (bytes_after held n) n rest h.3))
    where
      beyond_on : goes_on b n ≡ true → beyond goes_on b (n ∷ rest) ≡ beyond goes_on n rest
      beyond_on t = rw t refl

      beyond_off : goes_on b n ≡ false → beyond goes_on b (n ∷ rest) ≡ n ∷ rest
      beyond_off t = rw t refl

  -- all pieces, of which the first may have begun before them
  pieces_are : (going : Bool) (held : Option ℕ) (b : Burst) (rest : List Burst) → GoRight true setting.max_packet going held (b ∷ rest)
      → outcomes_from setting channel whys.End true (parts_by goes_on (b ∷ rest)) ≡ told_at channel (b ∷ rest)
  pieces_are going held b rest h =
      ap (outcomes_from setting channel whys.End true) (parts_by-cons goes_on b rest)
      ∙ ap₂ cons_option
      (split (begins b) (λ t. piece_is true held b rest t h.2 h.3) (λ t. rw (listed, t) refl))
      (later_are (bytes_after held b) b rest h.3)

pub all_told : (setting : Setting) (channel : ℕ) (going : Bool) (held : Option ℕ) (bs : List Burst) → GoRight (is_listed setting channel) setting.max_packet going held bs
    → outcomes_from setting channel whys.End true (parts_by goes_on bs) ≡ told_at channel bs
all_told setting channel going held [] h = refl
all_told setting channel going held (b ∷ rest) h =
    pieces_are setting channel h.0 going held b rest (subst (λ t. GoRight t setting.max_packet going held (b ∷ rest)) h.0 h)
