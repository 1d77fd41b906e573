-- Bits that are taken as whole bytes.
use Rattle.std.proofs.Common.{◌≡◌, ℕ, ◌+◌, ◌*◌, ◌<◌, ◌^◌, Bool, List, [], ◌∷◌, ◌++◌, length, refl, sym, ap, ◌∙◌, append_assoc, append-nil, length-append}
use Rattle.std.proofs.lemmas.Grind.{flat_map-append}
use Rattle.std.proofs.lemmas.List.Elements.{All-push, All-nil, All-append}
use Rattle.lk_base.specs.Checksum.{bits_of, bits_of_bytes}
use Rattle.lane_model.proofs.FilesHold.{length-flat_map_bits}
use Rattle.word_text.specs.Bytes.{IsKept, TakesBytes}
use Rattle.word_text.proofs.Kept.{kept-put}
use Rattle.word_text.proofs.Pieces.{flat-push}

abbrev Octet : ℕ → Type 0
Octet b = b < 2 ^ 8

pub takes-none : (bits : List Bool) (bytes : List ℕ) → TakesBytes bits bits bytes bytes
takes-none bits bytes = record { more = []; octets = All-nil Octet; put = sym (append-nil bytes); cut = refl }

pub takes-byte : (bits left rest : List Bool) (old mid new : List ℕ) (byte : ℕ) → byte < 2 ^ 8 → left ≡ bits_of 8 byte ++ rest → new ≡ mid ++ byte ∷ [] → TakesBytes bits left old mid → TakesBytes bits rest old new
takes-byte bits left rest old mid new byte h e f t = record {
  more = t.more ++ byte ∷ [];
  octets = All-push Octet t.more byte t.octets h;
  put = f ∙ ap (λ (l : List ℕ). l ++ byte ∷ []) t.put ∙ append_assoc old t.more (byte ∷ []);
  cut = t.cut ∙ ap (λ (l : List Bool). bits_of_bytes t.more ++ l) e ∙ sym (append_assoc (bits_of_bytes t.more) (bits_of 8 byte) rest)
      ∙ ap (λ (l : List Bool). l ++ rest) (sym (flat-push (bits_of 8) t.more byte));
}

pub takes-then : (bits left added next rest : List Bool) (old mid new : List ℕ) → next ≡ left ++ added → TakesBytes bits left old mid → TakesBytes next rest mid new → TakesBytes (bits ++ added) rest old new
takes-then bits left added next rest old mid new e a b = record {
  more = a.more ++ b.more;
  octets = All-append Octet a.more b.more a.octets b.octets;
  put = b.put ∙ ap (λ (l : List ℕ). l ++ b.more) a.put ∙ append_assoc old a.more b.more;
  cut = ap (λ (l : List Bool). l ++ added) a.cut ∙ append_assoc (bits_of_bytes a.more) left added
      ∙ ap (λ (l : List Bool). bits_of_bytes a.more ++ l) (sym e ∙ b.cut)
      ∙ sym (append_assoc (bits_of_bytes a.more) (bits_of_bytes b.more) rest)
      ∙ ap (λ (l : List Bool). l ++ rest) (sym (flat_map-append (bits_of 8) a.more b.more));
}

pub takes-kept : (bits left : List Bool) (old new : List ℕ) → TakesBytes bits left old new → IsKept old new
takes-kept bits left old new t = kept-put old t.more new t.put

pub takes-count : (bits left : List Bool) (old new : List ℕ) (t : TakesBytes bits left old new) → length bits ≡ 8 * length t.more + length left
takes-count bits left old new t = ap length t.cut ∙ length-append (bits_of_bytes t.more) left ∙ ap (λ (n : ℕ). n + length left) (length-flat_map_bits 8 t.more)
