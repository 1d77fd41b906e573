-- A control word that is heard, and the word with its bits 63:24 and the checksum of itself alone.
use Rattle.std.proofs.Common.{◌≡◌, ◌↔◌, ℕ, ◌+◌, ◌/◌, ◌%◌, ◌^◌, ◌<◌, Bool, true, false, ◌&&◌, ◌==◌, [], Option, Some, None, Result, Ok, Err, IsOk, IfOk, refl, sym, ap, ap₂, subst, ◌∙◌, arith, eq-eqb}
use Rattle.std.specs.Bool.{IsTrue}
use Rattle.std.specs.Result.{result_ok}
use Rattle.std.proofs.lemmas.Nat.{shr-shr}
use Rattle.lk_base.specs.Fields.{field, control_field, eop_field, crc_field, is_control_word, is_end_format}
use Rattle.lk_base.specs.Checksum.{control_crc}
use Rattle.control_words.specs.ControlWord.{IsWordOf}
use Rattle.control_words.specs.declared.fields.Control.{Control}
use Rattle.control_words.specs.declared.fields.NotControl.{NotControl}
use Rattle.control_words.proofs.SameControl.{word_is_control}
use Rattle.calendar.specs.Incoming.{IsHeardAs, StandsFor}

module _ (word row : ℕ) (heard : IsHeardAs word row) where
  -- a field above the checksum is that of the word
  same_field : (k low width : ℕ) → 24 + k ≡ low → field low width row ≡ field low width word
  same_field k low width e =
      ap (λ n. n % 2 ^ width)
      (ap (λ n. row / 2 ^ n) (sym e) ∙ sym (shr-shr row 24 k) ∙ ap (λ n. n / 2 ^ k) heard.0 ∙ shr-shr word 24 k ∙ ap (λ n. word / 2 ^ n) e)

  heard_fields : (c : Control) (crc : ℕ) → word < 2 ^ 64 → IsWordOf c crc word → IsWordOf c (crc_field row) row
  heard_fields c crc small is = record {
    sized = let h = heard.0 in omega arith;
    control = same_field 39 63 1 refl ∙ is.control;
    burst = same_field 38 62 1 refl ∙ is.burst;
    sop = same_field 37 61 1 refl ∙ is.sop;
    eop = same_field 33 57 4 refl ∙ is.eop;
    reset = same_field 32 56 1 refl ∙ is.reset;
    flow = same_field 16 40 16 refl ∙ is.flow;
    channel = same_field 8 32 8 refl ∙ is.channel;
    multi = same_field 0 24 8 refl ∙ is.multi;
    checksum = refl;
  }

  same_control : is_control_word row ≡ is_control_word word
  same_control = ap₂ (λ c e. (c == 1) && is_end_format e) (same_field 39 63 1 refl) (same_field 33 57 4 refl)

  -- what is read of the word stands for the row
  pub heard_stands : (read : Result Control NotControl) → word < 2 ^ 64 → IfOk read (λ c. IsWordOf c (crc_field word) word) → IsOk read ↔ IsTrue (is_control_word word) → StandsFor (result_ok read) row
  heard_stands (Ok c) small is control =
      let right : is_control_word row ≡ true = same_control ∙ word_is_control c (crc_field word) word is in
      (rw (right, eq-eqb (crc_field row) (control_crc [] row) heard.1) refl, (crc_field row, heard_fields c (crc_field word) small is))
  heard_stands (Err why) small is control =
      let none : is_control_word word ≡ false = no (is_control_word word) control.1 in
      rw (same_control ∙ none) refl
    where
      no : (b : Bool) → (IsTrue b → false ≡ true) → b ≡ false
      no true h = sym (h refl)
      no false h = refl
