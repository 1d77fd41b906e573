use Rattle.std.proofs.Common.{ℕ, inl, subst, sym}
use Rattle.std.proofs.lemmas.Result.{on_ok_weaker}
use Rattle.control_words.specs.ControlWord.{IsWordOf}
use Rattle.word_text.proofs.line_of_word.control_line.Goals as goal

pub returns-in-Ok : goal.returns-in-Ok
returns-in-Ok c =
    on_ok_weaker c.fields_line.result (λ e. inl (c.in-Ok.c, c.crc.result, subst (λ (crc : ℕ). IsWordOf c.in-Ok.c crc c.args.x) (sym c.crc.ensures) c.in-Ok.ensures.ok, e)) c.fields_line.ensures
