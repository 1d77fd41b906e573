use Rattle.std.proofs.Common.{refl, arith, codes}
use Rattle.std.proofs.lemmas.Str.{IsUtf8-from_is_utf8}
use lib.Utf8.{encode}
use Rattle.std.specs.Str.{is_utf8, chars}
use Rattle.link_cases.proofs.laws.premises_are_met.Goals as goal

pub returns-clause-letters : goal.returns-clause-letters
unfolding is_utf8 chars encode
returns-clause-letters c = record { text = IsUtf8-from_is_utf8 (codes "g") refl; some = omega arith; few = omega arith }

pub returns-clause-marks : goal.returns-clause-marks
unfolding is_utf8 chars encode
returns-clause-marks c = record { text = IsUtf8-from_is_utf8 (codes "q,\"\n") refl; some = omega arith; few = omega arith }
