-- A lane of one byte, listed and assembled again, and a text that is refused.
use Rattle.std.proofs.Common.{inr, ◌+◌, [], ◌∷◌, ◌++◌, length, refl, arith}
use Rattle.std.specs.Fmt.{digits}
use lib.Chars.{codes}
use Rattle.lk_outside.specs.Files.{file}
use Rattle.words_files.specs.declared.text_error.TextError.TheVariants.{Line}
use Rattle.word_text.specs.CodeLines.{rest_lines}
use Rattle.word_text.proofs.WorkedTexts.{one-byte, second-spelling}
use Rattle.run_stops.specs.declared.input_error.InputError.TheVariants.{Text}
use Rattle.listing_commands.specs.Listing.{listing_of}
use Rattle.listing_commands.specs.Assembling.{assembling_of}
use Rattle.listing_commands.specs.Worked.{lane_text, second_text, OneByteListed, OneByteAssembled, SecondSpellingRefused}
use Rattle.listing_commands.proofs.Undone.{is-made, is-refused}

pub one-byte-listed : OneByteListed
one-byte-listed files is =
    let lines = length (one-byte.lines ++ rest_lines one-byte.rest) + 1 in
    (lines, is-made (listing_of (codes "a")) (file files (codes "a")) (0xA5 ∷ []) lane_text lines is (omega arith) (one-byte, refl))

pub one-byte-assembled : OneByteAssembled
one-byte-assembled files is = is-made (assembling_of (codes "a.txt")) (file files (codes "a.txt")) lane_text (0xA5 ∷ []) 1 is (omega arith) (inr one-byte, refl)

pub second-spelling-refused : SecondSpellingRefused
unfolding digits
second-spelling-refused files is = is-refused (assembling_of (codes "t")) (file files (codes "t")) second_text (Text (Line 2)) is (omega arith) (Line 2, second-spelling, refl)
