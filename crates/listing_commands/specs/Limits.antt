-- The limits of the commands of listings, as definitions say them.
use Rattle.std.specs.Prelude.{ℕ}
use Rattle.listing_commands.specs.declared.limits.TheConstants.{LISTED_LIMIT, TEXT_LIMIT}

-- the most bytes of a file that is listed
abbrev pub listed_limit : ℕ
listed_limit = LISTED_LIMIT

-- the most bytes of a text that is assembled
abbrev pub text_limit : ℕ
text_limit = TEXT_LIMIT
