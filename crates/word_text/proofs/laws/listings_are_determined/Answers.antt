use Rattle.word_text.proofs.Unique.{one-text}
use Rattle.word_text.proofs.UniqueLanes.{lane-one-text}
use Rattle.word_text.proofs.Causes.{one-bytes, one-kind}
use Rattle.word_text.proofs.laws.listings_are_determined.Goals as goal

pub returns-clause-words_text : goal.returns-clause-words_text
returns-clause-words_text c = one-text

pub returns-clause-lane_text : goal.returns-clause-lane_text
returns-clause-lane_text c = lane-one-text

pub returns-clause-one_file : goal.returns-clause-one_file
returns-clause-one_file c = one-bytes

pub returns-clause-one_kind : goal.returns-clause-one_kind
returns-clause-one_kind c = one-kind
