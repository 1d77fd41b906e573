use Rattle.std.proofs.Common.{◌≡◌, ◌++◌, ℕ, List, take, All, Contains}
use Rattle.std.specs.List.{flat_map}
use Rattle.lk_base.specs.declared.word.Word.{Word}
use Rattle.duplex_model.specs.DuplexRun.{Settings, Ends}
use Rattle.duplex.specs.Duplexes.{Runs, sent_to}
use Rattle.receipts.specs.declared.receipt.ChannelReceipt.{ChannelReceipt}
use Rattle.duplex_commands.specs.Ended.{counted_line, letter_of}
use Rattle.duplex_commands.proofs.text.end_lines.Given as goal

-- the lines of the channels so far are there
abbrev pub invariant-loop-one : goal.invariant-loop-one
invariant-loop-one l = (settings : Settings) (ends : Ends) (slots : ℕ) (a b : List Word) → Runs l.duplex settings ends slots a b → All (λ (c : ChannelReceipt). Contains ends.channels c.channel) l.counts
    → l.text.items ≡ l.fn.text.items ++ flat_map (counted_line (letter_of l.end) settings (sent_to l.end a b) slots) (take l.one-index l.counts)
