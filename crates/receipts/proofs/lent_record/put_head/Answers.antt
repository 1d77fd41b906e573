-- The first bytes are the head of the record.
use Rattle.std.proofs.Common.{◌≡◌, ℕ, refl, ap, ◌∙◌, ◌++◌, List, length, take, drop}
use Rattle.std.proofs.lemmas.List.{take_at}
use Rattle.pcap_files.specs.Written.{record_head}
use Rattle.receipts.proofs.lent_record.put_head.Goals as goal

head_long : (size : ℕ) → length (record_head size) ≡ 16
unfolding record_head
head_long size = refl

pub returns : goal.returns
returns c =
    ap (λ (head : List ℕ). take 16 (head ++ drop 16 c.args.bytes.now)) c.put_record_head.ensures
    ∙ take_at (record_head c.args.size) (drop 16 c.args.bytes.now) 16 (head_long c.args.size)
