use Rattle.std.proofs.Common.{◌≡◌, ◌∙◌, ℕ, ap, length, replicate}
use Rattle.std.proofs.lemmas.List.{length-replicate}
use Rattle.duplex.specs.Queues.{empty_queue}
use Rattle.duplex.proofs.Filled.{all_empty, none_filled}
use Rattle.duplex.proofs.queue.Queues.new.Goals as goal

pub returns-clause-empty : goal.returns-clause-empty
returns-clause-empty c channel = all_empty 65536 c.in_ok-by_channel.by_channel.items channel (c.in_ok-by_channel.ensures.items_if_clones_equal (λ y h. h))

pub returns-clause-queues : goal.returns-clause-queues
returns-clause-queues c =
    let queues : c.in_ok-by_channel.by_channel.items ≡ replicate 65536 empty_queue = c.in_ok-by_channel.ensures.items_if_clones_equal (λ y h. h) in
    let filled : c.in_ok-filled.filled.items ≡ replicate 65536 0 = c.in_ok-filled.ensures.items_if_clones_equal (λ y h. h) in
    record {
      wide = ap length queues ∙ length-replicate 65536 empty_queue;
      room = ap length filled ∙ (let zero_number : ℕ = 0 in length-replicate 65536 zero_number);
      filled = none_filled c.in_ok-by_channel.by_channel.items c.in_ok-filled.filled.items (λ channel. all_empty 65536 c.in_ok-by_channel.by_channel.items channel queues);
    }
