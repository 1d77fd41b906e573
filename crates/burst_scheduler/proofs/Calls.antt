-- Calls that asked for a flow or a step, and how often they change the ring.
use Rattle.std.proofs.Common.{ℕ, ◌≡◌, ◌≤◌, ◌+◌, ◌*◌, ◌/◌, Bool, [], ◌∷◌, ◌++◌, length, inl, ap, ◌∙◌, arith, length-append, append-nil, mul-le-mul_right}
use Rattle.lk_base.specs.declared.word.Word.{Word}
use Rattle.burst_scheduler.specs.Asked.{Asked, stepped}
use Rattle.burst_scheduler.specs.Gives.{HasWords, Gives, HasBegun, ChangesRing, links_of}
use Rattle.burst_scheduler.specs.declared.scheduler.Scheduler.{Scheduler}

-- where the end is known the words are
pub has_words : {s : Scheduler} {a : Asked} → Gives s a → HasWords s a
has_words g = record { holds = g.runs.words; waiting = g.waiting }

-- ---- how often the ring is changed

pub ring_more : (old mid new : Scheduler) (a : Asked) (most : ℕ) → ChangesRing old mid a 0 → links_of new ≤ links_of mid + most → ChangesRing old new a most
ring_more old mid new a most begun h = record {
  first = let f = begun.first in omega arith;
  later = λ b. let l = begun.later b in omega arith;
}

-- ---- a call that was asked for

pub begun_word : (a : Asked) (more : Bool) (v : Word) → HasBegun (stepped a more (v ∷ []))
begun_word a more v = inl (let l : length (a.words ++ v ∷ []) ≡ length a.words + 1 = length-append a.words (v ∷ []) in omega (arith, l))

-- after the last word some were given
pub begun_end : (a : Asked) (more : Bool) (z : ℕ) → length a.words ≡ a.source.shape.group * (z / a.source.shape.group + 2) → HasBegun (stepped a more [])
begun_end a more z long = inl (let n : length (a.words ++ []) ≡ length a.words = ap length (append-nil a.words) in let some : 1 ≤ a.source.shape.group = a.source.shape.group_low in some_words (length (a.words ++ [])) a.source.shape.group (z / a.source.shape.group) (n ∙ long) some)
  where
    some_words : (l g q : ℕ) → l ≡ g * (q + 2) → 1 ≤ g → 1 ≤ l
    some_words l g q e h = let m : 1 * (q + 2) ≤ g * (q + 2) = mul-le-mul_right (q + 2) h in omega (arith, e, m)
