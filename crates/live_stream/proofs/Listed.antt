-- A channel that has a queue is one of the listed ones.
use Rattle.std.proofs.Common.{◌≡◌, ◌∙◌, ◌<◌, ◌≤◌, inl, inr, ℕ, true, false, nat_lt, List, length, get_or, Contains, sym, ap, subst, arith}
use Rattle.std.proofs.lemmas.Bool.{cases_lt, lt-ltb}
use Rattle.std.proofs.lemmas.Bool.Decides.{nat_tests}
use Rattle.std.proofs.lemmas.List.Elements.{Contains-get_or}
use Rattle.lk_base.specs.declared.word.Word.{Word}
use Rattle.live_stream.specs.LiveStream.{Given}
use Rattle.live_stream.specs.Waiting.{channels_of}
use Rattle.live_stream.specs.Gives.{Gives, is_among}
use Rattle.live_stream.specs.declared.scheduler.LiveScheduler.{LiveScheduler}
use Rattle.live_stream.specs.declared.waiting.Waiting.{Waiting}
use Rattle.live_stream.proofs.Places.{as_many}
use Rattle.live_stream.proofs.Refusals.{among_not, among_yes}

-- the channel is none of the listed ones
pub unknown : (s : LiveScheduler) (g : Given) (w : List Word) (c : ℕ) → Gives s g w → (Contains (channels_of s.turns.items) c → ⊥) → Contains g.channels c → ⊥
unknown s g w c h never i = never ((h.words.turns.exact c).1 i)

-- it is listed, as it has a place
pub placed : (s : LiveScheduler) (g : Given) (w : List Word) (c at : ℕ) (ts : List Waiting) → Gives s g w → ts ≡ s.turns.items → at < length s.turns.items → (at < length ts → get_or (channels_of ts) at 0 ≡ c)
    → (get_or (channels_of s.turns.items) at 0 ≡ c) × Contains g.channels c
placed s g w c at ts h same below found =
    let n = as_many s.turns.items in
    let long = ap length same in
    let is : get_or (channels_of s.turns.items) at 0 ≡ c = ap (λ xs. get_or (channels_of xs) at 0) (sym same) ∙ found (omega (arith, below, long)) in
    (is, (h.words.turns.exact c).0 (subst (Contains (channels_of s.turns.items)) is (Contains-get_or (channels_of s.turns.items) at 0 (omega (arith, below, n)))))

-- a place below the number of queues is found for the listed channels, and for no other
pub found_listed : (s : LiveScheduler) (g : Given) (w : List Word) (c at n : ℕ) (ts : List Waiting) → Gives s g w → ts ≡ s.turns.items → n ≡ length s.turns.items → (at < length ts → get_or (channels_of ts) at 0 ≡ c)
    → (at ≡ length ts → Contains (channels_of ts) c → ⊥) → at ≤ length ts → nat_lt at n ≡ is_among g.channels c
found_listed s g w c at n ts h same many found missing within = elim (cases_lt at (length s.turns.items)) [
  | inl below ↦
      let test : nat_lt at n ≡ true = (let b : at < n = omega (arith, below, many) in lt-ltb at n b) in
      test ∙ sym (among_yes g.channels c (placed s g w c at ts h same below found).1)
  | inr past ↦
      let long = ap length same in
      let test : nat_lt at n ≡ false = (let b : n ≤ at = omega (arith, past, many) in grind (arith, nat_tests)) in
      let never : Contains (channels_of s.turns.items) c → ⊥ = subst (λ xs. Contains (channels_of xs) c → ⊥) same (missing (omega (arith, past, within, long))) in
      test ∙ sym (among_not g.channels c (unknown s g w c h never))
]
