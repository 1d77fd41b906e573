-- Two strides are a word's 64 key bits, of which the last 58 are the next state.
use Rattle.std.proofs.Common.{◌≡◌, ℕ, ap, ◌∙◌, ◌+◌, ◌-◌, ◌*◌, ◌%◌, ◌^◌, ◌≤◌, List, Bool, length, arith, bit_and, bit_or, bit_xor}
use Rattle.std.proofs.lemmas.Nat.{and_mask, shl_whole, or_shifted}
use Rattle.lane_model.specs.Key.{start_of, state_before, key_word}
use Rattle.lane_model.proofs.KeyHolds.{states_go_on, words_go_on}
use Rattle.scrambler58.specs.Strides.{bits_after, state_after}
use Rattle.scrambler58.proofs.Whole.{bits_after-below, state_in_key, whole_key}
use Rattle.scrambler58.proofs.scrambler.Scrambler.apply.Goals as goal

word : (s first second : ℕ) → first ≡ bits_after s 39 → second ≡ bits_after (state_after s 39) 25 →
    bit_or (first * 2 ^ 25 % 2 ^ 64) second ≡ key_word (start_of s) 0
word s first second a b =
    ap (λ x. bit_or (x * 2 ^ 25 % 2 ^ 64) second) a
    ∙ ap (λ x. bit_or x second) (shl_whole (bits_after s 39) 39 25 64 (bits_after-below s 39) (omega arith))
    ∙ ap (λ y. bit_or (bits_after s 39 * 2 ^ 25) y) b
    ∙ or_shifted (bits_after s 39) 25 (bits_after (state_after s 39) 25) (bits_after-below (state_after s 39) 25)
    ∙ whole_key s

end : (s key : ℕ) → key ≡ key_word (start_of s) 0 → bit_and key (2 ^ 58 - 1) ≡ state_before (start_of s) 1
end s key e = and_mask key 58 ∙ ap (λ k. k % 2 ^ 58) e ∙ state_in_key s

-- the same for a key that was begun before
along : (s x y payload : ℕ) → x ≡ key_word (start_of s) 0 → y ≡ state_before (start_of s) 1 → (start : List Bool) (j : ℕ) → 58 ≤ length start → s ≡ state_before start j →
    (bit_xor payload x ≡ bit_xor payload (key_word start j)) × (y ≡ state_before start (j + 1))
along s x y payload a b start j l e =
    let none : j + 0 ≡ j = omega arith in (
      ap (bit_xor payload) (a ∙ ap (λ n. key_word (start_of n) 0) e ∙ words_go_on start j 0 l ∙ ap (key_word start) none),
      b ∙ ap (λ n. state_before (start_of n) 1) e ∙ states_go_on start j 1 l,
    )

pub returns-clause-value : goal.returns-clause-value
returns-clause-value c = rw (← c.self.view_is) (ap (bit_xor c.args.payload) (word c.self.inside.state _ _ c.first_bits-first.ensures.value c.second_bits-second.ensures.value))

pub returns-clause-state : goal.returns-clause-state
returns-clause-state c = rw (← c.self.view_is) (end c.self.inside.state _ (word c.self.inside.state _ _ c.first_bits-first.ensures.value c.second_bits-second.ensures.value))

pub returns-clause-key : goal.returns-clause-key
returns-clause-key c =
    rw (← c.self.view_is)
    (along c.self.inside.state _ _ c.args.payload (word c.self.inside.state _ _ c.first_bits-first.ensures.value c.second_bits-second.ensures.value) (end c.self.inside.state _ (word c.self.inside.state _ _ c.first_bits-first.ensures.value c.second_bits-second.ensures.value)))
