-- The examples of what is counted and listed are computed.
use Rattle.std.proofs.Common.{ℕ, zero, suc, ◌≡◌, ◌+◌, ◌≤◌, refl, true, false, List, [], ◌∷◌, take, All, Some, None, arith}
use Rattle.lk_base.specs.declared.word.Word.{Word}
use Rattle.stream_model.specs.StreamExamples.{idle, one_packet_words, wide_pair_words}
use Rattle.tx_words.specs.declared.sent.Sent.{Sent}
use Rattle.tx_words.specs.Sent.{IsEnd, IsSent, IsQuiet}
use Rattle.tx_words.specs.SentExamples.{CountExamples, SentExamples, start_on_zero, start_on_one, end_of_eight, listed}

pub counts_hold : CountExamples
counts_hold = record { one = refl; three = refl; five = refl; wide = refl; least = refl; off = refl }

all_of_one : (w : List Word) (a : Sent) → IsSent w a → All (IsSent w) (a ∷ [])
all_of_one w a h zero d l = h
all_of_one w a h (suc k) d l = absurd (omega arith)

all_of_two : (w : List Word) (a b : Sent) → IsSent w a → IsSent w b → All (IsSent w) (a ∷ b ∷ [])
all_of_two w a b h g zero d l = h
all_of_two w a b h g (suc zero) d l = g
all_of_two w a b h g (suc (suc k)) d l = absurd (omega arith)

at_once : (w : List Word) (c f z : ℕ) → z ≤ f + 1 → IsQuiet w c f z
at_once w c f z le u a b = absurd (omega arith)

whole_quiet : IsQuiet one_packet_words 1 1 3
whole_quiet zero a b = absurd (omega arith)
whole_quiet (suc zero) a b = absurd (omega arith)
whole_quiet (suc (suc zero)) a b = (refl, refl)
whole_quiet (suc (suc (suc u))) a b = absurd (omega arith)

five_quiet : IsQuiet wide_pair_words 5 1 3
five_quiet zero a b = absurd (omega arith)
five_quiet (suc zero) a b = absurd (omega arith)
five_quiet (suc (suc zero)) a b = (refl, refl)
five_quiet (suc (suc (suc u))) a b = absurd (omega arith)

wide_quiet : IsQuiet wide_pair_words 261 6 8
wide_quiet zero a b = absurd (omega arith)
wide_quiet (suc zero) a b = absurd (omega arith)
wide_quiet (suc (suc zero)) a b = absurd (omega arith)
wide_quiet (suc (suc (suc zero))) a b = absurd (omega arith)
wide_quiet (suc (suc (suc (suc zero)))) a b = absurd (omega arith)
wide_quiet (suc (suc (suc (suc (suc zero))))) a b = absurd (omega arith)
wide_quiet (suc (suc (suc (suc (suc (suc zero)))))) a b = absurd (omega arith)
wide_quiet (suc (suc (suc (suc (suc (suc (suc zero))))))) a b = (refl, refl)
wide_quiet (suc (suc (suc (suc (suc (suc (suc (suc u)))))))) a b = absurd (omega arith)

cut_none : (z : ℕ) → IsEnd (take 3 one_packet_words) 1 1 z → ⊥
cut_none zero e = omega (arith, e.behind)
cut_none (suc zero) e = omega (arith, e.behind)
cut_none (suc (suc zero)) e = let h : false ≡ true = e.ends in cc
cut_none (suc (suc (suc z))) e = omega (arith, e.within)

again_none : (z : ℕ) → IsEnd (start_on_zero ∷ start_on_zero ∷ end_of_eight ∷ []) 0 0 z → ⊥
again_none zero e = omega (arith, e.behind)
again_none (suc zero) e = let h : false ≡ true = e.ends in cc
again_none (suc (suc zero)) e = let h : true ≡ false = (e.quiet 1 (omega arith) (omega arith)).1 in cc
again_none (suc (suc (suc z))) e = omega (arith, e.within)

other_none : (z : ℕ) → IsEnd (start_on_zero ∷ start_on_one ∷ end_of_eight ∷ []) 0 0 z → ⊥
other_none zero e = omega (arith, e.behind)
other_none (suc zero) e = let h : false ≡ true = e.ends in cc
other_none (suc (suc zero)) e = let h : false ≡ true = e.ends in cc
other_none (suc (suc (suc z))) e = omega (arith, e.within)

both_quiet : IsQuiet (start_on_zero ∷ end_of_eight ∷ start_on_zero ∷ idle ∷ end_of_eight ∷ []) 0 2 4
both_quiet zero a b = absurd (omega arith)
both_quiet (suc zero) a b = absurd (omega arith)
both_quiet (suc (suc zero)) a b = absurd (omega arith)
both_quiet (suc (suc (suc zero))) a b = (refl, refl)
both_quiet (suc (suc (suc (suc u)))) a b = absurd (omega arith)

pub sent_hold : SentExamples
sent_hold = record {
  whole = record {
    firsts = refl;
    each = all_of_one one_packet_words (listed 1 0 1 (Some 3)) (record { within = omega arith; starts = refl; number = refl; last = record { behind = omega arith; within = omega arith; ends = refl; quiet = whole_quiet } });
  };
  wide = record {
    firsts = refl;
    each = all_of_two wide_pair_words (listed 5 0 1 (Some 3)) (listed 261 0 6 (Some 8))
        (record { within = omega arith; starts = refl; number = refl; last = record { behind = omega arith; within = omega arith; ends = refl; quiet = five_quiet } })
        (record { within = omega arith; starts = refl; number = refl; last = record { behind = omega arith; within = omega arith; ends = refl; quiet = wide_quiet } });
  };
  cut = record {
    firsts = refl;
    each = all_of_one (take 3 one_packet_words) (listed 1 0 1 None) (record { within = omega arith; starts = refl; number = refl; last = cut_none });
  };
  again = record {
    firsts = refl;
    each = all_of_two (start_on_zero ∷ start_on_zero ∷ end_of_eight ∷ []) (listed 0 0 0 None) (listed 0 1 1 (Some 2))
        (record { within = omega arith; starts = refl; number = refl; last = again_none })
        (record { within = omega arith; starts = refl; number = refl; last = record { behind = omega arith; within = omega arith; ends = refl; quiet = at_once (start_on_zero ∷ start_on_zero ∷ end_of_eight ∷ []) 0 1 2 (omega arith) } });
  };
  other = record {
    firsts = refl;
    each = all_of_two (start_on_zero ∷ start_on_one ∷ end_of_eight ∷ []) (listed 0 0 0 None) (listed 1 0 1 (Some 2))
        (record { within = omega arith; starts = refl; number = refl; last = other_none })
        (record { within = omega arith; starts = refl; number = refl; last = record { behind = omega arith; within = omega arith; ends = refl; quiet = at_once (start_on_zero ∷ start_on_one ∷ end_of_eight ∷ []) 1 1 2 (omega arith) } });
  };
  both = record {
    firsts = refl;
    each = all_of_two (start_on_zero ∷ end_of_eight ∷ start_on_zero ∷ idle ∷ end_of_eight ∷ []) (listed 0 0 0 (Some 1)) (listed 0 1 2 (Some 4))
        (record { within = omega arith; starts = refl; number = refl; last = record { behind = omega arith; within = omega arith; ends = refl; quiet = at_once (start_on_zero ∷ end_of_eight ∷ start_on_zero ∷ idle ∷ end_of_eight ∷ []) 0 0 1 (omega arith) } })
        (record { within = omega arith; starts = refl; number = refl; last = record { behind = omega arith; within = omega arith; ends = refl; quiet = both_quiet } });
  };
}
