-- What is kept of the channels, and one burst or one Bad word more.
use Rattle.std.proofs.Common.{ℕ, suc, ◌+◌, ◌*◌, ◌≡◌, ◌==◌, nat_lt, nat_le, refl, sym, ap, ◌∙◌, Bool, true, false, cond, not, ◌&&◌, ◌||◌, List, [], ◌∷◌, length, Option, Some, None, arith}
use Rattle.std.specs.Option.{option_map, option_map_or, option_and_then}
use Rattle.std.specs.List.{list_any}
use Rattle.std.proofs.lemmas.Bool.Decides.{nat_tests}
use Rattle.lk_base.specs.declared.word.RxWord.{RxWord}
use Rattle.lk_base.specs.declared.word.RxWord.TheVariants.{Data, Control, Bad}
use Rattle.lk_base.specs.Fields.{is_control_word, has_sop}
use Rattle.control_words.specs.ControlWord.{end_of}
use Rattle.word_rules.specs.declared.burst.Burst.{Burst}
use Rattle.word_rules.specs.declared.channel.ChannelState.{ChannelState}
use Rattle.word_rules.specs.Places.{is_burst_word, known, data_before, burst_before}
use Rattle.word_rules.specs.Bursts.{bursts_from, ends, is_ended, burst_bytes, whole_bytes, since_sop}
use Rattle.word_rules.specs.Rules.{passes_limit}
use Rattle.word_rules.specs.Channels.{bytes_before, grown, channel_after, long_by, held_of, held, IsChannel, closed}

pub self_test : (n : ℕ) → (n == n) ≡ true
self_test n = grind (arith, nat_tests)

zero_least : (n : ℕ) → nat_le 0 n ≡ true
zero_least n = grind (arith, nat_tests)

or_false : (b : Bool) → (b || false) ≡ b
or_false true = refl
or_false false = refl

-- ---- one burst more on a channel

too_many : (n w most : ℕ) → nat_le w most ≡ false → nat_le (n + w) most ≡ false
too_many n w most h = grind (arith, nat_tests)

grow : ℕ → Bool → ℕ → Option ℕ → Option ℕ
grow most e n o = option_and_then (λ (h : ℕ). cond (not e && nat_le (n + h) most) (Some (n + h)) None) o

grow_small : (most n w : ℕ) (t : Bool) → nat_le w most ≡ t → grow most false n (cond t (Some w) None) ≡ cond (nat_le (n + w) most) (Some (n + w)) None
unfolding grow
grow_small most n w true h = refl
grow_small most n w false h = rw (too_many n w most h) refl

grow_none : (most n : ℕ) (o : Option ℕ) → grow most true n o ≡ None
unfolding grow
grow_none most n None = refl
grow_none most n (Some h) = refl

grow_nothing : (most n : ℕ) → grow most false n None ≡ None
unfolding grow
grow_nothing most n = refl

grow_step : (most : ℕ) (e a : Bool) (n w : ℕ) → grow most e n (cond (not a && nat_le w most) (Some w) None) ≡ cond (not (e || a) && nat_le (n + w) most) (Some (n + w)) None
grow_step most true a n w = grow_none most n (cond (not a && nat_le w most) (Some w) None)
grow_step most false true n w = grow_nothing most n
grow_step most false false n w = grow_small most n w (nat_le w most) refl

held_more : (most : ℕ) (b : Burst) (o : Option (List Burst)) → grow most (ends b.closer) (8 * b.size) (option_and_then (held_of most) o) ≡ option_and_then (held_of most) (option_map (λ (rest : List Burst). b ∷ rest) o)
unfolding grow
held_more most b None = refl
held_more most b (Some r) = grow_step most (ends b.closer) (list_any is_ended r) (8 * b.size) (whole_bytes r)

grown_is : (most : ℕ) (b : Burst) (o : Option ℕ) → grown most b o ≡ grow most (ends b.closer) (8 * b.size) o
unfolding grow
grown_is most b o = refl

held_step : (most : ℕ) (b : Burst) (bs : List Burst) (sop : Bool) →
    grown most b (cond sop (Some 0) (held most bs)) ≡ option_and_then (held_of most) (cond sop (Some (b ∷ [])) (option_map (λ (rest : List Burst). b ∷ rest) (since_sop bs)))
held_step most b bs true = sym (ap (λ (t : Bool). cond (not t && nat_le (8 * b.size + 0) most) (Some (8 * b.size + 0)) None) (or_false (ends b.closer)))
held_step most b bs false = grown_is most b (held most bs) ∙ held_more most b (since_sop bs)

-- whether the limit is passed
over : (most bytes : ℕ) (a : Bool) (w : ℕ) (t : Bool) → option_map_or (λ (h : ℕ). nat_lt most (h + bytes)) (cond (not a && t) (Some w) None) false ≡ (not a && (t && nat_lt most (w + bytes)))
over most bytes true w t = refl
over most bytes false w true = refl
over most bytes false w false = refl

long_more : (most : ℕ) (b : Burst) (o : Option (List Burst)) →
    option_map_or (λ (h : ℕ). nat_lt most (h + burst_bytes b.size (end_of b.closer))) (option_and_then (held_of most) o) false
    ≡ option_map_or (passes_limit most (end_of b.closer)) (option_map (λ (rest : List Burst). b ∷ rest) o) false
long_more most b None = refl
long_more most b (Some r) = over most (burst_bytes b.size (end_of b.closer)) (list_any is_ended r) (whole_bytes r) (nat_le (whole_bytes r) most)

long_step : (most : ℕ) (b : Burst) (bs : List Burst) (sop : Bool) →
    option_map_or (λ (h : ℕ). nat_lt most (h + burst_bytes b.size (end_of b.closer))) (cond sop (Some 0) (held most bs)) false
    ≡ option_map_or (passes_limit most (end_of b.closer)) (cond sop (Some (b ∷ [])) (option_map (λ (rest : List Burst). b ∷ rest) (since_sop bs))) false
long_step most b bs true = sym (ap (λ (t : Bool). t && nat_lt most (0 + burst_bytes b.size (end_of b.closer))) (zero_least most))
long_step most b bs false = long_more most b (since_sop bs)

module _ (c : ChannelState) (from most : ℕ) (bs : List Burst) (s : IsChannel c from most bs) where
  pub channel_step : (b : Burst) → IsChannel (channel_after from most c b) from most (b ∷ bs)
  channel_step b = record {
    since = omega arith;
    going = ap (λ (t : Bool). cond t (Some (not (ends b.closer))) None) (self_test from);
    packet = ap (λ (t : Bool). cond t (grown most b (bytes_before from c b.word)) None) (self_test from)
        ∙ ap (λ (o : Option ℕ). grown most b (cond (has_sop b.word) (Some 0) o)) s.packet
        ∙ held_step most b bs (has_sop b.word);
  }

  pub long_is : (b : Burst) → long_by from most c b ≡ (is_control_word b.closer && option_map_or (passes_limit most (end_of b.closer)) (since_sop (b ∷ bs)) false)
  long_is b = ap (λ (t : Bool). is_control_word b.closer && t)
      (ap (λ (o : Option ℕ). option_map_or (λ (h : ℕ). nat_lt most (h + burst_bytes b.size (end_of b.closer))) (cond (has_sop b.word) (Some 0) o) false) s.packet
      ∙ long_step most b bs (has_sop b.word))

  -- after a Bad word nothing is known
  pub channel_bad : IsChannel c (from + 1) most []
  channel_bad =
      let later : (c.since == from + 1) ≡ false = (let h = s.since in grind (arith, nat_tests)) in
      record {
        since = (let h = s.since in omega arith);
        going = ap (λ (t : Bool). cond t c.going None) later;
        packet = ap (λ (t : Bool). cond t c.packet None) later;
      }

-- ---- the closed bursts before a Control word

-- the burst right before the place, if there is one, in front of others
abbrev pub in_front : ℕ → ℕ → Option ℕ → List Burst → List Burst
in_front x n None bursts = bursts
in_front x n (Some word) bursts = record { word = word; size = n; closer = x } ∷ bursts

front_control : (x n y : ℕ) (b : Bool) (bs : List Burst) → cond b (record { word = y; size = n; closer = x } ∷ bs) bs ≡ in_front x (n + 0) (cond b (Some y) None) bs
front_control x n y true bs = (let e : n ≡ n + 0 = omega arith in ap (λ (k : ℕ). record { word = y; size = k; closer = x } ∷ bs) e)
front_control x n y false bs = refl

front_none : (x n : ℕ) → [] ≡ in_front x n None []
front_none x n = refl

pub bursts_at : (x n : ℕ) (e : List RxWord) → bursts_from x n (known e) ≡ in_front x (n + length (data_before e)) (burst_before e) (closed e)
bursts_at x n [] = front_none x (n + 0)
bursts_at x n (Data d ∷ e) = bursts_at x (suc n) e ∙ (let h : suc n + length (data_before e) ≡ n + suc (length (data_before e)) = omega arith in ap (λ (k : ℕ). in_front x k (burst_before e) (closed e)) h)
bursts_at x n (Control y ∷ e) = front_control x n y (is_burst_word y) (bursts_from y 0 (known e))
bursts_at x n (Bad ∷ e) = front_none x (n + 0)
