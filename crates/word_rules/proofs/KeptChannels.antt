-- The channels, after a burst is closed and after a Bad word.
use Rattle.std.proofs.Common.{ℕ, ◌+◌, ◌≡◌, ◌<◌, ◌==◌, refl, sym, ap, ap₂, ◌∙◌, subst, Bool, true, false, cond, not, ◌&&◌, ◌||◌, List, [], ◌∷◌, ◌++◌, length, get_or, Option, Some, None, is_some, unwrap_or, slice_set, slice_index_or, eqb-true, arith}
use Rattle.std.proofs.lemmas.Bool.{eqb-false}
use Rattle.std.specs.Option.{option_map, option_map_or}
use Rattle.std.proofs.lemmas.List.{get_or-set_same, get_or-set_other, length-set}
use Rattle.lk_base.specs.declared.word.RxWord.{RxWord}
use Rattle.lk_base.specs.Fields.{is_control_word, has_sop, channel_number}
use Rattle.control_words.specs.ControlWord.{end_of}
use Rattle.word_rules.specs.declared.before.Before.{Before}
use Rattle.word_rules.specs.declared.burst.Burst.{Burst}
use Rattle.word_rules.specs.declared.channel.ChannelState.{ChannelState}
use Rattle.word_rules.specs.declared.channels.OwnChannel.{OwnChannel}
use Rattle.word_rules.specs.declared.fault.Fault.{Fault}
use Rattle.word_rules.specs.declared.rule.WordRule.TheVariants as rules
use Rattle.word_rules.specs.declared.limits.WordLimits.{WordLimits}
use Rattle.word_rules.specs.Places.{is_burst_word, known, data_before, burst_before}
use Rattle.word_rules.specs.Bursts.{bursts_from, is_ended, since_sop}
use Rattle.word_rules.specs.Rules.{passes_limit, is_open, last_burst, is_listed, breaks_sop, breaks_open, breaks_long}
use Rattle.word_rules.specs.Faults.{packet_rows}
use Rattle.word_rules.specs.Channels.{none_kept, channel_after, long_by, of_channel, HasBursts, HasListed, IsChannel, closed, burst_of, kept_after, long_at, sop_by, open_by, packet_rows_by}
use Rattle.word_rules.specs.Stands.{IsBefore}
use Rattle.word_rules.proofs.KeptBursts.{self_test, channel_step, channel_bad, long_is, in_front, bursts_at}
use Rattle.word_rules.proofs.Lifted.{row_is, channel_is}

-- ---- one channel of the table

module _ (kept : List ChannelState) (bads most : ℕ) (wide : Bool) (bs : List Burst) (b : Burst) (all : length kept ≡ 65536) (h : HasBursts kept bads most wide bs) where
  here : (k : ℕ) → k < 65536 → channel_number wide b.word ≡ k →
      IsChannel (get_or (slice_set kept (channel_number wide b.word) (channel_after bads most (slice_index_or kept (channel_number wide b.word) none_kept) b)) k none_kept) bads most (b ∷ of_channel wide k bs)
  here k lt e =
      let n = channel_number wide b.word in
      let v : ChannelState = channel_after bads most (slice_index_or kept n none_kept) b in
      let at : get_or (slice_set kept k v) k none_kept ≡ v = get_or-set_same kept k v none_kept (omega (arith, all)) in
      subst (λ (j : ℕ). IsChannel (get_or (slice_set kept j v) k none_kept) bads most (b ∷ of_channel wide k bs)) (sym e)
      (subst (λ (c : ChannelState). IsChannel c bads most (b ∷ of_channel wide k bs)) (sym at)
      (subst (λ (j : ℕ). IsChannel (channel_after bads most (get_or kept j none_kept) b) bads most (b ∷ of_channel wide k bs)) (sym e) (channel_step (get_or kept k none_kept) bads most (of_channel wide k bs) (h k lt) b)))

  there : (k : ℕ) → k < 65536 → (channel_number wide b.word ≡ k → ⊥) →
      IsChannel (get_or (slice_set kept (channel_number wide b.word) (channel_after bads most (slice_index_or kept (channel_number wide b.word) none_kept) b)) k none_kept) bads most (of_channel wide k bs)
  there k lt ne =
      let n = channel_number wide b.word in
      let v : ChannelState = channel_after bads most (slice_index_or kept n none_kept) b in
      subst (λ (c : ChannelState). IsChannel c bads most (of_channel wide k bs)) (sym (get_or-set_other kept n k v none_kept (λ e. ne (sym e)))) (h k lt)

  either : (k : ℕ) → k < 65536 → (t : Bool) → (channel_number wide b.word == k) ≡ t →
      IsChannel (get_or (slice_set kept (channel_number wide b.word) (channel_after bads most (slice_index_or kept (channel_number wide b.word) none_kept) b)) k none_kept) bads most (cond t (b ∷ of_channel wide k bs) (of_channel wide k bs))
  either k lt true e = here k lt (eqb-true (channel_number wide b.word) k e)
  either k lt false e = there k lt (eqb-false (channel_number wide b.word) k e)

  pub table_step : HasBursts (slice_set kept (channel_number wide b.word) (channel_after bads most (slice_index_or kept (channel_number wide b.word) none_kept) b)) bads most wide (b ∷ bs)
  table_step k lt = either k lt (channel_number wide b.word == k) refl

pub table_bad : (kept : List ChannelState) (bads most : ℕ) (wide : Bool) (bs : List Burst) → HasBursts kept bads most wide bs → HasBursts kept (bads + 1) most wide []
table_bad kept bads most wide bs h k lt = channel_bad (get_or kept k none_kept) bads most (of_channel wide k bs) (h k lt)

-- ---- the Control word x closes the burst before it

close_cases : (s : WordLimits) (bads : ℕ) (kept : List ChannelState) (b : Before) (x n : ℕ) (bs : List Burst) (o : Option ℕ) → length kept ≡ 65536 → b.burst ≡ o → b.size ≡ n →
    HasBursts kept bads s.max_packet s.wide bs → HasBursts (kept_after s bads kept b x) bads s.max_packet s.wide (in_front x n o bs)
close_cases s bads kept b x n bs None all e m h = rw e h
close_cases s bads kept b x n bs (Some word) all e m h = rw (e, m) (table_step kept bads s.max_packet s.wide bs (record { word = word; size = n; closer = x }) all h)

module _ (s : WordLimits) (bads : ℕ) (kept : List ChannelState) (b : Before) (x : ℕ) (e : List RxWord) (all : length kept ≡ 65536) (i : IsBefore b e) (h : HasBursts kept bads s.max_packet s.wide (closed e)) where
  pub table_closed : HasBursts (kept_after s bads kept b x) bads s.max_packet s.wide (bursts_from x 0 (known e))
  table_closed =
      let size : b.size ≡ 0 + length (data_before e) = (let k = i.size in omega arith) in
      subst (λ (bs : List Burst). HasBursts (kept_after s bads kept b x) bads s.max_packet s.wide bs) (sym (bursts_at x 0 e))
      (close_cases s bads kept b x (0 + length (data_before e)) (closed e) (burst_before e) all i.burst size h)

-- ---- `long`

pub channel_small : (wide : Bool) (x : ℕ) → channel_number wide x < 65536
channel_small true x = omega arith
channel_small false x = omega arith

and_false : (b : Bool) → (b && false) ≡ false
and_false true = refl
and_false false = refl

own_first : (wide : Bool) (b : Burst) (bs : List Burst) → of_channel wide (channel_number wide b.word) (b ∷ bs) ≡ b ∷ of_channel wide (channel_number wide b.word) bs
own_first wide b bs = ap (λ (t : Bool). cond t (b ∷ of_channel wide (channel_number wide b.word) bs) (of_channel wide (channel_number wide b.word) bs)) (self_test (channel_number wide b.word))

long_cases : (s : WordLimits) (bads : ℕ) (kept : List ChannelState) (b : Before) (x n : ℕ) (bs : List Burst) (o : Option ℕ) → b.size ≡ n → HasBursts kept bads s.max_packet s.wide bs →
    option_map_or (λ (word : ℕ). long_by bads s.max_packet (slice_index_or kept (channel_number s.wide word) none_kept) (burst_of b x word)) o false
    ≡ (is_control_word x && option_map_or (λ (word : ℕ). option_map_or (passes_limit s.max_packet (end_of x)) (since_sop (of_channel s.wide (channel_number s.wide word) (in_front x n o bs))) false) o false)
long_cases s bads kept b x n bs None m h = sym (and_false (is_control_word x))
long_cases s bads kept b x n bs (Some word) m h =
    let own : Burst = record { word = word; size = n; closer = x } in
    let k = channel_number s.wide word in
    rw m (long_is (get_or kept k none_kept) bads s.max_packet (of_channel s.wide k bs) (h k (channel_small s.wide word)) own
    ∙ ap (λ (l : List Burst). is_control_word x && option_map_or (passes_limit s.max_packet (end_of x)) (since_sop l) false) (sym (own_first s.wide own bs)))

pub long_at_is : (s : WordLimits) (bads : ℕ) (kept : List ChannelState) (b : Before) (x : ℕ) (e : List RxWord) → IsBefore b e → HasBursts kept bads s.max_packet s.wide (closed e) →
    long_at s bads kept b x ≡ breaks_long s e x
long_at_is s bads kept b x e i h =
    let size : b.size ≡ 0 + length (data_before e) = (let k = i.size in omega arith) in
    ap (λ (o : Option ℕ). option_map_or (λ (word : ℕ). long_by bads s.max_packet (slice_index_or kept (channel_number s.wide word) none_kept) (burst_of b x word)) o false) i.burst
    ∙ long_cases s bads kept b x (0 + length (data_before e)) (closed e) (burst_before e) size h
    ∙ ap (λ (bs : List Burst). is_control_word x && option_map_or (λ (word : ℕ). option_map_or (passes_limit s.max_packet (end_of x)) (since_sop (of_channel s.wide (channel_number s.wide word) bs)) false) (burst_before e) false) (sym (bursts_at x 0 e))

-- ---- which channels are listed stays

listed_put : (kept : List ChannelState) (bads most n : ℕ) (b : Burst) (k : ℕ) (t : Bool) → length kept ≡ 65536 → k < 65536 → (n == k) ≡ t →
    (get_or (slice_set kept n (channel_after bads most (slice_index_or kept n none_kept) b)) k none_kept).listed ≡ (get_or kept k none_kept).listed
listed_put kept bads most n b k true all lt e =
    subst (λ (j : ℕ). (get_or (slice_set kept j (channel_after bads most (slice_index_or kept j none_kept) b)) k none_kept).listed ≡ (get_or kept k none_kept).listed) (sym (eqb-true n k e))
    (ap (λ (c : ChannelState). c.listed) (get_or-set_same kept k (channel_after bads most (slice_index_or kept k none_kept) b) none_kept (omega (arith, all))))
listed_put kept bads most n b k false all lt e =
    ap (λ (c : ChannelState). c.listed) (get_or-set_other kept n k (channel_after bads most (slice_index_or kept n none_kept) b) none_kept (λ j. eqb-false n k e (sym j)))

listed_cases : (s : WordLimits) (bads : ℕ) (kept : List ChannelState) (b : Before) (x : ℕ) (channels : List ℕ) (o : Option ℕ) → length kept ≡ 65536 → b.burst ≡ o → HasListed kept channels → HasListed (kept_after s bads kept b x) channels
listed_cases s bads kept b x channels None all e h = rw e h
listed_cases s bads kept b x channels (Some word) all e h = rw e (λ k lt. listed_put kept bads s.max_packet (channel_number s.wide word) (burst_of b x word) k (channel_number s.wide word == k) all lt refl ∙ h k lt)

pub listed_closed : (s : WordLimits) (bads : ℕ) (kept : List ChannelState) (b : Before) (x : ℕ) (channels : List ℕ) → length kept ≡ 65536 → HasListed kept channels → HasListed (kept_after s bads kept b x) channels
listed_closed s bads kept b x channels all h = listed_cases s bads kept b x channels b.burst all refl h

all_put : (kept : List ChannelState) (n : ℕ) (c : ChannelState) → length kept ≡ 65536 → length (slice_set kept n c) ≡ 65536
all_put kept n c all = length-set kept n c ∙ all

all_cases : (s : WordLimits) (bads : ℕ) (kept : List ChannelState) (b : Before) (x : ℕ) (o : Option ℕ) → length kept ≡ 65536 → b.burst ≡ o → length (kept_after s bads kept b x) ≡ 65536
all_cases s bads kept b x None all e = rw e all
all_cases s bads kept b x (Some word) all e = rw e (all_put kept (channel_number s.wide word) (channel_after bads s.max_packet (slice_index_or kept (channel_number s.wide word) none_kept) (burst_of b x word)) all)

pub all_closed : (s : WordLimits) (bads : ℕ) (kept : List ChannelState) (b : Before) (x : ℕ) → length kept ≡ 65536 → length (kept_after s bads kept b x) ≡ 65536
all_closed s bads kept b x all = all_cases s bads kept b x b.burst all refl

-- ---- the rows

going_or : (o : Option Burst) → unwrap_or (option_map (λ b. not (is_ended b)) o) false ≡ option_map_or (λ b. not (is_ended b)) o false
going_or None = refl
going_or (Some b) = refl

going_some : (o : Option Burst) → is_some (option_map (λ b. not (is_ended b)) o) ≡ is_some o
going_some None = refl
going_some (Some b) = refl

module _ (s : WordLimits) (b : Before) (e : List RxWord) (i : IsBefore b e) (own : OwnChannel) (channels : List ℕ) (x : ℕ)
    (going : own.going ≡ option_map (λ b. not (is_ended b)) (last_burst s.wide e x)) (listed : own.listed ≡ is_listed channels (channel_number s.wide x)) (long : own.long ≡ breaks_long s e x) where
  goes : unwrap_or own.going false ≡ is_open s.wide e x
  goes = ap (λ (o : Option Bool). unwrap_or o false) going ∙ going_or (last_burst s.wide e x)

  sop_is : sop_by own.going x ≡ breaks_sop s e x
  sop_is = ap (λ (t : Bool). is_burst_word x && (has_sop x && t)) goes

  open_is : open_by own.going b.any_bad x ≡ breaks_open s e x
  open_is = ap₂ (λ (t u : Bool). is_burst_word x && (not (has_sop x) && (not t && u))) goes
      (ap₂ (λ (t u : Bool). t || not u) (ap is_some going ∙ going_some (last_burst s.wide e x)) i.any_bad)

  pub packet_rows_is : packet_rows_by s b own x ≡ packet_rows s channels e x
  packet_rows_is =
      let one : Option ℕ = Some (channel_number s.wide x) in
      ap₂ (λ (p q : List Fault). p ++ q) (row_is _ _ rules.Sop one one _ _ i.number refl sop_is)
      (ap₂ (λ (p q : List Fault). p ++ q) (row_is _ _ rules.Open one one _ _ i.number refl open_is)
      (ap₂ (λ (p q : List Fault). p ++ q) (row_is _ _ rules.Channel one one _ _ i.number refl (ap (λ (t : Bool). is_burst_word x && not t) listed))
      (row_is _ _ rules.Long _ _ _ _ i.number (channel_is b e i s.wide) long)))
