-- One word more: what is kept, and the rows of a Control word.
use Rattle.std.proofs.Common.{ℕ, ◌^◌, ◌≡◌, ◌≤◌, ◌<◌, refl, sym, ap, ap₂, ◌∙◌, subst, Bool, true, not, ◌&&◌, List, ◌∷◌, ◌++◌, length, Option, Some, None, IfSome, append_assoc, arith}
use Rattle.lk_base.specs.declared.word.RxWord.{RxWord}
use Rattle.lk_base.specs.declared.word.RxWord.TheVariants.{Control}
use Rattle.lk_base.specs.Fields.{channel_number}
use Rattle.stream_model.specs.Calendar.{is_on}
use Rattle.stream_model.specs.declared.rows.FlowRow.{FlowRow}
use Rattle.word_rules.specs.declared.before.Before.{Before}
use Rattle.word_rules.specs.declared.channel.ChannelState.{ChannelState}
use Rattle.word_rules.specs.declared.channels.OwnChannel.{OwnChannel}
use Rattle.word_rules.specs.declared.due.Due.{Due}
use Rattle.word_rules.specs.declared.fault.Fault.{Fault}
use Rattle.word_rules.specs.declared.flow.Flow.{Flow}
use Rattle.word_rules.specs.declared.rule.WordRule.TheVariants as rules
use Rattle.word_rules.specs.Places.{is_burst_word}
use Rattle.word_rules.specs.Rules.{accepted_before, breaks_idle, breaks_multi, breaks_off, breaks_calendar}
use Rattle.word_rules.specs.Faults.{Plan, faults_at, word_rows, burst_rows, packet_rows, field_rows}
use Rattle.word_rules.specs.Stands.{IsBefore}
use Rattle.word_rules.specs.Channels.{HasBursts, HasListed, closed, seen_by, kept_after, packet_rows_by}
use Rattle.word_rules.specs.Due.{IsDue, calendar_by}
use Rattle.word_rules.specs.Flows.{IsFlow}
use Rattle.word_rules.specs.ControlRows.{control_rows_by, field_rows_by, off_by}
use Rattle.word_rules.proofs.Befores.{size_le}
use Rattle.word_rules.proofs.Lifted.{row_is, word_rows_is, burst_rows_is}
use Rattle.word_rules.proofs.KeptChannels.{table_closed, listed_closed, long_at_is, channel_small, packet_rows_is}
use Rattle.word_rules.proofs.Dues.{calendar_is}

pub size_below : (b : Before) (e : List RxWord) → IsBefore b e → length e < 2 ^ 57 → b.size < 2 ^ 60
size_below b e i h = (let k = size_le e in let s = i.size in omega arith)

pub some_more : (m n : ℕ) → m ≤ n → (o : Option ℕ) → IfSome o (λ k. k < m) → IfSome o (λ k. k < n)
some_more m n h None s = tt
some_more m n h (Some k) s = omega arith

pub flow_later : (f : Flow) (entries : List ℕ) (rows : List FlowRow) (t u : ℕ) → t ≤ u → IsFlow f entries rows t → IsFlow f entries rows u
flow_later f entries rows t u h s = record { heard = s.heard; shown = s.shown; stands = s.stands; part = s.part; gone = λ i d lt. (let k = s.gone i d lt in omega arith); early = λ i d lt. (let k = s.early i d lt in omega arith) }

pub off_on : (a b x y : Bool) → a ≡ true → b ≡ true → x ≡ y → x ≡ (a && (b && y))
off_on a b x y is_a is_b h = rw (is_a, is_b) h

regroup : (o w u k f : List Fault) → (o ++ (w ++ (u ++ k))) ++ f ≡ o ++ (w ++ (u ++ (k ++ f)))
regroup o w u k f = simp append_assoc

module _ (p : Plan) (e : List RxWord) (b : Before) (i : IsBefore b e) (d : Due) (due : IsDue d (accepted_before e)) (bads : ℕ) (kept : List ChannelState) (all : length kept ≡ 65536)
    (bursts : HasBursts kept bads p.limits.max_packet p.limits.wide (closed e)) (listed : HasListed kept p.channels) (entries : ℕ) (whole : entries ≡ length p.entries) (x : ℕ) where
  packets : (own : OwnChannel) → own ≡ seen_by p.limits bads kept b x → packet_rows_by p.limits b own x ≡ packet_rows p.limits p.channels e x
  packets own is =
      let k = channel_number p.limits.wide x in
      packet_rows_is p.limits b e i own p.channels x
      (ap (λ (o : OwnChannel). o.going) is ∙ (table_closed p.limits bads kept b x e all i bursts k (channel_small p.limits.wide x)).going)
      (ap (λ (o : OwnChannel). o.listed) is ∙ listed_closed p.limits bads kept b x p.channels all listed k (channel_small p.limits.wide x))
      (ap (λ (o : OwnChannel). o.long) is ∙ long_at_is p.limits bads kept b x e i bursts)

  off_is : off_by p.limits kept p.entries p.flow b.number x ≡ breaks_off p.limits p.channels p.entries p.flow e x
  off_is = ap₂ (λ (l : Bool) (n : ℕ). is_burst_word x && (l && not (is_on p.entries p.flow (channel_number p.limits.wide x) n))) (listed (channel_number p.limits.wide x) (channel_small p.limits.wide x)) i.number

  fields : (calendar off : Bool) → calendar ≡ calendar_by entries d x → off ≡ off_by p.limits kept p.entries p.flow b.number x → field_rows_by p.limits b.number calendar off x ≡ field_rows p e x
  fields calendar off is on =
      let one : Option ℕ = Some (channel_number p.limits.wide x) in
      let due_is : calendar ≡ breaks_calendar (length p.entries) e x = is ∙ calendar_is d e due entries x ∙ ap (λ (n : ℕ). breaks_calendar n e x) whole in
      ap₂ (λ (p q : List Fault). p ++ q) (row_is _ _ rules.Idle None None (breaks_idle x) (breaks_idle x) i.number refl refl)
      (ap₂ (λ (p q : List Fault). p ++ q) (row_is _ _ rules.Multi one one (breaks_multi p.limits x) (breaks_multi p.limits x) i.number refl refl)
      (ap₂ (λ (p q : List Fault). p ++ q) (row_is _ _ rules.Calendar None None _ _ i.number refl due_is)
      (row_is _ _ rules.Off one one _ _ i.number refl (on ∙ off_is))))

  pub control_faults : (next : Option RxWord) (own : OwnChannel) (calendar off : Bool) (old : List Fault) → own ≡ seen_by p.limits bads kept b x → calendar ≡ calendar_by entries d x → off ≡ off_by p.limits kept p.entries p.flow b.number x →
      (old ++ control_rows_by p.limits b own x next) ++ field_rows_by p.limits b.number calendar off x ≡ old ++ faults_at p e (Control x) next
  control_faults next own calendar off old is due_is off_is =
      ap₂ (λ (rows fields : List Fault). (old ++ rows) ++ fields)
      (ap₂ (λ (p q : List Fault). p ++ q) (word_rows_is b e i p.limits x next) (ap₂ (λ (p q : List Fault). p ++ q) (burst_rows_is b e i p.limits x) (packets own is)))
      (fields calendar off due_is off_is)
      ∙ regroup old (word_rows p.limits e x next) (burst_rows p.limits e x) (packet_rows p.limits p.channels e x) (field_rows p e x)

  pub kept_closed : (new : List ChannelState) → new ≡ kept_after p.limits bads kept b x → HasBursts new bads p.limits.max_packet p.limits.wide (closed (Control x ∷ e))
  kept_closed new is = subst (λ (l : List ChannelState). HasBursts l bads p.limits.max_packet p.limits.wide (closed (Control x ∷ e))) (sym is) (table_closed p.limits bads kept b x e all i bursts)

  pub kept_listed : (new : List ChannelState) → new ≡ kept_after p.limits bads kept b x → HasListed new p.channels
  kept_listed new is = subst (λ (l : List ChannelState). HasListed l p.channels) (sym is) (listed_closed p.limits bads kept b x p.channels all listed)
