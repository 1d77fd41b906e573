-- On which channel a stream is held, by what its scheduler says.
use Rattle.std.proofs.Common.{◌≡◌, ◌↔◌, ℕ, List, take, drop, Option, Some, None, refl, sym, ap, subst, ◌∙◌}
use Rattle.lk_base.specs.Least.{IsLeast}
use Rattle.lk_base.proofs.LeastLemmas.{one_least}
use Rattle.lk_base.specs.declared.word.Word.{Word}
use Rattle.stream_model.specs.BurstStream.{Source, IsBurstStream, IsHeld, IsEnding}
use Rattle.burst_scheduler.specs.Asked.{Asked, ForEachStream, IsLeft, IsHeldAt}
use Rattle.burst_scheduler.specs.Gives.{Gives}
use Rattle.burst_scheduler.specs.declared.scheduler.Scheduler.{Scheduler}
use Rattle.tx_words.specs.Sources.{IsHeldOn}
use Rattle.tx_words.specs.Driving.{Drives}
use Rattle.tx_words.proofs.Leftover.{asked, rows_left, source_again}

-- what the scheduler says of a stream
pub record Says (source : Source) (w : List Word) (r : Option ℕ) : Type 0 where
  pub held : (channel : ℕ) → r ≡ Some channel → IsHeldOn source w channel
  pub some : IsHeld source w → (channel : ℕ) × (r ≡ Some channel)

module _ (s : Scheduler) (source : Source) (words : List Word) (f l : ℕ) (d : Drives s source words f l) (r : Option ℕ)
    (held : (a : Asked) (channel : ℕ) → Gives s a → (r ≡ Some channel) ↔ IsHeldAt a channel) where
  -- where it says a channel, the words so far are held on it
  pub held_only : (channel : ℕ) → r ≡ Some channel → IsHeldOn source words channel
  held_only channel is =
      let h = (held (asked s source words f l d) channel d.gives).0 is in
      let rest = h.finish (drop f source.flow) (drop l source.local) (rows_left s source words f l d) in
      subst (λ (q : Source). IsHeldOn q words channel) (source_again s source words f l d) (h.z, rest, h.least)

  pub says : IsBurstStream source words
      → ((a : Asked) → Gives s a → ForEachStream a a.words (λ q. IsHeld q a.words ↔ ((channel : ℕ) × (r ≡ Some channel))))
      → Says source words r
  says whole stream =
      let again = source_again s source words f l d in
      record {
        held = held_only;
        some = λ h. (stream (asked s source words f l d) d.gives (drop f source.flow) (drop l source.local) (rows_left s source words f l d)
            (subst (λ (q : Source). IsBurstStream q words) (sym again) whole)).0 (subst (λ (q : Source). IsHeld q words) (sym again) h);
      }

pub held_of : (source : Source) (w : List Word) (channel : ℕ) → IsHeldOn source w channel → IsHeld source w
held_of source w channel h = (h.0, h.1, (channel, h.2.0.0, h.2.0.1))

pub one_channel : (source : Source) (w : List Word) (c d : ℕ) → IsHeldOn source w c → IsHeldOn source w d → c ≡ d
one_channel source w c d h k =
    let z : h.0 ≡ k.0 = one_least (IsEnding source w) h.0 k.0 h.1 k.1 in
    one_least (IsLeft source (take k.0 w)) c d (subst (λ (n : ℕ). IsLeast (IsLeft source (take n w)) c) z h.2) k.2

pub held_on : (source : Source) (w : List Word) (r : Option ℕ) → Says source w r → (channel : ℕ) → (r ≡ Some channel) ↔ IsHeldOn source w channel
held_on source w r says channel = (
  says.held channel,
  λ h.
      let some = says.some (held_of source w channel h) in
      some.1 ∙ ap Some (one_channel source w some.0 channel (says.held some.0 some.1) h),
)

pub held_free : (source : Source) (w : List Word) (r : Option ℕ) → Says source w r → (r ≡ None) ↔ (IsHeld source w → ⊥)
held_free source w None says = ((λ _ h. let some = says.some h in let no : None ≡ Some some.0 = some.1 in cc), λ _. refl)
held_free source w (Some c) says = ((λ no. let f : Some c ≡ None = no in cc), λ h. absurd (h (held_of source w c (says.held c refl))))
