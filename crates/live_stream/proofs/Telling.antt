-- The order after all entries of one word, those that change a channel and those that do not.
use Rattle.std.proofs.Common.{◌≡◌, inl, ℕ, Bool, true, false, List, [], ◌∷◌, ◌++◌, length, reverse, if◌then◌else◌, refl, sym, ap, subst, ◌∙◌}
use Rattle.lk_base.specs.Checksum.{differ}
use Rattle.lk_base.specs.declared.word.Word.{Word}
use Rattle.stream_model.specs.Calendar.{Told}
use Rattle.stream_model.specs.BurstStream.{last_burst}
use Rattle.calendar.specs.declared.change.Change.{Change}
use Rattle.calendar.specs.Changes.{change, state_in, changes}
use Rattle.burst_scheduler.specs.Gives.{AreLater}
use Rattle.burst_scheduler.proofs.Telling.{key_less, same_state, told_again, cons_head, cons_tail}
use Rattle.live_stream.specs.Turns.{AreInTurn, IsTurn}
use Rattle.live_stream.proofs.InTurn.{turns_kept}

module _ (channels line : List ℕ) (w : List Word) where
  comes : (told : List Told) (e : Told) (es : List Told) → AreLater told w (e ∷ es) → differ e.on (state_in told e.channel) ≡ true → IsTurn told w e
  comes told e es h d = record {
    changes = d;
    latest = λ c. key_less told w e c h.0 (last_burst w c (length w)) (λ s at. h.1 c s at);
    bursts = λ s at. h.1 e.channel s at;
  }

  -- an entry that changes nothing
  line_kept : (told : List Told) (e : Told) → AreInTurn channels told w line → differ e.on (state_in told e.channel) ≡ false → AreInTurn channels (e ∷ told) w line
  line_kept told e h d = turns_kept channels told w line e (inl (same_state e.on (state_in told e.channel) d)) h

  -- the entries up to the next change
  pub record NextChange (told : List Told) (es : List Told) (channel : ℕ) (on : Bool) (more : List Change) : Type 0 where
    pub entry : Told
    pub before : List Told
    pub after : List Told
    pub all : reverse after ++ (entry ∷ before) ≡ reverse es ++ told
    pub order : AreInTurn channels before w line
    pub is_channel : entry.channel ≡ channel
    pub is_on : entry.on ≡ on
    pub come : IsTurn before w entry
    pub left : changes (entry ∷ before) after ≡ more
    pub later_on : AreLater (entry ∷ before) w after

  next_change : (told : List Told) (es : List Told) (channel : ℕ) (on : Bool) (more : List Change) → AreInTurn channels told w line → changes told es ≡ change channel on ∷ more → AreLater told w es → NextChange told es channel on more
  next_change told [] channel on more h is l = cc
  next_change told (e ∷ es) channel on more h is l = by (differ e.on (state_in told e.channel)) refl is (λ k eq. next_change (e ∷ told) es channel on more k eq l.2)
    where
      by : (b : Bool) → differ e.on (state_in told e.channel) ≡ b → (if b then change e.channel e.on ∷ [] else []) ++ changes (e ∷ told) es ≡ change channel on ∷ more
          → (AreInTurn channels (e ∷ told) w line → changes (e ∷ told) es ≡ change channel on ∷ more → NextChange (e ∷ told) es channel on more) → NextChange told (e ∷ es) channel on more
      by true d eq again =
          let one = cons_head (change e.channel e.on) (change channel on) (changes (e ∷ told) es) more eq in
          record {
            entry = e;
            before = told;
            after = es;
            all = told_again es told e;
            order = h;
            is_channel = ap (λ (p : Change). p.channel) one;
            is_on = ap (λ (p : Change). p.on) one;
            come = comes told e es l d;
            left = cons_tail (change e.channel e.on) (change channel on) (changes (e ∷ told) es) more eq;
            later_on = l.2;
          }
      by false d eq again =
          let n = again (line_kept told e h d) eq in
          record {
            entry = n.entry;
            before = n.before;
            after = n.after;
            all = n.all ∙ told_again es told e;
            order = n.order;
            is_channel = n.is_channel;
            is_on = n.is_on;
            come = n.come;
            left = n.left;
            later_on = n.later_on;
          }

  no_change : (told : List Told) (es : List Told) → AreInTurn channels told w line → changes told es ≡ [] → AreInTurn channels (reverse es ++ told) w line
  no_change told [] h is = h
  no_change told (e ∷ es) h is = by (differ e.on (state_in told e.channel)) refl is (λ k eq. no_change (e ∷ told) es k eq)
    where
      by : (b : Bool) → differ e.on (state_in told e.channel) ≡ b → (if b then change e.channel e.on ∷ [] else []) ++ changes (e ∷ told) es ≡ []
          → (AreInTurn channels (e ∷ told) w line → changes (e ∷ told) es ≡ [] → AreInTurn channels (reverse es ++ (e ∷ told)) w line) → AreInTurn channels (reverse (e ∷ es) ++ told) w line
      by true d eq again = cc
      by false d eq again = subst (λ (ts : List Told). AreInTurn channels ts w line) (told_again es told e) (again (line_kept told e h d) eq)

-- ---- the changes so far

pub record HasTold (channels line : List ℕ) (told : List Told) (w : List Word) (es : List Told) (left : List Change) : Type 0 where
  pub so_far : List Told
  pub to_tell : List Told
  pub all : reverse to_tell ++ so_far ≡ reverse es ++ told
  pub order : AreInTurn channels so_far w line
  pub changes_left : changes so_far to_tell ≡ left
  pub later_on : AreLater so_far w to_tell

pub told_begun : (channels line : List ℕ) (told : List Told) (w : List Word) (es : List Told) (left : List Change) → AreInTurn channels told w line → left ≡ changes told es → AreLater told w es → HasTold channels line told w es left
told_begun channels line told w es left h is l = record { so_far = told; to_tell = es; all = refl; order = h; changes_left = sym is; later_on = l }

pub told_end : (channels line : List ℕ) (told : List Told) (w : List Word) (es : List Told) → HasTold channels line told w es [] → AreInTurn channels (reverse es ++ told) w line
told_end channels line told w es h = subst (λ (ts : List Told). AreInTurn channels ts w line) h.all (no_change channels line w h.so_far h.to_tell h.order h.changes_left)

pub told_next : (channels line now : List ℕ) (told : List Told) (w : List Word) (es : List Told) (channel : ℕ) (on : Bool) (more : List Change) → HasTold channels line told w es (change channel on ∷ more)
    → ((before : List Told) (e : Told) → AreInTurn channels before w line → e.channel ≡ channel → e.on ≡ on → IsTurn before w e → AreInTurn channels (e ∷ before) w now) → HasTold channels now told w es more
told_next channels line now told w es channel on more h turn =
    let n = next_change channels line w h.so_far h.to_tell channel on more h.order h.changes_left h.later_on in
    record {
      so_far = n.entry ∷ n.before;
      to_tell = n.after;
      all = n.all ∙ h.all;
      order = turn n.before n.entry n.order n.is_channel n.is_on n.come;
      changes_left = n.left;
      later_on = n.later_on;
    }
