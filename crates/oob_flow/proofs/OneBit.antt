-- A reader takes one more bit.
use Rattle.std.proofs.Common.{◌≡◌, ℕ, zero, suc, ◌+◌, ◌-◌, ◌<◌, ◌≤◌, min, ◌==◌, Bool, true, false, List, [], ◌∷◌, ◌++◌, length, take, refl, sym, ap, ap₂, ◌∙◌, append_assoc, append-nil, subst, inl, inr, arith}
use Rattle.std.proofs.lemmas.Bool.{cases_lt}
use Rattle.std.proofs.lemmas.List.{map_push, length_push}
use Rattle.stream_model.specs.declared.rows.FlowRow.{FlowRow}
use Rattle.oob_flow.specs.Taken.{Taken}
use Rattle.oob_flow.specs.Words.{block_words}
use Rattle.oob_flow.specs.Reading.{states_of, number_at, is_right, rows_at, rows_of_bits}
use Rattle.oob_flow.specs.Receiving.{rows_ahead, HasTaken, Closes}
use Rattle.oob_flow.specs.declared.incoming.OobIn.{OobIn}
use Rattle.oob_flow.proofs.Steps.{at_sync, at_other, at_right, at_wrong, at_end, none_left, states_length}

-- one more bit, where it gives these words and goes on so
pub record GoesOn (entries : ℕ) (left : ℕ) (open_bits : List Taken) (b : Taken) (words : List ℕ) (new_left : ℕ) (new_open : List Taken) : Type 0 where
  pub within : new_left ≤ entries
  pub not_whole : length new_open < min 64 new_left + 4
  pub ahead : (more : List Taken) → rows_ahead entries left open_bits (b ∷ more) ≡ rows_at b.number words ++ rows_ahead entries new_left new_open more

module _ (old new : OobIn) (entries : ℕ) (bits : List Taken) (b : Taken) (words : List ℕ) (t : HasTaken old entries bits) (open_bits : List Taken) (on : GoesOn entries old.left t.open_bits b words new.left open_bits) where
  behind : (more : List Taken) → rows_of_bits entries (bits ++ b ∷ more) ≡ rows_of_bits entries bits ++ rows_at b.number words ++ rows_ahead entries new.left open_bits more
  behind more = t.ahead (b ∷ more) ∙ ap (λ (rows : List FlowRow). rows_of_bits entries bits ++ rows) (on.ahead more) ∙ sym (append_assoc (rows_of_bits entries bits) (rows_at b.number words) (rows_ahead entries new.left open_bits more))

  pub given : rows_of_bits entries (bits ++ b ∷ []) ≡ rows_of_bits entries bits ++ rows_at b.number words
  given = behind [] ∙ ap (λ (rows : List FlowRow). rows_of_bits entries bits ++ rows_at b.number words ++ rows) (at_end entries new.left open_bits on.not_whole) ∙ append-nil (rows_of_bits entries bits ++ rows_at b.number words)

  pub taken_more : new.entries ≡ old.entries → new.block.items ≡ states_of open_bits → HasTaken new entries (bits ++ b ∷ [])
  taken_more same block = record {
    calendar = same ∙ t.calendar;
    low = t.low;
    open_bits = open_bits;
    block = block;
    within = on.within;
    not_whole = on.not_whole;
    ahead = λ more. ap (rows_of_bits entries) (append_assoc bits (b ∷ []) more) ∙ behind more ∙ ap (λ (rows : List FlowRow). rows ++ rows_ahead entries new.left open_bits more) (sym given);
  }

-- the open bits after one more bit, and how it goes on
pub record Next (new : OobIn) (entries left : ℕ) (open_bits : List Taken) (b : Taken) (words : List ℕ) : Type 0 where
  pub new_open : List Taken
  pub block : new.block.items ≡ states_of new_open
  pub on : GoesOn entries left open_bits b words new.left new_open

pub last_number : (bits : List Taken) (b : Taken) (n : ℕ) → length (bits ++ b ∷ []) ≡ suc n → number_at (bits ++ b ∷ []) n ≡ b.number
last_number [] b zero h = refl
last_number [] b (suc n) h = absurd (omega arith)
last_number (a ∷ bits) b zero h = let len : length (bits ++ b ∷ []) ≡ length bits + 1 = length_push bits b in absurd (omega arith)
last_number (a ∷ bits) b (suc n) h = last_number bits b n (omega arith)

-- the open block with one bit more is closed
module _ (mid new : OobIn) (entries left : ℕ) (open_bits before : List Taken) (b : Taken) (words : List ℕ) (closes : Closes mid new words) (calendar : mid.entries ≡ entries) (some : 1 ≤ mid.left) (within : mid.left ≤ entries)
    (block : mid.block.items ≡ states_of (before ++ b ∷ [])) (short : length before < min 64 mid.left + 4) (go : (more : List Taken) → rows_ahead entries left open_bits (b ∷ more) ≡ rows_ahead entries mid.left (before ++ b ∷ []) more) where
  len : length mid.block.items ≡ length before + 1
  len = ap length block ∙ states_length (before ++ b ∷ []) ∙ length_push before b

  waits : length (before ++ b ∷ []) < min 64 mid.left + 4 → Next new entries left open_bits b words
  waits h =
      let w = closes.waits (omega (arith, len, length_push before b)) in
      record {
        new_open = before ++ b ∷ [];
        block = w.1 ∙ block;
        on = record {
          within = omega (arith, w.0);
          not_whole = subst (λ (n : ℕ). length (before ++ b ∷ []) < min 64 n + 4) (sym w.0) h;
          ahead = λ more. go more ∙ ap (λ (n : ℕ). rows_ahead entries n (before ++ b ∷ []) more) (sym w.0) ∙ ap (λ (ws : List ℕ). rows_at b.number ws ++ rows_ahead entries new.left (before ++ b ∷ []) more) (sym w.2);
        };
      }

  whole : length (before ++ b ∷ []) ≡ min 64 mid.left + 4 → (right : Bool) → is_right (min 64 mid.left) (states_of (before ++ b ∷ [])) ≡ right → Next new entries left open_bits b words
  whole h true right =
      let w = closes.right (omega (arith, len, length_push before b)) (ap (is_right (min 64 mid.left)) block ∙ right) in
      let number : number_at (before ++ b ∷ []) (min 64 mid.left + 3) ≡ b.number = last_number before b (min 64 mid.left + 3) (omega arith) in
      let told : words ≡ block_words (mid.left == entries) (take (min 64 mid.left) (states_of (before ++ b ∷ []))) = w.2 ∙ ap₂ (λ (n : ℕ) (s : List Bool). block_words (mid.left == n) (take (min 64 mid.left) s)) calendar block in
      record {
        new_open = [];
        block = w.1;
        on = record {
          within = omega (arith, w.0);
          not_whole = omega arith;
          ahead = λ more. go more ∙ at_right entries mid.left (before ++ b ∷ []) more some within h right
              ∙ ap₂ (λ (n : ℕ) (ws : List ℕ). rows_at n ws ++ rows_ahead entries (mid.left - min 64 mid.left) [] more) number (sym told)
              ∙ ap (λ (n : ℕ). rows_at b.number words ++ rows_ahead entries n [] more) (sym w.0);
        };
      }
  whole h false wrong =
      let w = closes.wrong (omega (arith, len, length_push before b)) (ap (is_right (min 64 mid.left)) block ∙ wrong) in
      let number : number_at (before ++ b ∷ []) (min 64 mid.left + 3) ≡ b.number = last_number before b (min 64 mid.left + 3) (omega arith) in
      record {
        new_open = [];
        block = w.1;
        on = record {
          within = omega (arith, w.0);
          not_whole = omega arith;
          ahead = λ more. go more ∙ at_wrong entries mid.left (before ++ b ∷ []) more some h wrong
              ∙ ap₂ (λ (n : ℕ) (ws : List ℕ). rows_at n ws ++ rows_ahead entries 0 [] more) number (sym w.2)
              ∙ ap (λ (n : ℕ). rows_at b.number words ++ rows_ahead entries n [] more) (sym w.0);
        };
      }

  pub closed : Next new entries left open_bits b words
  closed =
      let push : length (before ++ b ∷ []) ≡ length before + 1 = length_push before b in
      elim (cases_lt (length (before ++ b ∷ [])) (min 64 mid.left + 4)) [
        | inl h ↦ waits h
        | inr h ↦ whole (omega arith) (is_right (min 64 mid.left) (states_of (before ++ b ∷ []))) refl
      ]

-- what a bit finds: the open block that it goes to
pub record Begun (mid : OobIn) (entries left : ℕ) (open_bits : List Taken) (b : Taken) : Type 0 where
  pub before : List Taken
  pub calendar : mid.entries ≡ entries
  pub within : mid.left ≤ entries
  pub block : mid.block.items ≡ states_of before
  pub short : length before < min 64 mid.left + 4
  pub go : (more : List Taken) → rows_ahead entries left open_bits (b ∷ more) ≡ rows_ahead entries mid.left (before ++ b ∷ []) more

module _ (old mid : OobIn) (entries : ℕ) (bits : List Taken) (b : Taken) (t : HasTaken old entries bits) where
  -- a sync bit begins a frame
  pub at_new : b.sync ≡ true → mid.entries ≡ old.entries → mid.left ≡ old.entries → mid.block.items ≡ [] → Begun mid entries old.left t.open_bits b
  at_new sync e l f =
      let all : mid.left ≡ entries = l ∙ t.calendar in
      record {
        before = [];
        calendar = e ∙ t.calendar;
        within = omega (arith, all);
        block = f;
        short = omega arith;
        go = λ more. at_sync entries old.left t.open_bits b more t.low t.not_whole sync ∙ ap (λ (n : ℕ). rows_ahead entries n (b ∷ []) more) (sym all);
      }

  -- another bit goes on
  pub at_open : b.sync ≡ false → mid ≡ old → Begun mid entries old.left t.open_bits b
  at_open other e =
      let left : mid.left ≡ old.left = ap (λ (o : OobIn). o.left) e in
      record {
        before = t.open_bits;
        calendar = ap (λ (o : OobIn). o.entries) e ∙ t.calendar;
        within = omega (arith, left, t.within);
        block = ap (λ (o : OobIn). o.block.items) e ∙ t.block;
        short = subst (λ (n : ℕ). length t.open_bits < min 64 n + 4) (sym left) t.not_whole;
        go = λ more. at_other entries old.left t.open_bits b more other ∙ ap (λ (n : ℕ). rows_ahead entries n (t.open_bits ++ b ∷ []) more) (sym left);
      }

-- where no entry is left the bit gives nothing
pub passed : (mid : OobIn) (entries left : ℕ) (open_bits : List Taken) (b : Taken) (words : List ℕ) → Begun mid entries left open_bits b → mid.left ≤ 0 → words ≡ [] → Next mid entries left open_bits b words
passed mid entries left open_bits b words g none empty =
    let zero_left : mid.left ≡ 0 = omega arith in
    record {
      new_open = g.before;
      block = g.block;
      on = record {
        within = g.within;
        not_whole = g.short;
        ahead = λ more. g.go more ∙ ap (λ (n : ℕ). rows_ahead entries n (g.before ++ b ∷ []) more) zero_left ∙ none_left entries (g.before ++ b ∷ []) g.before more
            ∙ ap₂ (λ (n : ℕ) (ws : List ℕ). rows_at b.number ws ++ rows_ahead entries n g.before more) (sym zero_left) (sym empty);
      };
    }

-- the open block is closed with the bit
pub pushed : (mid pushed_mid new : OobIn) (entries left : ℕ) (open_bits : List Taken) (b : Taken) (words : List ℕ) → Begun mid entries left open_bits b → 1 ≤ mid.left
    → pushed_mid.entries ≡ mid.entries → pushed_mid.left ≡ mid.left → pushed_mid.block.items ≡ mid.block.items ++ b.state ∷ [] → Closes pushed_mid new words → Next new entries left open_bits b words
pushed mid after new entries left open_bits b words g some e l f closes =
    closed after new entries left open_bits g.before b words closes (e ∙ g.calendar) (omega (arith, l)) (omega (arith, l, g.within))
    (f ∙ ap (λ (s : List Bool). s ++ b.state ∷ []) g.block ∙ sym (map_push (λ (t : Taken). t.state) g.before b))
    (subst (λ (n : ℕ). length g.before < min 64 n + 4) (sym l) g.short)
    (λ more. g.go more ∙ ap (λ (n : ℕ). rows_ahead entries n (g.before ++ b ∷ []) more) (sym l))

-- a reader with the same block has taken the same bits
pub same_taken : (old new : OobIn) (entries : ℕ) (bits : List Taken) → new.entries ≡ old.entries → new.left ≡ old.left → new.block.items ≡ old.block.items → HasTaken old entries bits → HasTaken new entries bits
same_taken old new entries bits e l f t = record {
  calendar = e ∙ t.calendar;
  low = t.low;
  open_bits = t.open_bits;
  block = f ∙ t.block;
  within = omega (arith, l, t.within);
  not_whole = subst (λ (n : ℕ). length t.open_bits < min 64 n + 4) (sym l) t.not_whole;
  ahead = λ more. t.ahead more ∙ ap (λ (n : ℕ). rows_of_bits entries bits ++ rows_ahead entries n t.open_bits more) (sym l);
}
