-- The steps of a run whose packets are put into captures.
use Rattle.std.proofs.Common.{◌≡◌, ℕ, suc, ◌+◌, ◌≤◌, List, [], ◌∷◌, ◌++◌, length, sym, ap, ◌∙◌, subst, arith, Option}
use Rattle.lk_base.specs.Limits.{longest_packet}
use Rattle.lk_base.specs.declared.word.Word.{Word}
use Rattle.lk_outside.specs.Files.{Files}
use Rattle.receive_model.specs.Pieces.{Packet}
use Rattle.receive_model.specs.Events.{Setting}
use Rattle.reassembly.specs.OutputLaws.{HasSize}
use Rattle.duplex_model.specs.DuplexRun.{Settings, Ends}
use Rattle.duplex.specs.Sides.{IsSideAt}
use Rattle.duplex.specs.Duplexes.{Runs, HasGot, GivesGot, KeepsSides, lent_bytes}
use Rattle.duplex.specs.declared.duplex.Duplex.{Duplex}
use Rattle.duplex.specs.declared.duplex.End.{End}
use Rattle.duplex.specs.declared.duplex.End.TheVariants.{A, B}
use Rattle.duplex.specs.declared.side.Side.{Side}
use Rattle.duplex.proofs.Opens.{is_run}
use Rattle.run_stops.specs.declared.stop.Stop.{Stop}
use Rattle.duplex_commands.specs.declared.captures.Captures.{Captures}
use Rattle.duplex_commands.specs.Captures.{Beginning, AreKept, IsBroken, more_at_a, more_at_b}
use Rattle.duplex_commands.specs.Slots.{IsAt, IsCut}
use Rattle.duplex_commands.proofs.Came.{are_first, packet_fits}

-- ---- a packet that is given, at either end

pub record GivesOne (d : Duplex) (setting : Setting) (settings : Settings) (slots : ℕ) (a b : List Word) (got_a got_b : List (ℕ × Packet)) (end : End) (channel n : ℕ) : Type 0 where
  pub packet : Packet
  pub has : HasGot d setting settings slots a b (more_at_a end channel packet got_a) (more_at_b end channel packet got_b)
  pub length_is : n ≡ length packet.bytes
  pub lent : lent_bytes d ≡ packet.bytes

pub gives_one : (d : Duplex) (setting : Setting) (settings : Settings) (slots : ℕ) (a b : List Word) (got_a got_b : List (ℕ × Packet)) (end : End) (channel n : ℕ) → GivesGot d setting settings slots a b got_a got_b end channel n → GivesOne d setting settings slots a b got_a got_b end channel n
gives_one d setting settings slots a b got_a got_b A channel n (packet, g) = record { packet = packet; has = g.has; length_is = g.length_is; lent = g.lent }
gives_one d setting settings slots a b got_a got_b B channel n (packet, g, all) = record { packet = packet; has = g.has; length_is = g.length_is; lent = g.lent }

pub one_sized : (d : Duplex) (setting : Setting) (settings : Settings) (slots : ℕ) (a b : List Word) (got_a got_b : List (ℕ × Packet)) (end : End) (channel n : ℕ) → setting.max_packet ≤ longest_packet → (g : GivesOne d setting settings slots a b got_a got_b end channel n) → HasSize longest_packet (lent_bytes d)
one_sized d setting settings slots a b got_a got_b A channel n fits g = subst (HasSize longest_packet) (sym g.lent) (packet_fits d.inbox_a setting _ got_a (channel, g.packet) fits g.has.at_a)
one_sized d setting settings slots a b got_a got_b B channel n fits g = subst (HasSize longest_packet) (sym g.lent) (packet_fits d.inbox_b setting _ got_b (channel, g.packet) fits g.has.at_b)

-- the packet that is lent
abbrev pub lent_packet : Duplex → Packet → Packet
lent_packet d packet = record { bytes = lent_bytes d; first = packet.first; last = packet.last }

is_lent : (d : Duplex) (packet : Packet) → lent_bytes d ≡ packet.bytes → lent_packet d packet ≡ packet
is_lent d packet e = ap (λ (bytes : List ℕ). record { bytes = bytes; first = packet.first; last = packet.last }) e

-- a run stands where its ends stand
keeps_runs : (old new : Duplex) (settings : Settings) (ends : Ends) (slots : ℕ) (a b : List Word) → KeepsSides old new → Runs old settings ends slots a b → Runs new settings ends slots a b
keeps_runs old new settings ends slots a b k r = record {
  keeps = r.keeps;
  mark = k.rest.0 ∙ r.mark;
  drain = k.rest.1 ∙ r.drain;
  slot = k.rest.2 ∙ r.slot;
  slots_of_a = r.slots_of_a;
  slots_of_b = r.slots_of_b;
  side_a = subst (λ (s : Side). IsSideAt s settings ends ends.packets_of_a a b slots) (sym k.sides.0) r.side_a;
  side_b = subst (λ (s : Side). IsSideAt s settings ends ends.packets_of_b b a slots) (sym k.sides.1) r.side_b;
}

module _ (b : Beginning) (settings : Settings) (ends : Ends) (slots : ℕ) (old : Duplex) (c : Captures) (now : Option Files) (at : IsAt b settings ends slots old c now) (new : Duplex) (keeps : KeepsSides old new) where
  abbrev pub Gives : End → ℕ → ℕ → Type 0
  Gives end channel n = GivesOne new b.setting settings slots at.from_a at.from_b at.got_a at.got_b end channel n

  still_runs : Runs new settings ends slots at.from_a at.from_b
  still_runs = keeps_runs old new settings ends slots at.from_a at.from_b keeps at.runs

  -- it came
  pub packet_came : (end : End) (channel n : ℕ) (g : Gives end channel n) (later_captures : Captures) (later : Option Files)
      → AreKept b (more_at_a end channel (lent_packet new g.packet) at.got_a) (more_at_b end channel (lent_packet new g.packet) at.got_b) later_captures later → IsAt b settings ends slots new later_captures later
  packet_came end channel n g later_captures later kept = record {
    from_a = at.from_a;
    from_b = at.from_b;
    got_a = more_at_a end channel g.packet at.got_a;
    got_b = more_at_b end channel g.packet at.got_b;
    runs = still_runs;
    has = g.has;
    kept = subst (λ (p : Packet). AreKept b (more_at_a end channel p at.got_a) (more_at_b end channel p at.got_b) later_captures later) (is_lent new g.packet g.lent) kept;
    fits = at.fits;
  }

  -- or was stopped
  pub packet_stopped : (end : End) (channel n : ℕ) (g : Gives end channel n) (s : Stop) (later : Option Files)
      → IsBroken b (more_at_a end channel (lent_packet new g.packet) at.got_a) (more_at_b end channel (lent_packet new g.packet) at.got_b) s later → IsCut b settings ends slots s later
  packet_stopped end channel n g s later broken =
      let h : IsBroken b (more_at_a end channel g.packet at.got_a) (more_at_b end channel g.packet at.got_b) s later = subst (λ (p : Packet). IsBroken b (more_at_a end channel p at.got_a) (more_at_b end channel p at.got_b) s later) (is_lent new g.packet g.lent) broken in
      record {
        keeps = at.runs.keeps;
        by_store = h.by_store;
        slots = slots;
        within = omega arith;
        from_a = at.from_a;
        from_b = at.from_b;
        run = is_run new settings ends slots at.from_a at.from_b still_runs;
        got_a = more_at_a end channel g.packet at.got_a;
        got_b = more_at_b end channel g.packet at.got_b;
        first_a = are_first new.inbox_a settings b.setting at.from_b slots (more_at_a end channel g.packet at.got_a) g.has.at_a;
        first_b = are_first new.inbox_b settings b.setting at.from_a slots (more_at_b end channel g.packet at.got_b) g.has.at_b;
        part = h.part;
      }

  -- none came
  pub none_came : HasGot new b.setting settings slots at.from_a at.from_b at.got_a at.got_b → IsAt b settings ends slots new c now
  none_came has = record { from_a = at.from_a; from_b = at.from_b; got_a = at.got_a; got_b = at.got_b; runs = still_runs; has = has; kept = at.kept; fits = at.fits }

-- ---- a slot

abbrev pub Turns : Duplex → Duplex → Type 0
Turns old new = (settings : Settings) (ends : Ends) (slots : ℕ) (a b : List Word) → Runs old settings ends slots a b → (from_a from_b : Word) × Runs new settings ends (suc slots) (a ++ from_a ∷ []) (b ++ from_b ∷ [])

abbrev pub StillHas : Duplex → Duplex → Type 0
StillHas old new = (setting : Setting) (settings : Settings) (ends : Ends) (slots : ℕ) (a b : List Word) (got_a got_b : List (ℕ × Packet)) (from_a from_b : Word) → Runs old settings ends slots a b → HasGot old setting settings slots a b got_a got_b
    → HasGot new setting settings (suc slots) (a ++ from_a ∷ []) (b ++ from_b ∷ []) got_a got_b

pub slot_done : (b : Beginning) (settings : Settings) (ends : Ends) (slots : ℕ) (old new : Duplex) (c : Captures) (now : Option Files) → Turns old new → StillHas old new → IsAt b settings ends slots old c now → IsAt b settings ends (slots + 1) new c now
slot_done b settings ends slots old new c now turns has at =
    let r = turns settings ends slots at.from_a at.from_b at.runs in
    let more : suc slots ≡ slots + 1 = omega arith in
    subst (λ (n : ℕ). IsAt b settings ends n new c now) more (record {
      from_a = at.from_a ++ r.0 ∷ [];
      from_b = at.from_b ++ r.1 ∷ [];
      got_a = at.got_a;
      got_b = at.got_b;
      runs = r.2;
      has = has b.setting settings ends slots at.from_a at.from_b at.got_a at.got_b r.0 r.1 at.runs at.has;
      kept = at.kept;
      fits = at.fits;
    })

pub cut_within : (b : Beginning) (settings : Settings) (ends : Ends) (few most : ℕ) (s : Stop) (now : Option Files) → few ≤ most → IsCut b settings ends few s now → IsCut b settings ends most s now
cut_within b settings ends few most s now le h = record {
  keeps = h.keeps;
  by_store = h.by_store;
  slots = h.slots;
  within = (let w = h.within in omega (arith, le, w));
  from_a = h.from_a;
  from_b = h.from_b;
  run = h.run;
  got_a = h.got_a;
  got_b = h.got_b;
  first_a = h.first_a;
  first_b = h.first_b;
  part = h.part;
}
