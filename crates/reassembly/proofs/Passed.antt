-- Flow words are given up, one after another.
use Rattle.std.proofs.Common.{ℕ, ◌≡◌, ◌+◌, ◌≤◌, refl, sym, subst, Bool, true, false, cond, List, [], ◌∷◌, ◌++◌, append_assoc, append-nil, length, drop, slice_get, Option, Some, arith}
use Rattle.std.specs.List.{list_all}
use Rattle.std.proofs.lemmas.Bool.{and_parts, false≢true}
use Rattle.std.proofs.lemmas.List.{length-drop}
use Rattle.lk_base.specs.declared.word.Aligned.{Aligned}
use Rattle.receive_model.specs.Events.{Event, Setting}
use Rattle.reassembly.specs.declared.out.Out.{Out}
use Rattle.reassembly.specs.declared.out.Out.TheVariants as outs
use Rattle.reassembly.specs.Flows.{GivesAfterFlows, is_flow, is_flow_out}
use Rattle.reassembly.specs.Stands.{Gives, Stands}
use Rattle.reassembly.specs.States.{State, event_of, is_packet, packets_among}
use Rattle.reassembly.specs.Steps.{given_one}
use Rattle.reassembly.proofs.Putting.{stands-give}

-- how it stands after some flow words, which are given up
pub record StandsAfterFlows (r : State) (setting : Setting) (put : List Aligned) (finished : Bool) (given : List Event) : Type 0 where
  pub flows : List Event
  pub are_flows : list_all is_flow flows ≡ true
  pub stands : Stands r setting put finished (given ++ flows)

-- some flow words were given up
pub record Passed (old now : State) : Type 0 where
  pub fewer : length now.waiting ≤ length old.waiting
  pub freed : old.lending ≡ true → cond now.lending [] now.packet ≡ []
  pub stands : (setting : Setting) (put : List Aligned) (finished : Bool) (given : List Event) → Stands old setting put finished given → StandsAfterFlows now setting put finished given

pub passed-none : (r : State) → Passed r r
passed-none r = record {
  fewer = omega arith;
  freed = λ e. rw e refl;
  stands = λ setting put finished given stands. record { flows = []; are_flows = refl; stands = subst (λ (es : List Event). Stands r setting put finished es) (sym (append-nil given)) stands };
}

all-more : (es : List Event) (e : Event) → list_all is_flow es ≡ true → is_flow e ≡ true → list_all is_flow (es ++ e ∷ []) ≡ true
all-more [] e h g = rw g refl
all-more (x ∷ xs) e h g = let both = and_parts (is_flow x) (list_all is_flow xs) h in rw both.0 (all-more xs e both.1 g)

flow-event : (packet : List ℕ) (out : Out) → is_flow_out out ≡ true → is_flow (event_of packet out) ≡ true
flow-event packet (outs.Packet channel n first last) h = absurd (false≢true h)
flow-event packet (outs.Dropped channel why) h = absurd (false≢true h)
flow-event packet (outs.Span span) h = absurd (false≢true h)
flow-event packet (outs.Flow at word) h = refl

flow-bare : (out : Out) → is_flow_out out ≡ true → is_packet out ≡ false
flow-bare (outs.Packet channel n first last) h = absurd (false≢true h)
flow-bare (outs.Dropped channel why) h = absurd (false≢true h)
flow-bare (outs.Span span) h = absurd (false≢true h)
flow-bare (outs.Flow at word) h = refl

module _ (old now : State) (was : Passed old now) (lent : now.lending ≡ true → packets_among now.waiting ≡ 0) where
  -- what is given then
  pub given-passed : (setting : Setting) (put : List Aligned) (finished : Bool) (given : List Event) → Stands old setting put finished given → GivesAfterFlows (slice_get now.waiting 0) (given_one now) setting put finished given
  given-passed setting put finished given stands =
      let before = was.stands setting put finished given stands in
      record { flows = before.flows; are_flows = before.are_flows; gives = stands-give now setting put finished (given ++ before.flows) lent before.stands }

  pub fewer-passed : length (drop 1 now.waiting) ≤ length old.waiting
  fewer-passed = let fewer = was.fewer in let less = length-drop 1 now.waiting in omega arith

  -- one flow word more is given up
  module _ (out : Out) (is : slice_get now.waiting 0 ≡ Some out) (flow : is_flow_out out ≡ true) where
    abbrev packet : List ℕ
    packet = cond now.lending [] now.packet

    stands-more : (setting : Setting) (put : List Aligned) (finished : Bool) (given : List Event) → Stands old setting put finished given → StandsAfterFlows (given_one now) setting put finished given
    stands-more setting put finished given stands =
        let before = was.stands setting put finished given stands in
        let gives : Gives (Some out) (given_one now) setting put finished (given ++ before.flows) =
        subst (λ (o : Option Out). Gives o (given_one now) setting put finished (given ++ before.flows)) is (stands-give now setting put finished (given ++ before.flows) lent before.stands) in
        record {
          flows = before.flows ++ event_of packet out ∷ [];
          are_flows = all-more before.flows (event_of packet out) before.are_flows (flow-event packet out flow);
          stands = subst (λ (es : List Event). Stands (given_one now) setting put finished es) (append_assoc given before.flows (event_of packet out ∷ [])) gives.1;
        }

    pub passed-more : Passed old (given_one now)
    passed-more = record {
      fewer = fewer-passed;
      freed = λ e. rw (is, flow-bare out flow) (was.freed e);
      stands = stands-more;
    }

pub one-fewer : (waiting : List Out) (out : Out) → slice_get waiting 0 ≡ Some out → length (drop 1 waiting) + 1 ≡ length waiting
one-fewer [] out e = absurd (cc e)
one-fewer (x ∷ xs) out e = omega arith
