use Rattle.std.proofs.Common.{ℕ, ◌≡◌, ◌<◌, inl, refl, sym, ap, ◌∙◌, subst, List, [], drop, get_or, length, arith}
use Rattle.std.proofs.Math.Nat.{zero-mul}
use Rattle.std.proofs.lemmas.List.Elements.{All-nil}
use Rattle.lk_base.specs.Link.{group_of}
use Rattle.tx_words.specs.SentLists.{Lists}
use Rattle.tx_end.specs.declared.tx_out.TxOut.{TxOut}
use Rattle.tx_end.specs.Lanes.{IsFilled}
use Rattle.tx_end.specs.Sending.{left_on}
use Rattle.tx_end.proofs.Giving.{none_left}
use Rattle.tx_end.proofs.LaneFiles.{none_filled}
use Rattle.tx_end.proofs.transmitter.Transmitter.new.Goals as goal

pub returns : goal.returns
returns c =
    let s = c.args.link.now in
    let empty : c.in_ok-bytes.bytes.items ≡ [] = c.in_ok-bytes.ensures.0 in
    record {
      driven = record {
        link = c.keeps_limits.ensures;
        settings = refl;
        shape = c.requires.suits;
        gave = c.in_ok-maker.ensures;
        bytes = c.packet_count.ensures.bytes;
        few = c.requires.few;
        lists = subst (Lists c.in_ok-list.list []) c.packet_count.ensures.count c.in_ok-list.ensures;
        place = record {
          group = c.in_ok-group.ensures;
          room = c.in_ok-bytes.ensures.1;
          turn = omega (arith, c.lanes.ensures);
          at = omega arith;
          begun = λ h. (let none = ap length empty in absurd (omega (arith, h, none)));
        };
      };
      stage = inl (
        refl,
        record {
          metaframes = 0;
          count = sym (zero-mul (group_of s));
          turns = record {
            count = c.in_ok-lanes.ensures.count;
            had = λ i d low h.
                let none : left_on c.lanes.result (drop 0 c.in_ok-bytes.bytes.items) i ≡ [] = ap (λ l. left_on c.lanes.result l i) empty ∙ none_left c.lanes.result i in
                let made = c.in_ok-lanes.ensures.made i d h in
                subst (λ (b : List ℕ). IsFilled s [] 0 i (get_or c.in_ok-lanes.lanes.items i d) b) (sym none) (none_filled s i (get_or c.in_ok-lanes.lanes.items i d) h made.0 made.1);
            still = λ i d past h. absurd (omega (arith, past, h, c.lanes.ensures));
          };
        },
      );
      lanes = All-nil (λ (o : TxOut). o.lane < s.lanes);
    }
