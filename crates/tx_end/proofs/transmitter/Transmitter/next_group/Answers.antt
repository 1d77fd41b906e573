use Rattle.std.proofs.Common.{ℕ, ◌≡◌, ◌+◌, ◌*◌, ◌≤◌, inl, inr, refl, sym, ap, ◌∙◌, subst, List, ◌++◌, length, length-append, take, drop, count_by, arith}
use Rattle.std.specs.Vec.{with_items}
use Rattle.std.proofs.lemmas.List.{with_items_is}
use Rattle.lk_base.specs.declared.word.Word.{Word}
use Rattle.lk_base.specs.Link.{group_of}
use Rattle.tx_words.specs.Making.{GaveWords}
use Rattle.tx_words.specs.Sent.{starts}
use Rattle.tx_words.specs.SentLists.{Lists}
use Rattle.tx_words.proofs.Making.{few_made, few_started}
use Rattle.tx_end.specs.Lanes.{IsEnded, IsFilled}
use Rattle.tx_end.specs.LaneRows.{bytes_on}
use Rattle.tx_end.specs.Sending.{Awaits, left_on, made_on}
use Rattle.tx_end.proofs.Giving.{awaits, block_whole, done_on, makes_of}
use Rattle.tx_end.proofs.Turns.{next_turn}
use Rattle.tx_end.proofs.transmitter.Transmitter.next_group.Goals as goal

pub pass_block-requires : goal.pass_block-requires
pass_block-requires c =
    let (a, is) = c.requires in
    let (k, going, all, given) = is in
    let d = k.driven in
    let m = makes_of c.args.self.now a k going in
    let block = c.next_block.new.block in
    let old : length c.deref_mut.result.now ≡ group_of a.settings = ap length c.deref_mut.ensures.value ∙ d.place.group in
    let long : length block ≡ group_of a.settings = c.next_block.ensures.long ∙ old in
    let whole = c.next_block.ensures.whole a.source a.words d.gave in
    let first : take c.next_block.result block ≡ block =
    block_whole a.source a.words block m.metaframes (group_of a.settings) c.next_block.result d.shape.group m.count (let w = c.next_block.ensures.within in omega (arith, w, old)) long
    (c.is_over.ensures.going a.source a.words d.gave c.if-is_over.false) (λ l. whole (omega (arith, l, old))) in
    let gave : GaveWords c.next_block.new.self a.source (a.words ++ block) = subst (λ (b : List Word). GaveWords c.next_block.new.self a.source (a.words ++ b)) first (c.next_block.ensures.given a.source a.words d.gave) in
    let items : (with_items c.args.self.now.group block).items ≡ block = with_items_is c.args.self.now.group block (long ∙ sym d.place.group ∙ sym c.args.self.now.group.ok.0) in
    let same : c.deref.result.now ≡ c.next_block.new.block = c.deref.ensures.value ∙ items in
    let words : List Word = a.words ++ c.next_block.new.block in
    let short = few_made c.next_block.new.self a.source words gave in
    let both = length-append a.words c.next_block.new.block in (
      a.words,
      length a.source.packets,
      d.lists,
      subst (λ (b : List Word). count_by starts (a.words ++ b) ≤ length a.source.packets) (sym same) (few_started c.next_block.new.self a.source words d.bytes gave),
      d.few,
      (let e = ap length same in omega (arith, short, both, e)),
    )

pub returns-then-is_over : goal.returns-then-is_over
returns-then-is_over c a (k, going, all, given) =
    let t = c.args.self.now in
    let s = a.settings in
    let d = k.driven in
    let m = makes_of t a k going in (
      a.words,
      (
        record {
          driven = record {
            link = d.link;
            settings = d.settings;
            shape = d.shape;
            gave = d.gave;
            bytes = d.bytes;
            few = d.few;
            lists = d.lists;
            place = record {
              group = d.place.group;
              room = d.place.room;
              turn = omega arith;
              at = d.place.at;
              begun = λ h. absurd (omega (arith, h, given));
            };
          };
          stage = inr (
            refl,
            record {
              whole = c.is_over.ensures.over a.source a.words d.gave c.if-is_over.true;
              metaframes = m.metaframes;
              count = m.count;
              turns = next_turn s.lanes t.turn t.lanes.items (made_on t a.outs) (λ i. bytes_on i a.outs ++ left_on 0 (drop t.at t.bytes.items) i) (Awaits s t.group.items a.words m.metaframes) (IsFilled s a.words m.metaframes) (IsFilled s a.words m.metaframes) (λ i _. IsEnded s a.words m.metaframes i)
                  m.turns (omega (arith, all)) (λ i. done_on 0 t.at t.bytes.items a.outs i given ∙ sym (done_on t.turn t.at t.bytes.items a.outs i given)) (λ i l b h f. f);
            },
          );
          lanes = k.lanes;
        },
        d.link.lanes.0,
        given,
      ),
    )

pub returns-else-is_over : goal.returns-else-is_over
returns-else-is_over c a is =
    let (k, going, all, given) = is in
    let t = c.args.self.now in
    let s = a.settings in
    let d = k.driven in
    let m = makes_of c.args.self.now a k going in
    let block = c.next_block.new.block in
    let old : length c.deref_mut.result.now ≡ group_of a.settings = ap length c.deref_mut.ensures.value ∙ d.place.group in
    let long : length block ≡ group_of a.settings = c.next_block.ensures.long ∙ old in
    let whole = c.next_block.ensures.whole a.source a.words d.gave in
    let first : take c.next_block.result block ≡ block =
    block_whole a.source a.words block m.metaframes (group_of a.settings) c.next_block.result d.shape.group m.count (let w = c.next_block.ensures.within in omega (arith, w, old)) long
    (c.is_over.ensures.going a.source a.words d.gave c.if-is_over.false) (λ l. whole (omega (arith, l, old))) in
    let gave : GaveWords c.next_block.new.self a.source (a.words ++ block) = subst (λ (b : List Word). GaveWords c.next_block.new.self a.source (a.words ++ b)) first (c.next_block.ensures.given a.source a.words d.gave) in
    let items : (with_items c.args.self.now.group block).items ≡ block = with_items_is c.args.self.now.group block (long ∙ sym d.place.group ∙ sym c.args.self.now.group.ok.0) in
    let group : List Word = (with_items t.group block).items in
    let words : List Word = a.words ++ block in (
      words,
      (
        record {
          driven = record {
            link = d.link;
            settings = d.settings;
            shape = d.shape;
            gave = gave;
            bytes = d.bytes;
            few = d.few;
            lists = subst (λ (b : List Word). Lists c.pass_block.new.self (a.words ++ b) (length a.source.packets)) (c.deref.ensures.value ∙ items) (c.pass_block.ensures a.words (length a.source.packets) d.lists);
            place = record {
              group = ap length items ∙ long;
              room = d.place.room;
              turn = omega arith;
              at = d.place.at;
              begun = λ h. absurd (omega (arith, h, given));
            };
          };
          stage = inl (
            going,
            record {
              metaframes = m.metaframes + 1;
              count = length-append a.words block ∙ more m.metaframes (group_of s) m.count long;
              turns = next_turn s.lanes t.turn t.lanes.items (made_on t a.outs) (λ i. bytes_on i a.outs ++ left_on 0 (drop t.at t.bytes.items) i) (Awaits s t.group.items a.words m.metaframes) (IsFilled s a.words m.metaframes) (Awaits s group words (m.metaframes + 1)) (IsFilled s words (m.metaframes + 1))
                  m.turns (omega (arith, all)) (λ i. done_on 0 t.at t.bytes.items a.outs i given ∙ sym (done_on t.turn t.at t.bytes.items a.outs i given)) (λ i l b h f. awaits s a.words block group m.metaframes i l b h m.count items f);
            },
          );
          lanes = k.lanes;
        },
        d.link.lanes.0,
        given,
      ),
    )
  where
    more : (m g : ℕ) {a b : ℕ} → a ≡ m * g → b ≡ g → a + b ≡ (m + 1) * g
    more m g e f = omega (arith, e, f)
