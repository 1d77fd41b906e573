use Rattle.std.proofs.Common.{◌≡◌, ◌+◌, ◌≤◌, ℕ, Bool, List, [], length, map, refl, ap, arith, Vec, Global}
use Rattle.lk_base.specs.declared.word.Word.{Word}
use Rattle.lk_base.specs.declared.word.Word.TheVariants.{Data}
use Rattle.burst_scheduler.specs.Asked.{Asked, MayStep, bound, stepped_by}
use Rattle.burst_scheduler.specs.Gives.{Gives, Runs, last_data}
use Rattle.burst_scheduler.proofs.DataRuns.{begun_run, next_is_last, next_numbers, run_step, whole_bursts}
use Rattle.burst_scheduler.proofs.Prefix.{gives_prefix, gives_the_least}
use Rattle.burst_scheduler.proofs.scheduler.Scheduler.next_data.Goals as goal

pub returns-then-count-eq0-clause-prefix : goal.returns-then-count-eq0-clause-prefix
returns-then-count-eq0-clause-prefix c a more g may = gives_prefix c.args.self.now a g.runs

pub returns-then-count-eq0-clause-least : goal.returns-then-count-eq0-clause-least
returns-then-count-eq0-clause-least c a more g may = gives_the_least a (gives_prefix c.args.self.now a g.runs)

pub returns-then-count-eq0-clause-whole : goal.returns-then-count-eq0-clause-whole
returns-then-count-eq0-clause-whole c a g room =
    let w = g.runs.words.burst.given.0 in
    let none = c.if-count-eq0.true in
    let least = c.min-count.ensures in
    whole_bursts c.args.self.now a [] 0 g.runs.words (omega (arith, w, none, least, room)) refl

pub returns-then-count-eq0-clause-lent : goal.returns-then-count-eq0-clause-lent
returns-then-count-eq0-clause-lent c =
    let (a, g, few) = c.requires.gives in
    let w = g.runs.words.burst.given in
    let long = g.runs.words.burst.long in
    (omega arith, omega (arith, w.0, w.1, long))

module _ (c : goal.After-pass) where
  abbrev n : ℕ
  n = c.min-count.result

  abbrev vs : List Word
  vs = map Data (last_data c.pass.new.self n)

  some : 1 ≤ n
  some = let e = c.if-count-eq0.false in omega (arith, e)

  left : (a : Asked) → Gives c.args.self.now a → c.args.self.now.burst.given + n ≤ c.args.self.now.burst.count
  left a g = let w = g.runs.words.burst.given.0 in let least = c.min-count.ensures in omega (arith, w, least)

  within : (a : Asked) → Gives c.args.self.now a → c.args.self.now.burst.given + n ≤ length c.args.self.now.burst.run.items
  within a g = let w = g.runs.words.burst.given.1 in let l = left a g in let long = g.runs.words.burst.long in omega (arith, w, l, long)

  is : vs ≡ map Data (next_numbers c.args.self.now n)
  is = ap (map Data) (next_is_last c.args.self.now c.pass.new.self n c.pass.ensures.rest c.pass.ensures.given)

  stepped_so : (a : Asked) (more : Bool) → Gives c.args.self.now a → MayStep a more → Runs c.pass.new.self (stepped_by a more vs) × (length a.words + n ≤ bound (stepped_by a more vs))
  stepped_so a more g may = run_step c.args.self.now c.pass.new.self a more vs n g.runs may c.pass.ensures.rest some (left a g) c.pass.ensures.given c.pass.ensures.slot is

pub returns-clause-gives : goal.returns-clause-gives
returns-clause-gives c a more g may = record { runs = (stepped_so c a more g may).0; waiting = λ _. begun_run c.args.self.now a more (vs c) (n c) (some c) (within c a g) (is c) }

pub returns-clause-prefix : goal.returns-clause-prefix
returns-clause-prefix c a more g may = gives_prefix c.pass.new.self (stepped_by a more (vs c)) (stepped_so c a more g may).0

pub returns-clause-least : goal.returns-clause-least
returns-clause-least c a more g may = gives_the_least (stepped_by a more (vs c)) (returns-clause-prefix c a more g may)

pub returns-clause-below : goal.returns-clause-below
returns-clause-below c a more g may low = (stepped_so c a more g may).1

pub returns-clause-whole : goal.returns-clause-whole
returns-clause-whole c a g room =
    let w = g.runs.words.burst.given.0 in
    let least = c.min-count.ensures in
    whole_bursts c.args.self.now a (vs c) (n c) g.runs.words (omega (arith, w, least, room)) (is c)

pub returns-clause-lent : goal.returns-clause-lent
returns-clause-lent c =
    let (a, g, few) = c.requires.gives in
    let w = within c a g in
    let given = c.pass.ensures.given in
    let same = ap (λ (v : Vec ℕ Global). length v.items) c.pass.ensures.rest.words.run in
    (omega (arith, given), omega (arith, w, given, same))
