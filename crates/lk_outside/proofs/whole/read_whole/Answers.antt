use Rattle.std.proofs.Common.{◌≡◌, ◌<◌, ◌≤◌, ◌∙◌, ℕ, Vec, Global, Option, Ok, Err, length, subst, arith}
use Rattle.std.proofs.lemmas.Bool.Decides.{nat_tests}
use Rattle.std.proofs.lemmas.Result.{err_from_is_err_and}
use Rattle.lk_outside.specs.Files.{Files}
use Rattle.lk_outside.specs.Reads.{ReadErrorCount}
use Rattle.lk_outside.specs.Whole.{ReadsPiece}
use Rattle.lk_outside.proofs.WholeLemmas.{front_after, whole_at_end, whole_too_long, whole_refused, whole_counted}
use Rattle.lk_outside.proofs.whole.read_whole.Goals as goal

pub returns-then-n-eq0-clause-content : goal.returns-then-n-eq0-clause-content
returns-then-n-eq0-clause-content g c =
    let inv = c.loop-piece.invariant in
    let told = c.in_ok-n.ensures in
    let bytes = c.read_piece.new.bytes in
    let n = c.in_ok-n.n in
    let test = c.if-n-eq0.true in
    let zero : n ≡ 0 = grind (arith, nat_tests) in
    let few : length bytes.items ≤ c.args.limit = omega (arith, told.more, zero, inv.fits, bytes.ok.0, c.loop-piece.bytes.ok.0) in
    whole_at_end (g.S.Store.files c.args.store.now) c.args.name.now c.loop-piece.bytes.items bytes n c.args.limit zero few
    (subst (λ (files : Option Files). ReadsPiece (Ok n) files c.args.name.now c.loop-piece.bytes.items bytes.items) inv.same_files told.told) inv.front

pub returns-then-len-limit-clause-content : goal.returns-then-len-limit-clause-content
returns-then-len-limit-clause-content g c =
    let inv = c.loop-piece.invariant in
    let told = c.in_ok-n.ensures in
    let bytes = c.read_piece.new.bytes in
    let long : c.args.limit < length bytes.items = omega (arith, c.len.ensures, c.if-len-limit.true, bytes.ok.0) in
    whole_too_long (g.S.Store.files c.args.store.now) c.args.name.now c.loop-piece.bytes.items bytes.items c.in_ok-n.n c.args.limit long
    (subst (λ (files : Option Files). ReadsPiece (Ok c.in_ok-n.n) files c.args.name.now c.loop-piece.bytes.items bytes.items) inv.same_files told.told) inv.front

pub returns-in_err-n-clause-content : goal.returns-in_err-n-clause-content
returns-in_err-n-clause-content g c =
    let r = c.from_residual-in_err-n in
    let p = err_from_is_err_and r.result r.ensures.1 in
    let told = c.in_err-n.ensures.told in
    rw (p.1, p.2) (whole_refused (g.S.Store.files c.args.store.now) c.args.name.now c.loop-piece.bytes.items c.read_piece.new.bytes.items c.in_err-n.field-0.0 c.args.limit
    (subst (λ (files : Option Files). ReadsPiece (Err c.in_err-n.field-0.0) files c.args.name.now c.loop-piece.bytes.items c.read_piece.new.bytes.items) c.loop-piece.invariant.same_files told))

pub returns-in_err-n-clause-cause : goal.returns-in_err-n-clause-cause
returns-in_err-n-clause-cause g c =
    let r = c.from_residual-in_err-n in
    let p = err_from_is_err_and r.result r.ensures.1 in
    rw (p.1, p.2) (whole_counted (Vec ℕ Global) c.in_err-n.field-0.0 _ _ (subst (λ (k : ℕ). ReadErrorCount c.in_err-n.field-0.0 k (g.S.Store.faults c.read_piece.new.store)) c.loop-piece.invariant.same_faults c.in_err-n.ensures.cause))

pub loop-piece-preserved : goal.loop-piece-preserved
loop-piece-preserved g c =
    let inv = c.loop-piece.invariant in
    let told = c.in_ok-n.ensures in
    let bytes = c.read_piece.new.bytes in
    record {
      same_files = told.unchanged ∙ inv.same_files;
      same_faults = told.cause ∙ inv.same_faults;
      front = front_after (g.S.Store.files c.args.store.now) c.args.name.now c.loop-piece.bytes.items bytes.items c.in_ok-n.n
          (subst (λ (files : Option Files). ReadsPiece (Ok c.in_ok-n.n) files c.args.name.now c.loop-piece.bytes.items bytes.items) inv.same_files told.told) inv.front;
      fits = omega (arith, c.len.ensures, c.if-len-limit.false);
      room = inv.room;
    }
