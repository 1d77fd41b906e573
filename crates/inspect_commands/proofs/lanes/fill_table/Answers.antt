use Rattle.std.proofs.Common.{◌≡◌, ◌∙◌, ◌∷◌, [], refl, subst, List, ℕ, length, Option, Contains}
use Rattle.std.proofs.lemmas.Result.{err_from_is_err_and}
use Rattle.lk_outside.specs.Files.{Files, Told}
use Rattle.run_shell.specs.Open.{Open}
use Rattle.run_shell.specs.Outcome.{HoldsPart}
use Rattle.run_shell.specs.Outputs.{IsOpen, blank, open_names, outs}
use Rattle.run_shell.proofs.OutputNames.{blank_one}
use Rattle.inspect_commands.proofs.AllLanes.{broken_of, heading_cut, none_yet, table_unsaid, table_whole}
use Rattle.inspect_commands.proofs.lanes.fill_table.Goals as goal

-- nothing is in the one output
nothing : (opens : List Open) (was now : Option Files) → length opens ≡ 1 → IsOpen opens (blank (open_names opens)) was now → IsOpen opens ([] ∷ []) was now
nothing opens was now one o = subst (λ (gs : List (List ℕ)). IsOpen opens gs was now) (blank_one opens one) o

pub returns-in_err-put-clause-fills : goal.returns-in_err-put-clause-fills
returns-in_err-put-clause-fills g c = λ all was count o are.
    let put = c.in_err-put.ensures {u = tt} in
    let p = err_from_is_err_and c.from_residual.result c.from_residual.ensures.1 in
    rw (p.1, p.2) (heading_cut c.args.link.now all (open_names c.args.outputs.now) (g.P.LanePieces.file_names c.args.lanes.now) c.in_err-put.field-0.0 was _ put.stops
    (subst (λ (b : List ℕ). Told was (g.S.Store.files c.put.new.store) (HoldsPart (outs (open_names c.args.outputs.now) (b ∷ [])))) c.heading.ensures (put.grown ([] ∷ []) was (nothing c.args.outputs.now was _ c.requires.one o))))

pub tell_lanes-requires-clause-apart : goal.tell_lanes-requires-clause-apart
tell_lanes-requires-clause-apart g c = λ q among output. c.requires.apart q among (subst (λ (ns : List (List ℕ)). Contains ns q) (c.in_ok-put.ensures {u = tt}).names output)

pub tell_lanes-requires-clause-told : goal.tell_lanes-requires-clause-told
tell_lanes-requires-clause-told g c =
    let (all, was, count, o, are) = c.requires.open in
    let headed = subst (λ (b : List ℕ). IsOpen c.put.new.self (b ∷ []) was (g.S.Store.files c.put.new.store)) c.heading.ensures ((c.in_ok-put.ensures {u = tt}).grown ([] ∷ []) was (nothing c.args.outputs.now was _ c.requires.one o)) in
    (all, was, count, none_yet c.args.link.now all _ _ c.put.new.self was _ c.new.ensures.items refl headed are)

pub returns-in_err-tell_lanes-clause-fills : goal.returns-in_err-tell_lanes-clause-fills
returns-in_err-tell_lanes-clause-fills g c = λ all was count o are.
    let put = c.in_ok-put.ensures {u = tt} in
    let headed = subst (λ (b : List ℕ). IsOpen c.put.new.self (b ∷ []) was (g.S.Store.files c.put.new.store)) c.heading.ensures (put.grown ([] ∷ []) was (nothing c.args.outputs.now was _ c.requires.one o)) in
    let r = c.from_residual-in_err-tell_lanes in
    let p = err_from_is_err_and r.result r.ensures.1 in
    rw (p.1, p.2) (broken_of c.args.link.now all (open_names c.put.new.self) (g.P.LanePieces.file_names c.args.lanes.now) (open_names c.args.outputs.now) (g.P.LanePieces.file_names c.args.lanes.now) c.in_err-tell_lanes.field-0.0 was _ put.names refl
    ((c.in_err-tell_lanes.ensures {u = tt}).tells all was count (none_yet c.args.link.now all _ _ c.put.new.self was _ c.new.ensures.items refl headed are)))

pub returns-in_err-count_line-clause-fills : goal.returns-in_err-count_line-clause-fills
returns-in_err-count_line-clause-fills g c = λ all was count o are.
    let put = c.in_ok-put.ensures {u = tt} in
    let told = c.in_ok-tell_lanes.ensures {u = tt} in
    let headed = subst (λ (b : List ℕ). IsOpen c.put.new.self (b ∷ []) was (g.S.Store.files c.put.new.store)) c.heading.ensures (put.grown ([] ∷ []) was (nothing c.args.outputs.now was _ c.requires.one o)) in
    let r = c.from_residual-in_err-count_line in
    let p = err_from_is_err_and r.result r.ensures.1 in
    rw (p.1, p.2) (table_unsaid c.args.link.now c.args.link.now.lanes all _ c.tell_lanes.new.told c.tell_lanes.new.outputs was _
    (told.tells all was count (none_yet c.args.link.now all _ _ c.put.new.self was _ c.new.ensures.items refl headed are)) count (open_names c.args.outputs.now) (g.P.LanePieces.file_names c.args.lanes.now) (told.names ∙ put.names))

pub returns-clause-fills : goal.returns-clause-fills
returns-clause-fills g c = λ all was count o are.
    let put = c.in_ok-put.ensures {u = tt} in
    let told = c.in_ok-tell_lanes.ensures {u = tt} in
    let headed = subst (λ (b : List ℕ). IsOpen c.put.new.self (b ∷ []) was (g.S.Store.files c.put.new.store)) c.heading.ensures (put.grown ([] ∷ []) was (nothing c.args.outputs.now was _ c.requires.one o)) in
    table_whole c.args.link.now c.args.link.now.lanes all _ c.tell_lanes.new.told c.tell_lanes.new.outputs was _
    (told.tells all was count (none_yet c.args.link.now all _ _ c.put.new.self was _ c.new.ensures.items refl headed are)) count _ (c.in_ok-count_line.ensures {u = tt}).ok
