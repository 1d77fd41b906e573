use Rattle.std.proofs.Common.{◌≡◌, ℕ, List, Some, None, Option, sym, ◌∙◌}
use Rattle.lk_outside.proofs.FilesLemmas.{file-none_named}
use Rattle.lk_outside.proofs.mem_store.MemStore.new.Goals as goal

pub returns-clause-files : goal.returns-clause-files
returns-clause-files c = λ q. file-none_named _ q c.new.ensures.items

pub invariant_of-result : goal.invariant_of-result
invariant_of-result c name bytes is =
    let none_there : Option (List ℕ) = None in
    let none : none_there ≡ Some bytes = sym (file-none_named _ name c.new.ensures.items) ∙ is in
    absurd cc
