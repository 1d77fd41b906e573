-- A row of flow control after a word changes no row of the word.
use Rattle.std.proofs.Common.{ℕ, ◌≡◌, ◌<◌, refl, ap, ◌∙◌, Bool, ◌&&◌, not, List, ◌++◌, length, Option, arith}
use Rattle.lk_base.specs.declared.word.RxWord.{RxWord}
use Rattle.lk_base.specs.declared.word.RxWord.TheVariants.{Data, Control, Bad}
use Rattle.lk_base.specs.Fields.{channel_number}
use Rattle.word_rules.specs.declared.fault.Fault.{Fault}
use Rattle.word_rules.specs.Faults.{Plan, faults_at, field_rows, word_rows, burst_rows, packet_rows, with_flow}
use Rattle.word_rules.specs.Flows.{with_row}
use Rattle.word_rules.specs.Places.{is_burst_word}
use Rattle.word_rules.specs.Rules.{breaks_off, is_listed}
use Rattle.word_rules.proofs.FlowRows.{on_before}

later_off : (p : Plan) (e : List RxWord) (x slot heard : ℕ) → length e < slot →
    breaks_off p.limits p.channels p.entries (with_row p.flow slot heard) e x ≡ breaks_off p.limits p.channels p.entries p.flow e x
later_off p e x slot heard lt =
    let k : ℕ = channel_number p.limits.wide x in
    ap (λ (b : Bool). is_burst_word x && (is_listed p.channels k && not b)) (on_before p.entries p.flow slot heard k (length e) lt)

pub later_row : (p : Plan) (earlier : List RxWord) (word : RxWord) (next : Option RxWord) (slot heard : ℕ) → length earlier < slot →
    faults_at (with_flow p (with_row p.flow slot heard)) earlier word next ≡ faults_at p earlier word next
later_row p e (Data x) next slot heard lt = refl
later_row p e (Control x) next slot heard lt = rw (later_off p e x slot heard lt) refl
later_row p e Bad next slot heard lt = refl
