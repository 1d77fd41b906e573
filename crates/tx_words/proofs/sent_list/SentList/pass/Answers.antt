-- A data word starts and ends no packet.
use Rattle.std.proofs.Common.{◌+◌, [], ◌∷◌, ◌++◌, sym, subst}
use Rattle.lk_base.specs.declared.word.Word.{Word}
use Rattle.tx_words.specs.SentLists.{Lists}
use Rattle.tx_words.proofs.DataWords.{behind_data}
use Rattle.tx_words.proofs.sent_list.SentList.pass.Goals as goal

pub returns-in-Data : goal.returns-in-Data
returns-in-Data c p room k =
    let l = c.args.self.now in
    subst (λ (word : Word). Lists (record { list = l.list; count = l.count; places = l.places; last = l.last; slot = l.slot + 1 }) (p ++ word ∷ []) room) (sym c.in-Data.is) (behind_data l p room c.in-Data.field-0 k)
