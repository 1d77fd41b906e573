use Rattle.std.proofs.Common.{◌≡◌, refl, subst, false, [], Err}
use Rattle.std.proofs.lemmas.Result.{err_from_is_err_and}
use Rattle.receive_model.specs.Events.{word_events}
use Rattle.run_shell.specs.Writing.{Writes}
use Rattle.receipts.specs.Received.{output_names, received_outcome, received_text}
use Rattle.receipts.specs.Receipts.{Beginning}
use Rattle.receipts.proofs.Making.{stopped_writes}
use Rattle.receipts.proofs.Settings.{for_channels, lists_channels, longest_fits}
use Rattle.join_commands.proofs.Placing.{rise_none}
use Rattle.receipts.proofs.Receiving.{stopped_before}
use Rattle.join_commands.proofs.words.receive_by.Goals as goal

pub returns-in_err-receipt-clause-writes : goal.returns-in_err-receipt-clause-writes
returns-in_err-receipt-clause-writes g c setting is =
    let b : Beginning = record { ahead = []; lists = false; setting = setting; link_type = c.args.captures.now.link_type; prefix = c.args.captures.now.prefix.now; was = g.S.Store.files c.args.store.now } in
    let events = word_events setting c.args.words.now in
    let r = c.from_residual in
    let p = err_from_is_err_and r.result r.ensures.1 in
    rw (p.1, p.2) (subst (λ cs. Writes (λ o. o ≡ received_outcome setting c.args.captures.now.link_type c.args.captures.now.prefix.now [] events) (output_names c.args.captures.now.prefix.now cs) (Err c.in_err-receipt.field-0.0) (g.S.Store.files c.args.store.now) (g.S.Store.files c.open.new.store)) is.listed
    (stopped_writes b events false (received_text setting events) c.in_err-receipt.field-0.0 _ (stopped_before b [] events events c.in_err-receipt.field-0.0 _ refl (c.in_err-receipt.ensures.opens setting is.listed))))

pub take_words-requires-clause-at : goal.take_words-requires-clause-at
take_words-requires-clause-at g c =
    let (setting, is) = for_channels c.args.captures.now.channels.now c.args.max_packet c.args.wide c.requires.in_order in
    let b : Beginning = record { ahead = []; lists = false; setting = setting; link_type = c.args.captures.now.link_type; prefix = c.args.captures.now.prefix.now; was = g.S.Store.files c.args.store.now } in
    (b, record { stands = c.requires.stands setting (lists_channels setting c.args.captures.now.channels.now c.args.max_packet c.args.wide is); receipt = c.in_ok-receipt.ensures.opens setting is.listed; rises = rise_none; fits = longest_fits setting c.args.captures.now.channels.now c.args.max_packet c.args.wide is c.requires.fits })

pub returns-in_err-take_words-clause-writes : goal.returns-in_err-take_words-clause-writes
returns-in_err-take_words-clause-writes g c setting is =
    let b : Beginning = record { ahead = []; lists = false; setting = setting; link_type = c.args.captures.now.link_type; prefix = c.args.captures.now.prefix.now; was = g.S.Store.files c.args.store.now } in
    let events = word_events setting c.args.words.now in
    let r = c.from_residual-in_err-take_words in
    let p = err_from_is_err_and r.result r.ensures.1 in
    rw (p.1, p.2) (subst (λ cs. Writes (λ o. o ≡ received_outcome setting c.args.captures.now.link_type c.args.captures.now.prefix.now [] events) (output_names c.args.captures.now.prefix.now cs) (Err c.in_err-take_words.field-0.0) (g.S.Store.files c.args.store.now) (g.S.Store.files c.take_words.new.store)) is.listed
    (stopped_writes b events false (received_text setting events) c.in_err-take_words.field-0.0 _ (c.in_err-take_words.ensures.receives b
    (record { stands = c.requires.stands setting (lists_channels setting c.args.captures.now.channels.now c.args.max_packet c.args.wide is); receipt = c.in_ok-receipt.ensures.opens setting is.listed; rises = rise_none; fits = longest_fits setting c.args.captures.now.channels.now c.args.max_packet c.args.wide is c.requires.fits }))))

pub finish-requires-clause-receipt : goal.finish-requires-clause-receipt
finish-requires-clause-receipt g c =
    let (setting, is) = for_channels c.args.captures.now.channels.now c.args.max_packet c.args.wide c.requires.in_order in
    let b : Beginning = record { ahead = []; lists = false; setting = setting; link_type = c.args.captures.now.link_type; prefix = c.args.captures.now.prefix.now; was = g.S.Store.files c.args.store.now } in (
      b,
      word_events setting c.args.words.now,
      c.in_ok-take_words.ensures.receives b
          (record { stands = c.requires.stands setting (lists_channels setting c.args.captures.now.channels.now c.args.max_packet c.args.wide is); receipt = c.in_ok-receipt.ensures.opens setting is.listed; rises = rise_none; fits = longest_fits setting c.args.captures.now.channels.now c.args.max_packet c.args.wide is c.requires.fits }),
    )

pub returns-clause-writes : goal.returns-clause-writes
returns-clause-writes g c setting is =
    let b : Beginning = record { ahead = []; lists = false; setting = setting; link_type = c.args.captures.now.link_type; prefix = c.args.captures.now.prefix.now; was = g.S.Store.files c.args.store.now } in
    let events = word_events setting c.args.words.now in
    subst (λ before. Writes (λ o. o ≡ received_outcome setting c.args.captures.now.link_type c.args.captures.now.prefix.now before events) (output_names c.args.captures.now.prefix.now c.args.captures.now.channels.now) c.finish.result (g.S.Store.files c.args.store.now) (g.S.Store.files c.finish.new.store)) c.new.ensures.items
    (subst (λ cs. Writes (λ o. o ≡ received_outcome setting c.args.captures.now.link_type c.args.captures.now.prefix.now c.new.result.items events) (output_names c.args.captures.now.prefix.now cs) c.finish.result (g.S.Store.files c.args.store.now) (g.S.Store.files c.finish.new.store)) is.listed
    (c.finish.ensures.writes b events (c.in_ok-take_words.ensures.receives b
    (record { stands = c.requires.stands setting (lists_channels setting c.args.captures.now.channels.now c.args.max_packet c.args.wide is); receipt = c.in_ok-receipt.ensures.opens setting is.listed; rises = rise_none; fits = longest_fits setting c.args.captures.now.channels.now c.args.max_packet c.args.wide is c.requires.fits }))))
