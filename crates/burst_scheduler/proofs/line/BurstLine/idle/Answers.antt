use Rattle.std.proofs.Common.{◌∙◌, length, take, sym, ap}
use Rattle.lk_base.specs.Checksum.{control_crc}
use Rattle.stream_model.specs.BurstStream.{controls_in, data_since, end_format}
use Rattle.burst_scheduler.proofs.LineWords.{all_given}
use Rattle.burst_scheduler.proofs.ControlWords.{is_sealed}
use Rattle.burst_scheduler.proofs.line.BurstLine.idle.Goals as goal

pub returns-clause-word : goal.returns-clause-word
returns-clause-word c source w h due local =
    let s = c.args.self.now in
    let none = all_given s w due in
    record {
      fields = c.idle.result;
      sealed = is_sealed source w c.idle.result c.sealed-x.ensures.fields.0 c.sealed-x.result (take s.count s.run.items) _ _ _ c.idle.ensures.eop c.idle.ensures.reset c.idle.ensures.flow c.sealed-x.ensures.fields.1
          (c.sealed-x.ensures.checksum ∙ ap (λ xs. control_crc (take s.count xs) c.sealed-x.result) c.deref.ensures.value) (sym (ap data_since none) ∙ h.since) (h.end ∙ ap (end_format source) none)
          (c.next-reset.ensures.reset source.entries source.local (controls_in w) h.outgoing)
          (λ i l. c.next-reset.ensures.flow source.entries source.local (controls_in w) (length w) i h.outgoing local l);
      plain = (c.idle.ensures.kind, c.idle.ensures.sop, c.idle.ensures.channel, c.idle.ensures.multi);
      outgoing = c.next-reset.ensures.stands source.entries source.local (controls_in w) h.outgoing;
    }
