use Rattle.std.proofs.Common.{◌∙◌, length, take, sym, ap}
use Rattle.lk_base.specs.Checksum.{control_crc}
use Rattle.stream_model.specs.BurstStream.{controls_in, data_since, end_format}
use Rattle.burst_scheduler.proofs.LineWords.{all_given}
use Rattle.burst_scheduler.proofs.ControlWords.{is_sealed}
use Rattle.burst_scheduler.proofs.line.BurstLine.burst.Goals as goal

pub returns-clause-word : goal.returns-clause-word
returns-clause-word c source w h due local =
    let s = c.args.self.now in
    let none = all_given s w due in
    record {
      fields = c.burst.result;
      sealed = is_sealed source w c.burst.result c.sealed.ensures.fields.0 c.sealed.result (take s.count s.run.items) _ _ _ c.burst.ensures.eop c.burst.ensures.reset c.burst.ensures.flow c.sealed.ensures.fields.1
          (c.sealed.ensures.checksum ∙ ap (λ xs. control_crc (take s.count xs) c.sealed.result) c.deref.ensures.value) (sym (ap data_since none) ∙ h.since) (h.end ∙ ap (end_format source) none)
          (c.next-reset.ensures.reset source.entries source.local (controls_in w) h.outgoing)
          (λ i l. c.next-reset.ensures.flow source.entries source.local (controls_in w) (length w) i h.outgoing local l);
      burst = c.burst.ensures.kind;
      sop = c.burst.ensures.sop;
      on = c.burst.ensures.channel;
      outgoing = c.next-reset.ensures.stands source.entries source.local (controls_in w) h.outgoing;
    }
