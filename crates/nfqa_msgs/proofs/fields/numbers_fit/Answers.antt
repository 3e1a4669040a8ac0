use Rattle.std.proofs.Common.{sym, subst}
use Rattle.nfqa_msgs.specs.RequestReading.{PayloadFits}
use Rattle.nfqa_msgs.specs.RequestWriting.{FitsRequest}
use Rattle.nfqa_msgs.proofs.fields.numbers_fit.Goals as goal

pub returns-in-Config : goal.returns-in-Config
returns-in-Config c =
    subst FitsRequest (sym c.in-Config.is)
    (record {
      queue_fits = c.fits_queue.ensures;
      command_fits = c.fits_byte.ensures;
      params_fit = c.fits_params.ensures;
      maxlen_fits = c.fits_value.ensures;
      flags_fit = c.fits_value-in-Config.ensures;
      mask_fits = c.fits_value-in-Config-2.ensures;
    })

pub returns-in-Verdict : goal.returns-in-Verdict
returns-in-Verdict c =
    subst FitsRequest (sym c.in-Verdict.is)
    (record {
      queue_fits = c.fits_queue-in-Verdict.ensures;
      head_fits = c.fits_head.ensures;
      mark_fits = c.fits_value-in-Verdict.ensures;
      payload_fits = subst PayloadFits c.in-Verdict.is c.requires;
      priority_fits = c.fits_value-in-Verdict-2.ensures;
    })

pub returns-in-Batch : goal.returns-in-Batch
returns-in-Batch c =
    subst FitsRequest (sym c.in-Batch.is)
    (record {
      queue_fits = c.fits_queue-in-Batch.ensures;
      head_fits = c.fits_head-in-Batch.ensures;
      mark_fits = c.fits_value-in-Batch.ensures;
      payload_fits = tt;
      priority_fits = c.fits_value-in-Batch-2.ensures;
    })
