use Rattle.af_encoding.proofs.Readings.{model_reads_back}
use Rattle.af_encoding.proofs.encoding.AfEncodingEncoding.missing.Goals as goal

pub returns-clause-reads : goal.returns-clause-reads
returns-clause-reads c = λ none model set decoded.
    model_reads_back c.args.plain.now c.args.values.now set c.live-live.ensures.form model decoded
