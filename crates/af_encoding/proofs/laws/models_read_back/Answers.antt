use Rattle.af_encoding.proofs.Readings.{model_reads_back}
use Rattle.af_encoding.proofs.laws.models_read_back.Goals as goal

pub returns : goal.returns
returns c = λ f values set ok model decoded. model_reads_back f values set ok model decoded
