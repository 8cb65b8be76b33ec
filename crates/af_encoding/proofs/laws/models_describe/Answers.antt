use Rattle.af_encoding.proofs.Readings.{model_describes}
use Rattle.af_encoding.proofs.laws.models_describe.Goals as goal

pub returns : goal.returns
returns c = λ f values set ok model decoded. model_describes f values set ok model decoded
