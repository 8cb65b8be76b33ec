use Rattle.af_encoding.proofs.WorldModels.{set_has_model}
use Rattle.af_encoding.proofs.laws.sets_have_models.Goals as goal

pub returns : goal.returns
returns c = λ f set ok within. set_has_model f set ok within
