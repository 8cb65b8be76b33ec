use Rattle.aba_encoding.proofs.WorldModels.{set_has_model}
use Rattle.aba_encoding.proofs.laws.sets_have_models.Goals as goal

pub returns : goal.returns
returns c = λ f set form within. set_has_model f set form within
