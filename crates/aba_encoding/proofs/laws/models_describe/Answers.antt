use Rattle.meaning_atoms.specs.declared.atom.Closure.TheVariants.{Own, Rest}
use Rattle.aba_encoding.proofs.ModelReadings.{model_describes}
use Rattle.aba_encoding.proofs.laws.models_describe.Goals as goal

pub returns : goal.returns
returns c = λ f values set form model decoded founded.
    model_describes f values set form model decoded (founded Own) (founded Rest)
