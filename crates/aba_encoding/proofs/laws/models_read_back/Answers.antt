use Rattle.meaning_atoms.specs.declared.atom.Closure.TheVariants.{Own, Rest}
use Rattle.aba_encoding.proofs.ModelReadings.{model_reads_back}
use Rattle.aba_encoding.proofs.laws.models_read_back.Goals as goal

pub returns : goal.returns
returns c = λ f values set form model decoded founded.
    model_reads_back f values set form model decoded (founded Own) (founded Rest)
