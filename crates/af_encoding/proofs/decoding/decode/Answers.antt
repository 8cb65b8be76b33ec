use Rattle.std.proofs.lemmas.Result.{IfOk-weaker}
use Rattle.meaning_atoms.specs.declared.atom.Atom.TheVariants.{Live}
use Rattle.af_encoding.proofs.Affirmed.{without_others}
use Rattle.af_encoding.proofs.Readings.{model_describes}
use Rattle.af_encoding.proofs.decoding.decode.Goals as goal

pub returns-clause-set : goal.returns-clause-set
returns-clause-set c =
    IfOk-weaker c.minus-2.result _ _
    (λ set made. without_others Live c.args.values.now c.in_ok-members.members c.in_ok-live.live c.in_ok-dead.dead set
    c.in_ok-members.ensures c.in_ok-live.ensures c.in_ok-dead.ensures made)
    c.minus-2.ensures

pub returns-clause-model : goal.returns-clause-model
returns-clause-model c = λ f ok model.
    IfOk-weaker c.minus-2.result _ _
    (λ set is. model_describes f c.args.values.now set ok model is) (returns-clause-set c)
