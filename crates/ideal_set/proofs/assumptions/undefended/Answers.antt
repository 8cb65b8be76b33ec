use Rattle.std.proofs.lemmas.Result.{IfOk-weaker}
use Rattle.semantics.specs.AbaFrameworks.{collective_of}
use Rattle.ideal_set.proofs.AssumptionLemmas.{undefended_members}
use Rattle.ideal_set.proofs.assumptions.undefended.Goals as goal

pub returns : goal.returns
returns c =
    IfOk-weaker c.minus.result _ _
    (λ all less. undefended_members (collective_of c.args.plain.now) c.args.set.now c.in_ok-defended.defended all
    c.in_ok-defended.ensures less)
    c.minus.ensures
