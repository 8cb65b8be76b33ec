use Rattle.std.proofs.lemmas.Result.{IfOk-weaker}
use Rattle.meaning_atoms.specs.declared.atom.Atom.TheVariants.{Asm}
use Rattle.af_encoding.proofs.Affirmed.{without_others}
use Rattle.aba_encoding.proofs.decoding.decode.Goals as goal

pub returns : goal.returns
returns c =
    IfOk-weaker c.minus-2.result _ _
    (λ set made. without_others Asm c.args.values.now c.in_ok-members.members c.in_ok-assumptions.assumptions
    c.in_ok-strays.strays set c.in_ok-members.ensures c.in_ok-assumptions.ensures c.in_ok-strays.ensures made)
    c.minus-2.ensures
