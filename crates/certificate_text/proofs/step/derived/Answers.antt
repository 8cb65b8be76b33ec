use Rattle.std.proofs.Common.{sym, subst, refl}
use Rattle.certificate_text.specs.Lines.{FaultsAt}
use Rattle.certificate_text.proofs.StepLemmas.{unreadable_stands, unreadable_hints, read_hints}
use Rattle.certificate_text.proofs.step.derived.Goals as goal

pub returns-in-Some-clause-fault : goal.returns-in-Some-clause-fault
returns-in-Some-clause-fault c =
    subst (FaultsAt c.args.line _) (sym c.fault-in-Some.ensures) (
      refl,
      unreadable_stands _ _ _ _ _ c.in_ok-read_literals.ensures c.in-Unreadable.is
          c.in_ok-_hints-in-Unreadable.ensures.numbers c.in-Some.is,
    )

pub returns-in-None-clause-fault : goal.returns-in-None-clause-fault
returns-in-None-clause-fault c =
    subst (FaultsAt c.args.line _) (sym c.fault-in-None.ensures) (
      refl,
      unreadable_hints _ _ _ _ c.in_ok-read_literals.ensures c.in-Unreadable.is
          c.in_ok-_hints-in-Unreadable.ensures.none c.in-None.is,
    )

pub returns-in-None-2-clause-fault : goal.returns-in-None-2-clause-fault
returns-in-None-2-clause-fault c =
    subst (FaultsAt c.args.line _) (sym c.fault-in-None-2.ensures) (
      refl,
      read_hints _ _ _ _ _ c.in_ok-read_literals.ensures c.in-Read.is
          c.in_ok-hints-in-Read.ensures.none c.in-None-2.is,
    )
