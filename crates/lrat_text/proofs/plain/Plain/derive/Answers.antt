use Rattle.std.proofs.Common.{ap, refl, sym, subst}
use Rattle.lrat_text.specs.CnfText.{Formula, formula}
use Rattle.lrat_text.specs.Tables.{IsBelow}
use Rattle.lrat_text.proofs.TableLemmas.{plain_kept, plain_room, plain_packable, plain_more, packed_row}
use Rattle.lrat_text.proofs.plain.Plain.derive.Goals as goal

pub check-requires-clause-clause_room : goal.check-requires-clause-clause_room
check-requires-clause-clause_room c =
    plain_room _ _ _ _ _ c.self.invariant
    (subst (λ (f : Formula). IsBelow f.vars c.args.clause.now) (sym c.self.view_is) c.requires)

pub pack_into-requires : goal.pack_into-requires
pack_into-requires c =
    plain_packable _ _ _ _ _ c.self.invariant
    (subst (λ (f : Formula). IsBelow f.vars c.args.clause.now) (sym c.self.view_is) c.requires)

pub invariant_of-self : goal.invariant_of-self
invariant_of-self c = plain_kept _ _ _ _ _ _ c.self.invariant c.check.ensures.lits c.check.ensures.vars

pub returns-in-Err : goal.returns-in-Err
returns-in-Err c = rw (← c.self.view_is) ((c.in-Err.field-0, c.in-Err.ensures.outcome), refl)

pub invariant_of-self-in_err-pack_into-in-Ok : goal.invariant_of-self-in_err-pack_into-in-Ok
invariant_of-self-in_err-pack_into-in-Ok c =
    plain_kept _ _ _ _ _ _ c.self.invariant c.check.ensures.lits c.check.ensures.vars

pub invariant_of-self-in_err-push-in-Ok : goal.invariant_of-self-in_err-push-in-Ok
invariant_of-self-in_err-push-in-Ok c = rw c.in_err-push-in-Ok.ensures.err
    (plain_kept _ _ _ _ _ _ c.self.invariant c.check.ensures.lits c.check.ensures.vars)

pub invariant_of-self-in-Ok : goal.invariant_of-self-in-Ok
invariant_of-self-in-Ok c =
    plain_more _ _ _ _ _ _ (plain_kept _ _ _ _ _ _ c.self.invariant c.check.ensures.lits c.check.ensures.vars)
    (subst (λ (f : Formula). IsBelow f.vars c.args.clause.now) (sym c.self.view_is) c.requires)
    (packed_row _ _ _ _ _ c.in_ok-push-in-Ok.ensures.ok c.as_slice.ensures.value c.in_ok-pack_into-in-Ok.ensures)

pub returns-in_ok-push-in-Ok : goal.returns-in_ok-push-in-Ok
returns-in_ok-push-in-Ok c =
    rw (← c.self.view_is) (
      (c.in-Ok.field-0, c.in-Ok.ensures.outcome),
      ap (λ cs. formula c.self.inside.vars cs) (packed_row _ _ _ _ _ c.in_ok-push-in-Ok.ensures.ok
          c.as_slice.ensures.value c.in_ok-pack_into-in-Ok.ensures),
    )
