use Rattle.std.proofs.Common.{inl, inr, ⊎_elim, refl}
use Rattle.oracle_face.specs.Logs.{IsSameClause}
use Rattle.core_answers.proofs.refuting.add_if_like.Goals as goal

pub returns : goal.returns
returns c =
    let same : IsSameClause c.args.side.now.literals c.args.literals.now =
    rw c.literals.ensures at (c.if-not-is_same_clause.ensures.0 refl) in λ n. (
      λ at. ⊎_elim (λ old. inl old) (λ e. inr (e, same)) ((c.in_ok-insert.ensures.ok.members n).0 at),
      λ h. (c.in_ok-insert.ensures.ok.members n).1 (⊎_elim (λ old. inl old) (λ p. inr p.0) h),
    )
