-- How the outcome of a row follows from what its steps tell.
use Rattle.std.proofs.Common.{Result, Ok, Err, ◌≡◌, true, false, List, [], ◌∷◌, ◌++◌, refl, ap, ◌∙◌}
use Rattle.std.proofs.lemmas.List.{append_assoc}
use Rattle.semantics.specs.Frameworks.{Framework}
use Rattle.edit_rules.specs.declared.effect.Effect.{Effect}
use Rattle.edit_rules.specs.declared.effect.EditFault.{EditFault}
use Rattle.edit_rules.specs.Refusals.{Refusal, done_unless}
use Rattle.edit_rules.specs.Applying.{AreTold}

-- a refusal that stands is told
pub stands : (r : Refusal) (more : List Refusal) (done : Framework × Effect) (fault : EditFault)
    → r.stands ≡ true → r.fault ≡ fault → done_unless (r ∷ more) done ≡ Err fault
stands r more done fault holds is = rw holds (ap Err is)

-- and one that doesn't is passed
pub passes : (r : Refusal) (more : List Refusal) (done : Framework × Effect) → r.stands ≡ false
    → done_unless (r ∷ more) done ≡ done_unless more done
passes r more done fails = rw fails refl

-- refusals of which one is told, and others behind them
pub told_first : (rs qs : List Refusal) (fault : EditFault) → AreTold {X = Unit} rs (Err fault)
    → AreTold {X = Unit} (rs ++ qs) (Err fault)
told_first rs qs fault told more done =
    ap (λ l. done_unless l done) (append_assoc rs qs more) ∙ told (qs ++ more) done

-- refusals of which none stands, and others behind them
pub told_then : (rs qs : List Refusal) (r : Result Unit EditFault) → AreTold {X = Unit} rs (Ok tt)
    → AreTold {X = Unit} qs r → AreTold {X = Unit} (rs ++ qs) r
told_then rs qs (Ok y) first then = λ more done.
    ap (λ l. done_unless l done) (append_assoc rs qs more) ∙ first (qs ++ more) done ∙ then more done
told_then rs qs (Err fault) first then = λ more done.
    ap (λ l. done_unless l done) (append_assoc rs qs more) ∙ first (qs ++ more) done ∙ then more done

-- a refusal that stands behind others that don't, and a row of which none stands
pub refused_behind : (rs : List Refusal) (r : Refusal) (done : Framework × Effect) (fault : EditFault)
    → AreTold {X = Unit} rs (Ok tt) → r.stands ≡ true → r.fault ≡ fault → done_unless (rs ++ r ∷ []) done ≡ Err fault
refused_behind rs r done fault told holds is = told (r ∷ []) done ∙ stands r [] done fault holds is

pub done_behind : (rs : List Refusal) (r : Refusal) (done made : Framework × Effect)
    → AreTold {X = Unit} rs (Ok tt) → r.stands ≡ false → done ≡ made → done_unless (rs ++ r ∷ []) done ≡ Ok made
done_behind rs r done made told fails is = told (r ∷ []) done ∙ passes r [] done fails ∙ ap Ok is
