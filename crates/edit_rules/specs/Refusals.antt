-- Why an edit is refused: of a list of refusals the first that stands is told.
use Rattle.std.specs.Prelude.{◌≡◌, Bool, if◌then◌else◌, List, [], ◌∷◌, Result, Ok, Err}
use Rattle.edit_rules.specs.declared.effect.EditFault.{EditFault}

-- a reason to refuse an edit: the fault is told where the test is true
pub record Refusal : Type 0 where
  pub stands : Bool
  pub fault : EditFault

abbrev pub refused_if : Bool → EditFault → Refusal
refused_if stands fault = record { stands = stands; fault = fault }

-- the fault of the first refusal that stands, or else what is done
abbrev pub done_unless : {X : Type 0} → List Refusal → X → Result X EditFault
done_unless [] done = Ok done
done_unless (r ∷ more) done = if r.stands then Err r.fault else done_unless more done

-- none of the refusals stands
abbrev pub NoneStands : List Refusal → Type 0
NoneStands refusals = done_unless {X = Unit {0}} refusals tt ≡ Ok tt
