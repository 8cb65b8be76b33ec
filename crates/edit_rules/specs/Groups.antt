-- Groups of edits: a group is taken whole, or it is refused and changes nothing, as a transaction of a database is:
-- T. Härder, A. Reuter, "Principles of transaction-oriented database recovery", ACM Computing Surveys 15 (1983). A
-- group acts by its edits, one by one, so the framework after a group that is taken is the one after its edits.
use Rattle.std.specs.Prelude.{ℕ, ◌+◌, List, [], ◌∷◌, Result, Ok, Err}
use Rattle.semantics.specs.Frameworks.{Framework}
use Rattle.edit_rules.specs.declared.edit.Edit.{Edit}
use Rattle.edit_rules.specs.declared.effect.Effect.{Effect}
use Rattle.edit_rules.specs.declared.effect.EditFault.{EditFault}
use Rattle.edit_rules.specs.Edits.{edit_outcome}
use Rattle.edit_rules.specs.Replay.{after_edit}

-- what the first edit of a group comes to, before what the others tell on the framework behind it
abbrev pub told_first : Result (Framework × Effect) EditFault → Result (List Effect) (ℕ × EditFault)
    → Result (List Effect) (ℕ × EditFault)
told_first (Err fault) others = Err (1, fault)
told_first (Ok done) (Ok effects) = Ok (done.1 ∷ effects)
told_first (Ok done) (Err refused) = Err (refused.0 + 1, refused.1)

-- what a group tells: the effects of its edits, or the place of the first edit that is refused, counted from 1, and why
abbrev pub group_told : Framework → List Edit → Result (List Effect) (ℕ × EditFault)
group_told f [] = Ok []
group_told f (edit ∷ more) = told_first (edit_outcome f edit) (group_told (after_edit f edit) more)
