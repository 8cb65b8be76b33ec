use Rattle.std.proofs.Common.{[], subst}
use Rattle.std.specs.Prelude.{ℕ, List, IfOk}
use Rattle.meaning_atoms.specs.declared.atom.Atom.TheVariants.{Co}
use Rattle.oracle_face.specs.Growing.{IsFound}
use Rattle.goal_lists.specs.Asking.{goals_of}
use Rattle.goal_lists.proofs.Calls.{makes_same}
use Rattle.query_answers.proofs.CallLemmas.{closes_few}
use Rattle.query_answers.proofs.CompleteStableLemmas.{completed_from, may_ask_round}
use Rattle.goal_lists.proofs.RunLemmas.{ran_as, ran_none}
use Rattle.query_answers.proofs.complete_stable.completed.Goals as goal

pub search_for-requires : goal.search_for-requires
search_for-requires g c =
    may_ask_round (g.O.Oracle.framework c.args.oracle.now) (g.O.Oracle.log c.args.oracle.now).sides _ c.args.found
    c.in-Set.set c.as_slice.result.now tt c.as_slice.ensures.value c.in-Set.is c.requires.found

pub returns-in-Set-clause-completed : goal.returns-in-Set-clause-completed
returns-in-Set-clause-completed g c =
    let f = g.O.Oracle.framework c.args.oracle.now in
    let log = g.O.Oracle.log c.search_for.new.oracle in
    completed_from f (g.O.Oracle.framework c.search_for.new.oracle) log c.args.found c.in-Set.set c.search_for.result
    c.search_for.ensures.ran.framework c.search_for.ensures.ran.kept c.in-Set.is c.requires.found
    (subst (λ (xs : List ℕ). IfOk c.search_for.result (IsFound f log (goals_of Co xs [] [] [])))
    c.as_slice.ensures.value c.search_for.ensures.found)

pub returns-in-Set-clause-ran : goal.returns-in-Set-clause-ran
returns-in-Set-clause-ran g c = ran_as (makes_same _) (closes_few c.search_for.result) c.search_for.ensures.ran

pub returns-in-Refuted-clause-ran : goal.returns-in-Refuted-clause-ran
returns-in-Refuted-clause-ran g c = ran_none _ c.requires.kept (g.met.O.Oracle.stays _)
