use Rattle.std.proofs.Common.{subst, sym}
use Rattle.meaning_atoms.specs.Worlds.{IsFact}
use Rattle.af_axioms.specs.Facts.{IsFactValue}
use Rattle.atom_solver.proofs.Assuming.{facts_none, facts_yes, facts_no, atom_there}
use Rattle.atom_solver.proofs.tables.assume_facts.Goals as goal
use Rattle.atom_solver.proofs.tables.assume_facts.Goals.{in-Some+in_ok-push, in_default}

pub loop-var-init : goal.loop-var-init
loop-var-init g c = rw c.clear.ensures.items (facts_none (g.E.Encoding.framework c.args.plain.now) c.args.table.now)

pub loop-var-preserved : goal.loop-var-preserved
loop-var-preserved g c =
    let f = g.E.Encoding.framework c.args.plain.now in
    let table = c.args.table.now in
    let var = c.loop-var.var in
    let there = atom_there table var c.atom_at-atom.result c.atom_at-atom.ensures in
    elim c.match-fact.branch [
      | in-Some+in_ok-push w ↦
          rw w.assumed-is (facts_yes f table var w.in-Some.positive c.loop-var.assumed.items w.push.new.self.items
          (subst (λ atom. IsFactValue f atom w.in-Some.positive) there w.in-Some.ensures.some)
          w.in_ok-push.ensures.items c.loop-var.invariant)
      | in_default w ↦
          rw w.assumed-is (facts_no f table var c.loop-var.assumed.items
          (λ fact. w.in_default.ensures.none (subst (IsFact f) (sym there) fact)) c.loop-var.invariant)
    ]
