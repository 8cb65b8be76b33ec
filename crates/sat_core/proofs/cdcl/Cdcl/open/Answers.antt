use Rattle.std.proofs.Common.{◌≡◌, [], length, ap, sym, subst, arith, rules}
use Rattle.sat_core.specs.Runs.{IsFronted}
use Rattle.sat_core.proofs.Fronting.{fronted_none}
use Rattle.sat_core.proofs.Holding.{held_none}
use Rattle.sleeping_clauses.proofs.Mirroring.{room_none}
use Rattle.sat_core.proofs.cdcl.Cdcl.open.Goals as goal

pub returns-clause-rest : goal.returns-clause-rest
returns-clause-rest c =
    let s = c.in_ok-search.search in
    let none : c.new-8.result.items ≡ [] = search rules in
    rw c.new.ensures (record {
      held = held_none s _ _ _ _ c.in_ok-search.ensures.clauses (search rules) (search rules) (search rules)
          c.in_ok-log.ensures.steps;
      resting = record {
        fronted = subst (λ xs. IsFronted xs s) (sym none)
            (fronted_none s c.in_ok-search.ensures.lits c.in_ok-search.ensures.starts
            (room_none s c.in_ok-search.ensures.clauses));
        few = let e = ap length c.in_ok-search.ensures.starts in omega (arith, e);
      };
    })
