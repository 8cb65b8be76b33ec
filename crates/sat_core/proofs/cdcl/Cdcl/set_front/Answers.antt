use Rattle.std.proofs.Common.{◌∙◌, arith, sym, subst}
use Rattle.sat_core.specs.Runs.{IsResting, IsFronted}
use Rattle.sat_core.proofs.Running.{given_up, front_begins}
use Rattle.sat_core.proofs.Holding.{held_same}
use Rattle.sat_core.proofs.cdcl.Cdcl.set_front.Goals as goal

pub returns-in_err-assume_block-clause-rest : goal.returns-in_err-assume_block-clause-rest
returns-in_err-assume_block-clause-rest c =
    let stays = c.in_err-assume_block.ensures.err in
    record {
      held = held_same _ _ _ _ _ _ (stays.clauses ∙ c.back_to.ensures.clauses)
          (let a = c.back_to.ensures.vars in let b = stays.assigned.vars in omega (arith, a, b)) c.requires.rest.held;
      resting = subst (λ xs. IsResting xs c.assume_block.new.self) (sym c.clear.ensures.items)
          (given_up _ _ _ _ c.requires.rest.resting.fronted c.back_to.ensures c.vars-form.ensures.form stays);
    }

pub returns-clause-rest : goal.returns-clause-rest
returns-clause-rest c =
    let gains = c.in_ok-assume_block.ensures.ok in
    let begun = front_begins _ _ _ _ c.args.block.now c.requires.rest.resting.fronted c.back_to.ensures gains in
    record {
      held = held_same _ _ _ _ _ _ (gains.clauses ∙ c.back_to.ensures.clauses)
          (let a = c.back_to.ensures.vars in let b = gains.vars in omega (arith, a, b)) c.requires.rest.held;
      resting = record {
        fronted = subst (λ xs. IsFronted xs c.assume_block.new.self) (sym c.in_ok-front.ensures.items) begun.0;
        few = let one = begun.1 in omega (arith, one);
      };
    }

pub returns-clause-lits : goal.returns-clause-lits
returns-clause-lits c = λ l there.
    (front_begins _ _ _ _ c.args.block.now c.requires.rest.resting.fronted c.back_to.ensures
    c.in_ok-assume_block.ensures.ok).2 l there
