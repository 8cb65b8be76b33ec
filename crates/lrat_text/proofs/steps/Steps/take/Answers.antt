use Rattle.std.proofs.Common.{rules, sym, subst}
use Rattle.lrat_text.specs.Checking.{CheckState}
use Rattle.lrat_text.specs.TableFormula.{formula_of}
use Rattle.lrat_text.specs.Tables.{IsBelow, Takes}
use Rattle.lrat_text.proofs.CheckStates.{added_ids, named_hints, state_failed, state_added}
use Rattle.lrat_text.proofs.steps.Steps.take.Goals as goal

pub check_line-requires-clause-within : goal.check_line-requires-clause-within
check_line-requires-clause-within c =
    subst (λ (s : CheckState). IsBelow s.vars c.args.line.now.literals.items) (sym c.self.view_is) c.requires.within

pub invariant_of-self-then-is_empty : goal.invariant_of-self-then-is_empty
invariant_of-self-then-is_empty c =
    added_ids c.self.inside.count c.self.inside.ids.items c.push.new.self.items (formula_of c.self.inside.table)
    c.args.self.now c.args.id c.self.invariant c.self.view_is c.requires.last c.ranges.id.fits c.in_ok-push.ensures.items

pub invariant_of-self-2 : goal.invariant_of-self-2
invariant_of-self-2 c =
    added_ids c.self.inside.count c.self.inside.ids.items c.push.new.self.items (formula_of c.self.inside.table)
    c.args.self.now c.args.id c.self.invariant c.self.view_is c.requires.last c.ranges.id.fits c.in_ok-push.ensures.items

pub returns-then-not-passes : goal.returns-then-not-passes
returns-then-not-passes c =
    state_failed c.self.inside.count c.self.inside.ids.items (formula_of c.self.inside.table)
    (formula_of c.check_line.new.table) c.args.self.now c.args.id c.args.line.now.literals.items
    c.args.line.now.hints.items c.in_ok-passes.passes c.self.view_is
    (subst (λ ids. Takes (formula_of c.self.inside.table) c.args.line.now.literals.items
    (named_hints c.self.inside.count ids c.args.line.now.hints.items) (formula_of c.check_line.new.table)
    c.in_ok-passes.passes) c.as_slice.ensures.value c.in_ok-passes.ensures)
    c.if-not-passes.true

pub returns : goal.returns
returns c = (
  λ e. search rules,
  state_added c.self.inside.count c.self.inside.ids.items c.push.new.self.items (formula_of c.self.inside.table)
      (formula_of c.check_line.new.table) c.args.self.now c.args.id c.args.line.now.literals.items
      c.args.line.now.hints.items c.in_ok-passes.passes c.self.view_is
      (subst (λ ids. Takes (formula_of c.self.inside.table) c.args.line.now.literals.items
      (named_hints c.self.inside.count ids c.args.line.now.hints.items) (formula_of c.check_line.new.table)
      c.in_ok-passes.passes) c.as_slice.ensures.value c.in_ok-passes.ensures)
      c.if-not-passes.false c.in_ok-push.ensures.items,
)
