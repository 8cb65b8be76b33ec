use Rattle.std.proofs.Common.{◌≡◌, ◌∙◌, get_or, refl, false}
use Rattle.std.proofs.lemmas.List.{get_or_default}
use Rattle.meaning_atoms.specs.declared.atom.Atom.TheVariants.{Member}
use Rattle.meaning_atoms.specs.declared.atom.AtomLit.{AtomLit}
use Rattle.atom_solver.proofs.TableLemmas.{extends_none, extends_more, extends_front, adds_none, adds_more}
use Rattle.atom_solver.proofs.tables.push_lits_for.Goals as goal

abbrev blank : AtomLit
blank = record { atom = Member 0; positive = false }

pub loop-literal-init : goal.loop-literal-init
loop-literal-init c = record {
  table = extends_none _ c.args.table.now;
  solver = refl;
  lits = adds_none c.args.table.now c.args.lits.now.items;
}

pub loop-literal-preserved : goal.loop-literal-preserved
loop-literal-preserved c =
    let i = c.loop-literal.literal-index in
    let literals = c.args.literals.now in
    let l = get_or literals i blank in
    let lt = c.loop-literal-test.true in
    let is : get_or literals i l ≡ l = get_or_default literals i l blank lt in
    record {
      table = extends_more literals i l c.args.table.now c.loop-literal.table _ lt is c.loop-literal.invariant.table
          c.push_lit_for.ensures.table;
      solver = c.push_lit_for.ensures.solver ∙ c.loop-literal.invariant.solver;
      lits = adds_more literals i l c.loop-literal.table _ c.args.lits.now.items c.loop-literal.lits.items _ lt is
          c.push_lit_for.ensures.table c.loop-literal.invariant.lits c.in_ok-push_lit_for.ensures.ok;
    }

pub returns-in_err-push_lit_for-clause-table : goal.returns-in_err-push_lit_for-clause-table
returns-in_err-push_lit_for-clause-table c =
    let i = c.loop-literal.literal-index in
    let literals = c.args.literals.now in
    let l = get_or literals i blank in
    let lt = c.loop-literal-test.true in
    extends_front literals i l c.args.table.now c.loop-literal.table _ lt (get_or_default literals i l blank lt)
    c.loop-literal.invariant.table c.push_lit_for.ensures.table

pub returns-in_err-push_lit_for-clause-solver : goal.returns-in_err-push_lit_for-clause-solver
returns-in_err-push_lit_for-clause-solver c = c.push_lit_for.ensures.solver ∙ c.loop-literal.invariant.solver
