use Rattle.std.proofs.Common.{◌≡◌, ◌<◌, [], ◌∷◌, ◌++◌, length, get_or, ap, ◌∙◌, arith, false}
use Rattle.std.proofs.lemmas.List.{get_or_default, take_all}
use Rattle.plain_lits.specs.declared.lit.Lit.{Lit}
use Rattle.atom_solver.specs.Tables.{told}
use Rattle.atom_solver.proofs.Assuming.{atom_there}
use Rattle.atom_solver.proofs.TableLemmas.{told_yes, told_no}
use Rattle.atom_solver.proofs.tables.over_atoms.Goals as goal
use Rattle.atom_solver.proofs.tables.over_atoms.Goals.{then-lit-len+in_ok-push, else-lit-len}

abbrev blank : Lit
blank = record { var = 0; positive = false }

pub loop-lit-preserved : goal.loop-lit-preserved
loop-lit-preserved c =
    let i = c.loop-lit.lit-index in
    let l = get_or c.args.lits.now i blank in
    let is : get_or c.args.lits.now i l ≡ l = get_or_default c.args.lits.now i l blank c.loop-lit-test.true in
    let table = c.len.ensures.len in
    elim c.if-lit-len.branch [
      | then-lit-len+in_ok-push w ↦
          let known : l.var < length c.args.table.now = omega (arith, w.if-lit-len.true, table) in
          let pushed = w.in_ok-push.ensures.ok
          ∙ ap (λ atom. c.loop-lit.literals ++ (record { atom = atom; positive = l.positive }) ∷ [])
          (atom_there c.args.table.now l.var w.atom_at.result w.atom_at.ensures) in
          told_yes c.args.table.now c.args.lits.now i l c.loop-lit.literals c.if-lit-len.literals c.loop-lit-test.true is
          known c.loop-lit.invariant (w.literals-is ∙ pushed)
      | else-lit-len w ↦
          w.literals-is
          ∙ told_no c.args.table.now c.args.lits.now i l c.loop-lit.literals c.loop-lit-test.true is
          (omega (arith, w.if-lit-len.false, table)) c.loop-lit.invariant
    ]

pub returns : goal.returns
returns c = c.loop-lit.invariant ∙ ap (told c.args.table.now) (take_all c.loop-lit.lit-index c.args.lits.now
    c.loop-lit-test.false)
