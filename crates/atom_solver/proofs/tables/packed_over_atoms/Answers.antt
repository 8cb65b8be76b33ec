use Rattle.std.proofs.Common.{◌≡◌, ◌<◌, [], ◌∷◌, ◌++◌, length, get_or, ap, sym, ◌∙◌, arith}
use Rattle.std.proofs.lemmas.List.{get_or_default, take_all}
use Rattle.atom_solver.specs.Tables.{told}
use Rattle.atom_solver.proofs.Assuming.{atom_there}
use Rattle.atom_solver.proofs.TableLemmas.{told_yes, told_no}
use Rattle.atom_solver.proofs.tables.packed_over_atoms.Goals as goal
use Rattle.atom_solver.proofs.tables.packed_over_atoms.Goals.{then-lit-len+in_ok-push, else-lit-len}

pub loop-packed-preserved : goal.loop-packed-preserved
loop-packed-preserved c =
    let i = c.loop-packed.packed-index in
    let clause = c.args.clause.now in
    let l = c.lit-lit.result in
    let e = c.lit-lit.ensures.lit in
    let at : get_or clause i l ≡ l = get_or_default clause i l c.packed-item.result c.loop-packed-test.true
    ∙ (sym c.packed-item.is ∙ sym e) in
    let table = c.len.ensures.len in
    elim c.if-lit-len.branch [
      | then-lit-len+in_ok-push w ↦
          let known : l.var < length c.args.table.now = omega (arith, w.if-lit-len.true, table) in
          let pushed = w.in_ok-push.ensures.ok
          ∙ ap (λ atom. c.loop-packed.literals ++ (record { atom = atom; positive = l.positive }) ∷ [])
          (atom_there c.args.table.now l.var w.atom_at.result w.atom_at.ensures) in
          told_yes c.args.table.now clause i l c.loop-packed.literals c.if-lit-len.literals c.loop-packed-test.true at
          known c.loop-packed.invariant (w.literals-is ∙ pushed)
      | else-lit-len w ↦
          w.literals-is
          ∙ told_no c.args.table.now clause i l c.loop-packed.literals c.loop-packed-test.true at
          (omega (arith, w.if-lit-len.false, table)) c.loop-packed.invariant
    ]

pub returns : goal.returns
returns c = c.loop-packed.invariant ∙ ap (told c.args.table.now) (take_all c.loop-packed.packed-index
    c.args.clause.now c.loop-packed-test.false)
