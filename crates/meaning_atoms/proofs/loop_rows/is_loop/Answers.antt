use Rattle.std.proofs.Common.{ℕ, refl, rules}
use Rattle.std.specs.Prelude.{Contains}
use Rattle.std.proofs.lemmas.Iterator.{cases_from_all, YieldsList-from_slice}
use Rattle.meaning_atoms.specs.declared.loop_rows.LoopRow.{LoopRow}
use Rattle.meaning_atoms.specs.AbaAxioms.{IsLoopRow}
use Rattle.meaning_atoms.proofs.loop_rows.is_loop.Goals as goal
use Rattle.lists.proofs.Walks.{all_members}

pub returns-then-has_atom : goal.returns-then-has_atom
returns-then-has_atom c =
    let P : LoopRow → Type 0 = λ r. IsLoopRow c.args.rows.now r in
    let each = all_members P c.args.rows.now _
    (cases_from_all _ _ _ P (λ x. P x → ⊥) c.all.ensures.ran (YieldsList-from_slice c.args.rows.now cc)
    (λ x q k. search rules) (λ x q k. search rules)) in
    (λ t. record { rise = c.if-not-atoms_rise.ensures.0 refl; belongs = c.if-has_atom.ensures.0 refl; each = each.0 t }, λ h. each.1 h.each)
