-- The literals of the table are within their bounds, where the arguments fit the row.
use Rattle.std.proofs.Common.{◌+◌, ℕ}
use Rattle.std.specs.Prelude.{All}
use Rattle.std.specs.List.{AllByRecursion}
use Rattle.std.proofs.lemmas.List.Elements.{All-from_recursion}
use Rattle.meaning_atoms.specs.declared.atom.Atom.TheVariants.{Gap}
use Rattle.meaning_atoms.specs.declared.axiom.AfAxiom.{AfAxiom}
use Rattle.meaning_atoms.specs.declared.axiom.AfAxiom.TheVariants.{A1, A2, A3, A4, A5, A6, A7, A8, A9, A10, A11, A12, A13, A14}
use Rattle.meaning_atoms.specs.semantics.specs.Arguments.{IsArgument}
use Rattle.meaning_atoms.specs.Atoms.{IsPosition, IsAtom, IsLit}
use Rattle.meaning_atoms.specs.Axioms.{IsStretch, IsAfAxiom}
use Rattle.meaning_atoms.proofs.NotionClauses.{notions_fit}
use Rattle.af_axioms.specs.Table.{table_clause}
use Rattle.meaning_atoms.proofs.Positions.{
  first_place,
  last_place,
  stretch_begin,
  stretch_end,
  stretch_argument,
  stretch_past,
}

-- the gap of a stretch
stretch_gap : (a i j : ℕ) → IsStretch a i j → IsAtom (Gap a i j)
stretch_gap a i j s = (s.argument, stretch_begin a i j s, stretch_end a i j s, s.order)

fits : (name : AfAxiom) → IsAfAxiom name → AllByRecursion IsLit (table_clause name)
fits (A1 a) h = (tt, (h, (h, tt)))
fits (A2 b a) h = (tt, (h, (h.1, (h.0, tt))))
fits (A3 b a) h = (tt, (h, (h.1, ((h.0, first_place), tt))))
fits (A4 b a) h = (h, (h.0, ((h.1, first_place), tt)))
fits (A5 a i j) h =
    let s : IsStretch a i j = h in
    let past : IsArgument a × IsPosition (j + 1) = (s.argument, stretch_past a i j s) in
    ((s.argument, stretch_begin a i j s), (stretch_gap a i j s, (stretch_argument a i j s, (past, tt))))
fits (A6 a i) h = (h, ((h.0, h.1, last_place, h.1.high), tt))
fits (A7 a) h = (tt, (h, (h, ((h, first_place), tt))))
fits (A8 a i j) h =
    let s : IsStretch a i j = h in
    let past : IsArgument a × IsPosition (j + 1) = (s.argument, stretch_past a i j s) in
    let hit : IsArgument j × IsPosition 1 = (stretch_argument a i j s, first_place) in
    ((s.argument, stretch_begin a i j s), (stretch_gap a i j s, (hit, (past, tt))))
fits (A9 a i) h = (h, ((h.0, h.1, last_place, h.1.high), tt))
fits (A10 a) h = (tt, (h, (h, ((h, first_place), tt))))
fits (A11 a) h = (h, (h, ((h, first_place), tt)))
fits (A12 a) h = (h, (h, tt))
fits (A13 a) h = ((h, first_place), (h, tt))
fits (A14 part) h = notions_fit part

pub rows_fit : (name : AfAxiom) → IsAfAxiom name → All IsLit (table_clause name)
rows_fit name h = All-from_recursion IsLit (table_clause name) (fits name h)
