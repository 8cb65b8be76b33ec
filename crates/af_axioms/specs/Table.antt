-- The table of axioms: clauses that are true of every abstract framework and every set of numbers.
--
-- The axioms are the program's own; they put into clauses what the definitions of the notions say (Dung 1995).
-- Who attacks an argument is told by walking along its attackers by rising number: A5 and A8 step from a position
-- over a gap to the next attacker, A6 and A9 end the walk.
use Rattle.std.specs.Prelude.{◌+◌, List, [], ◌∷◌}
use Rattle.meaning_atoms.specs.declared.atom.TheConstants.{END}
use Rattle.meaning_atoms.specs.declared.atom.Atom.{Atom}
use Rattle.meaning_atoms.specs.declared.atom.Atom.TheVariants.{Member, Live, Attack, Gap, Tail, Unmet, Range, Cf, Ad, Co, St}
use Rattle.meaning_atoms.specs.declared.atom.AtomLit.{AtomLit}
use Rattle.meaning_atoms.specs.declared.axiom.AfAxiom.{AfAxiom}
use Rattle.meaning_atoms.specs.declared.axiom.AfAxiom.TheVariants.{A1, A2, A3, A4, A5, A6, A7, A8, A9, A10, A11, A12, A13, A14}
use Rattle.meaning_atoms.specs.Literals.{affirmed, denied}
use Rattle.meaning_atoms.specs.Notions.{notion_clause}

-- the clause of an axiom
abbrev pub table_clause : AfAxiom → List AtomLit
table_clause (A1 a) = denied Cf ∷ denied (Member a) ∷ affirmed (Live a) ∷ []
table_clause (A2 b a) = denied Cf ∷ denied (Attack b a) ∷ denied (Member a) ∷ denied (Member b) ∷ []
table_clause (A3 b a) = denied Ad ∷ denied (Attack b a) ∷ denied (Member a) ∷ affirmed (Tail b 1) ∷ []
table_clause (A4 b a) = denied (Attack b a) ∷ denied (Member b) ∷ affirmed (Tail a 1) ∷ []
table_clause (A5 a i j) =
    denied (Tail a i) ∷ denied (Gap a i j) ∷ affirmed (Member j) ∷ affirmed (Tail a (j + 1)) ∷ []
table_clause (A6 a i) = denied (Tail a i) ∷ denied (Gap a i END) ∷ []
table_clause (A7 a) = denied Co ∷ denied (Live a) ∷ affirmed (Member a) ∷ affirmed (Unmet a 1) ∷ []
table_clause (A8 a i j) =
    denied (Unmet a i) ∷ denied (Gap a i j) ∷ denied (Tail j 1) ∷ affirmed (Unmet a (j + 1)) ∷ []
table_clause (A9 a i) = denied (Unmet a i) ∷ denied (Gap a i END) ∷ []
table_clause (A10 a) = denied St ∷ denied (Live a) ∷ affirmed (Member a) ∷ affirmed (Tail a 1) ∷ []
table_clause (A11 a) = denied (Range a) ∷ affirmed (Member a) ∷ affirmed (Tail a 1) ∷ []
table_clause (A12 a) = denied (Member a) ∷ affirmed (Range a) ∷ []
table_clause (A13 a) = denied (Tail a 1) ∷ affirmed (Range a) ∷ []
table_clause (A14 part) = notion_clause part
