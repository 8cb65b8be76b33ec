-- The table of axioms of assumption-based frameworks: clauses that are true of every framework and every set of numbers.
--
-- The axioms are the program's own; they put into clauses what follows by rules (Bondarenko, Dung, Kowalski, Toni 1997)
-- and what the notions say. Whether a rule's body lies in a closure, and whether some rule derives an atom, is told by
-- walking along the body's atoms or the rules' numbers: B7 and B10 step over a gap, B8 and B11 end the walk. B18 and B19
-- walk so along the contraries of an assumption, for whether one of them lies in a closure.
use Rattle.std.specs.Prelude.{ℕ, ◌+◌, ◌==◌, if◌then◌else◌, List, [], ◌∷◌, ◌++◌, map}
use Rattle.std.specs.List.{flat_map}
use Rattle.meaning_atoms.specs.declared.atom.TheConstants.{END}
use Rattle.meaning_atoms.specs.declared.atom.Atom.{Atom}
use Rattle.meaning_atoms.specs.declared.atom.Atom.TheVariants.{Member, Asm, Con, ConGap, Head, HGap, Body, BGap, Der, Miss, Sup, Hit}
use Rattle.meaning_atoms.specs.declared.atom.Atom.TheVariants.{Cf, Ad, Co, St}
use Rattle.meaning_atoms.specs.declared.atom.Closure.{Closure}
use Rattle.meaning_atoms.specs.declared.atom.Closure.TheVariants.{Own, Rest}
use Rattle.meaning_atoms.specs.declared.atom.AtomLit.{AtomLit}
use Rattle.meaning_atoms.specs.declared.aba_axiom.AbaAxiom.{AbaAxiom}
use Rattle.meaning_atoms.specs.declared.aba_axiom.AbaAxiom.TheVariants.{B1, B2, B3, B4, B5, B6, B7, B8, B9, B9Con, B10, B11, B12, B13, B14, B15, B16, B17, B18, B19}
use Rattle.meaning_atoms.specs.declared.loop_rows.LoopRow.{LoopRow}
use Rattle.meaning_atoms.specs.Literals.{affirmed, denied}
use Rattle.meaning_atoms.specs.Notions.{notion_clause}

-- what a closure has without rules: the set's members, or assumptions
abbrev pub given_atom : Closure → ℕ → Atom
given_atom Own x = Member x
given_atom Rest x = Asm x

-- ---- the loop clause

-- unless its ends are equal, that some rule which heads w has a number from i to just before j
abbrev pub filled_gap : ℕ → ℕ → ℕ → List AtomLit
filled_gap w i j = if i == j then [] else denied (HGap w i j) ∷ []

-- that some rule heads w whose number is i or more and is none of these
abbrev pub other_heads : ℕ → ℕ → List ℕ → List AtomLit
other_heads w i [] = filled_gap w i END
other_heads w i (r ∷ more) = filled_gap w i r ++ other_heads w (r + 1) more

-- that the atom is not in the rule's body, or, for 0, that the closure has the rule's whole body
abbrev pub pair_literal : Closure → ℕ × ℕ → AtomLit
pair_literal k p = if p.1 == 0 then denied (Miss k p.0 1) else denied (Body p.0 p.1)

abbrev pub row_literals : Closure → LoopRow → List AtomLit
row_literals k row = other_heads row.atom 1 (map (λ p. p.0) row.pairs) ++ map (pair_literal k) row.pairs

-- that x is not in the closure; or some atom of the rows is given; or some atom of the rows is headed by a rule beside its
-- pairs, or by one of theirs whose body is in the closure without the atom that stands beside it
abbrev pub loop_clause : Closure → ℕ → List LoopRow → List AtomLit
loop_clause k x rows =
    denied (Der k x) ∷ (map (λ row. affirmed (given_atom k row.atom)) rows ++ flat_map (row_literals k) rows)

-- ---- the table

abbrev pub aba_clause : AbaAxiom → List AtomLit
aba_clause (B1 a) = denied Cf ∷ denied (Member a) ∷ affirmed (Asm a) ∷ []
aba_clause (B2 a) = denied (Member a) ∷ affirmed (Der Own a) ∷ []
aba_clause (B3 a) = denied (Asm a) ∷ affirmed (Hit Own a 1) ∷ affirmed (Der Rest a) ∷ []
aba_clause (B4 k) = denied (Der k 0) ∷ []
aba_clause (B5 k r h) = denied (Head r h) ∷ affirmed (Miss k r 1) ∷ affirmed (Der k h) ∷ []
aba_clause (B6 k r x) = denied (Body r x) ∷ affirmed (Der k x) ∷ affirmed (Miss k r 1) ∷ []
aba_clause (B7 k r i j) =
    denied (Miss k r i) ∷ denied (BGap r i j) ∷ denied (Der k j) ∷ affirmed (Miss k r (j + 1)) ∷ []
aba_clause (B8 k r i) = denied (Miss k r i) ∷ denied (BGap r i END) ∷ []
aba_clause (B9 k x) = denied (Der k x) ∷ affirmed (given_atom k x) ∷ affirmed (Sup k x 1) ∷ []
aba_clause (B9Con a c) = denied (Der Rest a) ∷ denied (Con a c) ∷ denied (Der Own c) ∷ []
aba_clause (B10 k x i j) =
    denied (Sup k x i) ∷ denied (HGap x i j) ∷ denied (Miss k j 1) ∷ affirmed (Sup k x (j + 1)) ∷ []
aba_clause (B11 k x i) = denied (Sup k x i) ∷ denied (HGap x i END) ∷ []
aba_clause (B12 a c) = denied Cf ∷ denied (Con a c) ∷ denied (Member a) ∷ denied (Der Own c) ∷ []
aba_clause (B13 a c) = denied Ad ∷ denied (Con a c) ∷ denied (Member a) ∷ denied (Der Rest c) ∷ []
aba_clause (B14 a) = denied Co ∷ denied (Asm a) ∷ affirmed (Hit Rest a 1) ∷ affirmed (Member a) ∷ []
aba_clause (B15 a) = denied St ∷ denied (Asm a) ∷ affirmed (Member a) ∷ affirmed (Hit Own a 1) ∷ []
aba_clause (B16 part) = notion_clause part
aba_clause (B17 k x rows) = loop_clause k x rows
aba_clause (B18 k a i j) =
    denied (Hit k a i) ∷ denied (ConGap a i j) ∷ affirmed (Der k j) ∷ affirmed (Hit k a (j + 1)) ∷ []
aba_clause (B19 k a i) = denied (Hit k a i) ∷ denied (ConGap a i END) ∷ []
