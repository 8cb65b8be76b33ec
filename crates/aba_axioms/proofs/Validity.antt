-- Every row of the table is true in every world of both kinds.
use Rattle.std.proofs.Common.{ℕ, List}
use Rattle.meaning_atoms.specs.semantics.specs.Frameworks.{Framework, af, aba}
use Rattle.meaning_atoms.specs.declared.atom.AtomLit.{AtomLit}
use Rattle.meaning_atoms.specs.declared.aba_axiom.AbaAxiom.{AbaAxiom}
use Rattle.meaning_atoms.specs.declared.aba_axiom.AbaAxiom.TheVariants.{B1, B2, B3, B4, B5, B6, B7, B8, B9, B9Con, B10, B11, B12, B13, B14, B15, B16, B17, B18, B19}
use Rattle.meaning_atoms.specs.AbaAxioms.{IsAbaAxiom}
use Rattle.meaning_atoms.specs.Worlds.{IsTrueBeside, IsValid, IsWorldOf}
use Rattle.meaning_atoms.proofs.NotionClauses.{IsValidOfAba, IsValidOfAf, notions_of_aba, notions_of_af}
use Rattle.aba_axioms.specs.AbaTable.{aba_clause}
use Rattle.aba_axioms.proofs.AbaWorlds.{
  bodies_are_missed,
  defended_are_members,
  derived_has_support,
  heads_follow,
  hit_ends,
  hit_steps,
  members_are_apart,
  members_are_assumptions,
  members_follow,
  miss_ends,
  miss_steps,
  nothing_is_no_atom,
  outsiders_are_attacked,
  rest_attacks_no_member,
  rest_is_quiet,
  rest_is_unattacked,
  support_ends,
  support_steps,
}
use Rattle.aba_axioms.proofs.AfWorlds.{b1, b2, b3, b4, b5, b6, b7, b8, b9, b9_con, b10, b11, b12, b13, b14, b15, b18, b19}
use Rattle.aba_axioms.proofs.LoopClauses.{loop_of_aba, loop_of_af}

-- the clause of each axiom, in the worlds of the one kind of framework and of the other
rows_of_both : (name : AbaAxiom) → IsAbaAxiom name → IsValidOfAba (aba_clause name) × IsValidOfAf (aba_clause name)
rows_of_both (B1 a) fits = (members_are_assumptions a, b1 a)
rows_of_both (B2 a) fits = (members_follow a, b2 a)
rows_of_both (B3 a) fits = (rest_is_unattacked a, b3 a)
rows_of_both (B4 k) fits = (nothing_is_no_atom k, b4 k)
rows_of_both (B5 k r h) fits = (heads_follow k r h, b5 k r h)
rows_of_both (B6 k r x) fits = (bodies_are_missed k r x, b6 k r x)
rows_of_both (B7 k r i j) fits = (miss_steps k r i j, b7 k r i j)
rows_of_both (B8 k r i) fits = (miss_ends k r i, b8 k r i)
rows_of_both (B9 k x) fits = (derived_has_support k x, b9 k x)
rows_of_both (B9Con a c) fits = (rest_is_quiet a c, b9_con a c)
rows_of_both (B10 k x i j) fits = (support_steps k x i j, b10 k x i j)
rows_of_both (B11 k x i) fits = (support_ends k x i, b11 k x i)
rows_of_both (B12 a c) fits = (members_are_apart a c, b12 a c)
rows_of_both (B13 a c) fits = (rest_attacks_no_member a c, b13 a c)
rows_of_both (B14 a) fits = (defended_are_members a, b14 a)
rows_of_both (B15 a) fits = (outsiders_are_attacked a, b15 a)
rows_of_both (B16 part) fits = (notions_of_aba part, notions_of_af part)
rows_of_both (B17 k x rows) fits = (loop_of_aba k x rows fits, loop_of_af k x rows fits)
rows_of_both (B18 k a i j) fits = (hit_steps k a i j, b18 k a i j)
rows_of_both (B19 k a i) fits = (hit_ends k a i, b19 k a i)

rows_of : (name : AbaAxiom) → IsAbaAxiom name → (f : Framework) (s : List ℕ) → IsWorldOf f s
    → (sides : List (List AtomLit)) → IsTrueBeside (record { framework = f; set = s }) sides (aba_clause name)
rows_of name fits (af f) s ok sides = (rows_of_both name fits).1 f s ok sides
rows_of name fits (aba f) s ok sides = (rows_of_both name fits).0 f s ok sides

pub clauses_are_valid : (name : AbaAxiom) → IsAbaAxiom name → IsValid (aba_clause name)
clauses_are_valid name fits w ok sides = rows_of name fits w.framework w.set ok sides
