-- No clause of an axiom, and no side clause, speaks of a side clause; the numbers of their literals are within bounds.
use Rattle.std.proofs.Common.{◌≡◌, ◌==◌, ℕ, Bool, true, false, List, refl, sym, subst, arith}
use Rattle.std.specs.List.{list_all}
use Rattle.std.specs.Prelude.{Contains}
use Rattle.std.proofs.lemmas.Bool.{cond_both}
use Rattle.std.proofs.lemmas.List.Elements.{All-contains}
use Rattle.semantics.specs.Arguments.{IsArgument}
use Rattle.semantics.specs.Frameworks.{Framework, af, aba}
use Rattle.meaning_atoms.specs.declared.atom.Atom.{Atom}
use Rattle.meaning_atoms.specs.declared.atom.Atom.TheVariants.{Member, Range, Tail, Hit, Ask}
use Rattle.meaning_atoms.specs.declared.atom.Closure.TheVariants.{Own}
use Rattle.meaning_atoms.specs.Atoms.{IsAtom, IsLit, IsPosition}
use Rattle.meaning_atoms.specs.Worlds.{IsAsk}
use Rattle.oracle_face.specs.af_axioms.proofs.Literals.{rows_fit}
use Rattle.oracle_face.specs.AbaNeeded.{IsNeededOfAba}
use Rattle.oracle_face.specs.Goals.{IsSide, Tells}
use Rattle.oracle_face.specs.Logs.{is_loop}
use Rattle.oracle_face.specs.Needed.{IsNeeded}
use Rattle.semantics.specs.AbaFrameworks.{Aba}
use Rattle.meaning_atoms.specs.declared.aba_axiom.AbaAxiom.{AbaAxiom}
use Rattle.meaning_atoms.specs.declared.aba_axiom.AbaAxiom.TheVariants.{B1, B2, B3, B4, B5, B6, B7, B8, B9, B9Con, B10, B11, B12, B13, B14, B15, B16, B17}
use Rattle.meaning_atoms.specs.declared.atom.AtomLit.{AtomLit}
use Rattle.meaning_atoms.specs.declared.axiom.AfAxiom.{AfAxiom}
use Rattle.meaning_atoms.specs.declared.axiom.AfAxiom.TheVariants.{A1, A2, A3, A4, A5, A6, A7, A8, A9, A10, A11, A12}
use Rattle.meaning_atoms.specs.declared.axiom.AfAxiom.TheVariants.{A13, A14}
use Rattle.meaning_atoms.specs.declared.axiom.AxiomName.{AxiomName}
use Rattle.meaning_atoms.specs.declared.axiom.AxiomName.TheVariants.{Af as OfAf, Aba as OfAba}
use Rattle.meaning_atoms.specs.Literals.{AsksNothing, not_ask}
use Rattle.meaning_atoms.proofs.Clauses.{asks_nothing}
use Rattle.meaning_atoms.specs.Notions.{notion_clause}
use Rattle.oracle_face.specs.af_axioms.specs.Table.{table_clause}
use Rattle.oracle_face.specs.aba_axioms.specs.AbaTable.{aba_clause}
use Rattle.oracle_face.specs.aba_axioms.proofs.Bounds.{rows_fit as aba_rows_fit, asks_nothing as aba_asks_nothing}
use Rattle.oracle_face.specs.certificate_claims.specs.Refutations.{IsAxiomOf, axiom_clause}

abbrev PassesTest : List AtomLit → Type 0
PassesTest clause = list_all (λ (l : AtomLit). not_ask l.atom) clause ≡ true

notion_plain : (part : ℕ) → PassesTest (notion_clause part)
notion_plain part =
    cond_both (part == 1) _ _ PassesTest (λ _. refl)
    (λ _. cond_both (part == 2) _ _ PassesTest (λ _. refl) (λ _. refl))

row_plain : (name : AfAxiom) → PassesTest (table_clause name)
row_plain (A1 a) = refl
row_plain (A2 b a) = refl
row_plain (A3 b a) = refl
row_plain (A4 b a) = refl
row_plain (A5 a i j) = refl
row_plain (A6 a i) = refl
row_plain (A7 a) = refl
row_plain (A8 a i j) = refl
row_plain (A9 a i) = refl
row_plain (A10 a) = refl
row_plain (A11 a) = refl
row_plain (A12 a) = refl
row_plain (A13 a) = refl
row_plain (A14 part) = notion_plain part

pub axiom_plain : (name : AxiomName) → AsksNothing (axiom_clause name)
axiom_plain (OfAf name) = asks_nothing (table_clause name) (row_plain name)
axiom_plain (OfAba name) = λ l c.
    All-contains (λ (literal : AtomLit). ¬ IsAsk literal.atom) (aba_clause name) l (aba_asks_nothing name) c

pub axiom_within : (f : Framework) (name : AxiomName) → IsAxiomOf f name → (l : AtomLit)
    → Contains (axiom_clause name) l → IsLit l
axiom_within (af f) (OfAf name) is l c = All-contains IsLit (table_clause name) l (rows_fit name is) c
axiom_within (af f) (OfAba name) is l c = absurd is
axiom_within (aba f) (OfAf name) is l c = absurd is
axiom_within (aba f) (OfAba name) is l c = All-contains IsLit (aba_clause name) l (aba_rows_fit name is) c

-- ---- loop clauses

needed_of_aba : (f : Aba) (name : AbaAxiom) → IsNeededOfAba f name → is_loop (OfAba name) ≡ false
needed_of_aba f (B17 k x rows) needed = absurd needed
needed_of_aba f _ needed = refl

-- no axiom that a search needs is a loop clause
pub needed_no_loop : (f : Framework) (name : AxiomName) → IsNeeded f name → is_loop name ≡ false
needed_no_loop f (OfAf name) needed = refl
needed_no_loop (af f) (OfAba name) needed = absurd needed
needed_no_loop (aba f) (OfAba name) needed = needed_of_aba f name needed

tells_no_ask : (P : ℕ → Type 0) (atom : Atom) (positive : Bool) → Tells P atom positive → IsAsk atom → ⊥
tells_no_ask P (Ask n) positive tells ask = tells
tells_no_ask P _ positive tells ask = ask

pub side_plain : (side : List AtomLit) → IsSide side → AsksNothing side
side_plain side is l c ask = tells_no_ask IsArgument l.atom l.positive (is.tells l c) ask

tells_within : (atom : Atom) (positive : Bool) → Tells IsArgument atom positive → IsAtom atom
tells_within (Member a) positive tells = tells
tells_within (Range a) true tells = tells
tells_within (Tail a i) true tells =
    (tells.0, subst (λ (n : ℕ). IsPosition n) (sym tells.1) (record { low = omega arith; high = omega arith }))
tells_within (Hit Own a i) true tells =
    (tells.0, subst (λ (n : ℕ). IsPosition n) (sym tells.1) (record { low = omega arith; high = omega arith }))
tells_within _ positive tells = absurd tells

pub side_within : (side : List AtomLit) → IsSide side → (l : AtomLit) → Contains side l → IsLit l
side_within side is l c = tells_within l.atom l.positive (is.tells l c)
