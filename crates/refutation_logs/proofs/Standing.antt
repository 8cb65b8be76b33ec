-- Clauses over variables that stand for clauses over atoms.
use Rattle.std.proofs.Common.{◌≡◌, ℕ, ◌+◌, ◌-◌, ◌<◌, Bool, true, false, List, [], ◌∷◌, ◌++◌, length, get_or, map, take, Result, Ok, Err, arith, refl, ap, sym, subst, ◌∙◌, ⊎_elim, append_assoc}
use Rattle.std.specs.Prelude.{Contains, Some, slice_get, if◌then◌else◌}
use Rattle.std.specs.List.{list_any}
use Rattle.std.proofs.Math.ListN.{get_or-append}
use Rattle.std.proofs.lemmas.Bool.{cases_order, true≢false}
use Rattle.std.proofs.lemmas.List.{append-nil, length-append, take_more}
use Rattle.std.proofs.lemmas.List.Elements.{Contains-append_left, Contains-push_cases}
use Rattle.std.proofs.lemmas.List.Sums.{fold_more}
use Rattle.std.proofs.lemmas.Option.{get_or_from_slice_get, slice_get_cases, none-some}
use Rattle.lists.proofs.ListTests.{any_from, any_gives}
use Rattle.lists.proofs.Membership.{Contains-nil, Contains-pushed}
use Rattle.plain_lits.specs.declared.lit.Lit.{Lit}
use Rattle.plain_lits.specs.Literals.{negation, IsClauseOf}
use Rattle.plain_lits.specs.HintCheck.{Checks}
use Rattle.plain_lits.specs.CheckLaws.{Renames, IsImage, IsMovedCheck}
use Rattle.plain_lits.proofs.OneOutcome.{one_outcome}
use Rattle.plain_lits.proofs.Renaming.{checks_moved}
use Rattle.plain_lits.proofs.LitOrder.{lit_same}
use Rattle.meaning_atoms.specs.declared.atom.Atom.{Atom}
use Rattle.meaning_atoms.specs.declared.atom.Atom.TheVariants.{Ad}
use Rattle.meaning_atoms.specs.declared.atom.AtomLit.{AtomLit}
use Rattle.meaning_atoms.specs.Literals.{negated}
use Rattle.meaning_atoms.specs.contracts.atom.AtomPartialEq.TheImpl.{eq-value as atom_eq}
use Rattle.meaning_atoms.proofs.SameAtoms.{atom_decides, same_literal}
use Rattle.atom_table.specs.Numbering.{AreDifferent, Numbers}
use Rattle.clause_bench.specs.Benches.{HasGrown, lit_over}
use Rattle.refutation_logs.specs.Variables.{AreStanding, IsKnown, IsShown, StandsFor, with_atom, with_atoms}

-- ---- more atoms

grown_by : (atoms : List Atom) (l : AtomLit) (there : Bool)
    → HasGrown atoms (if there then atoms else atoms ++ l.atom ∷ [])
grown_by atoms l true = ([], sym (append-nil atoms))
grown_by atoms l false = (l.atom ∷ [], refl)

grown_twice : (a b c : List Atom) → HasGrown a b → HasGrown b c → HasGrown a c
grown_twice a b c g h = (g.0 ++ h.0, h.1 ∙ (ap (λ xs. xs ++ h.0) g.1 ∙ append_assoc a g.0 h.0))

pub atoms_grown : (atoms : List Atom) (clause : List AtomLit) → HasGrown atoms (with_atoms atoms clause)
atoms_grown atoms [] = ([], sym (append-nil atoms))
atoms_grown atoms (l ∷ ls) =
    grown_twice atoms (with_atom atoms l) (with_atoms (with_atom atoms l) ls)
    (grown_by atoms l (list_any (λ a. (atom_eq).it l.atom a) atoms)) (atoms_grown (with_atom atoms l) ls)

known_grown : (old new : List Atom) (l : Lit) → HasGrown old new → IsKnown old l → IsKnown new l
known_grown old new l grown known = let e = grown.1 in rw e (omega (arith, known, length-append old grown.0))

lit_grown : (old new : List Atom) (l : Lit) → HasGrown old new → IsKnown old l → lit_over new l ≡ lit_over old l
lit_grown old new l grown known =
    ap (λ a. record { atom = a; positive = l.positive })
    (ap (λ xs. get_or xs l.var Ad) grown.1 ∙ get_or-append old grown.0 Ad l.var known)

image_grown : (old new : List Atom) (given : List AtomLit) (clause : List Lit) → HasGrown old new
    → IsImage (lit_over old) (IsKnown old) clause given → IsImage (lit_over new) (IsKnown new) clause given
image_grown old new given clause grown h = record {
  within = λ l c. known_grown old new l grown (h.within l c);
  there = λ l c. subst (λ m. Contains given m) (sym (lit_grown old new l grown (h.within l c))) (h.there l c);
  back = λ m c. let w = h.back m c in (w.0, w.1, lit_grown old new w.0 grown (h.within w.0 w.1) ∙ w.2);
}

pub stands_grown : (old new : List Atom) (given : List AtomLit) (clause : List Lit) → HasGrown old new
    → StandsFor old given clause → StandsFor new given clause
stands_grown old new given clause grown h =
    record { rises = h.rises; image = image_grown old new given clause grown h.image }

-- ---- spelling

known_at : (atoms : List Atom) (atom : Atom) (var : ℕ) → slice_get atoms var ≡ Some atom → var < length atoms
known_at atoms atom var at =
    ⊎_elim (λ found. found.1) (λ none. absurd (none-some atom (sym none.1 ∙ at))) (slice_get_cases atoms var).1

there_at : (atoms : List Atom) (atom : Atom) (var : ℕ) → slice_get atoms var ≡ Some atom → Contains atoms atom
there_at atoms atom var at = (var, known_at atoms atom var at, get_or_from_slice_get atoms var atom atom at)

there_from : (atoms : List Atom) (atom : Atom) → list_any (λ a. (atom_eq).it atom a) atoms ≡ true
    → Contains atoms atom
there_from atoms atom e =
    let w = any_gives (λ a. (atom_eq).it atom a) atoms e in
    subst (λ a. Contains atoms a) (sym ((atom_decides atom w.0).0 w.2)) w.1

numbered_by : (old new : List Atom) (l : AtomLit) (var : ℕ) (there : Bool) → Numbers old new l.atom var
    → list_any (λ a. (atom_eq).it l.atom a) old ≡ there → new ≡ (if there then old else old ++ l.atom ∷ [])
numbered_by old new l var true n e =
    ⊎_elim (λ same. same) (λ more. absurd (more.0 (there_from old l.atom e))) n.grown
numbered_by old new l var false n e =
    ⊎_elim
    (λ same. absurd (true≢false (sym (any_from (λ a. (atom_eq).it l.atom a) old l.atom
    (subst (λ xs. Contains xs l.atom) same (there_at new l.atom var n.at)) ((atom_decides l.atom l.atom).1 refl)) ∙ e)))
    (λ more. more.1) n.grown

numbered_with : (old new : List Atom) (l : AtomLit) (var : ℕ) → Numbers old new l.atom var → new ≡ with_atom old l
numbered_with old new l var n = numbered_by old new l var (list_any (λ a. (atom_eq).it l.atom a) old) n refl

numbers_grown : (old new : List Atom) (l : AtomLit) (var : ℕ) → Numbers old new l.atom var → HasGrown old new
numbers_grown old new l var n =
    ⊎_elim (λ e. ([], e ∙ sym (append-nil old))) (λ more. (l.atom ∷ [], more.1)) n.grown

image_next : (old new : List Atom) (before : List Lit) (front : List AtomLit) (l : AtomLit) (var : ℕ)
    → IsImage (lit_over old) (IsKnown old) before front → Numbers old new l.atom var
    → IsImage (lit_over new) (IsKnown new) (before ++ record { var = var; positive = l.positive } ∷ [])
    (front ++ l ∷ [])
image_next old new before front l var h n =
    let lit : Lit = record { var = var; positive = l.positive } in
    let known : IsKnown new lit = known_at new l.atom var n.at in
    let read : lit_over new lit ≡ l
    = ap (λ a. record { atom = a; positive = l.positive }) (get_or_from_slice_get new var l.atom Ad n.at) in
    let up = image_grown old new front before (numbers_grown old new l var n) h in
    record {
      within = λ x c. ⊎_elim (λ k. up.within x k) (λ (e : lit ≡ x). subst (λ y. IsKnown new y) e known)
          (Contains-push_cases before lit x c);
      there = λ x c. ⊎_elim (λ k. Contains-append_left front (l ∷ []) (lit_over new x) (up.there x k))
          (λ (e : lit ≡ x). Contains-pushed front l (lit_over new x) (sym read ∙ ap (lit_over new) e))
          (Contains-push_cases before lit x c);
      back = λ m c. ⊎_elim
          (λ k. let w = up.back m k in (w.0, Contains-append_left before (lit ∷ []) w.0 w.1, w.2))
          (λ (e : l ≡ m). (lit, Contains-pushed before lit lit refl, read ∙ e)) (Contains-push_cases front l m c);
    }

pub spelled_none : (atoms : List Atom) (lits : List Lit) → lits ≡ []
    → IsImage (lit_over atoms) (IsKnown atoms) lits []
spelled_none atoms lits e = rw e (record {
  within = λ l c. absurd (Contains-nil l c);
  there = λ l c. absurd (Contains-nil l c);
  back = λ m c. absurd (Contains-nil m c);
})

pub spelled_next : (old new : List Atom) (before after : List Lit) (clause : List AtomLit) (i : ℕ) (d : AtomLit)
    (var : ℕ)
    → i < length clause → IsImage (lit_over old) (IsKnown old) before (take i clause)
    → Numbers old new (get_or clause i d).atom var
    → after ≡ before ++ record { var = var; positive = (get_or clause i d).positive } ∷ []
    → IsImage (lit_over new) (IsKnown new) after (take (i + 1) clause)
spelled_next old new before after clause i d var lt h n e =
    let l = get_or clause i d in
    subst (λ x. IsImage (lit_over new) (IsKnown new) x (take (i + 1) clause)) (sym e)
    (subst (λ x. IsImage (lit_over new) (IsKnown new) (before ++ record { var = var; positive = l.positive } ∷ []) x)
    (sym (take_more clause i d lt)) (image_next old new before (take i clause) l var h n))

pub appeared_next : (first old new : List Atom) (clause : List AtomLit) (i : ℕ) (d : AtomLit) (var : ℕ)
    → i < length clause → old ≡ with_atoms first (take i clause) → Numbers old new (get_or clause i d).atom var
    → new ≡ with_atoms first (take (i + 1) clause)
appeared_next first old new clause i d var lt is n =
    numbered_with old new (get_or clause i d) var n
    ∙ (ap (λ xs. with_atom xs (get_or clause i d)) is ∙ sym (fold_more with_atom first clause i d lt))

-- the literals in order, each once
pub stands_from : (atoms : List Atom) (given : List AtomLit) (lits sorted clause : List Lit)
    → IsImage (lit_over atoms) (IsKnown atoms) lits given → sorted ≡ lits → IsClauseOf sorted clause
    → StandsFor atoms given clause
stands_from atoms given lits sorted clause h e is =
    let of : IsClauseOf lits clause = subst (λ x. IsClauseOf x clause) e is in record {
      rises = of.rises;
      image = record {
        within = λ l c. h.within l ((of.members l).0 c);
        there = λ l c. h.there l ((of.members l).0 c);
        back = λ m c. let w = h.back m c in (w.0, (of.members w.0).1 w.1, w.2);
      };
    }

-- ---- the check

different_vars : (atoms : List Atom) (v w : ℕ) → AreDifferent atoms → v < length atoms → w < length atoms
    → get_or atoms v Ad ≡ get_or atoms w Ad → v ≡ w
different_vars atoms v w different lt lt' e =
    ⊎_elim (λ same. same) (λ ne. ⊎_elim (λ below. absurd (different v w Ad below lt' e))
    (λ above. absurd (different w v Ad above lt (sym e))) ne) (cases_order v w)

pub over_renames : (atoms : List Atom) → AreDifferent atoms → Renames negation negated (lit_over atoms) (IsKnown atoms)
over_renames atoms different = record {
  closed = λ l known. known;
  negates = λ l known. refl;
  apart = λ a b known known' e. lit_same a b
      (different_vars atoms a.var b.var different known known' (ap (λ l. l.atom) e)) (ap (λ l. l.positive) e);
}

map_itself : (xs : List ℕ) → map (λ x. x) xs ≡ xs
map_itself [] = refl
map_itself (x ∷ xs) = ap (λ r. x ∷ r) (map_itself xs)

-- a check of clauses that stand for others is one of these
pub over_atoms : (atoms : List Atom) (clauses : List (List AtomLit)) (logged : List (List Lit))
    (literals : List AtomLit) (clause : List Lit) (hints : List ℕ) (outcome : Result ℕ ℕ) → AreDifferent atoms
    → AreStanding atoms clauses logged → StandsFor atoms literals clause → Checks negation logged clause hints outcome
    → Checks negated clauses literals hints outcome
over_atoms atoms clauses logged literals clause hints outcome different standing stands h =
    let long = standing.long in
    let moved : IsMovedCheck (lit_over atoms) (IsKnown atoms) (λ x. x) logged clauses clause literals hints = record {
      clause_image = stands.image;
      each = λ hint c. record {
        named = (
          λ n. let low = n.from_one in let high = n.within in
              record { from_one = low; within = omega (arith, long, high) },
          λ n. let low = n.from_one in let high = n.within in
              record { from_one = low; within = omega (arith, long, high) },
        );
        image = λ n. let low = n.from_one in let high = n.within in
            (standing.each (hint - 1) (omega (arith, long, low, high))).image;
      };
    } in
    subst (λ x. Checks negated clauses literals x outcome) (map_itself hints)
    (checks_moved negation negated (lit_over atoms) (IsKnown atoms) (over_renames atoms different) (λ x. x) logged
    clauses clause literals hints moved outcome h)

pub standing_grown : (old new : List Atom) (clauses : List (List AtomLit)) (logged : List (List Lit))
    → HasGrown old new → AreStanding old clauses logged → AreStanding new clauses logged
standing_grown old new clauses logged grown h = record {
  long = h.long;
  each = λ k lt. stands_grown old new (get_or clauses k []) (get_or logged k []) grown (h.each k lt);
}

ok_not_err : {A B : Type 0} (a : A) (b : B) → Ok a ≡ Err b → ⊥
ok_not_err a b e = cc

-- what the check takes over atoms it doesn't reject over variables
pub never_rejected : (old atoms : List Atom) (logged : List (List Lit)) (literals : List AtomLit) (clause : List Lit)
    (hints steps : List ℕ) (place : ℕ) → AreDifferent atoms → atoms ≡ with_atoms old literals
    → IsShown old logged literals hints → StandsFor atoms literals clause → steps ≡ hints
    → Checks negation logged clause steps (Err place) → ⊥
never_rejected old atoms logged literals clause hints steps place different appearance shown stands same h =
    let grown : HasGrown old atoms = subst (λ xs. HasGrown old xs) (sym appearance) (atoms_grown old literals) in
    let there : Checks negation logged clause hints (Err place)
    = subst (λ x. Checks negation logged clause x (Err place)) same h in
    ok_not_err shown.count place
    ((one_outcome negated same_literal shown.clauses literals hints).one (Ok shown.count) (Err place) shown.taken
    (over_atoms atoms shown.clauses logged literals clause hints (Err place) different
    (standing_grown old atoms shown.clauses logged grown shown.standing) stands there))
