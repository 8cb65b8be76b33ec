-- The table as literals over atoms get variables, and literals as they are read back.
use Rattle.std.proofs.Common.{◌≡◌, ℕ, ◌+◌, ◌<◌, ◌≤◌, List, [], ◌∷◌, ◌++◌, length, take, get_or, ap, sym, subst, ◌∙◌, refl, arith, ⊎_elim, false}
use Rattle.std.specs.Prelude.{Contains, filter, nat_lt}
use Rattle.std.proofs.lemmas.Bool.{lt-ltb}
use Rattle.std.proofs.lemmas.Bool.Decides.{nat_tests}
use Rattle.std.proofs.lemmas.List.{take_more, take_all, map-append, append-nil, append_assoc, length-append}
use Rattle.std.proofs.lemmas.List.Elements.{filter-append, Contains-get_or, Contains-append_cases}
use Rattle.lists.proofs.Filters.{filter_whole}
use Rattle.lists.proofs.Membership.{Contains-nil, Contains-cons_cases, Contains-pushed}
use Rattle.plain_lits.specs.declared.lit.Lit.{Lit}
use Rattle.plain_lits.specs.Checking.{HasRoomFor}
use Rattle.clause_watches.proofs.Fronts.{from_front, longer_front}
use Rattle.meaning_atoms.specs.declared.atom.Atom.{Atom}
use Rattle.meaning_atoms.specs.declared.atom.AtomLit.{AtomLit}
use Rattle.atom_solver.specs.Lifted.{lit_of, atoms_of}
use Rattle.atom_solver.specs.Tables.{Extends, AddsLits, has_atom, told}
use Rattle.atom_solver.proofs.Lifting.{atoms_grow}

-- ---- literals that are read back

told_more : (atoms : List Atom) (lits : List Lit) (i : ℕ) (l : Lit) → i < length lits → get_or lits i l ≡ l
    → told atoms (take (i + 1) lits) ≡ told atoms (take i lits) ++ told atoms (l ∷ [])
told_more atoms lits i l lt is =
    ap (told atoms) (take_more lits i l lt ∙ ap (λ x. take i lits ++ x ∷ []) is)
    ∙ (ap (atoms_of atoms) (filter-append (has_atom atoms) (take i lits) (l ∷ []))
    ∙ map-append (lit_of atoms) (filter (has_atom atoms) (take i lits)) (filter (has_atom atoms) (l ∷ [])))

pub told_yes : (atoms : List Atom) (lits : List Lit) (i : ℕ) (l : Lit) (old new : List AtomLit) → i < length lits
    → get_or lits i l ≡ l → l.var < length atoms → old ≡ told atoms (take i lits)
    → new ≡ old ++ lit_of atoms l ∷ [] → new ≡ told atoms (take (i + 1) lits)
told_yes atoms lits i l old new lt is known e f =
    let one : told atoms (l ∷ []) ≡ lit_of atoms l ∷ [] = rw (lt-ltb l.var (length atoms) known) refl in
    f ∙ (ap (λ xs. xs ++ lit_of atoms l ∷ []) e
    ∙ (ap (λ xs. told atoms (take i lits) ++ xs) (sym one) ∙ sym (told_more atoms lits i l lt is)))

pub told_no : (atoms : List Atom) (lits : List Lit) (i : ℕ) (l : Lit) (old : List AtomLit) → i < length lits
    → get_or lits i l ≡ l → length atoms ≤ l.var → old ≡ told atoms (take i lits)
    → old ≡ told atoms (take (i + 1) lits)
told_no atoms lits i l old lt is unknown e =
    let no : nat_lt l.var (length atoms) ≡ false = grind (arith, nat_tests) in
    let none : told atoms (l ∷ []) ≡ [] = rw no refl in
    e ∙ (sym (append-nil (told atoms (take i lits)))
    ∙ (ap (λ xs. told atoms (take i lits) ++ xs) (sym none) ∙ sym (told_more atoms lits i l lt is)))

-- all are read where all have atoms
pub told_whole : (atoms : List Atom) (clause : List Lit) → HasRoomFor (length atoms) clause
    → told atoms clause ≡ atoms_of atoms clause
told_whole atoms clause room = ap (atoms_of atoms) (filter_whole (has_atom atoms) clause
    (λ k d lt. lt-ltb (get_or clause k d).var (length atoms) (room (get_or clause k d) (Contains-get_or clause k d lt))))

-- ---- the table grows

pub extends_none : (literals : List AtomLit) (atoms : List Atom) → Extends literals atoms atoms
extends_none literals atoms = record {
  more = [];
  is = sym (append-nil atoms);
  about = λ atom c. absurd (Contains-nil atom c);
}

pub extends_wider : (some all : List AtomLit) (old new : List Atom)
    → ((l : AtomLit) → Contains some l → Contains all l) → Extends some old new → Extends all old new
extends_wider some all old new wider h = record {
  more = h.more;
  is = h.is;
  about = λ atom c.
      let a = h.about atom c in
      record { literal = a.literal; there = wider a.literal a.there; is = a.is };
}

pub extends_joined : (literals : List AtomLit) (a b c : List Atom) → Extends literals a b → Extends literals b c
    → Extends literals a c
extends_joined literals a b c h k = record {
  more = h.more ++ k.more;
  is = k.is ∙ (ap (λ xs. xs ++ k.more) h.is ∙ append_assoc a h.more k.more);
  about = λ atom there. ⊎_elim (h.about atom) (k.about atom) (Contains-append_cases h.more k.more atom there);
}

-- one literal of a list
one_there : (literals : List AtomLit) (i : ℕ) (literal : AtomLit) → i < length literals
    → get_or literals i literal ≡ literal → (l : AtomLit) → Contains (literal ∷ []) l
    → Contains (take (i + 1) literals) l
one_there literals i literal lt is l c =
    subst (λ xs. Contains xs l) (sym (take_more literals i literal lt))
    (Contains-pushed (take i literals) (get_or literals i literal) l
    (is ∙ ⊎_elim (λ e. e) (λ none. absurd (Contains-nil l none)) (Contains-cons_cases literal [] l c)))

pub extends_more : (literals : List AtomLit) (i : ℕ) (literal : AtomLit) (a b c : List Atom) → i < length literals
    → get_or literals i literal ≡ literal → Extends (take i literals) a b → Extends (literal ∷ []) b c
    → Extends (take (i + 1) literals) a c
extends_more literals i literal a b c lt is h k =
    extends_joined (take (i + 1) literals) a b c
    (extends_wider (take i literals) (take (i + 1) literals) a b
    (λ l there. longer_front i (i + 1) literals l (omega arith) there) h)
    (extends_wider (literal ∷ []) (take (i + 1) literals) b c (one_there literals i literal lt is) k)

pub extends_front : (literals : List AtomLit) (i : ℕ) (literal : AtomLit) (a b c : List Atom) → i < length literals
    → get_or literals i literal ≡ literal → Extends (take i literals) a b → Extends (literal ∷ []) b c
    → Extends literals a c
extends_front literals i literal a b c lt is h k =
    extends_wider (take (i + 1) literals) literals a c (λ l there. from_front (i + 1) literals l there)
    (extends_more literals i literal a b c lt is h k)

-- ---- and literals come

pub adds_none : (atoms : List Atom) (lits : List Lit) → AddsLits atoms [] lits lits
adds_none atoms lits = record {
  more = [];
  is = sym (append-nil lits);
  known = λ l c. absurd (Contains-nil l c);
  stand = refl;
}

pub adds_more : (literals : List AtomLit) (i : ℕ) (literal : AtomLit) (b c : List Atom) (first old new : List Lit)
    → i < length literals → get_or literals i literal ≡ literal → Extends (literal ∷ []) b c
    → AddsLits b (take i literals) first old → AddsLits c (literal ∷ []) old new
    → AddsLits c (take (i + 1) literals) first new
adds_more literals i literal b c first old new lt is grows h k =
    let long : length c ≡ length b + length grows.more = ap length grows.is ∙ length-append b grows.more in
    record {
      more = h.more ++ k.more;
      is = k.is ∙ (ap (λ xs. xs ++ k.more) h.is ∙ append_assoc first h.more k.more);
      known = λ l there. ⊎_elim (λ before. let lt = h.known l before in omega arith) (k.known l)
          (Contains-append_cases h.more k.more l there);
      stand = map-append (lit_of c) h.more k.more
          ∙ (ap (λ xs. xs ++ atoms_of c k.more)
          (ap (λ atoms. atoms_of atoms h.more) grows.is ∙ (atoms_grow b grows.more h.more h.known ∙ h.stand))
          ∙ (ap (λ xs. take i literals ++ xs) k.stand
          ∙ sym (take_more literals i literal lt ∙ ap (λ x. take i literals ++ x ∷ []) is)));
    }

-- all of them
pub adds_all : (atoms : List Atom) (literals : List AtomLit) (i : ℕ) (old new : List Lit) → length literals ≤ i
    → AddsLits atoms (take i literals) old new → AddsLits atoms literals old new
adds_all atoms literals i old new le h =
    subst (λ xs. AddsLits atoms xs old new) (take_all i literals le) h
