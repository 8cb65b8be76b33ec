-- What is assumed: facts, and then goals.
use Rattle.std.proofs.Common.{◌≡◌, ℕ, ◌+◌, ◌-◌, ◌<◌, List, [], ◌∷◌, ◌++◌, length, get_or, ap, sym, subst, ◌∙◌, refl, arith, inl, inr, ⊎_elim, Bool, true, false, not}
use Rattle.std.specs.Prelude.{Contains, slice_get, Some}
use Rattle.std.proofs.lemmas.Bool.{cases_lt, false≢true}
use Rattle.std.proofs.lemmas.Option.{get_or_from_slice_get, slice_get_within}
use Rattle.std.proofs.lemmas.List.{length-append, get_or_append_left, get_or-append_right}
use Rattle.std.proofs.lemmas.List.Elements.{Contains-append_left, Contains-append_right, Contains-append_cases, Contains-push_cases, Contains-push, Contains-get_or}
use Rattle.lists.proofs.Membership.{Contains-nil}
use Rattle.plain_lits.specs.declared.lit.Lit.{Lit}
use Rattle.plain_lits.specs.Literals.{negation}
use Rattle.plain_lits.specs.HintCheck.{IsTautology}
use Rattle.semantics.specs.Frameworks.{Framework}
use Rattle.meaning_atoms.specs.declared.atom.Atom.{Atom}
use Rattle.meaning_atoms.specs.declared.atom.Atom.TheVariants.{Cf}
use Rattle.meaning_atoms.specs.declared.atom.AtomLit.{AtomLit}
use Rattle.meaning_atoms.specs.Literals.{negated}
use Rattle.meaning_atoms.specs.Worlds.{IsFact}
use Rattle.af_axioms.specs.Facts.{IsFactValue}
use Rattle.atom_solver.specs.Searches.{AreUnfixed}
use Rattle.atom_solver.specs.Assumed.{of_var, IsFactAssumed, AreFacts, AreAssumed, AreNear, AreSomeFacts}
use Rattle.atom_solver.specs.Lifted.{atom_at, lit_of}
use Rattle.atom_solver.specs.Tables.{Extends, AddsLits}
use Rattle.lists.proofs.Images.{image_there, image_from}

pub facts_none : (f : Framework) (atoms : List Atom) → AreFacts f atoms 0 []
facts_none f atoms = record {
  each = λ var lt fact. absurd (omega arith);
  known = λ l c. absurd (Contains-nil l c);
  only = λ l c. absurd (Contains-nil l c);
}

-- a variable that stands for a fact, and one that doesn't
pub facts_yes : (f : Framework) (atoms : List Atom) (var : ℕ) (value : Bool) (old new : List Lit)
    → IsFactValue f (atom_at atoms var) value → new ≡ old ++ of_var var value ∷ [] → AreFacts f atoms var old
    → AreFacts f atoms (var + 1) new
facts_yes f atoms var value old new so e h = subst (AreFacts f atoms (var + 1)) (sym e) (record {
  each = λ v lt fact. ⊎_elim
      (λ early.
      let w = h.each v early fact in
      record {
        value = w.value;
        there = Contains-append_left old (of_var var value ∷ []) (of_var v w.value) w.there;
        so = w.so;
      })
      (λ late.
      let is : var ≡ v = omega arith in
      subst (λ i. IsFactAssumed f atoms (old ++ of_var var value ∷ []) i) is
      (record { value = value; there = Contains-push old (of_var var value); so = so }))
      (cases_lt v var);
  known = λ l c. ⊎_elim (λ early. let lt = h.known l early in omega arith)
      (λ (e : of_var var value ≡ l). let same = ap (λ (x : Lit). x.var) e in omega arith)
      (Contains-push_cases old (of_var var value) l c);
  only = λ l c. ⊎_elim (h.only l)
      (λ e. subst (λ (x : Lit). IsFactValue f (atom_at atoms x.var) x.positive) e so)
      (Contains-push_cases old (of_var var value) l c);
})

pub facts_no : (f : Framework) (atoms : List Atom) (var : ℕ) (assumed : List Lit) → ¬ IsFact f (atom_at atoms var)
    → AreFacts f atoms var assumed → AreFacts f atoms (var + 1) assumed
facts_no f atoms var assumed none h = record {
  each = λ v lt fact. ⊎_elim (λ early. h.each v early fact)
      (λ late.
      let is : v ≡ var = omega arith in
      absurd (none (subst (λ i. IsFact f (atom_at atoms i)) is fact)))
      (cases_lt v var);
  known = λ l c. let lt = h.known l c in omega arith;
  only = h.only;
}

-- the atom of a variable, as the table gives it
pub atom_there : (atoms : List Atom) (var : ℕ) (atom : Atom) → slice_get atoms var ≡ Some atom
    → atom ≡ atom_at atoms var
atom_there atoms var atom e = sym (get_or_from_slice_get atoms var atom Cf e)

-- goals behind the facts
pub are_assumed : (f : Framework) (old new : List Atom) (goals : List AtomLit) (facts assumed : List Lit)
    → AreUnfixed f goals → AreFacts f old (length old) facts → Extends goals old new → AddsLits new goals facts assumed
    → AreAssumed f new goals assumed
are_assumed f old new goals facts assumed unfixed h grows adds =
    let long : length new ≡ length old + length grows.more = ap length grows.is ∙ length-append old grows.more in
    let same : (v : ℕ) → v < length old → atom_at new v ≡ atom_at old v =
    λ v lt. ap (λ atoms. atom_at atoms v) grows.is ∙ get_or_append_left old grows.more Cf v lt in
    record {
      facts = λ v lt fact. ⊎_elim
          (λ early.
          let w = h.each v early (subst (λ a. IsFact f a) (same v early) fact) in
          record {
            value = w.value;
            there = subst (λ xs. Contains xs (of_var v w.value)) (sym adds.is)
                (Contains-append_left facts adds.more (of_var v w.value) w.there);
            so = subst (λ a. IsFactValue f a w.value) (sym (same v early)) w.so;
          })
          (λ late.
          let at : atom_at new v ≡ get_or grows.more (v - length old) Cf =
          ap (λ atoms. atom_at atoms v) grows.is
          ∙ get_or-append_right old grows.more (length old) v Cf refl late in
          let a = grows.about (get_or grows.more (v - length old) Cf)
          (Contains-get_or grows.more (v - length old) Cf (omega arith)) in
          absurd (unfixed.each a.literal a.there (subst (λ x. IsFact f x) (at ∙ sym a.is) fact)))
          (cases_lt v (length old));
      known = λ l c. ⊎_elim (λ fact. let lt = h.known l fact in omega arith) (adds.known l)
          (Contains-append_cases facts adds.more l (subst (λ xs. Contains xs l) adds.is c));
      only = λ l c. ⊎_elim
          (λ fact. inl (subst (λ a. IsFactValue f a l.positive) (sym (same l.var (h.known l fact))) (h.only l fact)))
          (λ goal. inr (subst (λ xs. Contains xs (lit_of new l)) adds.stand
          (image_there (lit_of new) adds.more l goal)))
          (Contains-append_cases facts adds.more l (subst (λ xs. Contains xs l) adds.is c));
      met = λ goal c.
          let w = image_from (lit_of new) adds.more goal
          (subst (λ xs. Contains xs goal) (sym adds.stand) c) in
          (w.0, subst (λ xs. Contains xs w.0) (sym adds.is) (Contains-append_right facts adds.more w.0 w.1), w.2);
    }

-- a fact isn't both
not_both : (f : Framework) (atom : Atom) (p : Bool) → IsFactValue f atom p → IsFactValue f atom (not p) → ⊥
not_both f atom true h k = false≢true ((k.reading [] []).1 ((h.reading [] []).0 refl))
not_both f atom false h k = false≢true ((h.reading [] []).1 ((k.reading [] []).0 refl))

pub assumed_plain : (f : Framework) (atoms : List Atom) (goals : List AtomLit) (assumed : List Lit)
    → AreUnfixed f goals → (IsTautology negated goals → ⊥) → AreNear f atoms goals assumed → (l : Lit)
    → Contains assumed l → Contains assumed (negation l) → ⊥
assumed_plain f atoms goals assumed unfixed plain are l c n =
    ⊎_elim
    (λ fact. ⊎_elim (λ other. not_both f (atom_at atoms l.var) l.positive fact other)
    (λ goal. unfixed.each (lit_of atoms (negation l)) goal fact.fact) (are.only (negation l) n))
    (λ goal. ⊎_elim (λ other. unfixed.each (lit_of atoms l) goal other.fact)
    (λ again. plain (lit_of atoms l, goal, again)) (are.only (negation l) n))
    (are.only l c)

-- ---- what is near

pub some_facts_none : (f : Framework) (atoms : List Atom) → AreSomeFacts f atoms []
some_facts_none f atoms = record {
  known = λ l c. absurd (Contains-nil l c);
  only = λ l c. absurd (Contains-nil l c);
}

pub some_facts_more : (f : Framework) (atoms : List Atom) (atom : Atom) (var : ℕ) (value : Bool) (old new : List Lit)
    → slice_get atoms var ≡ Some atom → IsFactValue f atom value → new ≡ old ++ of_var var value ∷ []
    → AreSomeFacts f atoms old → AreSomeFacts f atoms new
some_facts_more f atoms atom var value old new at so e h = subst (AreSomeFacts f atoms) (sym e) (record {
  known = λ l c. ⊎_elim (h.known l)
      (λ (same : of_var var value ≡ l). subst (λ (x : Lit). x.var < length atoms) same
      (slice_get_within atoms var atom at))
      (Contains-push_cases old (of_var var value) l c);
  only = λ l c. ⊎_elim (h.only l)
      (λ same. subst (λ (x : Lit). IsFactValue f (atom_at atoms x.var) x.positive) same
      (subst (λ a. IsFactValue f a value) (atom_there atoms var atom at) so))
      (Contains-push_cases old (of_var var value) l c);
})

-- goals behind some facts
pub are_near : (f : Framework) (old new : List Atom) (goals : List AtomLit) (facts assumed : List Lit)
    → AreSomeFacts f old facts → Extends goals old new → AddsLits new goals facts assumed → AreNear f new goals assumed
are_near f old new goals facts assumed h grows adds = record {
  only = λ l c. ⊎_elim
      (λ fact.
      let same : atom_at new l.var ≡ atom_at old l.var =
      ap (λ atoms. atom_at atoms l.var) grows.is ∙ get_or_append_left old grows.more Cf l.var (h.known l fact) in
      inl (subst (λ a. IsFactValue f a l.positive) (sym same) (h.only l fact)))
      (λ goal. inr (subst (λ xs. Contains xs (lit_of new l)) adds.stand
      (image_there (lit_of new) adds.more l goal)))
      (Contains-append_cases facts adds.more l (subst (λ xs. Contains xs l) adds.is c));
}
