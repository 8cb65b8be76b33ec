-- The numbers of which literals affirm an atom.
use Rattle.std.proofs.Common.{◌≡◌, ◌⊎◌, ℕ, Bool, true, List, [], ◌∷◌, ap, sym, refl, subst}
use Rattle.std.proofs.Common.{inl, inr, ⊎_elim}
use Rattle.std.specs.Prelude.{Contains, ◌↔◌, Option, Some, None, filter_map}
use Rattle.std.specs.List.{cons_option}
use Rattle.lists.specs.Members.{IsSetOf}
use Rattle.lists.proofs.Membership.{Contains-nil, Contains-head, Contains-tail, Contains-cons_cases}
use Rattle.semantics.proofs.Decided.{decide_member}
use Rattle.meaning_atoms.specs.declared.atom.Atom.{Atom}
use Rattle.meaning_atoms.specs.declared.atom.Atom.TheVariants.{Member, Live, Asm, Der}
use Rattle.meaning_atoms.specs.declared.atom.AtomLit.{AtomLit}
use Rattle.meaning_atoms.specs.Literals.{affirmed}
use Rattle.oracle_face.specs.Decoding.{IsDecoded}
use Rattle.meaning_atoms.specs.declared.atom.Closure.TheVariants.{Own, Rest}
use Rattle.af_encoding.specs.Decoded.{Affirms}
use Rattle.af_encoding.specs.declared.affirming.NumberAtom.{NumberAtom}
use Rattle.af_encoding.specs.declared.affirming.NumberAtom.TheVariants.{Membership, Argument, Assumption, OwnDerived, RestDerived}
use Rattle.af_encoding.specs.NumberAtoms.{atom_of, number_at, number_in}

cons_cases : {Y : Type 0} (o : Option Y) (ys : List Y) (y : Y)
    → Contains (cons_option o ys) y ↔ ((o ≡ Some y) ⊎ Contains ys y)
cons_cases None ys y = (λ c. inr c, λ h. ⊎_elim (λ e. absurd (cc)) (λ c. c) h)
cons_cases (Some x) ys y = (
  λ c. ⊎_elim (λ e. inl (ap Some e)) (λ t. inr t) (Contains-cons_cases x ys y c),
  λ h. ⊎_elim (λ e. let same : x ≡ y = cc in Contains-head x ys y same) (λ c. Contains-tail x ys y c) h,
)

-- what a function gives of the items of a list
pub Contains-filter_map : {X Y : Type 0} (h : X → Option Y) (xs : List X) (y : Y)
    → Contains (filter_map h xs) y ↔ ((x : X) × Contains xs x × (h x ≡ Some y))
Contains-filter_map h [] y = (λ c. absurd (Contains-nil y c), λ w. absurd (Contains-nil w.0 w.1))
Contains-filter_map h (x ∷ xs) y =
    let here = cons_cases (h x) (filter_map h xs) y in
    let rest = Contains-filter_map h xs y in (
      λ c. ⊎_elim (λ e. (x, Contains-head x xs x refl, e))
          (λ t. let w = rest.0 t in (w.0, Contains-tail x xs w.0 w.1, w.2)) (here.0 c),
      λ w. here.1 (⊎_elim (λ e. inl (subst (λ z. h z ≡ Some y) (sym e) w.2)) (λ t. inr (rest.1 (w.0, t, w.2)))
          (Contains-cons_cases x xs w.0 w.1)),
    )

abbrev literal : Atom → Bool → AtomLit
literal atom positive = record { atom = atom; positive = positive }

number_is : (which : NumberAtom) (atom : Atom) (positive : Bool) (x : ℕ) → number_at which atom positive ≡ Some x
    → literal atom positive ≡ affirmed (atom_of which x)
number_is Membership (Member y) true x e = let same : y ≡ x = cc in ap (λ z. affirmed (Member z)) same
number_is Argument (Live y) true x e = let same : y ≡ x = cc in ap (λ z. affirmed (Live z)) same
number_is Assumption (Asm y) true x e = let same : y ≡ x = cc in ap (λ z. affirmed (Asm z)) same
number_is OwnDerived (Der Own y) true x e = let same : y ≡ x = cc in ap (λ z. affirmed (Der Own z)) same
number_is RestDerived (Der Rest y) true x e = let same : y ≡ x = cc in ap (λ z. affirmed (Der Rest z)) same
number_is _ _ _ x e = absurd (cc)

is_number : (which : NumberAtom) (x : ℕ) → number_in which (affirmed (atom_of which x)) ≡ Some x
is_number Membership x = refl
is_number Argument x = refl
is_number Assumption x = refl
is_number OwnDerived x = refl
is_number RestDerived x = refl

pub affirmed_are : (which : NumberAtom) (values : List AtomLit) (x : ℕ)
    → Contains (filter_map (number_in which) values) x ↔ Affirms values (atom_of which x)
affirmed_are which values x =
    let found = Contains-filter_map (number_in which) values x in (
      λ c. let w = found.0 c in
          subst (λ l. Contains values l) (number_is which w.0.atom w.0.positive x w.2) w.1,
      λ there. found.1 (affirmed (atom_of which x), there, is_number which x),
    )

-- the set of a list with these members
pub set_with : (P Q : ℕ → Type 0) (xs : List ℕ) → ((a : ℕ) → P a ↔ Q a) → IsSetOf P xs → IsSetOf Q xs
set_with P Q xs same h = record {
  rises = h.rises;
  members = λ a. (λ c. (same a).0 ((h.members a).0 c), λ q. (h.members a).1 ((same a).1 q));
}

-- members without those members that no such atom vouches for are the members that one vouches for
pub without_others : (vouch : ℕ → Atom) (values : List AtomLit) (members vouched others set : List ℕ)
    → IsSetOf (λ a. Affirms values (Member a)) members → IsSetOf (λ a. Affirms values (vouch a)) vouched
    → IsSetOf (λ a. Contains members a × (Contains vouched a → ⊥)) others
    → IsSetOf (λ a. Contains members a × (Contains others a → ⊥)) set → IsSetOf (IsDecoded vouch values) set
without_others vouch values members vouched others set m l d s = record {
  rises = s.rises;
  members = λ a. (
    λ c. let w = (s.members a).0 c in record {
      member = (m.members a).0 w.0;
      vouched = ⊎_elim (λ there. (l.members a).0 there) (λ no. absurd (w.1 ((d.members a).1 (w.0, no))))
          (decide_member vouched a);
    },
    λ h. (s.members a).1 ((m.members a).1 h.member, λ c. ((d.members a).0 c).1 ((l.members a).1 h.vouched)),
  );
}
