-- When clauses are true in worlds: literal by literal, beside other side clauses, and under a valuation.
use Rattle.std.proofs.Common.{◌≡◌, Bool, true, false, not, List, ◌∷◌, refl, ⊎_elim}
use Rattle.std.specs.Prelude.{◌↔◌, if◌then◌else◌, Contains}
use Rattle.std.specs.List.{list_all}
use Rattle.lists.proofs.ListTests.{all_gives}
use Rattle.lists.proofs.Membership.{Contains-head, Contains-tail}
use Rattle.meaning_atoms.specs.declared.atom.Atom.{Atom}
use Rattle.meaning_atoms.specs.declared.atom.Atom.TheVariants.{Member, Live, Attack, Gap, Tail, Unmet, Range, Cf, Ad, Co, St, Ask}
use Rattle.meaning_atoms.specs.declared.atom.AtomLit.{AtomLit}
use Rattle.meaning_atoms.specs.Literals.{affirmed, denied, lit_value, AsksNothing, not_ask}
use Rattle.meaning_atoms.specs.Valuations.{IsValuation}
use Rattle.meaning_atoms.specs.Worlds.{World, Says, Holds, HoldsAlone, HoldsLit, IsAsk, IsTrueAlone, IsTrueBeside}
use Rattle.meaning_atoms.proofs.Valuations.{decide_atom}

-- ---- literal by literal

-- the first literal is true
by_first : (w : World) (sides : List (List AtomLit)) (l : AtomLit) (rest : List AtomLit)
    → HoldsLit w sides l → IsTrueBeside w sides (l ∷ rest)
by_first w sides l rest h = record { literal = l; member = Contains-head l rest l refl; says = h }

-- a later literal is true
by_rest : (w : World) (sides : List (List AtomLit)) (l : AtomLit) (rest : List AtomLit)
    → IsTrueBeside w sides rest → IsTrueBeside w sides (l ∷ rest)
by_rest w sides l rest t =
    record { literal = t.literal; member = Contains-tail l rest t.literal t.member; says = t.says }

-- a clause that begins with an atom that is so
pub so : (w : World) (sides : List (List AtomLit)) (a : Atom) (rest : List AtomLit)
    → Holds w sides a → IsTrueBeside w sides (affirmed a ∷ rest)
so w sides a rest h = by_first w sides (affirmed a) rest h

-- a clause that begins with an atom has only to be true of the rest where the atom is not so
pub or_else : (w : World) (sides : List (List AtomLit)) (a : Atom) (rest : List AtomLit)
    → ((Holds w sides a → ⊥) → IsTrueBeside w sides rest) → IsTrueBeside w sides (affirmed a ∷ rest)
or_else w sides a rest next =
    ⊎_elim (λ h. so w sides a rest h) (λ none. by_rest w sides (affirmed a) rest (next none))
    (decide_atom w sides a)

-- a clause that begins with the negation of an atom has only to be true of the rest where the atom is so
pub given : (w : World) (sides : List (List AtomLit)) (a : Atom) (rest : List AtomLit)
    → (Holds w sides a → IsTrueBeside w sides rest) → IsTrueBeside w sides (denied a ∷ rest)
given w sides a rest next =
    ⊎_elim (λ h. by_rest w sides (denied a) rest (next h)) (λ none. by_first w sides (denied a) rest none)
    (decide_atom w sides a)

-- ---- side clauses

-- what asks for no side clause is so beside any side clauses or none
pub alone_holds : (w : World) (sides : List (List AtomLit)) (atom : Atom) → (IsAsk atom → ⊥) → HoldsAlone w atom
    → Holds w sides atom
alone_holds w sides (Ask n) none h = absurd (none tt)
alone_holds w sides _ none h = h

pub holds_alone : (w : World) (sides : List (List AtomLit)) (atom : Atom) → (IsAsk atom → ⊥) → Holds w sides atom
    → HoldsAlone w atom
holds_alone w sides (Ask n) none h = absurd (none tt)
holds_alone w sides _ none h = h

pub says_moved : (positive : Bool) (P Q : Type 0) → (P → Q) → (Q → P) → Says positive P → Says positive Q
says_moved true P Q to from h = to h
says_moved false P Q to from h = λ q. h (from q)

-- a clause that asks for no side clause is true beside side clauses where it is true alone
pub from_alone : (w : World) (sides : List (List AtomLit)) (clause : List AtomLit) → AsksNothing clause
    → IsTrueAlone w clause
    → IsTrueBeside w sides clause
from_alone w sides clause plain h =
    let none = plain h.literal h.member in
    let atom = h.literal.atom in
    record {
      literal = h.literal;
      member = h.member;
      says = says_moved h.literal.positive (HoldsAlone w atom) (Holds w sides atom) (alone_holds w sides atom none)
          (holds_alone w sides atom none) h.says;
    }

pub to_alone : (w : World) (sides : List (List AtomLit)) (clause : List AtomLit) → AsksNothing clause
    → IsTrueBeside w sides clause
    → IsTrueAlone w clause
to_alone w sides clause plain h =
    let none = plain h.literal h.member in
    let atom = h.literal.atom in
    record {
      literal = h.literal;
      member = h.member;
      says = says_moved h.literal.positive (Holds w sides atom) (HoldsAlone w atom) (holds_alone w sides atom none)
          (alone_holds w sides atom none) h.says;
    }

-- a clause that asks for no side clause is true beside any others too
pub elsewhere : (w : World) (sides others : List (List AtomLit)) (clause : List AtomLit) → AsksNothing clause
    → IsTrueBeside w sides clause
    → IsTrueBeside w others clause
elsewhere w sides others clause plain h = from_alone w others clause plain (to_alone w sides clause plain h)

-- the test finds out what asks for no side clause
pub not_ask_says : (atom : Atom) → not_ask atom ≡ true → IsAsk atom → ⊥
not_ask_says (Ask n) h ask = absurd (cc)
not_ask_says _ h ask = ask

pub asks_nothing : (clause : List AtomLit) → list_all (λ l. not_ask l.atom) clause ≡ true → AsksNothing clause
asks_nothing clause h l c = not_ask_says l.atom (all_gives (λ k. not_ask k.atom) clause h l c)

-- ---- under a valuation

pub no_longer : (t : Bool) → (t ≡ true → ⊥) → not t ≡ true
no_longer true h = absurd (h refl)
no_longer false h = refl

pub clash : (t : Bool) → t ≡ true → not t ≡ true → ⊥
clash true a e = absurd (cc)
clash false a e = absurd (cc)

-- a literal says what is so exactly where its value is true
pub read_true : (positive t : Bool) (P : Type 0) → ((t ≡ true) ↔ P) → Says positive P → (if positive then t else not t)
    ≡ true
read_true true t P iff h = iff.1 h
read_true false t P iff h = no_longer t (λ e. h (iff.0 e))

pub true_read : (positive t : Bool) (P : Type 0) → ((t ≡ true) ↔ P) → (if positive then t else not t) ≡ true
    → Says positive P
true_read true t P iff e = iff.0 e
true_read false t P iff e = λ p. clash t (iff.1 p) e

-- a clause is true in the world where some literal's value is true
pub under : (w : World) (sides : List (List AtomLit)) (value : Atom → Bool) → IsValuation w sides value
    → (clause : List AtomLit)
    → IsTrueBeside w sides clause → (l : AtomLit) × Contains clause l × (lit_value value l ≡ true)
under w sides value reads clause h =
    let l = h.literal in
    (l, h.member, read_true l.positive (value l.atom) (Holds w sides l.atom) (reads l.atom) h.says)

pub beside : (w : World) (sides : List (List AtomLit)) (value : Atom → Bool) → IsValuation w sides value
    → (clause : List AtomLit)
    → (l : AtomLit) × Contains clause l × (lit_value value l ≡ true) → IsTrueBeside w sides clause
beside w sides value reads clause h = record {
  literal = h.0;
  member = h.1;
  says = true_read h.0.positive (value h.0.atom) (Holds w sides h.0.atom) (reads h.0.atom) h.2;
}
