-- What a set is like that fails a side clause of another, and goals about members.
use Rattle.std.proofs.Common.{◌≡◌, ⊎_elim, ℕ, true, not, List, filter}
use Rattle.std.specs.Prelude.{Contains}
use Rattle.std.proofs.lemmas.Bool.{not_from_false, false_from_ne_true}
use Rattle.std.proofs.lemmas.List.Elements.{Contains-append_left, Contains-append_right}
use Rattle.lists.specs.Members.{IsWithin}
use Rattle.lists.proofs.Filters.{Contains-filter}
use Rattle.iccma_tasks.specs.semantics.specs.Frameworks.{Framework}
use Rattle.iccma_tasks.specs.semantics.specs.Laws.{HasSameMembers}
use Rattle.iccma_tasks.specs.semantics.proofs.Decided.{decide_member}
use Rattle.aba_axioms.specs.meaning_atoms.specs.declared.atom.Atom.TheVariants.{Member, Range}
use Rattle.aba_axioms.specs.meaning_atoms.specs.Literals.{affirmed, denied, AsksNothing}
use Rattle.aba_axioms.specs.meaning_atoms.specs.Worlds.{world_of, IsTrueAlone}
use Rattle.certificate_claims.specs.Refutations.{MeetsGoals}
use Rattle.certificate_claims.proofs.SetTests.{has_gives}
use Rattle.certificate_claims.specs.SetLiterals.{has, is_ranged, are_in, are_out, are_ranged, members, outside, differs, wider, struck, attacked}
use Rattle.certificate_claims.proofs.GoalLists.{meets_mapped, asks_append, asks_mapped}
use Rattle.certificate_claims.proofs.KindFacts.{member_is, struck_asks_nothing}
use Rattle.lists.proofs.Images.{image_there}

lacks : (e : List ℕ) (x : ℕ) → (Contains e x → ⊥) → not (has e x) ≡ true
lacks e x out = not_from_false (has e x) (false_from_ne_true (has e x) (λ h. out (has_gives e x h)))

-- ---- side clauses that a set of members of the framework fails

-- a member of the framework that is none of the set stands in the set's side clause
in_outside : (f : Framework) (e : List ℕ) (x : ℕ) → Contains (members f) x → (Contains e x → ⊥)
    → Contains (outside f e) (affirmed (Member x))
in_outside f e x live out =
    image_there (λ a. affirmed (Member a)) (filter (λ y. not (has e y)) (members f)) x
    ((Contains-filter (λ y. not (has e y)) (members f) x).1 (live, lacks e x out))

-- one of which no member lies outside the set lies in it
pub within_where_false : (f : Framework) (e s : List ℕ) → IsWithin s (members f)
    → (IsTrueAlone (world_of f s) (outside f e) → ⊥) → IsWithin s e
within_where_false f e s live none x c =
    ⊎_elim (λ k. k)
    (λ out. absurd (none (record {
      literal = affirmed (Member x);
      member = in_outside f e x (live x c) out;
      says = (member_is f s x).1 c;
    })))
    (decide_member e x)

-- one that doesn't differ has the set's members
pub same_where_false : (f : Framework) (e s : List ℕ) → IsWithin s (members f)
    → (IsTrueAlone (world_of f s) (differs f e) → ⊥) → HasSameMembers e s
same_where_false f e s live none = record {
  there = λ x c. ⊎_elim (λ k. k)
      (λ out. absurd (none (record {
        literal = denied (Member x);
        member = Contains-append_right (outside f e) (are_out e) (denied (Member x))
            (image_there (λ a. denied (Member a)) e x c);
        says = λ h. out ((member_is f s x).0 h);
      })))
      (decide_member s x);
  back = within_where_false f e s live
      (λ t. none (record {
        literal = t.literal;
        member = Contains-append_left (outside f e) (are_out e) t.literal t.member;
        says = t.says;
      }));
}

-- ---- goals that a set meets

pub meets_in : (f : Framework) (e s : List ℕ) → IsWithin e s → MeetsGoals f s (are_in e)
meets_in f e s sub = meets_mapped f s (λ a. affirmed (Member a)) e (λ a c. (member_is f s a).1 (sub a c))

-- ---- none of them asks for a side clause

pub in_plain : (numbers : List ℕ) → AsksNothing (are_in numbers)
in_plain numbers = asks_mapped (λ a. affirmed (Member a)) numbers (λ a ask. ask)

pub out_plain : (numbers : List ℕ) → AsksNothing (are_out numbers)
out_plain numbers = asks_mapped (λ a. denied (Member a)) numbers (λ a ask. ask)

pub ranged_plain : (numbers : List ℕ) → AsksNothing (are_ranged numbers)
ranged_plain numbers = asks_mapped (λ a. affirmed (Range a)) numbers (λ a ask. ask)

pub outside_plain : (f : Framework) (e : List ℕ) → AsksNothing (outside f e)
outside_plain f e = in_plain (filter (λ x. not (has e x)) (members f))

pub differs_plain : (f : Framework) (e : List ℕ) → AsksNothing (differs f e)
differs_plain f e = asks_append (outside f e) (are_out e) (outside_plain f e) (out_plain e)

pub wider_plain : (f : Framework) (e : List ℕ) → AsksNothing (wider f e)
wider_plain f e = ranged_plain (filter (λ x. not (is_ranged f e x)) (members f))

pub attacked_plain : (f : Framework) (e : List ℕ) → AsksNothing (attacked f e)
attacked_plain f e = asks_mapped (struck f) e (struck_asks_nothing f)
