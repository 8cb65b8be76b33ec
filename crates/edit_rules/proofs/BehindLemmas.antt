-- What the framework behind each edit is made of.
use Rattle.std.proofs.Common.{◌≡◌, ◌+◌, ℕ, not, List, [], ◌∷◌, ◌++◌, length, ap, subst, ◌∙◌, map, filter}
use Rattle.std.specs.Prelude.{Contains, ◌⊎◌, ◌↔◌, ◌==◌}
use Rattle.lists.specs.Members.{IsSetOf}
use Rattle.semantics.specs.AbaFrameworks.{Aba, IsNumberedAba}
use Rattle.aba_notions.specs.declared.rule_table.RuleLists.{RuleLists}
use Rattle.edit_rules.proofs.NumberLists.{joined_number, equal_members}
use Rattle.edit_rules.specs.AbaEdits.{next_rule, pair_of, rules_but, with_contrary, without_contrary}
use Rattle.edit_rules.specs.AbaEdits.{aba_with_assumption, aba_without_assumption, aba_with_rule, aba_without_rule}
use Rattle.edit_rules.specs.Parts.{AreListsOf}
use Rattle.edit_rules.proofs.ContraryLists.{pushed_contrary}
use Rattle.edit_rules.proofs.AbaRowForms.{all_rules, in_order_members}
use Rattle.edit_rules.proofs.MadeFrameworks.{ArePartsOf}
use Rattle.edit_rules.proofs.RuleLists.{lists_more}

pub all_lists : (f : Aba) (lists : RuleLists) → IsNumberedAba f → AreListsOf (rules_but 0 f.rules) lists
    → AreListsOf f.rules lists
all_lists f lists ok h = subst (λ rs. AreListsOf rs lists) (all_rules f ok) h

-- pairs in which a has one contrary or none, of a copy of the pairs before
pub set_members : (a c : ℕ) (ps copy made : List (ℕ × ℕ)) → copy ≡ ps → made ≡ without_contrary a copy ++ pair_of a c
    → (p : ℕ × ℕ) → Contains made p ↔ Contains (with_contrary a c ps) p
set_members a c ps copy made e is =
    pushed_contrary a c ps made (is ∙ ap (λ qs. without_contrary a qs ++ pair_of a c) e)

pub parts_with_assumption : (f : Aba) (a c atoms next : ℕ) (copy more : List ℕ) (pairs made : List (ℕ × ℕ))
    (lists : RuleLists) → IsNumberedAba f → atoms ≡ f.atoms → copy ≡ f.assumptions
    → IsSetOf (λ y. Contains copy y ⊎ (y ≡ a)) more → pairs ≡ f.contraries
    → made ≡ without_contrary a pairs ++ pair_of a c → AreListsOf (rules_but 0 f.rules) lists → next ≡ f.next
    → ArePartsOf (aba_with_assumption f a c) atoms more made lists next
parts_with_assumption f a c atoms next copy more pairs made lists ok atoms_are same set of_f is rules next_is = record {
  atoms_are = atoms_are;
  assumptions_are = joined_number f.assumptions copy more a same ok.form.assumptions_rise set;
  contraries_are = set_members a c f.contraries pairs made of_f is;
  rules_are = all_lists f lists ok rules;
  next_is = next_is;
}

pub parts_without_assumption : (f : Aba) (a atoms next : ℕ) (assumptions kept : List ℕ) (pairs made : List (ℕ × ℕ))
    (lists : RuleLists) → IsNumberedAba f → atoms ≡ f.atoms → assumptions ≡ f.assumptions
    → kept ≡ filter (λ b. not (b == a)) assumptions → pairs ≡ f.contraries → made ≡ without_contrary a pairs
    → AreListsOf (rules_but 0 f.rules) lists → next ≡ f.next
    → ArePartsOf (aba_without_assumption f a) atoms kept made lists next
parts_without_assumption f a atoms next assumptions kept pairs made lists ok atoms_are same are of_f is rules next_is =
    record {
      atoms_are = atoms_are;
      assumptions_are = are ∙ ap (filter (λ b. not (b == a))) same;
      contraries_are = equal_members made (without_contrary a f.contraries) (is ∙ ap (without_contrary a) of_f);
      rules_are = all_lists f lists ok rules;
      next_is = next_is;
    }

pub parts_with_rule : (f : Aba) (h : ℕ) (body : List ℕ) (number atoms next : ℕ) (copy : List ℕ) (pairs : List (ℕ × ℕ))
    (old new : RuleLists) → IsNumberedAba f → atoms ≡ f.atoms → copy ≡ f.assumptions → pairs ≡ f.contraries
    → AreListsOf (rules_but 0 f.rules) old → number ≡ f.next → new.numbers.items ≡ old.numbers.items ++ number ∷ []
    → new.heads.items ≡ old.heads.items ++ h ∷ []
    → new.bodies.items ≡ old.bodies.items ++ map (λ y. (length old.heads.items, y)) body → next ≡ f.next
    → ArePartsOf (aba_with_rule f h body) atoms copy pairs new (next + 1)
parts_with_rule f h body number atoms next copy pairs old new ok atoms_are same of_f rules is numbers heads bodies
    next_is = record {
      atoms_are = atoms_are;
      assumptions_are = same;
      contraries_are = equal_members pairs f.contraries of_f;
      rules_are = lists_more f.rules old new (next_rule f h body) body (all_lists f old ok rules)
          (numbers ∙ ap (λ n. old.numbers.items ++ n ∷ []) is) heads bodies
          (λ y. ((in_order_members body y).1, (in_order_members body y).0));
      next_is = ap (λ n. n + 1) next_is;
    }

pub parts_without_rule : (f : Aba) (n atoms next : ℕ) (copy : List ℕ) (pairs : List (ℕ × ℕ)) (lists : RuleLists)
    → atoms ≡ f.atoms → copy ≡ f.assumptions → pairs ≡ f.contraries → AreListsOf (rules_but n f.rules) lists
    → next ≡ f.next → ArePartsOf (aba_without_rule f n) atoms copy pairs lists next
parts_without_rule f n atoms next copy pairs lists atoms_are same of_f rules next_is = record {
  atoms_are = atoms_are;
  assumptions_are = same;
  contraries_are = equal_members pairs f.contraries of_f;
  rules_are = rules;
  next_is = next_is;
}
