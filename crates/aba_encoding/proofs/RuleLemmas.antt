-- What stands at the index of a rule, and the bounds of its numbers.
use Rattle.std.proofs.Common.{◌≡◌, ◌<◌, ℕ, List, ◌∷◌, ◌++◌, [], length, get_or, map, arith, ap, subst, ◌∙◌}
use Rattle.std.specs.Prelude.{Contains}
use Rattle.std.proofs.lemmas.List.{get_or-map}
use Rattle.std.proofs.lemmas.List.Elements.{Contains-get_or}
use Rattle.semantics.specs.AbaFrameworks.{Aba, IsNumberedAba}
use Rattle.semantics.specs.Rules.{Rule}
use Rattle.aba_notions.specs.Storage.{no_rule, rule_at}
use Rattle.aba_notions.proofs.UnfoundedLemmas.{read_number}
use Rattle.meaning_atoms.specs.declared.atom.Closure.TheVariants.{Own, Rest}
use Rattle.meaning_atoms.specs.declared.aba_axiom.AbaAxiom.{AbaAxiom}
use Rattle.meaning_atoms.specs.declared.aba_axiom.AbaAxiom.TheVariants.{B1, B5, B9}
use Rattle.aba_encoding.specs.Listing.{atom_axioms, body_end, body_step, head_end, head_step, heading, rule_axioms, walk_along}
use Rattle.lists.proofs.Images.{image_there}

abbrev pub head_axioms : ℕ → ℕ → List AbaAxiom
head_axioms number head = B5 Own number head ∷ B5 Rest number head ∷ []

abbrev pub own_axioms : ℕ → List AbaAxiom
own_axioms x = B1 x ∷ B9 Own x ∷ B9 Rest x ∷ []

abbrev pub axioms_by : ℕ → ℕ → List ℕ → List AbaAxiom
axioms_by number head body =
    head_axioms number head ++ walk_along (body_step number) (body_end number) 1 body

pub rule_is : (f : Aba) (k : ℕ) (numbers heads body : List ℕ) → numbers ≡ map (λ (r : Rule). r.number) f.rules
    → heads ≡ map (λ (r : Rule). r.head) f.rules → k < length f.rules → body ≡ (rule_at f.rules k).body
    → axioms_by (get_or numbers k 0) (get_or heads k 0) body ≡ rule_axioms (rule_at f.rules k)
rule_is f k numbers heads body are are' lt is =
    let rule = rule_at f.rules k in
    let number = read_number f numbers k are lt in
    let head : get_or heads k 0 ≡ rule.head =
    ap (λ xs. get_or xs k 0) are' ∙ get_or-map (λ (r : Rule). r.head) f.rules k no_rule 0 lt in
    ap (λ n. axioms_by n (get_or heads k 0) body) number ∙ ap (λ h. axioms_by rule.number h body) head
    ∙ ap (axioms_by rule.number rule.head) is

-- an atom of a body has a number up to 1,000,000
pub body_high : (f : Aba) → IsNumberedAba f → (k : ℕ) → k < length f.rules → (pairs : List (ℕ × ℕ))
    → map (λ (p : ℕ × ℕ). p.1) pairs ≡ (rule_at f.rules k).body → (n : ℕ) → n < length pairs
    → (get_or pairs n (0, 0)).1 < 1000001
body_high f form k lt pairs are n within =
    let there = image_there (λ (p : ℕ × ℕ). p.1) pairs (get_or pairs n (0, 0))
    (Contains-get_or pairs n (0, 0) within) in
    let rule = form.form.rules_are (rule_at f.rules k) (Contains-get_or f.rules k no_rule lt) in
    let y : ℕ = (get_or pairs n (0, 0)).1 in
    let high = (rule.body y (subst (λ xs. Contains xs y) are there)).high in
    let atoms = form.atoms in
    omega arith

-- the number of a rule too
pub number_high : (f : Aba) → IsNumberedAba f → (numbers : List ℕ) → numbers ≡ map (λ (r : Rule). r.number) f.rules
    → (k : ℕ) → k < length f.rules → get_or numbers k 0 < 1000001
number_high f form numbers are k lt =
    let number = read_number f numbers k are lt in
    let rule = form.form.rules_are (rule_at f.rules k) (Contains-get_or f.rules k no_rule lt) in
    let given = rule.given in
    let next = form.rules in
    omega arith

pub atom_is : (f : Aba) (x : ℕ) (stops : List ℕ) → stops ≡ heading f x
    → own_axioms x ++ walk_along (head_step x) (head_end x) 1 stops ≡ atom_axioms f x
atom_is f x stops is =
    ap (λ ns. B1 x ∷ B9 Own x ∷ B9 Rest x ∷ walk_along (head_step x) (head_end x) 1 ns) is
