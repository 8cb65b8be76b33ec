-- Whether two atoms, or two literals, are the same can be decided; the derived `==` decides it, and the derived order
-- says `Equal` there alone.
use Rattle.std.proofs.Common.{◌≡◌, inl, inr, ⊎_elim, ℕ, Bool, true, false, ap, sym, ◌∙◌, refl, rules}
use Rattle.std.specs.Prelude.{◌↔◌}
use Rattle.std.specs.Ordering.{ordering_then, bool_cmp, is_eq}
use Rattle.std.proofs.Math.Bool.{beq}
use Rattle.std.specs.declared.cmp.Ordering.{Ordering}
use Rattle.std.specs.declared.cmp.Ordering.TheVariants.{Less, Equal, Greater}
use Rattle.std.proofs.lemmas.Bool.{cases_eq, and_from, and_parts, false≢true}
use Rattle.aba_laws.specs.semantics.proofs.Decided.{Decided}
use Rattle.meaning_atoms.specs.declared.atom.Atom.{Atom}
use Rattle.meaning_atoms.specs.declared.atom.Atom.TheVariants.{Member, Live, Attack, Gap, Tail, Unmet, Range, Cf, Ad, Co, St, Ask}
use Rattle.meaning_atoms.specs.declared.atom.Atom.TheVariants.{Asm, Con, ConGap, Head, HGap, Body, BGap, Der, Miss, Sup, Hit}
use Rattle.meaning_atoms.specs.declared.atom.Closure.{Closure}
use Rattle.meaning_atoms.specs.declared.atom.Closure.TheVariants.{Own, Rest}
use Rattle.meaning_atoms.specs.declared.atom.AtomLit.{AtomLit}
use Rattle.meaning_atoms.specs.contracts.atom.AtomPartialEq.TheImpl.{eq-value as atom_eq}
use Rattle.meaning_atoms.specs.contracts.atom.AtomLitPartialEq.TheImpl.{eq-value as lit_eq}
use Rattle.meaning_atoms.specs.contracts.atom.AtomOrd.TheImpl.{cmp-value as atom_cmp}
use Rattle.meaning_atoms.specs.contracts.atom.AtomOrd.TheImpl.Laws.{matches_eq-law}
use Rattle.meaning_atoms.specs.contracts.atom.AtomLitOrd.TheImpl.{cmp-value as lit_cmp}

one : (make : ℕ → Atom) (a b : ℕ) → (make a ≡ make b → a ≡ b) → Decided (make a ≡ make b)
one make a b back = ⊎_elim (λ e. inl (ap make e)) (λ ne. inr (λ e. ne (back e))) (cases_eq a b)

two : (make : ℕ → ℕ → Atom) (a b c d : ℕ) → (make a b ≡ make c d → a ≡ c) → (make a b ≡ make c d → b ≡ d)
    → Decided (make a b ≡ make c d)
two make a b c d first second =
    ⊎_elim
    (λ e. ⊎_elim (λ e'. inl (ap (λ x. make x b) e ∙ ap (λ x. make c x) e')) (λ ne. inr (λ all. ne (second all)))
    (cases_eq b d))
    (λ ne. inr (λ all. ne (first all))) (cases_eq a c)

three : (make : ℕ → ℕ → ℕ → Atom) (a i j b k l : ℕ) → (make a i j ≡ make b k l → a ≡ b)
    → (make a i j ≡ make b k l → i ≡ k) → (make a i j ≡ make b k l → j ≡ l) → Decided (make a i j ≡ make b k l)
three make a i j b k l first second third =
    ⊎_elim
    (λ e. ⊎_elim
    (λ e'. ⊎_elim
    (λ e''. inl (ap (λ x. make x i j) e ∙ ap (λ x. make b x j) e' ∙ ap (λ x. make b k x) e''))
    (λ ne. inr (λ all. ne (third all))) (cases_eq j l))
    (λ ne. inr (λ all. ne (second all))) (cases_eq i k))
    (λ ne. inr (λ all. ne (first all))) (cases_eq a b)

pub same_atom : (x y : Atom) → Decided (x ≡ y)
same_atom (Member a) (Member b) = one Member a b (λ e. cc)
same_atom (Live a) (Live b) = one Live a b (λ e. cc)
same_atom (Attack a b) (Attack c d) = two Attack a b c d (λ e. cc) (λ e. cc)
same_atom (Gap a i j) (Gap b k l) = three Gap a i j b k l (λ e. cc) (λ e. cc) (λ e. cc)
same_atom (Tail a i) (Tail b j) = two Tail a i b j (λ e. cc) (λ e. cc)
same_atom (Unmet a i) (Unmet b j) = two Unmet a i b j (λ e. cc) (λ e. cc)
same_atom (Range a) (Range b) = one Range a b (λ e. cc)
same_atom Cf Cf = inl cc
same_atom Ad Ad = inl cc
same_atom Co Co = inl cc
same_atom St St = inl cc
same_atom (Ask a) (Ask b) = one Ask a b (λ e. cc)
same_atom (Asm a) (Asm b) = one Asm a b (λ e. cc)
same_atom (Con a b) (Con c d) = two Con a b c d (λ e. cc) (λ e. cc)
same_atom (ConGap a i j) (ConGap b k l) = three ConGap a i j b k l (λ e. cc) (λ e. cc) (λ e. cc)
same_atom (Head a b) (Head c d) = two Head a b c d (λ e. cc) (λ e. cc)
same_atom (HGap a i j) (HGap b k l) = three HGap a i j b k l (λ e. cc) (λ e. cc) (λ e. cc)
same_atom (Body a b) (Body c d) = two Body a b c d (λ e. cc) (λ e. cc)
same_atom (BGap a i j) (BGap b k l) = three BGap a i j b k l (λ e. cc) (λ e. cc) (λ e. cc)
same_atom (Der Own a) (Der Own b) = one (Der Own) a b (λ e. cc)
same_atom (Der Rest a) (Der Rest b) = one (Der Rest) a b (λ e. cc)
same_atom (Miss Own a i) (Miss Own b j) = two (Miss Own) a i b j (λ e. cc) (λ e. cc)
same_atom (Miss Rest a i) (Miss Rest b j) = two (Miss Rest) a i b j (λ e. cc) (λ e. cc)
same_atom (Sup Own a i) (Sup Own b j) = two (Sup Own) a i b j (λ e. cc) (λ e. cc)
same_atom (Sup Rest a i) (Sup Rest b j) = two (Sup Rest) a i b j (λ e. cc) (λ e. cc)
same_atom (Hit Own a i) (Hit Own b j) = two (Hit Own) a i b j (λ e. cc) (λ e. cc)
same_atom (Hit Rest a i) (Hit Rest b j) = two (Hit Rest) a i b j (λ e. cc) (λ e. cc)
same_atom _ _ = inr (λ e. absurd (cc))

same_sign : (s t : Bool) → Decided (s ≡ t)
same_sign true true = inl cc
same_sign false false = inl cc
same_sign _ _ = inr (λ e. absurd (cc))

abbrev literal : Atom → Bool → AtomLit
literal atom positive = record { atom = atom; positive = positive }

pub same_literal : (k l : AtomLit) → Decided (k ≡ l)
same_literal k l =
    ⊎_elim
    (λ e. ⊎_elim (λ e'. inl (ap (λ x. literal x k.positive) e ∙ ap (λ x. literal l.atom x) e'))
    (λ ne. inr (λ all. ne (ap (λ r. r.positive) all)))
    (same_sign k.positive l.positive))
    (λ ne. inr (λ all. ne (ap (λ r. r.atom) all))) (same_atom k.atom l.atom)

-- ---- the derived comparisons

atom_same : (x y : Atom) → (atom_eq).it x y ≡ true → x ≡ y
atom_same (Member a) (Member b) = search rules
atom_same (Live a) (Live b) = search rules
atom_same (Attack a b) (Attack c d) = search rules
atom_same (Gap a i j) (Gap b k l) = search rules
atom_same (Tail a i) (Tail b j) = search rules
atom_same (Unmet a i) (Unmet b j) = search rules
atom_same (Range a) (Range b) = search rules
atom_same Cf Cf = λ e. refl
atom_same Ad Ad = λ e. refl
atom_same Co Co = λ e. refl
atom_same St St = λ e. refl
atom_same (Ask a) (Ask b) = search rules
atom_same (Asm a) (Asm b) = search rules
atom_same (Con a b) (Con c d) = search rules
atom_same (ConGap a i j) (ConGap b k l) = search rules
atom_same (Head a b) (Head c d) = search rules
atom_same (HGap a i j) (HGap b k l) = search rules
atom_same (Body a b) (Body c d) = search rules
atom_same (BGap a i j) (BGap b k l) = search rules
atom_same (Der k a) (Der l b) = search rules
atom_same (Miss k a i) (Miss l b j) = search rules
atom_same (Sup k a i) (Sup l b j) = search rules
atom_same (Hit k a i) (Hit l b j) = search rules
atom_same x y = λ e. absurd (false≢true e)

atom_itself : (x : Atom) → (atom_eq).it x x ≡ true
atom_itself x = search rules

pub atom_decides : (x y : Atom) → ((atom_eq).it x y ≡ true) ↔ (x ≡ y)
atom_decides x y = (atom_same x y, λ e. rw (sym e) (atom_itself x))

sign_decides : (s t : Bool) → (beq s t ≡ true) ↔ (s ≡ t)
sign_decides s t = search rules

pub lit_decides : (k l : AtomLit) → ((lit_eq).it k l ≡ true) ↔ (k ≡ l)
lit_decides k l = (
  λ e. let both = and_parts ((atom_eq).it k.atom l.atom) (beq k.positive l.positive) e in
      ap (λ x. literal x k.positive) ((atom_decides k.atom l.atom).0 both.0)
      ∙ ap (λ x. literal l.atom x) ((sign_decides k.positive l.positive).0 both.1),
  λ same. and_from _ _ ((atom_decides k.atom l.atom).1 (ap (λ r. r.atom) same))
      ((sign_decides k.positive l.positive).1 (ap (λ r. r.positive) same)),
)

pub equal_says : (o : Ordering) → is_eq o ≡ true → o ≡ Equal
equal_says Less e = cc
equal_says Equal e = refl
equal_says Greater e = cc

pub atom_order : (x y : Atom) → ((atom_cmp).it x y ≡ Equal) ↔ (x ≡ y)
atom_order x y =
    let tie : (atom_eq).it x y ≡ is_eq ((atom_cmp).it x y) = matches_eq-law x y in (
      λ e. (atom_decides x y).0 (tie ∙ ap is_eq e),
      λ same. equal_says ((atom_cmp).it x y) (sym tie ∙ (atom_decides x y).1 same),
    )

sign_order : (s t : Bool) → (bool_cmp s t ≡ Equal) ↔ (s ≡ t)
sign_order s t = search rules

both_equal : (p q : Ordering) → (ordering_then p q ≡ Equal) ↔ ((p ≡ Equal) × (q ≡ Equal))
both_equal Less q = (λ e. absurd (cc), λ h. absurd (let e = h.0 in cc))
both_equal Equal q = (λ e. (refl, e), λ h. h.1)
both_equal Greater q = (λ e. absurd (cc), λ h. absurd (let e = h.0 in cc))

pub lit_order : (k l : AtomLit) → ((lit_cmp).it k l ≡ Equal) ↔ (k ≡ l)
lit_order k l =
    let parts = both_equal ((atom_cmp).it k.atom l.atom) (bool_cmp k.positive l.positive) in (
      λ e. let both = parts.0 e in
          ap (λ x. literal x k.positive) ((atom_order k.atom l.atom).0 both.0)
          ∙ ap (λ x. literal l.atom x) ((sign_order k.positive l.positive).0 both.1),
      λ same. parts.1 (
        (atom_order k.atom l.atom).1 (ap (λ r. r.atom) same),
        (sign_order k.positive l.positive).1
            (ap (λ r. r.positive) same),
      ),
    )
