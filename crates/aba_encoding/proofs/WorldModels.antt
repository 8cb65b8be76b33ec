-- Each set of assumptions has a model that is read as it: what is so in the world of the framework and the set, of all
-- atoms of which the needed axioms speak.
use Rattle.std.proofs.Common.{◌≡◌, ◌⊎◌, ℕ, Bool, true, false, not, List, [], map, arith, refl, sym, ◌∙◌, subst, inl, inr}
use Rattle.std.specs.Prelude.{Contains, ◌↔◌}
use Rattle.std.specs.List.{flat_map}
use Rattle.lists.specs.Members.{IsWithin}
use Rattle.semantics.specs.AbaFrameworks.{Aba, IsNumberedAba}
use Rattle.semantics.specs.Frameworks.{aba}
use Rattle.meaning_atoms.specs.declared.aba_axiom.AbaAxiom.{AbaAxiom}
use Rattle.meaning_atoms.specs.declared.aba_axiom.AbaAxiom.TheVariants.{B1, B16}
use Rattle.meaning_atoms.specs.declared.atom.Atom.{Atom}
use Rattle.meaning_atoms.specs.declared.atom.Atom.TheVariants.{Member, Asm, Con, ConGap, Head, HGap, Body, BGap, Der, Cf, Ad, Co, St}
use Rattle.meaning_atoms.specs.declared.atom.AtomLit.{AtomLit}
use Rattle.meaning_atoms.specs.Literals.{affirmed, denied, negated}
use Rattle.meaning_atoms.specs.Valuations.{IsValuation}
use Rattle.meaning_atoms.specs.Worlds.{world_of, Holds, HoldsOfAba, IsAbaFact, IsAbaWorld}
use Rattle.meaning_atoms.proofs.Valuations.{world_valuation}
use Rattle.aba_axioms.specs.AbaTable.{aba_clause}
use Rattle.aba_axioms.proofs.Validity.{clauses_are_valid}
use Rattle.meaning_atoms.specs.declared.axiom.AxiomName.{AxiomName}
use Rattle.meaning_atoms.specs.declared.axiom.AxiomName.TheVariants.{Af as OfAf, Aba as OfAba}
use Rattle.certificate_claims.specs.Refutations.{axiom_clause}
use Rattle.oracle_face.specs.Decoding.{IsModelOf}
use Rattle.oracle_face.specs.Goals.{IsMode}
use Rattle.oracle_face.specs.Needed.{IsNeeded}
use Rattle.af_encoding.specs.Decoded.{Affirms}
use Rattle.oracle_face.specs.AbaNeeded.{IsNeededOfAba}
use Rattle.aba_encoding.specs.Listing.{listed_axioms}
use Rattle.aba_encoding.proofs.NeededLemmas.{listed_to, needed_fits}
use Rattle.aba_encoding.specs.AbaModels.{IsModelOfSetInAba}
use Rattle.lists.proofs.Images.{image_there, image_from, in_flat}
use Rattle.lists.proofs.TruthValues.{not_itself}
use Rattle.af_encoding.proofs.WorldModels.{sign_so}

abbrev literal : Atom → Bool → AtomLit
literal atom positive = record { atom = atom; positive = positive }

abbrev told : (Atom → Bool) → Atom → AtomLit
told value atom = literal atom (value atom)

abbrev atom_in : AtomLit → Atom
atom_in l = l.atom

abbrev atoms_of : AbaAxiom → List Atom
atoms_of name = map atom_in (aba_clause name)

-- the atoms of which the needed axioms speak, and the literals of them that the valuation makes true
abbrev values_of : Aba → (Atom → Bool) → List AtomLit
values_of f value = map (told value) (flat_map atoms_of (listed_axioms f))

-- ---- signs

told_either : (values : List AtomLit) (atom : Atom) (v positive : Bool) → Contains values (literal atom v)
    → Contains values (literal atom positive) ⊎ Contains values (literal atom (not positive))
told_either values atom true true c = inl c
told_either values atom false false c = inl c
told_either values atom true false c = inr c
told_either values atom false true c = inr c

-- the value of a fact is its truth in each world of the framework
fact_reading : (f : Aba) (s t : List ℕ) (sides : List (List AtomLit)) (atom : Atom) → IsAbaFact atom
    → Holds (world_of (aba f) s) [] atom ↔ Holds (world_of (aba f) t) sides atom
fact_reading f s t sides (Asm a) h = (λ x. x, λ x. x)
fact_reading f s t sides (Con a c) h = (λ x. x, λ x. x)
fact_reading f s t sides (ConGap a i j) h = (λ x. x, λ x. x)
fact_reading f s t sides (Head r x) h = (λ x. x, λ x. x)
fact_reading f s t sides (HGap x i j) h = (λ x. x, λ x. x)
fact_reading f s t sides (Body r x) h = (λ x. x, λ x. x)
fact_reading f s t sides (BGap r i j) h = (λ x. x, λ x. x)
fact_reading f s t sides _ h = absurd h

module _ (f : Aba) (form : IsNumberedAba f) (s : List ℕ) (within : IsWithin s f.assumptions) (value : Atom → Bool)
    (reads : IsValuation (world_of (aba f) s) [] value) where
  -- each literal has the sign of its value
  sign_of : (l : AtomLit) → Contains (values_of f value) l → value l.atom ≡ l.positive
  sign_of l c =
      let w = image_from (told value) (flat_map atoms_of (listed_axioms f)) l c in
      subst (λ k. value k.atom ≡ k.positive) w.2 refl

  -- each atom of a needed axiom is told
  spoken : (name : AbaAxiom) (l : AtomLit) → IsNeededOfAba f name → Contains (aba_clause name) l
      → Contains (values_of f value) (told value l.atom)
  spoken name l needed c =
      image_there (told value) (flat_map atoms_of (listed_axioms f)) l.atom
      (in_flat atoms_of (listed_axioms f) name l.atom (listed_to f form name needed)
      (image_there atom_in (aba_clause name) l c))

  world : IsAbaWorld f s
  world = record {
    framework = form;
    members = λ a c.
        let atom = form.form.assumptions_are a (within a c) in
        let high = atom.high in
        let most = form.atoms in
        record { low = atom.low; high = omega arith };
  }

  axiom_true : (name : AxiomName) → IsNeeded (aba f) name
      → (l : AtomLit) × Contains (axiom_clause name) l × Contains (values_of f value) l
  axiom_true (OfAf name) needed = absurd needed
  axiom_true (OfAba name) needed =
      let found = clauses_are_valid name (needed_fits f form name needed) (world_of (aba f) s) world [] in
      let l = found.literal in
      let sign : value l.atom ≡ l.positive = sign_so l.positive (value l.atom) _ (reads l.atom) found.says in (
        l,
        found.member,
        subst (λ b. Contains (values_of f value) (literal l.atom b)) sign (spoken name l needed found.member),
      )

  axiom_told : (name : AxiomName) (l : AtomLit) → IsNeeded (aba f) name → Contains (axiom_clause name) l
      → Contains (values_of f value) l ⊎ Contains (values_of f value) (negated l)
  axiom_told (OfAf name) l needed c = absurd needed
  axiom_told (OfAba name) l needed c =
      told_either (values_of f value) l.atom (value l.atom) l.positive (spoken name l needed c)

  model_of : IsModelOf (aba f) (values_of f value)
  model_of = record {
    plain = λ w. not_itself w.0.positive (sym (sign_of w.0 w.1) ∙ sign_of (negated w.0) w.2);
    axioms = axiom_true;
    facts = λ l c fact. record {
      fact = fact;
      reading = λ t sides.
          let sign : value l.atom ≡ l.positive = sign_of l c in
          let there = fact_reading f s t sides l.atom fact in
          (λ e. there.0 ((reads l.atom).0 (sign ∙ e)), λ so. sym sign ∙ (reads l.atom).1 (there.1 so));
    };
    told = λ name l needed c fact. axiom_told name l needed c;
  }

  -- an atom of a needed axiom is affirmed exactly where it is so
  affirmed_so : (atom : Atom) → Affirms (values_of f value) atom → Holds (world_of (aba f) s) [] atom
  affirmed_so atom c = (reads atom).0 (sign_of (affirmed atom) c)

  so_affirmed : (name : AbaAxiom) (l : AtomLit) → IsNeededOfAba f name → Contains (aba_clause name) l
      → Holds (world_of (aba f) s) [] l.atom → Affirms (values_of f value) l.atom
  so_affirmed name l needed c so =
      subst (λ b. Contains (values_of f value) (literal l.atom b)) ((reads l.atom).1 so) (spoken name l needed c)

  modes_told : (mode : Atom) → IsMode mode → HoldsOfAba f s mode → Affirms (values_of f value) mode
  modes_told Cf h so = so_affirmed (B16 1) (affirmed Cf) (omega arith, omega arith) (1, omega arith, refl) so
  modes_told Ad h so = so_affirmed (B16 1) (denied Ad) (omega arith, omega arith) (0, omega arith, refl) so
  modes_told Co h so = so_affirmed (B16 2) (denied Co) (omega arith, omega arith) (0, omega arith, refl) so
  modes_told St h so = so_affirmed (B16 3) (denied St) (omega arith, omega arith) (0, omega arith, refl) so
  modes_told _ h so = absurd h

  is_model : IsModelOfSetInAba f (values_of f value) s
  is_model = record {
    model = model_of;
    read = λ a. (
      λ h. affirmed_so (Member a) h.member,
      λ c. let atom = form.form.assumptions_are a (within a c) in
          record {
            member = so_affirmed (B1 a) (denied (Member a)) atom (1, omega arith, refl) c;
            vouched = so_affirmed (B1 a) (affirmed (Asm a)) atom (2, omega arith, refl) (within a c);
          },
    );
    modes = modes_told;
    founded = λ k x atom there. affirmed_so (Der k x) there;
  }

pub set_has_model : (f : Aba) (s : List ℕ) → IsNumberedAba f → IsWithin s f.assumptions
    → (values : List AtomLit) × IsModelOfSetInAba f values s
set_has_model f s form within =
    let valuation = world_valuation (world_of (aba f) s) [] in
    (values_of f valuation.0, is_model f form s within valuation.0 valuation.1)
