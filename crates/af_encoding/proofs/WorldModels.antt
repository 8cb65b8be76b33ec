-- Each set of live arguments has a model that is read as it: what is so in the world of the framework and the set, of
-- all atoms of which the needed axioms speak.
use Rattle.std.proofs.Common.{◌≡◌, ◌⊎◌, ◌+◌, ◌==◌, ℕ, Bool, true, false, not, List, [], ◌∷◌, ◌++◌, arith}
use Rattle.std.proofs.Common.{refl, sym, ◌∙◌, subst, inl, inr, ⊎_elim}
use Rattle.std.specs.Prelude.{Contains, ◌↔◌, map}
use Rattle.std.specs.List.{AllByRecursion, flat_map}
use Rattle.std.proofs.lemmas.Bool.{cond_both}
use Rattle.std.proofs.lemmas.List.Elements.{All-from_recursion, All-contains}
use Rattle.std.proofs.lemmas.List.Elements.{Contains-append_left, Contains-append_right}
use Rattle.lists.specs.Members.{IsWithin}
use Rattle.lists.proofs.Membership.{Contains-head, Contains-tail}
use Rattle.semantics.specs.Framework.{Af, Attacks}
use Rattle.semantics.specs.Frameworks.{af, IsNumberedAf}
use Rattle.meaning_atoms.specs.declared.atom.Atom.{Atom}
use Rattle.meaning_atoms.specs.declared.atom.Atom.TheVariants.{Member, Live, Attack, Gap, Tail, Unmet, Range}
use Rattle.meaning_atoms.specs.declared.atom.Atom.TheVariants.{Cf, Ad, Co, St}
use Rattle.meaning_atoms.specs.declared.atom.AtomLit.{AtomLit}
use Rattle.meaning_atoms.specs.declared.axiom.AfAxiom.TheVariants.{A1, A2, A3, A4, A5, A6, A7, A8, A9}
use Rattle.meaning_atoms.specs.declared.axiom.AfAxiom.TheVariants.{A10, A11, A12, A13, A14}
use Rattle.meaning_atoms.specs.declared.axiom.AxiomName.{AxiomName}
use Rattle.meaning_atoms.specs.declared.axiom.AxiomName.TheVariants.{Af as OfAf, Aba as OfAba}
use Rattle.meaning_atoms.specs.Literals.{affirmed, negated}
use Rattle.meaning_atoms.specs.Valuations.{IsValuation}
use Rattle.meaning_atoms.specs.Worlds.{world_of, IsAfWorld, Says, Holds, HoldsOfAf, IsAfFact, IsTrueBeside}
use Rattle.meaning_atoms.proofs.Valuations.{world_valuation}
use Rattle.meaning_atoms.specs.Notions.{notion_clause}
use Rattle.af_axioms.proofs.Rows.{rows_are_valid}
use Rattle.certificate_claims.specs.Refutations.{axiom_clause}
use Rattle.oracle_face.specs.Decoding.{IsModelOf}
use Rattle.oracle_face.specs.Goals.{IsMode}
use Rattle.oracle_face.specs.Needed.{IsNeeded, IsWalkStart}
use Rattle.af_encoding.specs.Decoded.{Affirms, IsModelOfSet}
use Rattle.lists.proofs.Images.{image_there, image_from, in_flat}
use Rattle.lists.proofs.TruthValues.{not_itself}

-- ---- lists made from lists

-- ---- the atoms of which needed axioms speak, and more

abbrev mode_atoms : List Atom
mode_atoms = Cf ∷ Ad ∷ Co ∷ St ∷ []

abbrev own_atoms : ℕ → List Atom
own_atoms a = Member a ∷ Live a ∷ Range a ∷ []

abbrev attack_atom : ℕ × ℕ → Atom
attack_atom p = Attack p.0 p.1

abbrev after : ℕ → ℕ
after b = b + 1

abbrev starts : Af → List ℕ
starts f = 1 ∷ map after f.live

abbrev gap_atom : ℕ → ℕ → ℕ → Atom
gap_atom a i j = Gap a i j

abbrev walk_atoms : Af → ℕ → ℕ → List Atom
walk_atoms f a i = Tail a i ∷ Unmet a i ∷ Gap a i 1000001 ∷ map (gap_atom a i) f.live

abbrev walks_atoms : Af → ℕ → List Atom
walks_atoms f a = flat_map (walk_atoms f a) (starts f)

abbrev atoms : Af → List Atom
atoms f = mode_atoms
    ++ (flat_map own_atoms f.live ++ (map attack_atom f.attacks ++ flat_map (walks_atoms f) f.live))

-- the atom is among them
abbrev IsSpoken : Af → Atom → Type 0
IsSpoken f atom = Contains (atoms f) atom

mode_spoken : (f : Af) (atom : Atom) → Contains mode_atoms atom → IsSpoken f atom
mode_spoken f atom c = Contains-append_left mode_atoms _ atom c

own_spoken : (f : Af) (a : ℕ) → Contains f.live a → (atom : Atom) → Contains (own_atoms a) atom → IsSpoken f atom
own_spoken f a live atom c =
    Contains-append_right mode_atoms _ atom
    (Contains-append_left (flat_map own_atoms f.live) _ atom (in_flat own_atoms f.live a atom live c))

attack_spoken : (f : Af) (b a : ℕ) → Attacks f b a → IsSpoken f (Attack b a)
attack_spoken f b a at =
    Contains-append_right mode_atoms _ (Attack b a)
    (Contains-append_right (flat_map own_atoms f.live) _ (Attack b a)
    (Contains-append_left (map attack_atom f.attacks) _ (Attack b a) (image_there attack_atom f.attacks (b, a) at)))

walk_spoken : (f : Af) (a i : ℕ) → Contains f.live a → Contains (starts f) i → (atom : Atom)
    → Contains (walk_atoms f a i) atom → IsSpoken f atom
walk_spoken f a i live start atom c =
    Contains-append_right mode_atoms _ atom
    (Contains-append_right (flat_map own_atoms f.live) _ atom
    (Contains-append_right (map attack_atom f.attacks) _ atom
    (in_flat (walks_atoms f) f.live a atom live (in_flat (walk_atoms f a) (starts f) i atom start c))))

member_spoken : (f : Af) (a : ℕ) → Contains f.live a → IsSpoken f (Member a)
member_spoken f a live = own_spoken f a live (Member a) (0, omega arith, refl)

live_spoken : (f : Af) (a : ℕ) → Contains f.live a → IsSpoken f (Live a)
live_spoken f a live = own_spoken f a live (Live a) (1, omega arith, refl)

range_spoken : (f : Af) (a : ℕ) → Contains f.live a → IsSpoken f (Range a)
range_spoken f a live = own_spoken f a live (Range a) (2, omega arith, refl)

tail_spoken : (f : Af) (a i : ℕ) → Contains f.live a → Contains (starts f) i → IsSpoken f (Tail a i)
tail_spoken f a i live start = walk_spoken f a i live start (Tail a i) (0, omega arith, refl)

unmet_spoken : (f : Af) (a i : ℕ) → Contains f.live a → Contains (starts f) i → IsSpoken f (Unmet a i)
unmet_spoken f a i live start = walk_spoken f a i live start (Unmet a i) (1, omega arith, refl)

end_spoken : (f : Af) (a i : ℕ) → Contains f.live a → Contains (starts f) i → IsSpoken f (Gap a i 1000001)
end_spoken f a i live start = walk_spoken f a i live start (Gap a i 1000001) (2, omega arith, refl)

gap_spoken : (f : Af) (a i j : ℕ) → Contains f.live a → Contains (starts f) i → Contains f.live j
    → IsSpoken f (Gap a i j)
gap_spoken f a i j live start there =
    let gaps : List Atom = map (gap_atom a i) f.live in
    walk_spoken f a i live start (Gap a i j)
    (Contains-tail (Tail a i) (Unmet a i ∷ Gap a i 1000001 ∷ gaps) (Gap a i j)
    (Contains-tail (Unmet a i) (Gap a i 1000001 ∷ gaps) (Gap a i j)
    (Contains-tail (Gap a i 1000001) gaps (Gap a i j) (image_there (gap_atom a i) f.live j there))))

-- where a walk may stand
first_start : (f : Af) → Contains (starts f) 1
first_start f = Contains-head 1 (map after f.live) 1 refl

next_start : (f : Af) (b : ℕ) → Contains f.live b → Contains (starts f) (b + 1)
next_start f b live = Contains-tail 1 (map after f.live) (b + 1) (image_there after f.live b live)

start_there : (f : Af) → IsNumberedAf f → (a i : ℕ) → IsWalkStart f a i → Contains (starts f) i
start_there f ok a i at =
    ⊎_elim (λ e. subst (λ n. Contains (starts f) n) (sym e) (first_start f))
    (λ w. subst (λ n. Contains (starts f) n) (sym w.2) (next_start f w.0 (ok.form.ends w.0 a w.1).0))
    at

cf_spoken : (f : Af) → IsSpoken f Cf
cf_spoken f = mode_spoken f Cf (0, omega arith, refl)

ad_spoken : (f : Af) → IsSpoken f Ad
ad_spoken f = mode_spoken f Ad (1, omega arith, refl)

co_spoken : (f : Af) → IsSpoken f Co
co_spoken f = mode_spoken f Co (2, omega arith, refl)

st_spoken : (f : Af) → IsSpoken f St
st_spoken f = mode_spoken f St (3, omega arith, refl)

-- the literal's atom is among them
abbrev IsSpokenLit : Af → AtomLit → Type 0
IsSpokenLit f l = IsSpoken f l.atom

notion_spoken : (f : Af) (part : ℕ) → AllByRecursion (IsSpokenLit f) (notion_clause part)
notion_spoken f part =
    cond_both (part == 1) _ _ (AllByRecursion (IsSpokenLit f)) (λ _. (ad_spoken f, (cf_spoken f, tt)))
    (λ _. cond_both (part == 2) _ _ (AllByRecursion (IsSpokenLit f)) (λ _. (co_spoken f, (ad_spoken f, tt)))
    (λ _. (st_spoken f, (co_spoken f, tt))))

clause_spoken : (f : Af) → IsNumberedAf f → (name : AxiomName) → IsNeeded (af f) name
    → AllByRecursion (IsSpokenLit f) (axiom_clause name)
clause_spoken f ok (OfAf (A1 a)) h = (cf_spoken f, (member_spoken f a h, (live_spoken f a h, tt)))
clause_spoken f ok (OfAf (A2 b a)) h =
    let ends = ok.form.ends b a h in
    (cf_spoken f, (attack_spoken f b a h, (member_spoken f a ends.1, (member_spoken f b ends.0, tt))))
clause_spoken f ok (OfAf (A3 b a)) h =
    let ends = ok.form.ends b a h in
    (ad_spoken f, (attack_spoken f b a h, (member_spoken f a ends.1, (tail_spoken f b 1 ends.0 (first_start f), tt))))
clause_spoken f ok (OfAf (A4 b a)) h =
    let ends = ok.form.ends b a h in
    (attack_spoken f b a h, (member_spoken f b ends.0, (tail_spoken f a 1 ends.1 (first_start f), tt)))
clause_spoken f ok (OfAf (A5 a i j)) h =
    let start = start_there f ok a i h.start in
    let target = (ok.form.ends j a h.attack).0 in (
      tail_spoken f a i h.live start,
      (
        gap_spoken f a i j h.live start target,
        (
          member_spoken f j target,
          (tail_spoken f a (j + 1) h.live (next_start f j target), tt),
        ),
      ),
    )
clause_spoken f ok (OfAf (A6 a i)) h =
    let start = start_there f ok a i h.start in
    (tail_spoken f a i h.live start, (end_spoken f a i h.live start, tt))
clause_spoken f ok (OfAf (A7 a)) h =
    (co_spoken f, (live_spoken f a h, (member_spoken f a h, (unmet_spoken f a 1 h (first_start f), tt))))
clause_spoken f ok (OfAf (A8 a i j)) h =
    let start = start_there f ok a i h.start in
    let target = (ok.form.ends j a h.attack).0 in (
      unmet_spoken f a i h.live start,
      (
        gap_spoken f a i j h.live start target,
        (tail_spoken f j 1 target (first_start f), (unmet_spoken f a (j + 1) h.live (next_start f j target), tt)),
      ),
    )
clause_spoken f ok (OfAf (A9 a i)) h =
    let start = start_there f ok a i h.start in
    (unmet_spoken f a i h.live start, (end_spoken f a i h.live start, tt))
clause_spoken f ok (OfAf (A10 a)) h =
    (st_spoken f, (live_spoken f a h, (member_spoken f a h, (tail_spoken f a 1 h (first_start f), tt))))
clause_spoken f ok (OfAf (A11 a)) h =
    (range_spoken f a h, (member_spoken f a h, (tail_spoken f a 1 h (first_start f), tt)))
clause_spoken f ok (OfAf (A12 a)) h = (member_spoken f a h, (range_spoken f a h, tt))
clause_spoken f ok (OfAf (A13 a)) h = (tail_spoken f a 1 h (first_start f), (range_spoken f a h, tt))
clause_spoken f ok (OfAf (A14 part)) h = notion_spoken f part
clause_spoken f ok (OfAba name) h = absurd h

spoken : (f : Af) → IsNumberedAf f → (name : AxiomName) → IsNeeded (af f) name → (l : AtomLit)
    → Contains (axiom_clause name) l → IsSpoken f l.atom
spoken f ok name h l c =
    All-contains (IsSpokenLit f) (axiom_clause name) l
    (All-from_recursion (IsSpokenLit f) (axiom_clause name) (clause_spoken f ok name h)) c

-- ---- what is so in the world

abbrev literal : Atom → Bool → AtomLit
literal atom positive = record { atom = atom; positive = positive }

abbrev told : (Atom → Bool) → Atom → AtomLit
told value atom = literal atom (value atom)

-- the literals that the valuation makes true
abbrev values_of : Af → (Atom → Bool) → List AtomLit
values_of f value = map (told value) (atoms f)

-- each has the sign of its value
sign_of : (f : Af) (value : Atom → Bool) (l : AtomLit) → Contains (values_of f value) l → value l.atom ≡ l.positive
sign_of f value l c =
    let w = image_from (told value) (atoms f) l c in
    subst (λ k. value k.atom ≡ k.positive) w.2 refl

other_sign : (b c : Bool) → (b ≡ c → ⊥) → c ≡ not b
other_sign true true apart = absurd (apart refl)
other_sign true false apart = refl
other_sign false true apart = refl
other_sign false false apart = absurd (apart refl)

same_sign : (b c : Bool) → (b ≡ c) ⊎ (b ≡ c → ⊥)
same_sign true true = inl refl
same_sign false false = inl refl
same_sign true false = inr (λ e. absurd (cc))
same_sign false true = inr (λ e. absurd (cc))

-- a literal that is true has the sign of its atom's value
pub sign_so : (positive v : Bool) (P : Type 0) → ((v ≡ true) ↔ P) → Says positive P → v ≡ positive
sign_so true v P iff h = iff.1 h
sign_so false true P iff h = absurd (h (iff.0 refl))
sign_so false false P iff h = refl

-- the value of a fact is its truth in each world of the framework
fact_reading : (f : Af) (s t : List ℕ) (sides : List (List AtomLit)) (atom : Atom) → IsAfFact atom
    → Holds (world_of (af f) s) [] atom ↔ Holds (world_of (af f) t) sides atom
fact_reading f s t sides (Live a) h = (λ x. x, λ x. x)
fact_reading f s t sides (Attack b a) h = (λ x. x, λ x. x)
fact_reading f s t sides (Gap a i j) h = (λ x. x, λ x. x)
fact_reading f s t sides _ h = absurd h

-- a mode is spoken of, and a set has it in the world where it has it in the framework
mode_there : (f : Af) (atom : Atom) → IsMode atom → IsSpoken f atom
mode_there f Cf h = cf_spoken f
mode_there f Ad h = ad_spoken f
mode_there f Co h = co_spoken f
mode_there f St h = st_spoken f
mode_there f _ h = absurd h

mode_holds : (f : Af) (s : List ℕ) (atom : Atom) → IsMode atom → HoldsOfAf f s atom → Holds (world_of (af f) s) [] atom
mode_holds f s Cf h so = so
mode_holds f s Ad h so = so
mode_holds f s Co h so = so
mode_holds f s St h so = so
mode_holds f s _ h so = absurd h

-- some literal of an axiom's clause is true in the world
true_one : (f : Af) (s : List ℕ) → IsAfWorld f s → (name : AxiomName) → IsNeeded (af f) name
    → IsTrueBeside (world_of (af f) s) [] (axiom_clause name)
true_one f s ok (OfAf name) needed = rows_are_valid name (world_of (af f) s) ok []
true_one f s ok (OfAba name) needed = absurd needed

-- an atom with its value is the literal or its negation
told_either : (values : List AtomLit) (l : AtomLit) (v : Bool) → Contains values (literal l.atom v)
    → Contains values l ⊎ Contains values (negated l)
told_either values l v c =
    ⊎_elim (λ e. inl (subst (λ b. Contains values (literal l.atom b)) e c))
    (λ other. inr (subst (λ b. Contains values (literal l.atom b)) (other_sign l.positive v (λ e. other (sym e))) c))
    (same_sign v l.positive)

model_of : (f : Af) (s : List ℕ) → IsNumberedAf f → IsWithin s f.live → (value : Atom → Bool)
    → IsValuation (world_of (af f) s) [] value → IsModelOf (af f) (values_of f value)
model_of f s ok within value reads = record {
  plain = λ w. not_itself w.0.positive (sym (sign_of f value w.0 w.1) ∙ sign_of f value (negated w.0) w.2);
  axioms = λ name needed.
      let world : IsAfWorld f s = record { framework = ok; members = λ a c. ok.live a (within a c) } in
      let found = true_one f s world name needed in
      let l = found.literal in
      let sign : value l.atom ≡ l.positive = sign_so l.positive (value l.atom) _ (reads l.atom) found.says in (
        l,
        found.member,
        subst (λ b. Contains (values_of f value) (literal l.atom b)) sign
            (image_there (told value) (atoms f) l.atom (spoken f ok name needed l found.member)),
      );
  facts = λ l c fact. record {
    fact = fact;
    reading = λ t sides.
        let sign : value l.atom ≡ l.positive = sign_of f value l c in
        let there = fact_reading f s t sides l.atom fact in
        (λ e. there.0 ((reads l.atom).0 (sign ∙ e)), λ so. sym sign ∙ (reads l.atom).1 (there.1 so));
  };
  told = λ name l needed c fact. told_either (values_of f value) l (value l.atom)
      (image_there (told value) (atoms f) l.atom (spoken f ok name needed l c));
}

-- an atom that is spoken of is affirmed exactly where it is so
affirmed_so : (f : Af) (s : List ℕ) (value : Atom → Bool) → IsValuation (world_of (af f) s) [] value → (atom : Atom)
    → Affirms (values_of f value) atom → Holds (world_of (af f) s) [] atom
affirmed_so f s value reads atom c = (reads atom).0 (sign_of f value (affirmed atom) c)

so_affirmed : (f : Af) (s : List ℕ) (value : Atom → Bool) → IsValuation (world_of (af f) s) [] value → (atom : Atom)
    → IsSpoken f atom → Holds (world_of (af f) s) [] atom → Affirms (values_of f value) atom
so_affirmed f s value reads atom there so =
    subst (λ b. Contains (values_of f value) (literal atom b)) ((reads atom).1 so)
    (image_there (told value) (atoms f) atom there)

pub set_has_model : (f : Af) (s : List ℕ) → IsNumberedAf f → IsWithin s f.live
    → (values : List AtomLit) × IsModelOfSet f values s
set_has_model f s ok within =
    let w = world_of (af f) s in
    let valuation = world_valuation w [] in
    let value : Atom → Bool = valuation.0 in
    let reads : IsValuation w [] value = valuation.1 in (
      values_of f value,
      record {
        model = model_of f s ok within value reads;
        read = λ a. (
          λ h. affirmed_so f s value reads (Member a) h.member,
          λ c. record {
            member = so_affirmed f s value reads (Member a) (member_spoken f a (within a c)) c;
            vouched = so_affirmed f s value reads (Live a) (live_spoken f a (within a c)) (within a c);
          },
        );
        modes = λ mode is so. so_affirmed f s value reads mode (mode_there f mode is) (mode_holds f s mode is so);
      },
    )
