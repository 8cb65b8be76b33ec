-- A model of the needed axioms which derives nothing unfounded tells of the set that it is read as what is so in the
-- framework.
use Rattle.std.proofs.Common.{◌≡◌, ◌+◌, ◌⊎◌, ℕ, Bool, true, false, List, [], ◌∷◌, arith, refl, subst, sym}
use Rattle.std.proofs.Common.{inl, inr, ⊎_elim}
use Rattle.std.specs.Prelude.{Contains, ◌↔◌}
use Rattle.std.proofs.lemmas.Bool.{false≢true}
use Rattle.lists.specs.Members.{IsSetOf}
use Rattle.lists.proofs.Membership.{Contains-nil, Contains-cons_cases}
use Rattle.semantics.specs.AbaFrameworks.{Aba, AttacksAssumption, IsAtom, IsNumberedAba, collective_of}
use Rattle.semantics.specs.Collectives.{Defends, IsAdmissible, IsComplete, IsConflictFree, IsStable, IsUnattacked}
use Rattle.semantics.specs.Rules.{Rule, Derives, given as from_given, by_rule}
use Rattle.aba_laws.proofs.AbaLemmas.{aba_lawful}
use Rattle.aba_laws.proofs.CollectiveSets.{defends_by_rest, rest_of}
use Rattle.aba_laws.proofs.DerivationLemmas.{derives_more}
use Rattle.semantics.specs.Frameworks.{aba}
use Rattle.meaning_atoms.specs.declared.aba_axiom.AbaAxiom.{AbaAxiom}
use Rattle.meaning_atoms.specs.declared.aba_axiom.AbaAxiom.TheVariants.{B1, B2, B3, B5, B7, B8, B12, B13, B14, B15, B16, B18, B19}
use Rattle.meaning_atoms.specs.declared.atom.Atom.{Atom}
use Rattle.meaning_atoms.specs.declared.atom.Atom.TheVariants.{Member, Range, Tail, Asm, Con, ConGap, Head, BGap, Der, Miss, Hit, Cf, Ad, Co, St}
use Rattle.meaning_atoms.specs.declared.atom.AtomLit.{AtomLit}
use Rattle.meaning_atoms.specs.declared.atom.Closure.{Closure}
use Rattle.meaning_atoms.specs.declared.atom.Closure.TheVariants.{Own, Rest}
use Rattle.meaning_atoms.specs.declared.axiom.AxiomName.TheVariants.{Aba as OfAba}
use Rattle.meaning_atoms.specs.AbaReadings.{HasContrary, HasHit, HasNoAtom, HasRule, IsInClosure}
use Rattle.meaning_atoms.specs.Literals.{affirmed, denied}
use Rattle.meaning_atoms.specs.Worlds.{world_of, Holds, HoldsOfAba, IsAbaFact, Says}
use Rattle.aba_axioms.specs.AbaTable.{aba_clause}
use Rattle.aba_axioms.proofs.FrameworkLemmas.{attack_hits, attacks_by}
use Rattle.af_axioms.specs.Facts.{IsFactValue}
use Rattle.oracle_face.specs.Decoding.{IsDecoded, IsModelOf, IsReadBackInAba, ReadsBack}
use Rattle.oracle_face.specs.Goals.{IsMode}
use Rattle.af_encoding.specs.Decoded.{Affirms}
use Rattle.oracle_face.specs.AbaNeeded.{IsNeededOfAba}
use Rattle.oracle_face.specs.Walks.{IsWalkEnd, IsWalkStep}
use Rattle.edit_rules.specs.AbaEdits.{contraries_of}
use Rattle.aba_encoding.proofs.ContraryLemmas.{contraries_ahead, contrary_low, contrary_under}
use Rattle.aba_encoding.proofs.NeededLemmas.{body_ahead, body_low, body_under}
use Rattle.aba_encoding.proofs.WalkLemmas.{walk_on}
use Rattle.aba_encoding.specs.AbaModels.{DescribesInAba, IsFounded}

abbrev literal : Atom → Bool → AtomLit
literal atom positive = record { atom = atom; positive = positive }

-- some literal of the clause is among the values
pub record Satisfies (values clause : List AtomLit) : Type 0 where
  pub literal : AtomLit
  pub member : Contains clause literal
  pub told : Contains values literal

module _ (f : Aba) (values : List AtomLit) (model : IsModelOf (aba f) values) where
  -- ---- what a model says

  -- no atom is affirmed and denied
  pub consistent : (atom : Atom) → Affirms values atom → Contains values (denied atom) → ⊥
  consistent atom here other = model.plain (affirmed atom, here, other)

  -- the clause of a needed axiom is satisfied
  pub satisfied : (name : AbaAxiom) → IsNeededOfAba f name → Satisfies values (aba_clause name)
  satisfied name needed = let w = model.axioms (OfAba name) needed in record { literal = w.0; member = w.1; told = w.2 }

  -- ---- reading a clause from the left

  -- nothing satisfies the empty clause
  pub none_left : Satisfies values [] → ⊥
  none_left h = Contains-nil h.literal h.member

  -- the first literal is told, or a later one is
  pub first_or_later : (l : AtomLit) (rest : List AtomLit) → Satisfies values (l ∷ rest)
      → Contains values l ⊎ Satisfies values rest
  first_or_later l rest h =
      ⊎_elim (λ e. inl (subst (λ k. Contains values k) (sym e) h.told))
      (λ c. inr (record { literal = h.literal; member = c; told = h.told }))
      (Contains-cons_cases l rest h.literal h.member)

  -- the last literal is told
  pub last_one : (l : AtomLit) → Satisfies values (l ∷ []) → Contains values l
  last_one l h = ⊎_elim (λ here. here) (λ none. absurd (none_left none)) (first_or_later l [] h)

  -- an atom that is affirmed is not denied
  pub affirmed_here : (atom : Atom) (rest : List AtomLit) → Affirms values atom
      → Satisfies values (denied atom ∷ rest) → Satisfies values rest
  affirmed_here atom rest told h =
      ⊎_elim (λ here. absurd (consistent atom told here)) (λ later. later) (first_or_later (denied atom) rest h)

  -- a fact that is so is not denied
  not_denied : (atom : Atom) → IsAbaFact atom → Holds (world_of (aba f) []) [] atom → Contains values (denied atom) → ⊥
  not_denied atom fact so here =
      let value : IsFactValue (aba f) atom false = model.facts (denied atom) here fact in
      false≢true ((value.reading [] []).1 so)

  pub fact_here : (atom : Atom) (rest : List AtomLit) → IsAbaFact atom → Holds (world_of (aba f) []) [] atom
      → Satisfies values (denied atom ∷ rest) → Satisfies values rest
  fact_here atom rest fact so h =
      ⊎_elim (λ here. absurd (not_denied atom fact so here)) (λ later. later) (first_or_later (denied atom) rest h)

  -- a fact that is affirmed is so
  pub fact_so : (atom : Atom) → IsAbaFact atom → Affirms values atom → Holds (world_of (aba f) []) [] atom
  fact_so atom fact here =
      let value : IsFactValue (aba f) atom true = model.facts (affirmed atom) here fact in (value.reading [] []).0 refl

  -- a fact of which a needed axiom speaks is affirmed where it is so
  pub fact_told : (name : AbaAxiom) (atom : Atom) → IsNeededOfAba f name → Contains (aba_clause name) (denied atom)
      → IsAbaFact atom → Holds (world_of (aba f) []) [] atom → Affirms values atom
  fact_told name atom needed c fact so =
      ⊎_elim (λ here. absurd (not_denied atom fact so here)) (λ told. told)
      (model.told (OfAba name) (denied atom) needed c fact)

  -- an assumption is affirmed to be one
  pub assumption_told : IsNumberedAba f → (a : ℕ) → Contains f.assumptions a → Affirms values (Asm a)
  assumption_told form a c =
      ⊎_elim (λ told. told) (λ here. absurd (not_denied (Asm a) tt c here))
      (model.told (OfAba (B1 a)) (affirmed (Asm a)) (form.form.assumptions_are a c) (2, omega arith, refl) tt)

  -- ---- the head of a rule whose body is affirmed is affirmed

  pub head_told : IsNumberedAba f → (k : Closure) (r : Rule) (there : Contains f.rules r)
      → ((y : ℕ) → Contains r.body y → Affirms values (Der k y)) → Affirms values (Der k r.head)
  head_told form k r there body =
      let rule : (P : Rule → Type 0) → P r → HasRule f r.number P
      = λ P h. record { rule = r; there = there; numbered = refl; says = h } in
      ⊎_elim
      (λ missed. absurd (walk_on (Contains r.body) (body_low f form r there) (body_under f form r there)
      (λ i. Affirms values (Miss k r.number i)) ⊥
      (λ i j step on. inl (last_one (affirmed (Miss k r.number (j + 1)))
      (affirmed_here (Der k j) _ (body j step.stop)
      (fact_here (BGap r.number i j) _ tt (rule (HasNoAtom i j) step.gap)
      (affirmed_here (Miss k r.number i) _ on
      (satisfied (B7 k r.number i j) (rule (λ q. IsWalkStep (Contains q.body) i j) step)))))))
      (λ i end on. none_left
      (fact_here (BGap r.number i 1000001) [] tt (rule (HasNoAtom i 1000001) end.gap)
      (affirmed_here (Miss k r.number i) _ on
      (satisfied (B8 k r.number i) (rule (λ q. IsWalkEnd (Contains q.body) i) end)))))
      1 r.body (body_ahead f form r there) missed))
      (λ later. last_one (affirmed (Der k r.head)) later)
      (first_or_later (affirmed (Miss k r.number 1)) (affirmed (Der k r.head) ∷ [])
      (fact_here (Head r.number r.head) _ tt (rule (λ q. q.head ≡ r.head) refl)
      (satisfied (B5 k r.number r.head) (rule (λ q. q.head ≡ r.head) refl))))

  -- ---- a contrary of an assumption that is hit is affirmed

  -- a contrary which the values affirm to be in the closure
  pub record IsHit (k : Closure) (a : ℕ) : Type 0 where
    pub contrary : ℕ
    pub is : HasContrary f a contrary
    pub told : Affirms values (Der k contrary)

  pub hit_told : IsNumberedAba f → (k : Closure) (a : ℕ) → Contains f.assumptions a → Affirms values (Hit k a 1)
      → IsHit k a
  hit_told form k a live hit =
      walk_on (HasContrary f a) (contrary_low f form a) (contrary_under f form a) (λ i. Affirms values (Hit k a i))
      (IsHit k a)
      (λ i j step on. ⊎_elim
      (λ derived. inr (record { contrary = j; is = step.stop; told = derived }))
      (λ later. inl (last_one (affirmed (Hit k a (j + 1))) later))
      (first_or_later (affirmed (Der k j)) (affirmed (Hit k a (j + 1)) ∷ [])
      (fact_here (ConGap a i j) _ tt (record { assumption = live; none = step.gap })
      (affirmed_here (Hit k a i) _ on (satisfied (B18 k a i j) (live, step))))))
      (λ i end on. absurd (none_left
      (fact_here (ConGap a i 1000001) [] tt (record { assumption = live; none = end.gap })
      (affirmed_here (Hit k a i) _ on (satisfied (B19 k a i) (live, end))))))
      1 (contraries_of f.contraries a) (contraries_ahead f form a) hit

module _ (f : Aba) (values : List AtomLit) (s : List ℕ) (form : IsNumberedAba f) (model : IsModelOf (aba f) values)
    (decoded : IsSetOf (IsDecoded Asm values) s) where
  -- ---- members

  member_told : (a : ℕ) → Contains s a → Affirms values (Member a)
  member_told a c = ((decoded.members a).0 c).member

  pub member_assumption : (a : ℕ) → Contains s a → Contains f.assumptions a
  member_assumption a c = fact_so f values model (Asm a) tt ((decoded.members a).0 c).vouched

  pub told_member : (a : ℕ) → Contains f.assumptions a → Affirms values (Member a) → Contains s a
  told_member a is told =
      (decoded.members a).1 (record { member = told; vouched = assumption_told f values model form a is })

  -- ---- what is in a closure is affirmed to be

  own_given_told : (x : ℕ) → Contains s x → Affirms values (Der Own x)
  own_given_told x c =
      last_one f values model (affirmed (Der Own x))
      (affirmed_here f values model (Member x) _ (member_told x c)
      (satisfied f values model (B2 x) (member_assumption x c)))

  derived_told : (P : ℕ → Type 0) (k : Closure) → ((x : ℕ) → P x → Affirms values (Der k x)) → (x : ℕ)
      → Derives f.rules P x → Affirms values (Der k x)
  derived_told P k given_told x (from_given _ p) = given_told x p
  derived_told P k given_told x (by_rule r _ there head body) =
      subst (λ y. Affirms values (Der k y)) head
      (head_told f values model form k r there (λ y c. derived_told P k given_told y (body y c)))

  pub own_told : (x : ℕ) → Derives f.rules (Contains s) x → Affirms values (Der Own x)
  own_told = derived_told (Contains s) Own own_given_told

  module _ (own : IsFounded f values s Own) where
    -- what is affirmed to be hit is attacked
    pub hit_attacked : (a : ℕ) → Contains f.assumptions a → Affirms values (Hit Own a 1) → AttacksAssumption f s a
    hit_attacked a live hit =
        let w = hit_told f values model form Own a live hit in
        attacks_by f form.form s a w.contrary w.is
        (own w.contrary (form.form.contraries_are a w.contrary w.is).1 w.told)

    rest_given_told : (x : ℕ) → IsUnattacked (collective_of f) s x → Affirms values (Der Rest x)
    rest_given_told x u =
        ⊎_elim (λ hit. absurd (u.quiet (hit_attacked x u.live hit)))
        (λ later. last_one f values model (affirmed (Der Rest x)) later)
        (first_or_later f values model (affirmed (Hit Own x 1)) (affirmed (Der Rest x) ∷ [])
        (fact_here f values model (Asm x) _ tt u.live (satisfied f values model (B3 x) u.live)))

    pub rest_told : (x : ℕ) → Derives f.rules (IsUnattacked (collective_of f) s) x → Affirms values (Der Rest x)
    rest_told = derived_told (IsUnattacked (collective_of f) s) Rest rest_given_told

    module _ (rest : IsFounded f values s Rest) where
      closures_are : (k : Closure) (x : ℕ) → IsAtom f.atoms x → Affirms values (Der k x) ↔ IsInClosure f s k x
      closures_are Own x atom = (own x atom, own_told x)
      closures_are Rest x atom = (rest x atom, rest_told x)

      -- ---- the modes

      conflict_free_so : Affirms values Cf → IsConflictFree (collective_of f) s
      conflict_free_so told = record {
        live = member_assumption;
        apart = λ a c at. none_left f values model
            (affirmed_here f values model (Der Own at.contrary) _ (own_told at.contrary at.derived)
            (affirmed_here f values model (Member a) _ (member_told a c)
            (fact_here f values model (Con a at.contrary) _ tt at.is
            (affirmed_here f values model Cf _ told (satisfied f values model (B12 a at.contrary) at.is)))));
      }

      -- a set that derives a contrary from what is unattacked
      quiet_rest : (a : ℕ) → ((c : ℕ) → HasContrary f a c → Affirms values (Der Rest c) → ⊥)
          → Defends (collective_of f) s a
      quiet_rest a none =
          let made = rest_of (collective_of f) (aba_lawful f) s in
          (defends_by_rest (collective_of f) (aba_lawful f) s made.0 a made.1).1
          (λ at. none at.contrary at.is
          (rest_told at.contrary
          (derives_more f.rules (Contains made.0) (IsUnattacked (collective_of f) s) (λ y c. (made.1 y).0 c) at.contrary
          at.derived)))

      not_hit : (a : ℕ) → Contains f.assumptions a → Defends (collective_of f) s a → Affirms values (Hit Rest a 1) → ⊥
      not_hit a live defends hit =
          let w = hit_told f values model form Rest a live hit in
          let made = rest_of (collective_of f) (aba_lawful f) s in
          (defends_by_rest (collective_of f) (aba_lawful f) s made.0 a made.1).0 defends
          (attacks_by f form.form made.0 a w.contrary w.is
          (derives_more f.rules (IsUnattacked (collective_of f) s) (Contains made.0) (λ y u. (made.1 y).1 u) w.contrary
          (rest w.contrary (form.form.contraries_are a w.contrary w.is).1 w.told)))

      admissible_so : Affirms values Ad → IsAdmissible (collective_of f) s
      admissible_so told = record {
        conflict_free = conflict_free_so
            (last_one f values model (affirmed Cf)
            (affirmed_here f values model Ad _ told (satisfied f values model (B16 1) (omega arith, omega arith))));
        defended = λ a c. quiet_rest a (λ con is derived. none_left f values model
            (affirmed_here f values model (Der Rest con) _ derived
            (affirmed_here f values model (Member a) _ (member_told a c)
            (fact_here f values model (Con a con) _ tt is
            (affirmed_here f values model Ad _ told (satisfied f values model (B13 a con) is))))));
      }

      complete_so : Affirms values Co → IsComplete (collective_of f) s
      complete_so told = record {
        admissible = admissible_so
            (last_one f values model (affirmed Ad)
            (affirmed_here f values model Co _ told (satisfied f values model (B16 2) (omega arith, omega arith))));
        closed = λ a live defends. ⊎_elim (λ hit. absurd (not_hit a live defends hit))
            (λ later. told_member a live (last_one f values model (affirmed (Member a)) later))
            (first_or_later f values model (affirmed (Hit Rest a 1)) (affirmed (Member a) ∷ [])
            (fact_here f values model (Asm a) _ tt live
            (affirmed_here f values model Co _ told (satisfied f values model (B14 a) live))));
      }

      stable_so : Affirms values St → IsStable (collective_of f) s
      stable_so told =
          let complete = complete_so
          (last_one f values model (affirmed Co)
          (affirmed_here f values model St _ told (satisfied f values model (B16 3) (omega arith, omega arith)))) in
          record {
            conflict_free = complete.admissible.conflict_free;
            attacks_outside = λ a live out. ⊎_elim (λ member. absurd (out (told_member a live member)))
                (λ later. hit_attacked a live (last_one f values model (affirmed (Hit Own a 1)) later))
                (first_or_later f values model (affirmed (Member a)) (affirmed (Hit Own a 1) ∷ [])
                (fact_here f values model (Asm a) _ tt live
                (affirmed_here f values model St _ told (satisfied f values model (B15 a) live))));
          }

      -- ---- all of it

      modes_so : (mode : Atom) → IsMode mode → Affirms values mode → HoldsOfAba f s mode
      modes_so Cf h told = conflict_free_so told
      modes_so Ad h told = admissible_so told
      modes_so Co h told = complete_so told
      modes_so St h told = stable_so told
      modes_so _ h told = absurd h

      pub model_describes : DescribesInAba f values s
      model_describes = record {
        modes = modes_so;
        members = λ a live. (told_member a live, member_told a);
        closures = closures_are;
        attacked = hit_attacked;
      }

      says_so : (atom : Atom) (positive : Bool) → Contains values (literal atom positive)
          → IsReadBackInAba f atom positive → Says positive (HoldsOfAba f s atom)
      says_so (Member a) true there live = told_member a live there
      says_so (Member a) false there live =
          λ c. consistent f values model (Member a) (member_told a c) there
      says_so (Der k x) true there atom = (closures_are k x atom).0 there
      says_so (Der k x) false there atom =
          λ so. consistent f values model (Der k x) ((closures_are k x atom).1 so) there
      says_so (Hit Own a i) true there place =
          let told : Affirms values (Hit Own a 1) =
          subst (λ n. Contains values (affirmed (Hit Own a n))) place.1 there in
          subst (λ n. HasHit f s Own a n) (sym place.1)
          (attack_hits f form.form s a (hit_attacked a place.0 told))
      says_so (Range a) true there fixed = tt
      says_so (Tail a i) true there fixed = tt
      says_so Cf true there mode = conflict_free_so there
      says_so Ad true there mode = admissible_so there
      says_so Co true there mode = complete_so there
      says_so St true there mode = stable_so there
      says_so _ _ there none = absurd none

      pub model_reads_back : ReadsBack (aba f) values s
      model_reads_back = record { says = λ l there read. says_so l.atom l.positive there read }
