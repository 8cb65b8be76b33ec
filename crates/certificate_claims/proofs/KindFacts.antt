-- What depends on the kind of a framework: each kind gives these facts, by cases, and all else about frameworks of both
-- kinds follows from them.
use Rattle.std.proofs.Common.{ℕ, List, [], arith}
use Rattle.std.specs.Prelude.{◌≡◌, ◌↔◌, true, Contains}
use Rattle.std.specs.List.{list_any}
use Rattle.lists.specs.Members.{IsWithin}
use Rattle.lists.proofs.Filters.{Contains-filter}
use Rattle.lists.proofs.ListTests.{any_gives, any_from}
use Rattle.iccma_tasks.specs.semantics.specs.Arguments.{IsArgument}
use Rattle.iccma_tasks.specs.semantics.specs.Frameworks.{Framework, af, aba, IsNumbered}
use Rattle.iccma_tasks.specs.semantics.specs.AbaFrameworks.{collective_of}
use Rattle.iccma_tasks.specs.semantics.specs.Collectives as joint
use Rattle.iccma_tasks.specs.semantics.proofs.Decided.{Decided, decide_member}
use Rattle.iccma_tasks.specs.semantics.proofs.Existence.{empty_admissible, preferred_round}
use Rattle.iccma_tasks.specs.semantics.proofs.Extensions.{preferred_complete, stable_largest}
use Rattle.aba_axioms.specs.aba_laws.specs.AfNotions.{collective_for}
use Rattle.aba_axioms.specs.aba_laws.proofs.AbaLemmas.{aba_lawful}
use Rattle.aba_axioms.specs.aba_laws.proofs.AfAgreement.{notions_agree}
use Rattle.aba_axioms.specs.aba_laws.proofs.CollectiveExtensions as collective_extensions
use Rattle.aba_axioms.specs.aba_laws.proofs.CollectiveSets as collective_sets
use Rattle.aba_axioms.specs.aba_laws.proofs.DerivationLemmas.{decide_derives, derives_more}
use Rattle.aba_axioms.specs.meaning_atoms.specs.declared.atom.Atom.TheVariants.{Member, Ad, Co, St}
use Rattle.aba_axioms.specs.meaning_atoms.specs.declared.axiom.AxiomName.{AxiomName}
use Rattle.aba_axioms.specs.meaning_atoms.specs.declared.axiom.AxiomName.TheVariants.{Af as OfAf, Aba as OfAba}
use Rattle.aba_axioms.specs.meaning_atoms.specs.Literals.{negated}
use Rattle.aba_axioms.specs.meaning_atoms.specs.Worlds.{IsWorldOf, HoldsOf, Says, IsAsk, IsValid}
use Rattle.af_axioms.proofs.Rows.{rows_are_valid}
use Rattle.aba_axioms.proofs.FrameworkLemmas.{attack_hits}
use Rattle.aba_axioms.proofs.Validity.{clauses_are_valid}
use Rattle.iccma_tasks.specs.declared.task.Semantics.TheVariants.{Complete, Grounded, Preferred, Stable, SemiStable, Ideal, Stage}
use Rattle.certificate_claims.specs.Refutations.{IsAxiomOf, axiom_clause}
use Rattle.certificate_claims.specs.Rights.{Accepts, IsExtension}
use Rattle.certificate_claims.specs.SetLiterals.{goal, hits, hit_by_any, members, struck}
use Rattle.certificate_claims.proofs.SetTests.{hits_from, hits_gives}
use Rattle.certificate_claims.proofs.Theories.{hits_assumption}

-- ---- numbers

-- the numbers that sets are made of are within their bounds
pub numbered_members : (f : Framework) → IsNumbered f → (a : ℕ) → Contains (members f) a → IsArgument a
numbered_members (af f) ok a c = ok.live a c
numbered_members (aba f) ok a c =
    let is = ok.form.assumptions_are a c in
    record { low = is.low; high = omega (arith, is.high, ok.atoms) }

-- a set of them is one of a world
pub members_world : (f : Framework) (s : List ℕ) → IsNumbered f → IsWithin s (members f) → IsWorldOf f s
members_world (af f) s ok live = record { framework = ok; members = λ a c. ok.live a (live a c) }
members_world (aba f) s ok live = record {
  framework = ok;
  members = λ a c. numbered_members (aba f) ok a (live a c);
}

-- the atom of membership says it
pub member_is : (f : Framework) (s : List ℕ) (a : ℕ) → HoldsOf f s (Member a) ↔ Contains s a
member_is (af f) s a = (λ h. h, λ h. h)
member_is (aba f) s a = (λ h. h, λ h. h)

-- the axioms of the kind hold in all worlds
pub axiom_valid : (f : Framework) (name : AxiomName) → IsAxiomOf f name → IsValid (axiom_clause name)
axiom_valid (af f) (OfAf name) is = rows_are_valid name
axiom_valid (aba f) (OfAf name) is = absurd is
axiom_valid (af f) (OfAba name) is = absurd is
axiom_valid (aba f) (OfAba name) is = clauses_are_valid name is

-- ---- modes

pub admissible_members : (f : Framework) (s : List ℕ) → HoldsOf f s Ad → IsWithin s (members f)
admissible_members (af f) s h = h.conflict_free.live
admissible_members (aba f) s h = h.conflict_free.live

pub complete_admissible : (f : Framework) (s : List ℕ) → HoldsOf f s Co → HoldsOf f s Ad
complete_admissible (af f) s h = h.admissible
complete_admissible (aba f) s h = h.admissible

pub stable_admissible : (f : Framework) (s : List ℕ) → IsNumbered f → HoldsOf f s St → HoldsOf f s Ad
stable_admissible (af f) s ok h = ((stable_largest f ok.form).preferred s h).admissible
stable_admissible (aba f) s ok h =
    (collective_extensions.stable_preferred (collective_of f) (aba_lawful f) s h).admissible

pub none_admissible : (f : Framework) → HoldsOf f [] Ad
none_admissible (af f) = empty_admissible f
none_admissible (aba f) = collective_sets.empty_admissible (collective_of f) (aba_lawful f)

-- each admissible set lies in a complete one
pub complete_round : (f : Framework) (s : List ℕ) → HoldsOf f s Ad → (c : List ℕ) × HoldsOf f c Co × IsWithin s c
complete_round (af f) s h = let p = preferred_round f s h in (p.0, preferred_complete f p.0 p.1, p.2)
complete_round (aba f) s h =
    let d = collective_of f in
    let p = collective_extensions.preferred_round d (aba_lawful f) s h in
    (p.0, collective_extensions.preferred_complete d (aba_lawful f) p.0 p.1, p.2)

-- ---- extensions

-- admissible, and within no larger admissible set
pub record IsLargest (f : Framework) (s : List ℕ) : Type 0 where
  pub admissible : HoldsOf f s Ad
  pub maximal : (t : List ℕ) → HoldsOf f t Ad → IsWithin s t → IsWithin t s

-- complete, and part of each complete set
pub record IsLeastComplete (f : Framework) (s : List ℕ) : Type 0 where
  pub complete : HoldsOf f s Co
  pub least : (t : List ℕ) → HoldsOf f t Co → IsWithin s t

pub complete_is : (f : Framework) (s : List ℕ) → IsExtension f Complete s ↔ HoldsOf f s Co
complete_is (af f) s = (λ h. h, λ h. h)
complete_is (aba f) s = (λ h. h, λ h. h)

pub stable_is : (f : Framework) (s : List ℕ) → IsExtension f Stable s ↔ HoldsOf f s St
stable_is (af f) s = (λ h. h, λ h. h)
stable_is (aba f) s = (λ h. h, λ h. h)

pub preferred_is : (f : Framework) (s : List ℕ) → IsExtension f Preferred s ↔ IsLargest f s
preferred_is (af f) s = (
  λ h. record { admissible = h.admissible; maximal = h.maximal },
  λ h. record { admissible = h.admissible; maximal = h.maximal },
)
preferred_is (aba f) s = (
  λ h. record { admissible = h.admissible; maximal = h.maximal },
  λ h. record { admissible = h.admissible; maximal = h.maximal },
)

pub grounded_is : (f : Framework) (s : List ℕ) → IsExtension f Grounded s ↔ IsLeastComplete f s
grounded_is (af f) s = (
  λ h. record { complete = h.complete; least = h.least },
  λ h. record { complete = h.complete; least = h.least },
)
grounded_is (aba f) s = (
  λ h. record { complete = h.complete; least = h.least },
  λ h. record { complete = h.complete; least = h.least },
)

-- semi-stable and stage sets, for which abstract frameworks alone are asked; the notions are there for both kinds
pub semi_stable_admissible : (f : Framework) (s : List ℕ) → IsExtension f SemiStable s → HoldsOf f s Ad
semi_stable_admissible (af f) s h = h.has_mode
semi_stable_admissible (aba f) s h = h.has_mode

pub stage_members : (f : Framework) (s : List ℕ) → IsExtension f Stage s → IsWithin s (members f)
stage_members (af f) s h = h.has_mode.live
stage_members (aba f) s h = h.has_mode.live

pub ideal_admissible : (f : Framework) (s : List ℕ) → IsExtension f Ideal s → HoldsOf f s Ad
ideal_admissible (af f) s h = h.in_all.admissible
ideal_admissible (aba f) s h = h.in_all.admissible

pub ideal_within : (f : Framework) (s t : List ℕ) → IsExtension f Ideal s → IsExtension f Ideal t → IsWithin s t
ideal_within (af f) s t left right = right.largest s left.in_all
ideal_within (aba f) s t left right = right.largest s left.in_all

-- ---- queries

-- the goal says that the set accepts the query, and denied that it doesn't
pub goal_is : (f : Framework) (s : List ℕ) (q : ℕ) → Says (goal f q).positive (HoldsOf f s (goal f q).atom)
    ↔ Accepts f s q
goal_is (af f) s q = (λ h. h, λ h. h)
goal_is (aba f) s q = (λ h. h, λ h. h)

pub denied_is : (f : Framework) (s : List ℕ) (q : ℕ)
    → Says (negated (goal f q)).positive (HoldsOf f s (negated (goal f q)).atom) ↔ (Accepts f s q → ⊥)
denied_is (af f) s q = (λ h. h, λ h. h)
denied_is (aba f) s q = (λ h. h, λ h. h)

pub goal_asks_nothing : (f : Framework) (q : ℕ) → IsAsk (goal f q).atom → ⊥
goal_asks_nothing (af f) q h = h
goal_asks_nothing (aba f) q h = h

pub decide_accepts : (f : Framework) (s : List ℕ) (q : ℕ) → Decided (Accepts f s q)
decide_accepts (af f) s q = decide_member s q
decide_accepts (aba f) s q = decide_derives f.rules s q

-- what a set accepts, a larger one does
pub accepts_more : (f : Framework) (s t : List ℕ) (q : ℕ) → IsWithin s t → Accepts f s q → Accepts f t q
accepts_more (af f) s t q sub h = sub q h
accepts_more (aba f) s t q sub h = derives_more f.rules (Contains s) (Contains t) sub q h

-- ---- attacks

-- the test tells what the set attacks
pub hit_is : (f : Framework) (s : List ℕ) (a : ℕ) → (hits f s a ≡ true) ↔ (collective_for f).attacks s a
hit_is (af f) s a = (hits_gives f s a, hits_from f s a)
hit_is (aba f) s a = hits_assumption f s a

-- what is attacked is one of the numbers that sets are made of
pub attacked_member : (f : Framework) (s : List ℕ) (a : ℕ) → IsNumbered f → (collective_for f).attacks s a
    → Contains (members f) a
attacked_member (af f) s a ok at = (ok.form.ends at.0 a at.2).1
attacked_member (aba f) s a ok at = (ok.form.contraries_are a at.contrary at.is).0

-- what some set of a list attacks
pub in_hit_list : (f : Framework) (sets : List (List ℕ)) (a : ℕ) → IsNumbered f
    → Contains (hit_by_any f sets) a ↔ ((t : List ℕ) × Contains sets t × (collective_for f).attacks t a)
in_hit_list f sets a ok = (
  λ c. let m = any_gives (λ t. hits f t a) sets
      ((Contains-filter (λ x. list_any (λ t. hits f t x) sets) (members f) a).0 c).1 in
      (m.0, m.1, (hit_is f m.0 a).0 m.2),
  λ h. (Contains-filter (λ x. list_any (λ t. hits f t x) sets) (members f) a).1
      (attacked_member f h.0 a ok h.2, any_from (λ t. hits f t a) sets h.0 h.1 ((hit_is f h.0 a).1 h.2)),
)

-- the literal says that the set attacks it
pub struck_is : (f : Framework) (s : List ℕ) (a : ℕ) → IsNumbered f
    → Says (struck f a).positive (HoldsOf f s (struck f a).atom) ↔ (collective_for f).attacks s a
struck_is (af f) s a ok = (
  λ h. (h.attacker, h.member, h.attack),
  λ at. record {
    attacker = at.0;
    late = (ok.live at.0 (ok.form.ends at.0 a at.2).0).low;
    member = at.1;
    attack = at.2;
  },
)
struck_is (aba f) s a ok = (
  λ h. record { contrary = h.contrary; is = h.is; derived = h.derived },
  attack_hits f ok.form s a,
)

-- admissible and ideal sets are those under collective attacks
pub admissible_is : (f : Framework) (s : List ℕ) → IsNumbered f
    → HoldsOf f s Ad ↔ joint.IsAdmissible (collective_for f) s
admissible_is (af f) s ok = (notions_agree f ok.form).admissible s
admissible_is (aba f) s ok = (λ h. h, λ h. h)

pub ideal_is : (f : Framework) (s : List ℕ) → IsNumbered f → IsExtension f Ideal s ↔ joint.IsIdeal (collective_for f) s
ideal_is (af f) s ok = (notions_agree f ok.form).ideal s
ideal_is (aba f) s ok = (λ h. h, λ h. h)

pub struck_asks_nothing : (f : Framework) (a : ℕ) → IsAsk (struck f a).atom → ⊥
struck_asks_nothing (af f) a h = h
struck_asks_nothing (aba f) a h = h
