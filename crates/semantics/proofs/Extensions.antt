-- The laws of specs/Laws.
use Rattle.std.proofs.Common.{inl, inr, ⊎_elim, ℕ, List, [], ◌∷◌, ◌++◌, refl}
use Rattle.std.specs.Prelude.{Contains}
use Rattle.lists.proofs.Membership.{Contains-pushed}
use Rattle.semantics.specs.declared.mode.Mode.{Mode}
use Rattle.semantics.specs.declared.mode.Mode.TheVariants.{Cf, Ad}
use Rattle.semantics.specs.Framework.{Af, IsAf, IsInRange, IsAdmissible, IsPreferred, IsStable, IsOfMode, IsWidest, IsSemiStable}
use Rattle.semantics.specs.Laws.{GroundedIsUnique, StableIsLargest, PreferredIsComplete, SemiStableIsPreferred, UnattackedIsInAll, AttacksMember, IdealIsUnique}
use Rattle.semantics.proofs.Decided.{decide_member}
use Rattle.semantics.proofs.AdmissibleSets.{added_admissible, union_admissible, within_left, within_right}
use Rattle.semantics.proofs.Grounded.{grounded_exists}
use Rattle.semantics.proofs.SameMembers.{range_more, mode_live}
use Rattle.semantics.proofs.Existence.{ideal_exists}

pub grounded_unique : (f : Af) → GroundedIsUnique f
grounded_unique f = record {
  exists = grounded_exists f;
  one = λ s t gs gt. record { there = gs.least t gt.complete; back = gt.least s gs.complete };
  admissible = λ s g. g.complete.admissible;
  in_complete = λ s t g c. g.least t c;
}

stable_admissible : (f : Af) → IsAf f → (s : List ℕ) → IsStable f s → IsAdmissible f s
stable_admissible f form s st = record {
  conflict_free = st.conflict_free;
  defended = λ a c b at. st.attacks_outside b (form.ends b a at).0 (λ in_s. st.conflict_free.apart b a in_s c at);
}

-- each live argument is in a stable set's range
covers : (f : Af) (s : List ℕ) → IsStable f s → (a : ℕ) → Contains f.live a → IsInRange f s a
covers f s st a live = ⊎_elim (λ c. inl c) (λ no. inr (st.attacks_outside a live no)) (decide_member s a)

stable_widest : (mode : Mode) (f : Af) → IsAf f → (s : List ℕ) → IsStable f s → IsOfMode mode f s → IsWidest mode f s
stable_widest mode f form s st own = record {
  has_mode = own;
  widest = λ t ok wider a h. ⊎_elim
      (λ c. covers f s st a (mode_live mode f t ok a c))
      (λ hit. covers f s st a (form.ends hit.0 a hit.2).1) h;
}

pub stable_largest : (f : Af) → IsAf f → StableIsLargest f
stable_largest f form = record {
  preferred = λ s st. record {
    admissible = stable_admissible f form s st;
    maximal = λ t ok sub x c. ⊎_elim (λ k. k)
        (λ h. absurd (ok.conflict_free.apart h.0 x (sub h.0 h.1) c h.2))
        (covers f s st x (ok.conflict_free.live x c));
  };
  semi_stable = λ s st. stable_widest Ad f form s st (stable_admissible f form s st);
  stage = λ s st. stable_widest Cf f form s st st.conflict_free;
}

pub preferred_complete : (f : Af) → PreferredIsComplete f
preferred_complete f s p = record {
  admissible = p.admissible;
  closed = λ a live d.
      p.maximal (s ++ a ∷ []) (added_admissible f s a p.admissible live d) (within_left s (a ∷ [])) a
      (Contains-pushed s a a refl);
}

-- where no admissible set has a larger range, none is larger
widest_preferred : (f : Af) (s : List ℕ) → IsSemiStable f s → IsPreferred f s
widest_preferred f s w = record {
  admissible = w.has_mode;
  maximal = λ t ok sub x c. ⊎_elim (λ k. k) (λ hit. absurd (ok.conflict_free.apart hit.0 x (sub hit.0 hit.1) c hit.2))
      (w.widest t ok (range_more f s t sub) x (inl c));
}

pub semi_stable_preferred : (f : Af) → SemiStableIsPreferred f
semi_stable_preferred f = record {
  preferred = widest_preferred f;
  complete = λ s w. preferred_complete f s (widest_preferred f s w);
}

pub unattacked_in_all : (f : Af) → UnattackedIsInAll f
unattacked_in_all f s ok none = record {
  admissible = ok;
  within = λ p pref.
      let quiet = none p pref.admissible in
      let back = λ (h : AttacksMember f s p). let hit = pref.admissible.defended h.0 h.1 h.2.0 h.2.2 in
      quiet (h.2.0, h.2.1, hit) in
      λ x c. pref.maximal (p ++ s) (union_admissible f p s pref.admissible ok quiet back) (within_left p s) x
      (within_right p s x c);
}

pub ideal_unique : (f : Af) → IdealIsUnique f
ideal_unique f = record {
  exists = ideal_exists f;
  one = λ s t is it. record { there = it.largest s is.in_all; back = is.largest t it.in_all };
  admissible = λ s i. i.in_all.admissible;
}
