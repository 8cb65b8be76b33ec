-- Which assumptions a set attacks and defends, and the notions of extension by them.
use Rattle.std.proofs.Common.{◌≡◌, ℕ, ◌+◌, ◌<◌, ◌≤◌, Bool, List, [], length, get_or, arith, subst, sym, ap, inl, inr, ⊎_elim, ◌∙◌}
use Rattle.std.specs.Prelude.{◌↔◌, ◌⊎◌, Contains, IsTrue}
use Rattle.std.proofs.lemmas.Bool.{cases_eq}
use Rattle.std.proofs.lemmas.List.{get_or_default}
use Rattle.std.proofs.lemmas.List.Elements.{Contains-get_or}
use Rattle.lists.specs.Members.{IsSetOf, IsWithin}
use Rattle.aba_laws.specs.semantics.proofs.Decided.{decide_member}
use Rattle.semantics.specs.Rules.{Derives, given, by_rule}
use Rattle.semantics.specs.Collectives.{Collective, IsUnattacked, IsDefended, IsConflictFree, IsAdmissible, IsComplete, IsStable}
use Rattle.semantics.specs.AbaFrameworks.{Aba, AttacksAssumption, IsNumberedAba, collective_of}
use Rattle.aba_laws.proofs.CollectiveSets.{IsLawful, defends_by_rest}
use Rattle.aba_notions.specs.Attacks.{HasPairWith, AddsFirst}

-- ---- first numbers of pairs

-- what the pairs before an index give
pub record HasFirsts (pairs : List (ℕ × ℕ)) (P : ℕ → Type 0) (n : ℕ) (found : List ℕ) : Type 0 where
  pub members : (x : ℕ) → Contains found x
      ↔ ((k : ℕ) × (k < n) × ((get_or pairs k (0, 0)).0 ≡ x) × P (get_or pairs k (0, 0)).1)

pub firsts_none : (pairs : List (ℕ × ℕ)) (P : ℕ → Type 0) (found : List ℕ) → found ≡ [] → HasFirsts pairs P 0 found
firsts_none pairs P found e = record {
  members = λ x. (
    λ c. absurd (let w = rw e at c in omega (arith, w.1)),
    λ w. absurd (omega (arith, w.1)),
  );
}

pub firsts_more : (pairs : List (ℕ × ℕ)) (P : ℕ → Type 0) (n : ℕ) (old new : List ℕ) → HasFirsts pairs P n old
    → AddsFirst (get_or pairs n (0, 0)) P old new → HasFirsts pairs P (n + 1) new
firsts_more pairs P n old new h adds = record {
  members = λ x. (
    λ c. ⊎_elim (λ k. let w = (h.members x).0 k in (w.0, omega (arith, w.1), w.2, w.3))
        (λ w. (n, omega arith, w.0, w.1)) ((adds.members x).0 c),
    λ w. (adds.members x).1 (⊎_elim
        (λ (e : w.0 ≡ n). inr (
          subst (λ k. (get_or pairs k (0, 0)).0 ≡ x) e w.2,
          subst (λ k. P (get_or pairs k (0, 0)).1) e w.3,
        ))
        (λ ne. inl ((h.members x).1 (w.0, omega (arith, w.1, ne), w.2, w.3))) (cases_eq w.0 n)),
  );
}

pub firsts_all : (pairs : List (ℕ × ℕ)) (P : ℕ → Type 0) (n : ℕ) (found : List ℕ) → length pairs ≤ n
    → n ≤ length pairs → HasFirsts pairs P n found → (x : ℕ) → Contains found x ↔ HasPairWith pairs P x
firsts_all pairs P n found past few h x = (
  λ c. let w = (h.members x).0 c in record {
    second = (get_or pairs w.0 (0, 0)).1;
    pair = subst (λ y. Contains pairs (y, (get_or pairs w.0 (0, 0)).1)) w.2
        (Contains-get_or pairs w.0 (0, 0) (omega (arith, w.1, few)));
    holds = w.3;
  },
  λ w.
      let at : get_or pairs w.pair.0 (0, 0) ≡ (x, w.second) =
      get_or_default pairs w.pair.0 (0, 0) (x, w.second) w.pair.1 ∙ w.pair.2 in
      (h.members x).1 (
        w.pair.0,
        omega (arith, w.pair.1, past),
        ap (λ (p : ℕ × ℕ). p.0) at,
        subst P (sym (ap (λ (p : ℕ × ℕ). p.1) at)) w.holds,
      ),
)

-- ---- what follows

-- what follows is an atom of the framework, or given
derived_low : (f : Aba) (s : List ℕ) → IsNumberedAba f → (x : ℕ) → Derives f.rules (Contains s) x
    → (x ≤ f.atoms) ⊎ Contains s x
derived_low f s h x (given _ c) = inr c
derived_low f s h x (by_rule r _ there is body) = inl (rw (← is) (h.form.rules_are r there).head.high)

pub closure_whole : (f : Aba) (s found derived u : List ℕ) → IsNumberedAba f
    → IsSetOf (λ x. (x ≤ f.atoms) × Derives f.rules (Contains s) x) found → derived ≡ found
    → IsSetOf (λ x. Contains derived x ⊎ Contains s x) u → IsSetOf (Derives f.rules (Contains s)) u
closure_whole f s found derived u form exact is set = record {
  rises = set.rises;
  members = λ x. (
    λ c. ⊎_elim (λ k. ((exact.members x).0 (subst (λ xs. Contains xs x) is k)).1) (λ k. given x k)
        ((set.members x).0 c),
    λ h. (set.members x).1 (⊎_elim
        (λ low. inl (subst (λ xs. Contains xs x) (sym is) ((exact.members x).1 (low, h)))) (λ k. inr k)
        (derived_low f s form x h)),
  );
}

-- ---- attacked, unattacked and defended

pub attacked_exactly : (f : Aba) (s theory found attacked : List ℕ) (contraries : List (ℕ × ℕ))
    → IsSetOf (Derives f.rules (Contains s)) theory → contraries ≡ f.contraries
    → ((x : ℕ) → Contains found x ↔ HasPairWith contraries (Contains theory) x)
    → IsSetOf (Contains found) attacked → IsSetOf (AttacksAssumption f s) attacked
attacked_exactly f s theory found attacked contraries th is pairs set = record {
  rises = set.rises;
  members = λ a. (
    λ c. let w = (pairs a).0 ((set.members a).0 c) in record {
      contrary = w.second;
      is = subst (λ ps. Contains ps (a, w.second)) is w.pair;
      derived = (th.members w.second).0 w.holds;
    },
    λ (h : AttacksAssumption f s a). (set.members a).1 ((pairs a).1 (record {
      second = h.contrary;
      pair = subst (λ ps. Contains ps (a, h.contrary)) (sym is) h.is;
      holds = (th.members h.contrary).1 h.derived;
    })),
  );
}

pub unattacked_exactly : (f : Aba) (s attacked rest assumptions : List ℕ) → IsSetOf (AttacksAssumption f s) attacked
    → assumptions ≡ f.assumptions → IsSetOf (λ x. Contains assumptions x × (Contains attacked x → ⊥)) rest
    → IsSetOf (IsUnattacked (collective_of f) s) rest
unattacked_exactly f s attacked rest assumptions hit is set = record {
  rises = set.rises;
  members = λ a. (
    λ c. let w = (set.members a).0 c in record {
      live = subst (λ xs. Contains xs a) is w.0;
      quiet = λ h. w.1 ((hit.members a).1 h);
    },
    λ u. (set.members a).1 (subst (λ xs. Contains xs a) (sym is) u.live, λ k. u.quiet ((hit.members a).0 k)),
  );
}

module _ (d : Collective) (lawful : IsLawful d) where
  pub defended_exactly : (s rest defended : List ℕ) → IsSetOf (IsUnattacked d s) rest
      → IsSetOf (IsUnattacked d rest) defended → IsSetOf (IsDefended d s) defended
  defended_exactly s rest defended quiet set =
      let by = λ (a : ℕ). defends_by_rest d lawful s rest a quiet.members in
      record {
        rises = set.rises;
        members = λ a. (
          λ c. let u = (set.members a).0 c in record { live = u.live; defended = (by a).1 u.quiet },
          λ h. (set.members a).1 (record { live = h.live; quiet = (by a).0 h.defended }),
        );
      }

  pub conflict_free_by : (s rest : List ℕ) (b : Bool) → IsSetOf (IsUnattacked d s) rest → IsTrue b ↔ IsWithin s rest
      → IsTrue b ↔ IsConflictFree d s
  conflict_free_by s rest b set test = (
    λ e. record {
      live = λ a c. ((set.members a).0 (test.0 e a c)).live;
      apart = λ a c. ((set.members a).0 (test.0 e a c)).quiet;
    },
    λ free. test.1 (λ a c. (set.members a).1 (record { live = free.live a c; quiet = free.apart a c })),
  )

  pub admissible_by : (s defended : List ℕ) (b : Bool) → IsConflictFree d s → IsSetOf (IsDefended d s) defended
      → IsTrue b ↔ IsWithin s defended → IsTrue b ↔ IsAdmissible d s
  admissible_by s defended b free set test = (
    λ e. record { conflict_free = free; defended = λ a c. ((set.members a).0 (test.0 e a c)).defended },
    λ ok. test.1 (λ a c. (set.members a).1 (record { live = free.live a c; defended = ok.defended a c })),
  )

  pub complete_by : (s defended : List ℕ) (b : Bool) → IsAdmissible d s → IsSetOf (IsDefended d s) defended
      → IsTrue b ↔ IsWithin defended s → IsTrue b ↔ IsComplete d s
  complete_by s defended b ok set test = (
    λ e. record {
      admissible = ok;
      closed = λ a live h. test.0 e a ((set.members a).1 (record { live = live; defended = h }));
    },
    λ co. test.1 (λ a c. let h = (set.members a).0 c in co.closed a h.live h.defended),
  )

  pub stable_by : (s rest : List ℕ) (b : Bool) → IsConflictFree d s → IsSetOf (IsUnattacked d s) rest
      → IsTrue b ↔ IsWithin rest s → IsTrue b ↔ IsStable d s
  stable_by s rest b free set test = (
    λ e. record {
      conflict_free = free;
      attacks_outside = λ a live out. ⊎_elim (λ hit. hit)
          (λ quiet. absurd (out (test.0 e a ((set.members a).1 (record { live = live; quiet = quiet })))))
          (lawful.decided s a);
    },
    λ st. test.1 (λ a c. let u = (set.members a).0 c in ⊎_elim (λ here. here)
        (λ out. absurd (u.quiet (st.attacks_outside a u.live out))) (decide_member s a)),
  )
