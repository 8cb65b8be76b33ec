-- The tests of sets by what a search has found.
use Rattle.std.proofs.Common.{◌≡◌, ℕ, ◌+◌, ◌<◌, ◌≤◌, Bool, List, [], ◌∷◌, ◌++◌, length, get_or, take, arith, refl, sym, subst, ◌∙◌, filter, eqb, eq-eqb, inl, inr, ⊎_elim}
use Rattle.std.specs.Prelude.{◌↔◌, Contains, IsTrue}
use Rattle.std.proofs.lemmas.Bool.{eqb-true}
use Rattle.std.proofs.lemmas.List.{take_more, take_all}
use Rattle.std.proofs.lemmas.List.Elements.{Contains-push_cases, Contains-append_left, Contains-append_right}
use Rattle.lists.specs.Members.{IsSetOf, IsWithin}
use Rattle.lists.proofs.Filters.{Contains-filter}
use Rattle.lists.proofs.Membership.{Contains-nil, Contains-head}
use Rattle.lists.proofs.Walks.{WalkedAll, all_members}
use Rattle.semantics.specs.Rules.{Rule, Derives, given, by_rule}
use Rattle.semantics.specs.AbaFrameworks.{Aba, AttacksAssumption, IsInTheory, IsNumberedAba, collective_of}
use Rattle.semantics.specs.Collectives.{IsUnattacked, IsConflictFree, IsAdmissible, IsComplete, IsStable}
use Rattle.aba_laws.specs.semantics.proofs.Decided.{decide_member}
use Rattle.aba_laws.proofs.AbaLemmas.{aba_lawful}
use Rattle.aba_laws.proofs.CollectiveSets.{IsLawful, defends_by_rest}
use Rattle.aba_notions.specs.Closing.{IsMarked}
use Rattle.marked_rules.specs.declared.closing.Closing.{Closing}
use Rattle.marked_rules.specs.declared.rule_uses.RuleUses.{RuleUses}
use Rattle.marked_rules.specs.Cone.{IsCone}
use Rattle.marked_rules.specs.Search.{AreOf, HasDerived, IsUsesOf, derived_in}
use Rattle.marked_rules.specs.Tests.{IsQuiet, IsSpared, Keeps}
use Rattle.marked_rules.proofs.ConeLemmas.{admissible_by_cone}

-- what follows and is no member is an atom
follows_low : (f : Aba) (s : List ℕ) (x : ℕ) → IsNumberedAba f → (Contains s x → ⊥)
    → Derives f.rules (Contains s) x → x ≤ f.atoms
follows_low f s x form out (given _ c) = absurd (out c)
follows_low f s x form out (by_rule r _ there is body) = rw (← is) (form.form.rules_are r there).head.high

module _ (f : Aba) (u : RuleUses) (of : AreOf f u) where
  -- no contrary is derived where the set doesn't attack
  pub quiet_is : (s : List ℕ) (c : Closing) → HasDerived f u s c → (a : ℕ)
      → IsQuiet u c a ↔ (AttacksAssumption f s a → ⊥)
  quiet_is s c has a = (
    λ quiet at. quiet at.contrary ((of.contraries_are (a, at.contrary)).1 at.is)
        ((has.exact at.contrary).1 ((of.form.form.contraries_are a at.contrary at.is).1.high, at.derived)),
    λ none x there m. none (record {
      contrary = x;
      is = (of.contraries_are (a, x)).0 there;
      derived = ((has.exact x).0 m).1;
    }),
  )

  pub spared_is : (s : List ℕ) (c : Closing) → HasDerived f u s c → (x : ℕ)
      → IsSpared f u c x ↔ IsUnattacked (collective_of f) s x
  spared_is s c has x = (
    λ h. record { live = h.assumed; quiet = (quiet_is s c has x).0 h.quiet },
    λ h. record { assumed = h.live; quiet = (quiet_is s c has x).1 h.quiet },
  )

  pub free_by : (s : List ℕ) (c : Closing) (r : Bool) → HasDerived f u s c → IsWithin s f.assumptions
      → (IsTrue r ↔ ((a : ℕ) → Contains s a → IsQuiet u c a)) → IsTrue r ↔ IsConflictFree (collective_of f) s
  free_by s c r has within test = (
    λ e. record { live = within; apart = λ a m. (quiet_is s c has a).0 (test.0 e a m) },
    λ free. test.1 (λ a m. (quiet_is s c has a).1 (free.apart a m)),
  )

  -- a conflict-free set is admissible where what is kept of the cone attacks no member
  pub admissible_by : (s atoms kept : List ℕ) (before after : Closing) (r : Bool) → IsConflictFree (collective_of f) s
      → IsCone f s atoms → HasDerived f u s before
      → ((x : ℕ) → Contains kept x ↔ (Contains atoms x × IsSpared f u before x)) → HasDerived f u kept after
      → (IsTrue r ↔ ((a : ℕ) → Contains s a → IsQuiet u after a)) → IsTrue r ↔ IsAdmissible (collective_of f) s
  admissible_by s atoms kept before after r free cone has keeps then test =
      admissible_by_cone f s atoms kept r free cone
      (λ x. (
        λ k. let w = (keeps x).0 k in (w.0, (spared_is s before has x).0 w.1),
        λ w. (keeps x).1 (w.0, (spared_is s before has x).1 w.1),
      )) (
        λ e a m. (quiet_is kept after then a).0 (test.0 e a m),
        λ none. test.1 (λ a m. (quiet_is kept after then a).1 (none a m)),
      )

  -- an admissible set is complete where the rest attacks the assumptions outside it
  pub complete_by : (s kept : List ℕ) (before after : Closing) (r : Bool) → IsAdmissible (collective_of f) s
      → HasDerived f u s before
      → ((x : ℕ) → Contains kept x ↔ (Contains f.assumptions x × IsSpared f u before x)) → HasDerived f u kept after
      → (IsTrue r ↔ ((a : ℕ) → Contains f.assumptions a → IsQuiet u after a → Contains s a))
      → IsTrue r ↔ IsComplete (collective_of f) s
  complete_by s kept before after r ok has keeps then test =
      let lawful : IsLawful (collective_of f) = aba_lawful f in
      let rest : (x : ℕ) → Contains kept x ↔ IsUnattacked (collective_of f) s x = λ x. (
        λ k. (spared_is s before has x).0 ((keeps x).0 k).1,
        λ h. (keeps x).1 (h.live, (spared_is s before has x).1 h),
      ) in
      let by = λ (a : ℕ). defends_by_rest (collective_of f) lawful s kept a rest in (
        λ e. record {
          admissible = ok;
          closed = λ a live defends. test.0 e a live ((quiet_is kept after then a).1 ((by a).0 defends));
        },
        λ co. test.1 (λ a live quiet. co.closed a live ((by a).1 ((quiet_is kept after then a).0 quiet))),
      )

  -- a conflict-free set is stable where it attacks the assumptions outside it
  pub stable_by : (s : List ℕ) (c : Closing) (r : Bool) → IsConflictFree (collective_of f) s → HasDerived f u s c
      → (IsTrue r ↔ ((a : ℕ) → Contains f.assumptions a → IsQuiet u c a → Contains s a))
      → IsTrue r ↔ IsStable (collective_of f) s
  stable_by s c r free has test =
      let lawful : IsLawful (collective_of f) = aba_lawful f in (
        λ e. record {
          conflict_free = free;
          attacks_outside = λ a live out. ⊎_elim (λ hit. hit)
              (λ none. absurd (out (test.0 e a live ((quiet_is s c has a).1 none)))) (lawful.decided s a);
        },
        λ st. test.1 (λ a live quiet. ⊎_elim (λ here. here)
            (λ out. absurd ((quiet_is s c has a).0 quiet (st.attacks_outside a live out))) (decide_member s a)),
      )

  -- the assumptions beside the rest are those that the set attacks
  pub attacked_is : (s kept rest left : List ℕ) (c : Closing) → HasDerived f u s c
      → ((x : ℕ) → Contains kept x ↔ (Contains f.assumptions x × IsSpared f u c x)) → IsSetOf (Contains kept) rest
      → IsSetOf (λ x. Contains f.assumptions x × ¬ Contains rest x) left → IsSetOf (AttacksAssumption f s) left
  attacked_is s kept rest left c has keeps same less =
      let lawful : IsLawful (collective_of f) = aba_lawful f in
      record {
        rises = less.rises;
        members = λ x. (
          λ k. let w = (less.members x).0 k in
              ⊎_elim (λ hit. hit)
              (λ none. absurd (w.1 ((same.members x).1 ((keeps x).1
              (w.0, record { assumed = w.0; quiet = (quiet_is s c has x).1 none })))))
              (lawful.decided s x),
          λ at. (less.members x).1 (
            (of.form.form.contraries_are x at.contrary at.is).0,
            λ k. (quiet_is s c has x).0 ((keeps x).0 ((same.members x).0 k)).1.quiet at,
          ),
        );
      }

  -- what a set derives that is no member
  pub derives_by : (s : List ℕ) (c : Closing) (x : ℕ) (r : Bool) → (Contains s x → ⊥) → HasDerived f u s c
      → (IsTrue r ↔ IsMarked (derived_in u c) x) → IsTrue r ↔ IsInTheory f s x
  derives_by s c x r out has test = (
    λ e. ((has.exact x).0 (test.0 e)).1,
    λ d. test.1 ((has.exact x).1 (follows_low f s x of.form out d, d)),
  )

-- the walk along an assumption's contraries
pub quiet_walk : (u : RuleUses) (c : Closing) (a : ℕ) (pairs : List (ℕ × ℕ)) (r : Bool)
    → pairs ≡ filter (λ p. eqb p.0 a) u.contraries.pairs
    → WalkedAll (λ (p : ℕ × ℕ). IsMarked (derived_in u c) p.1 → ⊥) pairs r → IsTrue r ↔ IsQuiet u c a
quiet_walk u c a pairs r cut walk =
    let each = all_members (λ (p : ℕ × ℕ). IsMarked (derived_in u c) p.1 → ⊥) pairs r walk in
    let kept = λ (p : ℕ × ℕ). Contains-filter (λ (q : ℕ × ℕ). eqb q.0 a) u.contraries.pairs p in (
      λ e x there. each.0 e (a, x) (subst (λ l. Contains l (a, x)) (sym cut) ((kept (a, x)).1 (there, eq-eqb a a refl))),
      λ quiet. each.1 (λ p m. let k = (kept p).0 (subst (λ l. Contains l p) cut m) in
          quiet p.1 (subst (λ b. Contains u.contraries.pairs (b, p.1)) (eqb-true p.0 a k.1) k.0)),
    )

-- ---- what is kept

pub keeps_not : (number : ℕ) (P : ℕ → Type 0) (old : List ℕ) → (P number → ⊥) → Keeps number P old old
keeps_not number P old none = record {
  each = λ x. (
    λ c. inl c,
    λ h. ⊎_elim (λ c. c) (λ here. absurd (none (subst P here.0 here.1))) h,
  );
}

pub keeps_one : (number : ℕ) (P : ℕ → Type 0) (old new : List ℕ) → P number → new ≡ old ++ number ∷ []
    → Keeps number P old new
keeps_one number P old new holds is = record {
  each = λ x. (
    λ c. ⊎_elim (λ was. inl was) (λ (e : number ≡ x). inr (sym e, subst P e holds))
        (Contains-push_cases old number x (subst (λ l. Contains l x) is c)),
    λ h. subst (λ l. Contains l x) (sym is) (⊎_elim (λ c. Contains-append_left old (number ∷ []) x c)
        (λ here. Contains-append_right old (number ∷ []) x (Contains-head number [] x (sym here.0))) h),
  );
}

-- exactly those of the first n numbers of which P holds
pub record AreKept (P : ℕ → Type 0) (numbers : List ℕ) (n : ℕ) (kept : List ℕ) : Type 0 where
  pub each : (x : ℕ) → Contains kept x ↔ (Contains (take n numbers) x × P x)

pub kept_none : (P : ℕ → Type 0) (numbers kept : List ℕ) → kept ≡ [] → AreKept P numbers 0 kept
kept_none P numbers kept is = record {
  each = λ a. (
    λ c. absurd (Contains-nil a (subst (λ l. Contains l a) is c)),
    λ h. absurd (Contains-nil a h.0),
  );
}

pub kept_more : (P : ℕ → Type 0) (numbers : List ℕ) (n : ℕ) (old new : List ℕ) → n < length numbers
    → AreKept P numbers n old → Keeps (get_or numbers n 0) P old new → AreKept P numbers (n + 1) new
kept_more P numbers n old new lt before keeps = record {
  each = λ a. (
    λ c. ⊎_elim (λ was. let h = (before.each a).0 was in (
      subst (λ l. Contains l a) (sym (take_more numbers n 0 lt))
          (Contains-append_left (take n numbers) (get_or numbers n 0 ∷ []) a h.0),
      h.1,
    ))
        (λ here. (
          subst (λ l. Contains l a) (sym (take_more numbers n 0 lt))
              (Contains-append_right (take n numbers) (get_or numbers n 0 ∷ []) a
              (Contains-head (get_or numbers n 0) [] a (sym here.0))),
          here.1,
        )) ((keeps.each a).0 c),
    λ h. (keeps.each a).1 (⊎_elim (λ was. inl ((before.each a).1 (was, h.1)))
        (λ (e : get_or numbers n 0 ≡ a). inr (sym e, h.1))
        (Contains-push_cases (take n numbers) (get_or numbers n 0) a
        (subst (λ l. Contains l a) (take_more numbers n 0 lt) h.0))),
  );
}

pub kept_all : (P : ℕ → Type 0) (numbers : List ℕ) (n : ℕ) (kept : List ℕ) → length numbers ≤ n
    → AreKept P numbers n kept → (x : ℕ) → Contains kept x ↔ (Contains numbers x × P x)
kept_all P numbers n kept end is x = (
  λ c. let h = ((is.each x).0 c) in (subst (λ l. Contains l x) (take_all n numbers end) h.0, h.1),
  λ h. (is.each x).1 (subst (λ l. Contains l x) (sym (take_all n numbers end)) h.0, h.1),
)
