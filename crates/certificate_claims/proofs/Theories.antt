-- What rounds of rules add is what the set derives.
use Rattle.std.proofs.Common.{◌≡◌, ◌+◌, ◌≤◌, ⊎_elim, ℕ, zero, suc, true, List, [], ◌∷◌, ◌++◌, length, length-append, filter, arith, ap, refl, subst}
use Rattle.std.specs.Prelude.{◌==◌, ◌&&◌, ◌↔◌, Contains}
use Rattle.std.specs.List.{list_all}
use Rattle.std.proofs.lemmas.Bool.{cases_lt, eqb-true, eq-eqb, and_parts, and_from}
use Rattle.std.proofs.lemmas.List.Elements.{Contains-append_left, Contains-append_right, Contains-append_cases, Contains-push_cases}
use Rattle.lists.specs.Members.{IsWithin}
use Rattle.lists.proofs.Filters.{Contains-filter}
use Rattle.lists.proofs.Images.{image_there, image_from}
use Rattle.lists.proofs.ListTests.{any_gives, any_from, all_gives, all_from}
use Rattle.iccma_tasks.specs.semantics.specs.AbaFrameworks.{Aba, AttacksAssumption}
use Rattle.iccma_tasks.specs.semantics.specs.Frameworks.{aba}
use Rattle.iccma_tasks.specs.semantics.specs.Rules.{Rule, Derives, given, by_rule, IsClosureOf}
use Rattle.iccma_tasks.specs.semantics.proofs.Decided.{search_list, found_in}
use Rattle.iccma_tasks.specs.semantics.proofs.Existence.{decide_within}
use Rattle.aba_axioms.specs.aba_laws.proofs.DerivationLemmas.{IsFilling, filling_first, filling_more, filling_closed}
use Rattle.certificate_claims.specs.SetLiterals.{has, hits, ready_heads, rounds, theory}
use Rattle.certificate_claims.proofs.SetTests.{has_from, has_gives}

module _ (rules : List Rule) (s : List ℕ) where
  -- what a round has later ones have
  kept : (m k : ℕ) (x : ℕ) → k ≤ m → Contains (rounds k rules s) x → Contains (rounds m rules s) x
  kept zero k x low c =
      let none : k ≡ zero = omega (arith, low) in subst (λ n. Contains (rounds n rules s) x) none c
  kept (suc m) k x low c =
      ⊎_elim
      (λ less. Contains-append_left (rounds m rules s) (ready_heads rules (rounds m rules s)) x
      (kept m k x (omega (arith, less)) c))
      (λ more. let same : k ≡ suc m = omega (arith, low, more) in subst (λ n. Contains (rounds n rules s) x) same c)
      (cases_lt k (suc m))

  -- the head of a rule whose body is there
  ready : (t : List ℕ) (r : Rule) → Contains rules r → IsWithin r.body t → Contains (ready_heads rules t) r.head
  ready t r there body =
      image_there (λ (q : Rule). q.head) (filter (λ (q : Rule). list_all (has t) q.body) rules) r
      ((Contains-filter (λ (q : Rule). list_all (has t) q.body) rules r).1
      (there, all_from (has t) r.body (λ y c. has_from t y (body y c))))

  -- each round has only what is derived
  derived : (n : ℕ) (x : ℕ) → Contains (rounds n rules s) x → Derives rules (Contains s) x
  derived zero x c = given x c
  derived (suc n) x c =
      let t = rounds n rules s in
      ⊎_elim (λ k. derived n x k)
      (λ k.
      let w = image_from (λ (q : Rule). q.head) (filter (λ (q : Rule). list_all (has t) q.body) rules) x k in
      let is = (Contains-filter (λ (q : Rule). list_all (has t) q.body) rules w.0).0 w.1 in
      by_rule w.0 x is.0 w.2 (λ y b. derived n y (has_gives t y (all_gives (has t) w.0.body is.1 y b))))
      (Contains-append_cases t (ready_heads rules t) x c)

  -- and they have all of it after as many rounds as there are rules whose heads may be missing
  complete : (n k m : ℕ) (t : List ℕ) (rest : List Rule) → length rest ≤ n → k + n ≤ m → IsFilling rules s t rest
      → IsWithin t (rounds k rules s) → (x : ℕ) → Derives rules (Contains s) x → Contains (rounds m rules s) x
  complete zero k m t rest small high g sub x d =
      kept m k x (omega (arith, high))
      (sub x ((filling_closed rules s t rest g (λ r c body. let lt = c.1 in omega (arith, small, lt)) x).1 d))
  complete (suc n) k m t rest small high g sub x d =
      let here = rounds k rules s in
      ⊎_elim
      (λ w. complete n (suc k) m (t ++ w.item.head ∷ []) (w.before ++ w.after)
      (let size = ap length w.parts in
      omega (arith, small, size, length-append w.before (w.item ∷ w.after), length-append w.before w.after))
      (omega (arith, high)) (filling_more rules s t rest g w)
      (λ y c. ⊎_elim (λ old. Contains-append_left here (ready_heads rules here) y (sub y old))
      (λ (e : w.item.head ≡ y). subst (λ z. Contains (rounds (suc k) rules s) z) e
      (Contains-append_right here (ready_heads rules here) w.item.head
      (ready here w.item (g.among w.item (found_in (λ (r : Rule). IsWithin r.body t) rest w))
      (λ z b. sub z (w.holds z b)))))
      (Contains-push_cases t w.item.head y c))
      x d)
      (λ none. kept m k x (omega (arith, high)) (sub x ((filling_closed rules s t rest g none x).1 d)))
      (search_list (λ (r : Rule). IsWithin r.body t) (λ r. decide_within r.body t) rest)

-- the list has exactly what the set derives
pub theory_is : (f : Aba) (s : List ℕ) → IsClosureOf f.rules s (theory f s)
theory_is f s x = (
  derived f.rules s (length f.rules) x,
  complete f.rules s (length f.rules) zero (length f.rules) s f.rules (omega arith) (omega arith)
      (filling_first f.rules s) (λ y c. c) x,
)

-- the test tells what the set attacks
pub hits_assumption : (f : Aba) (s : List ℕ) (a : ℕ) → (hits (aba f) s a ≡ true) ↔ AttacksAssumption f s a
hits_assumption f s a = (
  λ h.
      let m = any_gives (λ (p : ℕ × ℕ). p.0 == a && has (theory f s) p.1) f.contraries h in
      let both = and_parts (m.0.0 == a) (has (theory f s) m.0.1) m.2 in
      record {
        contrary = m.0.1;
        is = subst (λ (x : ℕ). Contains f.contraries (x, m.0.1)) (eqb-true m.0.0 a both.0) m.1;
        derived = (theory_is f s m.0.1).0 (has_gives (theory f s) m.0.1 both.1);
      },
  λ at. any_from (λ (p : ℕ × ℕ). p.0 == a && has (theory f s) p.1) f.contraries (a, at.contrary) at.is
      (and_from (a == a) (has (theory f s) at.contrary) (eq-eqb a a refl)
      (has_from (theory f s) at.contrary ((theory_is f s at.contrary).1 at.derived))),
)
