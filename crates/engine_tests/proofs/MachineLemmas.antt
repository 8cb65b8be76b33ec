-- A machine may be over two abstract frameworks, of which each has a session.
use Rattle.std.proofs.Common.{◌≡◌, ◌∙◌, ℕ, zero, suc, ◌-◌, ◌≤◌, arith, List, [], ◌∷◌, map, refl, sym, subst}
use Rattle.std.specs.Prelude.{slice_index_or}
use Rattle.semantics.specs.Framework.{Af}
use Rattle.semantics.specs.Frameworks.{af}
use Rattle.iccma_tasks.specs.declared.task.Kind.TheVariants.{Af as OfAf}
use Rattle.edit_rules.specs.Kinds.{framework_of, kind_of}
use Rattle.edit_rules.specs.declared.framework.Framework.{Framework as Held}
use Rattle.edit_rules.specs.declared.framework.Framework.TheVariants.{Af as HeldAf}
use Rattle.core_machine.specs.Servers.{IsFramework, IsOn, no_part}
use Rattle.core_events.specs.Machines.{MayOpen}

each_abstract : (f g : Af) (n : ℕ) → kind_of (slice_index_or (af f ∷ af g ∷ []) n no_part.opening) ≡ OfAf
each_abstract f g zero = refl
each_abstract f g (suc zero) = refl
each_abstract f g (suc (suc n)) = refl

used_both : (s k : ℕ) → IsOn (1 ∷ 2 ∷ []) s k → IsFramework 2 k
used_both zero k on = absurd (let low = on.first in omega (arith, low))
used_both (suc zero) k on =
    let is : 1 ≡ k = on.is in
    record { first = omega (arith, is); last = omega (arith, is) }
used_both (suc (suc zero)) k on =
    let is : 2 ≡ k = on.is in
    record { first = omega (arith, is); last = omega (arith, is) }
used_both (suc (suc (suc n))) k on =
    let high : suc (suc (suc n)) ≤ 2 = on.last in
    absurd (omega (arith, high))

pub both_may_open : (frameworks : List Held) (uses : List ℕ) (f g : Af) → frameworks ≡ HeldAf f ∷ HeldAf g ∷ []
    → uses ≡ 1 ∷ 2 ∷ [] → MayOpen (map framework_of frameworks) uses
both_may_open frameworks uses f g are used =
    subst (λ (hs : List Held). MayOpen (map framework_of hs) uses) (sym are)
    (subst (λ (us : List ℕ). MayOpen (af f ∷ af g ∷ []) us) (sym used) (record {
      some_framework = omega arith;
      used = used_both;
      one_kind = λ j k first second. each_abstract f g (j - 1) ∙ sym (each_abstract f g (k - 1));
    }))
