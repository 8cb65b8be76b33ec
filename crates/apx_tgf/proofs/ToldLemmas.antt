-- What is told after one more statement.
use Rattle.std.proofs.Common.{◌≡◌, ℕ, List, [], ◌∷◌, ◌++◌, map, ap, ◌∙◌}
use Rattle.std.specs.Prelude.{Result, Ok, Err, OnOk}
use Rattle.std.proofs.lemmas.List.{map-append}
use Rattle.apx_tgf.specs.Names.{with_name}
use Rattle.apx_tgf.specs.Told.{Told, ToldAttack, told_after}
use Rattle.apx_tgf.specs.Told.Statement.{declares, tells}

told_is : (names : List (List ℕ)) (attacks : List ToldAttack) (t : Told)
    → (let told : Told = record { names = names; attacks = attacks } in told) ≡ t
    → (names ≡ t.names) × (attacks ≡ t.attacks)
told_is names attacks t e = (ap (λ (u : Told). u.names) e, ap (λ (u : Told). u.attacks) e)

pub declared_next : {E : Type 0} (r : Result (Unit {0}) E) (old : Told) (name : List ℕ)
    (names new : List (List ℕ)) (attacks : List ToldAttack)
    → (let told : Told = record { names = names; attacks = attacks } in told) ≡ old
    → OnOk r (new ≡ with_name names name)
    → OnOk r ((let told : Told = record { names = new; attacks = attacks } in told) ≡ told_after old (declares name))
unfolding told_after
declared_next (Ok u) old name names new attacks was is =
    let parts = told_is names attacks old was in
    ap (λ ns. let told : Told = record { names = ns; attacks = attacks } in told)
    (is ∙ ap (λ ns. with_name ns name) parts.0)
    ∙ ap (λ ts. let told : Told = record { names = with_name old.names name; attacks = ts } in told) parts.1
declared_next (Err e) old name names new attacks was is = tt

pub told_next : {E X : Type 0} (view : X → ToldAttack) (r : Result (Unit {0}) E) (old : Told) (attack : X)
    (names : List (List ℕ)) (attacks new : List X)
    → (let told : Told = record { names = names; attacks = map view attacks } in told) ≡ old
    → OnOk r (new ≡ attacks ++ attack ∷ [])
    → OnOk r ((let told : Told = record { names = names; attacks = map view new } in told)
    ≡ told_after old (tells (view attack)))
unfolding told_after
told_next view (Ok u) old attack names attacks new was is =
    let parts = told_is names (map view attacks) old was in
    ap (λ ns. let told : Told = record { names = ns; attacks = map view new } in told) parts.0
    ∙ ap (λ ts. let told : Told = record { names = old.names; attacks = ts } in told)
    (ap (λ xs. map view xs) is ∙ map-append view attacks (attack ∷ []) ∙ ap (λ xs. xs ++ view attack ∷ []) parts.1)
told_next view (Err e) old attack names attacks new was is = tt
