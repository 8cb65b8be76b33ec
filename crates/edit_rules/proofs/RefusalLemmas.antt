-- What a list of refusals comes to.
use Rattle.std.proofs.Common.{Result, Ok, Err, ◌≡◌, true, false, Bool, List, [], ◌∷◌, ◌++◌, refl, ap, sym, ◌∙◌, subst, map, ⊎_elim, ℕ, ◌+◌, ◌<◌, length, drop, get_or}
use Rattle.std.specs.Prelude.{Contains, if◌then◌else◌, is_ok}
use Rattle.std.specs.Result.{IsErr, IsErrAnd}
use Rattle.std.proofs.lemmas.Bool.{false≢true}
use Rattle.std.proofs.lemmas.List.{drop_more}
use Rattle.lists.proofs.Membership.{Contains-nil, Contains-cons_cases}
use Rattle.edit_rules.specs.declared.effect.EditFault.{EditFault}
use Rattle.edit_rules.specs.Refusals.{Refusal, done_unless, NoneStands}

abbrev fault_or : {X : Type 0} → EditFault → Result X EditFault → EditFault
fault_or d (Ok x) = d
fault_or d (Err fault) = fault

told_step : {X : Type 0} (b : Bool) (here fault : EditFault) (a : Result (Unit {0}) EditFault) (c : Result X EditFault)
    → (a ≡ Err fault → c ≡ Err fault) → (if b then Err here else a) ≡ Err fault
    → (if b then Err here else c) ≡ Err fault
told_step true here fault a c more e = ap Err (ap (fault_or here) e)
told_step false here fault a c more e = more e

-- the fault that is told, whatever would have been done
pub told : {X : Type 0} (rs : List Refusal) (x : X) (fault : EditFault)
    → done_unless {X = Unit {0}} rs tt ≡ Err fault → done_unless rs x ≡ Err fault
told [] x fault e = absurd (false≢true (sym (ap is_ok e)))
told (r ∷ more) x fault e =
    told_step r.stands r.fault fault (done_unless more tt) (done_unless more x) (told more x fault) e

first_step : (b : Bool) (here : EditFault) (a : Result (Unit {0}) EditFault) → (if b then Err here else a) ≡ Ok tt
    → (b ≡ false) × (a ≡ Ok tt)
first_step true here a e = absurd (false≢true (ap is_ok e))
first_step false here a e = (refl, e)

-- where none stands, the first doesn't, nor one of the others
pub first_stands_not : (r : Refusal) (more : List Refusal) → NoneStands (r ∷ more)
    → (r.stands ≡ false) × NoneStands more
first_stands_not r more e = first_step r.stands r.fault (done_unless more tt) e

pub passed : {X : Type 0} (r : Refusal) (more : List Refusal) (x : X) → r.stands ≡ false
    → done_unless (r ∷ more) x ≡ done_unless more x
passed r more x e = rw e refl

pub stopped : {X : Type 0} (r : Refusal) (more : List Refusal) (x : X) → r.stands ≡ true
    → done_unless (r ∷ more) x ≡ Err r.fault
stopped r more x e = rw e refl

-- refusals of which none stands are passed over
pub passed_all : {X : Type 0} (rs qs : List Refusal) (x : X) → NoneStands rs
    → done_unless (rs ++ qs) x ≡ done_unless qs x
passed_all [] qs x e = refl
passed_all (r ∷ more) qs x e =
    let first = first_stands_not r more e in passed r (more ++ qs) x first.0 ∙ passed_all more qs x first.1

-- what is done where none stands
pub none_stands : {X : Type 0} (rs : List Refusal) (x : X) → NoneStands rs → done_unless rs x ≡ Ok x
none_stands [] x e = refl
none_stands (r ∷ more) x e =
    let first = first_stands_not r more e in passed r more x first.0 ∙ none_stands more x first.1

-- what the first refusals tell is told
pub stopped_early : {X : Type 0} (rs qs : List Refusal) (x : X) (fault : EditFault)
    → done_unless {X = Unit {0}} rs tt ≡ Err fault → done_unless (rs ++ qs) x ≡ Err fault
stopped_early [] qs x fault e = absurd (false≢true (sym (ap is_ok e)))
stopped_early (r ∷ more) qs x fault e =
    told_step r.stands r.fault fault (done_unless more tt) (done_unless (more ++ qs) x)
    (stopped_early more qs x fault) e

-- where none of two lists' refusals stands, none of either does
pub parts_stand_not : (rs qs : List Refusal) → NoneStands (rs ++ qs) → NoneStands rs × NoneStands qs
parts_stand_not [] qs e = (refl, e)
parts_stand_not (r ∷ more) qs e =
    let first = first_stands_not r (more ++ qs) e in
    let rest = parts_stand_not more qs first.1 in
    (passed r more tt first.0 ∙ rest.0, rest.1)

-- none stands of the refusals that a list's items give
pub each_stands_not : {X : Type 0} (g : X → Refusal) (xs : List X) → NoneStands (map g xs) → (x : X) → Contains xs x
    → (g x).stands ≡ false
each_stands_not g [] e x c = absurd (Contains-nil x c)
each_stands_not g (y ∷ ys) e x c =
    let first = first_stands_not (g y) (map g ys) e in
    ⊎_elim (λ (same : y ≡ x). subst (λ z. (g z).stands ≡ false) same first.0)
    (λ d. each_stands_not g ys first.1 x d) (Contains-cons_cases y ys x c)

abbrev value_or : {X : Type 0} → X → Result X EditFault → X
value_or d (Ok y) = y
value_or d (Err fault) = d

done_step : {X : Type 0} (b : Bool) (here : EditFault) (a : Result X EditFault) (made : X)
    → (if b then Err here else a) ≡ Ok made → (b ≡ false) × (a ≡ Ok made)
done_step true here a made e = absurd (false≢true (ap is_ok e))
done_step false here a made e = (refl, e)

-- the tests of a list's items, one by one
pub next_tests : (g : ℕ → Refusal) (xs : List ℕ) (i : ℕ) → i < length xs → (g (get_or xs i 0)).stands ≡ false
    → done_unless {X = Unit {0}} (map g (drop i xs)) tt ≡ done_unless (map g (drop (i + 1) xs)) tt
next_tests g xs i lt fails =
    ap (λ ys. done_unless (map g ys) tt) (drop_more xs i 0 lt)
    ∙ passed (g (get_or xs i 0)) (map g (drop (i + 1) xs)) tt fails

pub stopped_at : (g : ℕ → Refusal) (xs : List ℕ) (i : ℕ) → i < length xs → (g (get_or xs i 0)).stands ≡ true
    → done_unless {X = Unit {0}} (map g (drop i xs)) tt ≡ Err (g (get_or xs i 0)).fault
stopped_at g xs i lt stands =
    ap (λ ys. done_unless (map g ys) tt) (drop_more xs i 0 lt)
    ∙ stopped (g (get_or xs i 0)) (map g (drop (i + 1) xs)) tt stands

-- a row that is done was not refused, and gives what it says
pub done_row : {X : Type 0} (rs : List Refusal) (x made : X) → done_unless rs x ≡ Ok made → NoneStands rs × (x ≡ made)
done_row [] x made e = (refl, ap (value_or x) e)
done_row (r ∷ more) x made e =
    let first = done_step r.stands r.fault (done_unless more x) made e in
    let rest = done_row more x made first.1 in (passed r more tt first.0 ∙ rest.0, rest.1)

-- each of the refusals, one by one
abbrev pub EachPasses : List Refusal → Type 0
EachPasses [] = Unit {0}
EachPasses (r ∷ more) = (r.stands ≡ false) × EachPasses more

pub each_passes : (rs : List Refusal) → NoneStands rs → EachPasses rs
each_passes [] e = tt
each_passes (r ∷ more) e = let first = first_stands_not r more e in (first.0, each_passes more first.1)

-- what an error that is handed on says
pub handed_on : {X : Type 0} (P : Result X EditFault → Type 0) (r : Result X EditFault) (fault : EditFault)
    → IsErr r × IsErrAnd r (λ x. x ≡ fault) → P (Err fault) → P r
handed_on P (Ok x) fault is holds = absurd (false≢true is.0)
handed_on P (Err x) fault is holds = subst (λ y. P (Err y)) (sym is.1) holds

-- each of the refusals of a row that is done passes, and it gives what it says
pub done_passes : {X : Type 0} (rs : List Refusal) (x made : X) → done_unless rs x ≡ Ok made
    → EachPasses rs × (x ≡ made)
done_passes rs x made e = let done = done_row rs x made e in (each_passes rs done.0, done.1)
