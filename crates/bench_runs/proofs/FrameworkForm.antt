-- The framework that is drawn is in form.
use Rattle.std.proofs.Common.{◌≡◌, ℕ, ◌<◌, ◌≤◌, List, [], ◌∷◌, Contains, arith, refl, ap, sym, subst, inl, inr, ⊎_elim}
use Rattle.std.specs.Prelude.{◌↔◌}
use Rattle.std.specs.List.{range_with_len}
use Rattle.semantics.specs.declared.argument.TheConstants.{MAX_ARGUMENT}
use Rattle.semantics.specs.Framework.{Af}
use Rattle.semantics.specs.Frameworks.{IsNumberedAf}
use Rattle.dung_notions.specs.Neighbours.{AreArguments, AreBetween}
use Rattle.lists.proofs.Membership.{Contains-cons_cases, Contains-head, Contains-nil, Contains-tail}
use Rattle.edit_rules.proofs.PairLists.{with_pair_members}
use Rattle.edit_rules.proofs.RowForms.{with_attack_form}
use Rattle.bench_runs.specs.Generator.{attacker_of, attacks_drawn, attacks_on, bench_framework, first, next_state}
use Rattle.bench_runs.specs.Generator.{rising, state_before}
use Rattle.bench_runs.proofs.Numbers.{for_listed, listed_for, number_from, number_in, numbers_rise}
use Rattle.bench_runs.proofs.DrawLemmas.{attacker_within}

pub rising_members : (ps : List (ℕ × ℕ)) (q : ℕ × ℕ) → Contains ps q ↔ Contains (rising ps) q
rising_members [] q = (λ c. c, λ c. c)
rising_members (p ∷ ps) q =
    let gains = with_pair_members p (rising ps) q in
    let rest = rising_members ps q in (
      λ c. gains.1 (⊎_elim (λ (e : p ≡ q). inr (sym e)) (λ d. inl (rest.0 d)) (Contains-cons_cases p ps q c)),
      λ c. ⊎_elim (λ d. Contains-tail p ps q (rest.1 d)) (λ (e : q ≡ p). Contains-head p ps q (sym e)) (gains.0 c),
    )

-- a framework of these arguments and the attacks of a list, each once
abbrev made_of : List ℕ → List (ℕ × ℕ) → Af
made_of live ps = record { live = live; attacks = rising ps }

rising_form : (live : List ℕ) (ps : List (ℕ × ℕ)) → IsNumberedAf (made_of live []) → AreBetween live ps
    → IsNumberedAf (made_of live ps)
rising_form live [] ok between = ok
rising_form live (p ∷ ps) ok between =
    with_attack_form (made_of live ps) p.0 p.1
    (rising_form live ps ok (λ b a c. between b a (Contains-tail p ps (b, a) c)))
    (between p.0 p.1 (Contains-head p ps (p.0, p.1) refl))

pub numbers_are_arguments : (n : ℕ) → n ≤ MAX_ARGUMENT → AreArguments (range_with_len 1 n)
numbers_are_arguments n few a c = let at = number_in n a c in record { low = at.0; high = omega (arith, at.1) }

pair_between : (n b a state : ℕ) → 0 < n → Contains (range_with_len 1 n) a → b ≡ attacker_of n state
    → Contains (range_with_len 1 n) b
pair_between n b a state some c e =
    let w = attacker_within n state some in number_from n b (omega (arith, w.0, e)) (omega (arith, w.1, e))

pub drawn_between : (n seed : ℕ) → 0 < n → AreBetween (range_with_len 1 n) (attacks_drawn n seed)
drawn_between n seed some b a c =
    let found = listed_for (attacks_on n seed) (range_with_len 1 n) (b, a) c in
    let x = found.0 in
    let one = next_state (state_before seed x) in
    let first : ℕ × ℕ = (attacker_of n one, x) in
    let second : ℕ × ℕ = (attacker_of n (next_state one), x) in
    let third : ℕ × ℕ = (attacker_of n (next_state (next_state one)), x) in
    let ends : (state : ℕ) → (attacker_of n state, x) ≡ (b, a)
    → Contains (range_with_len 1 n) b × Contains (range_with_len 1 n) a = λ state e.
    let at = subst (λ z. Contains (range_with_len 1 n) z) (ap (λ (p : ℕ × ℕ). p.1) e) found.1 in
    (pair_between n b a state some at (sym (ap (λ (p : ℕ × ℕ). p.0) e)), at) in
    ⊎_elim (ends one)
    (λ d. ⊎_elim (ends (next_state one))
    (λ e. ⊎_elim (ends (next_state (next_state one))) (λ none. absurd (Contains-nil (b, a) none))
    (Contains-cons_cases third [] (b, a) e))
    (Contains-cons_cases second (third ∷ []) (b, a) d))
    (Contains-cons_cases first (second ∷ third ∷ []) (b, a) found.2)

pub bench_form : (n seed : ℕ) → 0 < n → n ≤ MAX_ARGUMENT → IsNumberedAf (bench_framework n seed)
bench_form n seed some few =
    rising_form (range_with_len 1 n) (attacks_drawn n seed) (record {
      form = record {
        live_rises = numbers_rise n;
        attacks_rise = λ i j d lt within. absurd (omega arith);
        ends = λ b a c. absurd (Contains-nil (b, a) c);
      };
      live = numbers_are_arguments n few;
    }) (drawn_between n seed some)

-- lists that are drawn have the attacks of the framework
pub bench_members : (n seed : ℕ) (attacks : List (ℕ × ℕ)) → attacks ≡ attacks_drawn n seed
    → (p : ℕ × ℕ) → Contains attacks p ↔ Contains (bench_framework n seed).attacks p
bench_members n seed attacks e p =
    subst (λ l. Contains l p ↔ Contains (rising (attacks_drawn n seed)) p) (sym e)
    (rising_members (attacks_drawn n seed) p)

-- the first attack on each argument is there
pub first_there : (n seed a : ℕ) → 1 ≤ a → a ≤ n → Contains (bench_framework n seed).attacks (first n seed a, a)
first_there n seed a low high =
    (rising_members (attacks_drawn n seed) (first n seed a, a)).0
    (for_listed (attacks_on n seed) (range_with_len 1 n) a (first n seed a, a) (number_from n a low high)
    (0, omega arith, refl))
