-- How many clauses a refutation's CNF has, by its steps and by their log.
use Rattle.std.proofs.Common.{◌≡◌, ℕ, suc, ◌+◌, ◌-◌, ◌<◌, List, [], ◌∷◌, length, get_or, map, true, arith, refl, ap, sym, subst, ◌∙◌, ⊎_elim}
use Rattle.std.specs.Prelude.{◌≢◌, Contains, sum_by}
use Rattle.std.specs.Cmp.{IsEquivalence}
use Rattle.std.specs.List.{AllPairs}
use Rattle.std.specs.Set.{is_member}
use Rattle.std.proofs.lemmas.Bool.{false≢true}
use Rattle.std.proofs.lemmas.Bool.Decides.{Decides-like, same_from_decides}
use Rattle.std.proofs.lemmas.List.{get_or-map, get_or_default, length-append, length-map}
use Rattle.std.proofs.lemmas.List.Elements.{Contains-get_or}
use Rattle.std.proofs.lemmas.List.Sums.{sum_by-cons}
use Rattle.std.proofs.lemmas.Map.Made.{length-from_keys, is_member-Decides, IsDistinct-from_AllPairs}
use Rattle.lists.proofs.Images.{image_from, image_there}
use Rattle.plain_lits.specs.declared.lit.Lit.{Lit}
use Rattle.plain_lits.specs.Literals.{IsLitBefore}
use Rattle.meaning_atoms.specs.declared.atom.Atom.{Atom}
use Rattle.meaning_atoms.specs.declared.atom.AtomLit.{AtomLit}
use Rattle.meaning_atoms.specs.contracts.atom.AtomLitPartialEq.TheImpl.{eq-value as lit_eq}
use Rattle.meaning_atoms.proofs.SameAtoms.{lit_decides}
use Rattle.atom_table.specs.Numbering.{AreDifferent}
use Rattle.certificate_claims.specs.declared.certificate.Step.{Step}
use Rattle.certificate_claims.specs.Refutations.{no_step, step_clause}
use Rattle.clause_bench.specs.Benches.{lit_over}
use Rattle.hinted_log.specs.Logs.{Step as LogStep, no_step as no_logged}
use Rattle.hinted_log.specs.declared.step_kind.StepKind.{StepKind}
use Rattle.hinted_log.specs.declared.step_kind.StepKind.TheVariants.{Axiom, Side, Derived}
use Rattle.lrat_writing.specs.Pieces.{kind_count}
use Rattle.lrat_writing.specs.Walks.{cnf_clauses, given_by, given_clauses, given_of, last_clause}
use Rattle.lrat_writing.proofs.PieceLemmas.{cnf_count}
use Rattle.refutation_logs.specs.Counts.{count_of, literal_count, step_count}
use Rattle.refutation_logs.specs.Logged.{IsLogFor, kind_of}
use Rattle.refutation_logs.specs.Variables.{StandsFor}
use Rattle.refutation_logs.proofs.Standing.{over_renames}

-- ---- the literals of a clause

lit_equiv : IsEquivalence (lit_eq).it
lit_equiv = record {
  refl = λ x. (lit_decides x x).1 refl;
  symm = λ x y. same_from_decides ((lit_eq).it x y) ((lit_eq).it y x) (lit_decides x y)
      (Decides-like ((lit_eq).it y x) (λ e. sym e) (λ e. sym e) (lit_decides y x));
  congr = λ x y z e. ap (λ w. (lit_eq).it w z) ((lit_decides x y).0 e);
}

not_before : (a b : Lit) → a ≡ b → IsLitBefore a b → ⊥
not_before a b e before =
    let var = ap (λ (l : Lit). l.var) e in
    let sign = ap (λ (l : Lit). l.positive) e in
    ⊎_elim (λ lt. omega (arith, lt, var)) (λ same. false≢true (sym same.1 ∙ (sign ∙ same.2))) before

-- no two literals of a clause stand for the same
over_differ : (atoms : List Atom) (given : List AtomLit) (clause : List Lit) → AreDifferent atoms
    → StandsFor atoms given clause → AllPairs (λ x y. x ≢ y) (map (lit_over atoms) clause)
over_differ atoms given clause different stands i j d lt within e =
    let below : j < length clause = omega (arith, within, length-map clause (lit_over atoms)) in
    let blank : Lit = get_or clause j (record { var = 0; positive = true }) in
    let a = get_or clause i blank in
    let b = get_or clause j blank in
    let same : lit_over atoms a ≡ lit_over atoms b
    = sym (get_or-map (lit_over atoms) clause i blank d (omega (arith, lt, below)))
    ∙ (e ∙ get_or-map (lit_over atoms) clause j blank d below) in
    not_before a b
    ((over_renames atoms different).apart a b
    (stands.image.within a (Contains-get_or clause i blank (omega (arith, lt, below))))
    (stands.image.within b (Contains-get_or clause j blank below)) same)
    (stands.rises.order i j blank lt below)

-- it has as many literals as the clause that it stands for, each counted once
pub stands_count : (atoms : List Atom) (given : List AtomLit) (clause : List Lit) → AreDifferent atoms
    → StandsFor atoms given clause → length clause ≡ literal_count given
stands_count atoms given clause different stands =
    let over = map (lit_over atoms) clause in
    let there : (q : AtomLit) → Contains over q → Contains given q = λ q c.
    let w = image_from (lit_over atoms) clause q c in
    subst (λ x. Contains given x) w.2 (stands.image.there w.0 w.1) in
    let back : (q : AtomLit) → Contains given q → Contains over q = λ q c.
    let w = stands.image.back q c in
    subst (λ x. Contains over x) w.2 (image_there (lit_over atoms) clause w.0 w.1) in
    sym (length-map clause (lit_over atoms))
    ∙ length-from_keys lit_equiv over given
    (IsDistinct-from_AllPairs lit_decides over (over_differ atoms given clause different stands))
    (λ q. same_from_decides (is_member (lit_eq).it over q) (is_member (lit_eq).it given q)
    (is_member-Decides lit_decides over q)
    (Decides-like (is_member (lit_eq).it given q) (back q) (there q) (is_member-Decides lit_decides given q)))

-- ---- the steps

given_one : (kind : StepKind) (clause : List Lit) → length (given_by kind clause) ≡ kind_count kind
given_one Axiom clause = refl
given_one Side clause = refl
given_one Derived clause = refl

given_same : (steps : List Step) (logged : List LogStep) → length logged ≡ length steps
    → ((k : ℕ) → k < length steps → (get_or logged k no_logged).kind ≡ kind_of (get_or steps k no_step))
    → sum_by step_count steps ≡ length (given_clauses logged)
given_same [] [] long each = refl
given_same [] (l ∷ ls) long each = absurd (omega arith)
given_same (s ∷ ss) [] long each = absurd (omega arith)
given_same (s ∷ ss) (l ∷ ls) long each =
    let one = given_one l.kind l.clause ∙ ap kind_count (each 0 (omega arith)) in
    let rest = given_same ss ls (omega arith) (λ k lt. each (suc k) (omega arith)) in
    let both = length-append (given_of l) (given_clauses ls) in
    let first = sum_by-cons step_count s ss in
    omega (arith, one, rest, both, first)

-- so many clauses has the CNF of the log
pub log_counted : (sides : List (List AtomLit)) (steps : List Step) (index : ℕ) (last : Step) (atoms : List Atom)
    (logged : List LogStep) (count : ℕ) → index + 1 ≡ length steps → last ≡ get_or steps index last
    → AreDifferent atoms → IsLogFor sides steps atoms logged → count ≡ count_of sides steps last
    → count ≡ length (cnf_clauses logged)
log_counted sides steps index last atoms logged count end same different h is =
    let long = h.long in
    let at = h.each index (omega (arith, end)) in
    let here : get_or steps index no_step ≡ last
    = sym (same ∙ get_or_default steps index last no_step (omega (arith, end))) in
    let last_is : length logged - 1 ≡ index = omega (arith, long, end) in
    let units : length (last_clause logged) ≡ literal_count (step_clause sides last)
    = ap (λ k. length (get_or logged k no_logged).clause) last_is
    ∙ (stands_count atoms _ _ different at.clause ∙ ap (λ s. literal_count (step_clause sides s)) here) in
    is ∙ (ap (λ n. sum_by step_count steps + n) (sym units)
    ∙ cnf_count logged (sum_by step_count steps) (last_clause logged)
    (given_same steps logged long (λ k lt. (h.each k lt).kind)) refl)
