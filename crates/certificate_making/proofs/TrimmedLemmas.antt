-- What a refuting step reaches, moved into the claim, is a refutation.
use Rattle.std.proofs.Common.{◌≡◌, inl, inr, ⊎_elim, ℕ, zero, suc, ◌+◌, ◌-◌, ◌<◌, ◌≤◌, Bool, true, false, not, List, []}
use Rattle.std.proofs.Common.{length, map, take, refl, ap, sym, subst, ◌∙◌, arith}
use Rattle.std.specs.Prelude.{◌⊎◌, All, Contains, slice_index_or, Ok}
use Rattle.std.proofs.lemmas.Bool.{cases_lt, cases_eq}
use Rattle.std.proofs.lemmas.List.{get_or_default, get_or-map, get_or-take, length-map, length-take-le}
use Rattle.std.proofs.lemmas.List.Elements.{All-from_get_or, Contains-get_or}
use Rattle.std.proofs.lemmas.List.Kept.{AllPairs-from_increasing}
use Rattle.lists.proofs.Membership.{Contains-nil, Contains-head, Contains-tail, Contains-cons_cases}
use Rattle.plain_lits.specs.CheckLaws.{Renames, IsImage, IsMovedHint}
use Rattle.plain_lits.specs.HintCheck.{clause_at}
use Rattle.plain_lits.proofs.Renaming.{checks_moved}
use Rattle.semantics.specs.Frameworks.{Framework, af, aba}
use Rattle.meaning_atoms.specs.declared.atom.Atom.{Atom}
use Rattle.meaning_atoms.specs.declared.atom.Atom.TheVariants.{Ask}
use Rattle.meaning_atoms.specs.declared.atom.AtomLit.{AtomLit}
use Rattle.meaning_atoms.specs.declared.axiom.AxiomName.{AxiomName}
use Rattle.meaning_atoms.specs.declared.axiom.AxiomName.TheVariants.{Af as OfAf, Aba as OfAba}
use Rattle.meaning_atoms.specs.Atoms.{IsAtom, IsLit}
use Rattle.meaning_atoms.specs.Literals.{denied, negated, AsksNothing}
use Rattle.meaning_atoms.specs.Worlds.{IsAsk, IsFact}
use Rattle.af_axioms.specs.Facts.{IsFactValue}
use Rattle.certificate_claims.specs.declared.certificate.Step.{Step}
use Rattle.certificate_claims.specs.declared.certificate.Step.TheVariants.{Axiom, Side}
use Rattle.certificate_claims.specs.Refutations.{Claim, IsPlain, IsAxiomOf, IsClosed, IsNotAsked, StepHolds}
use Rattle.certificate_claims.specs.Refutations.{axiom_clause, step_clause, step_clauses}
use Rattle.certificate_claims.specs.Refutations.{no_step as no_cert_step}
use Rattle.certificate_text.specs.Written.{IsOrdinal, IsWritableStep}
use Rattle.oracle_face.specs.Goals.{DeniesSide, Refutes}
use Rattle.oracle_face.specs.Logs.{OracleLog, LogStep, SideClause, Source, by_axiom, by_side, by_hints, IsGiven, IsLog}
use Rattle.oracle_face.specs.Logs.{IsNumberOf, IsSameClause, Reaches, itself, by_hint, hints_of, clauses_of, guarded}
use Rattle.oracle_face.specs.Logs.{step_at, side_at, no_side, no_step}
use Rattle.session_log.specs.Guards.{IsGuarded}
use Rattle.session_log.proofs.AxiomLemmas.{axiom_plain}
use Rattle.session_log.proofs.StepLemmas.{hint_before, reached_before, reached_named}
use Rattle.certificate_making.specs.Refuted.{ReachesStep, AreAllReached, AreRefuting, IsRefutingStep, step_itself}
use Rattle.certificate_making.specs.Refuted.{step_by_hint, hints_in, step_of}
use Rattle.certificate_making.specs.Trimmed.{HaveSmallNumbers, ArePositions, IsMovedClause, IsMovedStep, IsTrimmed}
use Rattle.certificate_making.specs.Trimmed.{moved_atom, moved_lit, number_in, position_of}
use Rattle.lists.proofs.Images.{image_there, image_from}

-- ---- atoms

ask_or_not : (atom : Atom) → ((n : ℕ) × (atom ≡ Ask n)) ⊎ (IsAsk atom → ⊥)
ask_or_not (Ask n) = inl (n, refl)
ask_or_not _ = inr (λ ask. ask)

moved_other : (positions : List ℕ) (atom : Atom) → (IsAsk atom → ⊥) → moved_atom positions atom ≡ atom
moved_other positions (Ask n) none = absurd (none tt)
moved_other positions _ none = refl

same_lit : (positions : List ℕ) (l : AtomLit) → (IsAsk l.atom → ⊥) → moved_lit positions l ≡ l
same_lit positions l none = λ i. record { atom = moved_other positions l.atom none i; positive = l.positive }

ask_numbers : (m n : ℕ) → Ask m ≡ Ask n → m ≡ n
ask_numbers m n e = cc

-- an atom that can be moved: a side clause has its position
abbrev IsMovable : List SideClause → List ℕ → Atom → Type 0
IsMovable sides positions (Ask n) = IsNumberOf sides n × (0 < position_of positions n)
IsMovable sides positions _ = Unit {0}

movable_other : (sides : List SideClause) (positions : List ℕ) (atom : Atom) → (IsAsk atom → ⊥)
    → IsMovable sides positions atom
movable_other sides positions (Ask n) none = absurd (none tt)
movable_other sides positions _ none = tt

joined : (a b c : List AtomLit) → IsSameClause a b → IsSameClause c b → IsSameClause a c
joined a b c left right = record {
  there = λ l h. right.back l (left.there l h);
  back = λ l h. left.back l (right.there l h);
}

module _ (f : Framework) (log : OracleLog) (claim : Claim) (positions : List ℕ) (form : IsLog f log)
    (are : ArePositions log.sides claim positions) where
  -- two side clauses don't stand at one position
  positions_apart : (m n : ℕ) → IsMovable log.sides positions (Ask m) → IsMovable log.sides positions (Ask n)
      → position_of positions m ≡ position_of positions n → m ≡ n
  positions_apart m n is_m is_n e =
      let at_m = are.stands m is_m.0 is_m.1 in
      let at_n = are.stands n is_n.0 is_n.1 in
      let same_n : IsSameClause (side_at log.sides n).literals
      (slice_index_or claim.sides (position_of positions m - 1) []) =
      subst (λ (p : ℕ). IsSameClause (side_at log.sides n).literals (slice_index_or claim.sides (p - 1) [])) (sym e)
      at_n.same in
      form.apart m n is_m.0 is_n.0 (joined _ _ _ at_m.same same_n)

  atoms_apart : (a b : Atom) → IsMovable log.sides positions a → IsMovable log.sides positions b
      → moved_atom positions a ≡ moved_atom positions b → a ≡ b
  atoms_apart a b is_a is_b e =
      ⊎_elim
      (λ ask_a. ⊎_elim
      (λ ask_b.
      let p : Ask (position_of positions ask_a.0) ≡ Ask (position_of positions ask_b.0) =
      ap (moved_atom positions) (sym ask_a.1) ∙ (e ∙ ap (moved_atom positions) ask_b.1) in
      let same = positions_apart ask_a.0 ask_b.0 (subst (IsMovable log.sides positions) ask_a.1 is_a)
      (subst (IsMovable log.sides positions) ask_b.1 is_b) (ask_numbers _ _ p) in
      ask_a.1 ∙ (ap (λ (n : ℕ). Ask n) same ∙ sym ask_b.1))
      (λ none_b.
      let b_ask : Ask (position_of positions ask_a.0) ≡ b =
      ap (moved_atom positions) (sym ask_a.1) ∙ (e ∙ moved_other positions b none_b) in
      absurd (none_b (subst (λ (c : Atom). IsAsk c) b_ask tt)))
      (ask_or_not b))
      (λ none_a. ⊎_elim
      (λ ask_b.
      let a_ask : Ask (position_of positions ask_b.0) ≡ a =
      ap (moved_atom positions) (sym ask_b.1) ∙ (sym e ∙ moved_other positions a none_a) in
      absurd (none_a (subst (λ (c : Atom). IsAsk c) a_ask tt)))
      (λ none_b. sym (moved_other positions a none_a) ∙ (e ∙ moved_other positions b none_b))
      (ask_or_not b))
      (ask_or_not a)

  abbrev IsIn : AtomLit → Type 0
  IsIn l = IsMovable log.sides positions l.atom

  renames : Renames negated negated (moved_lit positions) IsIn
  renames = record {
    closed = λ l is. is;
    negates = λ l is. refl;
    apart = λ a b is_a is_b e.
        let atoms = atoms_apart a.atom b.atom is_a is_b (ap (λ (l : AtomLit). l.atom) e) in
        λ i. record { atom = atoms i; positive = (ap (λ (l : AtomLit). l.positive) e) i };
  }

  -- ---- the clause of one step

  image_axiom : (name : AxiomName) (clause : List AtomLit) → IsSameClause clause (axiom_clause name)
      → IsImage (moved_lit positions) IsIn clause (axiom_clause name)
  image_axiom name clause same = record {
    within = λ l c. movable_other log.sides positions l.atom (axiom_plain name l (same.there l c));
    there = λ l c.
        let h = same.there l c in
        subst (λ (k : AtomLit). Contains (axiom_clause name) k) (sym (same_lit positions l (axiom_plain name l h))) h;
    back = λ m c. (m, same.back m c, same_lit positions m (axiom_plain name m c));
  }

  image_side : (n : ℕ) (clause : List AtomLit) → IsNumberOf log.sides n → 0 < position_of positions n
      → IsSameClause clause (guarded n (side_at log.sides n).literals)
      → IsImage (moved_lit positions) IsIn clause (step_clause claim.sides (Side (position_of positions n)))
  image_side n clause named found same =
      let low = named.from_one in
      let high = named.within in
      let literals = (side_at log.sides n).literals in
      let plain : AsksNothing literals =
      form.plain (side_at log.sides n) (Contains-get_or log.sides (n - 1) no_side (omega arith)) in
      let at = are.stands n named found in
      let p = position_of positions n in
      let side = slice_index_or claim.sides (p - 1) [] in
      record {
        within = λ l c. ⊎_elim
            (λ (e : denied (Ask n) ≡ l). subst (λ (k : AtomLit). IsIn k) e (named, found))
            (λ h. movable_other log.sides positions l.atom (plain l h))
            (Contains-cons_cases (denied (Ask n)) literals l (same.there l c));
        there = λ l c. ⊎_elim
            (λ (e : denied (Ask n) ≡ l). Contains-head (denied (Ask p)) side (moved_lit positions l)
            (ap (moved_lit positions) e))
            (λ h. Contains-tail (denied (Ask p)) side (moved_lit positions l)
            (subst (λ (k : AtomLit). Contains side k) (sym (same_lit positions l (plain l h))) (at.same.there l h)))
            (Contains-cons_cases (denied (Ask n)) literals l (same.there l c));
        back = λ m c. ⊎_elim
            (λ (e : denied (Ask p) ≡ m). (
              denied (Ask n),
              same.back (denied (Ask n)) (Contains-head (denied (Ask n)) literals (denied (Ask n)) refl),
              e,
            ))
            (λ h. let there = at.same.back m h in (
              m,
              same.back m (Contains-tail (denied (Ask n)) literals m there),
              same_lit positions m (plain m there),
            ))
            (Contains-cons_cases (denied (Ask p)) side m c);
      }

  image_derived : (clause literals : List AtomLit) → ((l : AtomLit) → Contains clause l → IsIn l)
      → IsMovedClause positions clause literals → IsImage (moved_lit positions) IsIn clause literals
  image_derived clause literals movable same = record {
    within = movable;
    there = λ l c. same.back (moved_lit positions l) (image_there (moved_lit positions) clause l c);
    back = λ m c. image_from (moved_lit positions) clause m (same.there m c);
  }

  image_of : (numbers : List ℕ) (before : List LogStep) (source : Source) (clause : List AtomLit) (step : Step)
      → IsGiven f log.sides before clause source → IsMovedStep positions numbers source clause step
      → ((l : AtomLit) → Contains clause l → IsIn l)
      → IsImage (moved_lit positions) IsIn clause (step_clause claim.sides step)
  image_of numbers before (by_axiom name) clause step given moved movable =
      subst (λ (s : Step). IsImage (moved_lit positions) IsIn clause (step_clause claim.sides s)) (sym moved)
      (image_axiom name clause given.1)
  image_of numbers before (by_side n) clause step given moved movable =
      let first = movable (denied (Ask n))
      (given.1.back (denied (Ask n)) (Contains-head (denied (Ask n)) _ (denied (Ask n)) refl)) in
      subst (λ (s : Step). IsImage (moved_lit positions) IsIn clause (step_clause claim.sides s)) (sym moved)
      (image_side n clause given.0 first.1 given.1)
  image_of numbers before (by_hints hints) clause step given moved movable =
      subst (λ (s : Step). IsImage (moved_lit positions) IsIn clause (step_clause claim.sides s)) (sym moved.is)
      (image_derived clause moved.literals movable moved.same)

-- ---- what is reached

pub reaches_on : (steps : List LogStep) (a b c : ℕ) → Reaches steps a b → Reaches steps b c → Reaches steps a c
reaches_on steps a b c (itself m) more = more
reaches_on steps a b c (by_hint m hint reached at first) more =
    by_hint a hint c at (reaches_on steps hint b c first more)

pub hint_reached : (steps : List LogStep) (a b hint : ℕ) → Reaches steps a b
    → Contains (hints_of (step_at steps b).source) hint → Reaches steps a hint
hint_reached steps a b hint reach c = reaches_on steps a b hint reach (by_hint b hint hint c (itself hint))

given_by_number : (f : Framework) (log : OracleLog) (number : ℕ) → IsLog f log → IsNumberOf log.steps number
    → IsGiven f log.sides (take (number - 1) log.steps) (step_at log.steps number).clause
    (step_at log.steps number).source
given_by_number f log number form is =
    let low = is.from_one in
    let high = is.within in
    form.each (number - 1) (omega arith)

before_clause : (steps : List LogStep) (k n : ℕ) → k ≤ length steps → 0 < n → n ≤ k
    → clause_at (clauses_of (take k steps)) n ≡ (step_at steps n).clause
before_clause steps k n within low high =
    get_or-map (λ (s : LogStep). s.clause) (take k steps) (n - 1) no_step []
    (omega (arith, length-take-le k steps within))
    ∙ ap (λ (s : LogStep). s.clause) (get_or-take k steps (n - 1) no_step (omega arith))

cert_clause : (sides : List (List AtomLit)) (steps : List Step) (k n : ℕ) → k ≤ length steps → 0 < n → n ≤ k
    → clause_at (step_clauses sides (take k steps)) n ≡ step_clause sides (step_of steps n)
cert_clause sides steps k n within low high =
    get_or-map (step_clause sides) (take k steps) (n - 1) no_cert_step []
    (omega (arith, length-take-le k steps within))
    ∙ ap (step_clause sides) (get_or-take k steps (n - 1) no_cert_step (omega arith))

no_ask_fact : (f : Framework) (atom : Atom) → IsFact f atom → IsAsk atom → ⊥
no_ask_fact (af f) (Ask n) fact ask = fact
no_ask_fact (af f) _ fact ask = ask
no_ask_fact (aba f) (Ask n) fact ask = fact
no_ask_fact (aba f) _ fact ask = ask

module _ (f : Framework) (log : OracleLog) (claim : Claim) (step : ℕ) (positions kept numbers : List ℕ)
    (steps : List Step) (refuting : IsRefutingStep f log claim step positions)
    (trim : IsTrimmed log step positions kept numbers steps) where
  abbrev form : IsLog f log
  form = refuting.form

  abbrev guards : IsGuarded log
  guards = refuting.guards

  abbrev plain : IsPlain claim
  plain = refuting.plain

  abbrev refutes : Refutes f log claim step
  refutes = refuting.refutes

  abbrev are : ArePositions log.sides claim positions
  are = refuting.stands

  abbrev kept_at : ℕ → ℕ
  kept_at i = slice_index_or kept i 0

  abbrev at_index : ℕ → LogStep
  at_index i = step_at log.steps (kept_at i)

  abbrev cert_at : ℕ → Step
  cert_at i = slice_index_or steps i no_cert_step

  kept_reached : (i : ℕ) → i < length kept → Reaches log.steps step (kept_at i)
  kept_reached i lt = (trim.reached.members (kept_at i)).0 (Contains-get_or kept i 0 lt)

  kept_named : (i : ℕ) → i < length kept → IsNumberOf log.steps (kept_at i)
  kept_named i lt = reached_named f log step (kept_at i) form refutes.step (kept_reached i lt)

  -- the index of a step that is reached
  index_of : (k : ℕ) → Reaches log.steps step k → (i : ℕ) × (i < length kept) × (kept_at i ≡ k)
  index_of k reach =
      let c = (trim.reached.members k).1 reach in
      (c.0, c.1, get_or_default kept c.0 0 k c.1 ∙ c.2)

  -- its number is the index and one
  number_of : (k : ℕ) → (reach : Reaches log.steps step k) → number_in numbers k ≡ (index_of k reach).0 + 1
  number_of k reach =
      let at = index_of k reach in
      subst (λ (n : ℕ). number_in numbers n ≡ at.0 + 1) at.2 (trim.numbered.each at.0 at.1)

  rises : (i j : ℕ) → i < j → j < length kept → kept_at i < kept_at j
  rises i j lt within = AllPairs-from_increasing kept trim.reached.rises i j 0 lt within

  earlier : (i j : ℕ) → j < length kept → kept_at j < kept_at i → j < i
  earlier i j within lt =
      ⊎_elim (λ less. less)
      (λ ge. ⊎_elim
      (λ e. absurd (omega (arith, lt, ap kept_at e)))
      (λ ne. let up = rises i j (omega arith) within in absurd (omega arith))
      (cases_eq i j))
      (cases_lt j i)

  -- the kept steps are no more than the numbers up to the step
  index_below : (i : ℕ) → i < length kept → i < kept_at i
  index_below zero lt = (kept_named 0 lt).from_one
  index_below (suc i) lt =
      let before = index_below i (omega arith) in
      let up = rises i (suc i) (omega arith) lt in
      omega arith

  kept_within : (i : ℕ) → i < length kept → kept_at i ≤ step
  kept_within i lt = (reached_before f log step (kept_at i) form refutes.step (kept_reached i lt)).1

  -- each side clause that is reached is the claim's
  side_found : (k n : ℕ) → Reaches log.steps step k → (step_at log.steps k).source ≡ by_side n
      → IsMovable log.sides positions (Ask n)
  side_found k n reach source =
      let is = refutes.own_sides k n reach source in
      (is.number, are.found n is)

  ask_movable : (k n : ℕ) (positive : Bool) → Reaches log.steps step k
      → Contains (step_at log.steps k).clause (record { atom = Ask n; positive = positive })
      → IsMovable log.sides positions (Ask n)
  ask_movable k n true reach c =
      absurd (guards.unasked k n (reached_named f log step k form refutes.step reach) c)
  ask_movable k n false reach c =
      let rests = guards.rests k n (reached_named f log step k form refutes.step reach) c in
      side_found rests.step n (reaches_on log.steps step k rests.step reach rests.reaches) rests.source

  lits_movable : (k : ℕ) → Reaches log.steps step k → (l : AtomLit) → Contains (step_at log.steps k).clause l
      → IsIn f log claim positions form are l
  lits_movable k reach l c =
      ⊎_elim
      (λ ask. subst (λ (a : Atom). IsMovable log.sides positions a) (sym ask.1)
      (ask_movable k ask.0 l.positive reach
      (subst (λ (a : Atom). Contains (step_at log.steps k).clause (record { atom = a; positive = l.positive })) ask.1
      c)))
      (λ none. movable_other log.sides positions l.atom none)
      (ask_or_not l.atom)

  image : (i : ℕ) → i < length kept
      → IsImage (moved_lit positions) (IsIn f log claim positions form are) (at_index i).clause
      (step_clause claim.sides (cert_at i))
  image i lt =
      image_of f log claim positions form are numbers (take (kept_at i - 1) log.steps) (at_index i).source
      (at_index i).clause (cert_at i) (given_by_number f log (kept_at i) form (kept_named i lt)) (trim.moved.each i lt)
      (lits_movable (kept_at i) (kept_reached i lt))

  -- ---- each step holds

  -- a hint of a kept step is moved
  hint_moved : (i : ℕ) → i < length kept → (hint : ℕ) → Contains (hints_of (at_index i).source) hint
      → IsMovedHint (moved_lit positions) (IsIn f log claim positions form are)
      (clauses_of (take (kept_at i - 1) log.steps)) (step_clauses claim.sides (take i steps)) hint
      (number_in numbers hint)
  hint_moved i lt hint c =
      let named = kept_named i lt in
      let high = named.within in
      let order = hint_before f log (kept_at i) hint form named c in
      let low = order.0 in
      let below = order.1 in
      let reach = hint_reached log.steps step (kept_at i) hint (kept_reached i lt) c in
      let at = index_of hint reach in
      let j = at.0 in
      let number = number_of hint reach in
      let sooner = earlier i j at.1 (omega (arith, at.2, below)) in
      let long = trim.moved.long in
      record {
        named = (
          λ is. record {
            from_one = omega (arith, number);
            within = omega (
              arith,
              number,
              sooner,
              length-map (take i steps) (step_clause claim.sides),
              length-take-le i
                  steps (omega arith),
            );
          },
          λ is. record {
            from_one = low;
            within = omega (
              arith,
              length-map (take (kept_at i - 1) log.steps) (λ (s : LogStep). s.clause),
              length-take-le (kept_at i - 1) log.steps (omega arith),
            );
          },
        );
        image = λ is.
            let old = before_clause log.steps (kept_at i - 1) hint (omega arith) low (omega arith) in
            let new = cert_clause claim.sides steps i (number_in numbers hint) (omega arith) (omega (arith, number))
            (omega (arith, number, sooner)) in
            let index : number_in numbers hint - 1 ≡ j = omega (arith, number) in
            subst (λ (clause : List AtomLit). IsImage (moved_lit positions) (IsIn f log claim positions form are) clause
            (clause_at (step_clauses claim.sides (take i steps)) (number_in numbers hint))) (sym old)
            (subst (λ (clause : List AtomLit). IsImage (moved_lit positions) (IsIn f log claim positions form are)
            (step_at log.steps hint).clause clause) (sym new)
            (subst (λ (n : ℕ). IsImage (moved_lit positions) (IsIn f log claim positions form are)
            (step_at log.steps hint).clause (step_clause claim.sides (slice_index_or steps n no_cert_step))) (sym index)
            (subst (λ (n : ℕ). IsImage (moved_lit positions) (IsIn f log claim positions form are)
            (step_at log.steps n).clause (step_clause claim.sides (cert_at j))) at.2 (image j at.1))));
      }

  holds_of : (i : ℕ) → i < length kept → (source : Source) (cert : Step)
      → IsGiven f log.sides (take (kept_at i - 1) log.steps) (at_index i).clause source
      → (at_index i).source ≡ source → IsMovedStep positions numbers source (at_index i).clause cert
      → StepHolds f claim.sides (take i steps) cert
  holds_of i lt (by_axiom name) cert given source moved =
      subst (λ (s : Step). StepHolds f claim.sides (take i steps) s) (sym moved) given.0
  holds_of i lt (by_side n) cert given source moved =
      let found = side_found (kept_at i) n (kept_reached i lt) source in
      let at = are.stands n found.0 found.1 in
      subst (λ (s : Step). StepHolds f claim.sides (take i steps) s) (sym moved) (found.1, at.named.within)
  holds_of i lt (by_hints hints) cert given source moved =
      let to = moved_lit positions in
      let there = IsIn f log claim positions form are in
      let literals = moved.literals in
      subst (λ (s : Step). StepHolds f claim.sides (take i steps) s) (sym moved.is) (
        length hints,
        checks_moved negated negated to there (renames f log claim positions form are) (number_in numbers)
            (clauses_of (take (kept_at i - 1) log.steps)) (step_clauses claim.sides (take i steps))
            (at_index i).clause literals hints
            (record {
              clause_image = image_derived f log claim positions form are (at_index i).clause literals
                  (lits_movable (kept_at i) (kept_reached i lt)) moved.same;
              each = λ hint c. hint_moved i lt hint
                  (subst (λ (s : Source). Contains (hints_of s) hint) (sym source) c);
            }) (Ok (length hints)) given.0,
      )

  step_holds : (i : ℕ) → i < length kept → StepHolds f claim.sides (take i steps) (cert_at i)
  step_holds i lt =
      holds_of i lt (at_index i).source (cert_at i) (given_by_number f log (kept_at i) form (kept_named i lt)) refl
      (trim.moved.each i lt)

  -- ---- the last step

  top : (i : ℕ) × (i < length kept) × (kept_at i ≡ step)
  top = index_of step (itself step)

  top_is_last : length steps - 1 ≡ top.0
  top_is_last =
      let at = top in
      let long = trim.moved.long in
      let within = at.1 in
      ⊎_elim
      (λ less.
      let up = rises at.0 (length kept - 1) less (omega arith) in
      let high = kept_within (length kept - 1) (omega arith) in
      absurd (omega (arith, at.2)))
      (λ ge. omega arith)
      (cases_lt at.0 (length kept - 1))

  denies_closed : (atom : Atom) (positive : Bool) → DeniesSide log.sides claim atom positive
      → IsNotAsked (moved_atom positions atom) positive (length claim.sides)
  denies_closed (Ask n) false is =
      let found = are.found n is in
      let at = are.stands n is.number found in
      (found, at.named.within)
  denies_closed _ _ is = absurd is

  ask_fact : (atom : Atom) (value : Bool) → IsFactValue f atom value → IsAsk atom → ⊥
  ask_fact atom value fact = no_ask_fact f atom fact.fact

  closed_moved : (l : AtomLit) → Contains (step_at log.steps step).clause l → IsClosed f claim (moved_lit positions l)
  closed_moved l c =
      ⊎_elim
      (λ fact. subst (λ (k : AtomLit). IsClosed f claim k)
      (sym (same_lit positions l (ask_fact l.atom (not l.positive) fact))) (inl fact))
      (λ more. ⊎_elim
      (λ goal. subst (λ (k : AtomLit). IsClosed f claim k)
      (sym (same_lit positions l (plain.goals (negated l) goal))) (inr (inl goal)))
      (λ denies. inr (inr (denies_closed l.atom l.positive denies))) more)
      (refutes.closed l c)

  closed_last : (m : AtomLit)
      → Contains (step_clause claim.sides (slice_index_or steps (length steps - 1) no_cert_step)) m
      → IsClosed f claim m
  closed_last m c =
      let at = top in
      let here : Contains (step_clause claim.sides (cert_at at.0)) m =
      subst (λ (n : ℕ). Contains (step_clause claim.sides (slice_index_or steps n no_cert_step)) m) top_is_last c in
      let from = (image at.0 at.1).back m here in
      subst (λ (k : AtomLit). IsClosed f claim k) from.2
      (closed_moved from.0 (subst (λ (k : ℕ). Contains (step_at log.steps k).clause from.0) at.2 from.1))

  -- ---- none could be left out

  hints_there : (source : Source) (clause : List AtomLit) (cert : Step) (hint : ℕ)
      → IsMovedStep positions numbers source clause cert → Contains (hints_of source) hint
      → Contains (hints_in cert) (number_in numbers hint)
  hints_there (by_axiom name) clause cert hint moved c = absurd (Contains-nil hint c)
  hints_there (by_side n) clause cert hint moved c = absurd (Contains-nil hint c)
  hints_there (by_hints hints) clause cert hint moved c =
      subst (λ (s : Step). Contains (hints_in s) (number_in numbers hint)) (sym moved.is)
      (image_there (number_in numbers) hints hint c)

  reaches_there : (a b : ℕ) → Reaches log.steps step a → Reaches log.steps a b
      → ReachesStep steps (number_in numbers a) (number_in numbers b)
  reaches_there a b reach (itself m) = step_itself (number_in numbers a)
  reaches_there a b reach (by_hint m hint reached c more) =
      let at = index_of a reach in
      let index : number_in numbers a - 1 ≡ at.0 = omega (arith, number_of a reach) in
      let hinted : Contains (hints_in (cert_at at.0)) (number_in numbers hint) =
      hints_there (at_index at.0).source (at_index at.0).clause (cert_at at.0) hint (trim.moved.each at.0 at.1)
      (subst (λ (k : ℕ). Contains (hints_of (step_at log.steps k).source) hint) (sym at.2) c) in
      step_by_hint (number_in numbers a) (number_in numbers hint) (number_in numbers b)
      (subst (λ (n : ℕ). Contains (hints_in (slice_index_or steps n no_cert_step)) (number_in numbers hint)) (sym index)
      hinted)
      (reaches_there hint b (hint_reached log.steps step a hint reach c) more)

  all_reached : AreAllReached steps
  all_reached number low high =
      let long = trim.moved.long in
      let at = top in
      let last = top_is_last in
      let within = at.1 in
      let lt : number - 1 < length kept = omega arith in
      let there = reaches_there step (kept_at (number - 1)) (itself step) (kept_reached (number - 1) lt) in
      let top_number : number_in numbers step ≡ length steps =
      subst (λ (k : ℕ). number_in numbers k ≡ length steps) at.2
      (trim.numbered.each at.0 at.1 ∙ omega arith) in
      let its_number : number_in numbers (kept_at (number - 1)) ≡ number =
      trim.numbered.each (number - 1) lt ∙ omega arith in
      subst (λ (n : ℕ). ReachesStep steps (length steps) n) its_number
      (subst (λ (n : ℕ). ReachesStep steps n (number_in numbers (kept_at (number - 1)))) top_number there)

  -- ---- a text can hold the steps

  position_fits : HaveSmallNumbers step positions → (n : ℕ) → 0 < position_of positions n
      → IsAtom (Ask (position_of positions n))
  position_fits small n found =
      let fits = small.positions_fit n in
      (found, omega arith)

  lit_fits : HaveSmallNumbers step positions → (k : ℕ) → Reaches log.steps step k → (l : AtomLit)
      → Contains (step_at log.steps k).clause l → IsLit (moved_lit positions l)
  lit_fits small k reach l c =
      ⊎_elim
      (λ ask.
      let movable = subst (λ (a : Atom). IsMovable log.sides positions a) ask.1 (lits_movable k reach l c) in
      subst (λ (a : Atom). IsAtom (moved_atom positions a)) (sym ask.1) (position_fits small ask.0 movable.1))
      (λ none. subst (λ (m : AtomLit). IsLit m) (sym (same_lit positions l none))
      (guards.within k l (reached_named f log step k form refutes.step reach) c none))
      (ask_or_not l.atom)

  number_fits : HaveSmallNumbers step positions → (k : ℕ) → Reaches log.steps step k → IsOrdinal (number_in numbers k)
  number_fits small k reach =
      let at = index_of k reach in
      let number = number_of k reach in
      let below = index_below at.0 at.1 in
      let within = kept_within at.0 at.1 in
      let fits = small.step_fits in
      record { from_one = omega arith; fits = omega arith }

  axiom_named : (g : Framework) (name : AxiomName) → IsAxiomOf g name → IsWritableStep (Axiom name)
  axiom_named (af g) (OfAf name) is = is
  axiom_named (af g) (OfAba name) is = absurd is
  axiom_named (aba g) (OfAf name) is = absurd is
  axiom_named (aba g) (OfAba name) is = is

  all_from : {X : Type 0} (P : X → Type 0) (xs : List X) → ((x : X) → Contains xs x → P x) → All P xs
  all_from P xs each k d lt = each (slice_index_or xs k d) (Contains-get_or xs k d lt)

  writable_of : HaveSmallNumbers step positions → (i : ℕ) → i < length kept → (source : Source) (cert : Step)
      → IsGiven f log.sides (take (kept_at i - 1) log.steps) (at_index i).clause source
      → (at_index i).source ≡ source → IsMovedStep positions numbers source (at_index i).clause cert
      → IsWritableStep cert
  writable_of small i lt (by_axiom name) cert given source moved =
      subst (λ (s : Step). IsWritableStep s) (sym moved) (axiom_named f name given.0)
  writable_of small i lt (by_side n) cert given source moved =
      let found = side_found (kept_at i) n (kept_reached i lt) source in
      subst (λ (s : Step). IsWritableStep s) (sym moved)
      (record { from_one = found.1; fits = small.positions_fit n })
  writable_of small i lt (by_hints hints) cert given source moved =
      let reach = kept_reached i lt in
      let clause = (at_index i).clause in
      subst (λ (s : Step). IsWritableStep s) (sym moved.is) (
        all_from IsLit moved.literals (λ m c.
            let from = image_from (moved_lit positions) clause m (moved.same.there m c) in
            subst (λ (k : AtomLit). IsLit k) from.2 (lit_fits small (kept_at i) reach from.0 from.1)),
        all_from IsOrdinal (map (number_in numbers) hints) (λ m c.
            let from = image_from (number_in numbers) hints m c in
            subst (λ (n : ℕ). IsOrdinal n) from.2
            (number_fits small from.0 (hint_reached log.steps step (kept_at i) from.0 reach
            (subst (λ (s : Source). Contains (hints_of s) from.0) (sym source) from.1)))),
      )

  pub trimmed_refutes : AreRefuting f claim steps
  trimmed_refutes =
      let long = trim.moved.long in
      let at = top in
      let within = at.1 in
      record {
        refutation = record {
          some_step = omega arith;
          each = λ i lt. step_holds i (omega arith);
          closed = closed_last;
        };
        reached = all_reached;
      }

  pub trimmed_fits : HaveSmallNumbers step positions → All IsWritableStep steps
  trimmed_fits small = All-from_get_or IsWritableStep steps no_cert_step (λ i lt.
      let long = trim.moved.long in
      let inside : i < length kept = omega arith in
      writable_of small i inside (at_index i).source (cert_at i)
      (given_by_number f log (kept_at i) form (kept_named i inside)) refl (trim.moved.each i inside))
