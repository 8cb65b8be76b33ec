-- The literals of the table are within their bounds, where the arguments fit the row, and none asks for a side clause.
use Rattle.std.proofs.Common.{◌≡◌, ◌+◌, ◌==◌, ◌<◌, ◌≤◌, ℕ, zero, suc, List, [], ◌∷◌, ◌++◌, length, get_or, map, refl, subst, ◌∙◌, ⊎_elim, arith}
use Rattle.std.specs.Prelude.{All, AllPairs, Contains}
use Rattle.std.specs.List.{AllByRecursion, flat_map}
use Rattle.std.proofs.lemmas.Bool.{cond_both, eqb-false}
use Rattle.std.proofs.lemmas.List.Elements.{All-from_recursion}
use Rattle.std.proofs.lemmas.List.Kept.{AllPairs-from_increasing}
use Rattle.meaning_atoms.specs.semantics.specs.Arguments.{IsArgument}
use Rattle.meaning_atoms.specs.declared.atom.Atom.TheVariants.{HGap, BGap}
use Rattle.meaning_atoms.specs.declared.atom.Closure.{Closure}
use Rattle.meaning_atoms.specs.declared.atom.Closure.TheVariants.{Own, Rest}
use Rattle.meaning_atoms.specs.declared.atom.AtomLit.{AtomLit}
use Rattle.meaning_atoms.specs.declared.aba_axiom.AbaAxiom.{AbaAxiom}
use Rattle.meaning_atoms.specs.declared.aba_axiom.AbaAxiom.TheVariants.{B1, B2, B3, B4, B5, B6, B7, B8, B9, B9Con, B10, B11, B12, B13, B14, B15, B16, B17, B18, B19}
use Rattle.meaning_atoms.specs.declared.loop_rows.LoopRow.{LoopRow}
use Rattle.meaning_atoms.specs.AbaAxioms.{IsAbaAxiom, IsLoop, IsLoopAtom, IsLoopPair, IsLoopRow}
use Rattle.meaning_atoms.specs.Atoms.{IsAtom, IsAtomOrNone, IsLit, IsPosition}
use Rattle.meaning_atoms.specs.Axioms.{IsStretch}
use Rattle.meaning_atoms.specs.Literals.{affirmed}
use Rattle.meaning_atoms.specs.Worlds.{IsAsk}
use Rattle.meaning_atoms.proofs.NotionClauses.{notions_fit, notions_plain}
use Rattle.aba_axioms.specs.AbaTable.{aba_clause, filled_gap, given_atom, loop_clause, other_heads, pair_literal, row_literals}
use Rattle.meaning_atoms.proofs.Positions.{first_place, last_place, stretch_begin, stretch_end, stretch_argument}
use Rattle.meaning_atoms.proofs.Positions.{stretch_past}

number : (x : ℕ) → IsArgument x → IsAtomOrNone x
number x h = record { high = omega (arith, h.high) }

nothing : IsAtomOrNone 0
nothing = record { high = omega arith }

-- ---- the loop clause

gap_fits : (w i j : ℕ) → IsArgument w → IsPosition i → IsPosition j → i ≤ j → AllByRecursion IsLit (filled_gap w i j)
gap_fits w i j a low high order =
    cond_both (i == j) _ _ (AllByRecursion IsLit) (λ _. tt) (λ _. ((a, low, high, order), tt))

both_fit : (xs ys : List AtomLit) → AllByRecursion IsLit xs → AllByRecursion IsLit ys → AllByRecursion IsLit (xs ++ ys)
both_fit [] ys h k = k
both_fit (x ∷ xs) ys h k = (h.0, both_fit xs ys h.1 k)

-- positions from which rules rise
AreFrom : ℕ → List ℕ → Type 0
AreFrom i [] = IsPosition i
AreFrom i (r ∷ more) = IsPosition i × IsArgument r × (i ≤ r) × AreFrom (r + 1) more

heads_fit : (w i : ℕ) (rules : List ℕ) → IsArgument w → AreFrom i rules → AllByRecursion IsLit (other_heads w i rules)
unfolding AreFrom
heads_fit w i [] a from = gap_fits w i 1000001 a from last_place from.high
heads_fit w i (r ∷ more) a from =
    both_fit (filled_gap w i r) (other_heads w (r + 1) more)
    (gap_fits w i r a from.0 (record { low = from.1.low; high = omega (arith, from.1.high) }) from.2)
    (heads_fit w (r + 1) more a from.3)

rest_rises : (r : ℕ) (rules : List ℕ) → AllPairs ◌<◌ (r ∷ rules) → AllPairs ◌<◌ rules
rest_rises r rules up i j d less within = up (suc i) (suc j) d (omega arith) (omega arith)

same_default : (xs : List ℕ) (k d e : ℕ) → k < length xs → get_or xs k d ≡ get_or xs k e
same_default [] k d e within = absurd (omega arith)
same_default (x ∷ xs) zero d e within = refl
same_default (x ∷ xs) (suc k) d e within = same_default xs k d e (omega arith)

-- what stands behind a number is past it
later_past : (r : ℕ) (more : List ℕ) → AllPairs ◌<◌ (r ∷ more) → (q : ℕ) → Contains more q → r + 1 ≤ q
later_past r more up q c =
    let less : r < get_or more c.0 0 = up 0 (suc c.0) 0 (omega arith) (omega (arith, c.1)) in
    let at : get_or more c.0 0 ≡ q = same_default more c.0 0 q c.1 ∙ c.2 in
    omega arith

are_from : (i : ℕ) (rules : List ℕ) → IsPosition i → AllPairs ◌<◌ rules
    → ((r : ℕ) → Contains rules r → IsArgument r) → ((r : ℕ) → Contains rules r → i ≤ r) → AreFrom i rules
unfolding AreFrom
are_from i [] at up are low = at
are_from i (r ∷ more) at up are low =
    let first = are r (0, omega arith, refl) in
    let high = first.high in (
      at,
      first,
      low r (0, omega arith, refl),
      are_from (r + 1) more (record { low = omega arith; high = omega arith }) (rest_rises r more up)
          (λ q c. are q (suc c.0, omega (arith, c.1), c.2)) (later_past r more up),
    )

-- what stands at each index
each_by_list : (P : AtomLit → Type 0) {X : Type 0} (g : X → AtomLit) (xs : List X)
    → ((x : X) → Contains xs x → P (g x)) → AllByRecursion P (map g xs)
each_by_list P g [] h = tt
each_by_list P g (x ∷ xs) h =
    (h x (0, omega arith, refl), each_by_list P g xs (λ y c. h y (suc c.0, omega (arith, c.1), c.2)))

in_mapped : (pairs : List (ℕ × ℕ)) (n : ℕ) → Contains (map (λ (p : ℕ × ℕ). p.0) pairs) n
    → (p : ℕ × ℕ) × Contains pairs p × (p.0 ≡ n)
in_mapped [] n c = absurd (omega (arith, c.1))
in_mapped (p ∷ pairs) n (zero, within, e) = (p, (0, omega arith, refl), e)
in_mapped (p ∷ pairs) n (suc k, within, e) =
    let h = in_mapped pairs n (k, omega arith, e) in (h.0, (suc h.1.0, omega (arith, h.1.1), h.1.2), h.2)

module _ (rows : List LoopRow) (each : (row : LoopRow) → Contains rows row → IsLoopRow rows row) (k : Closure) where
  loop_atom : (y : ℕ) → IsLoopAtom rows y → IsArgument y
  loop_atom y at = subst IsArgument at.is (each at.row at.member).atom

  pair_fits : (p : ℕ × ℕ) → IsLoopPair rows p → IsLit (pair_literal k p)
  pair_fits p h = ⊎_elim
      (λ zero_is. cond_both (p.1 == 0) _ _ IsLit (λ _. (h.rule, first_place))
      (λ ne. absurd (eqb-false p.1 0 ne zero_is)))
      (λ at. cond_both (p.1 == 0) _ _ IsLit (λ _. (h.rule, first_place)) (λ _. (h.rule, loop_atom p.1 at)))
      h.body

  row_fits : (row : LoopRow) → Contains rows row → AllByRecursion IsLit (row_literals k row)
  row_fits row c =
      let fits = each row c in
      let rules = map (λ (p : ℕ × ℕ). p.0) row.pairs in
      let are : (r : ℕ) → Contains rules r → IsArgument r
      = λ r there. let p = in_mapped row.pairs r there in subst IsArgument p.2 (fits.each p.0 p.1).rule in
      both_fit (other_heads row.atom 1 rules) (map (pair_literal k) row.pairs)
      (heads_fit row.atom 1 rules fits.atom
      (are_from 1 rules first_place (AllPairs-from_increasing rules fits.rise) are (λ r there. (are r there).low)))
      (each_by_list IsLit (pair_literal k) row.pairs (λ p d. pair_fits p (fits.each p d)))

  rows_flat : (some : List LoopRow) → ((row : LoopRow) → Contains some row → Contains rows row)
      → AllByRecursion IsLit (flat_map (row_literals k) some)
  rows_flat [] sub = tt
  rows_flat (row ∷ more) sub =
      both_fit (row_literals k row) (flat_map (row_literals k) more) (row_fits row (sub row (0, omega arith, refl)))
      (rows_flat more (λ r c. sub r (suc c.0, omega (arith, c.1), c.2)))

  given_fits : (row : LoopRow) → Contains rows row → IsAtom (given_atom k row.atom)
  given_fits row c = by_closure k (each row c).atom
    where
      by_closure : (k : Closure) → IsArgument row.atom → IsAtom (given_atom k row.atom)
      by_closure Own a = a
      by_closure Rest a = a

loop_fits : (k : Closure) (x : ℕ) (rows : List LoopRow) → IsLoop x rows → AllByRecursion IsLit (loop_clause k x rows)
loop_fits k x rows h = (
  number x (loop_atom rows h.each k x h.belongs),
  both_fit (map (λ row. affirmed (given_atom k row.atom)) rows) (flat_map (row_literals k) rows)
      (each_by_list IsLit (λ row. affirmed (given_atom k row.atom)) rows (given_fits rows h.each k))
      (rows_flat rows h.each k rows (λ r c. c)),
)

-- ---- the table

given_in_bounds : (k : Closure) (x : ℕ) → IsArgument x → IsAtom (given_atom k x)
given_in_bounds Own x a = a
given_in_bounds Rest x a = a

-- the literals of a step along a body, or along the contraries of an assumption
step_fits : (a i j : ℕ) → IsStretch a i j → (IsArgument a × IsPosition i)
    × (IsAtom (BGap a i j) × (IsAtomOrNone j × ((IsArgument a × IsPosition (j + 1)) × Unit {0})))
step_fits a i j s =
    let at : IsArgument a × IsPosition i = (s.argument, stretch_begin a i j s) in
    let gap : IsAtom (BGap a i j) = (s.argument, stretch_begin a i j s, stretch_end a i j s, s.order) in
    let later : IsArgument a × IsPosition (j + 1) = (s.argument, stretch_past a i j s) in
    (at, (gap, (number j (stretch_argument a i j s), (later, tt))))

fits : (name : AbaAxiom) → IsAbaAxiom name → AllByRecursion IsLit (aba_clause name)
fits (B1 a) h = (tt, (h, (h, tt)))
fits (B2 a) h = (h, (number a h, tt))
fits (B3 a) h = (h, ((h, first_place), (number a h, tt)))
fits (B4 k) h = (nothing, tt)
fits (B5 k r x) h = (h, ((h.0, first_place), (number x h.1, tt)))
fits (B6 k r x) h = (h, (number x h.1, ((h.0, first_place), tt)))
fits (B7 k r i j) h = step_fits r i j h
fits (B8 k r i) h = (h, ((h.0, h.1, last_place, h.1.high), tt))
fits (B9 k x) h = (number x h, (given_in_bounds k x h, ((number x h, first_place), tt)))
fits (B9Con a c) h = (number a h.0, (h, (h.1, tt)))
fits (B10 k x i j) h =
    let s : IsStretch x i j = h in
    let sup : IsAtomOrNone x × IsPosition i = (number x s.argument, stretch_begin x i j s) in
    let gap : IsAtom (HGap x i j) = (s.argument, stretch_begin x i j s, stretch_end x i j s, s.order) in
    let miss : IsArgument j × IsPosition 1 = (stretch_argument x i j s, first_place) in
    let later : IsAtomOrNone x × IsPosition (j + 1) = (number x s.argument, stretch_past x i j s) in
    (sup, (gap, (miss, (later, tt))))
fits (B11 k x i) h = ((number x h.0, h.1), ((h.0, h.1, last_place, h.1.high), tt))
fits (B12 a c) h = (tt, (h, (h.0, (h.1, tt))))
fits (B13 a c) h = (tt, (h, (h.0, (h.1, tt))))
fits (B14 a) h = (tt, (h, ((h, first_place), (h, tt))))
fits (B15 a) h = (tt, (h, (h, ((h, first_place), tt))))
fits (B16 part) h = notions_fit part
fits (B17 k x rows) h = loop_fits k x rows h
fits (B18 k a i j) h = step_fits a i j h
fits (B19 k a i) h = (h, ((h.0, h.1, last_place, h.1.high), tt))

pub rows_fit : (name : AbaAxiom) → IsAbaAxiom name → All IsLit (aba_clause name)
rows_fit name h = All-from_recursion IsLit (aba_clause name) (fits name h)

-- ---- side clauses

abbrev AsksNone : AtomLit → Type 0
AsksNone l = ¬ IsAsk l.atom

both_plain : (xs ys : List AtomLit) → AllByRecursion AsksNone xs → AllByRecursion AsksNone ys
    → AllByRecursion AsksNone (xs ++ ys)
both_plain [] ys h k = k
both_plain (x ∷ xs) ys h k = (h.0, both_plain xs ys h.1 k)

gap_plain : (w i j : ℕ) → AllByRecursion AsksNone (filled_gap w i j)
gap_plain w i j = cond_both (i == j) _ _ (AllByRecursion AsksNone) (λ _. tt) (λ _. (λ ask. ask, tt))

heads_plain : (w i : ℕ) (rules : List ℕ) → AllByRecursion AsksNone (other_heads w i rules)
heads_plain w i [] = gap_plain w i 1000001
heads_plain w i (r ∷ more) = both_plain (filled_gap w i r) (other_heads w (r + 1) more) (gap_plain w i r)
    (heads_plain w (r + 1) more)

pair_plain : (k : Closure) (p : ℕ × ℕ) → AsksNone (pair_literal k p)
pair_plain k p = cond_both (p.1 == 0) _ _ AsksNone (λ _ ask. ask) (λ _ ask. ask)

given_plain : (k : Closure) (x : ℕ) → ¬ IsAsk (given_atom k x)
given_plain Own x ask = ask
given_plain Rest x ask = ask

rows_plain : (k : Closure) (rows : List LoopRow) → AllByRecursion AsksNone (flat_map (row_literals k) rows)
rows_plain k [] = tt
rows_plain k (row ∷ rows) =
    both_plain (row_literals k row) (flat_map (row_literals k) rows)
    (both_plain (other_heads row.atom 1 (map (λ (p : ℕ × ℕ). p.0) row.pairs)) (map (pair_literal k) row.pairs)
    (heads_plain row.atom 1 (map (λ (p : ℕ × ℕ). p.0) row.pairs))
    (each_by_list AsksNone (pair_literal k) row.pairs (λ p c. pair_plain k p)))
    (rows_plain k rows)

plain : (name : AbaAxiom) → AllByRecursion AsksNone (aba_clause name)
plain (B1 a) = (λ h. h, (λ h. h, (λ h. h, tt)))
plain (B2 a) = (λ h. h, (λ h. h, tt))
plain (B3 a) = (λ h. h, (λ h. h, (λ h. h, tt)))
plain (B4 k) = (λ h. h, tt)
plain (B5 k r x) = (λ h. h, (λ h. h, (λ h. h, tt)))
plain (B6 k r x) = (λ h. h, (λ h. h, (λ h. h, tt)))
plain (B7 k r i j) = (λ h. h, (λ h. h, (λ h. h, (λ h. h, tt))))
plain (B8 k r i) = (λ h. h, (λ h. h, tt))
plain (B9 k x) = (λ h. h, (given_plain k x, (λ h. h, tt)))
plain (B9Con a c) = (λ h. h, (λ h. h, (λ h. h, tt)))
plain (B10 k x i j) = (λ h. h, (λ h. h, (λ h. h, (λ h. h, tt))))
plain (B11 k x i) = (λ h. h, (λ h. h, tt))
plain (B12 a c) = (λ h. h, (λ h. h, (λ h. h, (λ h. h, tt))))
plain (B13 a c) = (λ h. h, (λ h. h, (λ h. h, (λ h. h, tt))))
plain (B14 a) = (λ h. h, (λ h. h, (λ h. h, (λ h. h, tt))))
plain (B15 a) = (λ h. h, (λ h. h, (λ h. h, (λ h. h, tt))))
plain (B16 part) = notions_plain part
plain (B17 k x rows) = (
  λ h. h,
  both_plain (map (λ row. affirmed (given_atom k row.atom)) rows) (flat_map (row_literals k) rows)
      (each_by_list AsksNone (λ row. affirmed (given_atom k row.atom)) rows (λ row c. given_plain k row.atom))
      (rows_plain k rows),
)
plain (B18 k a i j) = (λ h. h, (λ h. h, (λ h. h, (λ h. h, tt))))
plain (B19 k a i) = (λ h. h, (λ h. h, tt))

pub asks_nothing : (name : AbaAxiom) → All (λ literal. ¬ IsAsk literal.atom) (aba_clause name)
asks_nothing name = All-from_recursion (λ literal. ¬ IsAsk literal.atom) (aba_clause name) (plain name)
