-- The loop clause is true in every world of either kind: were it false, no atom of its rows could be derived.
use Rattle.std.proofs.Common.{◌≡◌, ◌==◌, ◌+◌, ◌<◌, ◌≤◌, Bool, true, false, ℕ, zero, suc, List, [], ◌∷◌, ◌++◌, length, map, refl, sym, ap, subst, ◌∙◌, ⊎_elim, ◌⊎◌, inl, inr, arith}
use Rattle.std.specs.Prelude.{Contains, if◌then◌else◌}
use Rattle.std.specs.List.{flat_map}
use Rattle.std.proofs.lemmas.Bool.{cases_eq, cases_lt, ne_eqb}
use Rattle.std.proofs.lemmas.List.Elements.{Contains-append_left, Contains-append_right}
use Rattle.lists.proofs.Membership.{Contains-head, Contains-tail, Contains-cons_cases, Contains-nil}
use Rattle.meaning_atoms.specs.semantics.specs.AbaFrameworks.{Aba}
use Rattle.meaning_atoms.specs.semantics.specs.Rules.{Rule, Derives, given as from_given, by_rule}
use Rattle.meaning_atoms.specs.semantics.specs.Framework.{Af}
use Rattle.meaning_atoms.specs.semantics.specs.Frameworks.{af, aba}
use Rattle.meaning_atoms.specs.declared.atom.Atom.{Atom}
use Rattle.meaning_atoms.specs.declared.atom.Atom.TheVariants.{Member, Asm, HGap, Body, Der, Miss}
use Rattle.meaning_atoms.specs.declared.atom.Closure.{Closure}
use Rattle.meaning_atoms.specs.declared.atom.Closure.TheVariants.{Own, Rest}
use Rattle.meaning_atoms.specs.declared.atom.AtomLit.{AtomLit}
use Rattle.meaning_atoms.specs.declared.loop_rows.LoopRow.{LoopRow}
use Rattle.meaning_atoms.specs.AbaAxioms.{IsLoop, IsLoopAtom}
use Rattle.meaning_atoms.specs.AbaReadings.{IsInClosure}
use Rattle.meaning_atoms.specs.Literals.{affirmed, denied}
use Rattle.meaning_atoms.specs.Worlds.{World, world_of, Holds, HoldsLit, IsAbaWorld, IsAfWorld, IsTrueBeside}
use Rattle.meaning_atoms.proofs.Valuations.{decide_atom, decide_true_beside}
use Rattle.meaning_atoms.proofs.NotionClauses.{IsValidOfAba, IsValidOfAf}
use Rattle.aba_axioms.specs.AbaTable.{filled_gap, given_atom, loop_clause, other_heads, pair_literal, row_literals}
use Rattle.aba_axioms.proofs.FrameworkLemmas.{IsGivenIn, given_low, in_closure, of_closure, same_rule}
use Rattle.lists.proofs.Images.{image_there, in_flat}

-- ---- which literals the clause has

module _ (k : Closure) (x : ℕ) (rows : List LoopRow) where
  given_part : List AtomLit
  given_part = map (λ row. affirmed (given_atom k row.atom)) rows

  has_given : (row : LoopRow) → Contains rows row → Contains (loop_clause k x rows) (affirmed (given_atom k row.atom))
  has_given row c =
      let l = affirmed (given_atom k row.atom) in
      let front = map (λ (r : LoopRow). affirmed (given_atom k r.atom)) rows in
      Contains-tail (denied (Der k x)) (front ++ flat_map (row_literals k) rows) l
      (Contains-append_left front (flat_map (row_literals k) rows) l
      (image_there (λ (r : LoopRow). affirmed (given_atom k r.atom)) rows row c))

  has_literal : (row : LoopRow) (l : AtomLit) → Contains rows row → Contains (row_literals k row) l
      → Contains (loop_clause k x rows) l
  has_literal row l c d =
      let front = map (λ (r : LoopRow). affirmed (given_atom k r.atom)) rows in
      Contains-tail (denied (Der k x)) (front ++ flat_map (row_literals k) rows) l
      (Contains-append_right front (flat_map (row_literals k) rows) l (in_flat (row_literals k) rows row l c d))

  has_gap : (row : LoopRow) (l : AtomLit) → Contains rows row
      → Contains (other_heads row.atom 1 (map (λ (p : ℕ × ℕ). p.0) row.pairs)) l → Contains (loop_clause k x rows) l
  has_gap row l c d = has_literal row l c
      (Contains-append_left (other_heads row.atom 1 (map (λ (p : ℕ × ℕ). p.0) row.pairs))
      (map (pair_literal k) row.pairs) l d)

  has_pair : (row : LoopRow) (p : ℕ × ℕ) → Contains rows row → Contains row.pairs p
      → Contains (loop_clause k x rows) (pair_literal k p)
  has_pair row p c d = has_literal row (pair_literal k p) c
      (Contains-append_right (other_heads row.atom 1 (map (λ (q : ℕ × ℕ). q.0) row.pairs))
      (map (pair_literal k) row.pairs) (pair_literal k p) (image_there (pair_literal k) row.pairs p d))

-- the literal of a pair without 0
other_pair : (k : Closure) (n y : ℕ) → pair_literal k (n, suc y) ≡ denied (Body n (suc y))
other_pair k n y =
    ap (λ b. if b then denied (Miss k n 1) else denied (Body n (suc y))) (ne_eqb (suc y) 0 (λ e. absurd (omega (arith, e))))

-- ---- rules beside the listed ones

-- no literal of the list says that a rule heads w beside these, so a rule that does is one of them
abbrev HasNoOther : (Atom → Type 0) → ℕ → ℕ → List ℕ → Type 0
HasNoOther Says w i rules = (j m : ℕ) → Contains (other_heads w i rules) (denied (HGap w j m)) → Says (HGap w j m)

gap_there : (w i j : ℕ) → (i ≡ j → ⊥) → Contains (filled_gap w i j) (denied (HGap w i j))
gap_there w i j ne =
    let e = ne_eqb i j ne in
    subst (λ b. Contains (if b then [] else denied (HGap w i j) ∷ []) (denied (HGap w i j))) (sym e)
    (0, omega arith, refl)

-- a number from i on that lies in none of the gaps is listed
walk : (w i n : ℕ) (rules : List ℕ) → i ≤ n → n < 1000001
    → ((j m : ℕ) → Contains (other_heads w i rules) (denied (HGap w j m)) → (j ≤ n) × (n < m) → ⊥) → Contains rules n
walk w i n [] late under none =
    absurd (none i 1000001 (gap_there w i 1000001 (λ e. absurd (omega (arith, e)))) (late, under))
walk w i n (r ∷ rules) late under none = ⊎_elim
    (λ e. Contains-head r rules n (sym e))
    (λ ne. ⊎_elim
    (λ below. absurd (none i r
    (Contains-append_left (filled_gap w i r) (other_heads w (r + 1) rules) (denied (HGap w i r))
    (gap_there w i r (λ e. absurd (omega (arith, e))))) (late, below)))
    (λ past. Contains-tail r rules n (walk w (r + 1) n rules (beyond r n past ne) under
    (λ j m c inside. none j m
    (Contains-append_right (filled_gap w i r) (other_heads w (r + 1) rules) (denied (HGap w j m)) c) inside)))
    (cases_lt n r))
    (cases_eq n r)
  where
    beyond : (r n : ℕ) → r ≤ n → (n ≡ r → ⊥) → r + 1 ≤ n
    beyond r n past ne = ⊎_elim (λ less. omega arith) (λ not_less. absurd (ne (omega arith))) (cases_lt r n)

-- the pair of a listed rule
pair_of : (pairs : List (ℕ × ℕ)) (n : ℕ) → Contains (map (λ (p : ℕ × ℕ). p.0) pairs) n
    → (p : ℕ × ℕ) × Contains pairs p × (p.0 ≡ n)
pair_of [] n c = absurd (Contains-nil n c)
pair_of (p ∷ pairs) n c = ⊎_elim
    (λ e. (p, Contains-head p pairs p refl, e))
    (λ k. let h = pair_of pairs n k in (h.0, Contains-tail p pairs h.0 h.1, h.2))
    (Contains-cons_cases p.0 (map (λ (q : ℕ × ℕ). q.0) pairs) n c)

-- ---- assumption-based frameworks

-- what the clause denies is so, and what it says is not
abbrev IsFalseThere : World → List (List AtomLit) → List AtomLit → Type 0
IsFalseThere w sides clause = (l : AtomLit) → Contains clause l → HoldsLit w sides l → ⊥

denied_so : (w : World) (sides : List (List AtomLit)) (atom : Atom) → (HoldsLit w sides (denied atom) → ⊥)
    → Holds w sides atom
denied_so w sides atom none = ⊎_elim (λ h. h) (λ no. absurd (none no)) (decide_atom w sides atom)

module _ (f : Aba) (s : List ℕ) (ok : IsAbaWorld f s) (sides : List (List AtomLit)) (k : Closure) (x : ℕ)
    (rows : List LoopRow) (loop : IsLoop x rows)
    (none : IsFalseThere (world_of (aba f) s) sides (loop_clause k x rows)) where
  w : World
  w = world_of (aba f) s

  not_given : (y : ℕ) → IsLoopAtom rows y → IsGivenIn f s k y → ⊥
  not_given y at c =
      none (affirmed (given_atom k at.row.atom)) (has_given k x rows at.row at.member) (given_says k y at.is c)
    where
      given_says : (k : Closure) (y : ℕ) → at.row.atom ≡ y → IsGivenIn f s k y
          → HoldsLit (world_of (aba f) s) sides (affirmed (given_atom k at.row.atom))
      given_says Own y e c = subst (λ z. Contains s z) (sym e) c
      given_says Rest y e u = subst (λ z. Contains f.assumptions z) (sym e) u.live

  -- a rule that heads an atom of the rows is listed there
  listed : (row : LoopRow) → Contains rows row → (r : Rule) → Contains f.rules r → r.head ≡ row.atom
      → (p : ℕ × ℕ) × Contains row.pairs p × (p.0 ≡ r.number)
  listed row c r there head =
      let form = ok.framework.form.rules_are r there in
      let low = form.low in
      let under = form.given in
      let most = ok.framework.rules in
      pair_of row.pairs r.number (walk row.atom 1 r.number (map (λ (p : ℕ × ℕ). p.0) row.pairs) low (omega arith)
      (λ j m gap inside.
      denied_so (world_of (aba f) s) sides (HGap row.atom j m)
      (none (denied (HGap row.atom j m)) (has_gap k x rows row (denied (HGap row.atom j m)) c gap))
      r there head inside.0 inside.1))

  -- its pair has 0, and then its body is missed, or an atom of its body that the rows have
  abbrev Blocks : Rule → ℕ → Type 0
  Blocks r zero = (y : ℕ) × Contains r.body y × (IsInClosure f s k y → ⊥)
  Blocks r (suc y) = Contains r.body (suc y) × IsLoopAtom rows (suc y)

  blocked : (row : LoopRow) → Contains rows row → (r : Rule) → Contains f.rules r → (p : ℕ × ℕ) → Contains row.pairs p
      → p.0 ≡ r.number → Blocks r p.1
  blocked row c r there (n, zero) d e =
      let miss = denied_so (world_of (aba f) s) sides (Miss k n 1)
      (none (denied (Miss k n 1)) (has_pair k x rows row (n, zero) c d)) in
      let same = same_rule f ok.framework.form miss.rule r miss.there there (miss.numbered ∙ e) in (
        miss.says.missed,
        subst (λ (q : Rule). Contains q.body miss.says.missed) same miss.says.member,
        miss.says.outside,
      )
  blocked row c r there (n, suc y) d e =
      let body = denied_so (world_of (aba f) s) sides (Body n (suc y))
      (none (denied (Body n (suc y)))
      (subst (λ l. Contains (loop_clause k x rows) l) (other_pair k n y) (has_pair k x rows row (n, suc y) c d))) in
      let same = same_rule f ok.framework.form body.rule r body.there there (body.numbered ∙ e) in (
        subst (λ (q : Rule). Contains q.body (suc y)) same body.says,
        in_rows ((loop.each row c).each (n, suc y) d).body,
      )
    where
      in_rows : (suc y ≡ 0) ⊎ IsLoopAtom rows (suc y) → IsLoopAtom rows (suc y)
      in_rows (inl z) = absurd (omega (arith, z))
      in_rows (inr at) = at

  -- no atom of the rows follows
  nothing_derived : (y : ℕ) → IsLoopAtom rows y → Derives f.rules (IsGivenIn f s k) y → ⊥
  nothing_derived y at (from_given _ c) = not_given y at c
  nothing_derived y at (by_rule r _ there head body) =
      let p = listed at.row at.member r there (head ∙ sym at.is) in
      by_pair p.0.1 (blocked at.row at.member r there p.0 p.1 p.2) (λ z c t. nothing_derived z t (body z c))
    where
      by_pair : (n : ℕ) → Blocks r n
          → ((z : ℕ) (c : Contains r.body z) → IsLoopAtom rows z → ⊥) → ⊥
      by_pair zero b again = b.2 (in_closure f s k b.0 (body b.0 b.1))
      by_pair (suc z) b again = again (suc z) b.0 b.1

pub loop_of_aba : (k : Closure) (x : ℕ) (rows : List LoopRow) → IsLoop x rows → IsValidOfAba (loop_clause k x rows)
loop_of_aba k x rows loop f s ok sides =
    let w = world_of (aba f) s in
    let clause = loop_clause k x rows in
    ⊎_elim (λ h. h)
    (λ no.
    let none : IsFalseThere w sides clause = λ l c h. no (record { literal = l; member = c; says = h }) in
    let derived = denied_so w sides (Der k x) (none (denied (Der k x)) (Contains-head (denied (Der k x)) _ _ refl)) in
    absurd (nothing_derived f s ok sides k x rows loop none x loop.belongs (of_closure f s k x derived)))
    (decide_true_beside w sides clause)

-- ---- abstract frameworks: rows deny what no such framework has

row_true : (k : Closure) (x : ℕ) (rows : List LoopRow) (row : LoopRow) → Contains rows row
    → (l : AtomLit) × Contains (loop_clause k x rows) l
    × ((f : Af) (s : List ℕ) (sides : List (List AtomLit)) → HoldsLit (world_of (af f) s) sides l)
row_true k x rows row c = by_pairs row.pairs refl
  where
    pair_true : (n y : ℕ) (f : Af) (s : List ℕ) (sides : List (List AtomLit))
        → HoldsLit (world_of (af f) s) sides (pair_literal k (n, y))
    pair_true n zero f s sides = λ h. h
    pair_true n (suc y) f s sides =
        subst (λ l. HoldsLit (world_of (af f) s) sides l) (sym (other_pair k n y)) (λ h. h)

    by_pairs : (pairs : List (ℕ × ℕ)) → row.pairs ≡ pairs
        → (l : AtomLit) × Contains (loop_clause k x rows) l
        × ((f : Af) (s : List ℕ) (sides : List (List AtomLit)) → HoldsLit (world_of (af f) s) sides l)
    by_pairs [] e = (
      denied (HGap row.atom 1 1000001),
      has_gap k x rows row (denied (HGap row.atom 1 1000001)) c
          (subst (λ ps. Contains (other_heads row.atom 1 (map (λ (p : ℕ × ℕ). p.0) ps))
          (denied (HGap row.atom 1 1000001)))
          (sym e) (gap_there row.atom 1 1000001 (λ d. absurd (omega (arith, d))))),
      λ f s sides h. h,
    )
    by_pairs ((n, y) ∷ pairs) e = (
      pair_literal k (n, y),
      has_pair k x rows row (n, y) c
          (subst (λ ps. Contains ps (n, y)) (sym e) (Contains-head (n, y) pairs (n, y) refl)),
      pair_true n y,
    )

pub loop_of_af : (k : Closure) (x : ℕ) (rows : List LoopRow) → IsLoop x rows → IsValidOfAf (loop_clause k x rows)
loop_of_af k x rows loop f s ok sides =
    let t = row_true k x rows loop.belongs.row loop.belongs.member in
    record { literal = t.0; member = t.1; says = t.2 f s sides }
