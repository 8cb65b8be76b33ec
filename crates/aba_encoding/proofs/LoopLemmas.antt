-- The loop clause of what does not follow is false under a model, and where there is none, a model reads back.
use Rattle.std.proofs.Common.{◌≡◌, false, ◌+◌, ◌<◌, ◌≤◌, ℕ, List, [], ◌∷◌, ◌++◌, length, get_or, map, take, arith, refl, subst, sym, ap, ◌∙◌}
use Rattle.std.proofs.Common.{inl, inr, ⊎_elim}
use Rattle.std.specs.Prelude.{Contains, IfNone, IfSome, None, Option, Some, ◌==◌, ◌↔◌, ◌⊎◌}
use Rattle.std.specs.List.{flat_map}
use Rattle.std.proofs.lemmas.Bool.{cond_both, eqb-false, eqb-true}
use Rattle.std.proofs.lemmas.List.{get_or-map, length-map, take_all, take_more}
use Rattle.std.proofs.lemmas.List.Elements.{Contains-append_cases, Contains-append_left, Contains-push_cases, Contains-get_or}
use Rattle.lists.specs.Members.{IsSetOf}
use Rattle.lists.proofs.Membership.{Contains-nil, Contains-cons_cases, Contains-pushed}
use Rattle.semantics.specs.AbaFrameworks.{Aba, IsAtom, IsNumberedAba, collective_of}
use Rattle.semantics.specs.Collectives.{IsUnattacked}
use Rattle.semantics.specs.Rules.{Rule, Derives, given as from_given}
use Rattle.aba_laws.proofs.AbaLemmas.{decide_attacks}
use Rattle.aba_laws.proofs.DerivationLemmas.{derives_more}
use Rattle.aba_notions.specs.declared.unfounded.Row.{Row}
use Rattle.aba_notions.specs.declared.unfounded.Unfounded.{Unfounded}
use Rattle.aba_notions.specs.Unfounded.{IsUnfoundedOf}
use Rattle.meaning_atoms.specs.declared.aba_axiom.AbaAxiom.TheVariants.{B1, B6, B9Con, B10, B11, B17}
use Rattle.meaning_atoms.specs.declared.atom.Atom.{Atom}
use Rattle.meaning_atoms.specs.declared.atom.Atom.TheVariants.{Member, Asm, Con, HGap, Body, Der, Miss, Cf}
use Rattle.meaning_atoms.specs.declared.atom.AtomLit.{AtomLit}
use Rattle.meaning_atoms.specs.declared.atom.Closure.{Closure}
use Rattle.meaning_atoms.specs.declared.atom.Closure.TheVariants.{Own, Rest}
use Rattle.meaning_atoms.specs.declared.axiom.AxiomName.{AxiomName}
use Rattle.meaning_atoms.specs.declared.axiom.AxiomName.TheVariants.{Aba as OfAba}
use Rattle.meaning_atoms.specs.declared.loop_rows.LoopRow.{LoopRow}
use Rattle.meaning_atoms.specs.AbaAxioms.{IsLoop}
use Rattle.meaning_atoms.specs.AbaReadings.{HasBodyAtom}
use Rattle.meaning_atoms.specs.Literals.{affirmed, denied, negated}
use Rattle.aba_axioms.specs.AbaTable.{filled_gap, given_atom, loop_clause, other_heads, pair_literal, row_literals}
use Rattle.loop_clauses.specs.LoopNames.{loop_row, loop_rows}
use Rattle.loop_clauses.proofs.LoopLemmas.{loop_of, same_atoms}
use Rattle.semantics.specs.Frameworks.{aba}
use Rattle.oracle_face.specs.Decoding.{IsDecoded, IsModelOf, IsNewLoop, TellsMembers}
use Rattle.af_encoding.specs.Decoded.{Affirms}
use Rattle.oracle_face.specs.AbaNeeded.{Heads}
use Rattle.aba_encoding.specs.Listing.{walk_along}
use Rattle.oracle_face.specs.Walks.{IsWalkEnd, IsWalkStep}
use Rattle.aba_encoding.proofs.NeededLemmas.{heads_low, heads_under}
use Rattle.aba_encoding.proofs.WalkLemmas.{AreAhead, all_ahead, along_from}
use Rattle.aba_encoding.specs.AbaModels.{AddsAtom, IsFalseUnder, IsFirstLoop, IsFounded, IsLoopBeside, IsLoopName}
use Rattle.aba_encoding.proofs.ModelReadings.{affirmed_here, consistent, fact_here, fact_so, fact_told, first_or_later, last_one, none_left, own_told, satisfied}
use Rattle.lists.proofs.RisingLists.{same_rising}
use Rattle.lists.proofs.Images.{image_there, image_from, flat_from}

-- ---- the literals of the clause

in_gap : (w i j : ℕ) (l : AtomLit) → Contains (filled_gap w i j) l → l ≡ denied (HGap w i j)
in_gap w i j l =
    cond_both (i == j) [] (denied (HGap w i j) ∷ []) (λ xs. Contains xs l → l ≡ denied (HGap w i j))
    (λ _ c. absurd (Contains-nil l c))
    (λ _ c. ⊎_elim (λ e. sym e) (λ none. absurd (Contains-nil l none))
    (Contains-cons_cases (denied (HGap w i j)) [] l c))

-- the gaps of a row are those of a walk
heads_along : (w i : ℕ) (rules : List ℕ)
    → other_heads w i rules ≡ walk_along (filled_gap w) (λ n. filled_gap w n 1000001) i rules
heads_along w i [] = refl
heads_along w i (r ∷ rules) = ap (λ xs. filled_gap w i r ++ xs) (heads_along w (r + 1) rules)

module _ (f : Aba) (values : List AtomLit) (form : IsNumberedAba f) (model : IsModelOf (aba f) values) (k : Closure)
    (claimed : List ℕ) (claimed_are : IsSetOf (λ x. IsAtom f.atoms x × Affirms values (Der k x)) claimed)
    (base : List ℕ) (u : Unfounded) (found : IsUnfoundedOf f (Contains base) claimed u)
    (not_given : (w : ℕ) → IsAtom f.atoms w → Affirms values (Der k w)
    → (Derives f.rules (Contains base) w → ⊥) → Contains values (denied (given_atom k w))) where
  -- an atom of the rows
  record IsOpen (w : ℕ) : Type 0 where
    atom : IsAtom f.atoms w
    told : Affirms values (Der k w)
    out : Derives f.rules (Contains base) w → ⊥

  is_open : (w : ℕ) → Contains u.atoms w → IsOpen w
  is_open w c =
      let is = (found.atoms_are.members w).0 c in
      let claim = (claimed_are.members w).0 is.0 in
      record { atom = claim.0; told = claim.1; out = is.1 }

  row_atom : (row : Row) → Contains u.rows row → Contains u.atoms row.atom
  row_atom row c = subst (λ xs. Contains xs row.atom) found.rows_are (image_there (λ (r : Row). r.atom) u.rows row c)

  abbrev first : ℕ × ℕ → ℕ
  first p = p.0

  -- the rules of a row are those that head its atom
  row_ahead : (row : Row) → Contains u.rows row
      → AreAhead (Heads f row.atom) (heads_low f form row.atom) (heads_under f form row.atom) 1 (map first row.pairs)
  row_ahead row c =
      let by = found.each row c in
      all_ahead (Heads f row.atom) (heads_low f form row.atom) (heads_under f form row.atom) (map first row.pairs)
      (λ n d. let from = image_from first row.pairs n d in
      let rule = by.pairs_are from.0.0 from.0.1 from.1 in
      record { rule = rule.rule; there = rule.there; numbered = rule.number_is ∙ from.2; says = rule.head_is })
      (λ n h. let at = by.listed h.rule h.there h.says in
      subst (λ m. Contains (map first row.pairs) m) h.numbered
      (image_there first row.pairs (h.rule.number, at.0) at.1))
      (λ i j d lt within.
      let long = length-map row.pairs first in
      let here = get_or-map first row.pairs i (0, 0) d (omega arith) in
      let there = get_or-map first row.pairs j (0, 0) d (omega arith) in
      let less = by.numbers_rise i j (0, 0) lt (omega arith) in
      omega arith)

  gap_told : (w i j : ℕ) → IsAtom f.atoms w → IsWalkStep (Heads f w) i j → Affirms values (HGap w i j)
  gap_told w i j atom step =
      fact_told f values model (B10 Own w i j) (HGap w i j) (atom, step) (1, omega arith, refl) tt
      (λ rule there head low high. step.gap rule.number
      (record { rule = rule; there = there; numbered = refl; says = head }) low high)

  end_told : (w i : ℕ) → IsAtom f.atoms w → IsWalkEnd (Heads f w) i → Affirms values (HGap w i 1000001)
  end_told w i atom end =
      fact_told f values model (B11 Own w i) (HGap w i 1000001) (atom, end) (1, omega arith, refl) tt
      (λ rule there head low high. end.gap rule.number
      (record { rule = rule; there = there; numbered = refl; says = head }) low high)

  heads_false : (row : Row) → Contains u.rows row → (l : AtomLit)
      → Contains (other_heads row.atom 1 (map first row.pairs)) l → Contains values (negated l)
  heads_false row c l d =
      let w = row.atom in
      let atom = (is_open w (row_atom row c)).atom in
      ⊎_elim
      (λ on. subst (λ m. Contains values (negated m)) (sym (in_gap w on.from on.stop l on.item))
      (gap_told w on.from on.stop atom on.is))
      (λ at. subst (λ m. Contains values (negated m)) (sym (in_gap w at.from 1000001 l at.item))
      (end_told w at.from atom at.is))
      (along_from (Heads f w) (heads_low f form w) (heads_under f form w) (filled_gap w) (λ n. filled_gap w n 1000001) 1
      (map first row.pairs) (row_ahead row c) l
      (subst (λ xs. Contains xs l) (heads_along w 1 (map first row.pairs)) d))

  body_has : (r : Rule) (n y : ℕ) → Contains f.rules r → r.number ≡ n → Contains r.body y → HasBodyAtom f n y
  body_has r n y there is c = record { rule = r; there = there; numbered = is; says = c }

  pair_false : (row : Row) → Contains u.rows row → (p : ℕ × ℕ) → Contains row.pairs p
      → Contains values (negated (pair_literal k p))
  pair_false row c (n, y) d =
      let by = (found.each row c).pairs_are n y d in
      let bounds = form.form.rules_are by.rule by.there in
      cond_both (y == 0) (denied (Miss k n 1)) (denied (Body n y)) (λ l. Contains values (negated l))
      (λ zero. let z = by.reason.1 (eqb-true y 0 zero) in
      let body = body_has by.rule n z.0 by.there by.number_is z.1 in
      ⊎_elim
      (λ told. absurd (z.2 ((claimed_are.members z.0).1 (bounds.body z.0 z.1, told))))
      (λ later. last_one f values model (affirmed (Miss k n 1)) later)
      (first_or_later f values model (affirmed (Der k z.0)) (affirmed (Miss k n 1) ∷ [])
      (fact_here f values model (Body n z.0) _ tt body (satisfied f values model (B6 k n z.0) body))))
      (λ some. ⊎_elim
      (λ shared. let body = body_has by.rule n y by.there by.number_is shared.1 in
      fact_told f values model (B6 k n y) (Body n y) body (0, omega arith, refl) tt body)
      (λ none. absurd (not_zero y some none.0)) by.reason.0)
    where
      not_zero : (y : ℕ) → (y == 0) ≡ false → y ≡ 0 → ⊥
      not_zero y some zero = eqb-false y 0 some zero

  row_false : (row : Row) → Contains u.rows row → (l : AtomLit) → Contains (row_literals k (loop_row row)) l
      → Contains values (negated l)
  row_false row c l d =
      ⊎_elim (heads_false row c l)
      (λ e. let from = image_from (pair_literal k) row.pairs l e in
      subst (λ m. Contains values (negated m)) from.2 (pair_false row c from.0 from.1))
      (Contains-append_cases (other_heads row.atom 1 (map first row.pairs)) (map (pair_literal k) row.pairs) l d)

  pub clause_false : (x : ℕ) → Contains u.atoms x → (l : AtomLit) → Contains (loop_clause k x (loop_rows u.rows)) l
      → Contains values (negated l)
  clause_false x belongs l c =
      let rows = loop_rows u.rows in
      let givens = map (λ (row : LoopRow). affirmed (given_atom k row.atom)) rows in
      ⊎_elim (λ e. subst (λ m. Contains values (negated m)) e (is_open x belongs).told)
      (λ c'. ⊎_elim
      (λ d. let from = image_from (λ (row : LoopRow). affirmed (given_atom k row.atom)) rows l d in
      let row = image_from loop_row u.rows from.0 from.1 in
      let open' = is_open row.0.atom (row_atom row.0 row.1) in
      subst (λ m. Contains values (negated m)) from.2
      (subst (λ (r : LoopRow). Contains values (denied (given_atom k r.atom))) row.2
      (not_given row.0.atom open'.atom open'.told open'.out)))
      (λ d. let from = flat_from (row_literals k) rows l d in
      let row = image_from loop_row u.rows from.0 from.1 in
      row_false row.0 row.1 l (subst (λ (r : LoopRow). Contains (row_literals k r) l) (sym row.2) from.2))
      (Contains-append_cases givens (flat_map (row_literals k) rows) l c'))
      (Contains-cons_cases (denied (Der k x)) (givens ++ flat_map (row_literals k) rows) l c)

-- the least of the atoms is one
least_there : (f : Aba) (values : List AtomLit) (base : List ℕ) (k : Closure) (name : AxiomName)
    → (h : IsLoopBeside f values base k name) → Contains h.found.atoms (get_or h.found.atoms 0 0)
least_there f values base k name h = Contains-get_or h.found.atoms 0 0 h.unfounded.some

-- it is claimed, and does not follow
pub not_all_follow : (f : Aba) (values : List AtomLit) (base : List ℕ) (k : Closure) (name : AxiomName)
    → IsLoopBeside f values base k name
    → ((x : ℕ) → IsAtom f.atoms x → Affirms values (Der k x) → Derives f.rules (Contains base) x) → ⊥
not_all_follow f values base k name h all =
    let x = get_or h.found.atoms 0 0 in
    let is = (h.unfounded.atoms_are.members x).0 (least_there f values base k name h) in
    let claim = (h.claimed_are.members x).0 is.0 in
    is.1 (all x claim.0 claim.1)

-- ---- what does not follow is not given

module _ (f : Aba) (values : List AtomLit) (s : List ℕ) (form : IsNumberedAba f)
    (decoded : IsSetOf (IsDecoded Asm values) s) where
  -- what is no assumption is no member
  member_or_not : IsModelOf (aba f) values → TellsMembers (aba f) values → (w : ℕ) → IsAtom f.atoms w
      → Affirms values (Member w) ⊎ Contains values (denied (Member w))
  member_or_not model tells w atom =
      ⊎_elim
      (λ assumed. tells.members_told w (fact_so f values model (Asm w) tt assumed))
      (λ other.
      ⊎_elim (λ out. inr out)
      (λ later. absurd (consistent f values model (Asm w) (last_one f values model (affirmed (Asm w)) later) other))
      (first_or_later f values model (denied (Member w)) (affirmed (Asm w) ∷ [])
      (affirmed_here f values model Cf _ tells.free (satisfied f values model (B1 w) atom))))
      (model.told (OfAba (B1 w)) (affirmed (Asm w)) atom (2, omega arith, refl) tt)

  own_not_given : IsModelOf (aba f) values → TellsMembers (aba f) values → (w : ℕ) → IsAtom f.atoms w
      → Affirms values (Der Own w) → (Derives f.rules (Contains s) w → ⊥) → Contains values (denied (Member w))
  own_not_given model tells w atom told out =
      ⊎_elim
      (λ member. absurd (out (from_given w ((decoded.members w).1 (record {
        member = member;
        vouched = last_one f values model (affirmed (Asm w))
            (affirmed_here f values model (Member w) _ member
            (affirmed_here f values model Cf _ tells.free (satisfied f values model (B1 w) atom)));
      })))))
      (λ no. no) (member_or_not model tells w atom)

  rest_not_given : IsModelOf (aba f) values → (rest : List ℕ) → IsSetOf (IsUnattacked (collective_of f) s) rest → (w : ℕ)
      → IsAtom f.atoms w → Affirms values (Der Rest w) → (Derives f.rules (Contains rest) w → ⊥)
      → Contains values (denied (Asm w))
  rest_not_given model rest rest_is w atom told out =
      ⊎_elim
      (λ assumed. let is = fact_so f values model (Asm w) tt assumed in
      absurd (⊎_elim
      (λ at. none_left f values model
      (affirmed_here f values model (Der Own at.contrary) _
      (own_told f values s form model decoded at.contrary at.derived)
      (fact_here f values model (Con w at.contrary) _ tt at.is
      (affirmed_here f values model (Der Rest w) _ told (satisfied f values model (B9Con w at.contrary) at.is)))))
      (λ quiet. out (from_given w ((rest_is.members w).1 (record { live = is; quiet = quiet }))))
      (decide_attacks f s w)))
      (λ no. no) (model.told (OfAba (B1 w)) (affirmed (Asm w)) atom (2, omega arith, refl) tt)

  pub own_loop_false : IsModelOf (aba f) values → TellsMembers (aba f) values → (name : AxiomName)
      → IsLoopBeside f values s Own name → IsFalseUnder values name
  own_loop_false model tells name h =
      subst (IsFalseUnder values) (sym h.named)
      (clause_false f values form model Own h.claimed h.claimed_are s h.found h.unfounded (own_not_given model tells)
      (get_or h.found.atoms 0 0) (least_there f values s Own name h))

  pub rest_loop_false : IsModelOf (aba f) values → (rest : List ℕ) → IsSetOf (IsUnattacked (collective_of f) s) rest
      → (name : AxiomName) → IsLoopBeside f values rest Rest name → IsFalseUnder values name
  rest_loop_false model rest rest_is name h =
      subst (IsFalseUnder values) (sym h.named)
      (clause_false f values form model Rest h.claimed h.claimed_are rest h.found h.unfounded
      (rest_not_given model rest rest_is) (get_or h.found.atoms 0 0) (least_there f values rest Rest name h))

-- ---- the name

pub loop_is : (f : Aba) (values : List AtomLit) (base : List ℕ) (k : Closure) (name : AxiomName) → IsNumberedAba f
    → IsLoopBeside f values base k name → IsLoopName name
loop_is f values base k name form h =
    let x = get_or h.found.atoms 0 0 in
    subst IsLoopName (sym h.named) (
      loop_of f base h.claimed h.found x form (λ y c. ((h.claimed_are.members y).0 c).0) h.unfounded
          (least_there f values base k name h),
      ap (λ xs. get_or xs 0 0) (sym (same_atoms h.found.rows ∙ h.unfounded.rows_are)),
    )

-- it is a loop clause of the framework's kind, and false
loop_named : (f : Aba) (values : List AtomLit) (name : AxiomName) → IsLoopName name → IsFalseUnder values name
    → IsNewLoop (aba f) values name
loop_named f values (OfAba (B17 k x rows)) is false_there =
    record { axiom_of = is.0; loop = refl; false_there = false_there }
loop_named f values _ is false_there = absurd is

pub own_loop_new : (f : Aba) (values : List AtomLit) (s : List ℕ) → IsNumberedAba f → IsSetOf (IsDecoded Asm values) s
    → IsModelOf (aba f) values → TellsMembers (aba f) values → (name : AxiomName) → IsLoopBeside f values s Own name
    → IsNewLoop (aba f) values name
own_loop_new f values s form decoded model tells name h =
    loop_named f values name (loop_is f values s Own name form h)
    (own_loop_false f values s form decoded model tells name h)

pub rest_loop_new : (f : Aba) (values : List AtomLit) (s : List ℕ) → IsNumberedAba f → IsSetOf (IsDecoded Asm values) s
    → IsModelOf (aba f) values → (rest : List ℕ) → IsSetOf (IsUnattacked (collective_of f) s) rest
    → (name : AxiomName) → IsLoopBeside f values rest Rest name → IsNewLoop (aba f) values name
rest_loop_new f values s form decoded model rest rest_is name h =
    loop_named f values name (loop_is f values rest Rest name form h)
    (rest_loop_false f values s form decoded model rest rest_is name h)

-- ---- where something is missing, and where nothing is

same_set : (values : List AtomLit) (own set : List ℕ) → IsSetOf (IsDecoded Asm values) own
    → IsSetOf (IsDecoded Asm values) set → own ≡ set
same_set values own set decoded is = same_rising own set decoded.rises is.rises (λ a. (
  λ c. (is.members a).1 ((decoded.members a).0 c),
  λ c. (decoded.members a).1 ((is.members a).0 c),
))

pub own_unfounded : (f : Aba) (values : List AtomLit) (own set : List ℕ) (name : AxiomName)
    → IsSetOf (IsDecoded Asm values) own → IsSetOf (IsDecoded Asm values) set → IsLoopBeside f values own Own name
    → ((k : Closure) → IsFounded f values set k) → ⊥
own_unfounded f values own set name decoded is h founded =
    not_all_follow f values own Own name h
    (subst (λ s. IsFounded f values s Own) (sym (same_set values own set decoded is)) (founded Own))

pub rest_unfounded : (f : Aba) (values : List AtomLit) (own set rest : List ℕ) (name : AxiomName)
    → IsSetOf (IsDecoded Asm values) own → IsSetOf (IsDecoded Asm values) set
    → IsSetOf (IsUnattacked (collective_of f) own) rest → IsLoopBeside f values rest Rest name
    → ((k : Closure) → IsFounded f values set k) → ⊥
rest_unfounded f values own set rest name decoded is rest_is h founded =
    let by : IsFounded f values own Rest
    = subst (λ s. IsFounded f values s Rest) (sym (same_set values own set decoded is)) (founded Rest) in
    not_all_follow f values rest Rest name h
    (λ x atom told. derives_more f.rules (IsUnattacked (collective_of f) own) (Contains rest)
    (λ y u. (rest_is.members y).1 u) x (by x atom told))

pub own_first : (f : Aba) (values : List AtomLit) (own set : List ℕ) (name : AxiomName)
    → IsSetOf (IsDecoded Asm values) own → IsSetOf (IsDecoded Asm values) set → IsLoopBeside f values own Own name
    → IsFirstLoop f values set name
own_first f values own set name decoded is h =
    subst (λ s. IsFirstLoop f values s name) (same_set values own set decoded is) (record {
      closure = Own;
      turn = tt;
      base = own;
      base_is = record { rises = decoded.rises; members = λ x. (λ c. c, λ c. c) };
      loop = h;
    })

pub rest_first : (f : Aba) (values : List AtomLit) (own set rest : List ℕ) (name : AxiomName)
    → IsSetOf (IsDecoded Asm values) own → IsSetOf (IsDecoded Asm values) set
    → IsSetOf (IsUnattacked (collective_of f) own) rest
    → ((x : ℕ) → IsAtom f.atoms x → Affirms values (Der Own x) → Derives f.rules (Contains own) x)
    → IsLoopBeside f values rest Rest name → IsFirstLoop f values set name
rest_first f values own set rest name decoded is rest_is none_own h =
    subst (λ s. IsFirstLoop f values s name) (same_set values own set decoded is)
    (record { closure = Rest; turn = none_own; base = rest; base_is = rest_is; loop = h })

module _ (f : Aba) (values : List AtomLit) (form : IsNumberedAba f) (own rest : List ℕ)
    (decoded : IsSetOf (IsDecoded Asm values) own) (rest_is : IsSetOf (IsUnattacked (collective_of f) own) rest)
    (none_own : (x : ℕ) → IsAtom f.atoms x → Affirms values (Der Own x) → Derives f.rules (Contains own) x)
    (none_rest : (x : ℕ) → IsAtom f.atoms x → Affirms values (Der Rest x) → Derives f.rules (Contains rest) x) where
  founded_own : (k : Closure) → IsFounded f values own k
  founded_own Own = none_own
  founded_own Rest = λ x atom told.
      derives_more f.rules (Contains rest) (IsUnattacked (collective_of f) own) (λ y c. (rest_is.members y).0 c) x
      (none_rest x atom told)

  pub all_founded : (set : List ℕ) → IsSetOf (IsDecoded Asm values) set → (k : Closure) → IsFounded f values set k
  all_founded set is k = subst (λ s. IsFounded f values s k) (same_set values own set decoded is) (founded_own k)

-- ---- claimed atoms

pub atoms_none : (atoms : ℕ) (set found : List ℕ) → found ≡ []
    → (y : ℕ) → Contains found y ↔ (Contains (take 0 set) y × IsAtom atoms y)
atoms_none atoms set found e y = (
  λ c. absurd (Contains-nil y (subst (λ xs. Contains xs y) e c)),
  λ w. absurd (Contains-nil y w.0),
)

pub atoms_more : (atoms : ℕ) (set : List ℕ) (n : ℕ) (old new : List ℕ) → n < length set
    → ((y : ℕ) → Contains old y ↔ (Contains (take n set) y × IsAtom atoms y))
    → AddsAtom atoms (get_or set n 0) old new
    → (y : ℕ) → Contains new y ↔ (Contains (take (n + 1) set) y × IsAtom atoms y)
atoms_more atoms set n old new lt are adds y =
    let opened = take_more set n 0 lt in (
      λ c. ⊎_elim
          (λ k. let w = (are y).0 k in (
            subst (λ xs. Contains xs y) (sym opened) (Contains-append_left (take n set) (get_or set n 0 ∷ []) y w.0),
            w.1,
          ))
          (λ w. (
            subst (λ xs. Contains xs y) (sym opened) (Contains-pushed (take n set) (get_or set n 0) y w.0),
            w.1,
          ))
          ((adds.members y).0 c),
      λ w. (adds.members y).1 (⊎_elim (λ k. inl ((are y).1 (k, w.1))) (λ e. inr (e, w.1))
          (Contains-push_cases (take n set) (get_or set n 0) y (subst (λ xs. Contains xs y) opened w.0))),
    )

pub atoms_all : (values : List AtomLit) (k : Closure) (atoms : ℕ) (set : List ℕ) (n : ℕ) (found claimed : List ℕ)
    → (Says : ℕ → Type 0) → ((x : ℕ) → Says x ↔ Affirms values (Der k x)) → IsSetOf Says set → length set ≤ n
    → ((y : ℕ) → Contains found y ↔ (Contains (take n set) y × IsAtom atoms y)) → IsSetOf (Contains found) claimed
    → IsSetOf (λ x. IsAtom atoms x × Affirms values (Der k x)) claimed
atoms_all values k atoms set n found claimed Says same derived past are made =
    let whole = take_all n set past in
    record {
      rises = made.rises;
      members = λ x. (
        λ c. let w = (are x).0 ((made.members x).0 c) in
            (w.1, (same x).0 ((derived.members x).0 (subst (λ xs. Contains xs x) whole w.0))),
        λ w. (made.members x).1 ((are x).1 (
          subst (λ xs. Contains xs x) (sym whole) ((derived.members x).1 ((same x).1 w.1)),
          w.0,
        )),
      );
    }

-- ---- what is found or not

pub found_weaker : {X : Type 0} (P Q : X → Type 0) (o : Option X) → ((x : X) → P x → Q x) → IfSome o P → IfSome o Q
found_weaker P Q (Some x) by h = by x h
found_weaker P Q None by h = tt

pub found_there : {X : Type 0} (P : X → Type 0) (o : Option X) (x : X) → o ≡ Some x → IfSome o P → P x
found_there P o x e h = rw e at h

pub none_there : {X : Type 0} (P : Type 0) (o : Option X) → o ≡ None → IfNone o P → P
none_there P o e h = rw e at h

pub none_else : {X : Type 0} (P : Type 0) (o : Option X) → ((x : X) → o ≡ Some x → ⊥) → IfNone o P → P
none_else P (Some x) other h = absurd (other x refl)
none_else P None other h = h

pub same_atom : (values : List AtomLit) (a b : Atom) → a ≡ b → Affirms values a ↔ Affirms values b
same_atom values a b e = (λ h. subst (Affirms values) e h, λ h. subst (Affirms values) (sym e) h)

-- the rows of what is unfounded are those of a loop for its least atom
pub least_loops : (f : Aba) (base claimed : List ℕ) (u : Unfounded) → IsNumberedAba f
    → ((y : ℕ) → Contains claimed y → IsAtom f.atoms y) → IsUnfoundedOf f (Contains base) claimed u
    → IsLoop (get_or u.atoms 0 0) (loop_rows u.rows)
least_loops f base claimed u form atoms h =
    loop_of f base claimed u (get_or u.atoms 0 0) form atoms h (Contains-get_or u.atoms 0 0 h.some)

pub loop_made : (f : Aba) (values : List AtomLit) (base claimed : List ℕ) (k : Closure) (u : Unfounded)
    (name : AxiomName) → IsSetOf (λ x. IsAtom f.atoms x × Affirms values (Der k x)) claimed
    → IsUnfoundedOf f (Contains base) claimed u → name ≡ OfAba (B17 k (get_or u.atoms 0 0) (loop_rows u.rows))
    → IsLoopBeside f values base k name
loop_made f values base claimed k u name are h named =
    record { claimed = claimed; claimed_are = are; found = u; unfounded = h; named = named }
