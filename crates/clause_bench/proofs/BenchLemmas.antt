-- Clauses over variables, beside more atoms and with one more clause.
use Rattle.std.proofs.Common.{◌≡◌, ℕ, ◌+◌, ◌-◌, ◌<◌, ◌≤◌, List, [], ◌∷◌, ◌++◌, length, get_or, map, take, Result, Ok, Err, arith, refl, ap, sym, subst, ◌∙◌, ⊎_elim, append_assoc}
use Rattle.std.proofs.Math.ListN.{get_or-append}
use Rattle.std.proofs.lemmas.List.{append-nil, length-append, length-map, map-append, get_or-map, take_more}
use Rattle.std.proofs.lemmas.Option.{get_or_from_slice_get, slice_get_cases, none-some}
use Rattle.std.proofs.lemmas.Bool.{cases_order}
use Rattle.std.proofs.lemmas.List.Elements.{Contains-push_cases, Contains-get_or}
use Rattle.lists.proofs.Membership.{Contains-nil, Contains-head, Contains-tail}
use Rattle.plain_lits.specs.declared.lit.Lit.{Lit}
use Rattle.plain_lits.specs.Literals.{negation}
use Rattle.plain_lits.specs.HintCheck.{Checks, IsNamed, clause_at}
use Rattle.plain_lits.specs.Checking.{HasRoomFor, HaveRoomFor}
use Rattle.plain_lits.specs.CheckLaws.{Renames, IsImage, IsMovedHint, IsMovedCheck}
use Rattle.plain_lits.proofs.HintCheckLemmas.{Contains-mapped, Contains-from_mapped}
use Rattle.plain_lits.proofs.OneOutcome.{one_outcome}
use Rattle.plain_lits.proofs.Renaming.{checks_moved}
use Rattle.meaning_atoms.specs.declared.atom.Atom.{Atom}
use Rattle.meaning_atoms.specs.declared.atom.Atom.TheVariants.{Ad}
use Rattle.meaning_atoms.specs.declared.atom.AtomLit.{AtomLit}
use Rattle.meaning_atoms.specs.Literals.{negated}
use Rattle.meaning_atoms.proofs.SameAtoms.{same_literal}
use Rattle.atom_table.specs.Numbering.{AreDifferent, Numbers}
use Rattle.clause_bench.specs.Benches.{lit_over, clause_over, clauses_over, IsBench, Spells, HasGrown}

-- ---- more atoms

pub grown_none : (atoms : List Atom) → HasGrown atoms atoms
grown_none atoms = ([], sym (append-nil atoms))

grown_length : (old new : List Atom) → HasGrown old new → length old ≤ length new
grown_length old new grown = let e = grown.1 in rw e (omega (arith, length-append old grown.0))

numbered_grown : (old new : List Atom) (atom : Atom) (var : ℕ) → Numbers old new atom var → HasGrown old new
numbered_grown old new atom var numbers =
    ⊎_elim (λ e. ([], e ∙ sym (append-nil old))) (λ more. (atom ∷ [], more.1)) numbers.grown

pub grown_more : (first old new : List Atom) (atom : Atom) (var : ℕ) → HasGrown first old → Numbers old new atom var
    → HasGrown first new
grown_more first old new atom var grown numbers =
    let next = numbered_grown old new atom var numbers in
    (grown.0 ++ next.0, next.1 ∙ (ap (λ xs. xs ++ next.0) grown.1 ∙ append_assoc first grown.0 next.0))

numbered_within : (old new : List Atom) (atom : Atom) (var : ℕ) → Numbers old new atom var → var < length new
numbered_within old new atom var numbers =
    ⊎_elim (λ found. found.1) (λ none. absurd (none-some atom (sym none.1 ∙ numbers.at))) (slice_get_cases new var).1

lit_same : (old new : List Atom) (l : Lit) → HasGrown old new → l.var < length old → lit_over new l ≡ lit_over old l
lit_same old new l grown lt =
    let there : get_or new l.var Ad ≡ get_or old l.var Ad =
    ap (λ xs. get_or xs l.var Ad) grown.1 ∙ get_or-append old grown.0 Ad l.var lt in
    ap (λ a. record { atom = a; positive = l.positive }) there

clause_same : (old new : List Atom) (clause : List Lit) → HasGrown old new → HasRoomFor (length old) clause
    → clause_over new clause ≡ clause_over old clause
clause_same old new [] grown room = refl
clause_same old new (l ∷ ls) grown room =
    ap (λ x. x ∷ clause_over new ls) (lit_same old new l grown (room l (Contains-head l ls l refl)))
    ∙ ap (λ xs. lit_over old l ∷ xs) (clause_same old new ls grown (λ x c. room x (Contains-tail l ls x c)))

-- clauses read the same when atoms are added
pub clauses_same : (old new : List Atom) (clauses : List (List Lit)) → HasGrown old new
    → HaveRoomFor (length old) clauses → clauses_over new clauses ≡ clauses_over old clauses
clauses_same old new [] grown room = refl
clauses_same old new (c ∷ cs) grown room =
    ap (λ x. x ∷ clauses_over new cs) (clause_same old new c grown (room c (Contains-head c cs c refl)))
    ∙ ap (λ xs. clause_over old c ∷ xs) (clauses_same old new cs grown (λ x at. room x (Contains-tail c cs x at)))

wider_room : (few many : ℕ) (clause : List Lit) → few ≤ many → HasRoomFor few clause → HasRoomFor many clause
wider_room few many clause le room l c = let lt = room l c in omega arith

-- ---- spelling

pub spells_none : (atoms : List Atom) → Spells atoms [] []
spells_none atoms = record { known = λ l c. absurd (Contains-nil l c); same = refl }

pushed_room : (bound : ℕ) (lits : List Lit) (lit : Lit) → HasRoomFor bound lits → lit.var < bound
    → HasRoomFor bound (lits ++ lit ∷ [])
pushed_room bound lits lit room lt l c =
    ⊎_elim (λ old. room l old) (λ (e : lit ≡ l). subst (λ x. x.var < bound) e lt) (Contains-push_cases lits lit l c)

spells_more : (old new : List Atom) (lits : List Lit) (front : List AtomLit) (literal : AtomLit) (var : ℕ)
    → Spells old lits front → Numbers old new literal.atom var
    → Spells new (lits ++ record { var = var; positive = literal.positive } ∷ []) (front ++ literal ∷ [])
spells_more old new lits front literal var spells numbers =
    let grown = numbered_grown old new literal.atom var numbers in
    let lit : Lit = record { var = var; positive = literal.positive } in
    let read : lit_over new lit ≡ literal =
    ap (λ a. record { atom = a; positive = literal.positive }) (get_or_from_slice_get new var literal.atom Ad
    numbers.at) in
    record {
      known = pushed_room (length new) lits lit
          (wider_room (length old) (length new) lits (grown_length old new grown) spells.known)
          (numbered_within old new literal.atom var numbers);
      same = map-append (lit_over new) lits (lit ∷ [])
          ∙ (ap (λ xs. xs ++ lit_over new lit ∷ []) (clause_same old new lits grown spells.known ∙ spells.same)
          ∙ ap (λ x. front ++ x ∷ []) read);
    }

pub spells_next : (old new : List Atom) (before after : List Lit) (clause : List AtomLit) (i : ℕ) (d : AtomLit)
    (var : ℕ)
    → i < length clause → Spells old before (take i clause) → Numbers old new (get_or clause i d).atom var
    → after ≡ before ++ record { var = var; positive = (get_or clause i d).positive } ∷ []
    → Spells new after (take (i + 1) clause)
spells_next old new before after clause i d var lt spells numbers e =
    subst (λ x. Spells new x (take (i + 1) clause)) (sym e)
    (subst (λ x. Spells new (before ++ record { var = var; positive = (get_or clause i d).positive } ∷ []) x)
    (sym (take_more clause i d lt)) (spells_more old new before (take i clause) (get_or clause i d) var spells numbers))

-- ---- the bench

pub kept : (old new : List Atom) (clauses : List (List Lit)) (truths truths' : List Lit) (vars vars' : ℕ)
    → HasGrown old new → truths' ≡ truths → vars ≤ vars' → IsBench old clauses truths vars
    → IsBench new clauses truths' vars'
kept old new clauses truths truths' vars vars' grown same le bench = record {
  known = λ c at. wider_room (length old) (length new) c (grown_length old new grown) (bench.known c at);
  room = λ c at. wider_room vars vars' c le (bench.room c at);
  idle = same ∙ bench.idle;
}

have_more : (bound : ℕ) (clauses : List (List Lit)) (lits : List Lit) → HaveRoomFor bound clauses
    → HasRoomFor bound lits
    → HaveRoomFor bound (clauses ++ lits ∷ [])
have_more bound clauses lits room here clause c =
    ⊎_elim (λ old. room clause old) (λ (e : lits ≡ clause). subst (λ x. HasRoomFor bound x) e here)
    (Contains-push_cases clauses lits clause c)

pub bench_more : (atoms : List Atom) (clauses new : List (List Lit)) (lits : List Lit) (clause : List AtomLit)
    (truths : List Lit) (vars : ℕ)
    → IsBench atoms clauses truths vars → Spells atoms lits clause → length atoms ≤ vars
    → new ≡ clauses ++ lits ∷ [] → IsBench atoms new truths vars
bench_more atoms clauses new lits clause truths vars bench spells le e = rw e (record {
  known = have_more (length atoms) clauses lits bench.known spells.known;
  room = have_more vars clauses lits bench.room (wider_room (length atoms) vars lits le spells.known);
  idle = bench.idle;
})

pub view_more : (old atoms : List Atom) (clauses new : List (List Lit)) (lits : List Lit) (clause : List AtomLit)
    → HasGrown old atoms → HaveRoomFor (length old) clauses → Spells atoms lits clause → new ≡ clauses ++ lits ∷ []
    → clauses_over atoms new ≡ clauses_over old clauses ++ clause ∷ []
view_more old atoms clauses new lits clause grown room spells e =
    ap (λ x. clauses_over atoms x) e ∙ (map-append (clause_over atoms) clauses (lits ∷ [])
    ∙ (ap (λ xs. xs ++ clause_over atoms lits ∷ []) (clauses_same old atoms clauses grown room)
    ∙ ap (λ x. clauses_over old clauses ++ x ∷ []) spells.same))

-- a row that is added is the clause as it is spelled
pub pushed_row : (old new : List (List Lit)) (row packed lits : List Lit) → new ≡ old ++ row ∷ [] → row ≡ packed
    → packed ≡ lits → new ≡ old ++ lits ∷ []
pushed_row old new row packed lits e same spelled = e ∙ ap (λ x. old ++ x ∷ []) (same ∙ spelled)

-- the room for a spelled clause
pub clause_room : (atoms : List Atom) (lits given : List Lit) (clause : List AtomLit) (vars : ℕ)
    → Spells atoms lits clause → length atoms ≤ vars → given ≡ lits → HasRoomFor vars given
clause_room atoms lits given clause vars spells le e =
    rw e (wider_room (length atoms) vars lits le spells.known)

-- ---- the check over atoms

over_image : (atoms : List Atom) (clause : List Lit) → HasRoomFor (length atoms) clause
    → IsImage (lit_over atoms) (λ l. l.var < length atoms) clause (clause_over atoms clause)
over_image atoms clause room = record {
  within = room;
  there = λ l c. Contains-mapped (lit_over atoms) clause l c;
  back = λ m c. Contains-from_mapped (lit_over atoms) clause m c;
}

same_var : (a b : Lit) → a.var ≡ b.var → a.positive ≡ b.positive → a ≡ b
same_var a b e f = ap (λ v. record { var = v; positive = a.positive }) e
    ∙ ap (λ p. record { var = b.var; positive = p }) f

different_vars : (atoms : List Atom) (v w : ℕ) → AreDifferent atoms → v < length atoms → w < length atoms
    → get_or atoms v Ad ≡ get_or atoms w Ad → v ≡ w
different_vars atoms v w different lt lt' e =
    ⊎_elim (λ same. same) (λ ne. ⊎_elim (λ below. absurd (different v w Ad below lt' e))
    (λ above. absurd (different w v Ad above lt (sym e))) ne) (cases_order v w)

over_renames : (atoms : List Atom) → AreDifferent atoms
    → Renames negation negated (lit_over atoms) (λ l. l.var < length atoms)
over_renames atoms different = record {
  closed = λ l lt. lt;
  negates = λ l lt. refl;
  apart = λ a b lt lt' e. same_var a b (different_vars atoms a.var b.var different lt lt' (ap (λ l. l.atom) e))
      (ap (λ l. l.positive) e);
}

clause_at_over : (atoms : List Atom) (clauses : List (List Lit)) (hint : ℕ) → IsNamed clauses hint
    → clause_at (clauses_over atoms clauses) hint ≡ clause_over atoms (clause_at clauses hint)
clause_at_over atoms clauses hint named =
    let low = named.from_one in let high = named.within in
    get_or-map (clause_over atoms) clauses (hint - 1) [] [] (omega arith)

hint_image : (atoms : List Atom) (clauses : List (List Lit)) (hint : ℕ) → HaveRoomFor (length atoms) clauses
    → IsMovedHint (lit_over atoms) (λ l. l.var < length atoms) clauses (clauses_over atoms clauses) hint hint
hint_image atoms clauses hint room =
    let long : length (clauses_over atoms clauses) ≡ length clauses = length-map clauses (clause_over atoms) in record {
      named = (
        λ n. let low = n.from_one in let high = n.within in record { from_one = low; within = omega (arith, long) },
        λ n. let low = n.from_one in let high = n.within in record { from_one = low; within = omega (arith, long) },
      );
      image = λ n. let low = n.from_one in let high = n.within in
          subst (λ x. IsImage (lit_over atoms) (λ l. l.var < length atoms) (clause_at clauses hint) x)
          (sym (clause_at_over atoms clauses hint n)) (over_image atoms (clause_at clauses hint)
          (room (clause_at clauses hint) (Contains-get_or clauses (hint - 1) [] (omega arith))));
    }

map_itself : (xs : List ℕ) → map (λ x. x) xs ≡ xs
map_itself [] = refl
map_itself (x ∷ xs) = ap (λ r. x ∷ r) (map_itself xs)

-- a check over variables is one over atoms
pub checks_over : (atoms : List Atom) (clauses : List (List Lit)) (lits : List Lit) (clause : List AtomLit)
    (hints : List ℕ) (outcome : Result ℕ ℕ)
    → AreDifferent atoms → HaveRoomFor (length atoms) clauses → Spells atoms lits clause
    → Checks negation clauses lits hints outcome → Checks negated (clauses_over atoms clauses) clause hints outcome
checks_over atoms clauses lits clause hints outcome different room spells h =
    let moved : IsMovedCheck (lit_over atoms) (λ l. l.var < length atoms) (λ x. x) clauses
    (clauses_over atoms clauses) lits
    clause hints = record {
      clause_image = subst (λ x. IsImage (lit_over atoms) (λ l. l.var < length atoms) lits x) spells.same
          (over_image atoms lits spells.known);
      each = λ hint c. hint_image atoms clauses hint room;
    } in
    subst (λ x. Checks negated (clauses_over atoms clauses) clause x outcome) (map_itself hints)
    (checks_moved negation negated (lit_over atoms) (λ l. l.var < length atoms) (over_renames atoms different) (λ x. x)
    clauses (clauses_over atoms clauses) lits clause hints moved outcome h)

-- the same beside the atoms that were there before the clause was spelled
pub taken_over : (old atoms : List Atom) (clauses : List (List Lit)) (lits given : List Lit) (clause : List AtomLit)
    (hints steps : List ℕ) (outcome : Result ℕ ℕ)
    → HasGrown old atoms → AreDifferent atoms → HaveRoomFor (length old) clauses → Spells atoms lits clause
    → given ≡ lits → steps ≡ hints → Checks negation clauses given steps outcome
    → Checks negated (clauses_over old clauses) clause hints outcome
taken_over old atoms clauses lits given clause hints steps outcome grown different room spells e same h =
    let known : HaveRoomFor (length atoms) clauses =
    λ c at. wider_room (length old) (length atoms) c (grown_length old atoms grown) (room c at) in
    let there : Checks negation clauses lits hints outcome =
    subst (λ x. Checks negation clauses lits x outcome) same (subst (λ x. Checks negation clauses x steps outcome) e
    h) in
    subst (λ x. Checks negated x clause hints outcome) (clauses_same old atoms clauses grown room)
    (checks_over atoms clauses lits clause hints outcome different known spells there)

ok_not_err : {A B : Type 0} (a : A) (b : B) → Ok a ≡ Err b → ⊥
ok_not_err a b e = cc

-- a clause that the check rejects is not taken
pub not_taken : (steps : List (List AtomLit)) (clause : List AtomLit) (hints : List ℕ) (place : ℕ)
    → Checks negated steps clause hints (Err place) → ((used : ℕ) × Checks negated steps clause hints (Ok used)) → ⊥
not_taken steps clause hints place rejected taken =
    ok_not_err taken.0 place
    ((one_outcome negated same_literal steps clause hints).one (Ok taken.0) (Err place) taken.1 rejected)
