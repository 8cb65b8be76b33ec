-- The steps that were taken, with the places of their clauses.
use Rattle.std.proofs.Common.{◌≡◌, ◌∙◌, ℕ, zero, suc, ◌+◌, ◌-◌, ◌<◌, ◌≤◌, Bool, true, false, List, [], ◌∷◌, ◌++◌, length, get_or, map, set, Ok, refl, ap, sym, subst, arith, inl, inr, ⊎_elim}
use Rattle.std.specs.Prelude.{Contains}
use Rattle.std.proofs.Math.ListN.{get_or-append}
use Rattle.std.proofs.lemmas.Bool.{cases_eq, cases_lt}
use Rattle.std.proofs.lemmas.List.{get_or-map, get_or-set_other, get_or-set_same, get_or_default, get_or_push, length-set, length-map, length_push, map-append}
use Rattle.std.proofs.lemmas.List.Elements.{Contains-get_or, Contains-push_cases}
use Rattle.lists.proofs.Membership.{Contains-head, Contains-nil, Contains-tail}
use Rattle.plain_lits.specs.HintCheck.{Checks, clause_at}
use Rattle.semantics.specs.Frameworks.{Framework}
use Rattle.meaning_atoms.specs.declared.atom.Atom.TheVariants.{Ask}
use Rattle.meaning_atoms.specs.declared.atom.AtomLit.{AtomLit}
use Rattle.meaning_atoms.specs.Literals.{denied, negated}
use Rattle.certificate_claims.specs.declared.certificate.Step.{Step}
use Rattle.certificate_claims.specs.declared.certificate.Step.TheVariants.{Side, Derived}
use Rattle.certificate_claims.specs.Refutations.{step_clause}
use Rattle.answer_claims.specs.declared.sides.SideKind.{SideKind}
use Rattle.answer_claims.specs.SideClauses.{side_of, sides_of}
use Rattle.certificate_check.specs.declared.taken.Place.{Place}
use Rattle.certificate_check.specs.declared.taken.Place.TheVariants.{Row, Side as Aside}
use Rattle.certificate_check.specs.declared.taken.Taken.{Taken}
use Rattle.clause_bench.specs.Benches.{Takes}
use Rattle.certificate_check.specs.Idle.{IsIdle}
use Rattle.certificate_check.specs.Standing.{StandsBehind}
use Rattle.certificate_check.specs.StepRows.{AddsClause, AddsDerived, HasSettled, HasSide, HasWritten, IsPlace, IsPlaceIn, IsRow, IsSettled, IsTaken, IsUntouched, NotesRow, NotesSide, Settles, TakesClause, TakesOn, WritesSide, clause_of, clauses_of, place_named, row_at, row_named, row_of, side_at}
use Rattle.certificate_check.proofs.HintLemmas.{Serves, checks_back, checks_there}

-- ---- rows beside more of them

row_same : (bench more : List (List AtomLit)) (n : ℕ) → IsRow (length bench) n
    → row_at (bench ++ more) n ≡ row_at bench n
row_same bench more n is =
    let low = is.from_one in let high = is.within in get_or-append bench more [] (n - 1) (omega arith)

clause_same : (f : Framework) (kind : SideKind) (sets : List (List ℕ)) (bench more : List (List AtomLit)) (p : Place)
    → IsPlace (length bench) (length sets) p → clause_of f kind sets (bench ++ more) p ≡ clause_of f kind sets bench p
clause_same f kind sets bench more (Row n) is = row_same bench more n is
clause_same f kind sets bench more (Aside n) is = refl

clauses_same : (f : Framework) (kind : SideKind) (sets : List (List ℕ)) (bench more : List (List AtomLit))
    (ps : List Place) → ((p : Place) → Contains ps p → IsPlace (length bench) (length sets) p)
    → map (clause_of f kind sets (bench ++ more)) ps ≡ map (clause_of f kind sets bench) ps
clauses_same f kind sets bench more [] all = refl
clauses_same f kind sets bench more (p ∷ ps) all =
    ap (λ x. x ∷ map (clause_of f kind sets (bench ++ more)) ps)
    (clause_same f kind sets bench more p (all p (Contains-head p ps p refl)))
    ∙ ap (λ xs. clause_of f kind sets bench p ∷ xs)
    (clauses_same f kind sets bench more ps (λ q c. all q (Contains-tail p ps q c)))

last_row : (bench : List (List AtomLit)) (clause : List AtomLit)
    → row_at (bench ++ clause ∷ []) (length bench + 1) ≡ clause
last_row bench clause = get_or_push bench clause [] (length bench + 1 - 1) (omega arith)

-- the clauses of the steps beside a row more
clauses_kept : (f : Framework) (kind : SideKind) (sets : List (List ℕ)) (bench new : List (List AtomLit))
    (clause : List AtomLit) (ps : List Place)
    → ((p : Place) → Contains ps p → IsPlace (length bench) (length sets) p) → new ≡ bench ++ clause ∷ []
    → map (clause_of f kind sets new) ps ≡ map (clause_of f kind sets bench) ps
clauses_kept f kind sets bench new clause ps all e =
    ap (λ b. map (clause_of f kind sets b) ps) e ∙ clauses_same f kind sets bench (clause ∷ []) ps all

is_row_more : (bench new : List (List AtomLit)) (clause : List AtomLit) (n : ℕ) → new ≡ bench ++ clause ∷ []
    → IsRow (length bench) n → IsRow (length new) n
is_row_more bench new clause n e is =
    let low = is.from_one in let high = is.within in
    let long : length new ≡ length bench + 1 = ap length e ∙ length_push bench clause in
    record { from_one = low; within = omega (arith, long) }

last_is_row : (bench new : List (List AtomLit)) (clause : List AtomLit) → new ≡ bench ++ clause ∷ []
    → IsRow (length new) (length bench + 1)
last_is_row bench new clause e =
    let long : length new ≡ length bench + 1 = ap length e ∙ length_push bench clause in
    record { from_one = omega arith; within = omega (arith, long) }

is_place_more : (bench new : List (List AtomLit)) (clause : List AtomLit) (sets : ℕ) (p : Place)
    → new ≡ bench ++ clause ∷ [] → IsPlace (length bench) sets p → IsPlace (length new) sets p
is_place_more bench new clause sets (Row n) e is = is_row_more bench new clause n e is
is_place_more bench new clause sets (Aside n) e is = is

side_more : (f : Framework) (kind : SideKind) (sets : List (List ℕ)) (bench new : List (List AtomLit))
    (clause : List AtomLit) (number row : ℕ) → new ≡ bench ++ clause ∷ [] → HasSide f kind sets bench number row
    → HasSide f kind sets new number row
side_more f kind sets bench new clause number row e has = record {
  is_row = is_row_more bench new clause row e has.is_row;
  clause = ap (λ b. row_at b row) e ∙ (row_same bench (clause ∷ []) row has.is_row ∙ has.clause);
}

-- the clauses of the steps with one more
clauses_more : (f : Framework) (kind : SideKind) (sets : List (List ℕ)) (bench new : List (List AtomLit))
    (ps more : List Place) (p : Place) (clause : List AtomLit) → more ≡ ps ++ p ∷ []
    → map (clause_of f kind sets new) ps ≡ map (clause_of f kind sets bench) ps → clause_of f kind sets new p ≡ clause
    → map (clause_of f kind sets new) more ≡ map (clause_of f kind sets bench) ps ++ clause ∷ []
clauses_more f kind sets bench new ps more p clause is_more same here =
    ap (map (clause_of f kind sets new)) is_more ∙ (map-append (clause_of f kind sets new) ps (p ∷ [])
    ∙ (ap (λ xs. xs ++ clause_of f kind sets new p ∷ []) same
    ∙ ap (λ x. map (clause_of f kind sets bench) ps ++ x ∷ []) here))

places_more : (rows sets : ℕ) (ps more : List Place) (p : Place) → more ≡ ps ++ p ∷ []
    → ((q : Place) → Contains ps q → IsPlace rows sets q) → IsPlace rows sets p
    → (q : Place) → Contains more q → IsPlace rows sets q
places_more rows sets ps more p is_more all here q c =
    ⊎_elim (λ old. all q old) (λ (e : p ≡ q). subst (λ x. IsPlace rows sets x) e here)
    (Contains-push_cases ps p q (subst (λ l. Contains l q) is_more c))

-- ---- steps

pub untouched : (f : Framework) (kind : SideKind) (sets : List (List ℕ)) (count : ℕ) (t : Taken) → count ≡ length sets
    → IsUntouched count t → IsTaken f kind sets t
untouched f kind sets count t e is = record {
  places = λ p c. absurd (Contains-nil p (subst (λ l. Contains l p) is.places c));
  sides = λ n low. inl (is.unmade n);
  as_many = is.as_many ∙ e;
}

pub no_clauses : (f : Framework) (kind : SideKind) (sets : List (List ℕ)) (count : ℕ) (t : Taken) → IsUntouched count t
    → clauses_of f kind sets t ≡ []
no_clauses f kind sets count t is = ap (map (clause_of f kind sets t.bench)) is.places

-- a step with a row of its own
pub taken_on : (f : Framework) (kind : SideKind) (sets : List (List ℕ)) (old new : Taken) (step : Step)
    (clause : List AtomLit) → IsTaken f kind sets old
    → StandsBehind f (sides_of f kind sets) (clauses_of f kind sets old) step
    → clause ≡ step_clause (sides_of f kind sets) step → AddsClause clause old new
    → TakesOn f kind sets old step new true
taken_on f kind sets old new step clause is stands same adds = record {
  rows = record {
    places = places_more (length new.bench) (length sets) old.places.items new.places.items (Row (length old.bench + 1))
        adds.places (λ p c. is_place_more old.bench new.bench clause (length sets) p adds.bench (is.places p c))
        (last_is_row old.bench new.bench clause adds.bench);
    sides = λ n low. rw adds.sides (⊎_elim (λ none. inl none)
        (λ has. inr (side_more f kind sets old.bench new.bench clause n (row_of old.sides.items (Aside n)) adds.bench
        has))
        (is.sides n low));
    as_many = ap length adds.sides ∙ is.as_many;
  };
  takes = (
    stands,
    clauses_more f kind sets old.bench new.bench old.places.items new.places.items (Row (length old.bench + 1)) clause
        adds.places (clauses_kept f kind sets old.bench new.bench clause old.places.items is.places adds.bench)
        (ap (λ b. row_at b (length old.bench + 1)) adds.bench ∙ last_row old.bench clause)
        ∙ ap (λ c. clauses_of f kind sets old ++ c ∷ []) same,
  );
}

side_clause_is : (f : Framework) (kind : SideKind) (sets : List (List ℕ)) (n : ℕ) → IsRow (length sets) n
    → side_at f kind sets n ≡ step_clause (sides_of f kind sets) (Side n)
side_clause_is f kind sets n is =
    let low = is.from_one in let high = is.within in
    ap (λ x. denied (Ask n) ∷ x) (sym (get_or-map (side_of f kind) sets (n - 1) [] [] (omega arith)))

-- a side clause, which stays where it is
pub side_on : (f : Framework) (kind : SideKind) (sets : List (List ℕ)) (old new : Taken) (n : ℕ) → 1 ≤ n
    → n ≤ length sets → NotesSide n old new → IsTaken f kind sets old → TakesOn f kind sets old (Side n) new true
side_on f kind sets old new n low high notes is =
    let here : IsRow (length sets) n = record { from_one = low; within = high } in record {
      rows = record {
        places = rw notes.bench (places_more (length old.bench) (length sets) old.places.items new.places.items
            (Aside n) notes.places is.places here);
        sides = λ k lt. rw (notes.bench, notes.sides) (is.sides k lt);
        as_many = ap length notes.sides ∙ is.as_many;
      };
      takes = (
        (low, let long = length-map sets (side_of f kind) in omega (arith, long)),
        clauses_more f kind sets old.bench new.bench old.places.items new.places.items (Aside n)
            (step_clause (sides_of f kind sets) (Side n)) notes.places
            (ap (λ b. map (clause_of f kind sets b) old.places.items) notes.bench)
            (side_clause_is f kind sets n here),
      );
    }

-- ---- the calls

-- a clause gets the last row
pub clause_noted : (old mid new : Taken) (clause : List AtomLit) (bench : List (List AtomLit))
    → bench ≡ old.bench ++ clause ∷ [] → mid.bench ≡ bench → mid.places.items ≡ old.places.items
    → mid.sides.items ≡ old.sides.items → NotesRow mid new → AddsClause clause old new
clause_noted old mid new clause bench b mb mp ms notes = record {
  bench = notes.bench ∙ (mb ∙ b);
  places = notes.places ∙ (ap (λ l. l ++ Row (length mid.bench) ∷ []) mp
      ∙ ap (λ n. old.places.items ++ Row n ∷ []) (ap length (mb ∙ b) ∙ length_push old.bench clause));
  sides = notes.sides ∙ ms;
}

-- what the bench says of the rows of hints
abbrev Took : Taken → List AtomLit → List ℕ → List (List AtomLit) → Bool → Type 0
Took old clause given bench b =
    Takes ((used : ℕ) × Checks negated old.bench clause given (Ok used)) old.bench clause bench b

pub not_derived : (old : Taken) (clause : List AtomLit) (hints named given : List ℕ)
    (bench : List (List AtomLit)) (b : Bool) → named ≡ map (row_named old.places.items old.sides.items) hints
    → given ≡ named → Took old clause given bench b → b ≡ false
    → (TakesClause clause hints old → ⊥) × (bench ≡ old.bench)
not_derived old clause hints named given bench b is same took e =
    let fails : Took old clause given bench false = subst (λ x. Took old clause given bench x) e took in (
      λ takes. fails.0 (takes.0, subst (λ h. Checks negated old.bench clause h (Ok takes.0)) (sym (same ∙ is)) takes.1),
      fails.1,
    )

pub derived_true : (old mid new : Taken) (clause : List AtomLit) (hints named given : List ℕ)
    (bench : List (List AtomLit)) (b : Bool) → named ≡ map (row_named old.places.items old.sides.items) hints
    → given ≡ named → Took old clause given bench b → b ≡ true → mid.bench ≡ bench
    → mid.places.items ≡ old.places.items → mid.sides.items ≡ old.sides.items → NotesRow mid new
    → AddsDerived clause hints old new true
derived_true old mid new clause hints named given bench b is same took e mb mp ms notes =
    let takes : Took old clause given bench true = subst (λ x. Took old clause given bench x) e took in (
      (takes.0.0, subst (λ h. Checks negated old.bench clause h (Ok takes.0.0)) (same ∙ is) takes.0.1),
      clause_noted old mid new clause bench takes.1 mb mp ms notes,
    )

-- the row of a number from 1 on
under : (sides : List ℕ) (n : ℕ) → 1 ≤ n → get_or (0 ∷ sides) n 0 ≡ get_or sides (n - 1) 0
under sides zero low = absurd (omega arith)
under sides (suc k) low = let e : suc k - 1 ≡ k = omega arith in ap (λ i. get_or sides i 0) (sym e)

-- a side clause's row is noted
pub side_written : (old new : Taken) (number row : ℕ) (clause : List AtomLit) (bench : List (List AtomLit))
    (places : List Place) (sides : List ℕ) → 1 ≤ number → number ≤ length old.sides.items
    → bench ≡ old.bench ++ clause ∷ [] → places ≡ old.places.items → sides ≡ old.sides.items
    → row ≡ length bench → new.bench ≡ bench → new.places.items ≡ places
    → new.sides.items ≡ set sides (number - 1) row → WritesSide number clause old new
side_written old new number row clause bench places sides low high b p s last nb np ns =
    let lt : number - 1 < length sides = rw s (omega arith) in
    let is_row : row ≡ length old.bench + 1 = last ∙ (ap length b ∙ length_push old.bench clause) in record {
      bench = nb ∙ b;
      places = np ∙ p;
      here = under new.sides.items number low ∙ (ap (λ l. get_or l (number - 1) 0) ns
          ∙ (get_or-set_same sides (number - 1) row 0 lt ∙ is_row));
      others = λ n ne. ⊎_elim
          (λ (none : n ≡ 0). rw none refl)
          (λ some_n. under new.sides.items n (omega (arith, some_n)) ∙ (ap (λ l. get_or l (n - 1) 0) ns
          ∙ (get_or-set_other sides (number - 1) (n - 1) row 0 (λ e. ne (omega (arith, e, some_n, low)))
          ∙ (ap (λ l. get_or l (n - 1) 0) s ∙ sym (under old.sides.items n (omega (arith, some_n)))))))
          (cases_eq n 0);
      as_many = ap length ns ∙ (length-set sides (number - 1) row ∙ ap length s);
    }

-- ---- what is written out

pub nothing_written : (f : Framework) (kind : SideKind) (sets : List (List ℕ)) (t : Taken) → IsTaken f kind sets t
    → HasWritten f kind sets t t
nothing_written f kind sets t is = record { rows = is; places = refl; clauses = refl; kept = λ n e. e }

pub then_written : (f : Framework) (kind : SideKind) (sets : List (List ℕ)) (old mid new : Taken)
    → HasWritten f kind sets old mid → HasWritten f kind sets mid new → HasWritten f kind sets old new
then_written f kind sets old mid new first last = record {
  rows = last.rows;
  places = last.places ∙ first.places;
  clauses = last.clauses ∙ first.clauses;
  kept = λ n e. first.kept n (last.kept n e);
}

-- one side clause more is written out
pub one_written : (f : Framework) (kind : SideKind) (sets : List (List ℕ)) (old new : Taken) (n : ℕ) (set : List ℕ)
    (clause : List AtomLit) → 1 ≤ n → n ≤ length sets → set ≡ get_or sets (n - 1) set
    → clause ≡ denied (Ask n) ∷ side_of f kind set → IsTaken f kind sets old → WritesSide n clause old new
    → HasWritten f kind sets old new
one_written f kind sets old new n set clause low high at made is writes =
    let here : set ≡ get_or sets (n - 1) [] = at ∙ get_or_default sets (n - 1) set [] (omega arith) in
    let says : clause ≡ side_at f kind sets n = made ∙ ap (λ s. denied (Ask n) ∷ side_of f kind s) here in
    let row = length old.bench + 1 in
    let has : HasSide f kind sets new.bench n row = record {
      is_row = last_is_row old.bench new.bench clause writes.bench;
      clause = ap (λ b. row_at b row) writes.bench ∙ (last_row old.bench clause ∙ says);
    } in
    let same = clauses_kept f kind sets old.bench new.bench clause old.places.items is.places writes.bench in record {
      rows = record {
        places = λ p c. is_place_more old.bench new.bench clause (length sets) p writes.bench
            (is.places p (subst (λ l. Contains l p) writes.places c));
        sides = λ k low. ⊎_elim
            (λ (e : k ≡ n). inr (rw e (rw writes.here has)))
            (λ ne. rw (writes.others k ne) (⊎_elim (λ none. inl none)
            (λ old_has. inr (side_more f kind sets old.bench new.bench clause k (row_of old.sides.items (Aside k))
            writes.bench old_has)) (is.sides k low))) (cases_eq k n);
        as_many = writes.as_many ∙ is.as_many;
      };
      places = writes.places;
      clauses = ap (map (clause_of f kind sets new.bench)) writes.places ∙ same;
      kept = λ k e. ⊎_elim (λ (e' : k ≡ n). absurd (let a : row_of new.sides.items (Aside n) ≡ 0 = rw (← e') e in
          omega (arith, a, writes.here)))
          (λ ne. sym (writes.others k ne) ∙ e) (cases_eq k n);
    }

-- a place stays settled
still_settled : (f : Framework) (kind : SideKind) (sets : List (List ℕ)) (limit : ℕ) (old new : Taken) (p : Place)
    → HasWritten f kind sets old new → IsSettled f kind sets limit old.sides.items p
    → IsSettled f kind sets limit new.sides.items p
still_settled f kind sets limit old new (Row n) written is = is
still_settled f kind sets limit old new (Aside n) written is = λ e. is (written.kept n e)

pub none_settled : (f : Framework) (kind : SideKind) (sets : List (List ℕ)) (limit : ℕ) (hints : List ℕ) (t : Taken)
    → IsTaken f kind sets t → HasSettled f kind sets limit hints 0 t t
none_settled f kind sets limit hints t is =
    record { written = nothing_written f kind sets t is; settled = λ k lt below. absurd (omega (arith, lt)) }

pub settled_more : (f : Framework) (kind : SideKind) (sets : List (List ℕ)) (limit : ℕ) (hints : List ℕ) (i : ℕ)
    (place : Place) (old mid new : Taken) → i < length hints → place ≡ place_named mid.places.items (get_or hints i 0)
    → HasSettled f kind sets limit hints i old mid → Settles f kind sets limit place mid new
    → HasSettled f kind sets limit hints (i + 1) old new
settled_more f kind sets limit hints i place old mid new lt named before now = record {
  written = then_written f kind sets old mid new before.written now.written;
  settled = λ k below within. ⊎_elim
      (λ (e : k ≡ i). rw e (rw now.written.places
      (subst (λ p. IsSettled f kind sets limit new.sides.items p) named now.settled)))
      (λ ne. rw now.written.places (still_settled f kind sets limit mid new
      (place_named mid.places.items (get_or hints k 0)) now.written
      (before.settled k (omega (arith, below, ne)) within)))
      (cases_eq k i);
}

past_end : (ps : List Place) (k : ℕ) → length ps ≤ k → get_or ps k (Row 0) ≡ Row 0
past_end [] k le = refl
past_end (p ∷ ps) zero le = absurd (omega arith)
past_end (p ∷ ps) (suc k) le = past_end ps k (omega arith)

-- the place that a hint names is one of those that there are
pub named_in : (f : Framework) (kind : SideKind) (sets : List (List ℕ)) (t : Taken) (h : ℕ) → IsTaken f kind sets t
    → IsPlaceIn (length sets) (place_named t.places.items h)
named_in f kind sets t zero is = record {}
named_in f kind sets t (suc k) is =
    ⊎_elim (λ lt. place_in (length t.bench) (length sets) (get_or t.places.items k (Row 0))
    (is.places (get_or t.places.items k (Row 0)) (Contains-get_or t.places.items k (Row 0) lt)))
    (λ past. rw (past_end t.places.items k past) (record {})) (cases_lt k (length t.places.items))
  where
    place_in : (rows count : ℕ) (p : Place) → IsPlace rows count p → IsPlaceIn count p
    place_in rows count (Row n) here = record {}
    place_in rows count (Aside n) here = here

-- ---- hints

-- the clause of the step that a hint names
named_clause : (f : Framework) (kind : SideKind) (sets : List (List ℕ)) (t : Taken) (k : ℕ) (p : Place)
    → k < length t.places.items → get_or t.places.items k (Row 0) ≡ p
    → clause_at (clauses_of f kind sets t) (suc k) ≡ clause_of f kind sets t.bench p
named_clause f kind sets t k p lt at =
    let less : suc k - 1 ≡ k = omega arith in
    ap (λ i. get_or (clauses_of f kind sets t) i []) less
    ∙ (get_or-map (clause_of f kind sets t.bench) t.places.items k (Row 0) [] lt
    ∙ ap (clause_of f kind sets t.bench) at)

-- a place that is settled serves as its row does
place_serves : (f : Framework) (kind : SideKind) (sets : List (List ℕ)) (limit : ℕ) (t : Taken) (k : ℕ) (p : Place)
    → IsTaken f kind sets t → k < length t.places.items → get_or t.places.items k (Row 0) ≡ p
    → IsPlace (length t.bench) (length sets) p → IsSettled f kind sets limit t.sides.items p
    → Serves (clauses_of f kind sets t) t.bench limit (suc k) (row_of t.sides.items p)
place_serves f kind sets limit t k (Row n) is lt at row settled =
    let long = length-map t.places.items (clause_of f kind sets t.bench) in inl (record {
      there = λ _. record { from_one = row.from_one; within = row.within };
      back = λ _. record { from_one = omega arith; within = omega (arith, long, lt) };
      same = λ _. named_clause f kind sets t k (Row n) lt at;
    })
place_serves f kind sets limit t k (Aside n) is lt at row settled =
    let long = length-map t.places.items (clause_of f kind sets t.bench) in
    ⊎_elim
    (λ none. inr (record {
      none = none;
      idle = λ _. subst (λ c. IsIdle limit c) (sym (named_clause f kind sets t k (Aside n) lt at)) (settled none);
    }))
    (λ has. inl (record {
      there = λ _. record { from_one = has.is_row.from_one; within = has.is_row.within };
      back = λ _. record { from_one = omega arith; within = omega (arith, long, lt) };
      same = λ _. named_clause f kind sets t k (Aside n) lt at ∙ sym has.clause;
    }))
    (is.sides n row)

-- a step's number serves as the number of its row
hint_serves : (f : Framework) (kind : SideKind) (sets : List (List ℕ)) (limit : ℕ) (t : Taken) (h : ℕ)
    → IsTaken f kind sets t → IsSettled f kind sets limit t.sides.items (place_named t.places.items h)
    → Serves (clauses_of f kind sets t) t.bench limit h (row_named t.places.items t.sides.items h)
hint_serves f kind sets limit t zero is settled = inl (record {
  there = λ n. let low = n.from_one in absurd (omega arith);
  back = λ n. let low = n.from_one in absurd (omega arith);
  same = λ n. let low = n.from_one in absurd (omega arith);
})
hint_serves f kind sets limit t (suc k) is settled =
    let long = length-map t.places.items (clause_of f kind sets t.bench) in
    ⊎_elim
    (λ lt. place_serves f kind sets limit t k (get_or t.places.items k (Row 0)) is lt refl
    (is.places (get_or t.places.items k (Row 0)) (Contains-get_or t.places.items k (Row 0) lt)) settled)
    (λ past.
    let none : row_of t.sides.items (get_or t.places.items k (Row 0)) ≡ 0 =
    ap (row_of t.sides.items) (past_end t.places.items k past) in inl (record {
      there = λ n. let high = n.within in absurd (omega (arith, long, past));
      back = λ n. let low = n.from_one in absurd (omega (arith, none));
      same = λ n. let high = n.within in absurd (omega (arith, long, past));
    }))
    (cases_lt k (length t.places.items))

-- all hints do, where they are settled
all_serve : (f : Framework) (kind : SideKind) (sets : List (List ℕ)) (limit : ℕ) (hints : List ℕ) (old t : Taken)
    → HasSettled f kind sets limit hints (length hints) old t → (h : ℕ) → Contains hints h
    → Serves (clauses_of f kind sets t) t.bench limit h (row_named t.places.items t.sides.items h)
all_serve f kind sets limit hints old t settled h c =
    let at : get_or hints c.0 0 ≡ h = get_or_default hints c.0 0 h c.1 ∙ c.2 in
    hint_serves f kind sets limit t h settled.written.rows
    (subst (λ x. IsSettled f kind sets limit t.sides.items (place_named t.places.items x)) at
    (settled.settled c.0 c.1 c.1))

-- a derived step behind the steps that were taken, some side clauses of which were written out first
pub derived_on : (f : Framework) (kind : SideKind) (sets : List (List ℕ)) (limit : ℕ) (old mid new : Taken)
    (literals : List AtomLit) (hints : List ℕ) (taken : Bool) → limit ≡ length literals + length hints
    → HasSettled f kind sets limit hints (length hints) old mid → AddsDerived literals hints mid new taken
    → TakesOn f kind sets old (Derived literals hints) new taken
derived_on f kind sets limit old mid new literals hints true enough settled adds =
    let serve = all_serve f kind sets limit hints old mid settled in
    let on = taken_on f kind sets mid new (Derived literals hints) literals settled.written.rows (
      adds.0.0,
      checks_back (clauses_of f kind sets mid) mid.bench (row_named mid.places.items mid.sides.items) limit literals
          hints (Ok adds.0.0) serve (omega (arith, enough)) adds.0.1,
    ) refl adds.1 in
    record { rows = on.rows; takes = rw (← settled.written.clauses) on.takes }
derived_on f kind sets limit old mid new literals hints false enough settled adds =
    let serve = all_serve f kind sets limit hints old mid settled in
    let is = settled.written.rows in record {
      rows = record {
        places = λ p c. rw adds.1.0 (is.places p (subst (λ l. Contains l p) adds.1.1.0 c));
        sides = λ n low. rw (adds.1.0, adds.1.1.1) (is.sides n low);
        as_many = ap length adds.1.1.1 ∙ is.as_many;
      };
      takes = rw (← settled.written.clauses) (
        λ stands. adds.0 (
          stands.0,
          checks_there (clauses_of f kind sets mid) mid.bench (row_named mid.places.items mid.sides.items) limit
              literals hints (Ok stands.0) serve (omega (arith, enough)) stands.1,
        ),
        ap (λ b. map (clause_of f kind sets b) new.places.items) adds.1.0
            ∙ ap (map (clause_of f kind sets mid.bench)) adds.1.1.0,
      );
    }
