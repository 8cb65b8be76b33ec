-- What is added piece by piece is the text.
use Rattle.std.proofs.Common.{◌≡◌, ℕ, ◌+◌, ◌-◌, ◌≤◌, List, [], ◌∷◌, ◌++◌, length, length-append, map, take, refl, sym, ap, ◌∙◌, arith, codes, append_assoc}
use Rattle.std.specs.List.{flat_map, range_with_len, slice_range}
use Rattle.std.specs.Fmt.{decimal}
use Rattle.std.proofs.lemmas.Grind.{flat_map-append}
use Rattle.std.proofs.Math.Seq.{take-add}
use Rattle.std.proofs.lemmas.List.{append-nil, length-map, map-append}
use Rattle.plain_lits.specs.declared.lit.Lit.{Lit}
use Rattle.plain_lits.specs.Literals.{negation}
use Rattle.hinted_log.specs.Logs.{Step}
use Rattle.hinted_log.specs.declared.step_kind.StepKind.{StepKind}
use Rattle.hinted_log.specs.declared.step_kind.StepKind.TheVariants.{Axiom, Side, Derived}
use Rattle.lrat_text.specs.Checking.{step_line}
use Rattle.lrat_writing.specs.Texts.{lit_text, spaced, clause_line, header_line, cnf_text, step_text}
use Rattle.lrat_writing.specs.Pieces.{literal_piece, number_piece, unit_piece, kind_piece, given_piece}
use Rattle.lrat_writing.specs.Walks.{shifted_clause, given_by, given_of, given_clauses, last_clause, unit_of, cnf_clauses, formula_of, id_in}
use Rattle.lrat_writing.proofs.Verifies.{row_more}

-- ---- fields with blanks

literals_spaced : (clause : List Lit) → spaced (map lit_text (shifted_clause clause)) ≡ flat_map literal_piece clause
literals_spaced [] = refl
literals_spaced (l ∷ ls) = ap (λ r. literal_piece l ++ r) (literals_spaced ls)

numbers_spaced : (ns : List ℕ) → spaced (map decimal ns) ≡ flat_map number_piece ns
numbers_spaced [] = refl
numbers_spaced (n ∷ ns) = ap (λ r. number_piece n ++ r) (numbers_spaced ns)

hints_spaced : (ids hints : List ℕ)
    → spaced (map decimal (map (id_in ids) hints)) ≡ flat_map (λ h. number_piece (id_in ids h)) hints
hints_spaced ids [] = refl
hints_spaced ids (h ∷ hs) = ap (λ r. number_piece (id_in ids h) ++ r) (hints_spaced ids hs)

-- ---- a step's line

any_line : (id : ℕ) (clause : List Lit) (hints : List ℕ)
    → step_text (step_line id clause hints)
    ≡ number_piece id ++ (spaced (map lit_text clause) ++ (codes "0 " ++ (spaced (map decimal hints) ++ codes "0\n")))
any_line id clause hints =
    let a = spaced (map lit_text clause) in
    let b = spaced (map decimal hints) in
    let cut : spaced (map lit_text clause ++ codes "0" ∷ map decimal hints) ≡ a ++ (codes "0 " ++ b)
    = flat_map-append (λ (field : List ℕ). field ++ 32 ∷ []) (map lit_text clause) (codes "0" ∷ map decimal hints) in
    append_assoc (number_piece id) (spaced (map lit_text clause ++ codes "0" ∷ map decimal hints)) (codes "0\n")
    ∙ ap (λ x. number_piece id ++ x) (ap (λ x. x ++ codes "0\n") cut ∙ append_assoc a (codes "0 " ++ b) (codes "0\n")
    ∙ ap (λ x. a ++ x) (append_assoc (codes "0 ") b (codes "0\n")))

pub line_text : (id : ℕ) (clause : List Lit) (ids hints : List ℕ)
    → step_text (step_line id (shifted_clause clause) (map (id_in ids) hints))
    ≡ number_piece id ++ (flat_map literal_piece clause
    ++ (codes "0 " ++ (flat_map (λ h. number_piece (id_in ids h)) hints ++ codes "0\n")))
line_text id clause ids hints =
    any_line id (shifted_clause clause) (map (id_in ids) hints)
    ∙ ap (λ x. number_piece id ++ (x ++ (codes "0 " ++ (spaced (map decimal (map (id_in ids) hints)) ++ codes "0\n"))))
    (literals_spaced clause)
    ∙ ap (λ x. number_piece id ++ (flat_map literal_piece clause ++ (codes "0 " ++ (x ++ codes "0\n"))))
    (hints_spaced ids hints)

-- pieces one after the other
pub five_pieces : (t0 t1 t2 t3 t4 t5 a b c d e : List ℕ) → t1 ≡ t0 ++ a → t2 ≡ t1 ++ b → t3 ≡ t2 ++ c → t4 ≡ t3 ++ d
    → t5 ≡ t4 ++ e → t5 ≡ t0 ++ (a ++ (b ++ (c ++ (d ++ e))))
five_pieces t0 t1 t2 t3 t4 t5 a b c d e h1 h2 h3 h4 h5 =
    h5 ∙ ap (λ x. x ++ e) h4 ∙ append_assoc t3 d e
    ∙ ap (λ x. x ++ (d ++ e)) h3 ∙ append_assoc t2 c (d ++ e)
    ∙ ap (λ x. x ++ (c ++ (d ++ e))) h2 ∙ append_assoc t1 b (c ++ (d ++ e))
    ∙ ap (λ x. x ++ (b ++ (c ++ (d ++ e)))) h1 ∙ append_assoc t0 a (b ++ (c ++ (d ++ e)))

-- the line without literals
pub final_text : (id : ℕ) (row : List ℕ) (last : ℕ)
    → step_text (step_line id [] (row ++ last ∷ []))
    ≡ number_piece id ++ (codes "0 " ++ (flat_map number_piece row ++ (number_piece last ++ codes "0\n")))
final_text id row last =
    let f = flat_map number_piece row in
    let hints : spaced (map decimal (row ++ last ∷ [])) ≡ f ++ number_piece last
    = numbers_spaced (row ++ last ∷ []) ∙ flat_map-append number_piece row (last ∷ [])
    ∙ ap (λ x. f ++ x) (append-nil (number_piece last)) in
    any_line id [] (row ++ last ∷ [])
    ∙ ap (λ x. number_piece id ++ (codes "0 " ++ x)) (ap (λ x. x ++ codes "0\n") hints
    ∙ append_assoc f (number_piece last) (codes "0\n"))

-- a part more of a list
pub part_written : {X : Type 0} (f : X → List ℕ) (xs : List X) (from to : ℕ) (base text new : List ℕ) → from ≤ to
    → text ≡ base ++ flat_map f (take from xs) → new ≡ text ++ flat_map f (slice_range xs from to)
    → new ≡ base ++ flat_map f (take to xs)
part_written f xs from to base text new le h more =
    let a = flat_map f (take from xs) in
    let b = flat_map f (slice_range xs from to) in
    let at : from + (to - from) ≡ to = omega arith in
    let cut : take to xs ≡ take from xs ++ slice_range xs from to
    = ap (λ n. take n xs) (sym at) ∙ take-add from (to - from) xs in
    more ∙ ap (λ x. x ++ b) h ∙ append_assoc base a b
    ∙ ap (λ x. base ++ x) (sym (ap (flat_map f) cut ∙ flat_map-append f (take from xs) (slice_range xs from to)))

-- numbers in a row, with one more
pub row_written : (base text new : List ℕ) (first index number : ℕ)
    → text ≡ base ++ flat_map number_piece (range_with_len first index) → new ≡ text ++ number_piece number
    → number ≡ first + index → new ≡ base ++ flat_map number_piece (range_with_len first (index + 1))
row_written base text new first index number h more is =
    let row = range_with_len first index in
    let all : flat_map number_piece (range_with_len first (index + 1))
    ≡ flat_map number_piece row ++ number_piece number
    = ap (flat_map number_piece) (sym (row_more first index) ∙ ap (λ n. row ++ n ∷ []) (sym is))
    ∙ flat_map-append number_piece row (number ∷ []) ∙ ap (λ x. flat_map number_piece row ++ x)
    (append-nil (number_piece number)) in
    more ∙ ap (λ x. x ++ number_piece number) h ∙ append_assoc base (flat_map number_piece row) (number_piece number)
    ∙ ap (λ x. base ++ x) (sym all)

-- ---- the CNF

given_one : (kind : StepKind) (clause : List Lit)
    → flat_map clause_line (map shifted_clause (given_by kind clause)) ≡ kind_piece kind clause
given_one Axiom clause =
    append-nil (clause_line (shifted_clause clause)) ∙ ap (λ x. x ++ codes "0\n") (literals_spaced clause)
given_one Side clause =
    append-nil (clause_line (shifted_clause clause)) ∙ ap (λ x. x ++ codes "0\n") (literals_spaced clause)
given_one Derived clause = refl

given_pieces : (steps : List Step)
    → flat_map clause_line (map shifted_clause (given_clauses steps)) ≡ flat_map given_piece steps
given_pieces [] = refl
given_pieces (s ∷ ss) =
    ap (flat_map clause_line) (map-append shifted_clause (given_of s) (given_clauses ss))
    ∙ flat_map-append clause_line (map shifted_clause (given_of s)) (map shifted_clause (given_clauses ss))
    ∙ ap (λ x. x ++ flat_map clause_line (map shifted_clause (given_clauses ss))) (given_one s.kind s.clause)
    ∙ ap (λ x. given_piece s ++ x) (given_pieces ss)

unit_pieces : (ls : List Lit)
    → flat_map clause_line (map shifted_clause (map unit_of ls)) ≡ flat_map unit_piece ls
unit_pieces [] = refl
unit_pieces (l ∷ ls) =
    ap (λ x. (x ++ codes "0\n") ++ flat_map clause_line (map shifted_clause (map unit_of ls)))
    (append-nil (literal_piece (negation l)))
    ∙ ap (λ x. unit_piece l ++ x) (unit_pieces ls)

pub cnf_long : (steps : List Step)
    → length (cnf_clauses steps) ≡ length (given_clauses steps) + length (last_clause steps)
cnf_long steps =
    let a = length-map (given_clauses steps ++ map unit_of (last_clause steps)) shifted_clause in
    let b = length-append (given_clauses steps) (map unit_of (last_clause steps)) in
    let c = length-map (last_clause steps) unit_of in
    omega (arith, a, b, c)

pub cnf_count : (steps : List Step) (given : ℕ) (last : List Lit) → given ≡ length (given_clauses steps)
    → last ≡ last_clause steps → given + length last ≡ length (cnf_clauses steps)
cnf_count steps given last e same = let a = cnf_long steps in let b = ap length same in omega (arith, a, b, e)

pub cnf_written : (vars count : ℕ) (steps : List Step) (last : List Lit) (t1 t2 t3 : List ℕ)
    → count ≡ length (cnf_clauses steps) → last ≡ last_clause steps → t1 ≡ header_line vars count
    → t2 ≡ t1 ++ flat_map given_piece steps → t3 ≡ t2 ++ flat_map unit_piece last
    → t3 ≡ cnf_text (formula_of vars steps)
cnf_written vars count steps last t1 t2 t3 counted same h1 h2 h3 =
    let given = given_clauses steps in
    let units = map unit_of (last_clause steps) in
    let all : flat_map clause_line (cnf_clauses steps) ≡ flat_map given_piece steps ++ flat_map unit_piece (last_clause steps)
    = ap (flat_map clause_line) (map-append shifted_clause given units)
    ∙ flat_map-append clause_line (map shifted_clause given) (map shifted_clause units)
    ∙ ap (λ x. x ++ flat_map clause_line (map shifted_clause units)) (given_pieces steps)
    ∙ ap (λ x. flat_map given_piece steps ++ x) (unit_pieces (last_clause steps)) in
    h3 ∙ ap (λ x. x ++ flat_map unit_piece last) h2
    ∙ append_assoc t1 (flat_map given_piece steps) (flat_map unit_piece last)
    ∙ ap (λ x. t1 ++ (flat_map given_piece steps ++ flat_map unit_piece x)) same
    ∙ ap (λ x. x ++ (flat_map given_piece steps ++ flat_map unit_piece (last_clause steps)))
    (h1 ∙ ap (header_line vars) counted)
    ∙ ap (λ x. header_line vars (length (cnf_clauses steps)) ++ x) (sym all)
