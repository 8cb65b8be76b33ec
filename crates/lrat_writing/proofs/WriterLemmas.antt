-- What a writer holds behind one step more, and at the end.
use Rattle.std.proofs.Common.{◌≡◌, ℕ, ◌+◌, ◌-◌, ◌<◌, ◌≤◌, List, [], ◌∷◌, ◌++◌, length, length-append, map, take, fold, get_or, Result, Ok, Err, refl, sym, ap, subst, ◌∙◌, arith}
use Rattle.std.specs.Prelude.{OnOk}
use Rattle.std.specs.List.{flat_map, range_with_len}
use Rattle.std.proofs.lemmas.Grind.{flat_map-append}
use Rattle.std.proofs.lemmas.List.{append-nil, length_push, take_more}
use Rattle.std.proofs.lemmas.List.Sums.{fold-append}
use Rattle.num_text.specs.declared.limit.TheConstants.{MAX_INPUT}
use Rattle.plain_lits.specs.declared.lit.Lit.{Lit}
use Rattle.plain_lits.specs.Literals.{LitsRise}
use Rattle.plain_lits.specs.Checking.{HaveRoomFor}
use Rattle.hinted_log.specs.Logs.{IsLog, LogState, Step, clauses_of, no_step, step_at}
use Rattle.hinted_log.specs.declared.step_kind.StepKind.{StepKind}
use Rattle.hinted_log.specs.declared.step_kind.StepKind.TheVariants.{Axiom, Side, Derived}
use Rattle.lrat_text.specs.Checking.{StepLine, step_line}
use Rattle.lrat_text.specs.CnfText.{IsCnfText}
use Rattle.lrat_text.specs.LratText.{IsChecked}
use Rattle.lrat_text.specs.declared.cnf.TheConstants.{MAX_VARIABLE}
use Rattle.lrat_text.specs.declared.verdict.Verdict.TheVariants.{Verified}
use Rattle.lrat_writing.specs.declared.writer.Writer.{Writer}
use Rattle.lrat_writing.specs.declared.writer.Written.{Written}
use Rattle.lrat_writing.specs.Texts.{header_line, step_text, lrat_text}
use Rattle.lrat_writing.specs.Pieces.{clause_piece, unit_piece, given_piece, IsWritten}
use Rattle.lrat_writing.specs.Walks.{shifted_clause, given_by, given_of, given_clauses, last_clause, cnf_clauses, formula_of, Walk, start, id_in, next_id, with_given, with_derived, walk_on, walk_step, walk, final_line, lines_of}
use Rattle.lrat_writing.specs.Writers.{AreTextsOf, IsWriterOf, step_of}
use Rattle.lrat_writing.proofs.PieceLemmas.{cnf_written}
use Rattle.lrat_writing.proofs.Readable.{log_checks, log_reads}

-- ---- one step more

added : (steps : List Step) (step : Step) (old new : Writer) → new.count ≡ old.count
    → new.cnf.items ≡ old.cnf.items ++ given_piece step
    → IsWritten [] (walk_step old.count (walk old.count steps) step) new.lrat.items new.ids.items new.given new.lines
    → new.given + new.lines ≡ old.given + old.lines + 1 → IsWriterOf steps old → IsWriterOf (steps ++ step ∷ []) new
added steps step old new count cnf written more h =
    let many = length_push steps step in
    let all = h.all in record {
      cnf = cnf ∙ ap (λ x. x ++ given_piece step) h.cnf
          ∙ sym (flat_map-append given_piece steps (step ∷ [])
          ∙ ap (λ x. flat_map given_piece steps ++ x) (append-nil (given_piece step)));
      lrat = subst (λ n. IsWritten [] (walk n (steps ++ step ∷ [])) new.lrat.items new.ids.items new.given new.lines)
          (sym count)
          (subst (λ w. IsWritten [] w new.lrat.items new.ids.items new.given new.lines)
          (sym (fold-append (walk_step old.count) start steps (step ∷ []))) written);
      all = omega (arith, many, all, more);
    }

-- what a step that is given leaves
pub record GivesClause (old new : Writer) (clause : List Lit) : Type 0 where
  pub count : new.count ≡ old.count
  pub cnf : new.cnf.items ≡ old.cnf.items ++ clause_piece clause
  pub lrat : new.lrat.items ≡ old.lrat.items
  pub ids : new.ids.items ≡ old.ids.items ++ (old.given + 1) ∷ []
  pub given : new.given ≡ old.given + 1
  pub lines : new.lines ≡ old.lines

with_given_written : (w : Walk) (old new : Writer) (clause : List Lit) → GivesClause old new clause
    → IsWritten [] w old.lrat.items old.ids.items old.given old.lines
    → IsWritten [] (with_given w) new.lrat.items new.ids.items new.given new.lines
with_given_written w old new clause g h = record {
  text_is = g.lrat ∙ h.text_is;
  ids_are = g.ids ∙ ap (λ xs. xs ++ (old.given + 1) ∷ []) h.ids_are ∙ ap (λ n. w.ids ++ (n + 1) ∷ []) h.given_is;
  given_is = g.given ∙ ap (λ n. n + 1) h.given_is;
  lines_are = g.lines ∙ h.lines_are;
}

more_given : (old new : Writer) (clause : List Lit) → GivesClause old new clause
    → new.given + new.lines ≡ old.given + old.lines + 1
more_given old new clause g = let a = g.given in let b = g.lines in omega (arith, a, b)

pub axiom_more : (steps : List Step) (clause : List Lit) (hints : List ℕ) (old new : Writer)
    → GivesClause old new clause → IsWriterOf steps old → IsWriterOf (steps ++ step_of Axiom clause hints ∷ []) new
axiom_more steps clause hints old new g h =
    added steps (step_of Axiom clause hints) old new g.count g.cnf
    (with_given_written (walk old.count steps) old new clause g h.lrat) (more_given old new clause g) h

pub side_more : (steps : List Step) (clause : List Lit) (hints : List ℕ) (old new : Writer)
    → GivesClause old new clause → IsWriterOf steps old → IsWriterOf (steps ++ step_of Side clause hints ∷ []) new
side_more steps clause hints old new g h =
    added steps (step_of Side clause hints) old new g.count g.cnf
    (with_given_written (walk old.count steps) old new clause g h.lrat) (more_given old new clause g) h

-- where it was pushed
pub given_pushed : {T E : Type 0} (r : Result T E) (kind is : StepKind) (clause : List Lit) (hints : List ℕ)
    (old new : Writer) → kind ≡ is
    → ((steps : List Step) → GivesClause old new clause → IsWriterOf steps old
    → IsWriterOf (steps ++ step_of is clause hints ∷ []) new)
    → new.count ≡ old.count → new.lrat.items ≡ old.lrat.items → new.lines ≡ old.lines
    → OnOk r (new.cnf.items ≡ old.cnf.items ++ clause_piece clause)
    → OnOk r (new.ids.items ≡ old.ids.items ++ (old.given + 1) ∷ []) → OnOk r (new.given ≡ old.given + 1)
    → OnOk r ((steps : List Step) → IsWriterOf steps old → IsWriterOf (steps ++ step_of kind clause hints ∷ []) new)
given_pushed (Ok x) kind is clause hints old new e more count lrat lines cnf ids given = λ steps h.
    subst (λ k. IsWriterOf (steps ++ step_of k clause hints ∷ []) new) (sym e)
    (more steps (record { count = count; cnf = cnf; lrat = lrat; ids = ids; given = given; lines = lines }) h)
given_pushed (Err x) kind is clause hints old new e more count lrat lines cnf ids given = tt

-- what a derived step leaves
pub record GivesLine (old new : Writer) (clause : List Lit) (hints : List ℕ) : Type 0 where
  pub count : new.count ≡ old.count
  pub cnf : new.cnf.items ≡ old.cnf.items
  pub lrat : new.lrat.items ≡ old.lrat.items
      ++ step_text (step_line (old.count + old.lines + 1) (shifted_clause clause) (map (id_in old.ids.items) hints))
  pub ids : new.ids.items ≡ old.ids.items ++ (old.count + old.lines + 1) ∷ []
  pub given : new.given ≡ old.given
  pub lines : new.lines ≡ old.lines + 1

lines_push : (lines : List StepLine) (line : StepLine)
    → lrat_text (lines ++ line ∷ []) ≡ lrat_text lines ++ step_text line
lines_push lines line = flat_map-append step_text lines (line ∷ [])
    ∙ ap (λ x. lrat_text lines ++ x) (append-nil (step_text line))

with_derived_written : (w : Walk) (old new : Writer) (clause : List Lit) (hints : List ℕ)
    → GivesLine old new clause hints → IsWritten [] w old.lrat.items old.ids.items old.given old.lines
    → IsWritten [] (with_derived old.count w clause hints) new.lrat.items new.ids.items new.given new.lines
with_derived_written w old new clause hints g h =
    let next : old.count + old.lines + 1 ≡ next_id old.count w = ap (λ n. old.count + n + 1) h.lines_are in
    let line = step_line (next_id old.count w) (shifted_clause clause) (map (id_in w.ids) hints) in
    let same : step_line (old.count + old.lines + 1) (shifted_clause clause) (map (id_in old.ids.items) hints) ≡ line
    = ap (λ n. step_line n (shifted_clause clause) (map (id_in old.ids.items) hints)) next
    ∙ ap (λ xs. step_line (next_id old.count w) (shifted_clause clause) (map (id_in xs) hints)) h.ids_are in
    let lines = h.lines_are in
    let more = g.lines in
    record {
      text_is = g.lrat ∙ ap (λ l. old.lrat.items ++ step_text l) same ∙ ap (λ x. x ++ step_text line) h.text_is
          ∙ sym (lines_push w.lines line);
      ids_are = g.ids ∙ ap (λ n. old.ids.items ++ n ∷ []) next ∙ ap (λ xs. xs ++ next_id old.count w ∷ []) h.ids_are;
      given_is = g.given ∙ h.given_is;
      lines_are = omega (arith, more, lines, length_push w.lines line);
    }

pub derived_more : (steps : List Step) (clause : List Lit) (hints : List ℕ) (old new : Writer)
    → GivesLine old new clause hints → IsWriterOf steps old
    → IsWriterOf (steps ++ step_of Derived clause hints ∷ []) new
derived_more steps clause hints old new g h =
    let a = g.given in
    let b = g.lines in
    added steps (step_of Derived clause hints) old new g.count (g.cnf ∙ sym (append-nil old.cnf.items))
    (with_derived_written (walk old.count steps) old new clause hints g h.lrat) (omega (arith, a, b)) h

-- where it was pushed
pub derived_pushed : {T E : Type 0} (r : Result T E) (kind : StepKind) (clause : List Lit) (hints : List ℕ)
    (old new : Writer) → kind ≡ Derived → new.count ≡ old.count → new.cnf.items ≡ old.cnf.items
    → new.given ≡ old.given
    → OnOk r (new.lrat.items ≡ old.lrat.items
    ++ step_text (step_line (old.count + old.lines + 1) (shifted_clause clause) (map (id_in old.ids.items) hints)))
    → OnOk r (new.ids.items ≡ old.ids.items ++ (old.count + old.lines + 1) ∷ [])
    → OnOk r (new.lines ≡ old.lines + 1)
    → OnOk r ((steps : List Step) → IsWriterOf steps old → IsWriterOf (steps ++ step_of kind clause hints ∷ []) new)
derived_pushed (Ok x) kind clause hints old new e count cnf given lrat ids lines = λ steps h.
    subst (λ k. IsWriterOf (steps ++ step_of k clause hints ∷ []) new) (sym e)
    (derived_more steps clause hints old new
    (record { count = count; cnf = cnf; lrat = lrat; ids = ids; given = given; lines = lines }) h)
derived_pushed (Err x) kind clause hints old new e count cnf given lrat ids lines = tt

-- ---- no step, and all steps of a log

pub none_written : (w : Writer) → w.cnf.items ≡ [] → w.lrat.items ≡ [] → w.ids.items ≡ [] → w.given ≡ 0 → w.lines ≡ 0
    → IsWriterOf [] w
none_written w cnf lrat ids given lines = record {
  cnf = cnf;
  lrat = record { text_is = lrat; ids_are = ids; given_is = given; lines_are = lines };
  all = omega (arith, given, lines);
}

pub step_written : (steps : List Step) (index number : ℕ) (kind : StepKind) (clause : List Lit) (hints : List ℕ)
    (w : Writer) → index < length steps → number ≡ index + 1 → kind ≡ (step_at steps number).kind
    → clause ≡ (step_at steps number).clause → hints ≡ (step_at steps number).hints
    → IsWriterOf (take index steps ++ step_of kind clause hints ∷ []) w → IsWriterOf (take (index + 1) steps) w
step_written steps index number kind clause hints w lt is a b c h =
    let at : number - 1 ≡ index = omega (arith, is) in
    let here : step_of kind clause hints ≡ get_or steps index no_step
    = ap (λ k. step_of k clause hints) a ∙ ap (λ ls. step_of (step_at steps number).kind ls hints) b
    ∙ ap (λ hs. step_of (step_at steps number).kind (step_at steps number).clause hs) c
    ∙ ap (λ n. get_or steps n no_step) at in
    subst (λ ss. IsWriterOf ss w)
    (ap (λ s. take index steps ++ s ∷ []) here ∙ sym (take_more steps index no_step lt)) h

-- ---- the end

given_with : (count : ℕ) (w : Walk) (kind : StepKind) (clause : List Lit) (hints : List ℕ)
    → (walk_on count w kind clause hints).given ≡ w.given + length (given_by kind clause)
given_with count w Axiom clause hints = refl
given_with count w Side clause hints = refl
given_with count w Derived clause hints = omega arith

given_after : (count : ℕ) (steps : List Step) (w : Walk)
    → (fold (walk_step count) w steps).given ≡ w.given + length (given_clauses steps)
given_after count [] w = omega arith
given_after count (s ∷ ss) w =
    let one = given_with count w s.kind s.clause s.hints in
    let rest = given_after count ss (walk_step count w s) in
    let long = length-append (given_of s) (given_clauses ss) in
    omega (arith, one, rest, long)

same_final : (id id' first first' len len' last last' : ℕ) → id ≡ id' → first ≡ first' → len ≡ len' → last ≡ last'
    → step_line id [] (range_with_len first len ++ last ∷ [])
    ≡ step_line id' [] (range_with_len first' len' ++ last' ∷ [])
same_final id id' first first' len len' last last' a b c d =
    ap (λ n. step_line n [] (range_with_len first len ++ last ∷ [])) a
    ∙ ap (λ n. step_line id' [] (range_with_len n len ++ last ∷ [])) b
    ∙ ap (λ n. step_line id' [] (range_with_len first' n ++ last ∷ [])) c
    ∙ ap (λ n. step_line id' [] (range_with_len first' len' ++ n ∷ [])) d

lines_written : (steps : List Step) (last : List Lit) (w : Writer) (text : List ℕ) → IsWriterOf steps w
    → last ≡ last_clause steps
    → text ≡ w.lrat.items ++ step_text (step_line (w.count + w.lines + 1) []
    (range_with_len (w.given + 1) (length last) ++ id_in w.ids.items (w.given + w.lines) ∷ []))
    → text ≡ lrat_text (lines_of w.count steps (walk w.count steps))
lines_written steps last w text h same is =
    let v = walk w.count steps in
    let given = given_after w.count steps start in
    let given_is = h.lrat.given_is in
    let end = final_line w.count steps v in
    is ∙ ap (λ l. w.lrat.items ++ step_text l)
    (same_final (w.count + w.lines + 1) (next_id w.count v) (w.given + 1) (length (given_clauses steps) + 1)
    (length last) (length (last_clause steps)) (id_in w.ids.items (w.given + w.lines)) (id_in v.ids (length steps))
    (ap (λ n. w.count + n + 1) h.lrat.lines_are) (omega (arith, given, given_is)) (ap length same)
    (ap (λ n. id_in w.ids.items n) h.all ∙ ap (λ xs. id_in xs (length steps)) h.lrat.ids_are))
    ∙ ap (λ x. x ++ step_text end) h.lrat.text_is ∙ sym (lines_push v.lines end)

pub texts_written : (vars : ℕ) (steps : List Step) (last : List Lit) (w : Writer) (all : Written)
    → IsWriterOf steps w → w.count ≡ length (cnf_clauses steps) → last ≡ last_clause steps
    → all.cnf ≡ (header_line vars w.count ++ w.cnf.items) ++ flat_map unit_piece last
    → all.lrat ≡ w.lrat.items ++ step_text (step_line (w.count + w.lines + 1) []
    (range_with_len (w.given + 1) (length last) ++ id_in w.ids.items (w.given + w.lines) ∷ []))
    → all.clauses ≡ w.count → all.lines ≡ w.lines + 1 → AreTextsOf vars steps all
texts_written vars steps last w all h count same cnf lrat clauses lines =
    let v = walk w.count steps in
    let more = length_push v.lines (final_line w.count steps v) in
    let are = h.lrat.lines_are in
    let long : all.lines ≡ length (lines_of w.count steps v) = omega (arith, lines, more, are) in record {
      cnf = cnf_written vars w.count steps last (header_line vars w.count) (header_line vars w.count ++ w.cnf.items)
          all.cnf count same refl (ap (λ x. header_line vars w.count ++ x) h.cnf) cnf;
      lrat = subst (λ n. all.lrat ≡ lrat_text (lines_of n steps (walk n steps))) count
          (lines_written steps last w all.lrat h same lrat);
      clauses = clauses ∙ count;
      lines = subst (λ n. all.lines ≡ length (lines_of n steps (walk n steps))) count long;
    }

-- texts that are short enough are read, and the one is verified by the other
pub texts_read : (vars : ℕ) (steps : List Step) (all : Written) → AreTextsOf vars steps all → 0 < length steps
    → HaveRoomFor vars (clauses_of steps) → vars ≤ MAX_VARIABLE → length all.cnf ≤ MAX_INPUT
    → IsCnfText all.cnf (formula_of vars steps)
texts_read vars steps all h some room few short =
    subst (λ text. IsCnfText text (formula_of vars steps)) (sym h.cnf)
    (log_reads vars steps some room few (subst (λ text. length text ≤ MAX_INPUT) h.cnf short))

pub texts_check : (vars : ℕ) (log : LogState) (all : Written) → AreTextsOf vars log.steps all → IsLog log
    → 0 < length log.steps → HaveRoomFor vars (clauses_of log.steps) → vars ≤ MAX_VARIABLE
    → LitsRise (last_clause log.steps) → length all.cnf ≤ MAX_INPUT
    → IsChecked (formula_of vars log.steps) all.lrat (Ok Verified)
texts_check vars log all h is some room few rise short =
    subst (λ text. IsChecked (formula_of vars log.steps) text (Ok Verified)) (sym h.lrat)
    (log_checks vars log is some room few rise (subst (λ text. length text ≤ MAX_INPUT) h.cnf short))
