-- Each step that a session took from elsewhere is of an entry that the pool gave.
use Rattle.std.proofs.Common.{arith, ◌≡◌, ⊎_elim, ℕ, ◌+◌, ◌<◌, ◌≤◌, List, [], ◌∷◌, ◌++◌, None, Some, false, length, map}
use Rattle.std.proofs.Common.{refl, sym, ap, subst, ◌∙◌}
use Rattle.std.specs.Prelude.{Contains, slice_index_or}
use Rattle.std.proofs.lemmas.Bool.{cases_lt}
use Rattle.std.proofs.lemmas.List.{get_or_append_left, get_or_push, length_push}
use Rattle.std.proofs.lemmas.List.Elements.{Contains-append_left, Contains-push}
use Rattle.semantics.specs.Frameworks.{Framework}
use Rattle.meaning_atoms.specs.declared.axiom.AxiomName.{AxiomName}
use Rattle.edit_rules.specs.declared.edit.Edit.{Edit}
use Rattle.edit_history.specs.declared.entry.HistoryEntry.{HistoryEntry}
use Rattle.edit_history.specs.Entries.{framework_after}
use Rattle.oracle_face.specs.declared.entry.Entry.{Entry}
use Rattle.oracle_face.specs.Logs.{IsSameClause, OracleLog, LogStep, by_axiom, by_side, no_step}
use Rattle.clause_pool.specs.Pools.{entry_of}
use Rattle.session_log.specs.Imports.{TakesEntry}
use Rattle.session_log.specs.OwnSteps.{OwnStep, OwnSteps, WasGiven, keeps_side, learns_axiom, learns_clause, nothing}
use Rattle.session_log.specs.OwnSteps.{one_more, takes_entry}
use Rattle.session_log.specs.Steps.{derived_step, own_step}
use Rattle.script_text.specs.declared.script.ScriptCommand.{ScriptCommand}
use Rattle.script_text.specs.declared.script.ScriptCommand.TheVariants.{Edit as change_by, Ask}
use Rattle.script_text.specs.declared.script.ScriptLine.{ScriptLine}
use Rattle.session_core.specs.Following.{AddsNeededAfter}
use Rattle.session_core.specs.declared.kept.KeptAnswer.{KeptAnswer}
use Rattle.session_replies.specs.declared.reply.Reply.{Reply}
use Rattle.hinted_log.specs.declared.log.TheConstants.{MAX_STEPS}
use Rattle.bench_runs.specs.Shared.{ImportsAreGiven, IsGivenStep, IsOfGiven}
use Rattle.bench_runs.specs.Walks.{DoesCommand, HasWalked, Stand, Walks, at_start}
use Rattle.bench_runs.proofs.TakenLemmas.{mapped}

-- ---- one step

-- what holds of each step holds of each where one more comes of which it holds
each_more : (P : LogStep → Type 0) (a b : OracleLog) (step : LogStep) → b.steps ≡ a.steps ++ step ∷ [] → P step
    → ((k : ℕ) → k < length a.steps → P (slice_index_or a.steps k no_step)) → (k : ℕ) → k < length b.steps
    → P (slice_index_or b.steps k no_step)
each_more P a b step is one each k high =
    ⊎_elim
    (λ (early : k < length a.steps).
    let at : slice_index_or b.steps k no_step ≡ slice_index_or a.steps k no_step =
    ap (λ xs. slice_index_or xs k no_step) is ∙ get_or_append_left a.steps (step ∷ []) no_step k early in
    subst P (sym at) (each k early))
    (λ (late : length a.steps ≤ k).
    let here : length a.steps ≡ k = omega (arith, high, late, ap length is, length_push a.steps step) in
    let at : slice_index_or b.steps k no_step ≡ step =
    ap (λ xs. slice_index_or xs k no_step) is ∙ get_or_push a.steps step no_step k here in
    subst P (sym at) one)
    (cases_lt k (length a.steps))

own_given : (answers : List KeptAnswer) (step : LogStep) → step.imported ≡ None → IsGivenStep answers step
own_given answers step own name is = let none : None ≡ Some name = sym own ∙ is in absurd (cc)

-- a step of an entry that was given for a query
taken_given : (own : ℕ) (answers : List KeptAnswer) (kept : KeptAnswer) (entry : Entry) (a b : OracleLog)
    → Contains answers kept → WasGiven (map entry_of kept.tokens) entry → (takes : TakesEntry own entry a b)
    → IsGivenStep answers (derived_step takes.clause takes.hints (Some entry.name) false)
taken_given own answers kept entry a b query was takes name is =
    let token = mapped entry_of kept.tokens entry was.there in
    let same : entry.name ≡ name = cc in
    record {
      kept = kept;
      query = query;
      token = token.0;
      given = token.1;
      named = ap (λ (e : Entry). e.name) token.2 ∙ same;
      same = subst (IsSameClause takes.clause) (sym (ap (λ (e : Entry). e.clause) token.2)) takes.same;
    }

-- ---- all steps

module _ (f : Framework) (own : ℕ) (answers : List KeptAnswer) (kept : KeptAnswer) (query : Contains answers kept) where
  step_given : (a b : OracleLog) → OwnStep f own (map entry_of kept.tokens) a b → ImportsAreGiven answers a
      → ImportsAreGiven answers b
  step_given a b (learns_axiom name clause learns) given =
      let step = own_step clause (by_axiom name) in
      each_more (IsGivenStep answers) a b step learns.takes.gains.steps (own_given answers step refl) given
  step_given a b (learns_clause clause hints closing learns) given =
      let step = derived_step clause hints None closing in
      each_more (IsGivenStep answers) a b step learns.derives.gains.steps (own_given answers step refl) given
  step_given a b (keeps_side literals set clause takes) given =
      let step = own_step clause (by_side (length a.sides + 1)) in
      each_more (IsGivenStep answers) a b step takes.gains.steps (own_given answers step refl) given
  step_given a b (takes_entry entry was may takes) given =
      each_more (IsGivenStep answers) a b (derived_step takes.clause takes.hints (Some entry.name) false)
      takes.gains.steps (taken_given own answers kept entry a b query was takes) given

  steps_given : (a b : OracleLog) → OwnSteps f own (map entry_of kept.tokens) a b → ImportsAreGiven answers a
      → ImportsAreGiven answers b
  steps_given a b (nothing _) given = given
  steps_given a b (one_more _ mid _ before last) given = step_given mid b last (steps_given a mid before given)

-- axioms that are needed, one after the other
needed_given : (answers : List KeptAnswer) (f : Framework) (edits : List Edit) (names : List AxiomName)
    (a b : OracleLog) → AddsNeededAfter f edits names a b → ImportsAreGiven answers a → ImportsAreGiven answers b
needed_given answers f edits [] a b adds given = subst (ImportsAreGiven answers) (sym adds) given
needed_given answers f edits (name ∷ names) a b adds given =
    let takes = adds.1.takes in
    let step = own_step takes.clause (by_axiom name) in
    needed_given answers f edits names adds.0 b adds.2
    (each_more (IsGivenStep answers) a adds.0 step takes.takes.gains.steps (own_given answers step refl) given)

-- what was given is so where more is kept
given_more : (answers more : List KeptAnswer) (log : OracleLog) → ImportsAreGiven answers log
    → ImportsAreGiven (answers ++ more) log
given_more answers more log given k high name imported =
    let is = given k high name imported in
    record {
      kept = is.kept;
      query = Contains-append_left answers more is.kept is.query;
      token = is.token;
      given = is.given;
      named = is.named;
      same = is.same;
    }

-- ---- all lines

line_given : (f : Framework) (limit budget s : ℕ) (command : ScriptCommand) (old new : Stand) (reply : Reply)
    → DoesCommand f limit budget s command old reply new → ImportsAreGiven old.answers old.log
    → ImportsAreGiven new.answers new.log
line_given f limit budget s (change_by edits grouped) old new reply does given =
    subst (ImportsAreGiven new.answers) (sym does.log)
    (subst (λ answers. ImportsAreGiven answers old.log) (sym does.answers) given)
line_given f limit budget s (Ask asked) old new reply does given =
    let answers = old.answers ++ does.kept ∷ [] in
    subst (λ answers. ImportsAreGiven answers new.log) (sym does.answers)
    (steps_given (framework_after f new.seen) s answers does.kept (Contains-push old.answers does.kept) does.before
    new.log does.steps.goes_on.steps
    (given_more old.answers (does.kept ∷ []) does.before
    (needed_given old.answers _ _ does.catches_up.names old.log does.before does.catches_up.adds given)))

lines_given : (f : Framework) (limit budget s : ℕ) (lines : List ScriptLine) (replies : List Reply) (old new : Stand)
    → Walks f limit budget s old lines replies new → ImportsAreGiven old.answers old.log
    → ImportsAreGiven new.answers new.log
lines_given f limit budget s [] [] old new h given =
    subst (λ (end : Stand). ImportsAreGiven end.answers end.log) (sym h) given
lines_given f limit budget s [] (reply ∷ replies) old new h given = absurd h
lines_given f limit budget s (line ∷ lines) [] old new h given = absurd h
lines_given f limit budget s (line ∷ lines) (reply ∷ replies) old new h given =
    lines_given f limit budget s lines replies h.0 new h.2
    (line_given f limit budget s line.command old h.0 reply h.1 given)

pub imports_given : (f : Framework) (limit budget s : ℕ) (lines : List ScriptLine) (history : List HistoryEntry)
    (log : OracleLog) (answers : List KeptAnswer) (replies : List Reply)
    → HasWalked f limit budget s lines history log answers replies → ImportsAreGiven answers log
imports_given f limit budget s lines history log answers replies h =
    subst (ImportsAreGiven answers) (sym h.log_is)
    (subst (λ kept. ImportsAreGiven kept h.end.log) (sym h.answers_are)
    (lines_given f limit budget s lines replies (at_start MAX_STEPS) h.end h.walks
    (λ k low. absurd (omega (arith, low)))))
