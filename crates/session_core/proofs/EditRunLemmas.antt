-- A session's edits are a run of the core.
use Rattle.std.proofs.Common.{arith, ◌≡◌, ◌∙◌, ℕ, ◌+◌, ◌<◌, ◌≤◌, Result, Ok, Err, List, [], ◌∷◌, ◌++◌, length, take}
use Rattle.std.proofs.Common.{Bool, true, false, refl, sym, ap, subst}
use Rattle.std.specs.Prelude.{nat_le}
use Rattle.std.proofs.lemmas.Bool.{le-leb, lt-leb}
use Rattle.std.proofs.lemmas.List.{append-nil, length-append}
use Rattle.std.proofs.Math.Seq.{take-append_seam}
use Rattle.semantics.specs.Frameworks.{Framework}
use Rattle.edit_rules.specs.declared.edit.Edit.{Edit}
use Rattle.edit_rules.specs.declared.effect.Effect.{Effect}
use Rattle.edit_rules.specs.declared.effect.EditFault.{EditFault}
use Rattle.edit_rules.specs.Groups.{group_told}
use Rattle.edit_history.specs.declared.entry.HistoryEntry.{HistoryEntry}
use Rattle.edit_history.specs.Entries.{IsGroup, edit_count, framework_after}
use Rattle.core_machine.specs.Core.{Core}
use Rattle.core_machine.specs.Steps.{Runs, after_turn, commit, committed, entry_taken, goes, rests}
use Rattle.session_replies.specs.declared.reply.Body.{Body}
use Rattle.session_replies.specs.declared.reply.Body.TheVariants.{Done, EditRefused, Full, Answered, QueryRefused}
use Rattle.session_replies.specs.declared.reply.Body.TheVariants.{Unknown, TooMany, LogFull}
use Rattle.session_core.specs.EditRuns.{EditsAreRuns, added_by}
use Rattle.session_core.specs.Replies.{EditSays}

-- lists that are equal with one item more behind each
same_front : {X : Type 0} → (xs ys : List X) (x : X) → xs ++ x ∷ [] ≡ ys ++ x ∷ [] → xs ≡ ys
same_front xs ys x same =
    let long : length xs ≡ length ys =
    omega (arith, ap length same, length-append xs (x ∷ []), length-append ys (x ∷ [])) in
    sym (take-append_seam xs (x ∷ []))
    ∙ (ap (take (length xs)) same ∙ (ap (λ n. take n (ys ++ x ∷ [])) long ∙ take-append_seam ys (x ∷ [])))

pub with_room : (core : Core) (s : ℕ) (edits : List Edit) (told : Result (List Effect) (ℕ × EditFault))
    → edit_count core.history + length edits ≤ core.limit
    → group_told (framework_after core.opening core.history) edits ≡ told
    → committed core s edits ≡ entry_taken s edits told
with_room core s edits told room is =
    let low : nat_le (edit_count core.history + length edits) core.limit ≡ true =
    le-leb (edit_count core.history + length edits) core.limit room in
    rw (low, is) refl

without_room : (core : Core) (s : ℕ) (edits : List Edit) → core.limit < edit_count core.history + length edits
    → committed core s edits ≡ []
without_room core s edits full =
    let high : nat_le (edit_count core.history + length edits) core.limit ≡ false =
    lt-leb (edit_count core.history + length edits) core.limit full in
    rw high refl

-- what a commit adds is what the reply says
added_is : (grouped : Bool) (core : Core) (s : ℕ) (edits : List Edit) (before now : List HistoryEntry) (body : Body)
    → EditSays grouped core.limit core.opening s edits before now body → core.history ++ added_by s edits body ≡ now
    → committed core s edits ≡ added_by s edits body
added_is grouped core s edits before now (Done effects) says is =
    let found = says.found in
    let entry : HistoryEntry = record { session = s; edits = edits } in
    let same : core.history ≡ found = same_front core.history found entry (is ∙ says.added.longer) in
    with_room core s edits (Ok effects)
    (subst (λ l. edit_count l + length edits ≤ core.limit) (sym same) says.added.room)
    (subst (λ l. group_told (framework_after core.opening l) edits ≡ Ok effects) (sym same) says.added.taken)
added_is grouped core s edits before now (EditRefused told fault) says is =
    let same : now ≡ core.history = sym is ∙ append-nil core.history in
    with_room core s edits (Err (says.2.place, fault))
    (subst (λ l. edit_count l + length edits ≤ core.limit) same says.1)
    (subst (λ l. group_told (framework_after core.opening l) edits ≡ Err (says.2.place, fault)) same says.2.refused)
added_is grouped core s edits before now Full says is =
    let same : now ≡ core.history = sym is ∙ append-nil core.history in
    without_room core s edits (subst (λ l. core.limit < edit_count l + length edits) same says.1)
added_is grouped core s edits before now (Answered answer certificate) says is = absurd says
added_is grouped core s edits before now (QueryRefused fault) says is = absurd says
added_is grouped core s edits before now (Unknown count) says is = absurd says
added_is grouped core s edits before now TooMany says is = absurd says
added_is grouped core s edits before now LogFull says is = absurd says

turn_run : (core : Core) (s : ℕ) (edits : List Edit) (added : List HistoryEntry) → IsGroup edits
    → committed core s edits ≡ added
    → Runs core (commit s edits ∷ []) added (after_turn core s added)
turn_run core s edits added group is =
    subst (λ entries. Runs core (commit s edits ∷ []) entries (after_turn core s entries)) is
    (subst (λ entries. Runs core (commit s edits ∷ []) entries (after_turn core s (committed core s edits)))
    (append-nil (committed core s edits))
    (goes core (after_turn core s (committed core s edits)) (after_turn core s (committed core s edits))
    (commit s edits) [] [] (group, refl) (rests (after_turn core s (committed core s edits)))))

pub edits_run : EditsAreRuns
edits_run grouped f limit s edits before now reply core group is opening limited found =
    turn_run core s edits (added_by s edits reply.body) group
    (added_is grouped core s edits before now reply.body
    (subst (λ n. EditSays grouped n core.opening s edits before now reply.body) (sym limited)
    (subst (λ g. EditSays grouped limit g s edits before now reply.body) (sym opening) is.says)) found)
