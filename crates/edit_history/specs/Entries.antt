-- A history of groups of edits over a framework, and what a commit says of it.
use Rattle.std.specs.Prelude.{◌≡◌, ℕ, ◌+◌, ◌<◌, ◌≤◌, List, [], ◌∷◌, ◌++◌, length, map, Ok, Err}
use Rattle.std.specs.List.{flat_map}
use Rattle.semantics.specs.Frameworks.{Framework}
use Rattle.edit_rules.specs.declared.edit.Edit.{Edit}
use Rattle.edit_rules.specs.declared.edit.TheConstants.{MAX_GROUP}
use Rattle.edit_rules.specs.declared.effect.Effect.{Effect}
use Rattle.edit_rules.specs.Groups.{group_told}
use Rattle.edit_rules.specs.Replay.{replay}
use Rattle.edit_history.specs.declared.entry.HistoryEntry.{HistoryEntry}
use Rattle.edit_history.specs.declared.entry.Change.{Change}
use Rattle.edit_history.specs.declared.fault.CommitFault.{CommitFault}
use Rattle.edit_history.specs.declared.fault.CommitFault.TheVariants.{HistoryFull, Edit as Refused, Memory}

-- the edits can be a group: there is one, and there aren't too many
abbrev pub IsGroup : List Edit → Type 0
IsGroup edits = (0 < length edits) × (length edits ≤ MAX_GROUP)

-- the session whose entry it is
abbrev pub session_of : HistoryEntry → ℕ
session_of e = e.session

-- the edits of the entries, one after another
abbrev pub edits_of : List HistoryEntry → List Edit
edits_of entries = flat_map (λ (e : HistoryEntry). e.edits) entries

-- how many they are
abbrev pub edit_count : List HistoryEntry → ℕ
edit_count entries = length (edits_of entries)

-- the framework after the groups of the entries, one by one; a group acts by its edits, one by one
abbrev pub framework_after : Framework → List HistoryEntry → Framework
framework_after f entries = replay f (edits_of entries)

-- the edits of effects
abbrev pub edits_in : List Effect → List Edit
edits_in effects = map (λ (e : Effect). e.edit) effects

-- the entry of a change
abbrev pub entry_of : Change → HistoryEntry
entry_of c = record { session = c.session; edits = edits_in c.effects }

abbrev pub entries_in : List Change → List HistoryEntry
entries_in changes = map entry_of changes

-- the effects of changes, one after another
abbrev pub effects_in : List Change → List Effect
effects_in changes = flat_map (λ (c : Change). c.effects) changes

-- each edit is taken on the framework after those before it, with the effect that stands beside it
abbrev pub AreDone : Framework → List Change → Type 0
AreDone f changes = group_told f (edits_in (effects_in changes)) ≡ Ok (effects_in changes)

-- there was room, the framework after the entries takes the group with these effects, and the history is longer by it
pub record IsAdded (limit : ℕ) (f : Framework) (session : ℕ) (edits : List Edit) (before after : List HistoryEntry)
    (effects : List Effect) : Type 0 where
  pub room : edit_count before + length edits ≤ limit
  pub taken : group_told (framework_after f before) edits ≡ Ok effects
  pub longer : after ≡ before ++ record { session = session; edits = edits } ∷ []

-- what is so where a commit adds nothing to these entries
abbrev pub FaultSays : ℕ → Framework → List HistoryEntry → List Edit → CommitFault → Type 0
FaultSays limit f entries edits (HistoryFull front) =
    (front ≡ length entries) × (limit < edit_count entries + length edits)
FaultSays limit f entries edits (Refused place fault front) =
    (front ≡ length entries) × (edit_count entries + length edits ≤ limit)
    × (group_told (framework_after f entries) edits ≡ Err (place, fault))
FaultSays limit f entries edits Memory = edit_count entries + length edits ≤ limit
