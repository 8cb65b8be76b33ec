-- What edits tell that are made one after another, and how a group is added to them.
use Rattle.std.proofs.Common.{arith, ◌≡◌, ◌∙◌, ℕ, zero, suc, ◌+◌, List, [], ◌∷◌, ◌++◌, take, drop, length}
use Rattle.std.proofs.Common.{Ok, refl, sym, ap, subst}
use Rattle.std.specs.Prelude.{◌<◌, ◌≤◌, ◌-◌}
use Rattle.std.proofs.lemmas.List.{append-nil, append_assoc, length-append, length-map, map-append}
use Rattle.std.proofs.lemmas.List.Elements.{All-from_recursion}
use Rattle.turn_lock.specs.Turns.{Continues}
use Rattle.semantics.specs.Frameworks.{Framework}
use Rattle.edit_rules.specs.declared.edit.Edit.{Edit}
use Rattle.edit_rules.specs.declared.effect.Effect.{Effect}
use Rattle.edit_rules.specs.Groups.{group_told}
use Rattle.edit_rules.specs.Replay.{replay}
use Rattle.edit_rules.proofs.GroupLemmas.{both_taken, group_edits, replay_both, taken_behind}
use Rattle.edit_groups.specs.Taking.{IsGroupTaken}
use Rattle.edit_history.specs.declared.entry.Change.{Change}
use Rattle.edit_history.specs.declared.entry.HistoryEntry.{HistoryEntry}
use Rattle.edit_history.specs.Entries.{AreDone, IsAdded, edit_count, edits_in, edits_of, effects_in, entries_in}
use Rattle.edit_history.specs.Entries.{entry_of, framework_after, session_of}

-- the edits of the entries of changes are those of their effects
pub entries_edits : (changes : List Change) → edits_of (entries_in changes) ≡ edits_in (effects_in changes)
entries_edits [] = refl
entries_edits (c ∷ changes) =
    ap (λ l. edits_in c.effects ++ l) (entries_edits changes)
    ∙ sym (map-append (λ (e : Effect). e.edit) c.effects (effects_in changes))

-- the edits of entries, and those of one more
pub edits_more : (entries : List HistoryEntry) (entry : HistoryEntry)
    → edits_of (entries ++ entry ∷ []) ≡ edits_of entries ++ entry.edits
edits_more [] entry = append-nil entry.edits
edits_more (e ∷ entries) entry =
    ap (λ l. e.edits ++ l) (edits_more entries entry) ∙ sym (append_assoc e.edits (edits_of entries) entry.edits)

effects_more : (changes : List Change) (change : Change)
    → effects_in (changes ++ change ∷ []) ≡ effects_in changes ++ change.effects
effects_more [] change = append-nil change.effects
effects_more (c ∷ changes) change =
    ap (λ l. c.effects ++ l) (effects_more changes change)
    ∙ sym (append_assoc c.effects (effects_in changes) change.effects)

-- what a commit that is taken leaves
pub record IsLonger (limit : ℕ) (f : Framework) (session : ℕ) (edits : List Edit) (changes : List Change)
    (after : Framework) (effects : List Effect) : Type 0 where
  pub counted : edit_count (entries_in changes) + length edits
      ≡ edit_count (entries_in (changes ++ record { session = session; effects = effects } ∷ []))
  pub done : AreDone f (changes ++ record { session = session; effects = effects } ∷ [])
  pub replayed : after
      ≡ framework_after f (entries_in (changes ++ record { session = session; effects = effects } ∷ []))
  pub added : IsAdded limit f session edits (entries_in changes)
      (entries_in (changes ++ record { session = session; effects = effects } ∷ [])) effects

-- a commit that is taken
pub committed : (limit : ℕ) (f before after : Framework) (changes : List Change) (session : ℕ) (edits : List Edit)
    (effects : List Effect) → edit_count (entries_in changes) + length edits ≤ limit → AreDone f changes
    → before ≡ framework_after f (entries_in changes) → IsGroupTaken before edits effects after
    → IsLonger limit f session edits changes after effects
committed limit f before after changes session edits effects room done replayed taken =
    let change : Change = record { session = session; effects = effects } in
    let same : edits_in effects ≡ edits = group_edits before edits effects taken.told in
    let at : before ≡ replay f (edits_in (effects_in changes)) =
    replayed ∙ ap (λ l. replay f l) (entries_edits changes) in
    let told : group_told (replay f (edits_in (effects_in changes))) edits ≡ Ok effects =
    ap (λ g. group_told g edits) (sym at) ∙ taken.told in
    let all : edits_in (effects_in (changes ++ change ∷ [])) ≡ edits_in (effects_in changes) ++ edits =
    ap (λ l. edits_in l) (effects_more changes change)
    ∙ map-append (λ (e : Effect). e.edit) (effects_in changes) effects
    ∙ ap (λ l. edits_in (effects_in changes) ++ l) same in
    let whole : edits_of (entries_in (changes ++ change ∷ [])) ≡ edits_of (entries_in changes) ++ edits =
    entries_edits (changes ++ change ∷ []) ∙ all ∙ ap (λ l. l ++ edits) (sym (entries_edits changes)) in
    record {
      counted = sym (ap length whole ∙ length-append (edits_of (entries_in changes)) edits);
      done = ap (λ l. group_told f l) all
          ∙ both_taken f (edits_in (effects_in changes)) edits (effects_in changes) effects done told
          ∙ ap (λ l. Ok l) (sym (effects_more changes change));
      replayed = taken.behind ∙ ap (λ g. replay g edits) replayed
          ∙ sym (replay_both f (edits_of (entries_in changes)) edits)
          ∙ ap (λ l. replay f l) (sym whole);
      added = record {
        room = room;
        taken = ap (λ g. group_told g edits) (sym replayed) ∙ taken.told;
        longer = map-append entry_of changes (change ∷ [])
            ∙ ap (λ l. entries_in changes ++ record { session = session; edits = l } ∷ []) same;
      };
    }

-- what is done is done from each entry on
pub done_from : (f : Framework) (n : ℕ) (changes : List Change) → AreDone f changes
    → AreDone (framework_after f (take n (entries_in changes))) (drop n changes)
done_from f zero changes done = done
done_from f (suc n) [] done = refl
done_from f (suc n) (c ∷ changes) done =
    let all : edits_in (effects_in (c ∷ changes)) ≡ edits_in c.effects ++ edits_in (effects_in changes) =
    map-append (λ (e : Effect). e.edit) c.effects (effects_in changes) in
    let rest : AreDone (replay f (edits_in c.effects)) changes =
    taken_behind f (edits_in c.effects) (edits_in (effects_in changes)) c.effects (effects_in changes)
    (length-map c.effects (λ (e : Effect). e.edit)) (ap (λ l. group_told f l) (sym all) ∙ done) in
    subst (λ g. AreDone g (drop n changes))
    (sym (replay_both f (edits_in c.effects) (edits_of (take n (entries_in changes)))))
    (done_from (replay f (edits_in c.effects)) n changes rest)

-- an entry of the session's own is what the history gains
pub continues : (limit : ℕ) (f : Framework) (session : ℕ) (edits : List Edit) (before after : List HistoryEntry)
    (effects : List Effect)
    → IsAdded limit f session edits before after effects → Continues session_of session before after
continues limit f session edits before after effects is =
    let entry : HistoryEntry = record { session = session; edits = edits } in
    record {
      added = entry ∷ [];
      longer = is.longer;
      each = All-from_recursion (λ e. session_of e ≡ session) (entry ∷ []) (refl, tt);
    }

-- one effect of one edit
pub one_effect : (f : Framework) (edit : Edit) (effects : List Effect) → group_told f (edit ∷ []) ≡ Ok effects
    → length effects ≡ 1
one_effect f edit effects is =
    sym (length-map effects (λ (e : Effect). e.edit)) ∙ ap length (group_edits f (edit ∷ []) effects is)

-- what the two numbers of a journal say of its room
pub room_for : (limit count : ℕ) (entries : List HistoryEntry) (edits : List Edit) → count ≡ edit_count entries
    → edit_count entries ≤ limit → length edits ≤ limit - count → edit_count entries + length edits ≤ limit
room_for limit count entries edits counted within fits = omega (arith, counted)

pub no_room_for : (limit count : ℕ) (entries : List HistoryEntry) (edits : List Edit) → count ≡ edit_count entries
    → edit_count entries ≤ limit → limit - count < length edits → limit < edit_count entries + length edits
no_room_for limit count entries edits counted within more = omega (arith, counted)

pub front_is : (changes : List Change) → length changes ≡ length (entries_in changes)
front_is changes = sym (length-map changes entry_of)
