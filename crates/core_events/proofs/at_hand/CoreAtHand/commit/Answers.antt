use Rattle.std.proofs.Common.{[], ◌∷◌, ℕ, List, ap, refl, sym, ◌∙◌}
use Rattle.std.specs.Prelude.{if◌then◌else◌}
use Rattle.std.proofs.lemmas.Bool.{false≢true}
use Rattle.edit_rules.specs.declared.edit.Edit.{Edit}
use Rattle.edit_history.specs.declared.entry.HistoryEntry.{HistoryEntry}
use Rattle.core_events.specs.AtHand.{core_of}
use Rattle.core_events.proofs.TurnLemmas.{commit_comes}
use Rattle.core_events.proofs.at_hand.CoreAtHand.commit.Goals as goal

abbrev entry : ℕ → List Edit → HistoryEntry
entry s edits = record { session = s; edits = edits }

pub returns-then-not-is_group : goal.returns-then-not-is_group
returns-then-not-is_group c =
    (refl, λ next step. false≢true (sym c.if-not-is_group.true ∙ c.is_group.ensures.1 step.0))

pub returns-then-not-branch : goal.returns-then-not-branch
returns-then-not-branch c =
    commit_comes (core_of c.args.self.now) (core_of c.refresh.new.self) c.args.session c.args.edits.now []
    c.refresh.result (c.is_group.ensures.0 c.if-not-is_group.false)
    (c.in_ok-takes.ensures
    ∙ ap (λ b. if b then entry c.args.session c.args.edits.now ∷ [] else []) c.if-not-branch.true) c.refresh.ensures

pub returns : goal.returns
returns c =
    commit_comes (core_of c.args.self.now) (core_of c.append.new.self) c.args.session c.args.edits.now
    (entry c.args.session c.in_ok-taken.taken ∷ []) c.append.result
    (c.is_group.ensures.0 c.if-not-is_group.false)
    (c.in_ok-takes.ensures
    ∙ (ap (λ b. if b then entry c.args.session c.args.edits.now ∷ [] else []) c.if-not-branch.false
    ∙ ap (λ edits. entry c.args.session edits ∷ []) (sym c.in_ok-taken.ensures))) c.append.ensures
