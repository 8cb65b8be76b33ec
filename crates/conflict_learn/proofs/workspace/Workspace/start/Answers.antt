use Rattle.std.proofs.Common.{List, ℕ, ◌∷◌, ◌++◌, [], ap, ◌∙◌}
use Rattle.conflict_learn.specs.Analyses.{analysis_of}
use Rattle.conflict_learn.proofs.Walking.{at_begun, both_ok}
use Rattle.conflict_learn.proofs.workspace.Workspace.start.Goals as goal

pub returns-clause-at : goal.returns-clause-at
returns-clause-at c =
    both_ok c.meet_clause.result _ _ _ c.meet_clause.ensures.counted c.meet_clause.ensures.met
    (λ counted met. (at_begun c.args.search.now c.args.border _ (analysis_of c.meet_clause.new.self)
    c.args.conflict _ c.vars.ensures.form c.requires.conflict c.vars.ensures.vars c.in_ok-begin.ensures.clause
    c.in_ok-begin.ensures.clear (c.in_ok-push.ensures.items
    ∙ ap (λ (xs : List ℕ). xs ++ c.args.conflict ∷ []) c.in_ok-begin.ensures.hints) counted met).0)

pub returns-clause-met : goal.returns-clause-met
returns-clause-met c =
    both_ok c.meet_clause.result _ _ _ c.meet_clause.ensures.counted c.meet_clause.ensures.met
    (λ counted met. (at_begun c.args.search.now c.args.border _ (analysis_of c.meet_clause.new.self)
    c.args.conflict _ c.vars.ensures.form c.requires.conflict c.vars.ensures.vars c.in_ok-begin.ensures.clause
    c.in_ok-begin.ensures.clear (c.in_ok-push.ensures.items
    ∙ ap (λ (xs : List ℕ). xs ++ c.args.conflict ∷ []) c.in_ok-begin.ensures.hints) counted met).1)

pub returns-clause-hints : goal.returns-clause-hints
returns-clause-hints c =
    both_ok c.meet_clause.result _ _ _ c.meet_clause.ensures.counted c.meet_clause.ensures.met
    (λ counted met. (at_begun c.args.search.now c.args.border _ (analysis_of c.meet_clause.new.self)
    c.args.conflict _ c.vars.ensures.form c.requires.conflict c.vars.ensures.vars c.in_ok-begin.ensures.clause
    c.in_ok-begin.ensures.clear (c.in_ok-push.ensures.items
    ∙ ap (λ (xs : List ℕ). xs ++ c.args.conflict ∷ []) c.in_ok-begin.ensures.hints) counted met).2)
