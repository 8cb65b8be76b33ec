use Rattle.std.proofs.Common.{◌<◌, false, length, get_or, arith}
use Rattle.plain_lits.specs.declared.lit.Lit.{Lit}
use Rattle.conflict_learn.specs.Analyses.{analysis_of}
use Rattle.conflict_learn.proofs.Walking.{open_some, closed_counted, reason_at, others_false, at_expanded, both_ok}
use Rattle.conflict_learn.proofs.workspace.Workspace.expand.Goals as goal

abbrev none : Lit
none = record { var = 0; positive = false }

pub overflow_sub-self : goal.overflow_sub-self
overflow_sub-self c =
    open_some c.args.search.now c.args.border (analysis_of c.args.self.now) c.args.index c.requires.at.counted
    c.requires.is_open

pub meet_clause-requires-clause-counted : goal.meet_clause-requires-clause-counted
meet_clause-requires-clause-counted c =
    closed_counted c.args.search.now c.args.border (analysis_of c.args.self.now) c.args.index c.push.new.self.items
    c.requires.at.counted c.requires.is_open

pub meet_clause-requires-clause-falsified : goal.meet_clause-requires-clause-falsified
meet_clause-requires-clause-falsified c =
    let s = c.args.search.now in
    let within = c.requires.at.within in
    let lt : c.args.index < length s.lits = omega arith in
    let r = reason_at s c.args.index c.reason-id.result c.lits.result.now none c.lits.ensures.form lt
    c.lits.ensures.lits c.reason-id.ensures.reason c.requires.reason in
    others_false s c.args.index c.reason-id.result (get_or c.lits.result.now c.args.index none) r.0 r.1

pub returns-clause-at : goal.returns-clause-at
returns-clause-at c =
    let s = c.args.search.now in
    let within = c.requires.at.within in
    let lt : c.args.index < length s.lits = omega arith in
    let r = reason_at s c.args.index c.reason-id.result c.lits.result.now none c.lits.ensures.form lt
    c.lits.ensures.lits c.reason-id.ensures.reason c.requires.reason in
    both_ok c.meet_clause.result _ _ _ c.meet_clause.ensures.counted c.meet_clause.ensures.met
    (λ counted met. at_expanded s c.args.border (analysis_of c.args.self.now) (analysis_of c.meet_clause.new.self)
    c.args.index c.reason-id.result (get_or c.lits.result.now c.args.index none) c.push.new.self.items
    c.lits.ensures.form c.requires.at c.requires.is_open r.1 r.0 c.in_ok-push.ensures.items counted met)
