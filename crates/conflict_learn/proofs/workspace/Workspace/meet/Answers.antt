use Rattle.std.proofs.Common.{arith, ap, ◌∙◌}
use Rattle.std.specs.Prelude.{Some}
use Rattle.plain_lits.specs.declared.lit.Lit.{Lit}
use Rattle.plain_lits.specs.Literals.{negation}
use Rattle.conflict_learn.specs.Analyses.{analysis_of}
use Rattle.conflict_learn.proofs.Literally.{stands_got}
use Rattle.conflict_learn.proofs.Meeting.{marked_meets, marked_read}
use Rattle.conflict_learn.proofs.workspace.Workspace.meet.Goals as goal

pub returns-then-index-clause-met : goal.returns-then-index-clause-met
returns-then-index-clause-met c =
    let i = c.position-index.result in
    let at = stands_got c.args.search.now.lits i (negation c.args.lit)
    (c.position-index.ensures.position ∙ ap (λ (l : Lit). Some l) c.not.ensures) in
    let within = at.within in
    let long = c.requires.counted.long in
    marked_meets c.args.search.now c.args.border (analysis_of c.args.self.now) c.args.lit i c.requires.counted at
    (marked_read c.args.self.now.marks.items i c.index.result.now _ (omega arith) c.index.ensures c.if-index.true)

pub mark-requires-clause-stands : goal.mark-requires-clause-stands
mark-requires-clause-stands c =
    stands_got c.args.search.now.lits c.position-index.result (negation c.args.lit)
    (c.position-index.ensures.position ∙ ap (λ (l : Lit). Some l) c.not.ensures)
