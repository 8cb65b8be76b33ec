use Rattle.std.proofs.Common.{◌∙◌, List, subst}
use Rattle.std.proofs.lemmas.List.{get_or_default}
use Rattle.plain_lits.specs.HintCheck.{IsFalseHint, IsOtherHint, IsUnitHint}
use Rattle.meaning_atoms.specs.declared.atom.AtomLit.{AtomLit}
use Rattle.meaning_atoms.specs.Literals.{negated}
use Rattle.oracle_face.specs.Logs.{clauses_of}
use Rattle.core_logs.proofs.HintTests.{along_false, along_other, along_unit}
use Rattle.core_logs.proofs.checking.propagates.Goals as goal

pub loop-at-preserved : goal.loop-at-preserved
loop-at-preserved c =
    let read = c.index-hints-at.is
    ∙ get_or_default c.args.hints.now c.loop-at.at c.index-hints-at.result 0 c.loop-at-test.true in
    let clauses = clauses_of c.args.steps.now in
    along_unit clauses c.loop-at.truths.items c.push.new.self.items c.args.truths.now.items c.args.hints.now
    c.loop-at.at c.in-Unit.literal c.loop-at-test.true
    (subst (λ n. IsUnitHint negated clauses c.loop-at.truths.items n c.in-Unit.literal) read
    (subst (λ (truths : List AtomLit). IsUnitHint negated clauses truths c.index-hints-at.result c.in-Unit.literal)
    c.as_slice.ensures.value c.in-Unit.ensures))
    c.in_ok-push-in-Unit.ensures.items c.loop-at.invariant

pub returns-in-Falsified : goal.returns-in-Falsified
returns-in-Falsified c =
    let read = c.index-hints-at.is
    ∙ get_or_default c.args.hints.now c.loop-at.at c.index-hints-at.result 0 c.loop-at-test.true in
    let clauses = clauses_of c.args.steps.now in
    along_false clauses c.loop-at.truths.items c.args.truths.now.items c.args.hints.now c.loop-at.at
    c.loop-at-test.true
    (subst (λ n. IsFalseHint negated clauses c.loop-at.truths.items n) read
    (subst (λ (truths : List AtomLit). IsFalseHint negated clauses truths c.index-hints-at.result)
    c.as_slice.ensures.value c.in-Falsified.ensures))
    c.loop-at.invariant

pub returns-in-Other : goal.returns-in-Other
returns-in-Other c =
    let read = c.index-hints-at.is
    ∙ get_or_default c.args.hints.now c.loop-at.at c.index-hints-at.result 0 c.loop-at-test.true in
    let clauses = clauses_of c.args.steps.now in
    along_other clauses c.loop-at.truths.items c.args.truths.now.items c.args.hints.now c.loop-at.at
    c.loop-at-test.true
    (subst (λ n. IsOtherHint negated clauses c.loop-at.truths.items n) read
    (subst (λ (truths : List AtomLit). IsOtherHint negated clauses truths c.index-hints-at.result)
    c.as_slice.ensures.value c.in-Other.ensures))
    c.loop-at.invariant
