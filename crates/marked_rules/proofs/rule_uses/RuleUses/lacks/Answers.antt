use Rattle.marked_rules.proofs.SearchLemmas.{open_past, open_first, open_marked}
use Rattle.marked_rules.proofs.rule_uses.RuleUses.lacks.Goals as goal

pub returns-then-index-base : goal.returns-then-index-base
returns-then-index-base c = open_past _ _ _ _ c.as_slice-base.ensures.value c.if-index-base.true

pub returns-then-base-index : goal.returns-then-base-index
returns-then-base-index c = open_first _ _ _ _ c.as_slice-base.ensures.value c.if-index-base.false c.if-base-index.true

pub returns : goal.returns
returns c = open_marked _ _ _ _ _ c.as_slice-base.ensures.value c.if-index-base.false c.if-base-index.false
    c.has.ensures
