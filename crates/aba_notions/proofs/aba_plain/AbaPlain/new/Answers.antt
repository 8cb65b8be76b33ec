use Rattle.std.proofs.Common.{arith, subst}
use Rattle.std.specs.List.Sorted.{IsStrictlyIncreasing}
use Rattle.aba_notions.proofs.FormLemmas.{formed, few_rules}
use Rattle.aba_notions.proofs.aba_plain.AbaPlain.new.Goals as goal

pub new-requires-clause-below : goal.new-requires-clause-below
new-requires-clause-below c = λ p h.
    let w = c.requires.contraries_are p.0 p.1 h in
    (omega (arith, (c.requires.assumptions_are p.0 w.0).high), omega (arith, w.1.high))

pub new-requires-2-clause-small : goal.new-requires-2-clause-small
new-requires-2-clause-small c = few_rules c.args.atoms _ c.args.assumptions c.args.contraries.items c.args.rules
    c.args.next c.requires c.requires.next_small

pub invariant_of-result : goal.invariant_of-result
invariant_of-result c = record {
  form = formed c.args.atoms c.args.assumptions c.args.contraries.items c.in_ok-contraries.contraries.pairs c.args.rules
      c.args.next c.in_ok-rules.rules.numbers.items c.in_ok-rules.rules.heads.items c.in_ok-rules.rules.bodies.pairs
      (subst IsStrictlyIncreasing c.assumptions.view_is c.assumptions.invariant) c.requires
      c.in_ok-contraries.ensures.rise c.in_ok-contraries.ensures.same
      c.in_ok-rules.ensures.table.bodies_rise c.in_ok-rules.ensures.rules;
  table = c.in_ok-rules.ensures.table;
}

pub returns-clause-form : goal.returns-clause-form
returns-clause-form c =
    formed c.args.atoms c.args.assumptions c.args.contraries.items c.in_ok-contraries.contraries.pairs c.args.rules
    c.args.next c.in_ok-rules.rules.numbers.items c.in_ok-rules.rules.heads.items c.in_ok-rules.rules.bodies.pairs
    (subst IsStrictlyIncreasing c.assumptions.view_is c.assumptions.invariant) c.requires
    c.in_ok-contraries.ensures.rise c.in_ok-contraries.ensures.same
    c.in_ok-rules.ensures.table.bodies_rise c.in_ok-rules.ensures.rules
