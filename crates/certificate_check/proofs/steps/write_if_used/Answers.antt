use Rattle.std.proofs.Common.{arith, ◌∙◌}
use Rattle.edit_rules.specs.Kinds.{framework_of}
use Rattle.certificate_check.proofs.RowsLemmas.{one_written}
use Rattle.certificate_check.proofs.steps.write_if_used.Goals as goal

pub returns : goal.returns
returns c =
    let writes = c.in_ok-write_side.ensures in record {
      written = one_written (framework_of c.args.framework.now) c.args.kind c.args.sets.now c.args.taken.now _
          c.args.number c.index-sets-number.result c.as_slice.result.now c.requires.from_one c.requires.within
          c.index-sets-number.is (c.as_slice.ensures.value ∙ c.in_ok-clause.ensures) c.requires.taken writes;
      settled = λ none. absurd (let here = writes.here in omega (arith, none, here));
    }
