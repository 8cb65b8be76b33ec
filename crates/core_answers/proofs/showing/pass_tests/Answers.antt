use Rattle.std.proofs.Common.{◌∙◌, sym}
use Rattle.edit_rules.specs.Kinds.{framework_of}
use Rattle.certificate_claims.specs.Verdicts.{IsVerdict}
use Rattle.core_answers.proofs.ShowLemmas.{bare, on_bare, past_from, tests_from}
use Rattle.core_answers.proofs.showing.pass_tests.Goals as goal

pub returns : goal.returns
returns c =
    let f = framework_of c.args.framework.now in
    let is : IsVerdict f c.args.query.now c.args.answer.now (bare c.args.sets.now) c.in_ok-verdict.verdict =
    on_bare f c.args.query.now c.args.answer.now (record {
      sets = c.in_ok-copies.field-0;
      refutations = c.new.result;
    }) c.args.sets.now c.in_ok-verdict.verdict c.in_ok-copies.ensures c.new.ensures c.in_ok-verdict.ensures.verdict in (
      λ t. tests_from f c.args.query.now c.args.answer.now c.args.sets.now c.in_ok-verdict.verdict is
          (sym c.is_past_tests.ensures ∙ t),
      λ tests. c.is_past_tests.ensures
          ∙ past_from f c.args.query.now c.args.answer.now c.args.sets.now c.in_ok-verdict.verdict is tests,
    )
