use Rattle.std.proofs.Common.{◌≡◌, ◌≤◌, arith, drop, refl, subst}
use Rattle.std.specs.Prelude.{ℕ, count_by}
use Rattle.edit_rules.specs.Kinds.{framework_of}
use Rattle.oracle_face.specs.Logs.{is_unit}
use Rattle.core_answers.specs.declared.counts.Count.TheVariants.{Units}
use Rattle.core_answers.specs.Outcomes.{EndsSo}
use Rattle.core_answers.proofs.EndLemmas.{tail_count}
use Rattle.core_answers.proofs.ends.ends_fit.Goals as goal

pub returns : goal.returns
returns c =
    let units : c.number_of-used.result ≡ count_by is_unit (drop c.args.from c.args.log.now.steps) =
    tail_count Units c.number_of-used.result c.args.from c.steps.result.now c.args.log.now.steps c.steps.ensures
    c.number_of-used.ensures in
    let small : c.number_of-used.result ≤ c.args.budget = c.if-used-budget.false in (
      λ t. record {
        fits = c.if-not-fits.ensures.0 refl;
        served = c.in_ok-served.ensures.0 t;
        within = omega (arith, units, small);
        so = subst (λ (n : ℕ). EndsSo (framework_of c.args.framework.now) c.args.query.now c.args.most c.args.log.now
            c.args.pending.now (record { limit = c.args.budget; used = n }) c.args.outcome.now) units
            (c.in_ok-so.ensures.0 c.if-not-so.false);
      },
      λ h. c.in_ok-served.ensures.1 h.served,
    )
