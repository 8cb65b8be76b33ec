use Rattle.std.proofs.Common.{arith, sym, subst}
use Rattle.std.specs.Prelude.{Contains}
use Rattle.dung_notions.proofs.SearchLemmas.{defeats_weaker, leaves, left_at}
use Rattle.attack_index.specs.semantics.specs.Framework.{Attacks}
use Rattle.dung_notions.proofs.af_plain.AfPlain.defeat_targets.Goals as goal

pub defeat-requires-clause-attacked : goal.defeat-requires-clause-attacked
defeat-requires-clause-attacked c = (
  c.args.member,
  subst (λ xs. Contains xs c.args.member) (sym c.loop-pair.invariant.1) c.requires.member,
  leaves c.args.self.now c.args.member c.leaving-leaving.result.now c.loop-pair.pair-index
      c.leaving-leaving.ensures.attacks c.loop-pair-test.true,
)

pub returns : goal.returns
returns c = record {
  members = c.loop-pair.invariant.1;
  counts = c.loop-pair.invariant.2;
  out = defeats_weaker c.args.self.now _
      (Attacks c.args.self.now c.args.member) _ _ _ _ _ c.loop-pair.invariant.0
      (λ b att. let w = left_at c.args.self.now c.args.member b c.leaving-leaving.result.now
      c.leaving-leaving.ensures.attacks att in
      (w.0, omega (arith, w.1, c.loop-pair-test.false), w.2));
}
