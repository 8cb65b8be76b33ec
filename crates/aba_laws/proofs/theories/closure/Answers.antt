use Rattle.std.proofs.Common.{map}
use Rattle.aba_laws.specs.Deciding.{rule_of}
use Rattle.aba_laws.proofs.DerivationLemmas.{filling_first}
use Rattle.aba_laws.proofs.FillingLemmas.{filled_more, filled_all}
use Rattle.aba_laws.proofs.theories.closure.Goals as goal

pub loop-index-init : goal.loop-index-init
loop-index-init c =
    rw (
      c.in_ok-left.ensures.items,
      c.from_vec-derived.ensures,
      c.in_ok-to_vec.ensures.items_if_clones_equal (λ y e h. h),
    )
    (filling_first (map rule_of c.args.rules.now) c.args.set.now)

pub loop-index-preserved : goal.loop-index-preserved
loop-index-preserved c =
    filled_more (map rule_of c.args.rules.now) c.args.set.now c.loop-index.derived c.loop-index.left.items
    c.in-Some.index c.remove-rule.result c.push.new.self c.remove-rule.new.self.items c.loop-index.invariant
    (rw c.deref.ensures.value at c.in-Some.ensures.some)
    (rw (c.deref.ensures.value, c.as_slice.ensures) at c.in-Some.ensures.ready)
    c.remove-rule.ensures.value c.remove-rule.ensures.by_index.2 c.in_ok-push.ensures.ok

pub returns : goal.returns
returns c =
    filled_all (map rule_of c.args.rules.now) c.args.set.now c.loop-index.derived c.loop-index.left.items
    c.loop-index.invariant (rw (c.deref.ensures.value, c.as_slice.ensures) at c.in_default.ensures.none)
