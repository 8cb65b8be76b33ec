use Rattle.std.proofs.Common.{refl, sym, ◌∙◌}
use Rattle.std.proofs.lemmas.Bool.{false≢true}
use Rattle.semantics.specs.Rules.{given}
use Rattle.marked_rules.proofs.TestLemmas.{derives_by}
use Rattle.marked_rules.proofs.assumptions.derives.Goals as goal

pub returns-then-member : goal.returns-then-member
returns-then-member c = (λ e. given c.args.atom (c.contains-member.ensures.0 c.if-member.true), λ d. refl)

pub returns : goal.returns
returns c = derives_by c.args.plain.now c.args.uses.now c.requires.of c.args.set.now c.close.new.closing c.args.atom _
    (λ m. false≢true (sym c.if-member.false ∙ c.contains-member.ensures.1 m))
    (rw c.as_slice.ensures.value at c.in_ok-close.ensures) c.knows-derived.ensures
