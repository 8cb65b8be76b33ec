use Rattle.std.proofs.Common.{ℕ, ◌≡◌, subst, sym}
use Rattle.std.specs.Prelude.{Contains}
use Rattle.marked_rules.proofs.ConeLemmas.{fresh_by, reaches_not, reaches_one}
use Rattle.marked_rules.proofs.cone.Cone.reach.Goals as goal

pub returns-then-known : goal.returns-then-known
returns-then-known c = reaches_not (λ x. x ≡ c.args.atom) c.args.self.now c.requires.listed
    (λ x e. subst (λ y. Contains c.args.self.now.atoms.items y) (sym e)
    (c.requires.listed c.args.atom (c.has-known.ensures.0 c.if-known.true)))

pub returns : goal.returns
returns c = reaches_one c.args.atom c.args.self.now _ c.requires.listed c.requires.within
    (fresh_by _ _ c.if-known.false c.has-known.ensures.1) c.mark.ensures c.in_ok-push.ensures.items
