use Rattle.std.proofs.Common.{◌≡◌, ◌++◌, ◌∷◌, [], ◌∙◌, refl, rules}
use Rattle.sleeping_clauses.proofs.Mirroring.{loaded_awake}
use Rattle.sleeping_clauses.proofs.loading.Loaded.admit.Goals as goal

pub returns : goal.returns
returns c = λ asleep done h.
    let pushed : c.push.new.self.items ≡ c.args.self.now.awake.items ++ c.args.step ∷ [] = search rules in
    loaded_awake c.args.self.now _ asleep done c.args.log.now.steps c.args.step _ _ c.requires
    (c.deref.ensures.value ∙ (c.in_ok-lits.ensures ∙ c.clause.ensures.clause)) c.in_ok-add.ensures.ok pushed refl h
