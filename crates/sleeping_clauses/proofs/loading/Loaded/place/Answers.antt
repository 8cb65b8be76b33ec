use Rattle.std.proofs.Common.{refl}
use Rattle.sleeping_clauses.proofs.Mirroring.{loaded_asleep}
use Rattle.sleeping_clauses.proofs.loading.Loaded.place.Goals as goal

pub returns-in_ok-push-in-Some : goal.returns-in_ok-push-in-Some
returns-in_ok-push-in-Some c = λ asleep done h.
    loaded_asleep c.args.self.now _ asleep done c.args.log.now.steps c.args.step c.in-Some.sleeper
    (rw c.in-Some.is at c.sleeper_of.ensures) refl refl c.in_ok-push-in-Some.ensures.items h
