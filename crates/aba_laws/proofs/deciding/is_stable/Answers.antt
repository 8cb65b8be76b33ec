use Rattle.std.proofs.Common.{refl}
use Rattle.aba_laws.specs.Deciding.{AbaOf}
use Rattle.aba_laws.proofs.DecidingLemmas.{stable_test}
use Rattle.aba_laws.proofs.deciding.is_stable.Goals as goal

pub returns-then-is_conflict_free : goal.returns-then-is_conflict_free
returns-then-is_conflict_free c = stable_test (AbaOf c.args.f.now) c.args.s.now c.hits_others.result c.requires
    (c.if-is_conflict_free.ensures.0 refl) c.hits_others.ensures
