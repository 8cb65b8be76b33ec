use Rattle.std.proofs.Common.{refl}
use Rattle.aba_laws.specs.Deciding.{AbaOf}
use Rattle.aba_laws.proofs.DecidingLemmas.{conflict_free_test}
use Rattle.aba_laws.proofs.deciding.is_conflict_free.Goals as goal

pub returns-then-is_within : goal.returns-then-is_within
returns-then-is_within c =
    conflict_free_test (AbaOf c.args.f.now) c.args.s.now c.as_slice.result.now c.as_slice-then-is_within.result.now
    c.hits_member.result c.requires c.as_slice.ensures c.as_slice-then-is_within.ensures
    (c.if-is_within.ensures.0 refl) c.hits_member.ensures
