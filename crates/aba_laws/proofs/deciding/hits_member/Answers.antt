use Rattle.std.proofs.Common.{ℕ, rules}
use Rattle.std.proofs.lemmas.Iterator.{cases_from_any, YieldsList-from_slice}
use Rattle.aba_laws.specs.Deciding.{AbaOf, HasContrary}
use Rattle.aba_laws.proofs.DecidingLemmas.{member_walk}
use Rattle.aba_laws.proofs.deciding.hits_member.Goals as goal

pub returns : goal.returns
returns c =
    let P : ℕ → Type 0 = HasContrary (AbaOf c.args.f.now) c.args.s.now.derived in
    member_walk (AbaOf c.args.f.now) c.args.s.now.derived c.args.set.now _
    (cases_from_any _ _ _ P (λ x. P x → ⊥) c.any.ensures.ran (YieldsList-from_slice c.args.set.now cc)
    (λ x q k. search rules) (λ x q k. search rules))
