use Rattle.std.proofs.Common.{ℕ, rules}
use Rattle.std.proofs.lemmas.Iterator.{cases_from_any, YieldsList-from_slice}
use Rattle.aba_laws.specs.Deciding.{AbaOf, IsHitBy}
use Rattle.aba_laws.proofs.DecidingLemmas.{hits_walk}
use Rattle.aba_laws.proofs.deciding.hits.Goals as goal

pub returns : goal.returns
returns c =
    let P : ℕ × ℕ → Type 0 = IsHitBy c.args.s.now.derived c.args.number in
    hits_walk (AbaOf c.args.f.now) c.args.s.now.derived c.args.number _
    (cases_from_any _ _ _ P (λ x. P x → ⊥) c.any.ensures.ran (YieldsList-from_slice c.args.f.now.contraries.now cc)
    (λ x q k. search rules) (λ x q k. search rules))
