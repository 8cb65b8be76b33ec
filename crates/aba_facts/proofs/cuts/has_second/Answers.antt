use Rattle.std.proofs.Common.{ℕ, map}
use Rattle.aba_facts.proofs.CutLemmas.{member_at, member_past}
use Rattle.aba_facts.proofs.cuts.has_second.Goals as goal

pub returns-in-Some : goal.returns-in-Some
returns-in-Some c =
    member_at (map (λ (p : ℕ × ℕ). p.1) c.args.pairs.now) c.args.number c.in-Some.first c.in-Some.ensures.some

pub returns-in-None : goal.returns-in-None
returns-in-None c =
    member_past (map (λ (p : ℕ × ℕ). p.1) c.args.pairs.now) c.args.number c.in-None.ensures.none
