use Rattle.std.proofs.Common.{ℕ, map}
use Rattle.aba_facts.proofs.CutLemmas.{clear_at, clear_past}
use Rattle.aba_facts.proofs.cuts.is_clear.Goals as goal

pub returns-in-Some : goal.returns-in-Some
returns-in-Some c = clear_at (map (λ (p : ℕ × ℕ). p.1) c.args.pairs.now) c.args.begin c.args.end c.in-Some.first
    c.in-Some.ensures.some

pub returns-in-None : goal.returns-in-None
returns-in-None c = clear_past (map (λ (p : ℕ × ℕ). p.1) c.args.pairs.now) c.args.begin c.args.end
    c.in-None.ensures.none
