use Rattle.std.proofs.Common.{subst, sym, ℕ}
use Rattle.std.specs.Prelude.{◌↔◌, Contains, IsTrue, map}
use Rattle.std.specs.List.Sorted.{IsStrictlyIncreasing}
use Rattle.aba_facts.specs.Cuts.{IsClear}
use Rattle.aba_facts.proofs.FactLemmas.{contraries_up, iff_both, no_contrary_at}
use Rattle.aba_facts.proofs.facts.has_no_contrary.Goals as goal

pub is_clear-requires : goal.is_clear-requires
is_clear-requires c =
    subst (λ pairs. IsStrictlyIncreasing (map (λ (p : ℕ × ℕ). p.1) pairs)) (sym c.contraries_of.ensures.value)
    (contraries_up c.args.plain.now c.contraries_of.ensures.form c.args.atom)

pub returns : goal.returns
returns c =
    let live : Contains c.args.plain.now.assumptions c.args.atom =
    subst (λ xs. Contains xs c.args.atom) c.assumptions.ensures.value (c.contains.ensures.0 c.if-not-contains.false) in
    iff_both
    (subst (λ pairs. IsTrue c.is_clear.result ↔ IsClear (map (λ (p : ℕ × ℕ). p.1) pairs) c.args.begin c.args.end)
    c.contraries_of.ensures.value c.is_clear.ensures)
    (no_contrary_at c.args.plain.now c.contraries_of.ensures.form c.args.atom c.args.begin c.args.end live)
