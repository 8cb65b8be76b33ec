use Rattle.std.proofs.Common.{◌≡◌, [], ◌∷◌}
use Rattle.meaning_atoms.specs.declared.atom.Closure.TheVariants.{Own, Rest}
use Rattle.meaning_atoms.specs.declared.aba_axiom.AbaAxiom.TheVariants.{B18}
use Rattle.aba_encoding.specs.Listing.{contrary_end}
use Rattle.aba_encoding.specs.Brought.{by_contrary_past}
use Rattle.aba_encoding.proofs.GainedLemmas.{contrary_last_listed, contrary_past_listed, on_brought}
use Rattle.aba_encoding.proofs.contrary_changes.push_past.Goals as goal

pub returns-in-Some : goal.returns-in-Some
returns-in-Some c =
    let f = c.args.plain.now in
    let a = c.args.assumption in
    let p = c.args.place in
    let j = c.in-Some.next in
    on_brought (by_contrary_past f a c.args.contrary (λ i. i ≡ p)) (B18 Own a p j ∷ B18 Rest a p j ∷ []) _ _
    c.push_all.result
    (contrary_past_listed f c.next-next.ensures.form a c.args.contrary p j c.in-Some.ensures.some) c.push_all.ensures

pub returns-in-None : goal.returns-in-None
returns-in-None c =
    let f = c.args.plain.now in
    let a = c.args.assumption in
    let p = c.args.place in
    on_brought (by_contrary_past f a c.args.contrary (λ i. i ≡ p)) (contrary_end a p) _ _ c.push_all-in-None.result
    (contrary_last_listed f c.next-next.ensures.form a c.args.contrary p c.in-None.ensures.none)
    c.push_all-in-None.ensures
