use Rattle.std.proofs.Common.{ℕ, List, arith, ap, get_or, length, sym, ◌∙◌}
use Rattle.aba_encoding.proofs.ContraryPlaces.{contrary_there, how_many}
use Rattle.aba_encoding.proofs.places.contrary_at.Goals as goal

pub bounds-contraries_of-index : goal.bounds-contraries_of-index
bounds-contraries_of-index c = omega (
  arith,
  c.requires,
  ap length c.contraries_of.ensures.value,
  how_many c.args.plain.now c.contraries_of.ensures.form c.args.atom,
)

pub returns : goal.returns
returns c =
    let f = c.args.plain.now in
    let form = c.contraries_of.ensures.form in
    ap (λ (ps : List (ℕ × ℕ)). (get_or ps c.args.index (0, 0)).1) c.contraries_of.ensures.value
    ∙ sym (contrary_there f form c.args.atom c.args.index (omega (arith, c.requires, how_many f form c.args.atom)))
