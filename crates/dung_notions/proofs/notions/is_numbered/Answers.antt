use Rattle.std.proofs.Common.{◌≡◌, ◌-◌, ◌<◌, arith, length, get_or, sym, ◌∙◌, eq-eqb, eqb-true}
use Rattle.std.proofs.lemmas.List.Elements.{Contains-get_or}
use Rattle.std.proofs.lemmas.Option.{slice_get_within, get_or_from_slice_get}
use Rattle.dung_notions.proofs.Numbering.{numbered_from, numbered_at}
use Rattle.dung_notions.proofs.notions.is_numbered.Goals as goal

pub returns-in-Some : goal.returns-in-Some
returns-in-Some c =
    let xs = c.args.rising.now in
    let some : length xs - 1 < length xs = slice_get_within xs _ _ (sym c.in-Some.ensures.value) in
    let top : get_or xs (length xs - 1) 0 ≡ c.in-Some.largest.now =
    get_or_from_slice_get xs _ _ 0 (sym c.in-Some.ensures.value) in
    let low = c.requires.arguments _ (Contains-get_or xs 0 0 (omega arith)) in (
      λ full. numbered_from xs c.requires.rises (length xs - 1) (omega arith) (top ∙ eqb-true _ _ full) low.low,
      λ e. eq-eqb _ _ (omega (arith, top, numbered_at xs e (length xs - 1) some)),
    )
