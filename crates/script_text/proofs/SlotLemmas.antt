-- A session inside a group, and what stands whether or not a call fails.
use Rattle.std.proofs.Common.{◌≡◌, ℕ, ◌<◌, List, length, get_or, sym, ap, ◌∙◌, OnOk}
use Rattle.std.specs.Prelude.{Result, Ok, Err}
use Rattle.std.proofs.lemmas.List.{get_or_default}
use Rattle.edit_rules.specs.declared.edit.Edit.{Edit}
use Rattle.script_text.specs.declared.open_groups.Place.{Place}
use Rattle.script_text.specs.declared.open_groups.Place.TheVariants.{Unbegun, Inside}
use Rattle.script_text.specs.Sizes.{place_at}

pub on_ok : {T E P : Type 0} (r : Result T E) → P → OnOk r P
on_ok (Ok x) p = p
on_ok (Err e) p = tt

pub open_there : (slots places : List Place) (at : ℕ) (place : Place) → places ≡ slots
    → at < length places → place ≡ get_or places at place → (edits : List Edit) × (place ≡ Inside edits)
    → (s : ℕ) × (edits : List Edit) × (place_at slots s ≡ Inside edits)
open_there slots places at place same within is (edits, inside) = (
  at,
  edits,
  ap (λ list. get_or list at Unbegun) (sym same) ∙ get_or_default places at Unbegun place within ∙ sym is ∙ inside,
)
