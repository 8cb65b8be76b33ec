-- What a line of a TGF text says, once it is taken.
use Rattle.std.proofs.Common.{◌≡◌, ℕ, true, false, List, [], ◌∷◌, refl}
use Rattle.num_text.specs.Cuts.{LineText, field_texts}
use Rattle.apx_tgf.specs.declared.format.NameFormat.TheVariants.{Tgf}
use Rattle.apx_tgf.specs.Names.{IsName}
use Rattle.apx_tgf.specs.Told.{Told, told_after}
use Rattle.apx_tgf.specs.Told.Statement.{declares, tells}
use Rattle.apx_tgf.specs.TgfText.IsTgfLine.{node, edge}
use Rattle.apx_tgf.specs.Taking.{TakesLine}

pub node_taken : (line : LineText) (name : List ℕ) (label : List (List ℕ)) (old new : Told)
    → field_texts line.text ≡ name ∷ label → IsName name → new ≡ told_after old (declares name)
    → TakesLine Tgf false line old new false
node_taken line name label old new fields is told = record {
  statements = declares name ∷ [];
  line_is = node name label refl fields is refl refl;
  new_is = told;
}

pub edge_taken : (line : LineText) (attacker target : List ℕ) (label : List (List ℕ)) (old new : Told)
    → field_texts line.text ≡ attacker ∷ target ∷ label → IsName attacker → IsName target
    → new ≡ told_after old (tells (record { line = line.number; attacker = attacker; target = target }))
    → TakesLine Tgf true line old new true
edge_taken line attacker target label old new fields attacker_is target_is told = record {
  statements = tells (record { line = line.number; attacker = attacker; target = target }) ∷ [];
  line_is = edge attacker target label refl fields attacker_is target_is refl refl;
  new_is = told;
}
