-- The lines of a TGF text: nodes, a line `#`, and edges.
use Rattle.std.specs.Prelude.{◌≡◌, ℕ, Bool, true, false, List, [], ◌∷◌, codes}
use Rattle.num_text.specs.Cuts.{LineText, field_texts}
use Rattle.apx_tgf.specs.Names.{IsName}
use Rattle.apx_tgf.specs.Told.{Statement}
use Rattle.apx_tgf.specs.Told.Statement.{declares, tells}

-- the line says these statements. Whether the line `#` has come is told of the time before the line and after it.
pub data IsTgfLine (divided : Bool) (line : LineText) (statements : List Statement) (after : Bool) : Type 0 where
  -- a line without fields says nothing
  blank : field_texts line.text ≡ [] → statements ≡ [] → after ≡ divided → IsTgfLine divided line statements after
  -- before `#` a line declares the name that is its first field; what follows is a label
  node : (name : List ℕ) → (label : List (List ℕ)) → divided ≡ false → field_texts line.text ≡ name ∷ label
      → IsName name → statements ≡ declares name ∷ [] → after ≡ false → IsTgfLine divided line statements after
  -- the only field of one line is `#`
  divides : divided ≡ false → field_texts line.text ≡ codes "#" ∷ [] → statements ≡ [] → after ≡ true
      → IsTgfLine divided line statements after
  -- behind `#` a line tells the attack of its first field on its second; what follows is a label
  edge : (attacker target : List ℕ) → (label : List (List ℕ)) → divided ≡ true
      → field_texts line.text ≡ attacker ∷ target ∷ label → IsName attacker → IsName target
      → statements ≡ tells (record { line = line.number; attacker = attacker; target = target }) ∷ [] → after ≡ true
      → IsTgfLine divided line statements after
