-- Parts of the notions of extension, one argument at a time.
use Rattle.std.specs.Prelude.{ℕ, List, Contains}
use Rattle.attack_index.specs.semantics.specs.Framework.{Af, Attacks}

-- the argument attacks some member of the set
abbrev pub AttacksInto : Af → ℕ → List ℕ → Type 0
AttacksInto f b s = (a : ℕ) × Contains s a × Attacks f b a
