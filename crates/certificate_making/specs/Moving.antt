-- The inner state of loops that move a step, which no caller sees.
use Rattle.std.specs.Prelude.{◌≡◌, ℕ, ◌<◌, ◌≤◌, List, length, slice_index_or}
use Rattle.meaning_atoms.specs.declared.atom.AtomLit.{AtomLit}
use Rattle.certificate_making.specs.Trimmed.{moved_lit}

-- the first so many literals are moved, and the others are as they were
pub record AreMovedTo (positions : List ℕ) (old : List AtomLit) (count : ℕ) (now : List AtomLit) : Type 0 where
  pub long : length now ≡ length old
  pub front : (j : ℕ) (d : AtomLit) → j < count → j < length old
      → slice_index_or now j d ≡ moved_lit positions (slice_index_or old j d)
  pub rest : (j : ℕ) (d : AtomLit) → count ≤ j → slice_index_or now j d ≡ slice_index_or old j d
