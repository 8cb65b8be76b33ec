-- The kind of framework that a text has, by the first line that is not skipped.
use Rattle.std.specs.Prelude.{◌≡◌, ℕ, List, [], ◌∷◌, codes}
use Rattle.num_text.specs.Cuts.{LineText, field_texts}
use Rattle.num_text.specs.Lines.{kept_lines}

-- the first two fields are `p` and `aba`
pub record BeginWithAba (fields : List (List ℕ)) : Type 0 where
  pub more : List (List ℕ)
  pub fields_are : fields ≡ codes "p" ∷ codes "aba" ∷ more

-- the first of the lines begins so
abbrev pub IsAbaHeader : List LineText → Type 0
IsAbaHeader [] = ⊥
IsAbaHeader (header ∷ others) = BeginWithAba (field_texts header.text)

-- the bytes are the text of an assumption-based framework, if they are one of a framework
abbrev pub IsAbaText : List ℕ → Type 0
IsAbaText bytes = IsAbaHeader (kept_lines bytes)
