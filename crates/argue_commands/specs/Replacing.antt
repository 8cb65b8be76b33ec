-- The files that a run writes, and how they are replaced.
use Rattle.std.specs.Prelude.{◌≡◌, ℕ, ◌⊎◌, List, [], ◌∷◌, Option, None, Some}
use Rattle.argue_outside.specs.Outside.{Adds, AddsPart, Clears, KnownFile, OtherFilesKept}
use Rattle.std.specs.String.{string_bytes}
use Rattle.certificate_claims.specs.declared.certificate.Certificate.{Certificate}
use Rattle.certificate_text.specs.Written.{certificate_text}
use Rattle.argue_commands.specs.declared.replacing.Written.{Written}

-- a name and the bytes that it is to have
pub record FileText : Type 0 where
  pub name : List ℕ
  pub bytes : List ℕ

-- a file's name and bytes
abbrev pub file_text : Written → FileText
file_text file = record { name = string_bytes file.name; bytes = file.bytes }

-- the file of the certificate, where one is named
abbrev pub certificate_files : Option (List ℕ) → Certificate → List FileText
certificate_files None certificate = []
certificate_files (Some name) certificate = record { name = name; bytes = certificate_text certificate } ∷ []

-- the name was cleared, and then these bytes were added to it
pub record Replaces (file : FileText) (old new : List ℕ → KnownFile) : Type 0 where
  pub mid : List ℕ → KnownFile
  pub cleared : Clears (old file.name) (mid file.name)
  pub cleared_alone : OtherFilesKept file.name old mid
  pub added : Adds (mid file.name) (new file.name) file.bytes
  pub added_alone : OtherFilesKept file.name mid new

-- the name was cleared, and then a part of these bytes was added to it
pub record ReplacesPart (file : FileText) (old new : List ℕ → KnownFile) : Type 0 where
  pub mid : List ℕ → KnownFile
  pub cleared : Clears (old file.name) (mid file.name)
  pub cleared_alone : OtherFilesKept file.name old mid
  pub added : AddsPart (mid file.name) (new file.name) file.bytes
  pub added_alone : OtherFilesKept file.name mid new

-- the name couldn't be cleared, or took a part of the bytes alone
abbrev pub BreaksReplacing : FileText → (List ℕ → KnownFile) → (List ℕ → KnownFile) → Type 0
BreaksReplacing file old new = (new ≡ old) ⊎ ReplacesPart file old new

-- the files were replaced in order
abbrev pub WritesFiles : List FileText → (List ℕ → KnownFile) → (List ℕ → KnownFile) → Type 0
WritesFiles [] old new = new ≡ old
WritesFiles (file ∷ more) old new = (mid : List ℕ → KnownFile) × Replaces file old mid × WritesFiles more mid new

-- the files were replaced in order up to one that couldn't be
abbrev pub BreaksFiles : List FileText → (List ℕ → KnownFile) → (List ℕ → KnownFile) → Type 0
BreaksFiles [] old new = ⊥
BreaksFiles (file ∷ more) old new =
    BreaksReplacing file old new ⊎ ((mid : List ℕ → KnownFile) × Replaces file old mid × BreaksFiles more mid new)

-- some of the files has a name that isn't accepted
abbrev pub RefusesFile : (List ℕ → Type 0) → List FileText → Type 0
RefusesFile accepts [] = ⊥
RefusesFile accepts (file ∷ more) = ¬ accepts file.name ⊎ RefusesFile accepts more
