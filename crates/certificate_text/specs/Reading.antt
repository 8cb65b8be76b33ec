-- How a text is read, line by line.
use Rattle.std.specs.Prelude.{◌≡◌, ◌⊎◌, ℕ, ◌+◌, List, [], ◌∷◌, length, map, Result, Ok, Err}
use Rattle.num_text.specs.Cuts.{LineText, field_texts, lines_of}
use Rattle.num_text.specs.Lines.{kept_lines}
use Rattle.certificate_claims.specs.declared.certificate.Certificate.{Certificate}
use Rattle.certificate_text.specs.declared.draft.Draft.{Draft}
use Rattle.certificate_text.specs.declared.draft.Draft.TheVariants.{Nothing, SetsRead, StepsRead, AllRead}
use Rattle.certificate_text.specs.declared.fault.CertCause.{CertCause}
use Rattle.certificate_text.specs.declared.fault.CertCause.TheVariants.{NoHeader, NoEnd}
use Rattle.certificate_text.specs.declared.fault.CertFault.{CertFault}
use Rattle.certificate_text.specs.declared.fault.CertFault.TheVariants.{At, Memory}
use Rattle.certificate_text.specs.Lines.{LeadsTo, Stands}

-- a certificate, or its fault
abbrev pub Outcome : Type 0
Outcome = Result Certificate CertFault

-- where the lines end, the line of this number would be the next
abbrev pub Ends : Draft → ℕ → Outcome → Type 0
Ends Nothing end result = result ≡ Err (At end NoHeader)
Ends (SetsRead sets) end result = result ≡ Err (At end NoEnd)
Ends (StepsRead sets whole steps) end result = result ≡ Err (At end NoEnd)
Ends (AllRead read) end result = result ≡ Ok read

-- from what was read, the lines lead to the result: each leads on, up to the first at which a cause stands, or to the end
abbrev pub Reads : ℕ → Draft → List LineText → Outcome → Type 0
Reads end draft [] result = Ends draft end result
Reads end draft (line ∷ lines) result =
    ((after : Draft) × LeadsTo draft (field_texts line.text) after × Reads end after lines result)
    ⊎ ((cause : CertCause) × Stands draft (field_texts line.text) cause × (result ≡ Err (At line.number cause)))

-- the line behind the last one
abbrev pub end_of : List ℕ → ℕ
end_of bytes = length (lines_of bytes) + 1

-- the text reads as a certificate, or has this as its first fault
abbrev pub ReadsAs : List ℕ → Outcome → Type 0
ReadsAs bytes result = Reads (end_of bytes) Nothing (kept_lines bytes) result

-- what a reader gives for the text; want of memory says nothing of it
abbrev pub IsRead : List ℕ → Outcome → Type 0
IsRead bytes (Ok read) = ReadsAs bytes (Ok read)
IsRead bytes (Err (At line cause)) = ReadsAs bytes (Err (At line cause))
IsRead bytes (Err Memory) = Unit {0}

-- the fields of the lines that are not skipped
abbrev pub kept_fields : List ℕ → List (List (List ℕ))
kept_fields bytes = map (λ line. field_texts line.text) (kept_lines bytes)
