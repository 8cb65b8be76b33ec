-- How a query by names, and the making of a text with numbers, end on the bytes of a file.
use Rattle.std.proofs.Common.{◌≡◌, ◌≢◌, ◌≤◌, ℕ, List, length, refl, sym, subst, inl, inr, true, Option, Some, None, Result, Ok, Err}
use Rattle.std.specs.Prelude.{Contains, IfErr, IfOk, IsSome}
use Rattle.argue_outside.specs.Outside.{KnownFile}
use Rattle.argue_outside.specs.declared.Role.TheVariants.{Framework}
use Rattle.argue_words.specs.Words.{NamesTexts}
use Rattle.iccma_tasks.specs.declared.task.Problem.{Problem}
use Rattle.iccma_tasks.specs.declared.task.Problem.TheVariants.{Credulous, Sceptical, SomeExtension, AllExtensions}
use Rattle.iccma_tasks.specs.Tasks.{Asked, FitsTask}
use Rattle.semantics.specs.Framework.{Af}
use Rattle.apx_tgf.specs.Faults.{IfLine, IsFirstFault}
use Rattle.apx_tgf.specs.NamedText.{ReadsAs}
use Rattle.apx_tgf.specs.declared.fault.ReadFault.{ReadFault as NamesFault}
use Rattle.apx_tgf.specs.declared.fault.ReadFault.TheVariants as fault
use Rattle.apx_tgf.specs.declared.format.NameFormat.{NameFormat}
use Rattle.argue_commands.specs.Inputs.{EndsReading, HasBytes, IsUnrefused, Reading, StopsAt, input, named_input}
use Rattle.argue_commands.specs.Texts.{common_text}
use Rattle.argue_commands.specs.declared.ended.KeptSession.{KeptSession}
use Rattle.argue_commands.specs.declared.ended.Limit.TheVariants as limit
use Rattle.argue_commands.specs.declared.ended.Refusal.TheVariants.{Line, NoRefutation, Query, UnknownName}
use Rattle.argue_commands.specs.declared.ended.Status.{Status}
use Rattle.argue_commands.specs.declared.ended.Status.TheVariants.{Done, Usage, InputRefused, ReadFault, WriteFault}
use Rattle.argue_commands.specs.declared.ended.Status.TheVariants.{WantOfMemory, Unknown, Limit, Rejected}
use Rattle.argue_commands.proofs.InputLemmas.{follow_none}
use Rattle.named_commands.specs.Namings.{AnswersNamed, AnswersNamedFile, AsksUnknown, EndsNaming, IsNumberAsked, IsUnknown}
use Rattle.named_commands.specs.Namings.{StopsNaming, fits_name, names_status}
use Rattle.named_commands.specs.Numberings.{IsNumbered, IsNumberedOf, StopsNumbering}
use Rattle.named_commands.specs.declared.naming.Naming.{Naming}

-- ---- queries

-- a task that wants a name wants its number
pub fits_number : (p : Problem) (names : List (List ℕ)) (name : Option (List ℕ)) (number : Option ℕ)
    → fits_name p name ≡ true → IsNumberAsked names name number → FitsTask p number
fits_number Credulous names (Some name) (Some n) fits is = tt
fits_number Sceptical names (Some name) (Some n) fits is = tt
fits_number SomeExtension names (Some name) (Some n) fits is = cc
fits_number AllExtensions names (Some name) (Some n) fits is = cc
fits_number Credulous names None None fits is = cc
fits_number Sceptical names None None fits is = cc
fits_number SomeExtension names None None fits is = tt
fits_number AllExtensions names None None fits is = tt
fits_number p names (Some name) None fits is = absurd is
fits_number p names None (Some n) fits is = absurd is

-- ---- texts

-- a fault of the text
pub names_fault : (bytes : List ℕ) (naming : Naming) (name : Option (List ℕ)) (f : NamesFault)
    → IfLine f (λ told. IsFirstFault naming.format bytes told.line told.cause)
    → StopsNaming bytes naming name (names_status f)
names_fault bytes naming name (fault.Line told) first = (refl, first)
names_fault bytes naming name fault.Memory first = tt

pub numbering_fault : (format : NameFormat) (bytes : List ℕ) (f : NamesFault)
    → IfLine f (λ told. IsFirstFault format bytes told.line told.cause) → StopsNumbering format bytes (names_status f)
numbering_fault format bytes (fault.Line told) first = (refl, first)
numbering_fault format bytes fault.Memory first = tt

-- a name that is none of the names
pub unknown_stops : (bytes : List ℕ) (naming : Naming) (name : Option (List ℕ)) (names : List (List ℕ)) (f : Af)
    (end : Status) → ReadsAs naming.format bytes names f → IsUnknown names name end → StopsNaming bytes naming name end
unknown_stops bytes naming name names f end reads is =
    subst (StopsNaming bytes naming name) (sym is.end_is) (record {
      names = names;
      framework = f;
      reads = reads;
      unknown = is.unknown;
      name_is = is.name_is;
      none = is.none;
    })

-- ---- files

-- what ends the reading of a file ends that of one with names
pub named_reading : (found : Reading) (format : NameFormat) (file : List ℕ) (end : Status)
    → EndsReading found (input (Framework 1) file) end → IsUnrefused end
    → EndsReading found (named_input format file) end
named_reading found format file (InputRefused refusal) ends h = absurd h
named_reading found format file (ReadFault of) (inl stops) h =
    inl (stops.0, record { counted = stops.1.counted; unserved = stops.1.unserved })
named_reading found format file (Limit limit.Input) (inl stops) h = inl stops
named_reading found format file (Limit limit.Extensions) (inl stops) h = absurd stops
named_reading found format file (Limit limit.Log) (inl stops) h = absurd stops
named_reading found format file Done (inl stops) h = absurd stops
named_reading found format file Usage (inl stops) h = absurd stops
named_reading found format file WriteFault (inl stops) h = absurd stops
named_reading found format file WantOfMemory (inl stops) h = absurd stops
named_reading found format file Unknown (inl stops) h = absurd stops
named_reading found format file (Rejected rejection) (inl stops) h = absurd stops
named_reading found format file (ReadFault of) (inr memory) h = inr memory
named_reading found format file (Limit l) (inr memory) h = inr memory
named_reading found format file Done (inr memory) h = inr memory
named_reading found format file Usage (inr memory) h = inr memory
named_reading found format file WriteFault (inr memory) h = inr memory
named_reading found format file WantOfMemory (inr memory) h = inr memory
named_reading found format file Unknown (inr memory) h = inr memory
named_reading found format file (Rejected rejection) (inr memory) h = inr memory

module _ (found : Reading) (file bytes : List ℕ) (has : HasBytes (found.holds file) bytes) where
  text_ends : (naming : Naming) (texts : NamesTexts) (end : Status) → texts.file ≡ file
      → StopsNaming bytes naming texts.name end → EndsNaming found naming texts end
  text_ends naming texts (InputRefused (Line of line cause)) same stops =
      let has' = subst (λ path. HasBytes (found.holds path) bytes) (sym same) has in
      inl (inl (stops.0, record { bytes = bytes; has = has'; first = stops.1 }))
  text_ends naming texts (InputRefused UnknownName) same stops =
      let has' = subst (λ path. HasBytes (found.holds path) bytes) (sym same) has in
      inr (refl, record { bytes = bytes; has = has'; asks = stops })
  text_ends naming texts (InputRefused (Query fault)) same stops = absurd stops
  text_ends naming texts (InputRefused (NoRefutation k)) same stops = absurd stops
  text_ends naming texts WantOfMemory same stops = inl (inr refl)
  text_ends naming texts Done same stops = absurd stops
  text_ends naming texts Usage same stops = absurd stops
  text_ends naming texts (ReadFault of) same stops = absurd stops
  text_ends naming texts WriteFault same stops = absurd stops
  text_ends naming texts Unknown same stops = absurd stops
  text_ends naming texts (Limit l) same stops = absurd stops
  text_ends naming texts (Rejected rejection) same stops = absurd stops

  -- what is said of the text is said of the file
  pub naming_err : {T : Type 0} (naming : Naming) (texts : NamesTexts) (r : Result T Status) → texts.file ≡ file
      → IfErr r (StopsNaming bytes naming texts.name) → IfErr r (EndsNaming found naming texts)
  naming_err naming texts (Ok x) same stops = tt
  naming_err naming texts (Err end) same stops = text_ends naming texts end same stops

  numbering_ends : (format : NameFormat) (end : Status) → StopsNumbering format bytes end
      → EndsReading found (named_input format file) end
  numbering_ends format (InputRefused (Line of line cause)) stops =
      inl (stops.0, record { bytes = bytes; has = has; first = stops.1 })
  numbering_ends format (InputRefused UnknownName) stops = absurd stops
  numbering_ends format (InputRefused (NoRefutation k)) stops = absurd stops
  numbering_ends format (InputRefused (Query fault)) stops = absurd stops
  numbering_ends format WantOfMemory stops = inr refl
  numbering_ends format Done stops = absurd stops
  numbering_ends format Usage stops = absurd stops
  numbering_ends format (ReadFault of) stops = absurd stops
  numbering_ends format WriteFault stops = absurd stops
  numbering_ends format Unknown stops = absurd stops
  numbering_ends format (Limit l) stops = absurd stops
  numbering_ends format (Rejected rejection) stops = absurd stops

  pub numbering_err : {T : Type 0} (format : NameFormat) (r : Result T Status) → IfErr r (StopsNumbering format bytes)
      → IfErr r (EndsReading found (named_input format file))
  numbering_err format (Ok x) stops = tt
  numbering_err format (Err end) stops = numbering_ends format end stops

-- ---- statuses

told_unless : (end : Status) → end ≢ Done → IsSome (common_text end)
told_unless Done other = absurd (other refl)
told_unless Usage other = refl
told_unless (InputRefused refusal) other = refl
told_unless (ReadFault of) other = refl
told_unless WriteFault other = refl
told_unless WantOfMemory other = refl
told_unless Unknown other = refl
told_unless (Limit l) other = refl
told_unless (Rejected rejection) other = refl

-- a run that stopped has a text of its own
pub naming_told : {T : Type 0} (bytes : List ℕ) (naming : Naming) (name : Option (List ℕ)) (r : Result T Status)
    → IfErr r (StopsNaming bytes naming name) → IfErr r (λ end. IsSome (common_text end))
naming_told bytes naming name (Ok x) stops = tt
naming_told bytes naming name (Err end) stops =
    told_unless end (λ is. let P : Status → Type 0 = StopsNaming bytes naming name in subst P is stops)

pub numbering_told : {T : Type 0} (format : NameFormat) (bytes : List ℕ) (r : Result T Status)
    → IfErr r (StopsNumbering format bytes) → IfErr r (λ end. IsSome (common_text end))
numbering_told format bytes (Ok x) stops = tt
numbering_told format bytes (Err end) stops =
    told_unless end (λ is. let P : Status → Type 0 = StopsNumbering format bytes in subst P is stops)
