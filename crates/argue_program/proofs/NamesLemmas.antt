-- How a query by names, and the making of a text with numbers, may end.
use Rattle.std.proofs.Common.{◌≡◌, ◌⊎◌, ◌<◌, ◌≤◌, ℕ, List, length, ap, sym, subst, inl, inr, ⊎_elim, arith, Option, Some}
use Rattle.std.specs.Prelude.{Contains}
use Rattle.argue_outside.specs.Outside.{KnownFile}
use Rattle.argue_outside.specs.declared.Role.TheVariants.{Framework}
use Rattle.argue_words.specs.Words.{AfTexts, NamesTexts}
use Rattle.semantics.specs.Framework.{Af}
use Rattle.semantics.specs.Frameworks.{af}
use Rattle.apx_tgf.specs.NamedText.{ReadsAs}
use Rattle.apx_tgf.specs.declared.format.NameFormat.{NameFormat}
use Rattle.apx_tgf.proofs.TextLemmas.{ReadsAs-faultless, ReadsAs-same}
use Rattle.argue_commands.specs.Inputs.{HasReadFault, IsSoundOf, Reading, StopsAt, named_input}
use Rattle.argue_commands.specs.Solves.{IsSessionOf}
use Rattle.argue_commands.specs.declared.ended.FaultCause.TheVariants as cause
use Rattle.argue_commands.specs.declared.ended.Limit.TheVariants as limit
use Rattle.argue_commands.specs.declared.ended.Refusal.TheVariants.{Line, NoRefutation, Query, UnknownName}
use Rattle.argue_commands.specs.declared.ended.Status.{Status}
use Rattle.argue_commands.specs.declared.ended.Status.TheVariants.{Done, Usage, InputRefused, ReadFault, WriteFault}
use Rattle.argue_commands.specs.declared.ended.Status.TheVariants.{WantOfMemory, Unknown, Limit, Rejected}
use Rattle.argue_commands.proofs.KnownLemmas.{bytes_at, first_at, longer_at, within_at}
use Rattle.named_commands.specs.Namings.{AnswersNamedFile, IsAskedBy, IsNamedOf, IsUnknown, solving_of}
use Rattle.named_commands.specs.declared.naming.Naming.{Naming}
use Rattle.num_text.specs.declared.limit.TheConstants.{MAX_INPUT}
use Rattle.argue_program.specs.Rows.{EndsCommand, EndsNamed, EndsNumbered, EndsUnnamed, af_row, names_row}
use Rattle.argue_program.specs.Runs.{EndsByName, HasText, IsDoneOrMemory, IsFaultyNamed, IsNamesEnd, NamesContents}
use Rattle.argue_program.specs.Runs.{NumbersContents, RefusesLength, RefusesNamed}
use Rattle.argue_program.specs.declared.ended.Transcript.{Transcript}
use Rattle.argue_program.proofs.EndsLemmas.{no_stop}

-- ---- the rows

-- why a query by names may end so
abbrev pub EndsAsking : Reading → NamesTexts → Naming → Transcript → Status → Type 0
EndsAsking found texts naming kept end =
    StopsAt found end (named_input naming.format texts.file)
    ⊎ ((end ≡ WantOfMemory) ⊎ (EndsNamed (found.holds texts.file) naming texts.name kept end
    ⊎ EndsUnnamed (found.holds texts.file) naming texts.name kept end))

pub ends_asking : (found : Reading) (texts : NamesTexts) (naming : Naming) (kept : Transcript) (end : Status)
    → EndsCommand found (names_row found.holds (Some naming) texts) kept end → EndsAsking found texts naming kept end
ends_asking found texts naming kept end (inl (nothing, inl (inl (stops, follow)))) = inl stops
ends_asking found texts naming kept end (inl (nothing, inl (inr (passes, more)))) = absurd more
ends_asking found texts naming kept end (inl (nothing, inr memory)) = inr (inl memory.0)
ends_asking found texts naming kept end (inr ends) = inr (inr ends)

-- why the making of a text with numbers may end so
abbrev pub EndsNumbering : Reading → AfTexts → NameFormat → Transcript → Status → Type 0
EndsNumbering found texts format kept end =
    StopsAt found end (named_input format texts.file)
    ⊎ ((end ≡ WantOfMemory) ⊎ EndsNumbered (found.holds texts.file) format kept end)

pub ends_numbering : (found : Reading) (texts : AfTexts) (format : NameFormat) (kept : Transcript) (end : Status)
    → EndsCommand found (af_row found.holds (Some format) texts) kept end → EndsNumbering found texts format kept end
ends_numbering found texts format kept end (inl (nothing, inl (inl (stops, follow)))) = inl stops
ends_numbering found texts format kept end (inl (nothing, inl (inr (passes, more)))) = absurd more
ends_numbering found texts format kept end (inl (nothing, inr memory)) = inr (inl memory.0)
ends_numbering found texts format kept end (inr ends) = inr (inr ends)

-- ---- what the file reads as

-- a text that reads as something has no fault
pub names_sound : (format : NameFormat) (file bytes : List ℕ) (names : List (List ℕ)) (f : Af)
    → ReadsAs format bytes names f → IsSoundOf (named_input format file) bytes
names_sound format file bytes names f reads line (cause.Name c) first =
    ReadsAs-faultless format bytes names f reads line c first
names_sound format file bytes names f reads line (cause.Framework c) first = first
names_sound format file bytes names f reads line (cause.Script c) first = first
names_sound format file bytes names f reads line (cause.Answer c) first = first
names_sound format file bytes names f reads line (cause.Certificate c) first = first
names_sound format file bytes names f reads line (cause.Cnf c) first = first
names_sound format file bytes names f reads line (cause.Lrat c) first = first

-- what the known bytes of a file read as
reads_at : (known : KnownFile) (format : NameFormat) (bytes : List ℕ) (names : List (List ℕ)) (f : Af)
    → known ≡ Some (Some bytes) → IsNamedOf known format names f → ReadsAs format bytes names f
reads_at known format bytes names f is named =
    subst (λ bs. ReadsAs format bs names f) (bytes_at known bytes named.bytes is named.has) named.reads

read_same : (found : Reading) (format : NameFormat) (file : List ℕ) (names others : List (List ℕ)) (f g : Af)
    → HasText found (named_input format file) (λ bytes. ReadsAs format bytes names f)
    → IsNamedOf (found.holds file) format others g → (others ≡ names) × (g ≡ f)
read_same found format file names others f g has named =
    ReadsAs-same format has.bytes others names g f (reads_at (found.holds file) format has.bytes others g has.known named)
    has.reads

-- ---- completeness

names_end : (names : List (List ℕ)) (f : Af) (naming : Naming) (name : Option (List ℕ)) (kept : Transcript)
    (end : Status) → EndsByName names f naming name kept end ⊎ IsUnknown names name end
    → IsNamesEnd names f naming name kept end
names_end names f naming name kept Done ends = ends
names_end names f naming name kept Usage ends = ends
names_end names f naming name kept (InputRefused refusal) ends = ends
names_end names f naming name kept (ReadFault of) ends = ends
names_end names f naming name kept WriteFault ends = tt
names_end names f naming name kept WantOfMemory ends = tt
names_end names f naming name kept Unknown ends = ends
names_end names f naming name kept (Limit l) ends = ends
names_end names f naming name kept (Rejected rejection) ends = ends

module _ (found : Reading) (words : List (List ℕ)) (texts : NamesTexts) (naming : Naming) (names : List (List ℕ)) (f : Af)
    (contents : NamesContents found words texts naming names f) where
  by_name_of : (kept : Transcript) (end : Status) → EndsNamed (found.holds texts.file) naming texts.name kept end
      → EndsByName names f naming texts.name kept end
  by_name_of kept end named =
      let answers = named.answers.answers in
      let same = read_same found naming.format texts.file names answers.names f answers.framework contents.of_framework
      (record { bytes = named.answers.bytes; has = named.answers.has; reads = answers.reads }) in
      record {
        session = named.session;
        keeps = ap (λ (k : Transcript). k.session) named.keeps;
        asked = answers.asked;
        asks = subst (λ ns. IsAskedBy ns naming.task texts.name answers.asked) same.0 answers.asks;
        is = subst (λ g. IsSessionOf (af g) (solving_of naming answers.asked) named.session) same.1 answers.is;
        ends = named.ends;
      }

  unknown_of : (kept : Transcript) (end : Status) → EndsUnnamed (found.holds texts.file) naming texts.name kept end
      → IsUnknown names texts.name end
  unknown_of kept end unnamed =
      let asks = unnamed.asks.asks in
      let same = read_same found naming.format texts.file names asks.names f asks.framework contents.of_framework
      (record { bytes = unnamed.asks.bytes; has = unnamed.asks.has; reads = asks.reads }) in
      record {
        end_is = unnamed.ends;
        unknown = asks.unknown;
        name_is = asks.name_is;
        none = subst (λ ns. ¬ Contains ns asks.unknown) same.0 asks.none;
      }

  pub ends_names : (kept : Transcript) (end : Status) → EndsAsking found texts naming kept end
      → IsNamesEnd names f naming texts.name kept end
  ends_names kept end (inl stops) =
      absurd (no_stop found (named_input naming.format texts.file) _
      (λ bytes reads. names_sound naming.format texts.file bytes names f reads) contents.of_framework end stops)
  ends_names kept end (inr (inl is)) =
      let P : Status → Type 0 = IsNamesEnd names f naming texts.name kept in subst P (sym is) tt
  ends_names kept end (inr (inr (inl named))) =
      names_end names f naming texts.name kept end (inl (by_name_of kept end named))
  ends_names kept end (inr (inr (inr unnamed))) =
      names_end names f naming texts.name kept end (inr (unknown_of kept end unnamed))

pub af_is_done : (found : Reading) (words : List (List ℕ)) (texts : AfTexts) (format : NameFormat)
    (names : List (List ℕ)) (f : Af) (kept : Transcript) (end : Status)
    → NumbersContents found words texts format names f → EndsNumbering found texts format kept end
    → IsDoneOrMemory end
af_is_done found words texts format names f kept end contents (inl stops) =
    absurd (no_stop found (named_input format texts.file) _
    (λ bytes reads. names_sound format texts.file bytes names f reads) contents.of_framework end stops)
af_is_done found words texts format names f kept end contents (inr (inl is)) = subst IsDoneOrMemory (sym is) tt
af_is_done found words texts format names f kept end contents (inr (inr numbered)) =
    subst IsDoneOrMemory (sym numbered.ends) tt

-- ---- faulty texts

-- the file reads as some framework with names
abbrev pub IsNamed : KnownFile → NameFormat → Type 0
IsNamed known format = (names : List (List ℕ)) × (f : Af) × IsNamedOf known format names f

-- how either command may end, by what it reads
abbrev pub EndsInFormat : Reading → NameFormat → List ℕ → Status → Type 0
EndsInFormat found format file end =
    StopsAt found end (named_input format file) ⊎ ((end ≡ WantOfMemory) ⊎ IsNamed (found.holds file) format)

pub asking_in : (found : Reading) (texts : NamesTexts) (naming : Naming) (kept : Transcript) (end : Status)
    → EndsAsking found texts naming kept end → EndsInFormat found naming.format texts.file end
asking_in found texts naming kept end (inl stops) = inl stops
asking_in found texts naming kept end (inr (inl is)) = inr (inl is)
asking_in found texts naming kept end (inr (inr (inl named))) =
    let file = named.answers in
    inr (inr (
      file.answers.names,
      file.answers.framework,
      record {
        bytes = file.bytes;
        has = file.has;
        reads = file.answers.reads;
      },
    ))
asking_in found texts naming kept end (inr (inr (inr unnamed))) =
    let file = unnamed.asks in
    inr (inr (
      file.asks.names,
      file.asks.framework,
      record {
        bytes = file.bytes;
        has = file.has;
        reads = file.asks.reads;
      },
    ))

pub numbering_in : (found : Reading) (texts : AfTexts) (format : NameFormat) (kept : Transcript) (end : Status)
    → EndsNumbering found texts format kept end → EndsInFormat found format texts.file end
numbering_in found texts format kept end (inl stops) = inl stops
numbering_in found texts format kept end (inr (inl is)) = inr (inl is)
numbering_in found texts format kept end (inr (inr numbered)) =
    let file = numbered.is in
    inr (inr (
      file.is.names,
      file.is.framework,
      record {
        bytes = file.bytes;
        has = file.has;
        reads = file.is.reads;
      },
    ))

module _ (found : Reading) (format : NameFormat) (file bytes : List ℕ) (known : found.holds file ≡ Some (Some bytes))
    (read : ¬ HasReadFault found (named_input format file)) where
  stops_at_line : (end : Status) → length bytes ≤ MAX_INPUT → StopsAt found end (named_input format file)
      → RefusesNamed format bytes end
  stops_at_line (InputRefused (Line of line c)) short stops =
      (stops.0, first_at found (named_input format file) bytes line c known stops.1)
  stops_at_line (InputRefused (Query fault)) short stops = stops
  stops_at_line (InputRefused UnknownName) short stops = stops
  stops_at_line (InputRefused (NoRefutation k)) short stops = stops
  stops_at_line (ReadFault of) short stops = absurd (read stops.1)
  stops_at_line (Limit limit.Input) short stops =
      let long = longer_at (found.holds file) bytes known stops in absurd (omega arith)
  stops_at_line (Limit limit.Extensions) short stops = stops
  stops_at_line (Limit limit.Log) short stops = stops
  stops_at_line Done short stops = stops
  stops_at_line Usage short stops = stops
  stops_at_line WriteFault short stops = tt
  stops_at_line WantOfMemory short stops = tt
  stops_at_line Unknown short stops = stops
  stops_at_line (Rejected rejection) short stops = stops

  -- faulty bytes within the limit are refused by their first fault
  pub refuses_named : (end : Status) → IsFaultyNamed format bytes → length bytes ≤ MAX_INPUT
      → EndsInFormat found format file end → RefusesNamed format bytes end
  refuses_named end faulty short (inl stops) = stops_at_line end short stops
  refuses_named end faulty short (inr (inl is)) =
      let P : Status → Type 0 = RefusesNamed format bytes in subst P (sym is) tt
  refuses_named end faulty short (inr (inr named)) =
      let reads = reads_at (found.holds file) format bytes named.0 named.1 known named.2 in
      absurd (ReadsAs-faultless format bytes named.0 named.1 reads faulty.0 faulty.1 faulty.2)

  stops_at_length : (end : Status) → MAX_INPUT < length bytes → StopsAt found end (named_input format file)
      → RefusesLength end
  stops_at_length (InputRefused (Line of line c)) long stops =
      let short = within_at (found.holds file) bytes stops.1.bytes known stops.1.has in absurd (omega arith)
  stops_at_length (InputRefused (Query fault)) long stops = stops
  stops_at_length (InputRefused UnknownName) long stops = stops
  stops_at_length (InputRefused (NoRefutation k)) long stops = stops
  stops_at_length (ReadFault of) long stops = absurd (read stops.1)
  stops_at_length (Limit limit.Input) long stops = tt
  stops_at_length (Limit limit.Extensions) long stops = stops
  stops_at_length (Limit limit.Log) long stops = stops
  stops_at_length Done long stops = stops
  stops_at_length Usage long stops = stops
  stops_at_length WriteFault long stops = tt
  stops_at_length WantOfMemory long stops = tt
  stops_at_length Unknown long stops = stops
  stops_at_length (Rejected rejection) long stops = stops

  -- bytes over the limit are refused for their length
  pub refuses_long_names : (end : Status) → MAX_INPUT < length bytes → EndsInFormat found format file end
      → RefusesLength end
  refuses_long_names end long (inl stops) = stops_at_length end long stops
  refuses_long_names end long (inr (inl is)) = subst RefusesLength (sym is) tt
  refuses_long_names end long (inr (inr named)) =
      let short = within_at (found.holds file) bytes named.2.bytes known named.2.has in absurd (omega arith)
