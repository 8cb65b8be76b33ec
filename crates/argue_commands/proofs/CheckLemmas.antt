-- The inputs of a check, read one after the other.
use Rattle.std.proofs.Common.{◌≡◌, ◌≢◌, ◌∙◌, ◌⊎◌, ◌<◌, ℕ, zero, suc, arith, List, [], ◌∷◌, refl, sym, subst, inl}
use Rattle.std.proofs.Common.{inr, ⊎_elim, Err, Ok}
use Rattle.std.specs.Prelude.{Contains, IsSome, IfErr, Result}
use Rattle.argue_outside.specs.Outside.{HoldsStill, KnownFile}
use Rattle.argue_outside.specs.declared.Role.{Role}
use Rattle.argue_outside.specs.declared.Role.TheVariants as role
use Rattle.argue_words.specs.Words.{CheckTexts}
use Rattle.semantics.specs.Frameworks.{Framework as AnyFramework}
use Rattle.framework_text.specs.FrameworkText.{IsFirstFault, ReadsAs}
use Rattle.framework_text.proofs.Readings.{ReadsAs-faultless}
use Rattle.af_format.specs.Faults.{IfLine}
use Rattle.af_format.specs.declared.fault.ReadFault.{ReadFault as FrameworkFault}
use Rattle.af_format.specs.declared.fault.ReadFault.TheVariants as fault
use Rattle.iccma_tasks.specs.AnswerText.{filled_fields, IsToldOf, ReadsAs as AnswerReadsAs}
use Rattle.iccma_tasks.specs.Tasks.{Asked}
use Rattle.iccma_tasks.specs.declared.answer.Answer.{Answer}
use Rattle.iccma_tasks.specs.declared.fault.AnswerFault.{AnswerFault}
use Rattle.iccma_tasks.specs.declared.fault.AnswerFault.TheVariants as answer_fault
use Rattle.iccma_tasks.proofs.Exact.{exact_read}
use Rattle.certificate_text.specs.Reading.{IsRead as IsCertRead, ReadsAs as CertReadsAs}
use Rattle.certificate_text.proofs.OneOutcome.{one_reading}
use Rattle.certificate_claims.specs.declared.certificate.Certificate.{Certificate}
use Rattle.certificate_text.specs.declared.fault.CertFault.{CertFault}
use Rattle.certificate_text.specs.declared.fault.CertFault.TheVariants as certificate_fault
use Rattle.argue_commands.specs.Checks.{AcceptsFiles, CheckEnds, ChecksFiles, EndsChecking, HasCheckBytes, IsChecked}
use Rattle.argue_commands.specs.Checks.{IsTextFault, answer_status, certificate_status, check_inputs}
use Rattle.argue_commands.specs.Inputs.{EndsReading, Follow, Input, IsRead, IsSoundIn, IsUnrefused, Passes}
use Rattle.argue_commands.specs.Inputs.{Reading, StopsAt, StopsAtFirst, StopsReading, input, status_of_fault}
use Rattle.argue_commands.specs.Texts.{common_text}
use Rattle.argue_commands.specs.declared.checking.CheckBytes.{CheckBytes}
use Rattle.argue_commands.specs.declared.checking.Checked.{Checked}
use Rattle.edit_rules.specs.Kinds.{framework_of}
use Rattle.argue_commands.specs.declared.ended.FaultCause.TheVariants as cause
use Rattle.argue_commands.specs.declared.ended.Limit.TheVariants as limit
use Rattle.argue_commands.specs.declared.ended.Refusal.TheVariants.{Line, NoRefutation, Query, UnknownName}
use Rattle.argue_commands.specs.declared.ended.Status.{Status}
use Rattle.argue_commands.specs.declared.ended.Status.TheVariants.{Done, Usage, InputRefused, ReadFault}
use Rattle.argue_commands.specs.declared.ended.Status.TheVariants.{WriteFault, WantOfMemory, Unknown, Limit}
use Rattle.argue_commands.specs.declared.ended.Status.TheVariants.{Rejected}

-- ---- reading

follow_unrefused : (found : Reading) (more : List Input) (end : Status) → IsUnrefused end → Follow found end more
follow_unrefused found more Done h = tt
follow_unrefused found more Usage h = tt
follow_unrefused found more (InputRefused refusal) h = absurd h
follow_unrefused found more (ReadFault of) h = tt
follow_unrefused found more WriteFault h = tt
follow_unrefused found more WantOfMemory h = tt
follow_unrefused found more Unknown h = tt
follow_unrefused found more (Limit l) h = tt
follow_unrefused found more (Rejected rejection) h = tt

passes_unrefused : (found : Reading) (one : Input) (end : Status) → IsUnrefused end → IsRead found one
    → Passes found end one
passes_unrefused found one Done h r = r
passes_unrefused found one Usage h r = r
passes_unrefused found one (InputRefused refusal) h r = absurd h
passes_unrefused found one (ReadFault of) h r = r
passes_unrefused found one WriteFault h r = r
passes_unrefused found one WantOfMemory h r = r
passes_unrefused found one Unknown h r = r
passes_unrefused found one (Limit l) h r = r
passes_unrefused found one (Rejected rejection) h r = r

-- the first input ends the run
pub first_stops : (found : Reading) (one : Input) (more : List Input) (end : Status) → EndsReading found one end
    → IsUnrefused end → StopsReading found (one ∷ more) end
first_stops found one more end (inl stops) h = inl (inl (stops, follow_unrefused found more end h))
first_stops found one more end (inr memory) h = inr memory

-- a later one does
pub later_stops : (found : Reading) (one : Input) (more : List Input) (end : Status) → IsRead found one → IsUnrefused
    end
    → StopsReading found more end → StopsReading found (one ∷ more) end
later_stops found one more end r h (inl stops) = inl (inr (passes_unrefused found one end h r, stops))
later_stops found one more end r h (inr memory) = inr memory

abbrev pub parts : (List ℕ → KnownFile) → (List ℕ → Type 0) → (Role → ℕ) → (Role → ℕ) → Reading
parts h S c n = record { holds = h; Serves = S; old_count = c; new_count = n }

-- what a later call knows of the files is what was known at first
still_stops : (h : List ℕ → KnownFile) (S S' : List ℕ → Type 0) (c n : Role → ℕ) (one : Input) (end : Status)
    → HoldsStill S S' → StopsAt (parts h S' c n) end one → StopsAt (parts h S c n) end one
still_stops h S S' c n one (InputRefused (Line of line cause)) still stops =
    (stops.0, record { bytes = stops.1.bytes; has = stops.1.has; first = stops.1.first })
still_stops h S S' c n one (InputRefused (Query fault)) still stops = absurd stops
still_stops h S S' c n one (InputRefused UnknownName) still stops = absurd stops
still_stops h S S' c n one (InputRefused (NoRefutation k)) still stops = absurd stops
still_stops h S S' c n one (ReadFault of) still stops =
    (stops.0, record { counted = stops.1.counted; unserved = λ served. stops.1.unserved (still one.file served) })
still_stops h S S' c n one (Limit limit.Input) still stops = stops
still_stops h S S' c n one (Limit limit.Extensions) still stops = absurd stops
still_stops h S S' c n one (Limit limit.Log) still stops = absurd stops
still_stops h S S' c n one Unknown still stops = absurd stops
still_stops h S S' c n one Done still stops = absurd stops
still_stops h S S' c n one Usage still stops = absurd stops
still_stops h S S' c n one WriteFault still stops = absurd stops
still_stops h S S' c n one WantOfMemory still stops = absurd stops
still_stops h S S' c n one (Rejected rejection) still stops = absurd stops

pub moved : (h h' : List ℕ → KnownFile) (S S' : List ℕ → Type 0) (c c' n : Role → ℕ) (one : Input) (end : Status)
    → h' ≡ h → HoldsStill S S' → c' ≡ c → EndsReading (parts h' S' c' n) one end → EndsReading (parts h S c n) one end
moved h h' S S' c c' n one end holds still counts (inl stops) =
    let P : (List ℕ → KnownFile) → Type 0 = λ k. StopsAt (parts k S' c' n) end one in
    let Q : (Role → ℕ) → Type 0 = λ k. StopsAt (parts h S' k n) end one in
    inl (still_stops h S S' c n one end still (subst Q counts (subst P holds stops)))
moved h h' S S' c c' n one end holds still counts (inr memory) = inr memory

-- ---- texts

pub framework_sound : (bytes : List ℕ) (f : AnyFramework) → ReadsAs bytes f → IsSoundIn (role.Framework 1) bytes
framework_sound bytes f reads line (cause.Framework c) first = ReadsAs-faultless bytes f reads line c first.stands
framework_sound bytes f reads line (cause.Script c) first = first
framework_sound bytes f reads line (cause.Answer c) first = first
framework_sound bytes f reads line (cause.Certificate c) first = first
framework_sound bytes f reads line (cause.Name c) first = first
framework_sound bytes f reads line (cause.Cnf c) first = first
framework_sound bytes f reads line (cause.Lrat c) first = first

pub answer_sound : (bytes : List ℕ) (a : Answer) → AnswerReadsAs (filled_fields bytes) a → IsSoundIn role.Answer bytes
answer_sound bytes a reads line (cause.Answer c) first =
    ⊎_elim (λ e. cc e) (λ e. cc e) (exact_read bytes (Err (answer_fault.At line c)) tt first a reads)
answer_sound bytes a reads line (cause.Framework c) first = first
answer_sound bytes a reads line (cause.Script c) first = first
answer_sound bytes a reads line (cause.Certificate c) first = first
answer_sound bytes a reads line (cause.Name c) first = first
answer_sound bytes a reads line (cause.Cnf c) first = first
answer_sound bytes a reads line (cause.Lrat c) first = first

pub certificate_sound : (bytes : List ℕ) (k : Certificate) → CertReadsAs bytes (Ok k) → IsSoundIn role.Certificate bytes
certificate_sound bytes k reads line (cause.Certificate c) first =
    let e = one_reading bytes (Ok k) (Err (certificate_fault.At line c)) reads first in
    cc e
certificate_sound bytes k reads line (cause.Framework c) first = first
certificate_sound bytes k reads line (cause.Script c) first = first
certificate_sound bytes k reads line (cause.Answer c) first = first
certificate_sound bytes k reads line (cause.Name c) first = first
certificate_sound bytes k reads line (cause.Cnf c) first = first
certificate_sound bytes k reads line (cause.Lrat c) first = first

-- a fault of the framework is the first of all
pub framework_fault : (bytes : CheckBytes) (f : FrameworkFault)
    → IfLine f (λ told. IsFirstFault bytes.framework told.line told.cause)
    → IsTextFault bytes (status_of_fault (role.Framework 1) f)
framework_fault bytes (fault.Line told) first = inl (refl, first)
framework_fault bytes fault.Memory first = tt

pub answer_fault_first : (bytes : CheckBytes) (f : AnswerFault) (g : AnyFramework) → ReadsAs bytes.framework g
    → IsToldOf bytes.answer f → IsTextFault bytes (answer_status f)
answer_fault_first bytes (answer_fault.At line c) g reads first =
    inr (inl (refl, framework_sound bytes.framework g reads, first))
answer_fault_first bytes answer_fault.Memory g reads first = tt

pub certificate_fault_first : (bytes : CheckBytes) (f : CertFault) (g : AnyFramework) (a : Answer) → ReadsAs
    bytes.framework g
    → AnswerReadsAs (filled_fields bytes.answer) a → IsCertRead bytes.certificate (Err f)
    → IsTextFault bytes (certificate_status f)
certificate_fault_first bytes (certificate_fault.At line c) g a reads answers first =
    inr (inr (refl, framework_sound bytes.framework g reads, answer_sound bytes.answer a answers, first))
certificate_fault_first bytes certificate_fault.Memory g a reads answers first = tt

-- ---- the whole check

none_behind : (found : Reading) (x : Input) → Contains [] x → IsRead found x
none_behind found x c = let lt : c.0 < 0 = c.1 in absurd (omega arith)

one_behind : (found : Reading) (texts : CheckTexts) (bytes : CheckBytes) → HasCheckBytes found.holds texts bytes
    → (x : Input) → Contains (input role.Certificate texts.certificate ∷ []) x → IsRead found x
one_behind found texts bytes has x (zero, lt, is) = subst (IsRead found) is (bytes.certificate, has.certificate)
one_behind found texts bytes has x (suc k, lt, is) = absurd (omega arith)

both_behind : (found : Reading) (texts : CheckTexts) (bytes : CheckBytes) → HasCheckBytes found.holds texts bytes
    → (x : Input) → Contains (input role.Answer texts.answer ∷ input role.Certificate texts.certificate ∷ []) x
    → IsRead found x
both_behind found texts bytes has x (zero, lt, is) = subst (IsRead found) is (bytes.answer, has.answer)
both_behind found texts bytes has x (suc k, lt, is) = one_behind found texts bytes has x (k, omega arith, is)

-- a fault of a text ends the run at its input
pub text_stops : (found : Reading) (texts : CheckTexts) (bytes : CheckBytes) (end : Status)
    → HasCheckBytes found.holds texts bytes → IsTextFault bytes end → StopsReading found (check_inputs texts) end
text_stops found texts bytes (InputRefused (Line of line c)) has (inl first) =
    inl (inl (
      (first.0, record { bytes = bytes.framework; has = has.framework; first = first.1 }),
      both_behind found texts bytes has,
    ))
text_stops found texts bytes (InputRefused (Line of line c)) has (inr (inl second)) =
    inl (inr (
      record { bytes = bytes.framework; has = has.framework; faultless = second.1 },
      inl (
        (second.0, record { bytes = bytes.answer; has = has.answer; first = second.2 }),
        one_behind found texts bytes
            has,
      ),
    ))
text_stops found texts bytes (InputRefused (Line of line c)) has (inr (inr third)) =
    inl (inr (
      record { bytes = bytes.framework; has = has.framework; faultless = third.1 },
      inr (
        record { bytes = bytes.answer; has = has.answer; faultless = third.2 },
        inl (
          (third.0, record { bytes = bytes.certificate; has = has.certificate; first = third.3 }),
          none_behind
              found,
        ),
      ),
    ))
text_stops found texts bytes (InputRefused (Query fault)) has is = absurd is
text_stops found texts bytes (InputRefused UnknownName) has is = absurd is
text_stops found texts bytes (InputRefused (NoRefutation k)) has is = absurd is
text_stops found texts bytes WantOfMemory has is = inr refl
text_stops found texts bytes Unknown has is = absurd is
text_stops found texts bytes Done has is = absurd is
text_stops found texts bytes Usage has is = absurd is
text_stops found texts bytes (ReadFault of) has is = absurd is
text_stops found texts bytes WriteFault has is = absurd is
text_stops found texts bytes (Limit l) has is = absurd is
text_stops found texts bytes (Rejected rejection) has is = absurd is

pub stops_told : (found : Reading) (inputs : List Input) (end : Status) → StopsAtFirst found end inputs → end ≢ Done
stops_told found [] end stops is = stops
stops_told found (one ∷ more) end (inl first) is =
    let P : Status → Type 0 = λ e. StopsAt found e one in subst P is first.0
stops_told found (one ∷ more) end (inr later) is = stops_told found more end later.1 is

not_done_told : (end : Status) → end ≢ Done → IsSome (common_text end)
not_done_told Done other = absurd (other refl)
not_done_told Usage other = refl
not_done_told (InputRefused refusal) other = refl
not_done_told (ReadFault of) other = refl
not_done_told WriteFault other = refl
not_done_told WantOfMemory other = refl
not_done_told Unknown other = refl
not_done_told (Limit l) other = refl
not_done_told (Rejected rejection) other = refl

-- a run that reading ended has a text of its own
pub reading_told : (found : Reading) (inputs : List Input) (end : Status) → StopsReading found inputs end
    → IsSome (common_text end)
reading_told found inputs end (inl stops) = not_done_told end (stops_told found inputs end stops)
reading_told found inputs end (inr memory) = not_done_told end
    (λ is. let e : WantOfMemory ≡ Done = sym memory ∙ is in cc)

pub ends_reading : (found : Reading) (asked : Asked) (texts : CheckTexts) (end : Status)
    → StopsReading found (check_inputs texts) end → EndsChecking found asked texts end
ends_reading found asked texts end (inl stops) = inl stops
ends_reading found asked texts end (inr memory) = inr (inl memory)

-- a text's fault is no fault of reading
pub text_quiet : (bytes : CheckBytes) (end : Status) → IsTextFault bytes end → (of : Role) → end ≢ ReadFault of
text_quiet bytes end is of e = let P : Status → Type 0 = IsTextFault bytes in subst P e is

-- what was read, checked
pub checks_from : (holds : List ℕ → KnownFile) (asked : Asked) (texts : CheckTexts) (bytes : CheckBytes)
    (read : Checked)
    (end : Status) → HasCheckBytes holds texts bytes → IsChecked bytes read
    → CheckEnds (framework_of read.framework) asked read.answer read.certificate end → ChecksFiles holds asked texts end
checks_from holds asked texts bytes read end has is ends = record {
  framework = framework_of read.framework;
  answer = read.answer;
  certificate = read.certificate;
  of_framework = record { bytes = bytes.framework; has = has.framework; reads = is.of_framework };
  of_answer = record { bytes = bytes.answer; has = has.answer; reads = is.of_answer };
  of_certificate = record { bytes = bytes.certificate; has = has.certificate; reads = is.of_certificate };
  ends = ends;
}

-- what was read, accepted
pub accepts_from : (holds : List ℕ → KnownFile) (asked : Asked) (texts : CheckTexts) (bytes : CheckBytes)
    (read : Checked) → HasCheckBytes holds texts bytes → IsChecked bytes read
    → CheckEnds (framework_of read.framework) asked read.answer read.certificate Done
    → AcceptsFiles holds asked texts read
accepts_from holds asked texts bytes read has is ends = record {
  of_framework = record { bytes = bytes.framework; has = has.framework; reads = is.of_framework };
  of_answer = record { bytes = bytes.answer; has = has.answer; reads = is.of_answer };
  of_certificate = record { bytes = bytes.certificate; has = has.certificate; reads = is.of_certificate };
  accepts = ends;
}

-- an accepted certificate ends the check so
pub checks_accepted : (holds : List ℕ → KnownFile) (asked : Asked) (texts : CheckTexts) (read : Checked)
    → AcceptsFiles holds asked texts read → ChecksFiles holds asked texts Done
checks_accepted holds asked texts read accepts = record {
  framework = framework_of read.framework;
  answer = read.answer;
  certificate = read.certificate;
  of_framework = accepts.of_framework;
  of_answer = accepts.of_answer;
  of_certificate = accepts.of_certificate;
  ends = accepts.accepts;
}

pub judged_err : {T : Type 0} (found : Reading) (asked : Asked) (texts : CheckTexts) (bytes : CheckBytes)
    (read : Checked) (r : Result T Status) → HasCheckBytes found.holds texts bytes → IsChecked bytes read
    → IfErr r (λ end. (end ≡ WantOfMemory) ⊎ CheckEnds (framework_of read.framework) asked read.answer read.certificate
    end)
    → IfErr r (EndsChecking found asked texts)
judged_err found asked texts bytes read (Ok x) has is ends = tt
judged_err found asked texts bytes read (Err end) has is (inl memory) = inr (inl memory)
judged_err found asked texts bytes read (Err end) has is (inr ends) =
    inr (inr (checks_from found.holds asked texts bytes read end has is ends))

pub text_told : (bytes : CheckBytes) (end : Status) → IsTextFault bytes end → IsSome (common_text end)
text_told bytes end is = not_done_told end (λ e. let P : Status → Type 0 = IsTextFault bytes in subst P e is)
