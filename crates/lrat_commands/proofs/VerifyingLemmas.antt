-- How a check of a CNF with its refutation ends on the bytes of its files.
use Rattle.std.proofs.Common.{◌≡◌, ◌⊎◌, ℕ, zero, suc, arith, List, [], ◌∷◌, refl, subst, inl, inr, Result, Ok, Err}
use Rattle.std.specs.Prelude.{Contains, IfErr, IsSome, OnOk}
use Rattle.argue_outside.specs.Outside.{HoldsStill, KnownFile}
use Rattle.argue_outside.specs.declared.Role.{Role}
use Rattle.argue_outside.specs.declared.Role.TheVariants as role
use Rattle.argue_words.specs.Words.{LratTexts}
use Rattle.lrat_text.specs.CnfText.{Formula, IsCnfRead, IsCnfText}
use Rattle.lrat_text.specs.LratText.{IsChecked}
use Rattle.lrat_text.specs.declared.fault.CnfFault.{CnfFault}
use Rattle.lrat_text.specs.declared.fault.CnfFault.TheVariants as cnf_fault
use Rattle.lrat_text.specs.declared.fault.LratFault.{LratFault}
use Rattle.lrat_text.specs.declared.fault.LratFault.TheVariants as lrat_fault
use Rattle.lrat_text.proofs.OneReading.{told_unsatisfiable}
use Rattle.argue_commands.specs.Inputs.{EndsReading, Input, IsRead, IsUnrefused, Reading, StopsReading, input}
use Rattle.argue_commands.specs.Texts.{common_text}
use Rattle.argue_commands.specs.declared.ended.Refusal.TheVariants.{Line, NoRefutation, Query, UnknownName}
use Rattle.argue_commands.specs.declared.ended.Status.{Status}
use Rattle.argue_commands.specs.declared.ended.Status.TheVariants.{Done, Usage, InputRefused, ReadFault, WriteFault}
use Rattle.argue_commands.specs.declared.ended.Status.TheVariants.{WantOfMemory, Unknown, Limit, Rejected}
use Rattle.argue_commands.proofs.CheckLemmas.{first_stops, later_stops, moved, parts}
use Rattle.lrat_commands.specs.Verifying.{EndsVerifying, HasLratBytes, IsUnsatisfiableOf, LratEnds, StopsCnf, VerifiesFiles}
use Rattle.lrat_commands.specs.Verifying.{cnf_status, lrat_inputs, lrat_status}
use Rattle.lrat_commands.specs.declared.verifying.LratBytes.{LratBytes}

-- ---- reading

-- the first of two inputs ends the run
pub first_of_two : (found : Reading) (a b : Input) (end : Status) → EndsReading found a end → IsUnrefused end
    → StopsReading found (a ∷ b ∷ []) end
first_of_two found a b end ends unrefused = first_stops found a (b ∷ []) end ends unrefused

-- the second does, where the first has been read and counts no fault
pub second_of_two : (h h' : List ℕ → KnownFile) (S S' : List ℕ → Type 0) (c c' n : Role → ℕ) (a b : Input) (end : Status)
    → h' ≡ h → HoldsStill S S' → c' ≡ c → EndsReading (parts h' S' c' n) b end → IsRead (parts h S c n) a
    → IsUnrefused end → StopsReading (parts h S c n) (a ∷ b ∷ []) end
second_of_two h h' S S' c c' n a b end holds still counts ends is_read unrefused =
    later_stops (parts h S c n) a (b ∷ []) end is_read unrefused (first_stops (parts h S c n) b [] end
    (moved h h' S S' c c' n b end holds still counts ends) unrefused)

-- ---- texts

pub cnf_stops : (bytes : List ℕ) (fault : CnfFault) → IsCnfRead bytes (Err fault) → StopsCnf bytes (cnf_status fault)
cnf_stops bytes (cnf_fault.At line cause) first = (refl, first)
cnf_stops bytes cnf_fault.Memory first = tt

pub lrat_stops : (f : Formula) (bytes : List ℕ) (fault : LratFault) → IsChecked f bytes (Err fault)
    → (lrat_status fault ≡ WantOfMemory) ⊎ LratEnds f bytes (lrat_status fault)
lrat_stops f bytes (lrat_fault.At line cause) first = inr (refl, first)
lrat_stops f bytes lrat_fault.Memory first = inl refl

pub lrat_told : (fault : LratFault) → IsSome (common_text (lrat_status fault))
lrat_told (lrat_fault.At line cause) = refl
lrat_told lrat_fault.Memory = refl

-- ---- files

module _ (found : Reading) (texts : LratTexts) (bytes : LratBytes) (has : HasLratBytes found.holds texts bytes) where
  lrat_behind : (x : Input) → Contains (input role.Lrat texts.lrat ∷ []) x → IsRead found x
  lrat_behind x (zero, lt, is) = subst (IsRead found) is (bytes.lrat, has.lrat)
  lrat_behind x (suc k, lt, is) = absurd (omega arith)

  -- a CNF with a fault ends the run at its file
  cnf_ends : (end : Status) → StopsCnf bytes.cnf end → EndsVerifying found texts end
  cnf_ends (InputRefused (Line of line cause)) stops =
      inl (inl ((stops.0, record { bytes = bytes.cnf; has = has.cnf; first = stops.1 }), lrat_behind))
  cnf_ends (InputRefused (Query fault)) stops = absurd stops
  cnf_ends (InputRefused UnknownName) stops = absurd stops
  cnf_ends (InputRefused (NoRefutation k)) stops = absurd stops
  cnf_ends WantOfMemory stops = inr (inl refl)
  cnf_ends Done stops = absurd stops
  cnf_ends Usage stops = absurd stops
  cnf_ends (ReadFault of) stops = absurd stops
  cnf_ends WriteFault stops = absurd stops
  cnf_ends Unknown stops = absurd stops
  cnf_ends (Limit l) stops = absurd stops
  cnf_ends (Rejected rejection) stops = absurd stops

  pub cnf_err : (end : Status) → StopsCnf bytes.cnf end → EndsVerifying found texts end
  cnf_err end stops = cnf_ends end stops

verifies : (holds : List ℕ → KnownFile) (texts : LratTexts) (bytes : LratBytes) (f : Formula) (end : Status)
    → HasLratBytes holds texts bytes → IsCnfText bytes.cnf f → LratEnds f bytes.lrat end
    → VerifiesFiles holds texts end
verifies holds texts bytes f end has reads ends = record {
  formula = f;
  bytes = bytes.lrat;
  of_cnf = record { bytes = bytes.cnf; has = has.cnf; reads = reads };
  of_lrat = has.lrat;
  ends = ends;
}

-- what is said of the texts is said of the files
pub verified_ok : {T : Type 0} (holds : List ℕ → KnownFile) (texts : LratTexts) (bytes : LratBytes) (f : Formula)
    (r : Result T Status) → HasLratBytes holds texts bytes → IsCnfText bytes.cnf f
    → OnOk r (LratEnds f bytes.lrat Done) → OnOk r (VerifiesFiles holds texts Done)
verified_ok holds texts bytes f (Ok x) has reads ends = verifies holds texts bytes f Done has reads ends
verified_ok holds texts bytes f (Err end) has reads ends = tt

pub verified_err : {T : Type 0} (found : Reading) (texts : LratTexts) (bytes : LratBytes) (f : Formula)
    (r : Result T Status) → HasLratBytes found.holds texts bytes → IsCnfText bytes.cnf f
    → IfErr r (λ end. (end ≡ WantOfMemory) ⊎ LratEnds f bytes.lrat end) → IfErr r (EndsVerifying found texts)
verified_err found texts bytes f (Ok x) has reads ends = tt
verified_err found texts bytes f (Err end) has reads (inl memory) = inr (inl memory)
verified_err found texts bytes f (Err end) has reads (inr ends) =
    inr (inr (verifies found.holds texts bytes f end has reads ends))

-- what ends the reading of the files ends the check
pub reading_ends : (found : Reading) (texts : LratTexts) (end : Status) → StopsReading found (lrat_inputs texts) end
    → EndsVerifying found texts end
reading_ends found texts end (inl stops) = inl stops
reading_ends found texts end (inr memory) = inr (inl memory)

-- ---- what follows

-- a CNF whose refutation is verified has no model
pub verified_unsatisfiable : (holds : List ℕ → KnownFile) (texts : LratTexts) → VerifiesFiles holds texts Done
    → IsUnsatisfiableOf (holds texts.cnf)
verified_unsatisfiable holds texts is = record {
  bytes = is.of_cnf.bytes;
  has = is.of_cnf.has;
  is = told_unsatisfiable is.of_cnf.bytes is.bytes
      (record { f = is.formula; read = is.of_cnf.reads; checked = is.ends });
}
