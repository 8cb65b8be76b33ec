-- How a check of a CNF with its refutation ends as its row says, and what follows.
use Rattle.std.proofs.Common.{◌≡◌, ◌≢◌, ◌∙◌, ◌⊎◌, ◌<◌, ◌≤◌, ℕ, List, [], codes, length, refl, sym, subst, inl, inr, ⊎_elim, arith, Some}
use Rattle.argue_outside.specs.declared.Role.{Role}
use Rattle.argue_outside.specs.declared.Role.TheVariants as role
use Rattle.argue_words.specs.Words.{LratTexts}
use Rattle.num_text.specs.declared.limit.TheConstants.{MAX_INPUT}
use Rattle.lrat_text.specs.CnfText.{Formula, IsCnfText}
use Rattle.lrat_commands.specs.Verifying.{EndsVerifying, IsCnfOf, IsUnsatisfiableOf, LratEnds, VerifiesFiles, lrat_inputs}
use Rattle.lrat_text.proofs.OneReading.{one_formula, text_no_fault}
use Rattle.lrat_commands.proofs.VerifyingLemmas.{verified_unsatisfiable}
use Rattle.argue_commands.specs.Inputs.{HasReadFault, IsSoundOf, Reading, StopsAt, StopsAtFirst, input}
use Rattle.argue_commands.specs.Texts.{IsRefusal, common_text, text_bytes}
use Rattle.argue_commands.specs.declared.ended.FaultCause.TheVariants as cause
use Rattle.argue_commands.specs.declared.ended.Limit.TheVariants as limit
use Rattle.argue_commands.specs.declared.ended.Refusal.TheVariants.{Line, NoRefutation, Query, UnknownName}
use Rattle.argue_commands.specs.declared.ended.Status.{Status}
use Rattle.argue_commands.specs.declared.ended.Status.TheVariants.{Done, Usage, InputRefused, ReadFault, WriteFault}
use Rattle.argue_commands.specs.declared.ended.Status.TheVariants.{WantOfMemory, Unknown, Limit, Rejected}
use Rattle.argue_commands.proofs.CheckLemmas.{stops_told}
use Rattle.argue_commands.proofs.KnownLemmas.{bytes_at, first_at, longer_at, within_at}
use Rattle.argue_program.specs.Rows.{CountsReads, EndsCommand, IsEndingOf, lrat_row, nothing_kept}
use Rattle.argue_program.specs.Runs.{CnfBytes, IsFaultyCnf, IsLratEnd, LratContents, RefusesBytes, RefusesLength}
use Rattle.argue_program.specs.declared.ended.Transcript.{Transcript}
use Rattle.argue_program.specs.declared.ending.Ending.{Ending}
use Rattle.argue_program.proofs.EndsLemmas.{done_no_memory, no_stop}
use Rattle.argue_program.proofs.RowsLemmas.{CountsReads-none, IsEndingOf-stopped, text_done}

-- ---- the row

abbrev OtherRolesKept : (Role → ℕ) → (Role → ℕ) → Type 0
OtherRolesKept old new = (other : Role) → other ≢ role.Cnf → other ≢ role.Lrat → new other ≡ old other

lrat_counts : (found : Reading) (texts : LratTexts) (end : Status)
    → (((of : Role) → end ≢ ReadFault of) → found.new_count ≡ found.old_count)
    → OtherRolesKept found.old_count found.new_count → CountsReads found (lrat_row found.holds texts) end
lrat_counts found texts end quiet others = record {
  quiet = quiet;
  others = λ other none. others other
      (none (input role.Cnf texts.cnf) (0, omega arith, refl))
      (none (input role.Lrat texts.lrat) (1, omega arith, refl));
}

lrat_cause : (found : Reading) (texts : LratTexts) (end : Status) → EndsVerifying found texts end
    → EndsCommand found (lrat_row found.holds texts) nothing_kept end
lrat_cause found texts end (inl stops) = inl (refl, inl stops)
lrat_cause found texts end (inr (inl memory)) = inl (refl, inr (memory, refl))
lrat_cause found texts end (inr (inr verifies)) = inr (refl, verifies)

module _ (found : Reading) (texts : LratTexts) (ending : Ending) where
  -- a check that stopped ends as its row says
  pub lrat_stopped : (end : Status) → EndsVerifying found texts end
      → (((of : Role) → end ≢ ReadFault of) → found.new_count ≡ found.old_count)
      → OtherRolesKept found.old_count found.new_count
      → (ending.status ≡ end) ⊎ ((ending.status ≡ WantOfMemory) × IsRefusal end) → ending.kept ≡ nothing_kept
      → Some (text_bytes ending.text) ≡ common_text ending.status → ending.files ≡ []
      → IsEndingOf found (lrat_row found.holds texts) ending
  lrat_stopped end ends quiet others status kept text files =
      IsEndingOf-stopped found (lrat_row found.holds texts) ending end (lrat_cause found texts end ends) refl status kept
      text files (lrat_counts found texts end quiet others)

  -- a check that is done verified the refutation
  pub lrat_done : VerifiesFiles found.holds texts Done → found.new_count ≡ found.old_count → ending.status ≡ Done
      → ending.kept ≡ nothing_kept → text_bytes ending.text ≡ codes "VERIFIED\n" → ending.files ≡ []
      → IsEndingOf found (lrat_row found.holds texts) ending
  lrat_done verifies quiet status kept text files = record {
    cause = rw status (rw kept (inr (refl, verifies)));
    text = text_done ending.status (λ t. t ≡ codes "VERIFIED\n") (text_bytes ending.text) status text;
    files = rw status (rw files refl);
    counts = CountsReads-none found (lrat_row found.holds texts) ending.status quiet;
  }

-- ---- what the files hold

-- bytes that read as a CNF have no fault
cnf_sound : (file bytes : List ℕ) (f : Formula) → IsCnfText bytes f → IsSoundOf (input role.Cnf file) bytes
cnf_sound file bytes f reads line (cause.Cnf c) first = text_no_fault bytes f line c reads first
cnf_sound file bytes f reads line (cause.Framework c) first = first
cnf_sound file bytes f reads line (cause.Script c) first = first
cnf_sound file bytes f reads line (cause.Answer c) first = first
cnf_sound file bytes f reads line (cause.Certificate c) first = first
cnf_sound file bytes f reads line (cause.Name c) first = first
cnf_sound file bytes f reads line (cause.Lrat c) first = first

-- the bytes of a refutation have none by themselves
lrat_sound : (file bytes : List ℕ) → IsSoundOf (input role.Lrat file) bytes
lrat_sound file bytes line c first = first

-- where a check is done, the CNF has no model
pub done_unsatisfiable : (found : Reading) (texts : LratTexts) (kept : Transcript)
    → EndsCommand found (lrat_row found.holds texts) kept Done → IsUnsatisfiableOf (found.holds texts.cnf)
done_unsatisfiable found texts kept (inl (nothing, inl stops)) =
    absurd (stops_told found (lrat_inputs texts) Done stops refl)
done_unsatisfiable found texts kept (inl (nothing, inr memory)) = absurd (done_no_memory memory.0)
done_unsatisfiable found texts kept (inr ends) = verified_unsatisfiable found.holds texts ends.1

-- ---- completeness

lrat_end : (f : Formula) (bytes : List ℕ) (end : Status) → LratEnds f bytes end → IsLratEnd f bytes end
lrat_end f bytes Done ends = ends
lrat_end f bytes Usage ends = ends
lrat_end f bytes (InputRefused refusal) ends = ends
lrat_end f bytes (ReadFault of) ends = ends
lrat_end f bytes WriteFault ends = tt
lrat_end f bytes WantOfMemory ends = tt
lrat_end f bytes Unknown ends = ends
lrat_end f bytes (Limit l) ends = ends
lrat_end f bytes (Rejected rejection) ends = ends

module _ (found : Reading) (words : List (List ℕ)) (texts : LratTexts) (f : Formula) (bytes : List ℕ)
    (contents : LratContents found words texts f bytes) where
  same_cnf : (g : Formula) → IsCnfOf (found.holds texts.cnf) g → g ≡ f
  same_cnf g is =
      let has = contents.of_cnf in
      one_formula has.bytes g f
      (subst (λ bs. IsCnfText bs g) (bytes_at (found.holds texts.cnf) has.bytes is.bytes has.known is.has) is.reads)
      has.reads

  no_stops : (end : Status) → ¬ StopsAtFirst found end (lrat_inputs texts)
  no_stops end (inl stops) =
      no_stop found (input role.Cnf texts.cnf) _ (λ bs reads. cnf_sound texts.cnf bs f reads) contents.of_cnf end stops.0
  no_stops end (inr (passed, inl stops)) =
      no_stop found (input role.Lrat texts.lrat) _ (λ bs is. lrat_sound texts.lrat bs) contents.of_lrat end stops.0
  no_stops end (inr (passed, inr stops)) = stops.1

  verifies_end : (end : Status) → VerifiesFiles found.holds texts end → IsLratEnd f bytes end
  verifies_end end checks =
      let has = contents.of_lrat in
      let held : checks.bytes ≡ bytes =
      bytes_at (found.holds texts.lrat) has.bytes checks.bytes has.known checks.of_lrat ∙ has.reads in
      lrat_end f bytes end
      (subst (λ g. LratEnds g bytes end) (same_cnf checks.formula checks.of_cnf)
      (subst (λ bs. LratEnds checks.formula bs end) held checks.ends))

  pub ends_lrat : (kept : Transcript) (end : Status) → EndsCommand found (lrat_row found.holds texts) kept end
      → IsLratEnd f bytes end
  ends_lrat kept end (inl (nothing, inl stops)) = absurd (no_stops end stops)
  ends_lrat kept end (inl (nothing, inr memory)) =
      let P : Status → Type 0 = IsLratEnd f bytes in subst P (sym memory.0) tt
  ends_lrat kept end (inr ends) = verifies_end end ends.1

-- ---- the converses

module _ (found : Reading) (words : List (List ℕ)) (texts : LratTexts) (bytes other : List ℕ)
    (asks : CnfBytes found words texts bytes other) (kept : Transcript) where
  cnf_read : ¬ HasReadFault found (input role.Cnf texts.cnf)
  cnf_read h = ⊎_elim (λ served. h.unserved served) (λ uncounted. uncounted h.counted) asks.no_fault

  lrat_passes : (end : Status) → ¬ StopsAt found end (input role.Lrat texts.lrat)
  lrat_passes end stops =
      no_stop found (input role.Lrat texts.lrat) _ (λ bs is. lrat_sound texts.lrat bs) asks.of_lrat end stops

  stops_at_cnf : (end : Status) → length bytes ≤ MAX_INPUT → StopsAt found end (input role.Cnf texts.cnf)
      → RefusesBytes role.Cnf bytes end
  stops_at_cnf (InputRefused (Line of line c)) short stops =
      (stops.0, first_at found (input role.Cnf texts.cnf) bytes line c asks.known stops.1)
  stops_at_cnf (InputRefused (Query fault)) short stops = stops
  stops_at_cnf (InputRefused UnknownName) short stops = stops
  stops_at_cnf (InputRefused (NoRefutation k)) short stops = stops
  stops_at_cnf (ReadFault of) short stops = absurd (cnf_read stops.1)
  stops_at_cnf (Limit limit.Input) short stops =
      let long = longer_at (found.holds texts.cnf) bytes asks.known stops in absurd (omega arith)
  stops_at_cnf (Limit limit.Extensions) short stops = stops
  stops_at_cnf (Limit limit.Log) short stops = stops
  stops_at_cnf Done short stops = stops
  stops_at_cnf Usage short stops = stops
  stops_at_cnf WriteFault short stops = tt
  stops_at_cnf WantOfMemory short stops = tt
  stops_at_cnf Unknown short stops = stops
  stops_at_cnf (Rejected rejection) short stops = stops

  no_cnf : (end : Status) → VerifiesFiles found.holds texts end → ¬ IsFaultyCnf bytes
  no_cnf end checks faulty =
      let of = checks.of_cnf in
      let reads : IsCnfText bytes checks.formula =
      subst (λ bs. IsCnfText bs checks.formula) (bytes_at (found.holds texts.cnf) bytes of.bytes asks.known of.has)
      of.reads in
      text_no_fault bytes checks.formula faulty.0 faulty.1 reads faulty.2

  no_long_cnf : (end : Status) → VerifiesFiles found.holds texts end → MAX_INPUT < length bytes → ⊥
  no_long_cnf end checks long =
      let of = checks.of_cnf in
      let short = within_at (found.holds texts.cnf) bytes of.bytes asks.known of.has in
      omega arith

  -- faulty bytes within the limit are refused by their first fault
  pub refuses_cnf : (end : Status) → IsFaultyCnf bytes → length bytes ≤ MAX_INPUT
      → EndsCommand found (lrat_row found.holds texts) kept end → RefusesBytes role.Cnf bytes end
  refuses_cnf end faulty short (inl (nothing, inl (inl stops))) = stops_at_cnf end short stops.0
  refuses_cnf end faulty short (inl (nothing, inl (inr (passed, inl stops)))) = absurd (lrat_passes end stops.0)
  refuses_cnf end faulty short (inl (nothing, inl (inr (passed, inr stops)))) = absurd stops.1
  refuses_cnf end faulty short (inl (nothing, inr memory)) =
      let P : Status → Type 0 = RefusesBytes role.Cnf bytes in subst P (sym memory.0) tt
  refuses_cnf end faulty short (inr ends) = absurd (no_cnf end ends.1 faulty)

  stops_at_length : (end : Status) → MAX_INPUT < length bytes → StopsAt found end (input role.Cnf texts.cnf)
      → RefusesLength end
  stops_at_length (InputRefused (Line of line c)) long stops =
      let short = within_at (found.holds texts.cnf) bytes stops.1.bytes asks.known stops.1.has in absurd (omega arith)
  stops_at_length (InputRefused (Query fault)) long stops = stops
  stops_at_length (InputRefused UnknownName) long stops = stops
  stops_at_length (InputRefused (NoRefutation k)) long stops = stops
  stops_at_length (ReadFault of) long stops = absurd (cnf_read stops.1)
  stops_at_length (Limit limit.Input) long stops = tt
  stops_at_length (Limit limit.Extensions) long stops = stops
  stops_at_length (Limit limit.Log) long stops = stops
  stops_at_length Done long stops = stops
  stops_at_length Usage long stops = stops
  stops_at_length WriteFault long stops = tt
  stops_at_length WantOfMemory long stops = tt
  stops_at_length Unknown long stops = stops
  stops_at_length (Rejected rejection) long stops = stops

  -- bytes over the limit are refused for their length
  pub refuses_long_cnf : (end : Status) → MAX_INPUT < length bytes
      → EndsCommand found (lrat_row found.holds texts) kept end → RefusesLength end
  refuses_long_cnf end long (inl (nothing, inl (inl stops))) = stops_at_length end long stops.0
  refuses_long_cnf end long (inl (nothing, inl (inr (passed, inl stops)))) = absurd (lrat_passes end stops.0)
  refuses_long_cnf end long (inl (nothing, inl (inr (passed, inr stops)))) = absurd stops.1
  refuses_long_cnf end long (inl (nothing, inr memory)) = subst RefusesLength (sym memory.0) tt
  refuses_long_cnf end long (inr ends) = absurd (no_long_cnf end ends.1 long)
