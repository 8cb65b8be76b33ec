-- Numbers that tell most names apart, by which a map looks for them.
use Rattle.std.specs.Prelude.{ℕ, ◌++◌}
use Rattle.std.specs.Hash as fed
use Rattle.meaning_atoms.specs.declared.aba_axiom.AbaAxiom.{AbaAxiom}
use Rattle.meaning_atoms.specs.declared.aba_axiom.AbaAxiom.TheVariants.{B1, B2, B3, B4, B5, B6, B7, B8, B9, B9Con, B10, B11, B12, B13, B14, B15, B16, B17, B18, B19}
use Rattle.meaning_atoms.specs.declared.atom.Closure.{Closure}
use Rattle.meaning_atoms.specs.declared.atom.Closure.TheVariants.{Own, Rest}
use Rattle.meaning_atoms.specs.declared.axiom.AfAxiom.{AfAxiom}
use Rattle.meaning_atoms.specs.declared.axiom.AfAxiom.TheVariants.{A1, A2, A3, A4, A5, A6, A7, A8, A9, A10, A11, A12, A13, A14}
use Rattle.meaning_atoms.specs.declared.axiom.AxiomName.TheVariants.{Af as OfAf, Aba as OfAba}
use Rattle.entry_taking.specs.declared.name_digest.Digest.{Digest}
use Rattle.entry_taking.specs.declared.names.StepName.{StepName}
use Rattle.entry_taking.specs.declared.names.StepName.TheVariants.{Axiom, Entry}

abbrev pub closure_number : Closure → ℕ
closure_number Own = 1
closure_number Rest = 2

abbrev pub digest_from : ℕ → ℕ → ℕ → ℕ → ℕ → Digest
digest_from row closure first second third =
    record { row = row; closure = closure; first = first; second = second; third = third }

abbrev pub af_digest : AfAxiom → Digest
af_digest (A1 a) = digest_from 1 0 a 0 0
af_digest (A2 b a) = digest_from 2 0 b a 0
af_digest (A3 b a) = digest_from 3 0 b a 0
af_digest (A4 b a) = digest_from 4 0 b a 0
af_digest (A5 a i j) = digest_from 5 0 a i j
af_digest (A6 a i) = digest_from 6 0 a i 0
af_digest (A7 a) = digest_from 7 0 a 0 0
af_digest (A8 a i j) = digest_from 8 0 a i j
af_digest (A9 a i) = digest_from 9 0 a i 0
af_digest (A10 a) = digest_from 10 0 a 0 0
af_digest (A11 a) = digest_from 11 0 a 0 0
af_digest (A12 a) = digest_from 12 0 a 0 0
af_digest (A13 a) = digest_from 13 0 a 0 0
af_digest (A14 part) = digest_from 14 0 part 0 0

-- the rows of a loop clause are left out
abbrev pub aba_digest : AbaAxiom → Digest
aba_digest (B1 a) = digest_from 21 0 a 0 0
aba_digest (B2 a) = digest_from 22 0 a 0 0
aba_digest (B3 a) = digest_from 23 0 a 0 0
aba_digest (B4 k) = digest_from 24 (closure_number k) 0 0 0
aba_digest (B5 k r x) = digest_from 25 (closure_number k) r x 0
aba_digest (B6 k r x) = digest_from 26 (closure_number k) r x 0
aba_digest (B7 k r i j) = digest_from 27 (closure_number k) r i j
aba_digest (B8 k r i) = digest_from 28 (closure_number k) r i 0
aba_digest (B9 k x) = digest_from 29 (closure_number k) x 0 0
aba_digest (B9Con a c) = digest_from 30 0 a c 0
aba_digest (B10 k x i j) = digest_from 31 (closure_number k) x i j
aba_digest (B11 k x i) = digest_from 32 (closure_number k) x i 0
aba_digest (B12 a c) = digest_from 33 0 a c 0
aba_digest (B13 a c) = digest_from 34 0 a c 0
aba_digest (B14 a) = digest_from 35 0 a 0 0
aba_digest (B15 a) = digest_from 36 0 a 0 0
aba_digest (B16 part) = digest_from 37 0 part 0 0
aba_digest (B17 k x rows) = digest_from 38 (closure_number k) x 0 0
aba_digest (B18 k a i j) = digest_from 39 (closure_number k) a i j
aba_digest (B19 k a i) = digest_from 40 (closure_number k) a i 0

abbrev pub digest : StepName → Digest
digest (Axiom (OfAf name)) = af_digest name
digest (Axiom (OfAba name)) = aba_digest name
digest (Entry session step) = digest_from 0 0 session step 0

-- what is fed to a hash of the name
abbrev pub fed_in : StepName → fed.HashWrites
fed_in name =
    fed.u32 (digest name).row ++ fed.u32 (digest name).closure ++ fed.u32 (digest name).first
    ++ fed.u32 (digest name).second ++ fed.u32 (digest name).third
