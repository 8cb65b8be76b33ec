-- Clauses that sessions hand each other.
use Rattle.std.specs.Prelude.{All}
use Rattle.certificate_claims.specs.meaning_atoms.specs.Atoms.{IsLit}
use Rattle.certificate_claims.specs.meaning_atoms.specs.Literals.{AsksNothing}
use Rattle.certificate_claims.specs.meaning_atoms.specs.Worlds.{IsValid}
use Rattle.certificate_claims.specs.meaning_atoms.specs.declared.axiom.AxiomName.{AxiomName}
use Rattle.certificate_claims.specs.Refutations.{axiom_clause}
use Rattle.oracle_face.specs.declared.entry.Entry.{Entry}
use Rattle.oracle_face.specs.declared.entry.EntryName.{EntryName}
use Rattle.oracle_face.specs.declared.entry.EntryOrigin.TheVariants.{Axiom}

-- the entry's clause is true in every world of every framework, whatever the side clauses; it asks for none, and its
-- atoms are within their bounds
pub record IsShareable (entry : Entry) : Type 0 where
  pub valid : IsValid entry.clause
  pub plain : AsksNothing entry.clause
  pub within : All IsLit entry.clause

-- the entry of an axiom
abbrev pub axiom_entry : AxiomName → EntryName → Entry
axiom_entry rule name = record { clause = axiom_clause rule; name = name; origin = Axiom rule }
