use Rattle.std.proofs.Common.{ltb, rules}
use Rattle.std.proofs.lemmas.Bool.{false≢true}
use Rattle.std.proofs.lemmas.List.Sorted.{IsPartitionPoint-from_clause}
use Rattle.meaning_atoms.specs.declared.loop_rows.LoopRow.{LoopRow}
use Rattle.meaning_atoms.proofs.LoopForms.{atom_at, atom_found, atom_past, rows_parted}
use Rattle.meaning_atoms.proofs.loop_rows.has_atom.Goals as goal

pub returns-in-Some : goal.returns-in-Some
returns-in-Some c =
    let cut = IsPartitionPoint-from_clause (λ (r : LoopRow). ltb r.atom c.args.x) _ _
    c.partition_point-index.ensures.partitioned (rows_parted _ _ c.requires) (λ a r q k. search rules) in
    let lookup = c.in-Some.ensures.lookup in (
      λ t. let found = atom_found c.args.rows.now c.args.x c.partition_point-index.result c.in-Some.row.now
          lookup.3.0 lookup.1 in search rules,
      λ h. let is = atom_at c.args.rows.now c.args.x c.partition_point-index.result c.in-Some.row.now c.requires cut
          lookup.3.0 lookup.1 h in search rules,
    )

pub returns-in-None : goal.returns-in-None
returns-in-None c =
    let cut = IsPartitionPoint-from_clause (λ (r : LoopRow). ltb r.atom c.args.x) _ _
    c.partition_point-index.ensures.partitioned (rows_parted _ _ c.requires) (λ a r q k. search rules) in
    (λ t. absurd (false≢true t), λ h. absurd (atom_past _ _ _ cut c.in-None.ensures.lookup.3 h))
