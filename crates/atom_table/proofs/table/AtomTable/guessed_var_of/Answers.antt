use Rattle.std.proofs.Common.{◌≡◌, ◌∙◌, ap}
use Rattle.indexmap.specs.IndexSet.{insert_key}
use Rattle.meaning_atoms.specs.contracts.atom.AtomPartialEq.TheImpl.{eq-value as atom_eq}
use Rattle.std.proofs.lemmas.Map.Made.{AllPairs-from_IsDistinct}
use Rattle.meaning_atoms.proofs.SameAtoms.{atom_decides}
use Rattle.atom_table.specs.Numbering.{Numbers}
use Rattle.atom_table.proofs.NumberingLemmas.{members_kept, numbered}
use Rattle.atom_table.proofs.table.AtomTable.guessed_var_of.Goals as goal

pub invariant_of-self-2 : goal.invariant_of-self-2
invariant_of-self-2 c =
    let old = c.self.inside.atoms.keys in
    let numbers : Numbers old c.insert_full.new.self.keys c.args.atom.now c.in_ok-var.var
    = numbered old c.insert_full.new.self.keys c.args.atom.now c.in_ok-var.var c.in_ok-var.ensures.stored
    c.in_ok-var.ensures.keys in
    record {
      different = AllPairs-from_IsDistinct atom_decides _ c.in_ok-var.ensures.unique;
      members = members_kept old _ _ _ c.self.inside.members.items numbers c.self.invariant.members;
    }

pub returns-clause-ok : goal.returns-clause-ok
returns-clause-ok c =
    let keys : c.self.inside.atoms.keys ≡ c.args.self.now = c.self.view_is in
    numbered c.args.self.now c.insert_full.new.self.keys c.args.atom.now c.in_ok-var.var c.in_ok-var.ensures.stored
    (c.in_ok-var.ensures.keys ∙ ap (λ ks. insert_key (atom_eq).it ks c.args.atom.now) keys)
