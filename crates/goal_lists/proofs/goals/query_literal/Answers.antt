use Rattle.std.proofs.Common.{ap, ◌∙◌}
use Rattle.meaning_atoms.specs.declared.atom.Atom.{Atom}
use Rattle.meaning_atoms.specs.declared.atom.AtomLit.{AtomLit}
use Rattle.goal_lists.proofs.QueryGoals.{literal_by_kind}
use Rattle.goal_lists.proofs.goals.query_literal.Goals as goal

pub returns : goal.returns
returns c f is =
    let made : Atom → AtomLit = λ a. record { atom = a; positive = c.args.accepted } in
    ap made c.query_atom.ensures ∙ literal_by_kind f c.args.is_aba c.args.query c.args.accepted is
