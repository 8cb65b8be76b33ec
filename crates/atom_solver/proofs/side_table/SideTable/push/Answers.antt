use Rattle.std.proofs.Common.{◌≡◌, ◌++◌, ◌∷◌, [], ap, arith, subst, sym}
use Rattle.indexmap.specs.IndexSet.{spare}
use Rattle.session_log.specs.Steps.{side_made}
use Rattle.atom_solver.specs.Sides.{IsNowhere, SideStore}
use Rattle.atom_solver.proofs.Tabling.{ordered_pushed, side_inserted}
use Rattle.atom_solver.proofs.side_table.SideTable.push.Goals as goal

pub invariant_of-self : goal.invariant_of-self
invariant_of-self c =
    let old = c.self.inside.sides in
    let kept : old.keys ≡ c.args.self.now.kept = ap (λ (s : SideStore). s.kept) c.self.view_is in
    let room : spare old ≡ c.args.self.now.room = ap (λ (s : SideStore). s.room) c.self.view_is in
    ordered_pushed old.keys c.insert.new.self.keys (side_made c.args.literals c.args.set) c.self.invariant
    c.requires.ordered
    (side_inserted old.keys c.insert.new.self.keys (side_made c.args.literals c.args.set) c.insert.result
    (subst (λ xs. IsNowhere xs c.args.literals) (sym kept) c.requires.other)
    (c.insert.ensures.succeeds (omega (arith, room, c.requires.room))) c.insert.ensures.keys)

pub returns : goal.returns
returns c =
    let old = c.self.inside.sides in
    let kept : old.keys ≡ c.args.self.now.kept = ap (λ (s : SideStore). s.kept) c.self.view_is in
    let room : spare old ≡ c.args.self.now.room = ap (λ (s : SideStore). s.room) c.self.view_is in
    subst (λ xs. c.insert.new.self.keys ≡ xs ++ side_made c.args.literals c.args.set ∷ []) kept
    (side_inserted old.keys c.insert.new.self.keys (side_made c.args.literals c.args.set) c.insert.result
    (subst (λ xs. IsNowhere xs c.args.literals) (sym kept) c.requires.other)
    (c.insert.ensures.succeeds (omega (arith, room, c.requires.room))) c.insert.ensures.keys)
