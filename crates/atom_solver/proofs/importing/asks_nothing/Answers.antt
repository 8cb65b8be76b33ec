use Rattle.std.proofs.Common.{◌≡◌, get_or, sym, subst, refl, ◌∙◌}
use Rattle.std.proofs.lemmas.Bool.{false≢true}
use Rattle.std.proofs.lemmas.List.{get_or_default, take_all}
use Rattle.meaning_atoms.specs.Literals.{AsksNothing}
use Rattle.atom_solver.specs.Lifted.{atoms_of}
use Rattle.atom_solver.proofs.EntryLemmas.{asks_at, asks_front}
use Rattle.atom_solver.proofs.importing.asks_nothing.Goals as goal

pub asks-requires : goal.asks-requires
asks-requires c =
    let l = c.lit.result in
    let at : get_or c.args.clause.now c.loop-packed.packed-index l ≡ l =
    get_or_default c.args.clause.now c.loop-packed.packed-index l c.packed-item.result c.loop-packed-test.true
    ∙ (sym c.packed-item.is ∙ sym c.lit.ensures.lit) in
    c.requires l (c.loop-packed.packed-index, c.loop-packed-test.true, at)

pub returns-then-asks : goal.returns-then-asks
returns-then-asks c =
    let l = c.lit.result in
    let at : get_or c.args.clause.now c.loop-packed.packed-index l ≡ l =
    get_or_default c.args.clause.now c.loop-packed.packed-index l c.packed-item.result c.loop-packed-test.true
    ∙ (sym c.packed-item.is ∙ sym c.lit.ensures.lit) in (
      λ e. cc,
      λ none. absurd (asks_at c.args.table.now c.args.clause.now c.loop-packed.packed-index l c.loop-packed-test.true at
          (c.asks.ensures.0 c.if-asks.true) none),
    )

pub loop-packed-preserved : goal.loop-packed-preserved
loop-packed-preserved c =
    let l = c.lit.result in
    let at : get_or c.args.clause.now c.loop-packed.packed-index l ≡ l =
    get_or_default c.args.clause.now c.loop-packed.packed-index l c.packed-item.result c.loop-packed-test.true
    ∙ (sym c.packed-item.is ∙ sym c.lit.ensures.lit) in
    asks_front c.args.table.now c.args.clause.now c.loop-packed.packed-index l c.loop-packed-test.true at
    (λ ask. false≢true (sym c.if-asks.false ∙ c.asks.ensures.1 ask)) c.loop-packed.invariant

pub returns : goal.returns
returns c =
    let all = take_all c.loop-packed.packed-index c.args.clause.now c.loop-packed-test.false in (
      λ _. subst (λ xs. AsksNothing (atoms_of c.args.table.now xs)) all c.loop-packed.invariant,
      λ _. refl,
    )
