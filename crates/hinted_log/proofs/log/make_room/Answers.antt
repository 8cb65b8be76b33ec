use Rattle.std.proofs.Common.{◌<◌, ◌^◌, ◌∙◌, arith, false}
use Rattle.std.proofs.lemmas.List.{take_all}
use Rattle.plain_lits.specs.declared.lit.Lit.{Lit}
use Rattle.plain_lits.proofs.CheckingLemmas.{front_all}
use Rattle.hinted_log.proofs.log.make_room.Goals as goal

abbrev blank : Lit
blank = record { var = 0; positive = false }

pub returns-clause-ok : goal.returns-clause-ok
returns-clause-ok c =
    let whole = take_all c.loop-lit.lit-index c.args.clause.now (omega arith) in
    λ l h. c.loop-lit.invariant.room l (rw whole h)

pub returns-clause-packable : goal.returns-clause-packable
returns-clause-packable c =
    let whole = take_all c.loop-lit.lit-index c.args.clause.now (omega arith) in
    λ l h. c.loop-lit.invariant.packable l (rw whole h)

pub loop-lit-preserved : goal.loop-lit-preserved
loop-lit-preserved c = record {
  room = front_all (λ l. l.var < c.make_room.new.self.vars) c.args.clause.now c.loop-lit.lit-index blank
      c.loop-lit-test.true
      (λ l h. let lt = c.loop-lit.invariant.room l h in omega (arith, c.in_ok-make_room.ensures.ok))
      (omega (arith, c.in_ok-make_room.ensures.ok));
  packable = front_all (λ l. l.var < 2 ^ 31) c.args.clause.now c.loop-lit.lit-index blank c.loop-lit-test.true
      c.loop-lit.invariant.packable (omega arith);
  more = omega (arith, c.in_ok-make_room.ensures.ok, c.loop-lit.invariant.more);
  lits = c.make_room.ensures.lits ∙ c.loop-lit.invariant.lits;
}
