use Rattle.std.proofs.Common.{ap, arith, subst, sym, ◌∙◌}
use Rattle.semantics.specs.Frameworks.{Framework}
use Rattle.meaning_atoms.specs.declared.atom.Atom.TheVariants.{Ad}
use Rattle.meaning_atoms.specs.Worlds.{HoldsOf}
use Rattle.certificate_claims.specs.SetLiterals.{outside}
use Rattle.goal_lists.specs.Sides.{IsAskOf}
use Rattle.goal_lists.proofs.RunLemmas.{ran_handed, ran_lost, ran_then, then_handed}
use Rattle.cegar_preferred.proofs.CoverLemmas.{extended}
use Rattle.cegar_preferred.proofs.accepting.extend.Goals as goal

pub maximal_from-requires : goal.maximal_from-requires
maximal_from-requires g c = c.requires.set.0

pub returns-in_err-maximal-clause-ran : goal.returns-in_err-maximal-clause-ran
returns-in_err-maximal-clause-ran g c = ran_handed _ c.from_residual.ensures c.in_err-maximal.ensures.ran

pub returns-in_err-accepts-clause-ran : goal.returns-in_err-accepts-clause-ran
returns-in_err-accepts-clause-ran g c =
    ran_lost _ c.from_residual-in_err-accepts.ensures (omega arith) c.in_ok-maximal.ensures.ran

pub oblige_outside-requires : goal.oblige_outside-requires
oblige_outside-requires g c =
    subst (λ (x : Framework). HoldsOf x c.in_ok-maximal.maximal.set Ad) (sym c.in_ok-maximal.ensures.ran.framework)
    c.in_ok-maximal.ensures.maximal.admissible

pub returns-in_err-ask-clause-ran : goal.returns-in_err-ask-clause-ran
returns-in_err-ask-clause-ran g c =
    then_handed g.met.O.Oracle.joins _ c.from_residual-in_err-ask.ensures (omega arith) c.in_ok-maximal.ensures.ran
    c.in_err-ask.ensures.ran

pub returns-in_err-push-clause-ran : goal.returns-in_err-push-clause-ran
returns-in_err-push-clause-ran g c =
    ran_lost {m = 1} _ c.from_residual-in_err-push.ensures (omega arith)
    (ran_then g.met.O.Oracle.joins (omega arith) c.in_ok-maximal.ensures.ran c.in_ok-ask.ensures.ran)

pub returns-in_err-push-2-clause-ran : goal.returns-in_err-push-2-clause-ran
returns-in_err-push-2-clause-ran g c =
    ran_lost {m = 1} _ c.from_residual-in_err-push-2.ensures (omega arith)
    (ran_then g.met.O.Oracle.joins (omega arith) c.in_ok-maximal.ensures.ran c.in_ok-ask.ensures.ran)

pub returns-clause-extends : goal.returns-clause-extends
returns-clause-extends g c =
    let f = g.O.Oracle.framework c.args.oracle.now in
    let h = g.O.Oracle.framework c.maximal_from.new.oracle in
    let log = g.O.Oracle.log c.oblige_outside.new.oracle in
    let e = c.in_ok-maximal.maximal.set in
    let same = c.in_ok-maximal.ensures.ran.framework in (
      e,
      c.in_ok-ask.ask,
      extended f h log c.args.goal c.args.cover.now (record { sets = c.push-2.new.self; asks = c.push.new.self })
          c.args.set.now e c.in_ok-ask.ask c.in_ok-accepts.accepts same c.requires.set
          c.in_ok-maximal.ensures.maximal.holds c.in_ok-maximal.ensures.maximal.admissible c.in_ok-accepts.ensures
          c.if-not-accepts.false
          (subst (λ (x : Framework). IsAskOf log.sides (outside x e) c.in_ok-ask.ask) same c.in_ok-ask.ensures.asked)
          c.in_ok-push-2.ensures.ok c.in_ok-push.ensures.ok,
    )

pub returns-clause-ran : goal.returns-clause-ran
returns-clause-ran g c =
    ran_then g.met.O.Oracle.joins (omega arith) c.in_ok-maximal.ensures.ran c.in_ok-ask.ensures.ran

pub returns-then-not-accepts-clause-ran : goal.returns-then-not-accepts-clause-ran
returns-then-not-accepts-clause-ran g c = c.in_ok-maximal.ensures.ran
