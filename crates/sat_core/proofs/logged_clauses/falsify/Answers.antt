use Rattle.std.proofs.Common.{arith, get_or, ap, ◌∙◌, ◌++◌, ◌∷◌, []}
use Rattle.std.proofs.lemmas.List.Elements.{Contains-get_or}
use Rattle.plain_lits.specs.declared.lit.Lit.{Lit}
use Rattle.sat_core.proofs.Serving.{denies_more, denies_same}
use Rattle.sleeping_clauses.proofs.Falsifying.{no_lit}
use Rattle.sat_core.proofs.logged_clauses.falsify.Goals as goal
use Rattle.sat_core.proofs.logged_clauses.falsify.Goals.{in-Unset, in_default}

pub push-requires-clause-within : goal.push-requires-clause-within
push-requires-clause-within c =
    let i = c.loop-lit.lit-index in
    let known = c.requires.room (get_or c.args.clause.now i no_lit)
    (Contains-get_or c.args.clause.now i no_lit c.loop-lit-test.true) in
    omega (arith, ap (λ (l : Lit). l.var) c.not.ensures, known, c.loop-lit.invariant.vars)

pub loop-lit-preserved : goal.loop-lit-preserved
loop-lit-preserved c =
    let i = c.loop-lit.lit-index in
    elim c.match-value.branch [
      | in-Unset w ↦ rw w.trail-is (record {
        denies = denies_more c.args.clause.now c.loop-lit.trail.lits w.push.new.self.lits i no_lit c.loop-lit-test.true
            c.loop-lit.invariant.denies (w.push.ensures.lits ∙ ap (λ l. c.loop-lit.trail.lits ++ l ∷ []) w.not.ensures);
        vars = w.push.ensures.vars ∙ c.loop-lit.invariant.vars;
      })
      | in_default w ↦ rw w.trail-is (record {
        denies = denies_same c.args.clause.now c.loop-lit.trail.lits i no_lit c.value.result c.loop-lit-test.true
            c.requires.plain c.loop-lit.invariant.denies c.value.ensures.value w.in_default.not-Unset;
        vars = c.loop-lit.invariant.vars;
      })
    ]
