use Rattle.std.proofs.Common.{refl}
use Rattle.std.proofs.lemmas.Bool.{false≢true}
use Rattle.aba_notions.proofs.UnfoundedLemmas.{none_unfounded, unfounded_made}
use Rattle.aba_notions.proofs.aba_plain.AbaPlain.unfounded.Goals as goal

pub returns-then-is_empty-clause-none : goal.returns-then-is_empty-clause-none
returns-then-is_empty-clause-none c = none_unfounded c.args.self.now c.args.base.now c.args.claimed.now
    c.in_ok-theory.theory c.in_ok-atoms.atoms c.in_ok-theory.ensures.derived c.in_ok-atoms.ensures
    (c.if-is_empty.ensures.0 refl)

pub returns-clause-some : goal.returns-clause-some
returns-clause-some c = unfounded_made c.args.self.now c.args.base.now c.args.claimed.now c.in_ok-theory.theory _
    c.closure_of.ensures.form c.in_ok-theory.ensures.derived c.in_ok-atoms.ensures
    (λ none. false≢true (c.if-is_empty.ensures.1 none)) c.in_ok-rows.ensures.atoms c.in_ok-rows.ensures.each
