-- In a guarded log a step whose literals are closed reaches no other side clause.
use Rattle.std.proofs.Common.{◌≡◌, ⊎_elim, ℕ, Bool, not, List}
use Rattle.std.specs.Prelude.{◌⊎◌, Contains}
use Rattle.semantics.specs.Frameworks.{Framework, af, aba}
use Rattle.meaning_atoms.specs.declared.atom.Atom.TheVariants.{Ask}
use Rattle.meaning_atoms.specs.declared.atom.AtomLit.{AtomLit}
use Rattle.meaning_atoms.specs.Literals.{affirmed, denied, negated, AsksNothing}
use Rattle.oracle_face.specs.af_axioms.specs.Facts.{IsFactValue}
use Rattle.oracle_face.specs.certificate_claims.specs.Refutations.{Claim}
use Rattle.oracle_face.specs.Goals.{RefutesGoals, DeniesSide, Refutes}
use Rattle.oracle_face.specs.Logs.{OracleLog, IsNumberOf, Reaches, by_side, step_at}
use Rattle.session_log.specs.Guards.{IsGuarded}

ask_no_fact : (f : Framework) (n : ℕ) (value : Bool) → IsFactValue f (Ask n) value → ⊥
ask_no_fact (af f) n value fact = fact.fact
ask_no_fact (aba f) n value fact = fact.fact

denied_there : (log : OracleLog) (number k n : ℕ) → IsGuarded log → IsNumberOf log.steps number
    → Reaches log.steps number k → (step_at log.steps k).source ≡ by_side n
    → Contains (step_at log.steps number).clause (denied (Ask n))
denied_there log number k n guards is reach source =
    guards.denies number n is (record { step = k; reaches = reach; source = source })

pub closed_refutes_goals : (f : Framework) (log : OracleLog) (goals : List AtomLit) (number : ℕ) → IsGuarded log
    → IsNumberOf log.steps number
    → ((l : AtomLit) → Contains (step_at log.steps number).clause l
    → IsFactValue f l.atom (not l.positive) ⊎ Contains goals (negated l))
    → RefutesGoals f log goals number
closed_refutes_goals f log goals number guards is closed = record {
  step = is;
  closed = closed;
  own_sides = λ k n reach source. ⊎_elim (λ fact. absurd (ask_no_fact f n _ fact)) (λ goal. goal)
      (closed (denied (Ask n)) (denied_there log number k n guards is reach source));
}

pub closed_refutes_claim : (f : Framework) (log : OracleLog) (claim : Claim) (number : ℕ) → IsGuarded log
    → AsksNothing claim.goals → IsNumberOf log.steps number
    → ((l : AtomLit) → Contains (step_at log.steps number).clause l
    → IsFactValue f l.atom (not l.positive)
    ⊎ (Contains claim.goals (negated l) ⊎ DeniesSide log.sides claim l.atom l.positive))
    → Refutes f log claim number
closed_refutes_claim f log claim number guards plain is closed = record {
  step = is;
  closed = closed;
  own_sides = λ k n reach source. ⊎_elim (λ fact. absurd (ask_no_fact f n _ fact))
      (λ more. ⊎_elim (λ goal. absurd (plain (affirmed (Ask n)) goal tt)) (λ denies. denies) more)
      (closed (denied (Ask n)) (denied_there log number k n guards is reach source));
}
