-- What the log shows is right, and stays shown while the log grows.
use Rattle.std.proofs.Common.{◌≡◌, ℕ, true, List, [], ◌∷◌, subst}
use Rattle.std.specs.Prelude.{Contains}
use Rattle.semantics.specs.Framework.{Af}
use Rattle.semantics.specs.Frameworks.{Framework, af, IsNumbered}
use Rattle.meaning_atoms.specs.declared.axiom.AxiomName.{AxiomName}
use Rattle.meaning_atoms.specs.declared.axiom.AxiomName.TheVariants.{Af as OfAf, Aba as OfAba}
use Rattle.iccma_tasks.specs.declared.answer.Answer.{Answer}
use Rattle.iccma_tasks.specs.declared.answer.Answer.TheVariants.{Sets}
use Rattle.iccma_tasks.specs.Tasks.{Asked}
use Rattle.oracle_face.specs.certificate_claims.specs.Refutations.{IsAxiomOf}
use Rattle.oracle_face.specs.certificate_claims.specs.Rights.{IsExtension, IsRight}
use Rattle.meaning_atoms.specs.declared.atom.AtomLit.{AtomLit}
use Rattle.certificate_claims.proofs.Right.{shown_right}
use Rattle.oracle_face.specs.Growing.{Making, Grows}
use Rattle.oracle_face.specs.Logs.{OracleLog, LogStep, SideClause, Source, by_axiom, IsGiven, IsLog, is_loop}
use Rattle.oracle_face.proofs.Refuting.{claim_excluded, refutes_grown}
use Rattle.session_log.specs.Ends.{AreTooMany, IsShownBy, LoopsServe, some_asked}

pub shown_answer_right : (f : Framework) (asked : Asked) (answer : Answer) (sets : List (List ℕ)) (log : OracleLog)
    → IsNumbered f → IsLog f log → IsShownBy f asked answer sets log → IsRight f asked answer
shown_answer_right f asked answer sets log numbered form shown =
    shown_right f asked answer sets numbered shown.tests (λ k lt plain.
    let has = shown.refuted k lt in
    claim_excluded f log _ has.number form plain has.refutes)

pub shown_sets_right : (f : Framework) (asked : Asked) (most : ℕ) (log : OracleLog) (sets : List (List ℕ))
    → IsNumbered f → IsLog f log → AreTooMany f asked most log sets
    → (e : List ℕ) → Contains sets e → IsExtension f asked.task.semantics e
shown_sets_right f asked most log sets numbered form many e has =
    shown_answer_right f (some_asked asked.task.semantics) (Sets (e ∷ [])) [] log numbered form (many.each e has)

pub shown_grown : (f : Framework) (P : Making) (asked : Asked) (answer : Answer) (sets : List (List ℕ))
    (old new : OracleLog) → IsLog f old → Grows P old new → IsShownBy f asked answer sets old
    → IsShownBy f asked answer sets new
shown_grown f P asked answer sets old new form grows shown = record {
  tests = shown.tests;
  refuted = λ k lt.
      let has = shown.refuted k lt in
      record { number = has.number; refutes = refutes_grown f P old new _ has.number form grows has.refutes };
}

-- no axiom of abstract frameworks is a loop clause
not_loop : (f : Af) (name : AxiomName) → IsAxiomOf (af f) name → is_loop name ≡ true → ⊥
not_loop f (OfAf name) is e = absurd (cc)
not_loop f (OfAba name) is e = is

loop_given : (f : Af) (sides : List SideClause) (before : List LogStep) (clause : List AtomLit) (source : Source)
    (name : AxiomName) → IsGiven (af f) sides before clause source → source ≡ by_axiom name → is_loop name ≡ true → ⊥
loop_given f sides before clause source name given is loop =
    not_loop f name ((subst (λ s. IsGiven (af f) sides before clause s) is given).0) loop

-- so a log of one has none, and each serves
pub no_loops : (f : Af) (old new : OracleLog) → IsLog (af f) new → LoopsServe old new
no_loops f old new form = record {
  each = λ k name low high is loop. absurd (loop_given f new.sides _ _ _ name (form.each k high) is loop);
}
