-- What serves a query, from its parts and back.
use Rattle.std.proofs.Common.{◌≡◌, ℕ, List, map, sym, subst}
use Rattle.std.specs.Prelude.{Contains}
use Rattle.semantics.specs.Frameworks.{Framework}
use Rattle.meaning_atoms.specs.declared.atom.AtomLit.{AtomLit}
use Rattle.iccma_tasks.specs.Tasks.{Asked}
use Rattle.oracle_face.specs.Logs.{IsSameClause}
use Rattle.session_log.specs.Ends.{SideServes, sides_for}
use Rattle.answer_claims.specs.declared.sides.SideKind.{SideKind}
use Rattle.answer_claims.specs.SideClauses.{side_of}
use Rattle.core_answers.specs.Serving.{IsMadeAs}
use Rattle.lists.proofs.Images.{image_from}

-- a side clause that serves is made as the table has it
pub made_as : (f : Framework) (asked : Asked) (kinds : List SideKind) (literals : List AtomLit) (set : List ℕ)
    → map (λ k. side_of f k set) kinds ≡ sides_for f asked.task.problem asked.task.semantics set
    → SideServes f asked literals set → IsMadeAs f kinds literals set
made_as f asked kinds literals set e h =
    let at = image_from (λ (k : SideKind). side_of f k set) kinds h.side
    (subst (λ (list : List (List AtomLit)). Contains list h.side) (sym e) h.listed) in
    record {
      kind = at.0;
      listed = at.1;
      same = subst (λ (side : List AtomLit). IsSameClause literals side) (sym at.2) h.same;
    }
