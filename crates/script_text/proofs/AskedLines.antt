-- The fields of a query.
use Rattle.std.proofs.Common.{◌≡◌, ℕ, List, ◌∷◌, true, false, sym, ap, subst}
use Rattle.std.specs.Prelude.{Option, codes}
use Rattle.std.specs.List.{AllZip}
use Rattle.num_text.specs.Number.{IsNumber}
use Rattle.iccma_tasks.specs.declared.task.Task.{Task}
use Rattle.iccma_tasks.specs.Tasks.{Asked, FitsTask, IsTask, task_name}
use Rattle.script_text.specs.ScriptText.{AreAskFields, asked_numbers}

pub true_not_false : true ≡ false → ⊥
true_not_false e = cc

pub asked_by : (name : List ℕ) (texts : List (List ℕ)) (task : Task) (number : Option ℕ) (asked : Asked)
    → asked ≡ record { task = task; number = number } → IsTask task → task_name task ≡ name
    → AllZip IsNumber texts (asked_numbers number) → FitsTask task.problem number
    → AreAskFields (codes "ask" ∷ name ∷ texts) asked
asked_by name texts task number asked e is named spelled fits =
    subst (λ q. AreAskFields (codes "ask" ∷ name ∷ texts) q) (sym e) (record {
      numbers = texts;
      fields_are = ap (λ n. codes "ask" ∷ n ∷ texts) (sym named);
      task_is = is;
      spelled = spelled;
      fits = fits;
    })
