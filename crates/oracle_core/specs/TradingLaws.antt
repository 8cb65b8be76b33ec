-- Entries that are taken in one after the other.
use Rattle.std.proofs.Common.{◌≡◌, ℕ, Bool, List, [], ◌∷◌, ◌++◌, ap, sym, subst, ◌∙◌, refl, Option, Some}
use Rattle.std.proofs.lemmas.List.{append_assoc, append-nil}
use mathlib.Core.List.{IsPrefix}
use Rattle.semantics.specs.Frameworks.{Framework}
use Rattle.oracle_face.specs.declared.entry.Entry.{Entry}
use Rattle.oracle_face.specs.Growing.{Grows}
use Rattle.oracle_face.specs.Logs.{OracleLog}
use Rattle.oracle_face.proofs.GrowingLemmas.{grows_joined, grows_same}
use Rattle.oracle_core.specs.Engines.{EngineState}
use Rattle.framework_solver.specs.Stepping.{GoesOnBySteps}
use Rattle.framework_solver.specs.SteppingLaws.{goes_on_joined, goes_on_none, goes_on_still}
use Rattle.oracle_core.specs.Trading.{AnySide, TakesFrom, TakesIn, Trades}

pub goes_on : (a b c : OracleLog) → Grows AnySide a b → Grows AnySide b c → Grows AnySide a c
goes_on a b c h k = grows_joined AnySide AnySide AnySide a b c (λ literals set made. tt) (λ literals set made. tt) h k

-- before, between and after them the log may have grown
takes_after : (f : Framework) (own : ℕ) (entries : List Entry) (a b c : OracleLog) → Grows AnySide a b
    → TakesIn f own entries b c → TakesIn f own entries a c
takes_after f own [] a b c h takes = goes_on a b c h takes
takes_after f own (entry ∷ more) a b c h takes =
    let look = takes.2 in (
      takes.0,
      takes.1,
      record {
        before = goes_on a b takes.0 h look.before;
        in_force = look.in_force;
        after = look.after;
        comes = look.comes;
      },
      takes.3,
    )

pub takes_joined : (f : Framework) (own : ℕ) (entries more : List Entry) (a b c : OracleLog)
    → TakesIn f own entries a b → TakesIn f own more b c → TakesIn f own (entries ++ more) a c
takes_joined f own [] more a b c h k = takes_after f own more a b c h k
takes_joined f own (entry ∷ entries) more a b c h k =
    (h.0, h.1, h.2, takes_joined f own entries more h.1 b c h.3 k)

pub from_joined : (f : Framework) (own : ℕ) (waiting : List Entry) (left later : Option (List Entry)) (a b
    c : OracleLog)
    → TakesFrom f own waiting left a b → ((rest : List Entry) → left ≡ Some rest → TakesFrom f own rest later b c)
    → TakesFrom f own waiting later a c
from_joined f own waiting left later a b c first then =
    let second = then first.rest first.left_is in
    record {
      given = first.given ++ second.given;
      rest = second.rest;
      waiting_is = first.waiting_is ∙ (ap (λ xs. first.given ++ xs) second.waiting_is
          ∙ sym (append_assoc first.given second.given second.rest));
      left_is = second.left_is;
      taken = takes_joined f own first.given second.given a b c first.taken second.taken;
    }

pub from_none : (f : Framework) (own : ℕ) (waiting : List Entry) (left : Option (List Entry)) (a b : OracleLog)
    → left ≡ Some waiting → Grows AnySide a b → TakesFrom f own waiting left a b
from_none f own waiting left a b is grows =
    record { given = []; rest = waiting; waiting_is = refl; left_is = is; taken = grows }

-- ---- two calls, one after the other

pub prefix_none : (gave : List Entry) → IsPrefix gave gave
prefix_none gave = ([], append-nil gave)

pub prefix_joined : (a b c : List Entry) → IsPrefix a b → IsPrefix b c → IsPrefix a c
prefix_joined a b c h k =
    (h.0 ++ k.0, sym (append_assoc a h.0 k.0) ∙ (ap (λ xs. xs ++ k.0) h.1 ∙ k.1))

pub trades_none : (e : EngineState) (left : Option (List Entry)) (gave : List Entry) (out_of_memory : Bool)
    → Trades e e left left gave gave out_of_memory out_of_memory
trades_none e left gave out_of_memory = record {
  number = refl;
  framework = refl;
  grows = grows_same AnySide e.log;
  kept = λ so. so;
  taken = λ so waiting is. from_none e.framework e.number waiting left e.log e.log is (grows_same AnySide e.log);
  gave = prefix_none gave;
  stepped = λ so. goes_on_none e.framework e.number gave e.log;
}

pub trades_joined : (a b c : EngineState) (left_a left_b left_c : Option (List Entry))
    (gave_a gave_b gave_c : List Entry) (refused_a refused_b refused_c : Bool)
    → Trades a b left_a left_b gave_a gave_b refused_a refused_b → Trades b c left_b left_c gave_b gave_c refused_b
    refused_c
    → Trades a c left_a left_c gave_a gave_c refused_a refused_c
trades_joined a b c left_a left_b left_c gave_a gave_b gave_c refused_a refused_b refused_c h k = record {
  number = k.number ∙ h.number;
  framework = k.framework ∙ h.framework;
  grows = goes_on a.log b.log c.log h.grows k.grows;
  kept = λ so. h.kept (k.kept so);
  taken = λ so waiting is. from_joined a.framework a.number waiting left_b left_c a.log b.log c.log
      (h.taken (k.kept so) waiting is)
      (λ rest is_rest. subst (λ f. TakesFrom f a.number rest left_c b.log c.log) h.framework
      (subst (λ n. TakesFrom b.framework n rest left_c b.log c.log) h.number (k.taken so rest is_rest)));
  gave = prefix_joined gave_a gave_b gave_c h.gave k.gave;
  stepped = λ so. goes_on_joined a.framework a.number gave_c a.log b.log c.log
      (goes_on_still a.framework a.number gave_b gave_c a.log b.log k.gave (h.stepped (k.kept so)))
      (subst (λ f. GoesOnBySteps f a.number gave_c b.log c.log) h.framework
      (subst (λ n. GoesOnBySteps b.framework n gave_c b.log c.log) h.number (k.stepped so)));
}
