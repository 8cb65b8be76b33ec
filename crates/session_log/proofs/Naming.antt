-- The steps that names stand for.
use Rattle.std.proofs.Common.{◌≡◌, ℕ, ◌<◌, List, length, take, get_or, sym, subst, arith}
use Rattle.std.proofs.lemmas.List.{get_or-take, length-take}
use Rattle.oracle_face.specs.declared.entry.HintName.{HintName}
use Rattle.oracle_face.specs.Logs.{LogStep}
use Rattle.session_log.specs.Imports.{StandsFor, StandForSteps}

-- a name stands for one step at most
pub names_single : (own : ℕ) (steps : List LogStep) (name : HintName) (m n : ℕ) → StandsFor own steps name m
    → StandsFor own steps name n → m ≡ n
names_single own steps name m n at_m at_n =
    let low = at_m.first n at_n.named at_n.called in
    let high = at_n.first m at_m.named at_m.called in
    omega arith

-- where the first hints are kept, the first names stand for them
pub front_stands : (own : ℕ) (steps : List LogStep) (names : List HintName) (hints : List ℕ) (used : ℕ)
    → StandForSteps own steps names hints
    → StandForSteps own steps (take (length (take used hints)) names) (take used hints)
front_stands own steps names hints used stand =
    let count = length (take used hints) in
    let long = stand.long in
    let names_long = length-take count names in
    let hints_long = length-take used hints in
    record {
      long = omega arith;
      each = λ k d lt.
          let early : k < count = omega arith in
          let before : k < used = omega arith in
          subst (λ n. StandsFor own steps n (get_or (take used hints) k 0)) (sym (get_or-take count names k d early))
          (subst (λ n. StandsFor own steps (get_or names k d) n) (sym (get_or-take used hints k 0 before))
          (stand.each k d (omega arith)));
    }
