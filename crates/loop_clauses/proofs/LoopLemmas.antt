-- What is unfounded has the rows of a loop.
use Rattle.std.proofs.Common.{◌≡◌, ℕ, zero, suc, ◌+◌, ◌<◌, ◌≤◌, List, [], ◌∷◌, length, map, get_or, refl, sym, ap, subst, ◌∙◌, ◌⊎◌, inl, inr, ⊎_elim, arith}
use Rattle.std.specs.Prelude.{Contains}
use Rattle.std.specs.List.Sorted.{IsStrictlyIncreasing}
use Rattle.std.proofs.lemmas.List.{length-map, get_or-map}
use Rattle.semantics.specs.Arguments.{IsArgument}
use Rattle.semantics.specs.AbaFrameworks.{Aba, IsAtom, IsNumberedAba}
use Rattle.aba_notions.specs.declared.unfounded.Row.{Row}
use Rattle.aba_notions.specs.declared.unfounded.Unfounded.{Unfounded}
use Rattle.aba_notions.specs.Unfounded.{IsReason, IsRowBy, IsUnfoundedOf}
use Rattle.meaning_atoms.specs.declared.loop_rows.LoopRow.{LoopRow}
use Rattle.meaning_atoms.specs.AbaAxioms.{IsLoopAtom, IsLoopPair, IsLoopRow, RulesRise, AtomsRise, IsLoop}
use Rattle.loop_clauses.specs.LoopNames.{loop_row, loop_rows}
use Rattle.lists.proofs.Images.{image_there, image_from}

pub same_atoms : (rows : List Row) → map (λ (r : LoopRow). r.atom) (loop_rows rows) ≡ map (λ (r : Row). r.atom) rows
same_atoms [] = refl
same_atoms (row ∷ rows) = ap (λ atoms. row.atom ∷ atoms) (same_atoms rows)

-- pairs whose numbers rise from one to any later one
rules_rise : (pairs : List (ℕ × ℕ)) → ((i j : ℕ) (d : ℕ × ℕ) → i < j → j < length pairs
    → (get_or pairs i d).0 < (get_or pairs j d).0) → RulesRise pairs
rules_rise pairs rise = λ k within.
    let long = length-map pairs (λ (p : ℕ × ℕ). p.0) in
    let here = get_or-map (λ (p : ℕ × ℕ). p.0) pairs k (0, 0) 0 (omega arith) in
    let next = get_or-map (λ (p : ℕ × ℕ). p.0) pairs (k + 1) (0, 0) 0 (omega arith) in
    let less = rise k (k + 1) (0, 0) (omega arith) (omega arith) in
    omega arith

atom_there : (u : Unfounded) → map (λ (row : Row). row.atom) u.rows ≡ u.atoms → (y : ℕ) → Contains u.atoms y
    → IsLoopAtom (loop_rows u.rows) y
atom_there u are y c =
    let from = image_from (λ (row : Row). row.atom) u.rows y (subst (λ xs. Contains xs y) (sym are) c) in
    record { row = loop_row from.0; member = image_there loop_row u.rows from.0 from.1; is = from.2 }

row_is : (f : Aba) (base claimed : List ℕ) (u : Unfounded) → IsNumberedAba f
    → ((y : ℕ) → Contains claimed y → IsAtom f.atoms y) → IsUnfoundedOf f (Contains base) claimed u → (row : Row)
    → Contains u.rows row → IsLoopRow (loop_rows u.rows) (loop_row row)
row_is f base claimed u form atoms h row c =
    let is = h.each row c in
    let there : Contains u.atoms row.atom
    = subst (λ xs. Contains xs row.atom) h.rows_are (image_there (λ (r : Row). r.atom) u.rows row c) in
    let atom = atoms row.atom ((h.atoms_are.members row.atom).0 there).0 in
    let high = atom.high in
    let few = form.atoms in
    record {
      atom = record { low = atom.low; high = omega arith };
      rise = rules_rise row.pairs is.numbers_rise;
      each = λ p d.
          let rule = is.pairs_are p.0 p.1 d in
          let bounds = form.form.rules_are rule.rule rule.there in
          let low = bounds.low in
          let given = bounds.given in
          let number = rule.number_is in
          let next = form.rules in
          record {
            rule = record { low = omega arith; high = omega arith };
            body = ⊎_elim (λ shared. inr (atom_there u h.rows_are p.1 shared.0)) (λ none. inl none.0) rule.reason.0;
          };
    }

pub loop_of : (f : Aba) (base claimed : List ℕ) (u : Unfounded) (x : ℕ) → IsNumberedAba f
    → ((y : ℕ) → Contains claimed y → IsAtom f.atoms y) → IsUnfoundedOf f (Contains base) claimed u
    → Contains u.atoms x → IsLoop x (loop_rows u.rows)
loop_of f base claimed u x form atoms h c = record {
  rise = subst IsStrictlyIncreasing (sym (same_atoms u.rows ∙ h.rows_are)) h.atoms_are.rises;
  belongs = atom_there u h.rows_are x c;
  each = λ row d.
      let from = image_from loop_row u.rows row d in
      subst (IsLoopRow (loop_rows u.rows)) from.2 (row_is f base claimed u form atoms h from.0 from.1);
}
