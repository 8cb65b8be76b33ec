use Rattle.std.proofs.Common.{◌≡◌, ℕ, refl, rules, subst, sym}
use Rattle.std.specs.Prelude.{Contains}
use Rattle.std.proofs.lemmas.Iterator.{cases_from_all, YieldsList-from_slice}
use Rattle.meaning_atoms.specs.AbaAxioms.{IsLoopPair, RulesRise}
use Rattle.meaning_atoms.proofs.loop_rows.is_loop_row.Goals as goal
use Rattle.lists.proofs.Walks.{all_members}

pub returns : goal.returns
returns c =
    let P : ℕ × ℕ → Type 0 = λ p. IsLoopPair c.args.rows.now p in
    let pairs = c.as_slice-pairs.result.now in
    let same : pairs ≡ c.args.row.now.pairs = c.as_slice-pairs.ensures in
    let each = all_members P pairs _
    (cases_from_all _ _ _ P (λ x. P x → ⊥) c.all.ensures.ran (YieldsList-from_slice pairs cc)
    (λ x q k. search rules) (λ x q k. search rules)) in (
      λ t. record {
        atom = c.if-not-is_argument.ensures.0 refl;
        rise = subst RulesRise same (c.if-not-rules_rise.ensures.0 refl);
        each = λ p m. each.0 t p (subst (λ xs. Contains xs p) (sym same) m);
      },
      λ h. each.1 (λ p m. h.each p (subst (λ xs. Contains xs p) same m)),
    )
