-- The lines that are not skipped, taken off one by one.
use Rattle.std.proofs.Common.{◌≡◌, refl, true, false, List, [], ◌∷◌}
use Rattle.std.proofs.lemmas.Bool.{cond-true, cond-false, not_from_true, not_from_false}
use Rattle.num_text.specs.Cuts.{LineText, field_texts}
use Rattle.lrat_text.specs.Lines.{is_comment, is_no_step, cnf_kept, lrat_kept}

pub cnf_kept-nil : cnf_kept [] ≡ []
unfolding cnf_kept
cnf_kept-nil = refl

pub cnf_kept-skips : (line : LineText) (more : List LineText) → is_comment (field_texts line.text) ≡ true
    → cnf_kept (line ∷ more) ≡ cnf_kept more
unfolding cnf_kept
cnf_kept-skips line more skipped = cond-false _ _ _ (not_from_true _ skipped)

pub cnf_kept-keeps : (line : LineText) (more : List LineText) → is_comment (field_texts line.text) ≡ false
    → cnf_kept (line ∷ more) ≡ line ∷ cnf_kept more
unfolding cnf_kept
cnf_kept-keeps line more says = cond-true _ _ _ (not_from_false _ says)

pub lrat_kept-nil : lrat_kept [] ≡ []
unfolding lrat_kept
lrat_kept-nil = refl

pub lrat_kept-skips : (line : LineText) (more : List LineText) → is_no_step (field_texts line.text) ≡ true
    → lrat_kept (line ∷ more) ≡ lrat_kept more
unfolding lrat_kept
lrat_kept-skips line more skipped = cond-false _ _ _ (not_from_true _ skipped)

pub lrat_kept-keeps : (line : LineText) (more : List LineText) → is_no_step (field_texts line.text) ≡ false
    → lrat_kept (line ∷ more) ≡ line ∷ lrat_kept more
unfolding lrat_kept
lrat_kept-keeps line more says = cond-true _ _ _ (not_from_false _ says)
