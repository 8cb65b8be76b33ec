use Rattle.std.proofs.Common.{◌≡◌, ℕ, List, [], Option, Some, map, refl, ap, subst, sym, ◌∙◌}
use Rattle.std.specs.Prelude.{IsSome}
use Rattle.std.specs.Option.{unwrap_or}
use Rattle.argue_commands.specs.Texts.{common_text}
use Rattle.argue_commands.proofs.SolveLemmas.{common_text-after}
use Rattle.argue_commands.specs.Replacing.{FileText, file_text}
use Rattle.argue_program.specs.Rows.{files_beside}
use Rattle.argue_program.proofs.solving.stop_ending.Goals as goal

text_said : (said : Option (List ℕ)) (text other : List ℕ) → Some text ≡ said → text ≡ unwrap_or said other
text_said said text other e = subst (λ (o : Option (List ℕ)). text ≡ unwrap_or o other) e refl

no_files : (said : Option (List ℕ)) (text : List ℕ) (files : List FileText) → Some text ≡ said
    → [] ≡ files_beside said files
no_files said text files e = subst (λ (o : Option (List ℕ)). [] ≡ files_beside o files) e refl

pub returns : goal.returns
returns c =
    let told = c.in_ok-text.ensures.text (subst (λ s. IsSome (common_text s)) (sym c.status_of-status.ensures)
    (common_text-after c.args.stop)) in
    λ said name. record {
      status = c.status_of-status.ensures;
      keeps = c.kept_of.ensures;
      text = text_said _ _ _ told;
      files = ap (map file_text) c.new.ensures ∙ no_files _ _ _ told;
    }
