-- The last rule of a framework.
use Rattle.std.proofs.Common.{◌≡◌, ◌≤◌, ◌<◌, ◌-◌, ℕ, List, length, get_or, map, arith, ap, ◌∙◌}
use Rattle.std.specs.Prelude.{Contains}
use Rattle.std.proofs.lemmas.List.{length-map}
use Rattle.std.proofs.lemmas.List.Elements.{Contains-get_or}
use Rattle.semantics.specs.AbaFrameworks.{Aba, IsNumberedAba}
use Rattle.aba_notions.specs.Storage.{no_rule}
use Rattle.aba_notions.proofs.UnfoundedLemmas.{read_number}
use Rattle.edit_rules.proofs.MadeFrameworks.{few_rules}
use Rattle.aba_encoding.specs.Brought.{last_rule}
use Rattle.aba_encoding.proofs.HeadLemmas.{number_of}

pub last_there : (f : Aba) → 0 < length f.rules → Contains f.rules (last_rule f)
last_there f some = Contains-get_or f.rules (length f.rules - 1) no_rule (omega arith)

module _ (f : Aba) (form : IsNumberedAba f) (numbers : List ℕ) where
  pub numbers_long : numbers ≡ map number_of f.rules → length numbers ≡ length f.rules
  numbers_long are = ap length are ∙ length-map f.rules number_of

  pub numbers_few : numbers ≡ map number_of f.rules → length numbers ≤ 1000000
  numbers_few are = let few = few_rules f form in omega (arith, few, numbers_long are)

  -- the number that stands last
  pub last_number : (again : List ℕ) → numbers ≡ map number_of f.rules → again ≡ map number_of f.rules
      → 0 < length f.rules → get_or again (length numbers - 1) 0 ≡ (last_rule f).number
  last_number again are too some =
      ap (λ n. get_or again (n - 1) 0) (numbers_long are)
      ∙ read_number f again (length f.rules - 1) too (omega arith)

  pub number_bounds : (again : List ℕ) → numbers ≡ map number_of f.rules → again ≡ map number_of f.rules
      → 0 < length f.rules → (1 ≤ get_or again (length numbers - 1) 0) × (get_or again (length numbers - 1) 0 < 1000001)
  number_bounds again are too some =
      let is = last_number again are too some in
      let rule = form.form.rules_are (last_rule f) (last_there f some) in
      let low = rule.low in
      let given = rule.given in
      let next = form.rules in
      (omega arith, omega arith)
