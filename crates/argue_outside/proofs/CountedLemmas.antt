-- No two roles have one index.
use Rattle.std.proofs.Common.{◌≡◌, ℕ, ◌+◌, ◌-◌, cond, nat_eq, refl, sym, ◌∙◌, ap, arith}
use Rattle.std.proofs.lemmas.Bool.Decides.{nat_tests}
use Rattle.argue_outside.specs.declared.Role.{Role}
use Rattle.argue_outside.specs.declared.Role.TheVariants.{Framework, Script, Answer, Certificate, List as AnswerList, Cnf, Lrat}
use Rattle.argue_outside.specs.Counted.{index_of}

-- the role at an index
abbrev role_at : ℕ → Role
role_at n = cond (nat_eq n 0) Script (cond (nat_eq n 1) Answer (cond (nat_eq n 2) Certificate
    (cond (nat_eq n 3) AnswerList (cond (nat_eq n 4) Cnf (cond (nat_eq n 5) Lrat (Framework (n - 6)))))))

framework_at : (k : ℕ) → role_at (6 + k) ≡ Framework k
framework_at k = grind (arith, nat_tests)

role_at-index_of : (role : Role) → role_at (index_of role) ≡ role
role_at-index_of Script = refl
role_at-index_of Answer = refl
role_at-index_of Certificate = refl
role_at-index_of AnswerList = refl
role_at-index_of Cnf = refl
role_at-index_of Lrat = refl
role_at-index_of (Framework k) = framework_at k

pub index_of-injective : (a b : Role) → index_of a ≡ index_of b → a ≡ b
index_of-injective a b e = sym (role_at-index_of a) ∙ ap role_at e ∙ role_at-index_of b
