-- What an edit does to a flat assumption-based framework, and why it is refused. Each edit has one row: its refusals,
-- of which the first that stands is told, the framework behind it, and its effect. Edits of such frameworks:
-- A. Rapberger, M. Ulbricht, "On dynamics in structured argumentation formalisms", Journal of Artificial Intelligence
-- Research 77 (2023).
use Rattle.std.specs.Prelude.{ℕ, ◌+◌, ◌==◌, ◌&&◌, not, nat_le, nat_lt, if◌then◌else◌}
use Rattle.std.specs.Prelude.{List, [], ◌∷◌, ◌++◌, filter, map, Option, Some, None, Result, Err}
use Rattle.std.specs.List.{find}
use Rattle.semantics.specs.declared.numbers.TheConstants.{MAX_RULE}
use Rattle.semantics.specs.Rules.{Rule}
use Rattle.semantics.specs.AbaFrameworks.{Aba}
use Rattle.aba_notions.specs.Storage.{aba_of, no_rule}
use Rattle.edit_rules.specs.declared.edit.Edit.{Edit}
use Rattle.edit_rules.specs.declared.edit.Edit.TheVariants.{ArgAdd, ArgDrop, AttackAdd, AttackDrop, AsmAdd}
use Rattle.edit_rules.specs.declared.edit.Edit.TheVariants.{AsmDrop, ConSet, ConAdd, ConDrop, RuleAdd, RuleDrop}
use Rattle.edit_rules.specs.declared.effect.Effect.{Effect}
use Rattle.edit_rules.specs.declared.effect.EditFault.{EditFault}
use Rattle.edit_rules.specs.declared.effect.EditFault.TheVariants.{WrongKind, OutOfRange, AssumptionIsThere}
use Rattle.edit_rules.specs.declared.effect.EditFault.TheVariants.{NotFlat, UnknownAssumption}
use Rattle.edit_rules.specs.declared.effect.EditFault.TheVariants.{ContraryIsThere, NoSuchContrary, NoSuchRule}
use Rattle.edit_rules.specs.Effects.{plain_effect}
use Rattle.edit_rules.specs.Numbers.{has_number, with_number}
use Rattle.edit_rules.specs.Pairs.{has_pair, with_pair, without_pair}
use Rattle.edit_rules.specs.Refusals.{Refusal, refused_if, done_unless}

-- the row of an edit: its refusals in their order, and what it does where none stands
pub record AbaRow : Type 0 where
  pub refusals : List Refusal
  pub framework : Aba
  pub effect : Effect

-- the number lies outside its range
abbrev pub beyond : ℕ → ℕ → ℕ → Refusal
beyond low high x = refused_if (not (nat_le low x && nat_le x high)) (OutOfRange x)

-- the numbers of rules, and their heads
abbrev pub numbers_of : List Rule → List ℕ
numbers_of rules = map (λ r. r.number) rules

abbrev pub heads_of : List Rule → List ℕ
heads_of rules = map (λ r. r.head) rules

-- the atom is no assumption
abbrev pub no_assumption : Aba → ℕ → Refusal
no_assumption f a = refused_if (not (has_number f.assumptions a)) (UnknownAssumption a)

-- the pairs of all assumptions but one
abbrev pub without_contrary : ℕ → List (ℕ × ℕ) → List (ℕ × ℕ)
without_contrary a contraries = filter (λ p. not (p.0 == a)) contraries

-- the pair of an assumption and a contrary, and none where that is 0
abbrev pub pair_of : ℕ → ℕ → List (ℕ × ℕ)
pair_of a c = if c == 0 then [] else (a, c) ∷ []

-- pairs by rising assumption, in which a has the contrary c alone, and none where that is 0
abbrev pub with_contrary : ℕ → ℕ → List (ℕ × ℕ) → List (ℕ × ℕ)
with_contrary a c contraries =
    filter (λ p. nat_lt p.0 a) contraries ++ (pair_of a c ++ filter (λ p. nat_lt a p.0) contraries)

-- the contraries of an atom; it has none where it is no assumption
abbrev pub contraries_of : List (ℕ × ℕ) → ℕ → List ℕ
contraries_of contraries a = map (λ p. p.1) (filter (λ p. p.0 == a) contraries)

-- the numbers of a list in rising order, each once
abbrev pub in_order : List ℕ → List ℕ
in_order [] = []
in_order (x ∷ xs) = with_number x (in_order xs)

-- the rules but for that of a number
abbrev pub rules_but : ℕ → List Rule → List Rule
rules_but n rules = filter (λ r. not (r.number == n)) rules

-- the rule of a number
abbrev pub rule_in : Option Rule → Rule
rule_in None = no_rule
rule_in (Some r) = r

abbrev pub rule_numbered : List Rule → ℕ → Rule
rule_numbered rules n = rule_in (find (λ r. r.number == n) rules)

-- a framework with an assumption more, which has one contrary or none, and without an assumption
abbrev pub aba_with_assumption : Aba → ℕ → ℕ → Aba
aba_with_assumption f a c =
    aba_of f.atoms (with_number a f.assumptions) (with_contrary a c f.contraries) f.rules f.next

abbrev pub aba_without_assumption : Aba → ℕ → Aba
aba_without_assumption f a =
    aba_of f.atoms (filter (λ b. not (b == a)) f.assumptions) (without_contrary a f.contraries) f.rules f.next

-- a framework in which an assumption has one contrary alone or none, one contrary more, and one less
abbrev pub aba_with_contrary : Aba → ℕ → ℕ → Aba
aba_with_contrary f a c = aba_of f.atoms f.assumptions (with_contrary a c f.contraries) f.rules f.next

abbrev pub aba_with_pair : Aba → ℕ → ℕ → Aba
aba_with_pair f a c = aba_of f.atoms f.assumptions (with_pair (a, c) f.contraries) f.rules f.next

abbrev pub aba_without_pair : Aba → ℕ → ℕ → Aba
aba_without_pair f a c = aba_of f.atoms f.assumptions (without_pair (a, c) f.contraries) f.rules f.next

-- a framework with a rule more, which gets the next number, and without the rule of a number, which isn't given again
abbrev pub next_rule : Aba → ℕ → List ℕ → Rule
next_rule f h body = record { number = f.next; head = h; body = in_order body }

abbrev pub aba_with_rule : Aba → ℕ → List ℕ → Aba
aba_with_rule f h body =
    aba_of f.atoms f.assumptions f.contraries (f.rules ++ next_rule f h body ∷ []) (f.next + 1)

abbrev pub aba_without_rule : Aba → ℕ → Aba
aba_without_rule f r = aba_of f.atoms f.assumptions f.contraries (rules_but r f.rules) f.next

-- the effect of an edit that gave a rule its number, that took contraries away, that took a rule away
abbrev pub rule_effect : Edit → ℕ → Effect
rule_effect edit rule = record { edit = edit; rule = rule; dropped = []; gone = []; head = 0; body = [] }

abbrev pub contrary_effect : Edit → List ℕ → Effect
contrary_effect edit gone = record { edit = edit; rule = 0; dropped = []; gone = gone; head = 0; body = [] }

abbrev pub dropped_effect : Edit → Rule → Effect
dropped_effect edit r = record { edit = edit; rule = 0; dropped = []; gone = []; head = r.head; body = r.body }

abbrev pub assumption_added : Aba → ℕ → ℕ → AbaRow
assumption_added f a c = record {
  refusals = beyond 1 f.atoms a ∷ beyond 0 f.atoms c ∷ refused_if (has_number f.assumptions a) AssumptionIsThere
      ∷ refused_if (has_number (heads_of f.rules) a) (NotFlat a) ∷ [];
  framework = aba_with_assumption f a c;
  effect = plain_effect (AsmAdd a c);
}

abbrev pub assumption_dropped : Aba → ℕ → AbaRow
assumption_dropped f a = record {
  refusals = beyond 1 f.atoms a ∷ no_assumption f a ∷ [];
  framework = aba_without_assumption f a;
  effect = contrary_effect (AsmDrop a) (contraries_of f.contraries a);
}

-- an assumption that is none, or numbers of which one lies outside its range; that of a contrary has this lower end
abbrev pub pair_refusals : ℕ → Aba → ℕ → ℕ → List Refusal
pair_refusals low f a c = beyond 1 f.atoms a ∷ beyond low f.atoms c ∷ no_assumption f a ∷ []

abbrev pub contrary_set : Aba → ℕ → ℕ → AbaRow
contrary_set f a c = record {
  refusals = pair_refusals 0 f a c;
  framework = aba_with_contrary f a c;
  effect = contrary_effect (ConSet a c) (contraries_of f.contraries a);
}

abbrev pub contrary_added : Aba → ℕ → ℕ → AbaRow
contrary_added f a c = record {
  refusals = pair_refusals 1 f a c ++ refused_if (has_pair f.contraries (a, c)) ContraryIsThere ∷ [];
  framework = aba_with_pair f a c;
  effect = plain_effect (ConAdd a c);
}

abbrev pub contrary_dropped : Aba → ℕ → ℕ → AbaRow
contrary_dropped f a c = record {
  refusals = pair_refusals 1 f a c ++ refused_if (not (has_pair f.contraries (a, c))) NoSuchContrary ∷ [];
  framework = aba_without_pair f a c;
  effect = plain_effect (ConDrop a c);
}

-- the numbers of a rule are looked at in the order of the edit: the head, then the body as it was given
abbrev pub rule_added : Aba → ℕ → List ℕ → AbaRow
rule_added f h body = record {
  refusals = map (beyond 1 f.atoms) (h ∷ body) ++ refused_if (has_number f.assumptions h) (NotFlat h)
      ∷ refused_if (nat_lt MAX_RULE f.next) (OutOfRange (MAX_RULE + 1)) ∷ [];
  framework = aba_with_rule f h body;
  effect = rule_effect (RuleAdd h body) f.next;
}

abbrev pub rule_dropped : Aba → ℕ → AbaRow
rule_dropped f r = record {
  refusals = beyond 1 MAX_RULE r ∷ refused_if (not (has_number (numbers_of f.rules) r)) (NoSuchRule r) ∷ [];
  framework = aba_without_rule f r;
  effect = dropped_effect (RuleDrop r) (rule_numbered f.rules r);
}

-- the row of an edit of a flat assumption-based framework; an edit of the other kind has none
abbrev pub aba_row : Aba → Edit → Option AbaRow
aba_row f (ArgAdd n) = None
aba_row f (ArgDrop n) = None
aba_row f (AttackAdd b a) = None
aba_row f (AttackDrop b a) = None
aba_row f (AsmAdd a c) = Some (assumption_added f a c)
aba_row f (AsmDrop a) = Some (assumption_dropped f a)
aba_row f (ConSet a c) = Some (contrary_set f a c)
aba_row f (ConAdd a c) = Some (contrary_added f a c)
aba_row f (ConDrop a c) = Some (contrary_dropped f a c)
aba_row f (RuleAdd h body) = Some (rule_added f h body)
aba_row f (RuleDrop r) = Some (rule_dropped f r)

-- what a row comes to
abbrev pub aba_row_outcome : AbaRow → Result (Aba × Effect) EditFault
aba_row_outcome row = done_unless row.refusals (row.framework, row.effect)

-- what a row comes to, where the edit has one
abbrev pub aba_outcome_in : Option AbaRow → Result (Aba × Effect) EditFault
aba_outcome_in None = Err WrongKind
aba_outcome_in (Some row) = aba_row_outcome row

-- what an edit comes to: the framework behind it with its effect, or the first refusal
abbrev pub aba_outcome : Aba → Edit → Result (Aba × Effect) EditFault
aba_outcome f edit = aba_outcome_in (aba_row f edit)
