-- What an edit does to a framework, and why it is refused. Each edit has one row: its refusals, of which the first that
-- stands is told, the framework behind it, and its effect. Edits of a framework as operations on its graph: C. Cayrol,
-- F. Dupin de Saint-Cyr, M.-C. Lagasquie-Schiex, "Change in abstract argumentation frameworks: adding an argument",
-- Journal of Artificial Intelligence Research 38 (2010).
use Rattle.std.specs.Prelude.{ℕ, ◌==◌, ◌&&◌, ◌||◌, Bool, not, nat_le}
use Rattle.std.specs.Prelude.{List, [], ◌∷◌, ◌++◌, filter, Option, Some, None, Result, Err}
use Rattle.semantics.specs.Framework.{Af}
use Rattle.semantics.specs.Frameworks.{Framework, af, aba}
use Rattle.semantics.specs.declared.argument.TheConstants.{MAX_ARGUMENT}
use Rattle.edit_rules.specs.declared.edit.Edit.{Edit}
use Rattle.edit_rules.specs.declared.edit.Edit.TheVariants.{ArgAdd, ArgDrop, AttackAdd, AttackDrop, AsmAdd}
use Rattle.edit_rules.specs.declared.edit.Edit.TheVariants.{AsmDrop, ConSet, ConAdd, ConDrop, RuleAdd, RuleDrop}
use Rattle.edit_rules.specs.declared.effect.Effect.{Effect}
use Rattle.edit_rules.specs.declared.effect.EditFault.{EditFault}
use Rattle.edit_rules.specs.declared.effect.EditFault.TheVariants.{WrongKind, OutOfRange, ArgumentIsThere}
use Rattle.edit_rules.specs.declared.effect.EditFault.TheVariants.{UnknownArgument, AttackIsThere, NoSuchAttack}
use Rattle.edit_rules.specs.Refusals.{Refusal, refused_if, done_unless}
use Rattle.edit_rules.specs.Numbers.{has_number, with_number}
use Rattle.edit_rules.specs.Pairs.{has_pair, with_pair, without_pair}
use Rattle.edit_rules.specs.Effects.{plain_effect}
use Rattle.edit_rules.specs.AbaEdits.{AbaRow, aba_row}

-- the row of an edit: its refusals in their order, and what it does where none stands
pub record Row : Type 0 where
  pub refusals : List Refusal
  pub framework : Framework
  pub effect : Effect

-- the number is no argument's
abbrev pub outside : ℕ → Refusal
outside x = refused_if (not (nat_le 1 x && nat_le x MAX_ARGUMENT)) (OutOfRange x)

-- the argument isn't live
abbrev pub unknown : Af → ℕ → Refusal
unknown f x = refused_if (not (has_number f.live x)) (UnknownArgument x)

-- an attack between numbers of which one is no argument's, or isn't live
abbrev pub end_refusals : Af → ℕ → ℕ → List Refusal
end_refusals f b a = outside b ∷ outside a ∷ unknown f b ∷ unknown f a ∷ []

-- the argument is an end of the attack
abbrev pub is_end : ℕ → ℕ × ℕ → Bool
is_end x p = p.0 == x || p.1 == x

-- a framework with an argument more, and without one and its attacks
abbrev pub af_with_argument : Af → ℕ → Af
af_with_argument f n = record { live = with_number n f.live; attacks = f.attacks }

abbrev pub af_without_argument : Af → ℕ → Af
af_without_argument f n = record {
  live = filter (λ a. not (a == n)) f.live;
  attacks = filter (λ p. not (is_end n p)) f.attacks;
}

-- a framework with an attack more, and without one
abbrev pub af_with_attack : Af → ℕ → ℕ → Af
af_with_attack f b a = record { live = f.live; attacks = with_pair (b, a) f.attacks }

abbrev pub af_without_attack : Af → ℕ → ℕ → Af
af_without_attack f b a = record { live = f.live; attacks = without_pair (b, a) f.attacks }

abbrev pub argument_added : Af → ℕ → Row
argument_added f n = record {
  refusals = outside n ∷ refused_if (has_number f.live n) ArgumentIsThere ∷ [];
  framework = af (af_with_argument f n);
  effect = plain_effect (ArgAdd n);
}

abbrev pub argument_dropped : Af → ℕ → Row
argument_dropped f n = record {
  refusals = outside n ∷ unknown f n ∷ [];
  framework = af (record {
    live = filter (λ a. not (a == n)) f.live;
    attacks = filter (λ p. not (is_end n p)) f.attacks;
  });
  effect = record {
    edit = ArgDrop n;
    rule = 0;
    dropped = filter (is_end n) f.attacks;
    gone = [];
    head = 0;
    body = [];
  };
}

abbrev pub attack_added : Af → ℕ → ℕ → Row
attack_added f b a = record {
  refusals = end_refusals f b a ++ refused_if (has_pair f.attacks (b, a)) AttackIsThere ∷ [];
  framework = af (af_with_attack f b a);
  effect = plain_effect (AttackAdd b a);
}

abbrev pub attack_dropped : Af → ℕ → ℕ → Row
attack_dropped f b a = record {
  refusals = end_refusals f b a ++ refused_if (not (has_pair f.attacks (b, a))) NoSuchAttack ∷ [];
  framework = af (af_without_attack f b a);
  effect = plain_effect (AttackDrop b a);
}

-- the row of an edit of an abstract framework; an edit of the other kind has none
abbrev pub af_row : Af → Edit → Option Row
af_row f (ArgAdd n) = Some (argument_added f n)
af_row f (ArgDrop n) = Some (argument_dropped f n)
af_row f (AttackAdd b a) = Some (attack_added f b a)
af_row f (AttackDrop b a) = Some (attack_dropped f b a)
af_row f (AsmAdd a c) = None
af_row f (AsmDrop a) = None
af_row f (ConSet a c) = None
af_row f (ConAdd a c) = None
af_row f (ConDrop a c) = None
af_row f (RuleAdd h body) = None
af_row f (RuleDrop r) = None

-- the row of an edit of a flat assumption-based framework, as one of any framework
abbrev pub any_row : Option AbaRow → Option Row
any_row None = None
any_row (Some row) =
    Some (record { refusals = row.refusals; framework = aba row.framework; effect = row.effect })

-- the row of an edit
abbrev pub row_of : Framework → Edit → Option Row
row_of (af f) edit = af_row f edit
row_of (aba f) edit = any_row (aba_row f edit)

-- what a row comes to
abbrev pub row_outcome : Row → Result (Framework × Effect) EditFault
row_outcome row = done_unless row.refusals (row.framework, row.effect)

-- what a row comes to, where the edit has one
abbrev pub outcome_in : Option Row → Result (Framework × Effect) EditFault
outcome_in None = Err WrongKind
outcome_in (Some row) = row_outcome row

-- what an edit comes to: the framework behind it with its effect, or the first refusal
abbrev pub edit_outcome : Framework → Edit → Result (Framework × Effect) EditFault
edit_outcome f edit = outcome_in (row_of f edit)
