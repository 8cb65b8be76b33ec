-- Names tell commands, edits and tasks apart.
use Rattle.std.proofs.Common.{◌≡◌, ℕ, ◌==◌, List, [], ◌∷◌, length, get_or, refl, sym, ap, ◌∙◌, arith}
use Rattle.std.specs.Prelude.{if◌then◌else◌, Option, Some, None, codes}
use Rattle.iccma_tasks.specs.declared.task.Problem.{Problem}
use Rattle.iccma_tasks.specs.declared.task.Problem.TheVariants.{Credulous, Sceptical, SomeExtension, AllExtensions}
use Rattle.iccma_tasks.specs.declared.task.Semantics.{Semantics}
use Rattle.iccma_tasks.specs.declared.task.Semantics.TheVariants.{Complete, Grounded, Preferred, Stable}
use Rattle.iccma_tasks.specs.declared.task.Semantics.TheVariants.{SemiStable, Ideal, Stage}
use Rattle.iccma_tasks.specs.declared.task.Task.{Task}
use Rattle.iccma_tasks.specs.Tasks.{task_name, task_of}
use Rattle.edit_rules.specs.declared.edit.Edit.{Edit}
use Rattle.edit_rules.specs.declared.edit.Edit.TheVariants.{ArgAdd, ArgDrop, AttackAdd, AttackDrop, AsmAdd, AsmDrop}
use Rattle.edit_rules.specs.declared.edit.Edit.TheVariants.{ConSet, ConAdd, ConDrop, RuleAdd, RuleDrop}
use Rattle.script_text.specs.declared.edit_word.EditWord.{EditWord}
use Rattle.script_text.specs.declared.edit_word.EditWord.TheVariants.{Arg, NoArg, Att, NoAtt, Asm, NoAsm, Con}
use Rattle.script_text.specs.declared.edit_word.EditWord.TheVariants.{AddCon, DelCon, Rule, NoRule}
use Rattle.script_text.specs.Changes.{change_name, change_of, edit_numbers}

some_same : {A : Type 0} (x y : A) → Some x ≡ Some y → x ≡ y
some_same x y e = cc

-- ---- commands

-- the command whose name has this second byte, or `o` and then this fourth one
abbrev change_from : List ℕ → Option EditWord
change_from name =
    if get_or name 1 0 == 114 then Some Arg else if get_or name 1 0 == 116 then Some Att else
    if get_or name 1 0 == 115 then Some Asm else if get_or name 1 0 == 117 then Some Rule else
    if get_or name 1 0 == 100 then Some AddCon else if get_or name 1 0 == 101 then Some DelCon else
    if get_or name 3 0 == 114 then Some NoArg else if get_or name 3 0 == 116 then Some NoAtt else
    if get_or name 3 0 == 115 then Some NoAsm else if get_or name 3 0 == 117 then Some NoRule else Some Con

change_back : (change : EditWord) → change_from (change_name change) ≡ Some change
change_back Arg = refl
change_back NoArg = refl
change_back Att = refl
change_back NoAtt = refl
change_back Asm = refl
change_back NoAsm = refl
change_back Con = refl
change_back AddCon = refl
change_back DelCon = refl
change_back Rule = refl
change_back NoRule = refl

pub changes_same : (a b : EditWord) → change_name a ≡ change_name b → a ≡ b
changes_same a b e = some_same a b (sym (change_back a) ∙ ap change_from e ∙ change_back b)

-- the third byte of each command's name is not that of `ask`
not_k : (change : EditWord) → get_or (change_name change) 2 0 ≡ 107 → ⊥
not_k Arg e = absurd (omega arith)
not_k NoArg e = absurd (omega arith)
not_k Att e = absurd (omega arith)
not_k NoAtt e = absurd (omega arith)
not_k Asm e = absurd (omega arith)
not_k NoAsm e = absurd (omega arith)
not_k Con e = absurd (omega arith)
not_k AddCon e = absurd (omega arith)
not_k DelCon e = absurd (omega arith)
not_k Rule e = absurd (omega arith)
not_k NoRule e = absurd (omega arith)

-- nor is the first byte of any that of `begin`, `end` or `use`
not_b : (change : EditWord) → get_or (change_name change) 0 0 ≡ 98 → ⊥
not_b Arg e = absurd (omega arith)
not_b NoArg e = absurd (omega arith)
not_b Att e = absurd (omega arith)
not_b NoAtt e = absurd (omega arith)
not_b Asm e = absurd (omega arith)
not_b NoAsm e = absurd (omega arith)
not_b Con e = absurd (omega arith)
not_b AddCon e = absurd (omega arith)
not_b DelCon e = absurd (omega arith)
not_b Rule e = absurd (omega arith)
not_b NoRule e = absurd (omega arith)

not_e : (change : EditWord) → get_or (change_name change) 0 0 ≡ 101 → ⊥
not_e Arg e = absurd (omega arith)
not_e NoArg e = absurd (omega arith)
not_e Att e = absurd (omega arith)
not_e NoAtt e = absurd (omega arith)
not_e Asm e = absurd (omega arith)
not_e NoAsm e = absurd (omega arith)
not_e Con e = absurd (omega arith)
not_e AddCon e = absurd (omega arith)
not_e DelCon e = absurd (omega arith)
not_e Rule e = absurd (omega arith)
not_e NoRule e = absurd (omega arith)

not_u : (change : EditWord) → get_or (change_name change) 0 0 ≡ 117 → ⊥
not_u Arg e = absurd (omega arith)
not_u NoArg e = absurd (omega arith)
not_u Att e = absurd (omega arith)
not_u NoAtt e = absurd (omega arith)
not_u Asm e = absurd (omega arith)
not_u NoAsm e = absurd (omega arith)
not_u Con e = absurd (omega arith)
not_u AddCon e = absurd (omega arith)
not_u DelCon e = absurd (omega arith)
not_u Rule e = absurd (omega arith)
not_u NoRule e = absurd (omega arith)

pub begin_is_no_change : (change : EditWord) → change_name change ≡ codes "begin" → ⊥
begin_is_no_change change e = not_b change (ap (λ name. get_or name 0 0) e)

pub end_is_no_change : (change : EditWord) → change_name change ≡ codes "end" → ⊥
end_is_no_change change e = not_e change (ap (λ name. get_or name 0 0) e)

pub begin_is_no_ask : codes "ask" ≡ codes "begin" → ⊥
begin_is_no_ask e = let first = ap (λ name. get_or name 0 0) e in absurd (omega (arith, first))

pub end_is_no_ask : codes "ask" ≡ codes "end" → ⊥
end_is_no_ask e = let first = ap (λ name. get_or name 0 0) e in absurd (omega (arith, first))

pub begin_is_no_end : codes "begin" ≡ codes "end" → ⊥
begin_is_no_end e = let first = ap (λ name. get_or name 0 0) e in absurd (omega (arith, first))

pub use_is_no_change : (change : EditWord) → change_name change ≡ codes "use" → ⊥
use_is_no_change change e = not_u change (ap (λ name. get_or name 0 0) e)

pub use_is_no_ask : codes "ask" ≡ codes "use" → ⊥
use_is_no_ask e = let first = ap (λ name. get_or name 0 0) e in absurd (omega (arith, first))

pub use_is_no_begin : codes "begin" ≡ codes "use" → ⊥
use_is_no_begin e = let first = ap (λ name. get_or name 0 0) e in absurd (omega (arith, first))

pub use_is_no_end : codes "end" ≡ codes "use" → ⊥
use_is_no_end e = let first = ap (λ name. get_or name 0 0) e in absurd (omega (arith, first))

pub ask_is_no_change : (change : EditWord) → change_name change ≡ codes "ask" → ⊥
ask_is_no_change change e = not_k change (ap (λ name. get_or name 2 0) e)

-- ---- edits

abbrev edit_from : EditWord → List ℕ → Option Edit
edit_from Arg (n ∷ []) = Some (ArgAdd n)
edit_from NoArg (n ∷ []) = Some (ArgDrop n)
edit_from Att (b ∷ a ∷ []) = Some (AttackAdd b a)
edit_from NoAtt (b ∷ a ∷ []) = Some (AttackDrop b a)
edit_from Asm (a ∷ c ∷ []) = Some (AsmAdd a c)
edit_from NoAsm (a ∷ []) = Some (AsmDrop a)
edit_from Con (a ∷ c ∷ []) = Some (ConSet a c)
edit_from AddCon (a ∷ c ∷ []) = Some (ConAdd a c)
edit_from DelCon (a ∷ c ∷ []) = Some (ConDrop a c)
edit_from Rule (h ∷ body) = Some (RuleAdd h body)
edit_from NoRule (r ∷ []) = Some (RuleDrop r)
edit_from _ _ = None

edit_back : (edit : Edit) → edit_from (change_of edit) (edit_numbers edit) ≡ Some edit
edit_back (ArgAdd n) = refl
edit_back (ArgDrop n) = refl
edit_back (AttackAdd b a) = refl
edit_back (AttackDrop b a) = refl
edit_back (AsmAdd a c) = refl
edit_back (AsmDrop a) = refl
edit_back (ConSet a c) = refl
edit_back (ConAdd a c) = refl
edit_back (ConDrop a c) = refl
edit_back (RuleAdd h body) = refl
edit_back (RuleDrop r) = refl

pub edits_same : (d e : Edit) → change_of d ≡ change_of e → edit_numbers d ≡ edit_numbers e → d ≡ e
edits_same d e changes numbers = some_same d e
    (sym (edit_back d) ∙ ap (λ change. edit_from change (edit_numbers d)) changes
    ∙ ap (λ ns. edit_from (change_of e) ns) numbers ∙ edit_back e)

-- ---- tasks

abbrev problem_from : List ℕ → Problem
problem_from name =
    if get_or name 0 0 == 83 then SomeExtension else if get_or name 0 0 == 69 then AllExtensions else
    if get_or name 1 0 == 67 then Credulous else Sceptical

abbrev semantics_from : List ℕ → Semantics
semantics_from name =
    if get_or name 3 0 == 67 then Complete else if get_or name 3 0 == 71 then Grounded else
    if get_or name 3 0 == 80 then Preferred else if get_or name 3 0 == 73 then Ideal else
    if get_or name 4 0 == 83 then SemiStable else if length name == 5 then Stable else Stage

problem_back : (p : Problem) (s : Semantics) → problem_from (task_name (task_of p s)) ≡ p
problem_back Credulous s = refl
problem_back Sceptical s = refl
problem_back SomeExtension s = refl
problem_back AllExtensions s = refl

semantics_back : (p : Problem) (s : Semantics) → semantics_from (task_name (task_of p s)) ≡ s
semantics_back Credulous Complete = refl
semantics_back Credulous Grounded = refl
semantics_back Credulous Preferred = refl
semantics_back Credulous Stable = refl
semantics_back Credulous SemiStable = refl
semantics_back Credulous Ideal = refl
semantics_back Credulous Stage = refl
semantics_back Sceptical Complete = refl
semantics_back Sceptical Grounded = refl
semantics_back Sceptical Preferred = refl
semantics_back Sceptical Stable = refl
semantics_back Sceptical SemiStable = refl
semantics_back Sceptical Ideal = refl
semantics_back Sceptical Stage = refl
semantics_back SomeExtension Complete = refl
semantics_back SomeExtension Grounded = refl
semantics_back SomeExtension Preferred = refl
semantics_back SomeExtension Stable = refl
semantics_back SomeExtension SemiStable = refl
semantics_back SomeExtension Ideal = refl
semantics_back SomeExtension Stage = refl
semantics_back AllExtensions Complete = refl
semantics_back AllExtensions Grounded = refl
semantics_back AllExtensions Preferred = refl
semantics_back AllExtensions Stable = refl
semantics_back AllExtensions SemiStable = refl
semantics_back AllExtensions Ideal = refl
semantics_back AllExtensions Stage = refl

pub tasks_same : (s t : Task) → task_name s ≡ task_name t → s ≡ t
tasks_same s t e =
    let problems : s.problem ≡ t.problem
    = sym (problem_back s.problem s.semantics) ∙ ap problem_from e ∙ problem_back t.problem t.semantics in
    let semantics : s.semantics ≡ t.semantics
    = sym (semantics_back s.problem s.semantics) ∙ ap semantics_from e ∙ semantics_back t.problem t.semantics in
    ap (λ p. task_of p s.semantics) problems ∙ ap (λ x. task_of t.problem x) semantics
