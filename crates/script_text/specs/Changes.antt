-- The commands that change a framework: their names, how many numbers follow, and which edits they are.
use Rattle.std.specs.Prelude.{◌≡◌, ℕ, ◌≤◌, List, [], ◌∷◌, codes}
use Rattle.edit_rules.specs.declared.edit.Edit.{Edit}
use Rattle.edit_rules.specs.declared.edit.Edit.TheVariants.{ArgAdd, ArgDrop, AttackAdd, AttackDrop, AsmAdd, AsmDrop}
use Rattle.edit_rules.specs.declared.edit.Edit.TheVariants.{ConSet, ConAdd, ConDrop, RuleAdd, RuleDrop}
use Rattle.script_text.specs.declared.edit_word.EditWord.{EditWord}
use Rattle.script_text.specs.declared.edit_word.EditWord.TheVariants.{Arg, NoArg, Att, NoAtt, Asm, NoAsm, Con}
use Rattle.script_text.specs.declared.edit_word.EditWord.TheVariants.{AddCon, DelCon, Rule, NoRule}

abbrev pub change_name : EditWord → List ℕ
change_name Arg = codes "arg"
change_name NoArg = codes "noarg"
change_name Att = codes "att"
change_name NoAtt = codes "noatt"
change_name Asm = codes "asm"
change_name NoAsm = codes "noasm"
change_name Con = codes "con"
change_name AddCon = codes "addcon"
change_name DelCon = codes "delcon"
change_name Rule = codes "rule"
change_name NoRule = codes "norule"

-- so many numbers may follow the command's name
abbrev pub Takes : EditWord → ℕ → Type 0
Takes Arg count = count ≡ 1
Takes NoArg count = count ≡ 1
Takes Att count = count ≡ 2
Takes NoAtt count = count ≡ 2
Takes Asm count = count ≡ 2
Takes NoAsm count = count ≡ 1
Takes Con count = count ≡ 2
Takes AddCon count = count ≡ 2
Takes DelCon count = count ≡ 2
Takes Rule count = 1 ≤ count
Takes NoRule count = count ≡ 1

-- the command that makes the edit
abbrev pub change_of : Edit → EditWord
change_of (ArgAdd n) = Arg
change_of (ArgDrop n) = NoArg
change_of (AttackAdd b a) = Att
change_of (AttackDrop b a) = NoAtt
change_of (AsmAdd a c) = Asm
change_of (AsmDrop a) = NoAsm
change_of (ConSet a c) = Con
change_of (ConAdd a c) = AddCon
change_of (ConDrop a c) = DelCon
change_of (RuleAdd h body) = Rule
change_of (RuleDrop r) = NoRule

-- the numbers that the command then has, in order
abbrev pub edit_numbers : Edit → List ℕ
edit_numbers (ArgAdd n) = n ∷ []
edit_numbers (ArgDrop n) = n ∷ []
edit_numbers (AttackAdd b a) = b ∷ a ∷ []
edit_numbers (AttackDrop b a) = b ∷ a ∷ []
edit_numbers (AsmAdd a c) = a ∷ c ∷ []
edit_numbers (AsmDrop a) = a ∷ []
edit_numbers (ConSet a c) = a ∷ c ∷ []
edit_numbers (ConAdd a c) = a ∷ c ∷ []
edit_numbers (ConDrop a c) = a ∷ c ∷ []
edit_numbers (RuleAdd h body) = h ∷ body
edit_numbers (RuleDrop r) = r ∷ []
