-- The text of a flat assumption-based framework, and the framework that it describes.
use Rattle.std.specs.Prelude.{◌≡◌, ◌↔◌, ℕ, ◌≤◌, List, [], ◌∷◌, length, Contains, codes}
use Rattle.std.specs.List.{AllZip}
use Rattle.num_text.specs.Cuts.{LineText, field_texts}
use Rattle.num_text.specs.Lines.{kept_lines}
use Rattle.num_text.specs.Number.{IsNumber}
use Rattle.semantics.specs.Rules.{Rule}
use Rattle.semantics.specs.AbaFrameworks.{Aba, IsAtom, IsNumberedAba}
use Rattle.aba_notions.specs.Solid.{IsSolid}
use Rattle.af_format.specs.Headers.{aba_word, IsHeaderOf}
use Rattle.aba_format.specs.declared.said.TheConstants.{MAX_CONTRARY_LINES, MAX_RULE_LINES}

-- what a line behind the header says: that x is an assumption, that y is a contrary of x, or a rule with this head and
-- this body
pub data Said : Type 0 where
  says_assumption : (x : ℕ) → Said
  says_contrary : (x y : ℕ) → Said
  says_rule : (head : ℕ) (body : List ℕ) → Said

-- the first field of such a line
abbrev pub keyword : Said → List ℕ
keyword (says_assumption x) = codes "a"
keyword (says_contrary x y) = codes "c"
keyword (says_rule head body) = codes "r"

-- the atoms that its other fields spell
abbrev pub atoms_of : Said → List ℕ
atoms_of (says_assumption x) = x ∷ []
atoms_of (says_contrary x y) = x ∷ y ∷ []
atoms_of (says_rule head body) = head ∷ body

-- the text is the number of one of the atoms, 1 to n
pub record SpellsAtom (count : ℕ) (text : List ℕ) (x : ℕ) : Type 0 where
  pub number : IsNumber text x
  pub atom : IsAtom count x

-- the line says this: `a x`, `c x y`, or `r h b1 .. bk`
pub record SaysLine (count : ℕ) (line : List ℕ) (said : Said) : Type 0 where
  pub texts : List (List ℕ)
  pub fields : field_texts line ≡ keyword said ∷ texts
  pub atoms : AllZip (SpellsAtom count) texts (atoms_of said)

-- the rules that are said, in order, each as its head and its body
abbrev pub rules_said : List Said → List (ℕ × List ℕ)
rules_said [] = []
rules_said (says_assumption x ∷ more) = rules_said more
rules_said (says_contrary x y ∷ more) = rules_said more
rules_said (says_rule head body ∷ more) = (head, body) ∷ rules_said more

-- the contraries that are said, in order, a repeated one each time, each as an atom and a contrary of it
abbrev pub contraries_said : List Said → List (ℕ × ℕ)
contraries_said [] = []
contraries_said (says_assumption x ∷ more) = contraries_said more
contraries_said (says_contrary x y ∷ more) = (x, y) ∷ contraries_said more
contraries_said (says_rule head body ∷ more) = contraries_said more

-- what is said makes no assumption the head of a rule, and there aren't too many rules or contraries
pub record AreConsistent (all : List Said) : Type 0 where
  pub few : length (rules_said all) ≤ MAX_RULE_LINES
  pub few_contraries : length (contraries_said all) ≤ MAX_CONTRARY_LINES
  pub flat : (x : ℕ) (body : List ℕ) → Contains all (says_assumption x) → Contains all (says_rule x body) → ⊥

-- each line says what stands at its index, and what they say is consistent
pub record AreLines (count : ℕ) (lines : List LineText) (all : List Said) : Type 0 where
  pub each : AllZip (λ line said. SaysLine count line.text said) lines all
  pub consistent : AreConsistent all

-- only assumptions are given contraries
abbrev pub AreOfAssumptions : List Said → Type 0
AreOfAssumptions all = (x y : ℕ) → Contains all (says_contrary x y) → Contains all (says_assumption x)

-- but for skipped lines, the bytes are a header with this number of atoms, followed by lines that say this
pub record IsAbaText (bytes : List ℕ) (count : ℕ) (all : List Said) : Type 0 where
  pub header : LineText
  pub others : List LineText
  pub lines : kept_lines bytes ≡ header ∷ others
  pub header_is : IsHeaderOf aba_word header.text count
  pub others_are : AreLines count others all
  pub of_assumptions : AreOfAssumptions all

-- the rule has this head, and its body the same members as this
pub record IsRuleSaid (said : ℕ × List ℕ) (r : Rule) : Type 0 where
  pub head_is : r.head ≡ said.0
  pub body_is : (y : ℕ) → Contains r.body y ↔ Contains said.1 y

-- the framework has the atoms 1 to n, exactly these assumptions and contraries of them, a repeated one once, and these
-- rules, numbered from 1 in their order
pub record IsFrameworkOf (count : ℕ) (all : List Said) (f : Aba) : Type 0 where
  pub atoms_are : f.atoms ≡ count
  pub assumptions_are : (x : ℕ) → Contains f.assumptions x ↔ Contains all (says_assumption x)
  pub contraries_are : (a c : ℕ) → Contains f.contraries (a, c) ↔ Contains all (says_contrary a c)
  pub rules_are : AllZip IsRuleSaid (rules_said all) f.rules
  pub solid : IsSolid f
  pub form : IsNumberedAba f

-- the bytes are the text of a framework, and describe this one
pub record ReadsAs (bytes : List ℕ) (f : Aba) : Type 0 where
  pub count : ℕ
  pub all : List Said
  pub text : IsAbaText bytes count all
  pub framework : IsFrameworkOf count all f
