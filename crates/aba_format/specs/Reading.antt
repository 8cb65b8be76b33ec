-- How a text is read, line by line.
use Rattle.std.specs.Prelude.{◌≡◌, ◌⊎◌, ℕ, ◌+◌, ◌<◌, ◌≤◌, Bool, true, false, List, [], ◌∷◌, ◌++◌, length, map}
use Rattle.std.specs.Prelude.{Contains, slice_index_or, slice_set}
use Rattle.std.specs.List.{AllPairs}
use Rattle.num_text.specs.Cuts.{LineText, FieldText, field_texts}
use Rattle.af_format.specs.declared.fault.LineCause.{LineCause}
use Rattle.af_format.specs.declared.fault.LineCause.TheVariants.{BadNumber, TooManyLines, NotFlat}
use Rattle.af_format.specs.declared.fault.LineCause.TheVariants.{ContraryOfNonAssumption}
use Rattle.af_format.specs.Causes.{IsFirstCause}
use Rattle.af_format.specs.Faults.{HaveNoNumber}
use Rattle.aba_format.specs.AbaText.{Said, says_assumption, says_contrary, says_rule, SaysLine, AreLines}
use Rattle.aba_format.specs.AbaText.{AreOfAssumptions, contraries_said, rules_said}
use Rattle.aba_format.specs.Faults.{StandsOnFields, StandsOnLine}
use Rattle.aba_format.specs.declared.said.TheConstants.{MAX_CONTRARY_LINES, MAX_RULE_LINES}
use Rattle.aba_format.specs.declared.said.LineParts.{LineParts}
use Rattle.aba_format.specs.declared.statement.Statement.{Statement}
use Rattle.aba_format.specs.declared.statement.Statement.TheVariants.{Assumption, Contrary, Rule}
use Rattle.aba_format.specs.declared.stop.LineStop.{LineStop}
use Rattle.aba_format.specs.declared.stop.LineStop.TheVariants.{Cause, Memory}

-- ---- one line

-- the texts of fields
abbrev pub texts_of : List FieldText → List (List ℕ)
texts_of fields = map (λ f. f.text) fields

-- what a statement says, with the body beside it
abbrev pub said_by : Statement → List ℕ → Said
said_by (Assumption x) body = says_assumption x
said_by (Contrary x y) body = says_contrary x y
said_by (Rule head) body = says_rule head body

-- where reading stops for a cause, it is one of which P holds
abbrev pub IfCause : LineStop → (LineCause → Type 0) → Type 0
IfCause (Cause cause) P = P cause
IfCause Memory P = Unit {0}

-- some field of a body is no number
abbrev pub IsBadBody : List (List ℕ) → LineCause → Type 0
IsBadBody texts cause = (cause ≡ BadNumber) × HaveNoNumber texts

-- ---- what the lines say, taken together

-- the number is marked
abbrev pub is_marked : List Bool → ℕ → Bool
is_marked marks x = slice_index_or marks x false

-- each list by atoms reaches this one
pub record AreWide (x : ℕ) (parts : LineParts) : Type 0 where
  pub assumed : x < length parts.assumed.items
  pub heading : x < length parts.heading.items
  pub opposed : x < length parts.opposed.items

-- nothing is said of so many atoms
pub record AreEmpty (count : ℕ) (parts : LineParts) : Type 0 where
  pub assumed_wide : length parts.assumed.items ≡ count + 1
  pub heading_wide : length parts.heading.items ≡ count + 1
  pub opposed_wide : length parts.opposed.items ≡ count + 1
  pub assumed : (x : ℕ) → is_marked parts.assumed.items x ≡ false
  pub heading : (x : ℕ) → is_marked parts.heading.items x ≡ false
  pub opposed : (x : ℕ) → is_marked parts.opposed.items x ≡ false
  pub assumptions : parts.assumptions.items ≡ []
  pub given : parts.given.items ≡ []
  pub contraries : parts.contraries.items ≡ []
  pub heads : parts.heads.items ≡ []
  pub bodies : parts.bodies.items ≡ []

-- x becomes an assumption
pub record IsNewAssumption (x : ℕ) (old new : LineParts) : Type 0 where
  pub fresh : is_marked old.assumed.items x ≡ false
  pub assumed : new.assumed.items ≡ slice_set old.assumed.items x true
  pub assumptions : new.assumptions.items ≡ old.assumptions.items ++ x ∷ []
  pub heading : new.heading.items ≡ old.heading.items
  pub opposed : new.opposed.items ≡ old.opposed.items
  pub given : new.given.items ≡ old.given.items
  pub contraries : new.contraries.items ≡ old.contraries.items
  pub heads : new.heads.items ≡ old.heads.items
  pub bodies : new.bodies.items ≡ old.bodies.items

-- x heads no rule, and is an assumption from here on
pub record AddsAssumption (x : ℕ) (old new : LineParts) : Type 0 where
  pub flat : is_marked old.heading.items x ≡ false
  pub added : ((is_marked old.assumed.items x ≡ true) × (new ≡ old)) ⊎ IsNewAssumption x old new

-- x was given a contrary before
pub record IsOpposedAgain (x : ℕ) (old new : LineParts) : Type 0 where
  pub earlier : is_marked old.opposed.items x ≡ true
  pub opposed : new.opposed.items ≡ old.opposed.items
  pub given : new.given.items ≡ old.given.items

-- x is given a contrary for the first time, by the line of this number
pub record IsFirstOpposed (x line : ℕ) (old new : LineParts) : Type 0 where
  pub fresh : is_marked old.opposed.items x ≡ false
  pub opposed : new.opposed.items ≡ slice_set old.opposed.items x true
  pub given : new.given.items ≡ old.given.items ++ (x, line) ∷ []

-- y is a contrary of x from here on, as the line of this number says
pub record AddsContrary (x y line : ℕ) (old new : LineParts) : Type 0 where
  pub few : length old.contraries.items < MAX_CONTRARY_LINES
  pub contraries : new.contraries.items ≡ old.contraries.items ++ (x, y) ∷ []
  pub marked : IsOpposedAgain x old new ⊎ IsFirstOpposed x line old new
  pub assumed : new.assumed.items ≡ old.assumed.items
  pub heading : new.heading.items ≡ old.heading.items
  pub assumptions : new.assumptions.items ≡ old.assumptions.items
  pub heads : new.heads.items ≡ old.heads.items
  pub bodies : new.bodies.items ≡ old.bodies.items

-- each atom of the body stands behind, paired with the index of its rule
abbrev pub AddsBody : ℕ → List ℕ → List (ℕ × ℕ) → List (ℕ × ℕ) → Type 0
AddsBody index body old new = new ≡ old ++ map (λ y. (index, y)) body

-- a rule more, whose head is no assumption
pub record AddsRule (head : ℕ) (body : List ℕ) (old new : LineParts) : Type 0 where
  pub few : length old.heads.items < MAX_RULE_LINES
  pub flat : is_marked old.assumed.items head ≡ false
  pub heading : new.heading.items ≡ slice_set old.heading.items head true
  pub heads : new.heads.items ≡ old.heads.items ++ head ∷ []
  pub bodies : AddsBody (length old.heads.items) body old.bodies.items new.bodies.items
  pub assumed : new.assumed.items ≡ old.assumed.items
  pub opposed : new.opposed.items ≡ old.opposed.items
  pub assumptions : new.assumptions.items ≡ old.assumptions.items
  pub given : new.given.items ≡ old.given.items
  pub contraries : new.contraries.items ≡ old.contraries.items

-- the cause for which each of the three is refused
abbrev pub RefusesAssumption : ℕ → LineParts → LineCause → Type 0
RefusesAssumption x old cause = (cause ≡ NotFlat) × (is_marked old.heading.items x ≡ true)

abbrev pub RefusesContrary : LineParts → LineCause → Type 0
RefusesContrary old cause = (cause ≡ TooManyLines) × (MAX_CONTRARY_LINES ≤ length old.contraries.items)

abbrev pub RefusesRule : ℕ → LineParts → LineCause → Type 0
RefusesRule head old cause =
    ((cause ≡ TooManyLines) × (MAX_RULE_LINES ≤ length old.heads.items))
    ⊎ ((cause ≡ NotFlat) × (length old.heads.items < MAX_RULE_LINES) × (is_marked old.assumed.items head ≡ true))

-- what is said is taken in, as the line of this number says it
abbrev pub Adds : Said → ℕ → LineParts → LineParts → Type 0
Adds (says_assumption x) line old new = AddsAssumption x old new
Adds (says_contrary x y) line old new = AddsContrary x y line old new
Adds (says_rule head body) line old new = AddsRule head body old new

-- the cause for which it is refused
abbrev pub Refuses : Said → LineParts → LineCause → Type 0
Refuses (says_assumption x) old cause = RefusesAssumption x old cause
Refuses (says_contrary x y) old cause = RefusesContrary old cause
Refuses (says_rule head body) old cause = RefusesRule head old cause

-- each list by atoms has an item for each of so many
pub record AreWideFor (count : ℕ) (parts : LineParts) : Type 0 where
  pub assumed : length parts.assumed.items ≡ count + 1
  pub heading : length parts.heading.items ≡ count + 1
  pub opposed : length parts.opposed.items ≡ count + 1

-- what the line says is taken in
pub record TakesLine (count number : ℕ) (line : List ℕ) (old new : LineParts) : Type 0 where
  pub said : Said
  pub says : SaysLine count line said
  pub adds : Adds said number old new

-- the line says something that is refused for this cause
pub record IsRefusedLine (count : ℕ) (line : List ℕ) (old : LineParts) (cause : LineCause) : Type 0 where
  pub said : Said
  pub says : SaysLine count line said
  pub refuses : Refuses said old cause

-- the line is refused for this cause: for its fields alone, or for what it says beside the others
abbrev pub IsStopped : ℕ → List ℕ → LineParts → LineCause → Type 0
IsStopped count line old cause =
    IsFirstCause (StandsOnFields count (field_texts line)) cause ⊎ IsRefusedLine count line old cause

-- ---- all lines

-- x is an atom with a mark, or without one, by what is said
pub record AreMarked (marks : List Bool) (P : ℕ → Type 0) : Type 0 where
  pub marked : (x : ℕ) → is_marked marks x ≡ true → P x
  pub all : (x : ℕ) → P x → is_marked marks x ≡ true

-- the numbers of rules, their heads and their bodies by their index
pub record AreRulesIn (rules : List (ℕ × List ℕ)) (heads : List ℕ) (bodies : List (ℕ × ℕ)) : Type 0 where
  pub heads_are : heads ≡ map (λ r. r.0) rules
  pub within : (k y : ℕ) → Contains bodies (k, y) → k < length rules
  pub bodies_are : (k y : ℕ) (d : ℕ × List ℕ) → k < length rules → Contains bodies (k, y)
      → Contains (slice_index_or rules k d).1 y
  pub all : (k y : ℕ) (d : ℕ × List ℕ) → k < length rules → Contains (slice_index_or rules k d).1 y
      → Contains bodies (k, y)

-- what is said stands in these lists
pub record IsSaidIn (count : ℕ) (all : List Said) (parts : LineParts) : Type 0 where
  pub wide : AreWideFor count parts
  pub assumed : AreMarked parts.assumed.items (λ x. Contains all (says_assumption x))
  pub heading : AreMarked parts.heading.items (λ x. (body : List ℕ) × Contains all (says_rule x body))
  pub opposed : AreMarked parts.opposed.items (λ x. (y : ℕ) × Contains all (says_contrary x y))
  pub contraries : parts.contraries.items ≡ contraries_said all
  pub assumptions : (x : ℕ) → Contains parts.assumptions.items x → Contains all (says_assumption x)
  pub assumptions_all : (x : ℕ) → Contains all (says_assumption x) → Contains parts.assumptions.items x
  pub rules : AreRulesIn (rules_said all) parts.heads.items parts.bodies.items

-- one of the lines has this number and gives x a contrary
pub record GivesAt (count : ℕ) (lines : List LineText) (x line : ℕ) : Type 0 where
  pub here : LineText
  pub there : Contains lines here
  pub number_is : line ≡ here.number
  pub y : ℕ
  pub gives : SaysLine count here.text (says_contrary x y)

-- each atom that a line gives a contrary, with the number of the first such line, by rising number
pub record AreGivenBy (count : ℕ) (lines : List LineText) (given : List (ℕ × ℕ)) : Type 0 where
  pub by_line : (x line : ℕ) → Contains given (x, line) → GivesAt count lines x line
  pub all : (here : LineText) (x y : ℕ) → Contains lines here → SaysLine count here.text (says_contrary x y)
      → (line : ℕ) × Contains given (x, line) × (line ≤ here.number)
  pub rise : AllPairs (λ p q. p.1 < q.1) given

-- the numbers of the lines rise
abbrev pub NumbersRise : List LineText → Type 0
NumbersRise lines = AllPairs (λ l m. l.number < m.number) lines

-- the lines say what stands in these lists
pub record AreRead (count : ℕ) (lines : List LineText) (parts : LineParts) : Type 0 where
  pub all : List Said
  pub lines_are : AreLines count lines all
  pub said_in : IsSaidIn count all parts
  pub given_by : AreGivenBy count lines parts.given.items

-- the first line that is refused has this number, and the cause is told of it
pub record IsFirstBadLine (count : ℕ) (lines : List LineText) (number : ℕ) (cause : LineCause) : Type 0 where
  pub before : List LineText
  pub bad : LineText
  pub after : List LineText
  pub lines_are : lines ≡ before ++ bad ∷ after
  pub all : List Said
  pub before_are : AreLines count before all
  pub number_is : number ≡ bad.number
  pub told : IsFirstCause (StandsOnLine count before bad) cause

-- the first line that gives a contrary to what no line says to be an assumption has this number, and nothing else is
-- wrong
pub record IsFirstStray (count : ℕ) (lines : List LineText) (number : ℕ) (cause : LineCause) : Type 0 where
  pub cause_is : cause ≡ ContraryOfNonAssumption
  pub all : List Said
  pub lines_are : AreLines count lines all
  pub x : ℕ
  pub gives : GivesAt count lines x number
  pub not_assumed : Contains all (says_assumption x) → ⊥
  pub first : (here : LineText) (z y : ℕ) → Contains lines here → SaysLine count here.text (says_contrary z y)
      → (Contains all (says_assumption z) → ⊥) → number ≤ here.number

-- something is wrong with the lines, and this is told of it
abbrev pub IsBadText : ℕ → List LineText → ℕ → LineCause → Type 0
IsBadText count lines number cause = IsFirstBadLine count lines number cause ⊎ IsFirstStray count lines number cause

-- the lines say what stands in these lists, and only assumptions have contraries
pub record AreWhole (count : ℕ) (lines : List LineText) (parts : LineParts) : Type 0 where
  pub read : AreRead count lines parts
  pub of_assumptions : AreOfAssumptions read.all

-- the first of the given atoms that has no mark, with its line's number
pub record IsFirstUnmarked (given : List (ℕ × ℕ)) (marks : List Bool) (line : ℕ) : Type 0 where
  pub x : ℕ
  pub index : ℕ
  pub within : index < length given
  pub there : slice_index_or given index (0, 0) ≡ (x, line)
  pub unmarked : is_marked marks x ≡ false
  pub before : (k : ℕ) → k < index → is_marked marks (slice_index_or given k (0, 0)).0 ≡ true

-- all given atoms have marks
abbrev pub AreAllMarked : List (ℕ × ℕ) → List Bool → Type 0
AreAllMarked given marks = (x line : ℕ) → Contains given (x, line) → is_marked marks x ≡ true
