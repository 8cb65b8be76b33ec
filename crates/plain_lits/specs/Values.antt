-- Values of literals under an assignment, which is a list of the literals that are true.
use Rattle.std.specs.Prelude.{List, Contains, Bool, true, false}
use Rattle.plain_lits.specs.declared.lit.Lit.{Lit}
use Rattle.plain_lits.specs.declared.value.Value.{Value}
use Rattle.plain_lits.specs.declared.value.Value.TheVariants.{True, False, Unset}
use Rattle.plain_lits.specs.Literals.{negation}

-- the value of a variable whose literal of this sign is true
abbrev pub from_sign : Bool → Value
from_sign true = True
from_sign false = False

-- the value of a variable's literal of this sign
abbrev pub for_sign : Value → Bool → Value
for_sign Unset positive = Unset
for_sign True positive = from_sign positive
for_sign False true = False
for_sign False false = True

-- the value of a literal where just these literals are true
abbrev pub IsValueIn : List Lit → Lit → Value → Type 0
IsValueIn lits l True = Contains lits l × ¬ Contains lits (negation l)
IsValueIn lits l False = Contains lits (negation l) × ¬ Contains lits l
IsValueIn lits l Unset = ¬ Contains lits l × ¬ Contains lits (negation l)
