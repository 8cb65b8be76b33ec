-- The lines of an APX text: facts `arg(a).` and `att(a,b).`, none or more.
use Rattle.std.specs.Prelude.{◌≡◌, ℕ, ◌<◌, ◌&&◌, Bool, true, false, if◌then◌else◌, List, [], ◌∷◌, length, All, map, codes, slice_index}
use Rattle.std.specs.List.{flat_map}
use Rattle.num_text.specs.Cuts.{LineText, is_blank, field_texts}
use Rattle.apx_tgf.specs.Names.{is_name_byte, IsName}
use Rattle.apx_tgf.specs.Told.{Statement}
use Rattle.apx_tgf.specs.Told.Statement.{declares, tells}

-- whether the text begins with a byte of a name
abbrev pub begins_with_name : List ℕ → Bool
begins_with_name [] = false
begins_with_name (byte ∷ more) = is_name_byte byte

-- the tokens, the first of them longer by this byte in front
abbrev pub with_first_byte : ℕ → List (List ℕ) → List (List ℕ)
with_first_byte byte [] = (byte ∷ []) ∷ []
with_first_byte byte (token ∷ more) = (byte ∷ token) ∷ more

-- the tokens of a text: the longest pieces of bytes of names, and each other byte that is no blank by itself
unfoldable pub tokens_of : List ℕ → List (List ℕ)
tokens_of [] = []
tokens_of (byte ∷ more) = if is_blank byte then tokens_of more else
    if is_name_byte byte && begins_with_name more then with_first_byte byte (tokens_of more) else
    (byte ∷ []) ∷ tokens_of more

-- what each token is: not empty, and a name where its first byte is one of a name
pub record IsToken (token : List ℕ) : Type 0 where
  pub not_empty : 0 < length token
  pub name : is_name_byte (slice_index token 0) ≡ true → IsName token

-- a fact: `arg(a).` or `att(a,b).`
pub data Fact : Type 0 where
  arg : (name : List ℕ) → Fact
  att : (attacker target : List ℕ) → Fact

-- what stands in the parentheses are names
abbrev pub HasNames : Fact → Type 0
HasNames (arg name) = IsName name
HasNames (att attacker target) = IsName attacker × IsName target

-- the tokens of a fact
abbrev pub fact_tokens : Fact → List (List ℕ)
fact_tokens (arg name) = codes "arg" ∷ codes "(" ∷ name ∷ codes ")" ∷ codes "." ∷ []
fact_tokens (att attacker target) = codes "att" ∷ codes "(" ∷ attacker ∷ codes "," ∷ target ∷ codes ")"
    ∷ codes "." ∷ []

-- what a fact on a line says
abbrev pub statement_of : ℕ → Fact → Statement
statement_of line (arg name) = declares name
statement_of line (att attacker target) = tells (record { line = line; attacker = attacker; target = target })

-- the tokens are those of these facts, one after the other
pub record AreFacts (tokens : List (List ℕ)) (facts : List Fact) : Type 0 where
  pub tokens_are : tokens ≡ flat_map fact_tokens facts
  pub names : All HasNames facts

-- the first field begins with `%`
abbrev pub BeginWithPercent : List (List ℕ) → Type 0
BeginWithPercent [] = ⊥
BeginWithPercent (first ∷ more) = slice_index first 0 ≡ 37

-- the line says these statements: its facts, or nothing where it is a remark
pub data IsApxLine (line : LineText) (statements : List Statement) : Type 0 where
  remark : BeginWithPercent (field_texts line.text) → statements ≡ [] → IsApxLine line statements
  facts : (facts : List Fact) → ¬ BeginWithPercent (field_texts line.text) → AreFacts (tokens_of line.text) facts
      → statements ≡ map (statement_of line.number) facts → IsApxLine line statements
