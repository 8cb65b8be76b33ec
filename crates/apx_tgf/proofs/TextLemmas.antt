-- A text has one reading, and no fault beside it.
use Rattle.std.proofs.Common.{◌≡◌, ℕ, suc, ◌<◌, ◌≤◌, Bool, true, false, List, [], ◌∷◌, ◌++◌, length, refl, sym, ap, subst, ◌∙◌, inl, inr, arith}
use Rattle.std.specs.Prelude.{Contains, fold, if◌then◌else◌}
use Rattle.std.proofs.lemmas.List.{length-append}
use Rattle.std.proofs.lemmas.Grind.{fold-append}
use Rattle.num_text.specs.Cuts.{LineText, lines_of}
use Rattle.semantics.specs.Framework.{Af}
use Rattle.semantics.specs.declared.argument.TheConstants.{MAX_ARGUMENT}
use Rattle.af_format.specs.declared.af_line.TheConstants.{MAX_ATTACK_LINES}
use Rattle.af_format.proofs.Readings.{rising_same}
use Rattle.apx_tgf.specs.declared.format.NameFormat.{NameFormat}
use Rattle.apx_tgf.specs.declared.fault.NameCause.{NameCause}
use Rattle.apx_tgf.specs.declared.fault.NameCause.TheVariants.{BadLine, TooManyArguments, TooManyLines, UnknownName}
use Rattle.apx_tgf.specs.Names.{has_name, with_name}
use Rattle.apx_tgf.specs.Told.{Told, Statement, IsWithinLimits, nothing_told, told_by, told_after, told_after_line}
use Rattle.apx_tgf.specs.Told.Statement.{declares, tells}
use Rattle.apx_tgf.specs.NamedText.{SaysLine, AreSaid, IsNamedFramework, ReadsAs}
use Rattle.apx_tgf.specs.Faults.{StandsAt, IsLineFault, IsUnknownName, IsFirstFault}
use Rattle.apx_tgf.proofs.LineLemmas.{SaysLine-same}

-- ---- one reading

-- lines say one thing alone
pub AreSaid-same : (format : NameFormat) (d a b : Bool) (lines : List LineText) (s t : List (List Statement))
    → AreSaid format d lines s a → AreSaid format d lines t b → (s ≡ t) × (a ≡ b)
unfolding AreSaid
AreSaid-same format d a b [] [] [] h g = (refl, sym h ∙ g)
AreSaid-same format d a b [] [] (y ∷ t) h g = absurd g
AreSaid-same format d a b [] (x ∷ s) t h g = absurd h
AreSaid-same format d a b (l ∷ lines) [] t h g = absurd h
AreSaid-same format d a b (l ∷ lines) (x ∷ s) [] h g = absurd g
AreSaid-same format d a b (l ∷ lines) (x ∷ s) (y ∷ t) h g =
    let first = SaysLine-same format d l x y h.after g.after h.line_is g.line_is in
    let rest = AreSaid-same format g.after a b lines s t
    (subst (λ m. AreSaid format m lines s a) first.1 h.rest) g.rest in
    (ap (λ z. z ∷ s) first.0 ∙ ap (λ z. y ∷ z) rest.0, rest.1)

same_framework : (f g : Af) → f.live ≡ g.live → f.attacks ≡ g.attacks → f ≡ g
same_framework f g lives attacks =
    let first : f ≡ record { live = g.live; attacks = f.attacks }
    = ap (λ xs. let h : Af = record { live = xs; attacks = f.attacks } in h) lives in
    first ∙ ap (λ ps. let h : Af = record { live = g.live; attacks = ps } in h) attacks

one_framework : (told : Told) (f g : Af) → IsNamedFramework told.names told.attacks f
    → IsNamedFramework told.names told.attacks g → f ≡ g
one_framework told f g a b = same_framework f g (a.live ∙ sym b.live)
    (rising_same f.attacks g.attacks a.form.attacks_rise b.form.attacks_rise
    (λ p. (
      λ has. (b.attacks_are p.0 p.1).1 ((a.attacks_are p.0 p.1).0 has),
      λ has. (a.attacks_are p.0 p.1).1 ((b.attacks_are p.0 p.1).0 has),
    )))

-- a reading's framework, over what is told
framework_told : (format : NameFormat) (bytes : List ℕ) (names : List (List ℕ)) (f : Af) (told : Told)
    → (r : ReadsAs format bytes names f) → told_by r.says ≡ told → IsNamedFramework told.names told.attacks f
framework_told format bytes names f told r is =
    subst (λ t. IsNamedFramework t.names t.attacks f) is
    (subst (λ ns. IsNamedFramework ns (told_by r.says).attacks f) r.names_are r.framework)

-- a text reads as one framework alone
pub ReadsAs-same : (format : NameFormat) (bytes : List ℕ) (names names' : List (List ℕ)) (f g : Af)
    → ReadsAs format bytes names f → ReadsAs format bytes names' g → (names ≡ names') × (f ≡ g)
ReadsAs-same format bytes names names' f g a b =
    let says = AreSaid-same format false a.last b.last (lines_of bytes) a.says b.says a.lines_are b.lines_are in
    let told : told_by a.says ≡ told_by b.says = ap told_by says.0 in (
      a.names_are ∙ ap (λ t. t.names) told ∙ sym b.names_are,
      one_framework (told_by b.says) f g (framework_told format bytes names f (told_by b.says) a told)
          (framework_told format bytes names' g (told_by b.says) b refl),
    )

-- ---- no fault

-- what is told by more lines is more
record IsMore (old new : Told) : Type 0 where
  names : length old.names ≤ length new.names
  attacks : length old.attacks ≤ length new.attacks

more_trans : (a b c : Told) → IsMore a b → IsMore b c → IsMore a c
more_trans a b c h g =
    let n = h.names in let n' = g.names in let m = h.attacks in let m' = g.attacks in
    record { names = omega arith; attacks = omega arith }

with_name-more : (names : List (List ℕ)) (name : List ℕ) → length names ≤ length (with_name names name)
unfolding with_name
with_name-more names name = go names name (has_name names name)
  where
    go : (names : List (List ℕ)) (name : List ℕ) (there : Bool)
        → length names ≤ length (if there then names else names ++ name ∷ [])
    go names name true = omega arith
    go names name false = omega (arith, length-append names (name ∷ []))

statement-more : (told : Told) (s : Statement) → IsMore told (told_after told s)
unfolding told_after
statement-more told (declares name) =
    let n = with_name-more told.names name in record { names = n; attacks = omega arith }
statement-more told (tells attack) =
    record { names = omega arith; attacks = omega (arith, length-append told.attacks (attack ∷ [])) }

line-more : (told : Told) (statements : List Statement) → IsMore told (told_after_line told statements)
line-more told [] = record { names = omega arith; attacks = omega arith }
line-more told (s ∷ statements) = more_trans told (told_after told s) (told_after_line (told_after told s) statements)
    (statement-more told s) (line-more (told_after told s) statements)

lines-more : (told : Told) (says : List (List Statement)) → IsMore told (fold told_after_line told says)
lines-more told [] = record { names = omega arith; attacks = omega arith }
lines-more told (s ∷ says) = more_trans told (told_after_line told s)
    (fold told_after_line (told_after_line told s) says)
    (line-more told s) (lines-more (told_after_line told s) says)

-- what is said by lines of which one is told apart
record IsSplit (format : NameFormat) (d : Bool) (before : List LineText) (bad : LineText)
    (says : List (List Statement)) : Type 0 where
  first : List (List Statement)
  divided : Bool
  statements : List Statement
  after : Bool
  rest : List (List Statement)
  says_are : says ≡ first ++ statements ∷ rest
  before_are : AreSaid format d before first divided
  bad_is : SaysLine format divided bad statements after

split_said : (format : NameFormat) (d last : Bool) (before after : List LineText) (bad : LineText)
    (says : List (List Statement)) → AreSaid format d (before ++ bad ∷ after) says last
    → IsSplit format d before bad says
unfolding AreSaid
split_said format d last [] after bad [] h = absurd h
split_said format d last [] after bad (s ∷ says) h = record {
  first = [];
  divided = d;
  statements = s;
  after = h.after;
  rest = says;
  says_are = refl;
  before_are = refl;
  bad_is = h.line_is;
}
split_said format d last (l ∷ before) after bad [] h = absurd h
split_said format d last (l ∷ before) after bad (s ∷ says) h =
    let r = split_said format h.after last before after bad says h.rest in record {
      first = s ∷ r.first;
      divided = r.divided;
      statements = r.statements;
      after = r.after;
      rest = r.rest;
      says_are = ap (λ ss. s ∷ ss) r.says_are;
      before_are = record { after = h.after; line_is = h.line_is; rest = r.before_are };
      bad_is = r.bad_is;
    }

-- within the limits at the end, and so at each line
within_there : (says first rest : List (List Statement)) (statements : List Statement)
    → says ≡ first ++ statements ∷ rest → IsWithinLimits (told_by says)
    → IsWithinLimits (told_after_line (told_by first) statements)
within_there says first rest statements is few =
    let whole : told_by says ≡ fold told_after_line (told_after_line (told_by first) statements) rest
    = ap told_by is ∙ fold-append told_after_line nothing_told first (statements ∷ rest) in
    let all : IsWithinLimits (fold told_after_line (told_after_line (told_by first) statements) rest)
    = subst IsWithinLimits whole few in
    let more = lines-more (told_after_line (told_by first) statements) rest in
    let n = more.names in let m = more.attacks in let fn = all.few_names in let fm = all.few_attacks in
    record { few_names = omega arith; few_attacks = omega arith }

no_cause : (format : NameFormat) (told : Told) (d after : Bool) (bad : LineText) (statements : List Statement)
    → SaysLine format d bad statements after → IsWithinLimits (told_after_line told statements) → (cause : NameCause)
    → StandsAt format told d bad cause → ⊥
no_cause format told d after bad statements says few BadLine stands = stands statements after says
no_cause format told d after bad statements says few TooManyArguments stands =
    let same = SaysLine-same format d bad stands.statements statements stands.after after stands.line_is says in
    let over : MAX_ARGUMENT < length (told_after_line told statements).names
    = subst (λ ss. MAX_ARGUMENT < length (told_after_line told ss).names) same.0 stands.is in
    let within = few.few_names in absurd (omega arith)
no_cause format told d after bad statements says few TooManyLines stands =
    let same = SaysLine-same format d bad stands.statements statements stands.after after stands.line_is says in
    let over : MAX_ATTACK_LINES < length (told_after_line told statements).attacks
    = subst (λ ss. MAX_ATTACK_LINES < length (told_after_line told ss).attacks) same.0 stands.is in
    let within = few.few_attacks in absurd (omega arith)
no_cause format told d after bad statements says few UnknownName stands = stands

no_line_fault : (format : NameFormat) (bytes : List ℕ) (says : List (List Statement)) (last : Bool) (line : ℕ)
    (cause : NameCause) → AreSaid format false (lines_of bytes) says last → IsWithinLimits (told_by says)
    → IsLineFault format (lines_of bytes) line cause → ⊥
no_line_fault format bytes says last line cause said few fault =
    let split = split_said format false last fault.before fault.after fault.bad says
    (subst (λ ls. AreSaid format false ls says last) fault.lines_are said) in
    let same = AreSaid-same format false split.divided fault.divided fault.before split.first fault.says
    split.before_are fault.before_are in
    no_cause format (told_by fault.says) fault.divided split.after fault.bad split.statements
    (subst (λ d. SaysLine format d fault.bad split.statements split.after) same.1 split.bad_is)
    (subst (λ ss. IsWithinLimits (told_after_line (told_by ss) split.statements)) same.0
    (within_there says split.first split.rest split.statements split.says_are few)) cause fault.told.stands

stands_there : {X : Type 0} (before after : List X) (x : X) → Contains (before ++ x ∷ after) x
stands_there [] after x = (0, omega arith, refl)
stands_there (y ∷ before) after x = let c = stands_there before after x in (suc c.0, let b = c.1 in omega arith, c.2)

no_unknown : (format : NameFormat) (bytes : List ℕ) (names : List (List ℕ)) (f : Af) (line : ℕ) (cause : NameCause)
    → ReadsAs format bytes names f → IsUnknownName format (lines_of bytes) line cause → ⊥
no_unknown format bytes names f line cause r fault =
    let says = AreSaid-same format false r.last fault.last (lines_of bytes) r.says fault.says r.lines_are
    fault.lines_are in
    let told : told_by r.says ≡ told_by fault.says = ap told_by says.0 in
    let named = framework_told format bytes names f (told_by fault.says) r told in
    let u = fault.unknown in
    u.is_unknown (named.known u.unknown (subst (λ ts. Contains ts u.unknown) (sym u.attacks_are)
    (stands_there u.before u.after u.unknown)))

-- a text that reads as a framework has no fault
pub ReadsAs-faultless : (format : NameFormat) (bytes : List ℕ) (names : List (List ℕ)) (f : Af)
    → ReadsAs format bytes names f → (line : ℕ) (cause : NameCause) → IsFirstFault format bytes line cause → ⊥
ReadsAs-faultless format bytes names f r line cause (inl fault) =
    no_line_fault format bytes r.says r.last line cause r.lines_are r.few fault
ReadsAs-faultless format bytes names f r line cause (inr fault) = no_unknown format bytes names f line cause r fault
