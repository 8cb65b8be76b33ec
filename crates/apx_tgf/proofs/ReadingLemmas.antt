-- The lines that were read, and those that are left.
use Rattle.std.proofs.Common.{◌≡◌, ℕ, ◌<◌, ◌≤◌, Bool, false, List, [], ◌∷◌, ◌++◌, length, refl, sym, ap, subst, ◌∙◌, arith}
use Rattle.std.proofs.lemmas.List.{append_assoc, append-nil}
use Rattle.std.proofs.lemmas.Grind.{fold-append}
use Rattle.num_text.specs.Cuts.{LineText}
use Rattle.semantics.specs.declared.argument.TheConstants.{MAX_ARGUMENT}
use Rattle.af_format.specs.declared.af_line.TheConstants.{MAX_ATTACK_LINES}
use Rattle.apx_tgf.specs.declared.format.NameFormat.{NameFormat}
use Rattle.apx_tgf.specs.declared.fault.NameCause.{NameCause}
use Rattle.apx_tgf.specs.declared.fault.NameCause.TheVariants.{BadLine, TooManyArguments, TooManyLines, UnknownName}
use Rattle.apx_tgf.specs.declared.fault.NameFault.{NameFault}
use Rattle.apx_tgf.specs.declared.fault.ReadFault.{ReadFault}
use Rattle.apx_tgf.specs.declared.fault.ReadFault.TheVariants.{Line, Memory}
use Rattle.apx_tgf.specs.Told.{Told, Statement, IsWithinLimits, nothing_told, told_by, told_after_line}
use Rattle.apx_tgf.specs.NamedText.{SaysLine, AreSaid}
use Rattle.apx_tgf.specs.Faults.{rank, StandsAt, IsFirstCause, IsLineFault, IfLine}
use Rattle.apx_tgf.specs.Taking.{TakesLine, IsNoLine, IsOver, IsOverLimit}
use Rattle.apx_tgf.specs.Reading.{TellsAll}
use Rattle.apx_tgf.proofs.LineLemmas.{SaysLine-same}

-- one more line at the end
AreSaid-push : (format : NameFormat) (d m after : Bool) (lines : List LineText) (says : List (List Statement))
    (line : LineText) (statements : List Statement) → AreSaid format d lines says m
    → SaysLine format m line statements after
    → AreSaid format d (lines ++ line ∷ []) (says ++ statements ∷ []) after
unfolding AreSaid
AreSaid-push format d m after [] [] line statements e is = record {
  after = after;
  line_is = subst (λ x. SaysLine format x line statements after) (sym e) is;
  rest = refl;
}
AreSaid-push format d m after [] (s ∷ says) line statements e is = absurd e
AreSaid-push format d m after (l ∷ lines) [] line statements e is = absurd e
AreSaid-push format d m after (l ∷ lines) (s ∷ says) line statements h is = record {
  after = h.after;
  line_is = h.line_is;
  rest = AreSaid-push format h.after m after lines says line statements h.rest is;
}

AreSaid-none : (format : NameFormat) (d : Bool) → AreSaid format d [] [] d
unfolding AreSaid
AreSaid-none format d = refl

-- what is told by one more line
told_by-push : (says : List (List Statement)) (statements : List Statement)
    → told_by (says ++ statements ∷ []) ≡ told_after_line (told_by says) statements
told_by-push says statements = fold-append told_after_line nothing_told says (statements ∷ [])

-- lines that say something within the limits, and those that are left
pub record HasRead (format : NameFormat) (lines left : List LineText) (divided : Bool) (told : Told) : Type 0 where
  pub before : List LineText
  pub says : List (List Statement)
  pub lines_are : lines ≡ before ++ left
  pub before_are : AreSaid format false before says divided
  pub few : IsWithinLimits (told_by says)
  pub told_is : told ≡ told_by says

pub read_none : (format : NameFormat) (lines : List LineText) → HasRead format lines lines false nothing_told
read_none format lines = record {
  before = [];
  says = [];
  lines_are = refl;
  before_are = AreSaid-none format false;
  few = record { few_names = omega arith; few_attacks = omega arith };
  told_is = refl;
}

pub read_more : (format : NameFormat) (lines left rest : List LineText) (line : LineText) (divided after : Bool)
    (told new : Told) → HasRead format lines left divided told → left ≡ line ∷ rest
    → TakesLine format divided line told new after → IsWithinLimits new → HasRead format lines rest after new
read_more format lines left rest line divided after told new h is takes few =
    let new_is : new ≡ told_by (h.says ++ takes.statements ∷ []) = takes.new_is
    ∙ ap (λ t. told_after_line t takes.statements) h.told_is ∙ sym (told_by-push h.says takes.statements) in
    record {
      before = h.before ++ line ∷ [];
      says = h.says ++ takes.statements ∷ [];
      lines_are = h.lines_are ∙ ap (λ ls. h.before ++ ls) is ∙ sym (append_assoc h.before (line ∷ []) rest);
      before_are = AreSaid-push format false divided after h.before h.says line takes.statements h.before_are
          takes.line_is;
      few = subst IsWithinLimits new_is few;
      told_is = new_is;
    }

pub read_all : (format : NameFormat) (lines left : List LineText) (divided : Bool) (told : Told)
    → HasRead format lines left divided told → left ≡ [] → TellsAll format lines told
read_all format lines left divided told h none = record {
  says = h.says;
  last = divided;
  said = subst (λ ls. AreSaid format false ls h.says divided)
      (sym (h.lines_are ∙ ap (λ ls. h.before ++ ls) none ∙ append-nil h.before)) h.before_are;
  few = h.few;
  told_is = h.told_is;
}

-- ---- faults

rank_least : (cause : NameCause) → 1 ≤ rank cause
rank_least BadLine = omega arith
rank_least TooManyArguments = omega arith
rank_least TooManyLines = omega arith
rank_least UnknownName = omega arith

-- a line at which a cause is told
fault_told : (format : NameFormat) (lines left rest : List LineText) (line : LineText) (divided : Bool) (told : Told)
    (number : ℕ) (cause : NameCause) → HasRead format lines left divided told → left ≡ line ∷ rest
    → number ≡ line.number → IsFirstCause format told divided line cause → IsLineFault format lines number cause
fault_told format lines left rest line divided told number cause h is number_is first = record {
  before = h.before;
  bad = line;
  after = rest;
  lines_are = h.lines_are ∙ ap (λ ls. h.before ++ ls) is;
  says = h.says;
  divided = divided;
  before_are = h.before_are;
  few = h.few;
  number_is = number_is;
  told = subst (λ t. IsFirstCause format t divided line cause) h.told_is first;
}

pub bad_line_read : (format : NameFormat) (lines left rest : List LineText) (line : LineText) (divided : Bool)
    (told : Told) (e : ReadFault) → HasRead format lines left divided told → left ≡ line ∷ rest
    → IsNoLine format divided line e → IfLine e (λ fault. IsLineFault format lines fault.line fault.cause)
bad_line_read format lines left rest line divided told (Line fault) h is bad =
    fault_told format lines left rest line divided told fault.line fault.cause h is bad.0
    (subst (λ cause. IsFirstCause format told divided line cause) (sym bad.1)
    (record { stands = bad.2; first = λ other stands. rank_least other }))
bad_line_read format lines left rest line divided told Memory h is bad = tt

over_argument : (names : ℕ) → names ≤ MAX_ARGUMENT → MAX_ARGUMENT < names → ⊥
over_argument names few over = absurd (omega arith)

-- the limit that is passed first is told
over_first : (format : NameFormat) (divided after : Bool) (line : LineText) (told new : Told) (cause : NameCause)
    → TakesLine format divided line told new after → IsOver cause new
    → IsFirstCause format told divided line cause
over_first format divided after line told new BadLine takes over = absurd over
over_first format divided after line told new TooManyArguments takes over = record {
  stands = record {
    statements = takes.statements;
    after = after;
    line_is = takes.line_is;
    is = subst (λ t. MAX_ARGUMENT < length t.names) takes.new_is over;
  };
  first = go format divided after line told new takes;
}
  where
    go : (format : NameFormat) (divided after : Bool) (line : LineText) (told new : Told)
        → TakesLine format divided line told new after → (other : NameCause)
        → StandsAt format told divided line other → rank TooManyArguments ≤ rank other
    go format divided after line told new takes BadLine stands = absurd (stands takes.statements after takes.line_is)
    go format divided after line told new takes TooManyArguments stands = omega arith
    go format divided after line told new takes TooManyLines stands = omega arith
    go format divided after line told new takes UnknownName stands = absurd stands
over_first format divided after line told new TooManyLines takes over = record {
  stands = record {
    statements = takes.statements;
    after = after;
    line_is = takes.line_is;
    is = subst (λ t. MAX_ATTACK_LINES < length t.attacks) takes.new_is over.1;
  };
  first = go format divided after line told new takes over.0;
}
  where
    go : (format : NameFormat) (divided after : Bool) (line : LineText) (told new : Told)
        → TakesLine format divided line told new after → length new.names ≤ MAX_ARGUMENT → (other : NameCause)
        → StandsAt format told divided line other → rank TooManyLines ≤ rank other
    go format divided after line told new takes few BadLine stands =
        absurd (stands takes.statements after takes.line_is)
    go format divided after line told new takes few TooManyArguments stands =
        let same = SaysLine-same format divided line stands.statements takes.statements stands.after after
        stands.line_is takes.line_is in
        let over : MAX_ARGUMENT < length new.names = subst (λ t. MAX_ARGUMENT < length t.names)
        (ap (λ ss. told_after_line told ss) same.0 ∙ sym takes.new_is) stands.is in
        absurd (over_argument (length new.names) few over)
    go format divided after line told new takes few TooManyLines stands = omega arith
    go format divided after line told new takes few UnknownName stands = absurd stands
over_first format divided after line told new UnknownName takes over = absurd over

pub over_told : (format : NameFormat) (lines left rest : List LineText) (line : LineText) (divided after : Bool)
    (told new : Told) (fault : NameFault) → HasRead format lines left divided told → left ≡ line ∷ rest
    → TakesLine format divided line told new after → IsOverLimit new line.number fault
    → IsLineFault format lines fault.line fault.cause
over_told format lines left rest line divided after told new fault h is takes over =
    fault_told format lines left rest line divided told fault.line fault.cause h is over.line_is
    (over_first format divided after line told new fault.cause takes over.over)
