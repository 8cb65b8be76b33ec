-- The lines that were read, and those that are left.
use Rattle.std.proofs.Common.{◌≡◌, ℕ, ◌+◌, ◌<◌, ◌≤◌, List, [], ◌∷◌, ◌++◌, length, get_or, ◌⊎◌, inl, inr}
use Rattle.std.proofs.Common.{refl, sym, ap, subst, ◌∙◌, arith}
use Rattle.std.specs.Prelude.{Contains, Result, Ok, Err, IfOk, ◌↔◌}
use Rattle.std.specs.List.{range_with_len}
use Rattle.std.proofs.lemmas.List.{length-append, append_assoc, append-nil}
use Rattle.std.proofs.lemmas.Slice.Zip.{all_zipped_more, AllZip-long}
use Rattle.std.proofs.lemmas.List.FromFn.{length-range_with_len, get_or-range_with_len}
use Rattle.num_text.specs.Cuts.{LineText, field_texts, lines_of}
use Rattle.semantics.specs.declared.argument.TheConstants.{MAX_ARGUMENT}
use Rattle.af_format.specs.declared.af_line.TheConstants.{MAX_ATTACK_LINES}
use Rattle.af_format.specs.declared.fault.LineCause.{LineCause}
use Rattle.af_format.specs.AfText.{IsHeader, IsAttackLine, AreAttackLines, IsFrameworkOf, ReadsAs}
use Rattle.num_text.specs.Lines.{kept}
use Rattle.semantics.specs.Framework.{Af}
use Rattle.semantics.specs.Frameworks.{IsNumberedAf}
use Rattle.dung_notions.specs.Neighbours.{AreArguments}
use Rattle.af_format.specs.Causes.{IsFirstCause}
use Rattle.af_format.specs.Faults.{StandsOnAttack, IsAttackFault, StandsIn, IsFaultless, IsFirstFault, IfLine}
use Rattle.dung_notions.specs.Solid.{IsSolid}
use Rattle.af_format.proofs.LineCauses.{header_is_good, limit_only, IsHeader-same}
use Rattle.af_format.specs.declared.fault.ReadFault.{ReadFault}
use Rattle.af_format.specs.declared.fault.ReadFault.TheVariants.{Line, Memory}
use Rattle.af_format.specs.Headers.{af_word, aba_word, IsHeaderFault}
use Rattle.af_format.specs.FirstBadLine.{BeginWithHeader, TellsNext, IsNextFault, IsFirstBadLine}
use Rattle.af_format.proofs.FirstFaults.{attack_told}
use Rattle.af_format.proofs.Zips.{AllZip-member, AllZip-at}
use Rattle.lists.proofs.Ranges.{number_there}

-- the lines are some attack lines, of these attacks, and those that are left
pub record HasRead (count : ℕ) (lines left : List LineText) (attacks : List (ℕ × ℕ)) : Type 0 where
  pub before : List LineText
  pub lines_are : lines ≡ before ++ left
  pub before_are : AreAttackLines count before attacks

pub read_none : (count : ℕ) (lines : List LineText) → HasRead count lines lines []
read_none count lines = record {
  before = [];
  lines_are = refl;
  before_are = record { each = tt; few = omega arith };
}

pub read_more : (count : ℕ) (lines left rest : List LineText) (line : LineText) (attacks : List (ℕ × ℕ)) (attack : ℕ
    × ℕ)
    → HasRead count lines left attacks → left ≡ line ∷ rest → IsAttackLine count line.text attack
    → length attacks < MAX_ATTACK_LINES → HasRead count lines rest (attacks ++ attack ∷ [])
read_more count lines left rest line attacks attack h e is few =
    let R : LineText → ℕ × ℕ → Type 0 = λ line attack. IsAttackLine count line.text attack in
    let long = AllZip-long R h.before attacks h.before_are.each in
    record {
      before = h.before ++ line ∷ [];
      lines_are = h.lines_are ∙ ap (λ ls. h.before ++ ls) e ∙ sym (append_assoc h.before (line ∷ []) rest);
      before_are = record {
        each = all_zipped_more R h.before attacks line attack h.before_are.each is;
        few = omega (arith, length-append h.before (line ∷ []));
      };
    }

pub read_all : (count : ℕ) (lines left : List LineText) (attacks : List (ℕ × ℕ)) → HasRead count lines left attacks
    → left ≡ [] → AreAttackLines count lines attacks
read_all count lines left attacks h e =
    subst (λ ls. AreAttackLines count ls attacks)
    (sym (h.lines_are ∙ ap (λ ls. h.before ++ ls) e ∙ append-nil h.before)) h.before_are

pub read_bad : (count : ℕ) (lines left rest : List LineText) (line : LineText) (attacks : List (ℕ × ℕ))
    (cause : LineCause)
    → HasRead count lines left attacks → left ≡ line ∷ rest
    → IsFirstCause (StandsOnAttack count (length attacks) (field_texts line.text)) cause
    → IsFirstBadLine count lines line.number cause
read_bad count lines left rest line attacks cause h e told =
    let R : LineText → ℕ × ℕ → Type 0 = λ line attack. IsAttackLine count line.text attack in
    let long = AllZip-long R h.before attacks h.before_are.each in
    record {
      before = h.before;
      bad = line;
      after = rest;
      lines_are = h.lines_are ∙ ap (λ ls. h.before ++ ls) e;
      attacks = attacks;
      before_are = h.before_are;
      number_is = refl;
      told = subst (λ n. IsFirstCause (StandsOnAttack count n (field_texts line.text)) cause) long told;
    }

pub read_next : (count index : ℕ) (lines left rest : List LineText) (attacks : List (ℕ × ℕ)) (attack : ℕ × ℕ)
    → HasRead count lines left attacks → index ≡ length attacks → TellsNext count index left rest attack
    → HasRead count lines rest (attacks ++ attack ∷ [])
read_next count index lines left rest attacks attack h e next =
    let few = next.few in
    read_more count lines left rest next.line attacks attack h next.lines_are next.attack_is (omega arith)

pub next_bad : (count index : ℕ) (lines left : List LineText) (attacks : List (ℕ × ℕ)) (number : ℕ) (cause : LineCause)
    → HasRead count lines left attacks → index ≡ length attacks → IsNextFault count index left number cause
    → IsFirstBadLine count lines number cause
next_bad count index lines left attacks number cause h e bad =
    let told : IsFirstCause (StandsOnAttack count (length attacks) (field_texts bad.line.text)) cause
    = subst (λ n. IsFirstCause (StandsOnAttack count n (field_texts bad.line.text)) cause) e bad.told in
    subst (λ n. IsFirstBadLine count lines n cause) (sym bad.number_is)
    (read_bad count lines left bad.others bad.line attacks cause h bad.lines_are told)

-- ---- the arguments

-- they are numbers that arguments may have
pub arguments_numbered : (count : ℕ) → count ≤ 1000000 → AreArguments (range_with_len 1 count)
arguments_numbered count few a h =
    let n = length-range_with_len 1 count in
    let lt : h.0 < count = omega (arith, h.1) in
    let here = get_or-range_with_len 1 count h.0 a lt in
    record { low = omega (arith, here, h.2); high = omega (arith, here, h.2, few) }

-- both ends of an attack are arguments
pub ends_are_arguments : (count : ℕ) (lines : List LineText) (attacks : List (ℕ × ℕ))
    → AreAttackLines count lines attacks
    → (b a : ℕ) → Contains attacks (b, a) → Contains (range_with_len 1 count) b × Contains (range_with_len 1 count) a
ends_are_arguments count lines attacks are b a c =
    let line = AllZip-member (λ line attack. IsAttackLine count line.text attack) lines attacks (b, a) are.each c in (
      number_there count b line.1.attacker_is.low line.1.attacker_is.high,
      number_there count a line.1.target_is.low line.1.target_is.high,
    )

-- ---- the framework

pub framework_made : {E : Type 0} (r : Result Af E) (count : ℕ) (attacks : List (ℕ × ℕ)) (live : List ℕ)
    (items : List (ℕ × ℕ)) → live ≡ range_with_len 1 count → items ≡ attacks → IfOk r (λ f. f.live ≡ live)
    → IfOk r (λ f. (p : ℕ × ℕ) → Contains f.attacks p ↔ Contains items p) → IfOk r IsNumberedAf
    → IfOk r (IsFrameworkOf count attacks)
framework_made (Ok f) count attacks live items range same is_live are form = record {
  live = is_live ∙ range;
  attacks_are = λ p. subst (λ xs. Contains f.attacks p ↔ Contains xs p) same (are p);
  form = form.form;
}
framework_made (Err e) count attacks live items range same is_live are form = form

pub header_few : (bytes : List ℕ) (count : ℕ) (left : List LineText) → BeginWithHeader bytes count left
    → count ≤ MAX_ARGUMENT
header_few bytes count left h = h.header_is.few

pub reads_as : (bytes : List ℕ) (count : ℕ) (left : List LineText) (attacks : List (ℕ × ℕ)) (f : Af)
    → BeginWithHeader bytes count left → AreAttackLines count (kept left) attacks → IsFrameworkOf count attacks f
    → ReadsAs bytes f
reads_as bytes count left attacks f h are is_of = record {
  count = count;
  attacks = attacks;
  text = record {
    header = h.header;
    others = kept left;
    lines = h.lines;
    header_is = h.header_is;
    others_are = are;
  };
  framework = is_of;
}

pub bad_line_told : (bytes : List ℕ) (count : ℕ) (left : List LineText) (line : ℕ) (cause : LineCause)
    → BeginWithHeader bytes count left → IsFirstBadLine count (kept left) line cause → IsFirstFault bytes line cause
bad_line_told bytes count left line cause h bad =
    attack_told bytes h.header (kept left) count line cause h.lines h.header_is bad

pub bad_text_told : (bytes : List ℕ) (count : ℕ) (left : List LineText) (e : ReadFault)
    → BeginWithHeader bytes count left
    → IfLine e (λ fault. IsFirstBadLine count (kept left) fault.line fault.cause)
    → IfLine e (λ fault. IsFirstFault bytes fault.line fault.cause)
bad_text_told bytes count left (Line fault) h bad = bad_line_told bytes count left fault.line fault.cause h bad
bad_text_told bytes count left Memory h bad = bad

-- no cause stands in a text that was read
pub no_fault_in : (size count : ℕ) (header : LineText) (others : List LineText) (attacks : List (ℕ × ℕ)) (line : ℕ)
    (cause : LineCause) → IsHeader header.text count → AreAttackLines count others attacks
    → IsHeaderFault af_word aba_word header line cause ⊎ IsAttackFault header others line cause → ⊥
no_fault_in size count header others attacks line cause is are (inl h) =
    header_is_good header.text count is cause h.stands
no_fault_in size count header others attacks line cause is are (inr h) =
    let stands : StandsOnAttack count h.index (field_texts (get_or others h.index header).text) cause
    = subst (λ n. StandsOnAttack n h.index (field_texts (get_or others h.index header).text) cause)
    (IsHeader-same header.text h.count count h.header_is is) h.stands in
    let good = AllZip-at (λ line attack. IsAttackLine count line.text attack) others attacks h.index header are.each
    h.within in
    let limit = limit_only count h.index (get_or others h.index header).text good.0 good.1 cause stands in
    let few = are.few in
    let within = h.within in
    absurd (omega (arith, limit.0))

pub faultless : (bytes : List ℕ) (count : ℕ) (left : List LineText) (attacks : List (ℕ × ℕ))
    → BeginWithHeader bytes count left → AreAttackLines count (kept left) attacks → IsFaultless bytes
faultless bytes count left attacks h are = record {
  none = λ line cause stands. no_fault_in (length (lines_of bytes)) count h.header (kept left) attacks line cause
      h.header_is are (subst (λ ls. StandsIn (length (lines_of bytes)) ls line cause) h.lines stands);
}

-- what is read has the arguments 1 to n
pub read_is_solid : (count : ℕ) (attacks : List (ℕ × ℕ)) (f : Af) → count ≤ MAX_ARGUMENT
    → IsFrameworkOf count attacks f
    → IsSolid f
read_is_solid count attacks f few h =
    let long : length f.live ≡ count = ap length h.live ∙ length-range_with_len 1 count in
    record { live_is = h.live ∙ ap (λ n. range_with_len 1 n) (sym long); small = omega arith }
