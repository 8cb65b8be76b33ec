-- The lines that were taken in, and those that are left.
use Rattle.std.proofs.Common.{◌≡◌, ℕ, suc, ◌<◌, List, [], ◌∷◌, ◌++◌, length, get_or, refl, sym, ap}
use Rattle.std.proofs.Common.{subst, ◌∙◌, inl, inr, true, false, arith}
use Rattle.std.specs.Prelude.{Contains}
use Rattle.std.specs.List.{AllPairs}
use Rattle.std.proofs.lemmas.Bool.{cases_lt}
use Rattle.std.proofs.lemmas.List.{append_assoc, append-nil, get_or_default}
use Rattle.std.proofs.lemmas.Slice.Zip.{all_zipped_more}
use Rattle.num_text.specs.Cuts.{LineText}
use Rattle.num_text.specs.Lines.{kept}
use Rattle.num_text.proofs.KeptLines.{kept_lines-rise}
use Rattle.af_format.specs.declared.fault.LineCause.{LineCause}
use Rattle.af_format.specs.declared.fault.LineCause.TheVariants.{ContraryOfNonAssumption}
use Rattle.af_format.specs.declared.fault.ReadFault.{ReadFault}
use Rattle.af_format.specs.declared.fault.ReadFault.TheVariants.{Line, Memory}
use Rattle.af_format.specs.Faults.{IfLine}
use Rattle.af_format.specs.Headers.{aba_word, BeginWith}
use Rattle.aba_format.specs.AbaText.{Said, says_contrary, SaysLine, AreLines}
use Rattle.aba_format.specs.Reading.{
  is_marked,
  AreEmpty,
  TakesLine,
  IsStopped,
  IsSaidIn,
  AreGivenBy,
  NumbersRise,
  AreRead,
  AreWhole,
  IsFirstBadLine,
  IsFirstStray,
  IsFirstUnmarked,
  AreAllMarked,
}
use Rattle.aba_format.specs.declared.said.LineParts.{LineParts}
use Rattle.aba_format.proofs.SaysLemmas.{atoms_within, said_by_line}
use Rattle.aba_format.proofs.TakenLemmas.{said_nothing, consistent_nothing, taken, consistent}
use Rattle.aba_format.proofs.GivenLemmas.{given_nothing, given_next}
use Rattle.aba_format.proofs.RefusedLemmas.{stopped}

-- some lines, whose parts these are, and those that are left
pub record HasRead (count : ℕ) (lines left : List LineText) (parts : LineParts) : Type 0 where
  pub before : List LineText
  pub lines_are : lines ≡ before ++ left
  pub all : List Said
  pub before_are : AreLines count before all
  pub said_in : IsSaidIn count all parts
  pub given_by : AreGivenBy count before parts.given.items

pub read_none : (count : ℕ) (lines : List LineText) (parts : LineParts) → AreEmpty count parts
    → HasRead count lines lines parts
read_none count lines parts h = record {
  before = [];
  lines_are = refl;
  all = [];
  before_are = record { each = tt; consistent = consistent_nothing };
  said_in = said_nothing count parts h;
  given_by = given_nothing count parts.given.items h.given;
}

pub read_next : (count : ℕ) (lines left rest : List LineText) (here : LineText) (old new : LineParts) → NumbersRise
    lines
    → HasRead count lines left old → left ≡ here ∷ rest → TakesLine count here.number here.text old new
    → HasRead count lines rest new
read_next count lines left rest here old new rise h e takes =
    let s = takes.said in
    let within = atoms_within count here.text s takes.says in
    let cut : lines ≡ h.before ++ here ∷ rest = h.lines_are ∙ ap (λ ls. h.before ++ ls) e in
    record {
      before = h.before ++ here ∷ [];
      lines_are = cut ∙ sym (append_assoc h.before (here ∷ []) rest);
      all = h.all ++ s ∷ [];
      before_are = record {
        each = all_zipped_more (λ (line : LineText) t. SaysLine count line.text t) h.before h.all here s
            h.before_are.each
            takes.says;
        consistent = consistent count h.all s here.number old new h.said_in within takes.adds h.before_are.consistent;
      };
      said_in = taken count h.all s here.number old new h.said_in within takes.adds;
      given_by = given_next count h.before here rest h.all s old new (subst NumbersRise cut rise) h.before_are.each
          takes.says h.said_in takes.adds h.given_by;
    }

pub read_all : (count : ℕ) (lines left : List LineText) (parts : LineParts) → HasRead count lines left parts → left ≡ []
    → AreRead count lines parts
read_all count lines left parts h e =
    let whole : h.before ≡ lines = sym (h.lines_are ∙ ap (λ ls. h.before ++ ls) e ∙ append-nil h.before) in
    record {
      all = h.all;
      lines_are = subst (λ ls. AreLines count ls h.all) whole h.before_are;
      said_in = h.said_in;
      given_by = subst (λ ls. AreGivenBy count ls parts.given.items) whole h.given_by;
    }

pub read_bad : (count : ℕ) (lines left rest : List LineText) (here : LineText) (parts : LineParts) (number : ℕ)
    (cause : LineCause) → HasRead count lines left parts → left ≡ here ∷ rest
    → (number ≡ here.number) × IsStopped count here.text parts cause → IsFirstBadLine count lines number cause
read_bad count lines left rest here parts number cause h e bad = record {
  before = h.before;
  bad = here;
  after = rest;
  lines_are = h.lines_are ∙ ap (λ ls. h.before ++ ls) e;
  all = h.all;
  before_are = h.before_are;
  number_is = bad.0;
  told = stopped count h.before here h.all parts cause h.before_are h.said_in bad.1;
}

pub read_fault : (count : ℕ) (lines left rest : List LineText) (here : LineText) (parts : LineParts) (e : ReadFault)
    → HasRead count lines left parts → left ≡ here ∷ rest
    → IfLine e (λ fault. (fault.line ≡ here.number) × IsStopped count here.text parts fault.cause)
    → IfLine e (λ fault. IsFirstBadLine count lines fault.line fault.cause)
read_fault count lines left rest here parts (Line fault) h cut bad =
    read_bad count lines left rest here parts fault.line fault.cause h cut bad
read_fault count lines left rest here parts Memory h cut bad = bad

-- ---- contraries of assumptions

-- the given atoms lie within the marks
pub given_wide : (count : ℕ) (lines : List LineText) (parts : LineParts) → AreRead count lines parts → (x line : ℕ)
    → Contains parts.given.items (x, line) → x < length parts.assumed.items
given_wide count lines parts h x line c =
    let g = h.given_by.by_line x line c in
    let atom = atoms_within count g.here.text (says_contrary x g.y) g.gives x (0, omega arith, refl) in
    let high = atom.high in
    let wide = h.said_in.wide.assumed in
    omega arith

pub whole : (count : ℕ) (lines : List LineText) (parts : LineParts) → AreRead count lines parts
    → AreAllMarked parts.given.items parts.assumed.items → AreWhole count lines parts
whole count lines parts h marked = record {
  read = h;
  of_assumptions = λ x y c.
      let line = said_by_line count lines h.all h.lines_are.each (says_contrary x y) c in
      let given = h.given_by.all line.0 x y line.1 line.2 in
      h.said_in.assumed.marked x (marked x given.0 given.1);
}

pub stray : (count : ℕ) (lines : List LineText) (parts : LineParts) (line : ℕ) → AreRead count lines parts
    → IsFirstUnmarked parts.given.items parts.assumed.items line
    → IsFirstStray count lines line ContraryOfNonAssumption
stray count lines parts line h u =
    let given = parts.given.items in
    let at : get_or given u.index (u.x, line) ≡ (u.x, line)
    = get_or_default given u.index (u.x, line) (0, 0) u.within ∙ u.there in
    record {
      cause_is = refl;
      all = h.all;
      lines_are = h.lines_are;
      x = u.x;
      gives = h.given_by.by_line u.x line (u.index, u.within, at);
      not_assumed = λ c.
          let marked = h.said_in.assumed.all u.x c in
          let bad : true ≡ false = sym marked ∙ u.unmarked in cc;
      first = λ here z y c gives free.
          let entry = h.given_by.all here z y c gives in
          let j = entry.1.0 in
          let there : get_or given j (0, 0) ≡ (z, entry.0)
          = get_or_default given j (0, 0) (z, entry.0) entry.1.1 ∙ entry.1.2 in
          let not_before : j < u.index → ⊥ = λ lt.
          free (h.said_in.assumed.marked z
          (subst (λ p. is_marked parts.assumed.items p.0 ≡ true) there (u.before j lt))) in
          elim (cases_lt j u.index) [
            | inl lt ↦ absurd (not_before lt)
            | inr ge ↦ elim (cases_lt u.index j) [
              | inl less ↦
                  let rising = h.given_by.rise u.index j (0, 0) less entry.1.1 in
                  let first_is = ap (λ p. p.1) u.there in
                  let second_is = ap (λ p. p.1) there in
                  omega (arith, entry.2)
              | inr le ↦
                  let same : u.index ≡ j = omega arith in
                  let lines_same : line ≡ entry.0
                  = sym (ap (λ p. p.1) u.there) ∙ ap (λ k. (get_or given k (0, 0)).1) same ∙ ap (λ p. p.1) there in
                  omega (arith, entry.2)
            ]
          ];
    }

-- ---- the lines behind the header

pub rise_behind : (bytes : List ℕ) (count : ℕ) (left : List LineText) → BeginWith aba_word bytes count left
    → NumbersRise (kept left)
rise_behind bytes count left h =
    let all : AllPairs (λ l m. l.number < m.number) (h.header ∷ kept left)
    = subst (λ ls. AllPairs (λ l m. l.number < m.number) ls) h.lines (kept_lines-rise bytes) in
    λ i j d less within. all (suc i) (suc j) d (omega arith) (omega arith)
