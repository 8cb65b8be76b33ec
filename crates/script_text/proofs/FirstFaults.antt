-- From the first bad line, or the group that is left open, to the first fault of the text; a script has no fault.
use Rattle.std.proofs.Common.{◌≡◌, ℕ, ◌+◌, ◌<◌, ◌≤◌, not, List, [], ◌∷◌, ◌++◌, length, get_or}
use Rattle.std.proofs.Common.{refl, sym, ap, subst, ◌∙◌, ◌⊎◌, inl, inr, arith}
use Rattle.std.specs.Prelude.{All, AllPairs}
use Rattle.std.proofs.lemmas.List.{length-append}
use Rattle.std.proofs.lemmas.List.Elements.{All-filter}
use Rattle.std.proofs.Math.Seq.{get_or-append_seam}
use Rattle.num_text.specs.Cuts.{LineText, field_texts, lines_of}
use Rattle.num_text.specs.Lines.{are_skipped, kept, kept_lines}
use Rattle.num_text.proofs.CutLemmas.{numbers-lines_of}
use Rattle.num_text.proofs.KeptLines.{kept_lines-rise}
use Rattle.edit_rules.specs.declared.edit.Edit.{Edit}
use Rattle.script_text.specs.declared.fault.ScriptCause.{ScriptCause}
use Rattle.script_text.specs.declared.fault.ScriptCause.TheVariants.{OpenGroup}
use Rattle.script_text.specs.declared.fault.ScriptFault.{ScriptFault}
use Rattle.script_text.specs.declared.fault.ScriptFault.TheVariants.{At, Memory}
use Rattle.script_text.specs.declared.open_groups.Place.TheVariants.{Inside}
use Rattle.script_text.specs.declared.script.Script.{Script}
use Rattle.script_text.specs.declared.text_line.TextLine.{TextLine}
use Rattle.script_text.specs.Groups.{FitPlaces, Places, after_line, after_lines, all_unbegun}
use Rattle.script_text.specs.ScriptFaults.{rank, IsFaultless, IsFirstFault, IsToldOf, StandsAt}
use Rattle.script_text.specs.ScriptFaults.{StandsBehind, StandsByPlace, StandsThere}
use Rattle.script_text.specs.ScriptText.{AreTextLines, IsScript, IsTextLine}
use Rattle.script_text.specs.Steps.{AreRead, BreaksAt, FitsIn, IsFirstBadLine, StandsIn}
use Rattle.script_text.specs.Uses.{AreAmong, used_at, uses_of}
use Rattle.script_text.proofs.GroupCauses.{fitting_is_good}
use Rattle.script_text.proofs.LineCauses.{line_is_good}
use Rattle.script_text.proofs.OneScript.{line_same, lines_same}
use Rattle.script_text.proofs.UseLemmas.{first_among, is_no_stray, others_among}

-- ---- lines of a script

-- the line is told by one of them
told_there : (before : List LineText) (line : LineText) (behind : List LineText) (all : List TextLine)
    → AreTextLines (before ++ line ∷ behind) all → (told : TextLine) × IsTextLine line.text told
told_there [] line behind [] are = absurd are
told_there [] line behind (a ∷ more) are = (a, are.0)
told_there (b ∷ before) line behind [] are = absurd are
told_there (b ∷ before) line behind (a ∷ more) are = told_there before line behind more are.1

-- it fits where the lines before it leave its session
fits_there : (before : List LineText) (line : LineText) (behind : List LineText) (all read : List TextLine)
    (places : Places) → AreTextLines (before ++ line ∷ behind) all → FitPlaces places all → AreTextLines before read
    → (told : TextLine) × IsTextLine line.text told × FitsIn (after_lines read places) told
fits_there [] line behind [] read places are fit those = absurd are
fits_there [] line behind (a ∷ more) [] places are fit those = (a, are.0, fit.0)
fits_there [] line behind (a ∷ more) (r ∷ read) places are fit those = absurd those
fits_there (b ∷ before) line behind [] read places are fit those = absurd are
fits_there (b ∷ before) line behind (a ∷ more) [] places are fit those = absurd those
fits_there (b ∷ before) line behind (a ∷ more) (r ∷ read) places are fit those =
    fits_there before line behind more read (after_line r places) are.1
    (subst (λ l. FitPlaces (after_line l places) more) (line_same b.text a r are.0 those.0) fit.1) those.1

-- its framework is there
among_there : (frameworks : ℕ) (before : List LineText) (line : LineText) (behind : List LineText) (all : List TextLine)
    → AreTextLines (before ++ line ∷ behind) all → AreAmong frameworks (uses_of all)
    → (told : TextLine) × IsTextLine line.text told × AreAmong frameworks (used_at told)
among_there frameworks [] line behind [] are among = absurd are
among_there frameworks [] line behind (a ∷ more) are among =
    (a, are.0, first_among frameworks (used_at a) (uses_of more) among)
among_there frameworks (b ∷ before) line behind [] are among = absurd are
among_there frameworks (b ∷ before) line behind (a ∷ more) are among =
    among_there frameworks before line behind more are.1 (others_among frameworks (used_at a) (uses_of more) among)

-- no cause stands at lines that fit
none_stands : (frameworks : ℕ) (lines : List LineText) (all : List TextLine) (number : ℕ) (cause : ScriptCause)
    → AreTextLines lines all → FitPlaces all_unbegun all → AreAmong frameworks (uses_of all)
    → StandsAt frameworks lines number cause → ⊥
none_stands frameworks lines all number cause are fit among s =
    let these = subst (λ ls. AreTextLines ls all) s.lines_are are in
    elim s.stands [
      | inl on ↦
          let told = told_there s.before s.line s.behind all these in
          line_is_good s.line.text told.0 told.1 cause on
      | inr (inl by) ↦
          let told = fits_there s.before s.line s.behind all by.read all_unbegun these fit by.are_lines in
          fitting_is_good (after_lines by.read all_unbegun) s.line.text told.0 told.1 told.2 cause by.stands
      | inr (inr stray) ↦
          let told = among_there frameworks s.before s.line s.behind all these among in
          is_no_stray frameworks s.line.text told.0 told.1 told.2 stray.1
    ]

pub script_is_faultless : (frameworks : ℕ) (bytes : List ℕ) (script : Script) → IsScript frameworks bytes script
    → IsFaultless frameworks bytes
script_is_faultless frameworks bytes script h = record {
  none = λ number cause stands. elim stands [
    | inl at ↦ none_stands frameworks (kept_lines bytes) h.lines number cause h.are_lines h.fit
        (subst (AreAmong frameworks) h.uses h.among) at
    | inr last ↦
        let left = last.1 in
        let read = lines_same (kept_lines bytes) h.lines left.read h.are_lines left.are_lines in
        h.closed left.session left.edits
        (ap (λ lines. after_lines lines all_unbegun left.session) read ∙ left.left)
  ];
}

-- ---- the first bad line

-- the line at the one place stands before, at or behind that at the other
pub record IsBefore (xs : List LineText) (x : LineText) (ys : List LineText) : Type 0 where
  pub between : List LineText
  pub list_is : ys ≡ xs ++ x ∷ between

pub record IsSame (xs ys : List LineText) (x y : LineText) : Type 0 where
  pub lists : xs ≡ ys
  pub lines : x ≡ y

first_line_same : (x y : LineText) (xs ys : List LineText) → x ∷ xs ≡ y ∷ ys → x ≡ y
first_line_same x y xs ys e = ap (λ ls. get_or ls 0 x) e

other_lines_same : (x y : LineText) (xs ys : List LineText) → x ∷ xs ≡ y ∷ ys → xs ≡ ys
other_lines_same x y xs ys e = cc

pub positions : (xs ys : List LineText) (x y : LineText) (us vs : List LineText) → xs ++ x ∷ us ≡ ys ++ y ∷ vs
    → IsBefore xs x ys ⊎ (IsSame xs ys x y ⊎ IsBefore ys y xs)
positions [] [] x y us vs e = inr (inl (record { lists = refl; lines = first_line_same x y us vs e }))
positions [] (b ∷ ys) x y us vs e = inl (record {
  between = ys;
  list_is = ap (λ l. l ∷ ys) (sym (first_line_same x b us (ys ++ y ∷ vs) e));
})
positions (a ∷ xs) [] x y us vs e = inr (inr (record {
  between = xs;
  list_is = ap (λ l. l ∷ xs) (first_line_same a y (xs ++ x ∷ us) vs e);
}))
positions (a ∷ xs) (b ∷ ys) x y us vs e =
    let heads = first_line_same a b (xs ++ x ∷ us) (ys ++ y ∷ vs) e in
    elim (positions xs ys x y us vs (other_lines_same a b (xs ++ x ∷ us) (ys ++ y ∷ vs) e)) [
      | inl p ↦ inl (record {
        between = p.between;
        list_is = ap (λ l. l ∷ ys) (sym heads) ∙ ap (λ ls. a ∷ ls) p.list_is;
      })
      | inr (inl p) ↦ inr (inl (record {
        lists = ap (λ l. l ∷ xs) heads ∙ ap (λ ls. b ∷ ls) p.lists;
        lines = p.lines;
      }))
      | inr (inr p) ↦ inr (inr (record {
        between = p.between;
        list_is = ap (λ l. l ∷ xs) heads ∙ ap (λ ls. b ∷ ls) p.list_is;
      }))
    ]

-- a line behind another has a higher number
pub numbers_differ : (lines xs us ys vs : List LineText) (x y : LineText) → AllPairs (λ l m. l.number < m.number) lines
    → lines ≡ xs ++ x ∷ us → lines ≡ ys ++ y ∷ vs → IsBefore xs x ys → x.number < y.number
numbers_differ lines xs us ys vs x y rise e f p =
    let here : get_or lines (length xs) x ≡ x = ap (λ ls. get_or ls (length xs) x) e ∙ get_or-append_seam xs x us x in
    let there : get_or lines (length ys) x ≡ y = ap (λ ls. get_or ls (length ys) x) f ∙ get_or-append_seam ys y vs x in
    let long = ap length p.list_is ∙ length-append xs (x ∷ p.between) in
    let all = ap length f ∙ length-append ys (y ∷ vs) in
    let risen = rise (length xs) (length ys) x (omega (arith, long)) (omega (arith, all)) in
    subst (λ l. l.number < y.number) here (subst (λ l. (get_or lines (length xs) x).number < l.number) there risen)

-- each number is that of a line of the bytes
numbers_within : (bytes : List ℕ) → All (λ l. l.number ≤ length (lines_of bytes)) (kept_lines bytes)
unfolding kept
numbers_within bytes = All-filter (λ line. not (are_skipped (field_texts line.text)))
    (λ l. l.number ≤ length (lines_of bytes)) (lines_of bytes)
    (λ k d within. let e = numbers-lines_of bytes k d within in omega (arith, e))

pub number_within : (bytes : List ℕ) (before : List LineText) (line : LineText) (behind : List LineText)
    → kept_lines bytes ≡ before ++ line ∷ behind → line.number ≤ length (lines_of bytes)
number_within bytes before line behind e =
    let all = ap length e ∙ length-append before (line ∷ behind) in
    let there = ap (λ ls. get_or ls (length before) line) e ∙ get_or-append_seam before line behind line in
    subst (λ l. l.number ≤ length (lines_of bytes)) there
    (numbers_within bytes (length before) line (omega (arith, all)))

-- what stands behind lines that were read stands by where they leave the sessions
behind_read : (frameworks : ℕ) (before : List LineText) (fields : List (List ℕ)) (cause : ScriptCause)
    (places : Places) (script : Script) → AreRead frameworks before places script → StandsBehind before fields cause
    → StandsByPlace places fields cause
behind_read frameworks before fields cause places script r s =
    let read = lines_same before s.read r.read s.are_lines r.are_lines in
    let left : after_lines s.read all_unbegun ≡ places = ap (λ ls. after_lines ls all_unbegun) read ∙ sym r.places_are in
    subst (λ g. StandsByPlace g fields cause) left s.stands

stands_here : (frameworks : ℕ) (places : Places) (script : Script) (before xs : List LineText) (x line : LineText)
    (c : ScriptCause) → AreRead frameworks before places script → IsSame xs before x line
    → StandsThere frameworks xs (field_texts x.text) c → StandsIn frameworks places (field_texts line.text) c
stands_here frameworks places script before xs x line c r p stands =
    at (subst (λ l. StandsThere frameworks before (field_texts l.text) c) p.lines
    (subst (λ ls. StandsThere frameworks ls (field_texts x.text) c) p.lists stands))
  where
    at : StandsThere frameworks before (field_texts line.text) c
        → StandsIn frameworks places (field_texts line.text) c
    at (inl on) = inl on
    at (inr (inl by)) = inr (inl (behind_read frameworks before (field_texts line.text) c places script r by))
    at (inr (inr among)) = inr (inr among)

stands_behind : (frameworks : ℕ) (places : Places) (script : Script) (before : List LineText)
    (fields : List (List ℕ)) (c : ScriptCause) → AreRead frameworks before places script
    → StandsIn frameworks places fields c → StandsThere frameworks before fields c
stands_behind frameworks places script before fields c r (inl on) = inl on
stands_behind frameworks places script before fields c r (inr (inl by)) = inr (inl (record {
  read = r.read;
  are_lines = r.are_lines;
  stands = subst (λ g. StandsByPlace g fields c) r.places_are by;
}))
stands_behind frameworks places script before fields c r (inr (inr among)) = inr (inr among)

bad_line_told : (frameworks : ℕ) (bytes : List ℕ) (number : ℕ) (cause : ScriptCause)
    → IsFirstBadLine frameworks (kept_lines bytes) number cause → IsFirstFault frameworks bytes number cause
bad_line_told frameworks bytes number cause b =
    let lines = kept_lines bytes in
    let before = b.has_read.before in
    let r = b.has_read.are_read in
    let line = b.bad.line in
    let others = b.bad.others in
    let whole : kept_lines bytes ≡ before ++ line ∷ others
    = b.has_read.lines_are ∙ ap (λ ls. before ++ ls) b.bad.lines_are in
    record {
      stands = inl (record {
        before = before;
        line = line;
        behind = others;
        lines_are = whole;
        number_is = b.bad.number_is;
        stands = stands_behind frameworks b.places b.script before (field_texts line.text) cause r b.bad.told.stands;
      });
      first = λ l c stands. elim stands [
        | inl at ↦ elim (positions at.before before at.line line at.behind others (sym at.lines_are ∙ whole)) [
          | inl p ↦ absurd (none_stands frameworks before r.read l c r.are_lines r.fit r.among (record {
            before = at.before;
            line = at.line;
            behind = p.between;
            lines_are = p.list_is;
            number_is = at.number_is;
            stands = at.stands;
          }))
          | inr (inl p) ↦ inr (
            b.bad.number_is ∙ sym (ap (λ x. x.number) p.lines) ∙ sym at.number_is,
            b.bad.told.first c
                (stands_here frameworks b.places b.script before at.before at.line line c r p at.stands),
          )
          | inr (inr p) ↦
              let higher = numbers_differ lines before others at.before at.behind line at.line (kept_lines-rise bytes)
              whole at.lines_are p in
              let low = b.bad.number_is in
              let high = at.number_is in
              inl (omega (arith, higher, low, high))
        ]
        | inr last ↦
            let within = number_within bytes before line others whole in
            let low = b.bad.number_is in
            let high = last.1.number_is in
            inl (omega (arith, within, low, high))
      ];
    }

pub breaks_told : (frameworks : ℕ) (bytes : List ℕ) (fault : ScriptFault)
    → BreaksAt frameworks (kept_lines bytes) fault → IsToldOf frameworks bytes fault
breaks_told frameworks bytes (At number cause) b = bad_line_told frameworks bytes number cause b
breaks_told frameworks bytes Memory b = tt

-- ---- behind the last line

pub open_told : (frameworks : ℕ) (bytes : List ℕ) (places : Places) (script : Script) (session : ℕ)
    (edits : List Edit) (number : ℕ) → AreRead frameworks (kept_lines bytes) places script
    → places session ≡ Inside edits → number ≡ length (lines_of bytes) + 1
    → IsFirstFault frameworks bytes number OpenGroup
open_told frameworks bytes places script session edits number r opened number_is = record {
  stands = inr (
    refl,
    record {
      read = r.read;
      are_lines = r.are_lines;
      session = session;
      edits = edits;
      left = ap (λ g. g session) (sym r.places_are) ∙ opened;
      number_is = number_is;
    },
  );
  first = λ l c stands. elim stands [
    | inl at ↦ absurd (none_stands frameworks (kept_lines bytes) r.read l c r.are_lines r.fit r.among at)
    | inr last ↦ inr (
      number_is ∙ sym last.1.number_is,
      subst (λ cause. rank OpenGroup ≤ rank cause) (sym last.0) (omega arith),
    )
  ];
}

pub script_is : (frameworks : ℕ) (bytes : List ℕ) (places : Places) (script : Script)
    → AreRead frameworks (kept_lines bytes) places script
    → ((s : ℕ) (edits : List Edit) → places s ≡ Inside edits → ⊥) → IsScript frameworks bytes script
script_is frameworks bytes places script r none = record {
  lines = r.read;
  are_lines = r.are_lines;
  fit = r.fit;
  closed = λ s edits e. none s edits (ap (λ g. g s) r.places_are ∙ e);
  commands = r.commands;
  uses = r.uses;
  among = subst (AreAmong frameworks) (sym r.uses) r.among;
}
