-- The names of a list, and its first fault.
use Rattle.std.proofs.Common.{◌≡◌, ℕ, ◌+◌, ◌<◌, ◌≤◌, List, [], ◌∷◌, ◌++◌, length}
use Rattle.std.proofs.Common.{map, refl, sym, ap, subst, ◌∙◌, inl, inr, arith}
use Rattle.std.specs.Str.{IsUtf8}
use Rattle.std.proofs.lemmas.List.{append_assoc, append-nil, length-append, length-map, map-append}
use Rattle.std.proofs.lemmas.Slice.Zip.{AllZip-long, all_zipped_more}
use Rattle.num_text.specs.Cuts.{LineText, field_texts, lines_of}
use Rattle.num_text.specs.Lines.{kept_lines}
use Rattle.num_text.proofs.KeptLines.{kept_lines-rise}
use Rattle.script_text.specs.declared.list.ListCause.{ListCause}
use Rattle.script_text.specs.declared.list.ListCause.TheVariants.{Empty, BadLine, TooMany}
use Rattle.script_text.specs.declared.list.ListFault.{ListFault}
use Rattle.script_text.specs.declared.list.ListFault.TheVariants.{At, Memory}
use Rattle.script_text.specs.declared.list.TheConstants.{MAX_FRAMEWORKS}
use Rattle.script_text.specs.Lists.{AreNameLines, IsFirstListFault, IsList, IsListFaultless, IsListToldOf, IsNameLine}
use Rattle.script_text.specs.Lists.{StandsAtName, StandsOnName, list_rank}
use Rattle.script_text.specs.ListSteps.{AreNames, BreaksList, HaveNames, IsFirstBadName, IsToldName, StopsList}
use Rattle.script_text.proofs.CommandCauses.{first_same}
use Rattle.script_text.proofs.FirstFaults.{numbers_differ, positions}
use Rattle.lists.proofs.Zips.{zip_same}

-- ---- a line

pub no_field : (text : List ℕ) → field_texts text ≡ [] → (name : List ℕ) → IsNameLine text name → ⊥
no_field text none name is = let long = ap length (sym none ∙ is.fields_are) in absurd (omega (arith, long))

pub two_fields : (text one two : List ℕ) (more : List (List ℕ)) → field_texts text ≡ one ∷ two ∷ more
    → (name : List ℕ) → IsNameLine text name → ⊥
two_fields text one two more those name is =
    let long = ap length (sym those ∙ is.fields_are) in absurd (omega (arith, long))

pub not_encoded : (text one : List ℕ) → field_texts text ≡ one ∷ [] → (IsUtf8 one → ⊥) → (name : List ℕ)
    → IsNameLine text name → ⊥
not_encoded text one those bad name is =
    bad (subst IsUtf8 (first_same name one [] [] (sym is.fields_are ∙ those)) is.encoded)

pub bad_line_told : (count : ℕ) (line : LineText) → ((name : List ℕ) → IsNameLine line.text name → ⊥)
    → IsToldName count line line.number BadLine
bad_line_told count line none = record { number_is = refl; stands = none; first = at }
  where
    at : (other : ListCause) → StandsOnName count line.text other → list_rank BadLine ≤ list_rank other
    at Empty stands = absurd stands
    at BadLine stands = omega arith
    at TooMany stands = omega arith

pub too_many_told : (count : ℕ) (line : LineText) (name : List ℕ) → IsNameLine line.text name → count ≡ MAX_FRAMEWORKS
    → IsToldName count line line.number TooMany
too_many_told count line name is full = record { number_is = refl; stands = full; first = at }
  where
    at : (other : ListCause) → StandsOnName count line.text other → list_rank TooMany ≤ list_rank other
    at Empty stands = absurd stands
    at BadLine stands = absurd (stands name is)
    at TooMany stands = omega arith

-- ---- what was read

pub names_begin : (lines : List LineText) → HaveNames lines lines []
names_begin lines = record {
  before = [];
  lines_are = refl;
  are_names = record { are_lines = tt; few = omega arith };
}

pub names_next : (lines left rest : List LineText) (names : List (List ℕ)) (line : LineText) (name : List ℕ)
    → HaveNames lines left names → left ≡ line ∷ rest → IsNameLine line.text name → length names < MAX_FRAMEWORKS
    → HaveNames lines rest (names ++ name ∷ [])
names_next lines left rest names line name h e is room =
    let long = length-append names (name ∷ []) in
    record {
      before = h.before ++ line ∷ [];
      lines_are = h.lines_are ∙ ap (λ ls. h.before ++ ls) e ∙ sym (append_assoc h.before (line ∷ []) rest);
      are_names = record {
        are_lines = all_zipped_more (λ l n. IsNameLine l.text n) h.before names line name h.are_names.are_lines is;
        few = omega (arith, long, room);
      };
    }

-- where the names are those of items
pub items_next : {A : Type 0} (f : A → List ℕ) (lines left rest : List LineText) (items more : List A) (line : LineText)
    (item : A) → HaveNames lines left (map f items) → left ≡ line ∷ rest → IsNameLine line.text (f item)
    → length items < MAX_FRAMEWORKS → more ≡ items ++ item ∷ [] → HaveNames lines rest (map f more)
items_next f lines left rest items more line item h e is room more_is =
    let long = length-map items f in
    subst (HaveNames lines rest) (sym (ap (map f) more_is ∙ map-append f items (item ∷ [])))
    (names_next lines left rest (map f items) line (f item) h e is (omega (arith, long, room)))

pub some_name : {A : Type 0} (f : A → List ℕ) (items : List A) → (items ≡ [] → ⊥) → 1 ≤ length (map f items)
some_name f [] some = absurd (some refl)
some_name f (item ∷ items) some = omega arith

pub names_all : (lines left : List LineText) (names : List (List ℕ)) → HaveNames lines left names → left ≡ []
    → AreNames lines names
names_all lines left names h e =
    subst (λ ls. AreNames ls names) (sym (h.lines_are ∙ ap (λ ls. h.before ++ ls) e ∙ append-nil h.before)) h.are_names

pub names_break : (lines left rest : List LineText) (names : List (List ℕ)) (line : LineText) (fault : ListFault)
    → HaveNames lines left names → left ≡ line ∷ rest → StopsList (length names) line fault → BreaksList lines fault
names_break lines left rest names line (At number cause) h e stops = record {
  left = rest;
  names = names;
  line = line;
  has_read = subst (λ ls. HaveNames lines ls names) e h;
  told = stops;
}
names_break lines left rest names line Memory h e stops = tt

-- ---- no fault of lines that are names

name_there : (before : List LineText) (line : LineText) (behind : List LineText) (names : List (List ℕ))
    → AreNameLines (before ++ line ∷ behind) names → (name : List ℕ) × IsNameLine line.text name
name_there [] line behind [] are = absurd are
name_there [] line behind (name ∷ names) are = (name, are.0)
name_there (b ∷ before) line behind [] are = absurd are
name_there (b ∷ before) line behind (name ∷ names) are = name_there before line behind names are.1

none_bad : (lines : List LineText) (names : List (List ℕ)) (number : ℕ) (cause : ListCause) → AreNames lines names
    → StandsAtName lines number cause → ⊥
none_bad lines names number Empty h s = s.stands
none_bad lines names number BadLine h s =
    let there = name_there s.before s.line s.behind names
    (subst (λ ls. AreNameLines ls names) s.lines_are h.are_lines) in
    s.stands there.0 there.1
none_bad lines names number TooMany h s =
    let long = AllZip-long (λ l n. IsNameLine l.text n) lines names h.are_lines in
    let whole = ap length s.lines_are ∙ length-append s.before (s.line ∷ s.behind) in
    let full : length s.before ≡ MAX_FRAMEWORKS = s.stands in
    let few = h.few in
    absurd (omega (arith, long, whole, full, few))

nothing_there : (lines before : List LineText) (line : LineText) (behind : List LineText) → lines ≡ []
    → lines ≡ before ++ line ∷ behind → ⊥
nothing_there lines before line behind none e =
    let long = ap length (sym none ∙ e) ∙ length-append before (line ∷ behind) in
    absurd (omega (arith, long))

pub list_is_faultless : (bytes : List ℕ) (names : List (List ℕ)) → IsList bytes names → IsListFaultless bytes
list_is_faultless bytes names h = record {
  none = λ number cause stands. elim stands [
    | inl at ↦ none_bad (kept_lines bytes) names number cause (record { are_lines = h.are_lines; few = h.few }) at
    | inr last ↦
        let long = AllZip-long (λ l n. IsNameLine l.text n) (kept_lines bytes) names h.are_lines in
        let none = ap length last.1.none in
        let some = h.some in
        absurd (omega (arith, long, none, some))
  ];
}

-- ---- the first fault

name_told : (bytes : List ℕ) (number : ℕ) (cause : ListCause) → IsFirstBadName (kept_lines bytes) number cause
    → IsFirstListFault bytes number cause
name_told bytes number cause b =
    let lines = kept_lines bytes in
    let before = b.has_read.before in
    let names = b.has_read.are_names in
    let whole = b.has_read.lines_are in
    let long : length b.names ≡ length before
    = AllZip-long (λ l n. IsNameLine l.text n) before b.names names.are_lines in
    record {
      stands = inl (record {
        before = before;
        line = b.line;
        behind = b.left;
        lines_are = whole;
        number_is = b.told.number_is;
        stands = subst (λ count. StandsOnName count b.line.text cause) long b.told.stands;
      });
      first = λ l c stands. elim stands [
        | inl at ↦ elim (positions at.before before at.line b.line at.behind b.left (sym at.lines_are ∙ whole)) [
          | inl p ↦ absurd (none_bad before b.names l c names (record {
            before = at.before;
            line = at.line;
            behind = p.between;
            lines_are = p.list_is;
            number_is = at.number_is;
            stands = at.stands;
          }))
          | inr (inl p) ↦ inr (
            b.told.number_is ∙ sym (ap (λ x. x.number) p.lines) ∙ sym at.number_is,
            b.told.first c (subst (λ count. StandsOnName count b.line.text c) (ap length p.lists ∙ sym long)
                (subst (λ x. StandsOnName (length at.before) x.text c) p.lines at.stands)),
          )
          | inr (inr p) ↦
              let higher = numbers_differ lines before b.left at.before at.behind b.line at.line (kept_lines-rise bytes)
              whole at.lines_are p in
              let low = b.told.number_is in
              let high = at.number_is in
              inl (omega (arith, higher, low, high))
        ]
        | inr last ↦ absurd (nothing_there lines before b.line b.left last.1.none whole)
      ];
    }

pub list_breaks_told : (bytes : List ℕ) (fault : ListFault) → BreaksList (kept_lines bytes) fault
    → IsListToldOf bytes fault
list_breaks_told bytes (At number cause) b = name_told bytes number cause b
list_breaks_told bytes Memory b = tt

no_lines : (lines : List LineText) → length lines ≡ 0 → lines ≡ []
no_lines [] e = refl
no_lines (line ∷ lines) e = absurd (omega arith)

pub empty_told : (bytes : List ℕ) (names : List (List ℕ)) (number : ℕ) → AreNames (kept_lines bytes) names
    → length names ≡ 0 → number ≡ length (lines_of bytes) + 1 → IsFirstListFault bytes number Empty
empty_told bytes names number h none number_is =
    let long = AllZip-long (λ l n. IsNameLine l.text n) (kept_lines bytes) names h.are_lines in
    record {
      stands = inr (
        refl,
        record { none = no_lines (kept_lines bytes) (omega (arith, long, none)); number_is = number_is },
      );
      first = λ l c stands. elim stands [
        | inl at ↦ absurd (none_bad (kept_lines bytes) names l c h at)
        | inr last ↦ inr (
          number_is ∙ sym last.1.number_is,
          subst (λ cause. list_rank Empty ≤ list_rank cause) (sym last.0) (omega arith),
        )
      ];
    }

-- ---- the list

pub list_is : (bytes : List ℕ) (names : List (List ℕ)) → AreNames (kept_lines bytes) names → 1 ≤ length names
    → IsList bytes names
list_is bytes names h some = record { are_lines = h.are_lines; some = some; few = h.few }

pub list_same : (bytes : List ℕ) (a b : List (List ℕ)) → IsList bytes a → IsList bytes b → a ≡ b
list_same bytes a b h k =
    zip_same (λ line name. IsNameLine line.text name)
    (λ line m n is was. first_same m n [] [] (sym is.fields_are ∙ was.fields_are)) (kept_lines bytes) a b h.are_lines
    k.are_lines
