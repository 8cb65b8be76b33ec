-- Which cause is told of a line that is refused, and that none stands on one that is taken in.
use Rattle.std.proofs.Common.{◌≡◌, ℕ, ◌+◌, ◌<◌, ◌≤◌, List, [], ◌∷◌, ◌++◌, length, take, drop}
use Rattle.std.proofs.Common.{get_or, refl, sym, ap, subst, ◌∙◌, ◌⊎◌, inl, inr, ⊎_elim, Bool, true, false, cond}
use Rattle.std.proofs.Common.{arith}
use Rattle.std.specs.Prelude.{Contains, count_by}
use Rattle.std.specs.List.{AllZip}
use Rattle.std.proofs.lemmas.List.{length-map, take-append-drop, take_more}
use Rattle.std.proofs.lemmas.List.Sums.{count_by_more_yes, sum_by-append}
use Rattle.std.proofs.lemmas.List.Elements.{Contains-append_left}
use Rattle.lists.proofs.Membership.{Contains-pushed}
use Rattle.num_text.specs.Cuts.{LineText, field_texts}
use Rattle.af_format.specs.declared.fault.LineCause.{LineCause}
use Rattle.af_format.specs.declared.fault.LineCause.TheVariants.{NoHeader, WrongKind, BadHeader, SecondHeader}
use Rattle.af_format.specs.declared.fault.LineCause.TheVariants.{BadLine, BadNumber, OutOfRange, TooManyLines}
use Rattle.af_format.specs.declared.fault.LineCause.TheVariants.{NotFlat, ContraryOfNonAssumption}
use Rattle.af_format.specs.Causes.{rank, IsFirstCause}
use Rattle.af_format.proofs.LineCauses.{IsNumber-same}
use Rattle.af_format.proofs.Zips.{AllZip-at}
use Rattle.aba_format.specs.AbaText.{Said, says_assumption, says_contrary, says_rule, keyword, atoms_of}
use Rattle.aba_format.specs.AbaText.{SpellsAtom, SaysLine, rules_said, AreLines}
use Rattle.aba_format.specs.Faults.{HaveForm, StandsOnFields, is_contrary_line, is_rule_line, SaySome}
use Rattle.aba_format.specs.Faults.{AreNotFlat, IsOneTooMany, StandsOnLine}
use Rattle.aba_format.specs.Reading.{IsSaidIn, Refuses, IsStopped}
use Rattle.aba_format.specs.declared.said.LineParts.{LineParts}
use Rattle.aba_format.proofs.FormCauses.{a_not_p, c_not_p, r_not_p}
use Rattle.aba_format.proofs.SaysLemmas.{contrary_line, contrary_lines_count, is_contrary, is_rule, rule_line}
use Rattle.aba_format.proofs.SaysLemmas.{rule_lines_count, says_said, said_by_line}

-- ---- the fields

-- a cause that stands on the fields stands on the line, and has a low rank
on_line : (count : ℕ) (before : List LineText) (here : LineText) (cause : LineCause)
    → StandsOnFields count (field_texts here.text) cause → StandsOnLine count before here cause × (rank cause ≤ 7)
on_line count before here NoHeader stands = absurd stands
on_line count before here WrongKind stands = absurd stands
on_line count before here BadHeader stands = absurd stands
on_line count before here SecondHeader stands = (stands, omega arith)
on_line count before here BadLine stands = (stands, omega arith)
on_line count before here BadNumber stands = (stands, omega arith)
on_line count before here OutOfRange stands = (stands, omega arith)
on_line count before here TooManyLines stands = absurd stands
on_line count before here NotFlat stands = absurd stands
on_line count before here ContraryOfNonAssumption stands = absurd stands

-- what stands on the line stands on its fields, or has a high rank
off_line : (count : ℕ) (before : List LineText) (here : LineText) (cause : LineCause)
    → StandsOnLine count before here cause → StandsOnFields count (field_texts here.text) cause ⊎ (8 ≤ rank cause)
off_line count before here NoHeader stands = absurd stands
off_line count before here WrongKind stands = absurd stands
off_line count before here BadHeader stands = absurd stands
off_line count before here SecondHeader stands = inl stands
off_line count before here BadLine stands = inl stands
off_line count before here BadNumber stands = inl stands
off_line count before here OutOfRange stands = inl stands
off_line count before here TooManyLines stands = inr (omega arith)
off_line count before here NotFlat stands = inr (omega arith)
off_line count before here ContraryOfNonAssumption stands = absurd stands

-- what is told of the fields is told of the line
told_fields : (count : ℕ) (before : List LineText) (here : LineText) (cause : LineCause)
    → IsFirstCause (StandsOnFields count (field_texts here.text)) cause
    → IsFirstCause (StandsOnLine count before here) cause
told_fields count before here cause told =
    let on = on_line count before here cause told.stands in
    record {
      stands = on.0;
      first = λ other stands. ⊎_elim (λ h. told.first other h) (λ high. omega (arith, on.1))
          (off_line count before here other stands);
    }

-- ---- a line that says something

has_form : (s : Said) (count : ℕ) (texts : List (List ℕ)) → AllZip (SpellsAtom count) texts (atoms_of s)
    → HaveForm (keyword s ∷ texts)
has_form (says_assumption x) count [] zip = absurd zip
has_form (says_assumption x) count (t ∷ []) zip = inl (t, refl)
has_form (says_assumption x) count (t ∷ u ∷ ts) zip = absurd zip.1
has_form (says_contrary x y) count [] zip = absurd zip
has_form (says_contrary x y) count (t ∷ []) zip = absurd zip.1
has_form (says_contrary x y) count (t ∷ u ∷ []) zip = inr (inl (t, u, refl))
has_form (says_contrary x y) count (t ∷ u ∷ v ∷ ts) zip = absurd zip.1.1
has_form (says_rule head body) count [] zip = absurd zip
has_form (says_rule head body) count (t ∷ ts) zip = inr (inr (t, ts, refl))

spelled_at : (count : ℕ) (texts : List (List ℕ)) (atoms : List ℕ) → AllZip (SpellsAtom count) texts atoms
    → (text : List ℕ) → Contains texts text → (x : ℕ) × SpellsAtom count text x
spelled_at count texts atoms zip text (k, within, e) =
    let there = AllZip-at (SpellsAtom count) texts atoms k text zip within in
    (there.0, subst (λ t. SpellsAtom count t there.0) e there.1)

no_field_cause : (count : ℕ) (s : Said) (texts : List (List ℕ)) → AllZip (SpellsAtom count) texts (atoms_of s)
    → (cause : LineCause) → StandsOnFields count (keyword s ∷ texts) cause → ⊥
no_field_cause count s texts zip NoHeader stands = stands
no_field_cause count s texts zip WrongKind stands = stands
no_field_cause count s texts zip BadHeader stands = stands
no_field_cause count (says_assumption x) texts zip SecondHeader stands = a_not_p texts stands
no_field_cause count (says_contrary x y) texts zip SecondHeader stands = c_not_p texts stands
no_field_cause count (says_rule head body) texts zip SecondHeader stands = r_not_p texts stands
no_field_cause count s texts zip BadLine stands = stands (has_form s count texts zip)
no_field_cause count s texts zip BadNumber stands =
    let at = spelled_at count texts (atoms_of s) zip stands.field stands.member in
    stands.none at.0 at.1.number
no_field_cause count s texts zip OutOfRange stands =
    let at = spelled_at count texts (atoms_of s) zip stands.field stands.member in
    let same = IsNumber-same stands.field stands.n at.0 stands.number_is at.1.number in
    let low = at.1.atom.low in
    let high = at.1.atom.high in
    ⊎_elim (λ under. absurd (omega arith)) (λ over. absurd (omega arith)) stands.outside
no_field_cause count s texts zip TooManyLines stands = stands
no_field_cause count s texts zip NotFlat stands = stands
no_field_cause count s texts zip ContraryOfNonAssumption stands = stands

no_cause_on : (count : ℕ) (line : List ℕ) (s : Said) → SaysLine count line s → (cause : LineCause)
    → StandsOnFields count (field_texts line) cause → ⊥
no_cause_on count line s says cause stands = no_field_cause count s says.texts says.atoms cause
    (subst (λ fs. StandsOnFields count fs cause) says.fields stands)

-- what can stand on such a line has a rank of at least n
line_rank : (count : ℕ) (before : List LineText) (here : LineText) (s : Said) (n : ℕ) → SaysLine count here.text s
    → (IsOneTooMany before here → n ≤ 8) → (AreNotFlat count (before ++ here ∷ []) → n ≤ 9)
    → (cause : LineCause) → StandsOnLine count before here cause → n ≤ rank cause
line_rank count before here s n says many flat NoHeader stands = absurd stands
line_rank count before here s n says many flat WrongKind stands = absurd stands
line_rank count before here s n says many flat BadHeader stands = absurd stands
line_rank count before here s n says many flat SecondHeader stands =
    absurd (no_cause_on count here.text s says SecondHeader stands)
line_rank count before here s n says many flat BadLine stands =
    absurd (no_cause_on count here.text s says BadLine stands)
line_rank count before here s n says many flat BadNumber stands =
    absurd (no_cause_on count here.text s says BadNumber stands)
line_rank count before here s n says many flat OutOfRange stands =
    absurd (no_cause_on count here.text s says OutOfRange stands)
line_rank count before here s n says many flat TooManyLines stands = many stands
line_rank count before here s n says many flat NotFlat stands = flat stands
line_rank count before here s n says many flat ContraryOfNonAssumption stands = absurd stands

-- ---- refusals

some_more : (count : ℕ) (before : List LineText) (here : LineText) (s : Said) → SaySome count before s
    → SaySome count (before ++ here ∷ []) s
some_more count before here s h = (h.0, Contains-append_left before (here ∷ []) h.0 h.1, h.2)

some_here : (count : ℕ) (before : List LineText) (here : LineText) (s : Said) → SaysLine count here.text s
    → SaySome count (before ++ here ∷ []) s
some_here count before here s says = (here, Contains-pushed before here here refl, says)

not_rule : (count : ℕ) (here : LineText) (s : Said) → SaysLine count here.text s → is_rule s ≡ false
    → is_rule_line here ≡ true → ⊥
not_rule count here s says no_rule yes_rule =
    let bad : true ≡ false = sym yes_rule ∙ rule_line count here s says ∙ no_rule in cc

not_contrary : (count : ℕ) (here : LineText) (s : Said) → SaysLine count here.text s → is_contrary s ≡ false
    → is_contrary_line here ≡ true → ⊥
not_contrary count here s says no_contrary yes_contrary =
    let bad : true ≡ false = sym yes_contrary ∙ contrary_line count here s says ∙ no_contrary in cc

refused : (count : ℕ) (before : List LineText) (here : LineText) (all : List Said) (s : Said) (old : LineParts)
    (cause : LineCause) → AreLines count before all → IsSaidIn count all old → SaysLine count here.text s
    → Refuses s old cause → IsFirstCause (StandsOnLine count before here) cause
refused count before here all (says_assumption x) old cause are held says h =
    let s : Said = says_assumption x in
    let rule = held.heading.marked x h.1 in
    let stands : AreNotFlat count (before ++ here ∷ []) = record {
      x = x;
      body = rule.0;
      assumed = some_here count before here s says;
      heads = some_more count before here (says_rule x rule.0)
          (said_by_line count before all are.each (says_rule x rule.0) rule.1);
    } in
    subst (IsFirstCause (StandsOnLine count before here)) (sym h.0) (record {
      stands = stands;
      first = line_rank count before here s 9 says
          (λ many. absurd (⊎_elim (λ rule. not_rule count here s says refl rule.0)
          (λ contrary. not_contrary count here s says refl contrary.0) many)) (λ flat. omega arith);
    })
refused count before here all (says_contrary x y) old cause are held says h =
    let s : Said = says_contrary x y in
    let counted : count_by is_contrary_line before ≡ length old.contraries.items
    = contrary_lines_count count before all are.each ∙ sym (ap length held.contraries) in
    subst (IsFirstCause (StandsOnLine count before here)) (sym h.0) (record {
      stands = inr (contrary_line count here s says, omega (arith, h.1, counted));
      first = line_rank count before here s 8 says (λ many. omega arith) (λ flat. omega arith);
    })
refused count before here all (says_rule head body) old cause are held says h =
    let s : Said = says_rule head body in
    let counted : count_by is_rule_line before ≡ length old.heads.items
    = rule_lines_count count before all are.each
    ∙ sym (ap length held.rules.heads_are ∙ length-map (rules_said all) (λ r. r.0)) in
    elim h [
      | inl many ↦ subst (IsFirstCause (StandsOnLine count before here)) (sym many.0) (record {
        stands = inl (rule_line count here s says, omega (arith, many.1, counted));
        first = line_rank count before here s 8 says (λ m. omega arith) (λ f. omega arith);
      })
      | inr flat ↦ subst (IsFirstCause (StandsOnLine count before here)) (sym flat.0) (record {
        stands = record {
          x = head;
          body = body;
          assumed = some_more count before here (says_assumption head)
              (said_by_line count before all are.each (says_assumption head) (held.assumed.marked head flat.2));
          heads = some_here count before here s says;
        };
        first = line_rank count before here s 9 says
            (λ m. absurd (⊎_elim (λ rule. absurd (omega (arith, rule.1, counted, flat.1)))
            (λ contrary. not_contrary count here s says refl contrary.0) m)) (λ f. omega arith);
      })
    ]

-- what stops reading at a line is told of it
pub stopped : (count : ℕ) (before : List LineText) (here : LineText) (all : List Said) (old : LineParts)
    (cause : LineCause) → AreLines count before all → IsSaidIn count all old → IsStopped count here.text old cause
    → IsFirstCause (StandsOnLine count before here) cause
stopped count before here all old cause are held (inl told) = told_fields count before here cause told
stopped count before here all old cause are held (inr h) =
    refused count before here all h.said old cause are held h.says h.refuses

-- ---- good lines

-- a test counts in a part of a list at most as much as in the list
part_counts : {X : Type 0} (p : X → Bool) (xs : List X) (n : ℕ) → count_by p (take n xs) ≤ count_by p xs
part_counts p xs n =
    let cut = ap (count_by p) (take-append-drop n xs) in
    let sum = sum_by-append (λ x. cond (p x) 1 0) (take n xs) (drop n xs) in
    omega arith

-- what some lines of a part say, some lines say
some_of_part : (count : ℕ) (lines : List LineText) (n : ℕ) (s : Said) → SaySome count (take n lines) s
    → SaySome count lines s
some_of_part count lines n s h = (
  h.0,
  subst (λ ls. Contains ls h.0) (take-append-drop n lines) (Contains-append_left (take n lines) (drop n lines) h.0 h.1),
  h.2,
)

-- no cause stands on lines that say what is consistent
pub good_line : (count : ℕ) (lines : List LineText) (all : List Said) (k : ℕ) (d : LineText) → AreLines count lines all
    → k < length lines → (cause : LineCause) → StandsOnLine count (take k lines) (get_or lines k d) cause → ⊥
good_line count lines all k d are within cause stands =
    let here = AllZip-at (λ (line : LineText) s. SaysLine count line.text s) lines all k d are.each within in
    by_cause here.0 here.1 cause stands
  where
    said : (s : Said) → SaySome count lines s → Contains all s
    said s h = says_said count lines all are.each h.0 s h.1 h.2

    upto : (s : Said) → SaySome count (take k lines ++ get_or lines k d ∷ []) s → Contains all s
    upto s h = said s (some_of_part count lines (k + 1) s
        (subst (λ ls. SaySome count ls s) (sym (take_more lines k d within)) h))

    by_cause : (s : Said) → SaysLine count (get_or lines k d).text s → (cause : LineCause)
        → StandsOnLine count (take k lines) (get_or lines k d) cause → ⊥
    by_cause s says NoHeader stands = stands
    by_cause s says WrongKind stands = stands
    by_cause s says BadHeader stands = stands
    by_cause s says SecondHeader stands = no_cause_on count (get_or lines k d).text s says SecondHeader stands
    by_cause s says BadLine stands = no_cause_on count (get_or lines k d).text s says BadLine stands
    by_cause s says BadNumber stands = no_cause_on count (get_or lines k d).text s says BadNumber stands
    by_cause s says OutOfRange stands = no_cause_on count (get_or lines k d).text s says OutOfRange stands
    by_cause s says TooManyLines (inl rule) =
        let more = count_by_more_yes is_rule_line lines k d within rule.0 in
        let part = part_counts is_rule_line lines (k + 1) in
        let counted = rule_lines_count count lines all are.each in
        let few = are.consistent.few in
        absurd (omega (arith, rule.1))
    by_cause s says TooManyLines (inr contrary) =
        let more = count_by_more_yes is_contrary_line lines k d within contrary.0 in
        let part = part_counts is_contrary_line lines (k + 1) in
        let counted = contrary_lines_count count lines all are.each in
        let few = are.consistent.few_contraries in
        absurd (omega (arith, contrary.1))
    by_cause s says NotFlat stands = are.consistent.flat stands.x stands.body
        (upto (says_assumption stands.x) stands.assumed) (upto (says_rule stands.x stands.body) stands.heads)
    by_cause s says ContraryOfNonAssumption stands = stands
