-- A text reads as a certificate exactly where it is the certificate's text.
use Rattle.std.proofs.Common.{◌≡◌, inl, inr, ℕ, Bool, true, false, if◌then◌else◌, List, [], ◌∷◌, ◌++◌, length, map, drop, get_or, refl, sym, ap, subst, ◌∙◌, arith, codes, append_assoc, length-append}
use Rattle.std.specs.Prelude.{Option, None, Some, Ok}
use Rattle.std.specs.List.{AllZip}
use Rattle.std.specs.Cmp.Lexicographic.{same_text}
use Rattle.std.proofs.lemmas.Bool.{cases_Bool}
use Rattle.std.proofs.lemmas.List.{append-nil}
use Rattle.num_text.specs.Cuts.{LineText, field_texts}
use Rattle.meaning_atoms.specs.declared.atom.AtomLit.{AtomLit}
use Rattle.meaning_atoms.specs.AtomText.{IsLitText}
use Rattle.meaning_atoms.proofs.OneReading.{zero_says_nothing}
use Rattle.iccma_tasks.specs.AnswerText.{IsSetLine, behind_first, is_field}
use Rattle.certificate_claims.specs.declared.certificate.Certificate.{Certificate}
use Rattle.certificate_claims.specs.declared.certificate.Refutation.{Refutation}
use Rattle.certificate_claims.specs.declared.certificate.Step.{Step}
use Rattle.certificate_claims.specs.declared.certificate.Step.TheVariants.{Axiom, Side, Derived}
use Rattle.certificate_text.specs.declared.draft.Draft.{Draft}
use Rattle.certificate_text.specs.declared.draft.Draft.TheVariants.{Nothing, SetsRead, StepsRead, AllRead}
use Rattle.certificate_text.specs.declared.word.Word.{Word}
use Rattle.certificate_text.specs.declared.word.Word.TheVariants.{Header as HeaderWord, Set as SetWord, Refutation as RefutationWord, Axiom as AxiomWord, Side as SideWord, Derived as DerivedWord, End as EndWord, Other as OtherWord}
use Rattle.certificate_text.specs.StepFields.{IsStepOf, Parts, is_zero, parts_of, put_before}
use Rattle.certificate_text.specs.Lines.{LeadsBy, LeadsTo, certificate, first_word, refutation, word_of}
use Rattle.certificate_text.specs.Literals.{parts}
use Rattle.certificate_text.specs.Reading.{Ends, Reads}
use Rattle.certificate_text.specs.CertText.{AreRefutations, IsCertText, IsStepLine}
use Rattle.certificate_text.proofs.LiteralLemmas.{parts_of_none, parts_of_other, parts_of_zero}

abbrev Fields : Type 0
Fields = List (List ℕ)

-- ---- words as they are spelled

abbrev IsSpelledAs : Word → List ℕ → Type 0
IsSpelledAs HeaderWord field = field ≡ codes "cert"
IsSpelledAs SetWord field = field ≡ codes "w"
IsSpelledAs RefutationWord field = field ≡ codes "r"
IsSpelledAs AxiomWord field = field ≡ codes "a"
IsSpelledAs SideWord field = field ≡ codes "s"
IsSpelledAs DerivedWord field = field ≡ codes "d"
IsSpelledAs EndWord field = field ≡ codes "end"
IsSpelledAs OtherWord field = Unit {0}

-- a word that is chosen by a test
chosen : (P : Word → Type 0) (b : Bool) (w rest : Word) → (b ≡ true → P w) → P rest → P (if b then w else rest)
chosen P true w rest here there = here refl
chosen P false w rest here there = there

told : (word field : List ℕ) → is_field word field ≡ true → field ≡ word
told word field e = same_text field word (sym e)

spelled_word : (field : List ℕ) → IsSpelledAs (word_of field) field
spelled_word field =
    let P : Word → Type 0 = λ w. IsSpelledAs w field in
    chosen P (is_field (codes "d") field) DerivedWord _ (told (codes "d") field)
    (chosen P (is_field (codes "a") field) AxiomWord _ (told (codes "a") field)
    (chosen P (is_field (codes "s") field) SideWord _ (told (codes "s") field)
    (chosen P (is_field (codes "w") field) SetWord _ (told (codes "w") field)
    (chosen P (is_field (codes "r") field) RefutationWord _ (told (codes "r") field)
    (chosen P (is_field (codes "end") field) EndWord _ (told (codes "end") field)
    (chosen P (is_field (codes "cert") field) HeaderWord OtherWord (told (codes "cert") field) tt))))))

-- the line begins with the word, and goes on with these fields
abbrev IsSpelled : Word → Fields → Fields → Type 0
IsSpelled HeaderWord line more = line ≡ codes "cert" ∷ more
IsSpelled SetWord line more = line ≡ codes "w" ∷ more
IsSpelled RefutationWord line more = line ≡ codes "r" ∷ more
IsSpelled AxiomWord line more = line ≡ codes "a" ∷ more
IsSpelled SideWord line more = line ≡ codes "s" ∷ more
IsSpelled DerivedWord line more = line ≡ codes "d" ∷ more
IsSpelled EndWord line more = line ≡ codes "end" ∷ more
IsSpelled OtherWord line more = Unit {0}

spelled_line : (word : Word) (field : List ℕ) (more : Fields) → IsSpelledAs word field → IsSpelled word (field ∷ more) more
spelled_line HeaderWord field more h = ap (λ w. w ∷ more) h
spelled_line SetWord field more h = ap (λ w. w ∷ more) h
spelled_line RefutationWord field more h = ap (λ w. w ∷ more) h
spelled_line AxiomWord field more h = ap (λ w. w ∷ more) h
spelled_line SideWord field more h = ap (λ w. w ∷ more) h
spelled_line DerivedWord field more h = ap (λ w. w ∷ more) h
spelled_line EndWord field more h = ap (λ w. w ∷ more) h
spelled_line OtherWord field more h = tt

spelled : (line : Fields) → IsSpelled (first_word line) line (behind_first line)
spelled [] = tt
spelled (field ∷ more) = spelled_line (word_of field) field more (spelled_word field)

-- ---- parts

put_is : (field : List ℕ) (found : Option Parts) (p : Parts) → put_before field found ≡ Some p
    → (q : Parts) × (found ≡ Some q) × (p ≡ parts (field ∷ q.literals) q.hints)
put_is field None p h = absurd (cc h)
put_is field (Some q) p h = (q, refl, cc h)

parts_join : (fields : Fields) (p : Parts) → parts_of fields ≡ Some p → fields ≡ p.literals ++ codes "0" ∷ p.hints
parts_join [] p h = let e = sym parts_of_none ∙ h in absurd (cc e)
parts_join (field ∷ fields) p h = elim (cases_Bool (is_zero field)) [
  | inl same ↦
      let e : Some (parts [] fields) ≡ Some p = sym (parts_of_zero field fields same) ∙ h in
      let whole : parts [] fields ≡ p = cc e in
      let is : field ≡ codes "0" = same_text field (codes "0") (sym same) in
      ap (λ f. f ∷ fields) is ∙ ap (λ q. q.literals ++ codes "0" ∷ q.hints) whole
  | inr other ↦
      let found = put_is field (parts_of fields) p (sym (parts_of_other field fields other) ∙ h) in
      ap (λ fs. field ∷ fs) (parts_join fields found.0 found.1)
      ∙ ap (λ q. q.literals ++ codes "0" ∷ q.hints) (sym found.2)
]

not_zero : (field : List ℕ) (l : AtomLit) → IsLitText field l → is_zero field ≡ false
not_zero field l is = elim (cases_Bool (is_zero field)) [
  | inl same ↦ absurd (zero_says_nothing l (subst (λ f. IsLitText f l) (same_text field (codes "0") (sym same)) is))
  | inr other ↦ other
]

parts_cut : (literal_fields hint_fields : Fields) (ls : List AtomLit) → AllZip IsLitText literal_fields ls
    → parts_of (literal_fields ++ codes "0" ∷ hint_fields) ≡ Some (parts literal_fields hint_fields)
parts_cut [] hint_fields ls all = parts_of_zero (codes "0") hint_fields refl
parts_cut (f ∷ fs) hint_fields [] all = absurd all
parts_cut (f ∷ fs) hint_fields (l ∷ ls) all =
    parts_of_other f (fs ++ codes "0" ∷ hint_fields) (not_zero f l all.0)
    ∙ ap (put_before f) (parts_cut fs hint_fields ls all.1)

-- ---- the lines of steps

step_line_from : (word : Word) (line more : Fields) (step : Step) → IsSpelled word line more → IsStepOf word more step
    → IsStepLine line step
step_line_from AxiomWord line more (Axiom which) e is = (more, e, is)
step_line_from AxiomWord line more (Side n) e is = absurd is
step_line_from AxiomWord line more (Derived ls hs) e is = absurd is
step_line_from SideWord line more (Side n) e is = (is.0, e ∙ ap (λ m. codes "s" ∷ m) is.1, is.2)
step_line_from SideWord line more (Axiom a) e is = absurd is
step_line_from SideWord line more (Derived ls hs) e is = absurd is
step_line_from DerivedWord line more (Derived ls hs) e is = record {
  literal_fields = is.parts.literals;
  hint_fields = is.parts.hints;
  fields_are = e ∙ ap (λ m. codes "d" ∷ m) (parts_join more is.parts is.cut);
  literals_are = is.literals_are;
  hints_are = is.hints_are;
}
step_line_from DerivedWord line more (Axiom a) e is = absurd is
step_line_from DerivedWord line more (Side n) e is = absurd is
step_line_from HeaderWord line more step e is = absurd is
step_line_from SetWord line more step e is = absurd is
step_line_from RefutationWord line more step e is = absurd is
step_line_from EndWord line more step e is = absurd is
step_line_from OtherWord line more step e is = absurd is

-- ---- what is left to be read of a certificate

record LeftOfSets (sets : List (List ℕ)) (lines : List Fields) (cert : Certificate) : Type 0 where
  more : List Fields
  others : List Fields
  later : List (List ℕ)
  lines_are : lines ≡ more ++ (others ++ (codes "end" ∷ []) ∷ [])
  more_are : AllZip IsSetLine more later
  sets_are : cert.sets ≡ sets ++ later
  others_are : AreRefutations others cert.refutations

record LeftOfSteps (sets : List (List ℕ)) (whole : List Refutation) (steps : List Step) (lines : List Fields)
    (cert : Certificate) : Type 0 where
  more : List Fields
  others : List Fields
  later : List Step
  rest : List Refutation
  lines_are : lines ≡ more ++ (others ++ (codes "end" ∷ []) ∷ [])
  more_are : AllZip IsStepLine more later
  others_are : AreRefutations others rest
  cert_is : cert ≡ certificate sets (whole ++ refutation (steps ++ later) ∷ rest)

abbrev Left : Draft → List Fields → Certificate → Type 0
Left Nothing lines cert = IsCertText lines cert
Left (SetsRead sets) lines cert = LeftOfSets sets lines cert
Left (StepsRead sets whole steps) lines cert = LeftOfSteps sets whole steps lines cert
Left (AllRead read) lines cert = (lines ≡ []) × (cert ≡ read)

-- ---- from behind a line to before it

back_header : (line : Fields) (lines : List Fields) (cert : Certificate) → line ≡ codes "cert" ∷ codes "1" ∷ []
    → LeftOfSets [] lines cert → IsCertText (line ∷ lines) cert
back_header line lines cert e left = record {
  sets = left.more;
  refutations = left.others;
  lines_are = ap (λ l. l ∷ lines) e ∙ ap (λ ls. (codes "cert" ∷ codes "1" ∷ []) ∷ ls) left.lines_are;
  sets_are = subst (AllZip IsSetLine left.more) (sym left.sets_are) left.more_are;
  refutations_are = left.others_are;
}

back_set : (sets : List (List ℕ)) (set : List ℕ) (line : Fields) (lines : List Fields) (cert : Certificate)
    → IsSetLine line set → LeftOfSets (sets ++ set ∷ []) lines cert → LeftOfSets sets (line ∷ lines) cert
back_set sets set line lines cert is left = record {
  more = line ∷ left.more;
  others = left.others;
  later = set ∷ left.later;
  lines_are = ap (λ ls. line ∷ ls) left.lines_are;
  more_are = (is, left.more_are);
  sets_are = left.sets_are ∙ append_assoc sets (set ∷ []) left.later;
  others_are = left.others_are;
}

regroup : (line : Fields) (more others : List Fields) (end : List Fields)
    → line ∷ (more ++ (others ++ end)) ≡ (line ∷ (more ++ others)) ++ end
regroup line more others end = ap (λ ls. line ∷ ls) (sym (append_assoc more others end))

back_begin : (sets : List (List ℕ)) (line : Fields) (lines : List Fields) (cert : Certificate) → line ≡ codes "r" ∷ []
    → LeftOfSteps sets [] [] lines cert → LeftOfSets sets (line ∷ lines) cert
back_begin sets line lines cert e left = record {
  more = [];
  others = (codes "r" ∷ []) ∷ (left.more ++ left.others);
  later = [];
  lines_are = ap (λ l. l ∷ lines) e ∙ ap (λ ls. (codes "r" ∷ []) ∷ ls) left.lines_are
      ∙ regroup (codes "r" ∷ []) left.more left.others ((codes "end" ∷ []) ∷ []);
  more_are = tt;
  sets_are = ap (λ c. c.sets) left.cert_is ∙ sym (append-nil sets);
  others_are = subst (AreRefutations ((codes "r" ∷ []) ∷ (left.more ++ left.others)))
      (sym (ap (λ c. c.refutations) left.cert_is))
      (left.more, left.others, refl, left.more_are, left.others_are);
}

back_end_of_sets : (sets : List (List ℕ)) (line : Fields) (lines : List Fields) (cert : Certificate)
    → line ≡ codes "end" ∷ [] → lines ≡ [] → cert ≡ certificate sets [] → LeftOfSets sets (line ∷ lines) cert
back_end_of_sets sets line lines cert e none is = record {
  more = [];
  others = [];
  later = [];
  lines_are = ap (λ l. l ∷ lines) e ∙ ap (λ ls. (codes "end" ∷ []) ∷ ls) none;
  more_are = tt;
  sets_are = ap (λ c. c.sets) is ∙ sym (append-nil sets);
  others_are = subst (AreRefutations []) (sym (ap (λ c. c.refutations) is)) refl;
}

back_next : (sets : List (List ℕ)) (whole : List Refutation) (steps : List Step) (line : Fields) (lines : List Fields)
    (cert : Certificate) → line ≡ codes "r" ∷ [] → LeftOfSteps sets (whole ++ refutation steps ∷ []) [] lines cert
    → LeftOfSteps sets whole steps (line ∷ lines) cert
back_next sets whole steps line lines cert e left = record {
  more = [];
  others = (codes "r" ∷ []) ∷ (left.more ++ left.others);
  later = [];
  rest = refutation left.later ∷ left.rest;
  lines_are = ap (λ l. l ∷ lines) e ∙ ap (λ ls. (codes "r" ∷ []) ∷ ls) left.lines_are
      ∙ regroup (codes "r" ∷ []) left.more left.others ((codes "end" ∷ []) ∷ []);
  more_are = tt;
  others_are = (left.more, left.others, refl, left.more_are, left.others_are);
  cert_is = left.cert_is
      ∙ ap (certificate sets) (append_assoc whole (refutation steps ∷ []) (refutation left.later ∷ left.rest))
      ∙ ap (λ s. certificate sets (whole ++ refutation s ∷ refutation left.later ∷ left.rest)) (sym (append-nil steps));
}

back_end_of_steps : (sets : List (List ℕ)) (whole : List Refutation) (steps : List Step) (line : Fields)
    (lines : List Fields) (cert : Certificate) → line ≡ codes "end" ∷ [] → lines ≡ []
    → cert ≡ certificate sets (whole ++ refutation steps ∷ []) → LeftOfSteps sets whole steps (line ∷ lines) cert
back_end_of_steps sets whole steps line lines cert e none is = record {
  more = [];
  others = [];
  later = [];
  rest = [];
  lines_are = ap (λ l. l ∷ lines) e ∙ ap (λ ls. (codes "end" ∷ []) ∷ ls) none;
  more_are = tt;
  others_are = refl;
  cert_is = is ∙ ap (λ s. certificate sets (whole ++ refutation s ∷ [])) (sym (append-nil steps));
}

back_step : (sets : List (List ℕ)) (whole : List Refutation) (steps : List Step) (step : Step) (line : Fields)
    (lines : List Fields) (cert : Certificate) → IsStepLine line step → LeftOfSteps sets whole (steps ++ step ∷ []) lines cert
    → LeftOfSteps sets whole steps (line ∷ lines) cert
back_step sets whole steps step line lines cert is left = record {
  more = line ∷ left.more;
  others = left.others;
  later = step ∷ left.later;
  rest = left.rest;
  lines_are = ap (λ ls. line ∷ ls) left.lines_are;
  more_are = (is, left.more_are);
  others_are = left.others_are;
  cert_is = left.cert_is
      ∙ ap (λ s. certificate sets (whole ++ refutation s ∷ left.rest)) (append_assoc steps (step ∷ []) left.later);
}

abbrev StepLeads : List (List ℕ) → List Refutation → List Step → Word → Fields → Draft → Type 0
StepLeads sets whole steps word fields after =
    (step : Step) × IsStepOf word fields step × (after ≡ StepsRead sets whole (steps ++ step ∷ []))

back_led : (sets : List (List ℕ)) (whole : List Refutation) (steps : List Step) (word : Word) (line more : Fields)
    (lines : List Fields) (cert : Certificate) (after : Draft) → IsSpelled word line more
    → StepLeads sets whole steps word more after → Left after lines cert → LeftOfSteps sets whole steps (line ∷ lines) cert
back_led sets whole steps word line more lines cert after e leads left =
    back_step sets whole steps leads.0 line lines cert (step_line_from word line more leads.0 e leads.1)
    (subst (λ d. Left d lines cert) leads.2 left)

back : (draft : Draft) (word : Word) (line more : Fields) (lines : List Fields) (cert : Certificate) (after : Draft)
    → IsSpelled word line more → LeadsBy draft word more after → Left after lines cert → Left draft (line ∷ lines) cert
back Nothing HeaderWord line more lines cert after e leads left =
    back_header line lines cert (e ∙ ap (λ m. codes "cert" ∷ m) leads.0) (subst (λ d. Left d lines cert) leads.1 left)
back Nothing SetWord line more lines cert after e leads left = absurd leads
back Nothing RefutationWord line more lines cert after e leads left = absurd leads
back Nothing AxiomWord line more lines cert after e leads left = absurd leads
back Nothing SideWord line more lines cert after e leads left = absurd leads
back Nothing DerivedWord line more lines cert after e leads left = absurd leads
back Nothing EndWord line more lines cert after e leads left = absurd leads
back Nothing OtherWord line more lines cert after e leads left = absurd leads
back (SetsRead sets) SetWord line more lines cert after e leads left =
    back_set sets leads.0 line lines cert (record { numbers = more; fields_are = e; rising = leads.1 })
    (subst (λ d. Left d lines cert) leads.2 left)
back (SetsRead sets) RefutationWord line more lines cert after e leads left =
    back_begin sets line lines cert (e ∙ ap (λ m. codes "r" ∷ m) leads.0) (subst (λ d. Left d lines cert) leads.1 left)
back (SetsRead sets) EndWord line more lines cert after e leads left =
    let at : Left (AllRead (certificate sets [])) lines cert = subst (λ d. Left d lines cert) leads.1 left in
    back_end_of_sets sets line lines cert (e ∙ ap (λ m. codes "end" ∷ m) leads.0) at.0 at.1
back (SetsRead sets) HeaderWord line more lines cert after e leads left = absurd leads
back (SetsRead sets) AxiomWord line more lines cert after e leads left = absurd leads
back (SetsRead sets) SideWord line more lines cert after e leads left = absurd leads
back (SetsRead sets) DerivedWord line more lines cert after e leads left = absurd leads
back (SetsRead sets) OtherWord line more lines cert after e leads left = absurd leads
back (StepsRead sets whole steps) RefutationWord line more lines cert after e leads left =
    back_next sets whole steps line lines cert (e ∙ ap (λ m. codes "r" ∷ m) leads.0)
    (subst (λ d. Left d lines cert) leads.1 left)
back (StepsRead sets whole steps) EndWord line more lines cert after e leads left =
    let at : Left (AllRead (certificate sets (whole ++ refutation steps ∷ []))) lines cert
    = subst (λ d. Left d lines cert) leads.1 left in
    back_end_of_steps sets whole steps line lines cert (e ∙ ap (λ m. codes "end" ∷ m) leads.0) at.0 at.1
back (StepsRead sets whole steps) HeaderWord line more lines cert after e leads left =
    back_led sets whole steps HeaderWord line more lines cert after e leads left
back (StepsRead sets whole steps) SetWord line more lines cert after e leads left =
    back_led sets whole steps SetWord line more lines cert after e leads left
back (StepsRead sets whole steps) AxiomWord line more lines cert after e leads left =
    back_led sets whole steps AxiomWord line more lines cert after e leads left
back (StepsRead sets whole steps) SideWord line more lines cert after e leads left =
    back_led sets whole steps SideWord line more lines cert after e leads left
back (StepsRead sets whole steps) DerivedWord line more lines cert after e leads left =
    back_led sets whole steps DerivedWord line more lines cert after e leads left
back (StepsRead sets whole steps) OtherWord line more lines cert after e leads left =
    back_led sets whole steps OtherWord line more lines cert after e leads left
back (AllRead read) word line more lines cert after e leads left = absurd leads

-- ---- from before a line to behind it

abbrev LeadsOn : Draft → Fields → List Fields → Certificate → Type 0
LeadsOn draft line lines cert = (after : Draft) × LeadsTo draft line after × Left after lines cert

-- a line that is spelled so leads where its word and further fields do
led_by : (draft : Draft) (line known : Fields) (after : Draft) → line ≡ known → LeadsTo draft known after
    → LeadsTo draft line after
led_by draft line known after e leads = subst (λ l. LeadsTo draft l after) (sym e) leads

head_of : (line known : Fields) (lines rest : List Fields) → line ∷ lines ≡ known ∷ rest → line ≡ known
head_of line known lines rest e = ap (λ ls. get_or ls 0 []) e

tail_of : (line known : Fields) (lines rest : List Fields) → line ∷ lines ≡ known ∷ rest → lines ≡ rest
tail_of line known lines rest e = ap (λ ls. drop 1 ls) e

front_header : (line : Fields) (lines : List Fields) (cert : Certificate) → IsCertText (line ∷ lines) cert
    → LeadsOn Nothing line lines cert
front_header line lines cert is =
    let head = codes "cert" ∷ codes "1" ∷ [] in
    let rest = is.sets ++ (is.refutations ++ (codes "end" ∷ []) ∷ []) in (
      SetsRead [],
      led_by Nothing line head (SetsRead []) (head_of line head lines rest is.lines_are) (refl, refl),
      record {
        more = is.sets;
        others = is.refutations;
        later = cert.sets;
        lines_are = tail_of line head lines rest is.lines_are;
        more_are = is.sets_are;
        sets_are = refl;
        others_are = is.refutations_are;
      },
    )

abbrev end_line : Fields
end_line = codes "end" ∷ []

abbrev begin_line : Fields
begin_line = codes "r" ∷ []

front_others : (sets : List (List ℕ)) (line : Fields) (lines others : List Fields) (cert : Certificate)
    (refutations : List Refutation) → line ∷ lines ≡ others ++ end_line ∷ [] → cert ≡ certificate sets refutations
    → AreRefutations others refutations → LeadsOn (SetsRead sets) line lines cert
front_others sets line lines others cert [] are is all =
    let cut : line ∷ lines ≡ end_line ∷ [] = are ∙ ap (λ o. o ++ end_line ∷ []) all in (
      AllRead (certificate sets []),
      led_by (SetsRead sets) line end_line (AllRead (certificate sets [])) (head_of line end_line lines [] cut) (refl, refl),
      (tail_of line end_line lines [] cut, is),
    )
front_others sets line lines others cert (one ∷ rest) are is all =
    let cut : line ∷ lines ≡ begin_line ∷ ((all.0 ++ all.1) ++ end_line ∷ []) = are ∙ ap (λ o. o ++ end_line ∷ []) all.2 in (
      StepsRead sets [] [],
      led_by (SetsRead sets) line begin_line (StepsRead sets [] []) (head_of line begin_line lines _ cut) (refl, refl),
      record {
        more = all.0;
        others = all.1;
        later = one.steps;
        rest = rest;
        lines_are = tail_of line begin_line lines _ cut ∙ append_assoc all.0 all.1 (end_line ∷ []);
        more_are = all.3;
        others_are = all.4;
        cert_is = is;
      },
    )

set_leads : (sets : List (List ℕ)) (line : Fields) (set : List ℕ) → IsSetLine line set
    → LeadsTo (SetsRead sets) line (SetsRead (sets ++ set ∷ []))
set_leads sets line set is =
    led_by (SetsRead sets) line (codes "w" ∷ is.numbers) (SetsRead (sets ++ set ∷ [])) is.fields_are (set, is.rising, refl)

front_sets : (sets : List (List ℕ)) (line : Fields) (lines more others : List Fields) (later : List (List ℕ))
    (cert : Certificate) → line ∷ lines ≡ more ++ (others ++ end_line ∷ []) → AllZip IsSetLine more later
    → cert.sets ≡ sets ++ later → AreRefutations others cert.refutations → LeadsOn (SetsRead sets) line lines cert
front_sets sets line lines [] others [] cert are zip is all =
    front_others sets line lines others cert cert.refutations are
    (ap (λ s. certificate s cert.refutations) (is ∙ append-nil sets)) all
front_sets sets line lines [] others (s ∷ later) cert are zip is all = absurd zip
front_sets sets line lines (m ∷ more) others [] cert are zip is all = absurd zip
front_sets sets line lines (m ∷ more) others (s ∷ later) cert are zip is all =
    let here : line ≡ m = head_of line m lines (more ++ (others ++ end_line ∷ [])) are in (
      SetsRead (sets ++ s ∷ []),
      set_leads sets line s (subst (λ l. IsSetLine l s) (sym here) zip.0),
      record {
        more = more;
        others = others;
        later = later;
        lines_are = tail_of line m lines (more ++ (others ++ end_line ∷ [])) are;
        more_are = zip.1;
        sets_are = is ∙ sym (append_assoc sets (s ∷ []) later);
        others_are = all;
      },
    )

front_whole : (sets : List (List ℕ)) (whole : List Refutation) (steps : List Step) (line : Fields)
    (lines others : List Fields) (cert : Certificate) (rest : List Refutation) → line ∷ lines ≡ others ++ end_line ∷ []
    → cert ≡ certificate sets (whole ++ refutation steps ∷ rest) → AreRefutations others rest
    → LeadsOn (StepsRead sets whole steps) line lines cert
front_whole sets whole steps line lines others cert [] are is all =
    let cut : line ∷ lines ≡ end_line ∷ [] = are ∙ ap (λ o. o ++ end_line ∷ []) all in
    let after = AllRead (certificate sets (whole ++ refutation steps ∷ [])) in (
      after,
      led_by (StepsRead sets whole steps) line end_line after (head_of line end_line lines [] cut) (refl, refl),
      (tail_of line end_line lines [] cut, is),
    )
front_whole sets whole steps line lines others cert (one ∷ rest) are is all =
    let cut : line ∷ lines ≡ begin_line ∷ ((all.0 ++ all.1) ++ end_line ∷ []) = are ∙ ap (λ o. o ++ end_line ∷ []) all.2 in
    let after = StepsRead sets (whole ++ refutation steps ∷ []) [] in (
      after,
      led_by (StepsRead sets whole steps) line begin_line after (head_of line begin_line lines _ cut) (refl, refl),
      record {
        more = all.0;
        others = all.1;
        later = one.steps;
        rest = rest;
        lines_are = tail_of line begin_line lines _ cut ∙ append_assoc all.0 all.1 (end_line ∷ []);
        more_are = all.3;
        others_are = all.4;
        cert_is = is ∙ ap (certificate sets) (sym (append_assoc whole (refutation steps ∷ []) (one ∷ rest)));
      },
    )

step_leads : (sets : List (List ℕ)) (whole : List Refutation) (steps : List Step) (line : Fields) (step : Step)
    → IsStepLine line step → LeadsTo (StepsRead sets whole steps) line (StepsRead sets whole (steps ++ step ∷ []))
step_leads sets whole steps line (Axiom which) is =
    led_by (StepsRead sets whole steps) line (codes "a" ∷ is.0) _ is.1 (Axiom which, is.2, refl)
step_leads sets whole steps line (Side n) is =
    led_by (StepsRead sets whole steps) line (codes "s" ∷ is.0 ∷ []) _ is.1 (Side n, (is.0, refl, is.2), refl)
step_leads sets whole steps line (Derived ls hs) is =
    led_by (StepsRead sets whole steps) line (codes "d" ∷ (is.literal_fields ++ codes "0" ∷ is.hint_fields)) _ is.fields_are (
      Derived ls hs,
      record {
        parts = parts is.literal_fields is.hint_fields;
        cut = parts_cut is.literal_fields is.hint_fields ls is.literals_are;
        literals_are = is.literals_are;
        hints_are = is.hints_are;
      },
      refl,
    )

front_steps : (sets : List (List ℕ)) (whole : List Refutation) (steps : List Step) (line : Fields)
    (lines more others : List Fields) (later : List Step) (rest : List Refutation) (cert : Certificate)
    → line ∷ lines ≡ more ++ (others ++ end_line ∷ []) → AllZip IsStepLine more later → AreRefutations others rest
    → cert ≡ certificate sets (whole ++ refutation (steps ++ later) ∷ rest)
    → LeadsOn (StepsRead sets whole steps) line lines cert
front_steps sets whole steps line lines [] others [] rest cert are zip all is =
    front_whole sets whole steps line lines others cert rest are
    (is ∙ ap (λ s. certificate sets (whole ++ refutation s ∷ rest)) (append-nil steps)) all
front_steps sets whole steps line lines [] others (s ∷ later) rest cert are zip all is = absurd zip
front_steps sets whole steps line lines (m ∷ more) others [] rest cert are zip all is = absurd zip
front_steps sets whole steps line lines (m ∷ more) others (s ∷ later) rest cert are zip all is =
    let here : line ≡ m = head_of line m lines (more ++ (others ++ end_line ∷ [])) are in (
      StepsRead sets whole (steps ++ s ∷ []),
      step_leads sets whole steps line s (subst (λ l. IsStepLine l s) (sym here) zip.0),
      record {
        more = more;
        others = others;
        later = later;
        rest = rest;
        lines_are = tail_of line m lines (more ++ (others ++ end_line ∷ [])) are;
        more_are = zip.1;
        others_are = all;
        cert_is = is ∙ ap (λ t. certificate sets (whole ++ refutation t ∷ rest)) (sym (append_assoc steps (s ∷ []) later));
      },
    )

front : (draft : Draft) (line : Fields) (lines : List Fields) (cert : Certificate) → Left draft (line ∷ lines) cert
    → LeadsOn draft line lines cert
front Nothing line lines cert left = front_header line lines cert left
front (SetsRead sets) line lines cert left =
    front_sets sets line lines left.more left.others left.later cert left.lines_are left.more_are left.sets_are
    left.others_are
front (StepsRead sets whole steps) line lines cert left =
    front_steps sets whole steps line lines left.more left.others left.later left.rest cert left.lines_are left.more_are
    left.others_are left.cert_is
front (AllRead read) line lines cert left = let e = ap length left.0 in absurd (omega (arith, e))

-- ---- all lines

abbrev fields_in : List LineText → List Fields
fields_in lines = map (λ line. field_texts line.text) lines

not_empty : (more others : List Fields) → [] ≡ more ++ (others ++ end_line ∷ []) → ⊥
not_empty more others e =
    let long = ap length e in
    omega (arith, long, length-append more (others ++ end_line ∷ []), length-append others (end_line ∷ []))

nothing_left : (draft : Draft) (end : ℕ) (cert : Certificate) → Left draft [] cert → Ends draft end (Ok cert)
nothing_left Nothing end cert left = let e = ap length left.lines_are in absurd (omega (arith, e))
nothing_left (SetsRead sets) end cert left = absurd (not_empty left.more left.others left.lines_are)
nothing_left (StepsRead sets whole steps) end cert left = absurd (not_empty left.more left.others left.lines_are)
nothing_left (AllRead read) end cert left = ap Ok left.1

ended : (draft : Draft) (end : ℕ) (cert : Certificate) → Ends draft end (Ok cert) → Left draft [] cert
ended Nothing end cert e = absurd (cc e)
ended (SetsRead sets) end cert e = absurd (cc e)
ended (StepsRead sets whole steps) end cert e = absurd (cc e)
ended (AllRead read) end cert e = (refl, cc e)

reads_text : (end : ℕ) (draft : Draft) (lines : List LineText) (cert : Certificate) → Reads end draft lines (Ok cert)
    → Left draft (fields_in lines) cert
reads_text end draft [] cert reads = ended draft end cert reads
reads_text end draft (line ∷ lines) cert reads = elim reads [
  | inl x ↦
      let fields = field_texts line.text in
      back draft (first_word fields) fields (behind_first fields) (fields_in lines) cert x.0 (spelled fields) x.1
      (reads_text end x.0 lines cert x.2)
  | inr y ↦ let e = y.2 in absurd (cc e)
]

text_reads : (end : ℕ) (draft : Draft) (lines : List LineText) (cert : Certificate) → Left draft (fields_in lines) cert
    → Reads end draft lines (Ok cert)
text_reads end draft [] cert left = nothing_left draft end cert left
text_reads end draft (line ∷ lines) cert left =
    let x = front draft (field_texts line.text) (fields_in lines) cert left in
    inl (x.0, x.1, text_reads end x.0 lines cert x.2)

pub exact : (end : ℕ) (lines : List LineText) (cert : Certificate)
    → (Reads end Nothing lines (Ok cert) → IsCertText (fields_in lines) cert)
    × (IsCertText (fields_in lines) cert → Reads end Nothing lines (Ok cert))
exact end lines cert = (λ h. reads_text end Nothing lines cert h, λ h. text_reads end Nothing lines cert h)
