-- Which causes stand on the fields of a line.
use Rattle.std.proofs.Common.{◌≡◌, ℕ, zero, suc, ◌≤◌, List, [], ◌∷◌, get_or, refl, sym, ap, subst, ◌⊎◌, inl, inr, arith}
use Rattle.std.specs.Prelude.{Contains, codes, All, Option, Some}
use Rattle.std.specs.List.{AllZip}
use Rattle.std.proofs.lemmas.Bool.{cases_lt}
use Rattle.std.proofs.lemmas.List.Elements.{All-nil, All-cons, All-head, All-tail}
use Rattle.num_text.specs.Number.{IsNumber}
use Rattle.num_text.specs.Numerals.{IsReadNumber}
use Rattle.af_format.specs.declared.fault.LineCause.{LineCause}
use Rattle.af_format.specs.declared.fault.LineCause.TheVariants.{NoHeader, WrongKind, BadHeader, SecondHeader, BadLine, BadNumber, OutOfRange, TooManyLines, NotFlat, ContraryOfNonAssumption}
use Rattle.af_format.specs.Causes.{rank, IsFirstCause}
use Rattle.af_format.specs.Headers.{BeginWithP}
use Rattle.af_format.specs.Faults.{HaveNoNumber, HaveOutsider}
use Rattle.af_format.proofs.LineCauses.{none_read}
use Rattle.semantics.specs.AbaFrameworks.{IsAtom}
use Rattle.aba_format.specs.AbaText.{SpellsAtom}
use Rattle.aba_format.specs.declared.stop.LineStop.{LineStop}
use Rattle.aba_format.specs.declared.stop.LineStop.TheVariants.{Cause, Memory}
use Rattle.aba_format.specs.Reading.{IfCause, IsBadBody}
use Rattle.aba_format.specs.Faults.{HaveForm, behind_first, StandsOnFields}

-- no cause of a lower rank stands on the fields
pub no_lower : (count : ℕ) (fields : List (List ℕ)) (n : ℕ) → n ≤ 7 → (BeginWithP fields → n ≤ 4)
    → ((HaveForm fields → ⊥) → n ≤ 5) → (HaveNoNumber (behind_first fields) → n ≤ 6) → (cause : LineCause)
    → StandsOnFields count fields cause → n ≤ rank cause
no_lower count fields n small p form number NoHeader stands = absurd stands
no_lower count fields n small p form number WrongKind stands = absurd stands
no_lower count fields n small p form number BadHeader stands = absurd stands
no_lower count fields n small p form number SecondHeader stands = p stands
no_lower count fields n small p form number BadLine stands = form stands
no_lower count fields n small p form number BadNumber stands = number stands
no_lower count fields n small p form number OutOfRange stands = small
no_lower count fields n small p form number TooManyLines stands = absurd stands
no_lower count fields n small p form number NotFlat stands = absurd stands
no_lower count fields n small p form number ContraryOfNonAssumption stands = absurd stands

-- some field behind the first is no number
pub bad_number : (count : ℕ) (fields : List (List ℕ)) → (BeginWithP fields → ⊥) → HaveForm fields
    → HaveNoNumber (behind_first fields) → IsFirstCause (StandsOnFields count fields) BadNumber
bad_number count fields not_p form none = record {
  stands = none;
  first = no_lower count fields 6 (omega arith) (λ p. absurd (not_p p)) (λ bad. absurd (bad form)) (λ h. omega arith);
}

-- all of them are numbers, and some is none of an atom
pub out_of_range : (count : ℕ) (fields : List (List ℕ)) → (BeginWithP fields → ⊥) → HaveForm fields
    → (HaveNoNumber (behind_first fields) → ⊥) → HaveOutsider count (behind_first fields)
    → IsFirstCause (StandsOnFields count fields) OutOfRange
out_of_range count fields not_p form numbers outsider = record {
  stands = outsider;
  first = no_lower count fields 7 (omega arith) (λ p. absurd (not_p p)) (λ bad. absurd (bad form))
      (λ h. absurd (numbers h));
}

-- the first byte of the word of a kind of line
other_word : (n : ℕ) (more : List (List ℕ)) → (n ≡ 112 → ⊥) → BeginWithP ((n ∷ []) ∷ more) → ⊥
other_word n more ne p = ne (ap (λ fields. get_or (get_or fields 0 []) 0 0) p.1)

pub a_not_p : (more : List (List ℕ)) → BeginWithP (codes "a" ∷ more) → ⊥
a_not_p more = other_word 97 more (λ e. omega arith)

pub c_not_p : (more : List (List ℕ)) → BeginWithP (codes "c" ∷ more) → ⊥
c_not_p more = other_word 99 more (λ e. omega arith)

pub r_not_p : (more : List (List ℕ)) → BeginWithP (codes "r" ∷ more) → ⊥
r_not_p more = other_word 114 more (λ e. omega arith)

pub a_form : (texts : List (List ℕ)) (x : List ℕ) → texts ≡ x ∷ [] → HaveForm (codes "a" ∷ texts)
a_form texts x e = inl (x, ap (λ more. codes "a" ∷ more) e)

pub c_form : (texts : List (List ℕ)) (x y : List ℕ) → texts ≡ x ∷ y ∷ [] → HaveForm (codes "c" ∷ texts)
c_form texts x y e = inr (inl (x, y, ap (λ more. codes "c" ∷ more) e))

pub r_form : (texts : List (List ℕ)) (x : List ℕ) (more : List (List ℕ)) → texts ≡ x ∷ more
    → HaveForm (codes "r" ∷ texts)
r_form texts x more e = inr (inr (x, more, ap (λ fields. codes "r" ∷ fields) e))

-- where each text is a number, none is no number
pub all_numbers : (texts : List (List ℕ)) (numbers : List ℕ) → AllZip IsNumber texts numbers → HaveNoNumber texts → ⊥
all_numbers texts numbers zip h = at texts numbers zip h.field h.member h.none
  where
    at : (texts : List (List ℕ)) (numbers : List ℕ) → AllZip IsNumber texts numbers → (field : List ℕ)
        → Contains texts field → ((n : ℕ) → IsNumber field n → ⊥) → ⊥
    at [] numbers zip field c none = absurd (omega (arith, c.1))
    at (t ∷ ts) [] zip field c none = absurd zip
    at (t ∷ ts) (n ∷ ns) zip field (zero, within, e) none = none n (subst (λ x. IsNumber x n) e zip.0)
    at (t ∷ ts) (n ∷ ns) zip field (suc k, within, e) none = at ts ns zip.1 field (k, omega arith, e) none

-- a number that is no atom's
pub outsider : (count : ℕ) (texts : List (List ℕ)) (text : List ℕ) (n : ℕ) → Contains texts text → IsNumber text n
    → (IsAtom count n → ⊥) → HaveOutsider count texts
outsider count texts text n c number none = record {
  field = text;
  member = c;
  n = n;
  number_is = number;
  outside = elim (cases_lt n 1) [
    | inl low ↦ inl low
    | inr above ↦ elim (cases_lt count n) [
      | inl high ↦ inr high
      | inr within ↦ absurd (none (record { low = omega arith; high = omega arith }))
    ]
  ];
}

-- where not all numbers are atoms, some is outside
is_atom_or_not : (count n : ℕ) → IsAtom count n ⊎ (IsAtom count n → ⊥)
is_atom_or_not count n = elim (cases_lt n 1) [
  | inl low ↦ inr (λ h. let bound = h.low in absurd (omega arith))
  | inr above ↦ elim (cases_lt count n) [
    | inl high ↦ inr (λ h. let bound = h.high in absurd (omega arith))
    | inr within ↦ inl (record { low = omega arith; high = omega arith })
  ]
]

pub some_outside : (count : ℕ) (texts : List (List ℕ)) (numbers : List ℕ) → AllZip IsNumber texts numbers
    → (All (IsAtom count) numbers → ⊥) → HaveOutsider count texts
some_outside count [] [] zip none = absurd (none (All-nil (IsAtom count)))
some_outside count [] (n ∷ ns) zip none = absurd zip
some_outside count (t ∷ ts) [] zip none = absurd zip
some_outside count (t ∷ ts) (n ∷ ns) zip none = elim (is_atom_or_not count n) [
  | inr bad ↦ outsider count (t ∷ ts) t n (0, omega arith, refl) zip.0 bad
  | inl atom ↦
      let h = some_outside count ts ns zip.1 (λ all. none (All-cons (IsAtom count) n ns atom all)) in
      record {
        field = h.field;
        member = (suc h.member.0, omega (arith, h.member.1), h.member.2);
        n = h.n;
        number_is = h.number_is;
        outside = h.outside;
      }
]

pub no_number_at : (texts : List (List ℕ)) (text : List ℕ) (number : Option ℕ) → Contains texts text
    → IsReadNumber text number → ((n : ℕ) → number ≡ Some n → ⊥) → HaveNoNumber texts
no_number_at texts text number c read unread =
    record { field = text; member = c; none = none_read text number read unread }

-- the first text, and the second
pub head_member : (texts : List (List ℕ)) (x : List ℕ) (more : List (List ℕ)) → texts ≡ x ∷ more → Contains texts x
head_member texts x more e = subst (λ ts. Contains ts x) (sym e) (0, omega arith, refl)

pub next_member : (texts : List (List ℕ)) (x y : List ℕ) (more : List (List ℕ)) → texts ≡ x ∷ y ∷ more
    → Contains texts y
next_member texts x y more e = subst (λ ts. Contains ts y) (sym e) (1, omega arith, refl)

-- what is no number in a body is none in its rule's line
later_none : (texts : List (List ℕ)) (x : List ℕ) (more : List (List ℕ)) → texts ≡ x ∷ more → HaveNoNumber more
    → HaveNoNumber texts
later_none texts x more e h = record {
  field = h.field;
  member = subst (λ ts. Contains ts h.field) (sym e) (suc h.member.0, omega (arith, h.member.1), h.member.2);
  none = h.none;
}

-- reading a body stopped
pub bad_body : (count : ℕ) (texts : List (List ℕ)) (x : List ℕ) (more : List (List ℕ)) (stop : LineStop)
    → texts ≡ x ∷ more → IfCause stop (IsBadBody more)
    → IfCause stop (IsFirstCause (StandsOnFields count (codes "r" ∷ texts)))
bad_body count texts x more (Cause cause) e h =
    subst (λ c. IsFirstCause (StandsOnFields count (codes "r" ∷ texts)) c) (sym h.0)
    (bad_number count (codes "r" ∷ texts) (r_not_p texts) (r_form texts x more e) (later_none texts x more e h.1))
bad_body count texts x more Memory e h = tt

-- a head that is no number
pub bad_head : (count : ℕ) (texts : List (List ℕ)) (x : List ℕ) (more : List (List ℕ)) (number : Option ℕ)
    → texts ≡ x ∷ more → IsReadNumber x number → ((n : ℕ) → number ≡ Some n → ⊥)
    → IsFirstCause (StandsOnFields count (codes "r" ∷ texts)) BadNumber
bad_head count texts x more number e read unread =
    bad_number count (codes "r" ∷ texts) (r_not_p texts) (r_form texts x more e)
    (no_number_at texts x number (head_member texts x more e) read unread)

-- one of the two fields of a contrary that is no number
pub bad_contrary : (count : ℕ) (texts : List (List ℕ)) (x y field : List ℕ) (number : Option ℕ) → texts ≡ x ∷ y ∷ []
    → Contains texts field → IsReadNumber field number → ((n : ℕ) → number ≡ Some n → ⊥)
    → IsFirstCause (StandsOnFields count (codes "c" ∷ texts)) BadNumber
bad_contrary count texts x y field number e c read unread =
    bad_number count (codes "c" ∷ texts) (c_not_p texts) (c_form texts x y e)
    (no_number_at texts field number c read unread)

-- the numbers of a rule's line, of which some is no atom's
pub rule_outside : (count : ℕ) (texts : List (List ℕ)) (x : List ℕ) (more : List (List ℕ)) (head : ℕ) (body : List ℕ)
    → texts ≡ x ∷ more → IsNumber x head → AllZip IsNumber more body
    → (IsAtom count head × All (IsAtom count) body → ⊥) → IsFirstCause (StandsOnFields count (codes "r" ∷ texts)) OutOfRange
rule_outside count texts x more head body e is are none =
    let zip : AllZip IsNumber texts (head ∷ body)
    = subst (λ ts. AllZip IsNumber ts (head ∷ body)) (sym e) (is, are) in
    out_of_range count (codes "r" ∷ texts) (r_not_p texts) (r_form texts x more e)
    (all_numbers texts (head ∷ body) zip) (some_outside count texts (head ∷ body) zip
    (λ all. none (All-head (IsAtom count) head body all, All-tail (IsAtom count) head body all)))

-- numbers that are atoms are spelled as such
spelled : (count : ℕ) (texts : List (List ℕ)) (numbers : List ℕ) → AllZip IsNumber texts numbers
    → All (IsAtom count) numbers → AllZip (SpellsAtom count) texts numbers
spelled count [] [] zip all = tt
spelled count [] (n ∷ ns) zip all = absurd zip
spelled count (t ∷ ts) [] zip all = absurd zip
spelled count (t ∷ ts) (n ∷ ns) zip all = (
  record { number = zip.0; atom = All-head (IsAtom count) n ns all },
  spelled count ts ns zip.1 (All-tail (IsAtom count) n ns all),
)

-- the numbers of a rule's line, all of which are atoms
pub rule_spelled : (count : ℕ) (texts : List (List ℕ)) (x : List ℕ) (more : List (List ℕ)) (head : ℕ) (body : List ℕ)
    → texts ≡ x ∷ more → IsNumber x head → AllZip IsNumber more body → IsAtom count head × All (IsAtom count) body
    → AllZip (SpellsAtom count) texts (head ∷ body)
rule_spelled count texts x more head body e is are atoms =
    let zip : AllZip (SpellsAtom count) (x ∷ more) (head ∷ body)
    = (record { number = is; atom = atoms.0 }, spelled count more body are atoms.1) in
    subst (λ ts. AllZip (SpellsAtom count) ts (head ∷ body)) (sym e) zip
