-- Which causes stand on a header, and on an attack line.
use Rattle.std.proofs.Common.{◌≡◌, ℕ, zero, suc, ◌<◌, ◌≤◌, List, [], ◌∷◌, length, get_or, refl, sym, ap, subst}
use Rattle.std.proofs.Common.{◌∙◌, ◌⊎◌, inl, inr, arith}
use Rattle.std.specs.Prelude.{Contains, codes, All, Option, Some, None}
use Rattle.std.proofs.lemmas.List.Elements.{All-head}
use Rattle.num_text.specs.Cuts.{field_texts}
use Rattle.num_text.specs.Number.{IsNumber, IsDigit}
use Rattle.num_text.specs.Numerals.{IsReadNumber}
use Rattle.semantics.specs.declared.argument.TheConstants.{MAX_ARGUMENT}
use Rattle.af_format.specs.declared.af_line.TheConstants.{MAX_ATTACK_LINES}
use Rattle.af_format.specs.declared.fault.LineCause.{LineCause}
use Rattle.af_format.specs.declared.fault.LineCause.TheVariants.{NoHeader, WrongKind, BadHeader, SecondHeader}
use Rattle.af_format.specs.declared.fault.LineCause.TheVariants.{BadLine, BadNumber, OutOfRange, TooManyLines}
use Rattle.af_format.specs.declared.fault.LineCause.TheVariants.{NotFlat, ContraryOfNonAssumption}
use Rattle.af_format.specs.AfText.{IsHeader, IsAttackLine}
use Rattle.af_format.specs.Causes.{rank, IsFirstCause}
use Rattle.af_format.specs.Faults.{StandsOnAttack}
use Rattle.af_format.specs.Headers.{af_word, aba_word, IsHeaderOf, AreHeaderOf, StandsOnHeader}

-- bytes spell one number
pub IsNumber-same : (text : List ℕ) (m n : ℕ) → IsNumber text m → IsNumber text n → m ≡ n
IsNumber-same text m n a b = sym a.value ∙ b.value

-- `p` is no number
pub p_is_no_number : (text : List ℕ) (n : ℕ) → text ≡ codes "p" → IsNumber text n → ⊥
p_is_no_number text n e number =
    let digits = subst (λ t. All IsDigit t) e number.digits in
    let digit = All-head IsDigit 112 [] digits in
    absurd (omega (arith, digit.high))

-- two kinds of header differ
kinds_differ : (own other : List ℕ) (fields more : List (List ℕ)) (first number : List ℕ) → (own ≡ other → ⊥)
    → fields ≡ first ∷ other ∷ more → fields ≡ codes "p" ∷ own ∷ number ∷ [] → ⊥
kinds_differ own other fields more first number ne e h = ne (ap (λ xs. get_or xs 1 []) (sym h ∙ e))

same_number : (own : List ℕ) (fields : List (List ℕ)) (x y : List ℕ) → fields ≡ codes "p" ∷ own ∷ x ∷ []
    → fields ≡ codes "p" ∷ own ∷ y ∷ [] → x ≡ y
same_number own fields x y e h = ap (λ xs. get_or xs 2 []) (sym e ∙ h)

-- the number of a header is one
pub AreHeaderOf-same : (own : List ℕ) (fields : List (List ℕ)) (m n : ℕ) → AreHeaderOf own fields m
    → AreHeaderOf own fields n → m ≡ n
AreHeaderOf-same own fields m n a b = IsNumber-same b.number m n
    (subst (λ t. IsNumber t m) (same_number own fields a.number b.number a.fields_are b.fields_are) a.number_is)
    b.number_is

pub header_fields : (own line : List ℕ) (count : ℕ) → IsHeaderOf own line count
    → AreHeaderOf own (field_texts line) count
header_fields own line count h = record { number = h.number; fields_are = h.fields; number_is = h.number_is }

pub IsHeaderOf-same : (own line : List ℕ) (m n : ℕ) → IsHeaderOf own line m → IsHeaderOf own line n → m ≡ n
IsHeaderOf-same own line m n a b =
    AreHeaderOf-same own (field_texts line) m n (header_fields own line m a) (header_fields own line n b)

pub IsHeader-same : (line : List ℕ) (m n : ℕ) → IsHeader line m → IsHeader line n → m ≡ n
IsHeader-same line m n a b = IsHeaderOf-same af_word line m n a b

-- where the fields are a header's, only its number can be wrong
over_only : (own other : List ℕ) (fields : List (List ℕ)) (n : ℕ) → (own ≡ other → ⊥) → AreHeaderOf own fields n
    → (cause : LineCause) → StandsOnHeader own other fields cause → (MAX_ARGUMENT < n) × (7 ≤ rank cause)
over_only own other fields n ne h NoHeader stands = absurd (stands (own ∷ h.number ∷ [], h.fields_are))
over_only own other fields n ne h WrongKind stands =
    absurd (kinds_differ own other fields stands.more stands.first h.number ne stands.fields_are h.fields_are)
over_only own other fields n ne h BadHeader stands = absurd (stands n h)
over_only own other fields n ne h SecondHeader stands = absurd stands
over_only own other fields n ne h BadLine stands = absurd stands
over_only own other fields n ne h BadNumber stands = absurd stands
over_only own other fields n ne h OutOfRange stands =
    (subst (λ m. MAX_ARGUMENT < m) (AreHeaderOf-same own fields stands.0 n stands.1 h) stands.2, omega arith)
over_only own other fields n ne h TooManyLines stands = absurd stands
over_only own other fields n ne h NotFlat stands = absurd stands
over_only own other fields n ne h ContraryOfNonAssumption stands = absurd stands

-- a header whose number is too large
pub header_over : (own other : List ℕ) (fields : List (List ℕ)) (number : List ℕ) (n : ℕ) → (own ≡ other → ⊥)
    → fields ≡ codes "p" ∷ own ∷ number ∷ [] → IsNumber number n → MAX_ARGUMENT < n
    → IsFirstCause (StandsOnHeader own other fields) OutOfRange
header_over own other fields number n ne e number_is over =
    let h : AreHeaderOf own fields n = record { number = number; fields_are = e; number_is = number_is } in
    record {
      stands = (n, h, over);
      first = λ cause stands. (over_only own other fields n ne h cause stands).1;
    }

-- no cause stands on a header
pub no_header_cause : (own other line : List ℕ) (count : ℕ) → (own ≡ other → ⊥) → IsHeaderOf own line count
    → (cause : LineCause) → StandsOnHeader own other (field_texts line) cause → ⊥
no_header_cause own other line count ne h cause stands =
    let over = over_only own other (field_texts line) count ne (header_fields own line count h) cause stands in
    absurd (omega (arith, over.0, h.few))

-- the words of the two kinds differ
pub words_differ : af_word ≡ aba_word → ⊥
words_differ e = two_not_three (length af_word) (length aba_word) (ap length e) refl refl
  where
    two_not_three : (m n : ℕ) → m ≡ n → m ≡ 2 → n ≡ 3 → ⊥
    two_not_three m n same two three = absurd (omega arith)

-- no cause stands on the header of an abstract framework
pub header_is_good : (line : List ℕ) (count : ℕ) → IsHeader line count → (cause : LineCause)
    → StandsOnHeader af_word aba_word (field_texts line) cause → ⊥
header_is_good line count h cause stands = no_header_cause af_word aba_word line count words_differ h cause stands

-- the members of two fields
two_members : (fields : List (List ℕ)) (a b field : List ℕ) → fields ≡ a ∷ b ∷ [] → Contains fields field
    → (field ≡ a) ⊎ (field ≡ b)
two_members fields a b field e member = two_members_of a b field (subst (λ xs. Contains xs field) e member)
  where
    two_members_of : (a b field : List ℕ) → Contains (a ∷ b ∷ []) field → (field ≡ a) ⊎ (field ≡ b)
    two_members_of a b field (zero, within, e) = inl (sym e)
    two_members_of a b field (suc zero, within, e) = inr (sym e)
    two_members_of a b field (suc (suc k), within, e) = absurd (omega arith)

-- only the limit on lines can be broken at an attack line
pub limit_only : (count index : ℕ) (line : List ℕ) (attack : ℕ × ℕ) → IsAttackLine count line attack
    → (other : LineCause) → StandsOnAttack count index (field_texts line) other → (MAX_ATTACK_LINES ≤ index)
    × (8 ≤ rank other)
limit_only count index line attack h NoHeader stands = absurd stands
limit_only count index line attack h WrongKind stands = absurd stands
limit_only count index line attack h BadHeader stands = absurd stands
limit_only count index line attack h SecondHeader stands =
    absurd (p_is_no_number h.attacker attack.0 (ap (λ xs. get_or xs 0 []) (sym h.fields ∙ stands.1))
    h.attacker_is.number)
limit_only count index line attack h BadLine stands = absurd (stands h.attacker h.target h.fields)
limit_only count index line attack h BadNumber stands =
    elim (two_members (field_texts line) h.attacker h.target stands.field h.fields stands.member) [
      | inl e ↦ absurd (stands.none attack.0 (subst (λ t. IsNumber t attack.0) (sym e) h.attacker_is.number))
      | inr e ↦ absurd (stands.none attack.1 (subst (λ t. IsNumber t attack.1) (sym e) h.target_is.number))
    ]
limit_only count index line attack h OutOfRange stands =
    elim (two_members (field_texts line) h.attacker h.target stands.field h.fields stands.member) [
      | inl e ↦
          let same = IsNumber-same h.attacker stands.n attack.0 (subst (λ t. IsNumber t stands.n) e stands.number_is)
          h.attacker_is.number in
          absurd (outside_not_inside count stands.n attack.0 same h.attacker_is.low h.attacker_is.high stands.outside)
      | inr e ↦
          let same = IsNumber-same h.target stands.n attack.1 (subst (λ t. IsNumber t stands.n) e stands.number_is)
          h.target_is.number in
          absurd (outside_not_inside count stands.n attack.1 same h.target_is.low h.target_is.high stands.outside)
    ]
  where
    outside_not_inside : (count m n : ℕ) → m ≡ n → 1 ≤ n → n ≤ count → (m < 1) ⊎ (count < m) → ⊥
    outside_not_inside count m n e low high (inl under) = absurd (omega arith)
    outside_not_inside count m n e low high (inr over) = absurd (omega arith)
limit_only count index line attack h TooManyLines stands = (stands, omega arith)
limit_only count index line attack h NotFlat stands = absurd stands
limit_only count index line attack h ContraryOfNonAssumption stands = absurd stands

-- the two members of two fields
pub first_member : (fields : List (List ℕ)) (a b : List ℕ) → fields ≡ a ∷ b ∷ [] → Contains fields a
first_member fields a b e = subst (λ xs. Contains xs a) (sym e) (0, omega arith, refl)

pub second_member : (fields : List (List ℕ)) (a b : List ℕ) → fields ≡ a ∷ b ∷ [] → Contains fields b
second_member fields a b e = subst (λ xs. Contains xs b) (sym e) (1, omega arith, refl)

-- where no number was read, the text spells none
pub none_read : (text : List ℕ) (number : Option ℕ) → IsReadNumber text number
    → ((n : ℕ) → number ≡ Some n → ⊥) → (n : ℕ) → IsNumber text n → ⊥
none_read text None read unread n = read.none n
none_read text (Some m) read unread n = absurd (unread m refl)

-- two fields of which one is no number
pub bad_number : (count index : ℕ) (fields : List (List ℕ)) (a b field : List ℕ) → fields ≡ a ∷ b ∷ []
    → (a ≡ codes "p" → ⊥) → Contains fields field → ((n : ℕ) → IsNumber field n → ⊥)
    → IsFirstCause (StandsOnAttack count index fields) BadNumber
bad_number count index fields a b field e not_p member none = record {
  stands = record { field = field; member = member; none = none };
  first = rank_at_least count index fields a b e not_p;
}
  where
    rank_at_least : (count index : ℕ) (fields : List (List ℕ)) (a b : List ℕ) → fields ≡ a ∷ b ∷ []
        → (a ≡ codes "p" → ⊥) → (other : LineCause) → StandsOnAttack count index fields other → 6 ≤ rank other
    rank_at_least count index fields a b e not_p NoHeader stands = absurd stands
    rank_at_least count index fields a b e not_p WrongKind stands = absurd stands
    rank_at_least count index fields a b e not_p BadHeader stands = absurd stands
    rank_at_least count index fields a b e not_p SecondHeader stands =
        absurd (not_p (ap (λ xs. get_or xs 0 []) (sym e ∙ stands.1)))
    rank_at_least count index fields a b e not_p BadLine stands = absurd (stands a b e)
    rank_at_least count index fields a b e not_p BadNumber stands = omega arith
    rank_at_least count index fields a b e not_p OutOfRange stands = omega arith
    rank_at_least count index fields a b e not_p TooManyLines stands = omega arith
    rank_at_least count index fields a b e not_p NotFlat stands = absurd stands
    rank_at_least count index fields a b e not_p ContraryOfNonAssumption stands = absurd stands
