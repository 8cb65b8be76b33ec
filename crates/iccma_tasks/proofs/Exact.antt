-- A text reads as one answer, or has one fault, and not both.
use Rattle.std.proofs.Common.{◌≡◌, ℕ, ◌<◌, Bool, List, [], ◌∷◌, length, get_or, refl, sym, ap, subst, ◌∙◌, inl, inr, ◌⊎◌, arith, map, codes}
use Rattle.std.specs.Prelude.{Option, Some, None, Result, Ok, Err, IfOk, IfErr}
use Rattle.std.proofs.lemmas.Bool.{cases_lt}
use Rattle.std.proofs.lemmas.List.{length-map, same_lists, get_or_default}
use Rattle.iccma_tasks.specs.declared.answer.Answer.{Answer}
use Rattle.iccma_tasks.specs.declared.answer.Answer.TheVariants.{Yes, No, Sets}
use Rattle.iccma_tasks.specs.declared.fault.AnswerCause.{AnswerCause}
use Rattle.iccma_tasks.specs.declared.fault.AnswerCause.TheVariants.{Empty, BadLine, BadNumber, NotRising}
use Rattle.iccma_tasks.specs.declared.fault.AnswerFault.{AnswerFault}
use Rattle.iccma_tasks.specs.declared.fault.AnswerFault.TheVariants.{At, Memory}
use Rattle.iccma_tasks.specs.AnswerText.{FilledLine, IsSetLine, ReadsAsWord, ReadsAsSets, ReadsAs, LineStands, Stands, IsFirstAt, IsFaultOf, IsToldOf, AreArguments, HasBadNumber, HasFallingNumbers, filled_fields, filled_lines, is_open, behind_first}
use Rattle.iccma_tasks.proofs.Reading.{AreArguments-unique, all_fine, fine_none}

-- ---- one answer

IsSetLine-unique : (line : List (List ℕ)) (s t : List ℕ) → IsSetLine line s → IsSetLine line t → s ≡ t
IsSetLine-unique line s t a b =
    let same : a.numbers ≡ b.numbers = cc (sym a.fields_are ∙ b.fields_are) in
    AreArguments-unique b.numbers s t
    (subst (λ ns. AreArguments ns s) same a.rising.arguments) b.rising.arguments

set_is_no_word : (word : List ℕ) (line : List (List ℕ)) (set : List ℕ) → line ≡ word ∷ [] → IsSetLine line set
    → word ≡ codes "w"
set_is_no_word word line set e is = cc (sym e ∙ is.fields_are)

ReadsAsWord-unique : (word : List ℕ) (lines : List (List (List ℕ))) (s t : Option (List ℕ))
    → ReadsAsWord word lines s
    → ReadsAsWord word lines t → s ≡ t
ReadsAsWord-unique word lines None None a b = refl
ReadsAsWord-unique word lines None (Some t) a b = absurd (cc (sym a ∙ b.1))
ReadsAsWord-unique word lines (Some s) None a b = absurd (cc (sym b ∙ a.1))
ReadsAsWord-unique word lines (Some s) (Some t) a b =
    let same : a.0 ≡ b.0 = cc (sym a.1 ∙ b.1) in
    ap Some (IsSetLine-unique b.0 s t (subst (λ l. IsSetLine l s) same a.2) b.2)

word_first : (word : List ℕ) (lines : List (List (List ℕ))) (s : Option (List ℕ)) → ReadsAsWord word lines s
    → get_or lines 0 [] ≡ word ∷ []
word_first word lines None a = ap (λ ls. get_or ls 0 []) a
word_first word lines (Some s) a = ap (λ ls. get_or ls 0 []) a.1

sets_first : (lines : List (List (List ℕ))) (sets : List (List ℕ)) (word : List ℕ) → ReadsAsSets lines sets
    → get_or lines 0 [] ≡ word ∷ [] → word ≡ codes "w"
sets_first lines sets word a e = set_is_no_word word (get_or lines 0 []) (get_or sets 0 []) e
    (a.each 0 (omega (arith, a.some, a.same_length)))

ReadsAsSets-unique : (lines : List (List (List ℕ))) (ss ts : List (List ℕ)) → ReadsAsSets lines ss
    → ReadsAsSets lines ts
    → ss ≡ ts
ReadsAsSets-unique lines ss ts a b = same_lists ss ts (omega (arith, a.same_length, b.same_length)) (λ k d h.
    let within : k < length lines = omega (arith, a.same_length) in
    get_or_default ss k d [] h
    ∙ IsSetLine-unique (get_or lines k []) (get_or ss k []) (get_or ts k []) (a.each k within)
    (b.each k within)
    ∙ get_or_default ts k [] d (omega (arith, a.same_length, b.same_length)))

yes_or_no : (lines : List (List (List ℕ))) (s t : Option (List ℕ)) → ReadsAsWord (codes "YES") lines s
    → ReadsAsWord (codes "NO") lines t → ⊥
yes_or_no lines s t a b = cc (sym (word_first (codes "YES") lines s a) ∙ word_first (codes "NO") lines t b)

yes_or_w : (lines : List (List (List ℕ))) (s : Option (List ℕ)) (ts : List (List ℕ))
    → ReadsAsWord (codes "YES") lines s
    → ReadsAsSets lines ts → ⊥
yes_or_w lines s ts a b = cc (sets_first lines ts (codes "YES") b (word_first (codes "YES") lines s a))

no_or_w : (lines : List (List (List ℕ))) (s : Option (List ℕ)) (ts : List (List ℕ))
    → ReadsAsWord (codes "NO") lines s
    → ReadsAsSets lines ts → ⊥
no_or_w lines s ts a b = cc (sets_first lines ts (codes "NO") b (word_first (codes "NO") lines s a))

pub ReadsAs-unique : (lines : List (List (List ℕ))) (a b : Answer) → ReadsAs lines a → ReadsAs lines b → a ≡ b
ReadsAs-unique lines (Yes s) (Yes t) a b = ap Yes (ReadsAsWord-unique (codes "YES") lines s t a b)
ReadsAs-unique lines (Yes s) (No t) a b = absurd (yes_or_no lines s t a b)
ReadsAs-unique lines (Yes s) (Sets ts) a b = absurd (yes_or_w lines s ts a b)
ReadsAs-unique lines (No s) (Yes t) a b = absurd (yes_or_no lines t s b a)
ReadsAs-unique lines (No s) (No t) a b = ap No (ReadsAsWord-unique (codes "NO") lines s t a b)
ReadsAs-unique lines (No s) (Sets ts) a b = absurd (no_or_w lines s ts a b)
ReadsAs-unique lines (Sets ss) (Yes t) a b = absurd (yes_or_w lines t ss b a)
ReadsAs-unique lines (Sets ss) (No t) a b = absurd (no_or_w lines t ss b a)
ReadsAs-unique lines (Sets ss) (Sets ts) a b = ap Sets (ReadsAsSets-unique lines ss ts a b)

-- ---- one fault

pub bad_or_falling : (fields : List (List ℕ)) → HasBadNumber fields → HasFallingNumbers fields → ⊥
bad_or_falling fields bad falling =
    bad.bad (get_or falling.numbers bad.index 0) (falling.arguments.each bad.index bad.within)

cause-unique : (fits : Bool) (fields : List (List ℕ)) (c d : AnswerCause) → LineStands fits fields c
    → LineStands fits fields d → c ≡ d
cause-unique fits fields Empty d a b = absurd a
cause-unique fits fields BadLine Empty a b = absurd b
cause-unique fits fields BadLine BadLine a b = refl
cause-unique fits fields BadLine BadNumber a b = absurd (cc (sym a ∙ b.0))
cause-unique fits fields BadLine NotRising a b = absurd (cc (sym a ∙ b.0))
cause-unique fits fields BadNumber Empty a b = absurd b
cause-unique fits fields BadNumber BadLine a b = absurd (cc (sym b ∙ a.0))
cause-unique fits fields BadNumber BadNumber a b = refl
cause-unique fits fields BadNumber NotRising a b = absurd (bad_or_falling (behind_first fields) a.1 b.1)
cause-unique fits fields NotRising Empty a b = absurd b
cause-unique fits fields NotRising BadLine a b = absurd (cc (sym b ∙ a.0))
cause-unique fits fields NotRising BadNumber a b = absurd (bad_or_falling (behind_first fields) b.1 a.1)
cause-unique fits fields NotRising NotRising a b = refl

first_index : (lines : List FilledLine) (m n : ℕ) (c d : AnswerCause) → (a : IsFirstAt lines m c)
    → (b : IsFirstAt lines n d)
    → a.index ≡ b.index
first_index lines m n c d a b = elim (cases_lt a.index b.index) [
  | inl below ↦ absurd (b.before a.index below c a.stands)
  | inr above ↦ elim (cases_lt b.index a.index) [
    | inl under ↦ absurd (a.before b.index under d b.stands)
    | inr over ↦ omega arith
  ]
]

first_number : (lines : List FilledLine) (m n : ℕ) (c d : AnswerCause) → IsFirstAt lines m c
    → IsFirstAt lines n d → m ≡ n
first_number [] m n c d a b = absurd (omega (arith, a.within))
first_number (l ∷ ls) m n c d a b =
    sym (a.numbered l) ∙ ap (λ k. (get_or (l ∷ ls) k l).number) (first_index (l ∷ ls) m n c d a b)
    ∙ b.numbered l

first_cause : (lines : List FilledLine) (m n : ℕ) (c d : AnswerCause) → IsFirstAt lines m c
    → IsFirstAt lines n d → c ≡ d
first_cause lines m n c d a b =
    let fs = map (λ l. l.fields) lines in
    cause-unique (is_open fs b.index) (get_or fs b.index []) c d
    (subst (λ k. Stands fs k c) (first_index lines m n c d a b) a.stands) b.stands

-- a fault with a line has a line
first_some : (lines : List FilledLine) (n : ℕ) (c : AnswerCause) → IsFirstAt lines n c → lines ≡ [] → ⊥
first_some lines n c a e = omega (arith, a.within, ap length e)

-- where a fault stands, the text reads as nothing
first_unread : (lines : List FilledLine) (n : ℕ) (c : AnswerCause) (answer : Answer) → IsFirstAt lines n c
    → ReadsAs (map (λ l. l.fields) lines) answer → ⊥
first_unread lines n c answer a read =
    let fs = map (λ l. l.fields) lines in
    fine_none fs a.index c
    (all_fine fs answer read a.index (omega (arith, a.within, length-map lines (λ l. l.fields)))) a.stands

-- no line reads as nothing
none_unread : (lines : List (List (List ℕ))) (answer : Answer) → ReadsAs lines answer → lines ≡ [] → ⊥
none_unread lines (Yes None) read e = cc (sym read ∙ e)
none_unread lines (Yes (Some s)) read e = cc (sym read.1 ∙ e)
none_unread lines (No None) read e = cc (sym read ∙ e)
none_unread lines (No (Some s)) read e = cc (sym read.1 ∙ e)
none_unread lines (Sets sets) read e = omega (arith, read.some, read.same_length, ap length e)

fault_unread : (bytes : List ℕ) (n : ℕ) (c : AnswerCause) (answer : Answer) → IsFaultOf bytes n c
    → ReadsAs (filled_fields bytes) answer → ⊥
fault_unread bytes n Empty answer a read = none_unread (filled_fields bytes) answer read
    (ap (map (λ l. l.fields)) a.0)
fault_unread bytes n BadLine answer a read = first_unread (filled_lines bytes) n BadLine answer a read
fault_unread bytes n BadNumber answer a read = first_unread (filled_lines bytes) n BadNumber answer a read
fault_unread bytes n NotRising answer a read = first_unread (filled_lines bytes) n NotRising answer a read

-- ---- what a reader answers

pub exact_read : (bytes : List ℕ) (r : Result Answer AnswerFault) → IfOk r (ReadsAs (filled_fields bytes))
    → IfErr r (IsToldOf bytes) → (answer : Answer) → ReadsAs (filled_fields bytes) answer
    → (r ≡ Ok answer) ⊎ (r ≡ Err Memory)
exact_read bytes (Ok a) ok err answer read = inl
    (ap Ok (ReadsAs-unique (filled_fields bytes) a answer ok read))
exact_read bytes (Err (At n c)) ok err answer read = absurd (fault_unread bytes n c answer err read)
exact_read bytes (Err Memory) ok err answer read = inr refl

same_told : (m n : ℕ) (c d : AnswerCause) → m ≡ n → c ≡ d → At m c ≡ At n d
same_told m n c d e f = cc

first_told : (lines : List FilledLine) (m n : ℕ) (c d : AnswerCause) → IsFirstAt lines m c
    → IsFirstAt lines n d
    → At m c ≡ At n d
first_told lines m n c d a b = same_told m n c d (first_number lines m n c d a b)
    (first_cause lines m n c d a b)

fault-unique : (bytes : List ℕ) (m n : ℕ) (c d : AnswerCause) → IsFaultOf bytes m c → IsFaultOf bytes n d
    → At m c ≡ At n d
fault-unique bytes m n Empty Empty a b = same_told m n Empty Empty (a.1 ∙ sym b.1) refl
fault-unique bytes m n Empty BadLine a b = absurd (first_some (filled_lines bytes) n BadLine b a.0)
fault-unique bytes m n Empty BadNumber a b = absurd (first_some (filled_lines bytes) n BadNumber b a.0)
fault-unique bytes m n Empty NotRising a b = absurd (first_some (filled_lines bytes) n NotRising b a.0)
fault-unique bytes m n BadLine Empty a b = absurd (first_some (filled_lines bytes) m BadLine a b.0)
fault-unique bytes m n BadLine BadLine a b = first_told (filled_lines bytes) m n BadLine BadLine a b
fault-unique bytes m n BadLine BadNumber a b = first_told (filled_lines bytes) m n BadLine BadNumber a b
fault-unique bytes m n BadLine NotRising a b = first_told (filled_lines bytes) m n BadLine NotRising a b
fault-unique bytes m n BadNumber Empty a b = absurd (first_some (filled_lines bytes) m BadNumber a b.0)
fault-unique bytes m n BadNumber BadLine a b = first_told (filled_lines bytes) m n BadNumber BadLine a b
fault-unique bytes m n BadNumber BadNumber a b = first_told (filled_lines bytes) m n BadNumber BadNumber a b
fault-unique bytes m n BadNumber NotRising a b = first_told (filled_lines bytes) m n BadNumber NotRising a b
fault-unique bytes m n NotRising Empty a b = absurd (first_some (filled_lines bytes) m NotRising a b.0)
fault-unique bytes m n NotRising BadLine a b = first_told (filled_lines bytes) m n NotRising BadLine a b
fault-unique bytes m n NotRising BadNumber a b = first_told (filled_lines bytes) m n NotRising BadNumber a b
fault-unique bytes m n NotRising NotRising a b = first_told (filled_lines bytes) m n NotRising NotRising a b

pub exact_told : (bytes : List ℕ) (r : Result Answer AnswerFault) → IfOk r (ReadsAs (filled_fields bytes))
    → IfErr r (IsToldOf bytes) → (n : ℕ) (c : AnswerCause) → IsFaultOf bytes n c
    → (r ≡ Err (At n c)) ⊎ (r ≡ Err Memory)
exact_told bytes (Ok a) ok err n c fault = absurd (fault_unread bytes n c a fault ok)
exact_told bytes (Err (At m d)) ok err n c fault = inl (ap Err (fault-unique bytes m n d c err fault))
exact_told bytes (Err Memory) ok err n c fault = inr refl
