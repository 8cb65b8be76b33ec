-- A line says one thing alone.
use Rattle.std.proofs.Common.{◌≡◌, ℕ, zero, suc, ◌<◌, List, [], ◌∷◌, ◌++◌, length, get_or, refl, sym, ap, subst, ◌∙◌, ⊎_elim, Bool, true, false, arith}
use Rattle.std.specs.Prelude.{Contains, count_by}
use Rattle.std.specs.List.{AllZip}
use Rattle.num_text.specs.Cuts.{LineText}
use Rattle.lists.proofs.Counts.{count_yes, count_no}
use Rattle.lists.proofs.Membership.{Contains-head, Contains-tail, Contains-cons_cases}
use Rattle.af_format.proofs.LineCauses.{IsNumber-same}
use Rattle.semantics.specs.AbaFrameworks.{IsAtom}
use Rattle.aba_format.specs.AbaText.{Said, says_assumption, says_contrary, says_rule, keyword, atoms_of, SpellsAtom, SaysLine, contraries_said, rules_said}
use Rattle.aba_format.specs.Faults.{behind_first, begin_with, is_contrary_line, is_rule_line, SaySome}
use Rattle.lists.proofs.Zips.{zip_same}

-- ---- words

second_of : List ℕ → ℕ
second_of xs = get_or xs 1 0

rest_of : List ℕ → List ℕ
rest_of [] = []
rest_of (x ∷ xs) = xs

-- two words of one byte each
words_apart : (m n : ℕ) → (m ≡ n → ⊥) → m ∷ [] ≡ n ∷ [] → ⊥
words_apart m n ne e = ne (ap (λ w. get_or w 0 0) e)

-- what is said is told by its word and its atoms
said_same : (s t : Said) → keyword s ≡ keyword t → atoms_of s ≡ atoms_of t → s ≡ t
unfolding second_of rest_of
said_same (says_assumption x) (says_assumption y) k a = ap says_assumption (ap (λ xs. get_or xs 0 0) a)
said_same (says_assumption x) (says_contrary y z) k a = absurd (words_apart 97 99 (λ e. omega arith) k)
said_same (says_assumption x) (says_rule h b) k a = absurd (words_apart 97 114 (λ e. omega arith) k)
said_same (says_contrary x y) (says_assumption z) k a = absurd (words_apart 99 97 (λ e. omega arith) k)
said_same (says_contrary x y) (says_contrary z w) k a =
    ap (λ n. says_contrary n y) (ap (λ xs. get_or xs 0 0) a) ∙ ap (λ n. says_contrary z n) (ap second_of a)
said_same (says_contrary x y) (says_rule h b) k a = absurd (words_apart 99 114 (λ e. omega arith) k)
said_same (says_rule h b) (says_assumption x) k a = absurd (words_apart 114 97 (λ e. omega arith) k)
said_same (says_rule h b) (says_contrary x y) k a = absurd (words_apart 114 99 (λ e. omega arith) k)
said_same (says_rule h b) (says_rule i c) k a =
    ap (λ n. says_rule n b) (ap (λ xs. get_or xs 0 0) a) ∙ ap (λ body. says_rule i body) (ap rest_of a)

SpellsAtom-same : (count : ℕ) (text : List ℕ) (m n : ℕ) → SpellsAtom count text m → SpellsAtom count text n → m ≡ n
SpellsAtom-same count text m n a b = IsNumber-same text m n a.number b.number

pub SaysLine-same : (count : ℕ) (line : List ℕ) (s t : Said) → SaysLine count line s → SaysLine count line t → s ≡ t
SaysLine-same count line s t a b =
    let fields : keyword s ∷ a.texts ≡ keyword t ∷ b.texts = sym a.fields ∙ b.fields in
    let texts : a.texts ≡ b.texts = ap behind_first fields in
    said_same s t (ap (λ fs. get_or fs 0 []) fields)
    (zip_same (SpellsAtom count) (λ text m n. SpellsAtom-same count text m n) b.texts (atoms_of s) (atoms_of t)
    (subst (λ ts. AllZip (SpellsAtom count) ts (atoms_of s)) texts a.atoms) b.atoms)

-- ---- atoms

spelled_atoms : (count : ℕ) (texts : List (List ℕ)) (atoms : List ℕ) → AllZip (SpellsAtom count) texts atoms → (x : ℕ)
    → Contains atoms x → IsAtom count x
spelled_atoms count texts [] zip x c = absurd (omega (arith, c.1))
spelled_atoms count [] (y ∷ ys) zip x c = absurd zip
spelled_atoms count (t ∷ ts) (y ∷ ys) zip x (zero, within, e) = subst (IsAtom count) e zip.0.atom
spelled_atoms count (t ∷ ts) (y ∷ ys) zip x (suc k, within, e) = spelled_atoms count ts ys zip.1 x (k, omega arith, e)

-- all atoms that a line names are from 1 to n
pub atoms_within : (count : ℕ) (line : List ℕ) (s : Said) → SaysLine count line s → (x : ℕ) → Contains (atoms_of s) x
    → IsAtom count x
atoms_within count line s says x c = spelled_atoms count says.texts (atoms_of s) says.atoms x c

-- ---- rule lines

abbrev pub is_rule : Said → Bool
is_rule (says_assumption x) = false
is_rule (says_contrary x y) = false
is_rule (says_rule head body) = true

pub rule_line : (count : ℕ) (line : LineText) (s : Said) → SaysLine count line.text s → is_rule_line line ≡ is_rule s
rule_line count line s says = ap (begin_with 114) says.fields ∙ by_word s says.texts
  where
    by_word : (s : Said) (texts : List (List ℕ)) → begin_with 114 (keyword s ∷ texts) ≡ is_rule s
    by_word (says_assumption x) texts = refl
    by_word (says_contrary x y) texts = refl
    by_word (says_rule head body) texts = refl

-- there are as many rule lines as rules
pub rule_lines_count : (count : ℕ) (lines : List LineText) (all : List Said)
    → AllZip (λ line s. SaysLine count line.text s) lines all → count_by is_rule_line lines ≡ length (rules_said all)
rule_lines_count count [] [] zip = refl
rule_lines_count count [] (s ∷ ss) zip = absurd zip
rule_lines_count count (l ∷ ls) [] zip = absurd zip
rule_lines_count count (l ∷ ls) (says_assumption x ∷ ss) zip =
    count_no is_rule_line l ls (rule_line count l (says_assumption x) zip.0) ∙ rule_lines_count count ls ss zip.1
rule_lines_count count (l ∷ ls) (says_contrary x y ∷ ss) zip =
    count_no is_rule_line l ls (rule_line count l (says_contrary x y) zip.0) ∙ rule_lines_count count ls ss zip.1
rule_lines_count count (l ∷ ls) (says_rule head body ∷ ss) zip =
    let more = count_yes is_rule_line l ls (rule_line count l (says_rule head body) zip.0) in
    let rest = rule_lines_count count ls ss zip.1 in
    more ∙ (omega arith)

pub rules_said-append : (all more : List Said) → rules_said (all ++ more) ≡ rules_said all ++ rules_said more
rules_said-append [] more = refl
rules_said-append (says_assumption x ∷ ss) more = rules_said-append ss more
rules_said-append (says_contrary x y ∷ ss) more = rules_said-append ss more
rules_said-append (says_rule head body ∷ ss) more = ap (λ rs. (head, body) ∷ rs) (rules_said-append ss more)

-- a rule that is said stands among them, and the other way round
pub rule_listed : (all : List Said) (head : ℕ) (body : List ℕ) → Contains all (says_rule head body)
    → Contains (rules_said all) (head, body)
rule_listed all head body c = at all c.0 c.1 c.2
  where
    at : (all : List Said) (k : ℕ) → k < length all → get_or all k (says_rule head body) ≡ says_rule head body
        → Contains (rules_said all) (head, body)
    at [] k within e = absurd (omega arith)
    at (s ∷ ss) zero within e =
        subst (λ t. Contains (rules_said (t ∷ ss)) (head, body)) (sym e) (0, omega arith, refl)
    at (says_assumption x ∷ ss) (suc k) within e = at ss k (omega arith) e
    at (says_contrary x y ∷ ss) (suc k) within e = at ss k (omega arith) e
    at (says_rule h b ∷ ss) (suc k) within e =
        Contains-tail (h, b) (rules_said ss) (head, body) (at ss k (omega arith) e)

pub listed_rule : (all : List Said) (r : ℕ × List ℕ) → Contains (rules_said all) r → Contains all (says_rule r.0 r.1)
listed_rule [] r c = absurd (omega (arith, c.1))
listed_rule (says_assumption x ∷ ss) r c =
    Contains-tail (says_assumption x) ss (says_rule r.0 r.1) (listed_rule ss r c)
listed_rule (says_contrary x y ∷ ss) r c =
    Contains-tail (says_contrary x y) ss (says_rule r.0 r.1) (listed_rule ss r c)
listed_rule (says_rule h b ∷ ss) r c = ⊎_elim
    (λ (e : (h, b) ≡ r). Contains-head (says_rule h b) ss (says_rule r.0 r.1) (ap (λ q. says_rule q.0 q.1) e))
    (λ (d : Contains (rules_said ss) r).
    Contains-tail (says_rule h b) ss (says_rule r.0 r.1) (listed_rule ss r d))
    (Contains-cons_cases (h, b) (rules_said ss) r c)

-- ---- contrary lines

abbrev pub is_contrary : Said → Bool
is_contrary (says_assumption x) = false
is_contrary (says_contrary x y) = true
is_contrary (says_rule head body) = false

pub contrary_line : (count : ℕ) (line : LineText) (s : Said) → SaysLine count line.text s
    → is_contrary_line line ≡ is_contrary s
contrary_line count line s says = ap (begin_with 99) says.fields ∙ by_word s says.texts
  where
    by_word : (s : Said) (texts : List (List ℕ)) → begin_with 99 (keyword s ∷ texts) ≡ is_contrary s
    by_word (says_assumption x) texts = refl
    by_word (says_contrary x y) texts = refl
    by_word (says_rule head body) texts = refl

-- there are as many contrary lines as contraries
pub contrary_lines_count : (count : ℕ) (lines : List LineText) (all : List Said)
    → AllZip (λ line s. SaysLine count line.text s) lines all
    → count_by is_contrary_line lines ≡ length (contraries_said all)
contrary_lines_count count [] [] zip = refl
contrary_lines_count count [] (s ∷ ss) zip = absurd zip
contrary_lines_count count (l ∷ ls) [] zip = absurd zip
contrary_lines_count count (l ∷ ls) (says_assumption x ∷ ss) zip =
    count_no is_contrary_line l ls (contrary_line count l (says_assumption x) zip.0)
    ∙ contrary_lines_count count ls ss zip.1
contrary_lines_count count (l ∷ ls) (says_contrary x y ∷ ss) zip =
    let more = count_yes is_contrary_line l ls (contrary_line count l (says_contrary x y) zip.0) in
    let rest = contrary_lines_count count ls ss zip.1 in
    more ∙ (omega arith)
contrary_lines_count count (l ∷ ls) (says_rule head body ∷ ss) zip =
    count_no is_contrary_line l ls (contrary_line count l (says_rule head body) zip.0)
    ∙ contrary_lines_count count ls ss zip.1

pub contraries_said-append : (all more : List Said)
    → contraries_said (all ++ more) ≡ contraries_said all ++ contraries_said more
contraries_said-append [] more = refl
contraries_said-append (says_assumption x ∷ ss) more = contraries_said-append ss more
contraries_said-append (says_contrary x y ∷ ss) more = ap (λ cs. (x, y) ∷ cs) (contraries_said-append ss more)
contraries_said-append (says_rule head body ∷ ss) more = contraries_said-append ss more

-- a contrary that is said stands among them, and the other way round
pub contrary_listed : (all : List Said) (x y : ℕ) → Contains all (says_contrary x y)
    → Contains (contraries_said all) (x, y)
contrary_listed all x y c = at all c.0 c.1 c.2
  where
    at : (all : List Said) (k : ℕ) → k < length all → get_or all k (says_contrary x y) ≡ says_contrary x y
        → Contains (contraries_said all) (x, y)
    at [] k within e = absurd (omega arith)
    at (s ∷ ss) zero within e =
        subst (λ t. Contains (contraries_said (t ∷ ss)) (x, y)) (sym e) (0, omega arith, refl)
    at (says_assumption z ∷ ss) (suc k) within e = at ss k (omega arith) e
    at (says_contrary z w ∷ ss) (suc k) within e =
        Contains-tail (z, w) (contraries_said ss) (x, y) (at ss k (omega arith) e)
    at (says_rule h b ∷ ss) (suc k) within e = at ss k (omega arith) e

pub listed_contrary : (all : List Said) (p : ℕ × ℕ) → Contains (contraries_said all) p
    → Contains all (says_contrary p.0 p.1)
listed_contrary [] p c = absurd (omega (arith, c.1))
listed_contrary (says_assumption x ∷ ss) p c =
    Contains-tail (says_assumption x) ss (says_contrary p.0 p.1) (listed_contrary ss p c)
listed_contrary (says_contrary x y ∷ ss) p c = ⊎_elim
    (λ (e : (x, y) ≡ p). Contains-head (says_contrary x y) ss (says_contrary p.0 p.1)
    (ap (λ q. says_contrary q.0 q.1) e))
    (λ (d : Contains (contraries_said ss) p).
    Contains-tail (says_contrary x y) ss (says_contrary p.0 p.1) (listed_contrary ss p d))
    (Contains-cons_cases (x, y) (contraries_said ss) p c)
listed_contrary (says_rule h b ∷ ss) p c =
    Contains-tail (says_rule h b) ss (says_contrary p.0 p.1) (listed_contrary ss p c)

-- ---- lines and what they say

-- what one of the lines says is said, and the other way round
pub says_said : (count : ℕ) (lines : List LineText) (all : List Said)
    → AllZip (λ line s. SaysLine count line.text s) lines all → (line : LineText) (s : Said) → Contains lines line
    → SaysLine count line.text s → Contains all s
says_said count [] [] zip line s c says = absurd (omega (arith, c.1))
says_said count [] (t ∷ ss) zip line s c says = absurd zip
says_said count (l ∷ ls) [] zip line s c says = absurd zip
says_said count (l ∷ ls) (t ∷ ss) zip line s (zero, within, e) says =
    (0, omega arith, SaysLine-same count line.text t s (subst (λ m. SaysLine count m.text t) e zip.0) says)
says_said count (l ∷ ls) (t ∷ ss) zip line s (suc k, within, e) says =
    let there = says_said count ls ss zip.1 line s (k, omega arith, e) says in
    (suc there.0, omega (arith, there.1), there.2)

-- what is said is said by one of the lines
pub said_by_line : (count : ℕ) (lines : List LineText) (all : List Said)
    → AllZip (λ line s. SaysLine count line.text s) lines all → (s : Said) → Contains all s → SaySome count lines s
said_by_line count [] [] zip s c = absurd (omega (arith, c.1))
said_by_line count [] (t ∷ ss) zip s c = absurd zip
said_by_line count (l ∷ ls) [] zip s c = absurd zip
said_by_line count (l ∷ ls) (t ∷ ss) zip s (zero, within, e) =
    (l, Contains-head l ls l refl, subst (λ u. SaysLine count l.text u) e zip.0)
said_by_line count (l ∷ ls) (t ∷ ss) zip s (suc k, within, e) =
    let there = said_by_line count ls ss zip.1 s (k, omega arith, e) in
    (there.0, Contains-tail l ls there.0 there.1, there.2)
