-- A text that was written reads as the framework that it was written of.
use Rattle.std.proofs.Common.{◌≡◌, ℕ, zero, suc, ◌+◌, ◌<◌, ◌≤◌, ◌==◌, false, not, List, [], ◌∷◌, ◌++◌, length, take, get_or, map, filter, refl, sym, ap, subst, ◌∙◌, ◌⊎◌, inl, inr, ⊎_elim, arith}
use Rattle.std.specs.Prelude.{Contains, codes, All}
use Rattle.std.specs.List.{AllZip, flat_map}
use Rattle.std.specs.Fmt.{decimal}
use Rattle.std.proofs.lemmas.Bool.{cond-true}
use Rattle.std.proofs.lemmas.Grind.{flat_map-append}
use Rattle.std.proofs.lemmas.List.{length-map, append_assoc, append-nil, flat_map_more, take_more}
use Rattle.std.proofs.lemmas.List.Elements.{All-nil, All-cons, All-head, All-tail, All-append, Contains-append_left, Contains-append_right, Contains-append_cases, Contains-get_or}
use Rattle.std.proofs.lemmas.List.Splits.{slice_split_none, slice_split_at}
use Rattle.num_text.specs.Cuts.{LineText, is_line_end, is_blank, field_texts, lines_from, lines_of}
use Rattle.num_text.specs.Number.{IsNumber, IsDigit}
use Rattle.num_text.specs.Lines.{are_skipped, kept}
use Rattle.num_text.proofs.Decimals.{decimal_number}
use Rattle.num_text.proofs.DigitFields.{no_blanks, not_empty, no_ends}
use Rattle.num_text.proofs.CutLemmas.{lines_from-nil}
use Rattle.num_text.proofs.KeptLines.{kept-nil, kept-keeps}
use Rattle.lists.proofs.Membership.{Contains-head, Contains-tail, Contains-cons_cases}
use Rattle.af_format.proofs.RoundTrip.{line_at, first_line_is}
use Rattle.semantics.specs.Rules.{Rule}
use Rattle.semantics.specs.AbaFrameworks.{Aba, IsAtom, IsNumberedAba}
use Rattle.aba_notions.specs.Solid.{IsSolid}
use Rattle.aba_format.specs.AbaText.{Said, says_assumption, says_contrary, says_rule, keyword, atoms_of, SpellsAtom, SaysLine, contraries_said, rules_said, AreConsistent, IsRuleSaid, IsFrameworkOf, ReadsAs}
use Rattle.aba_format.specs.Written.{header_line, spaced, said_line, assumption_line, contrary_line, rule_line, aba_text}
use Rattle.aba_format.specs.declared.said.TheConstants.{MAX_CONTRARY_LINES}
use Rattle.aba_format.proofs.SaysLemmas.{contraries_said-append, rules_said-append}
use Rattle.aba_format.proofs.TakenLemmas.{kind, first_atom, second_atom}
use Rattle.lists.proofs.Images.{image_there, image_from}

-- ---- one line

-- the fields of a word and numbers behind it
spaced_fields : (w : List ℕ) → 0 < length w → All (λ byte. is_blank byte ≡ false) w → (xs : List ℕ)
    → ((x : ℕ) → Contains xs x → IsNumber (decimal x) x) → field_texts (w ++ spaced xs) ≡ w ∷ map decimal xs
unfolding field_texts
spaced_fields w some free [] numbers =
    ap field_texts (append-nil w)
    ∙ ap (filter (λ piece. not (length piece == 0))) (slice_split_none is_blank w free)
    ∙ cond-true _ _ _ (not_empty w some)
spaced_fields w some free (x ∷ xs) numbers =
    let n = numbers x (Contains-head x xs x refl) in
    ap (filter (λ piece. not (length piece == 0))) (slice_split_at is_blank w 32 (decimal x ++ spaced xs) free refl)
    ∙ cond-true _ _ _ (not_empty w some)
    ∙ ap (λ more. w ∷ more) (spaced_fields (decimal x) n.not_empty (no_blanks (decimal x) n.digits) xs
    (λ y c. numbers y (Contains-tail x xs y c)))

-- a line has no LF within
spaced_free : (w : List ℕ) → All (λ byte. is_line_end byte ≡ false) w → (xs : List ℕ)
    → ((x : ℕ) → Contains xs x → IsNumber (decimal x) x) → All (λ byte. is_line_end byte ≡ false) (w ++ spaced xs)
spaced_free w free [] numbers = subst (All (λ byte. is_line_end byte ≡ false)) (sym (append-nil w)) free
spaced_free w free (x ∷ xs) numbers =
    let n = numbers x (Contains-head x xs x refl) in
    All-append (λ byte. is_line_end byte ≡ false) w (32 ∷ (decimal x ++ spaced xs)) free
    (All-cons (λ byte. is_line_end byte ≡ false) 32 (decimal x ++ spaced xs) refl
    (spaced_free (decimal x) (no_ends (decimal x) n.digits) xs (λ y c. numbers y (Contains-tail x xs y c))))

spelled_decimals : (count : ℕ) (xs : List ℕ) → ((x : ℕ) → Contains xs x → IsAtom count x)
    → ((x : ℕ) → Contains xs x → IsNumber (decimal x) x) → AllZip (SpellsAtom count) (map decimal xs) xs
spelled_decimals count [] atoms numbers = tt
spelled_decimals count (x ∷ xs) atoms numbers = (
  record { number = numbers x (Contains-head x xs x refl); atom = atoms x (Contains-head x xs x refl) },
  spelled_decimals count xs (λ y c. atoms y (Contains-tail x xs y c)) (λ y c. numbers y (Contains-tail x xs y c)),
)

one_byte : (P : ℕ → Type 0) (n : ℕ) → P n → All P (n ∷ [])
one_byte P n p = All-cons P n [] p (All-nil P)

word_length : (s : Said) → 0 < length (keyword s)
word_length (says_assumption x) = omega arith
word_length (says_contrary x y) = omega arith
word_length (says_rule head body) = omega arith

word_unblank : (s : Said) → All (λ byte. is_blank byte ≡ false) (keyword s)
word_unblank (says_assumption x) = one_byte (λ byte. is_blank byte ≡ false) 97 refl
word_unblank (says_contrary x y) = one_byte (λ byte. is_blank byte ≡ false) 99 refl
word_unblank (says_rule head body) = one_byte (λ byte. is_blank byte ≡ false) 114 refl

word_endless : (s : Said) → All (λ byte. is_line_end byte ≡ false) (keyword s)
word_endless (says_assumption x) = one_byte (λ byte. is_line_end byte ≡ false) 97 refl
word_endless (says_contrary x y) = one_byte (λ byte. is_line_end byte ≡ false) 99 refl
word_endless (says_rule head body) = one_byte (λ byte. is_line_end byte ≡ false) 114 refl

word_kept : (s : Said) (more : List (List ℕ)) → are_skipped (keyword s ∷ more) ≡ false
word_kept (says_assumption x) more = refl
word_kept (says_contrary x y) more = refl
word_kept (says_rule head body) more = refl

-- ---- all lines

-- all atoms are from 1 to n
AreAtoms : ℕ → Said → Type 0
AreAtoms count s = (x : ℕ) → Contains (atoms_of s) x → IsAtom count x

said_lines : (count number start : ℕ) (all : List Said) → count ≤ 1000000 → All (AreAtoms count) all
    → AllZip (λ (line : LineText) s. SaysLine count line.text s) (kept (lines_from number start (flat_map said_line all)))
    all
unfolding line_at AreAtoms
said_lines count number start [] small atoms =
    let R : LineText → Said → Type 0 = λ line s. SaysLine count line.text s in
    subst (λ ls. AllZip R (kept ls) []) (sym (lines_from-nil number start))
    (subst (λ ls. AllZip R ls []) (sym kept-nil) tt)
said_lines count number start (s ∷ ss) small atoms =
    let R : LineText → Said → Type 0 = λ line s. SaysLine count line.text s in
    let here : (x : ℕ) → Contains (atoms_of s) x → IsAtom count x = All-head (AreAtoms count) s ss atoms in
    let numbers : (x : ℕ) → Contains (atoms_of s) x → IsNumber (decimal x) x = λ x c.
    (let high = (here x c).high in decimal_number x (omega arith)) in
    let piece : List ℕ = keyword s ++ spaced (atoms_of s) in
    let fields : field_texts (keyword s ++ spaced (atoms_of s)) ≡ keyword s ∷ map decimal (atoms_of s)
    = spaced_fields (keyword s) (word_length s) (word_unblank s) (atoms_of s) numbers in
    let free = spaced_free (keyword s) (word_endless s) (atoms_of s) numbers in
    let says : are_skipped (field_texts (keyword s ++ spaced (atoms_of s))) ≡ false
    = ap are_skipped fields ∙ word_kept s (map decimal (atoms_of s)) in
    let after = lines_from (number + 1) (start + (length piece + 1)) (flat_map said_line ss) in
    let cut : said_line s ≡ (keyword s ++ spaced (atoms_of s)) ++ 10 ∷ []
    = sym (append_assoc (keyword s) (spaced (atoms_of s)) (10 ∷ [])) in
    let first = ap (λ line. kept (lines_from number start (line ++ flat_map said_line ss))) cut
    ∙ ap kept (first_line_is number start (keyword s ++ spaced (atoms_of s)) (flat_map said_line ss) free)
    ∙ kept-keeps (line_at number start piece) after says in
    let is : SaysLine count (keyword s ++ spaced (atoms_of s)) s = record {
      texts = map decimal (atoms_of s);
      fields = fields;
      atoms = spelled_decimals count (atoms_of s) here numbers;
    } in
    let rest = said_lines count (number + 1) (start + (length piece + 1)) ss small (All-tail (AreAtoms count) s ss atoms) in
    subst (λ ls. AllZip R ls (s ∷ ss)) (sym first) (is, rest)

-- ---- what the text of a framework says

abbrev pub contrary_said : ℕ × ℕ → Said
contrary_said p = says_contrary p.0 p.1

abbrev pub rule_said : Rule → Said
rule_said r = says_rule r.head r.body

abbrev pub said_of : Aba → List Said
said_of f = map says_assumption f.assumptions ++ (map contrary_said f.contraries ++ map rule_said f.rules)

assumptions_text : (xs : List ℕ) → flat_map assumption_line xs ≡ flat_map said_line (map says_assumption xs)
assumptions_text [] = refl
assumptions_text (x ∷ xs) = ap (λ rest. assumption_line x ++ rest) (assumptions_text xs)

contraries_text : (ps : List (ℕ × ℕ)) → flat_map contrary_line ps ≡ flat_map said_line (map contrary_said ps)
contraries_text [] = refl
contraries_text (p ∷ ps) = ap (λ rest. contrary_line p ++ rest) (contraries_text ps)

rules_text : (rs : List Rule) → flat_map rule_line rs ≡ flat_map said_line (map rule_said rs)
rules_text [] = refl
rules_text (r ∷ rs) = ap (λ rest. rule_line r ++ rest) (rules_text rs)

aba_text-said : (f : Aba) → aba_text f ≡ header_line f.atoms ++ flat_map said_line (said_of f)
aba_text-said f = ap (λ rest. header_line f.atoms ++ rest)
    (ap (λ t. t ++ (flat_map contrary_line f.contraries ++ flat_map rule_line f.rules)) (assumptions_text f.assumptions)
    ∙ ap (λ t. flat_map said_line (map says_assumption f.assumptions) ++ (t ++ flat_map rule_line f.rules))
    (contraries_text f.contraries)
    ∙ ap (λ t. flat_map said_line (map says_assumption f.assumptions)
    ++ (flat_map said_line (map contrary_said f.contraries) ++ t)) (rules_text f.rules)
    ∙ ap (λ t. flat_map said_line (map says_assumption f.assumptions) ++ t)
    (sym (flat_map-append said_line (map contrary_said f.contraries) (map rule_said f.rules)))
    ∙ sym (flat_map-append said_line (map says_assumption f.assumptions)
    (map contrary_said f.contraries ++ map rule_said f.rules)))

-- ---- the members of what is said

-- what is said is an assumption, a contrary or a rule of the framework
data IsOf (f : Aba) (s : Said) : Type 0 where
  of_assumption : (x : ℕ) → Contains f.assumptions x → says_assumption x ≡ s → IsOf f s
  of_contrary : (p : ℕ × ℕ) → Contains f.contraries p → contrary_said p ≡ s → IsOf f s
  of_rule : (r : Rule) → Contains f.rules r → rule_said r ≡ s → IsOf f s

said_from : (f : Aba) (s : Said) → Contains (said_of f) s → IsOf f s
said_from f s c = ⊎_elim
    (λ a. let from = image_from says_assumption f.assumptions s a in of_assumption from.0 from.1 from.2)
    (λ d. ⊎_elim
    (λ b. let from = image_from contrary_said f.contraries s b in of_contrary from.0 from.1 from.2)
    (λ r. let from = image_from rule_said f.rules s r in of_rule from.0 from.1 from.2)
    (Contains-append_cases (map contrary_said f.contraries) (map rule_said f.rules) s d))
    (Contains-append_cases (map says_assumption f.assumptions)
    (map contrary_said f.contraries ++ map rule_said f.rules) s c)

assumption_said : (f : Aba) (x : ℕ) → Contains f.assumptions x → Contains (said_of f) (says_assumption x)
assumption_said f x c = Contains-append_left (map says_assumption f.assumptions)
    (map contrary_said f.contraries ++ map rule_said f.rules) (says_assumption x)
    (image_there says_assumption f.assumptions x c)

pair_said : (f : Aba) (p : ℕ × ℕ) → Contains f.contraries p → Contains (said_of f) (contrary_said p)
pair_said f p c = Contains-append_right (map says_assumption f.assumptions)
    (map contrary_said f.contraries ++ map rule_said f.rules) (contrary_said p)
    (Contains-append_left (map contrary_said f.contraries) (map rule_said f.rules) (contrary_said p)
    (image_there contrary_said f.contraries p c))

kinds_apart : (s t u : Said) → s ≡ u → t ≡ u → (kind s ≡ kind t → ⊥) → ⊥
kinds_apart s t u e f ne = ne (ap kind (e ∙ sym f))

assumption_from : (f : Aba) (x : ℕ) → Contains (said_of f) (says_assumption x) → Contains f.assumptions x
assumption_from f x c = from_it (said_from f (says_assumption x) c)
  where
    from_it : IsOf f (says_assumption x) → Contains f.assumptions x
    from_it (of_assumption y d e) = subst (Contains f.assumptions) (ap first_atom e) d
    from_it (of_contrary p d e) = absurd (kinds_apart (contrary_said p) (says_assumption x) (says_assumption x)
        e refl (λ z. omega arith))
    from_it (of_rule r d e) = absurd (kinds_apart (rule_said r) (says_assumption x) (says_assumption x) e refl
        (λ z. omega arith))

contrary_from : (f : Aba) (a c : ℕ) → Contains (said_of f) (says_contrary a c) → Contains f.contraries (a, c)
contrary_from f a c there = from_it (said_from f (says_contrary a c) there)
  where
    from_it : IsOf f (says_contrary a c) → Contains f.contraries (a, c)
    from_it (of_assumption y d e) = absurd (kinds_apart (says_assumption y) (says_contrary a c) (says_contrary a c) e refl
        (λ z. omega arith))
    from_it (of_contrary p d e) =
        let first : p.0 ≡ a = ap first_atom e in
        let second : p.1 ≡ c = ap second_atom e in
        subst (Contains f.contraries) (ap (λ n. (n, p.1)) first ∙ ap (λ n. (a, n)) second) d
    from_it (of_rule r d e) = absurd (kinds_apart (rule_said r) (says_contrary a c) (says_contrary a c) e refl
        (λ z. omega arith))

rule_from : (f : Aba) (h : ℕ) (body : List ℕ) → Contains (said_of f) (says_rule h body)
    → (r : Rule) × Contains f.rules r × (r.head ≡ h)
rule_from f h body there = from_it (said_from f (says_rule h body) there)
  where
    from_it : IsOf f (says_rule h body) → (r : Rule) × Contains f.rules r × (r.head ≡ h)
    from_it (of_assumption y d e) = absurd (kinds_apart (says_assumption y) (says_rule h body) (says_rule h body) e refl
        (λ z. omega arith))
    from_it (of_contrary p d e) = absurd (kinds_apart (contrary_said p) (says_rule h body) (says_rule h body)
        e refl (λ z. omega arith))
    from_it (of_rule r d e) = (r, d, ap first_atom e)

-- ---- the framework is the one that is said

no_rules : (xs : List ℕ) → rules_said (map says_assumption xs) ≡ []
no_rules [] = refl
no_rules (x ∷ xs) = no_rules xs

no_rules_either : (ps : List (ℕ × ℕ)) → rules_said (map contrary_said ps) ≡ []
no_rules_either [] = refl
no_rules_either (p ∷ ps) = no_rules_either ps

rules_of_rules : (rs : List Rule) → rules_said (map rule_said rs) ≡ map (λ (r : Rule). (r.head, r.body)) rs
rules_of_rules [] = refl
rules_of_rules (r ∷ rs) = ap (λ more. (r.head, r.body) ∷ more) (rules_of_rules rs)

rules_in_said : (f : Aba) → rules_said (said_of f) ≡ map (λ (r : Rule). (r.head, r.body)) f.rules
rules_in_said f =
    rules_said-append (map says_assumption f.assumptions) (map contrary_said f.contraries ++ map rule_said f.rules)
    ∙ ap (λ rs. rs ++ rules_said (map contrary_said f.contraries ++ map rule_said f.rules)) (no_rules f.assumptions)
    ∙ rules_said-append (map contrary_said f.contraries) (map rule_said f.rules)
    ∙ ap (λ rs. rs ++ rules_said (map rule_said f.rules)) (no_rules_either f.contraries)
    ∙ rules_of_rules f.rules

no_contraries : (xs : List ℕ) → contraries_said (map says_assumption xs) ≡ []
no_contraries [] = refl
no_contraries (x ∷ xs) = no_contraries xs

contraries_of_contraries : (ps : List (ℕ × ℕ)) → contraries_said (map contrary_said ps) ≡ ps
contraries_of_contraries [] = refl
contraries_of_contraries (p ∷ ps) = ap (λ more. p ∷ more) (contraries_of_contraries ps)

no_contraries_either : (rs : List Rule) → contraries_said (map rule_said rs) ≡ []
no_contraries_either [] = refl
no_contraries_either (r ∷ rs) = no_contraries_either rs

contraries_in_said : (f : Aba) → contraries_said (said_of f) ≡ f.contraries
contraries_in_said f =
    contraries_said-append (map says_assumption f.assumptions) (map contrary_said f.contraries ++ map rule_said f.rules)
    ∙ ap (λ ps. ps ++ contraries_said (map contrary_said f.contraries ++ map rule_said f.rules))
    (no_contraries f.assumptions)
    ∙ contraries_said-append (map contrary_said f.contraries) (map rule_said f.rules)
    ∙ ap (λ ps. ps ++ contraries_said (map rule_said f.rules)) (contraries_of_contraries f.contraries)
    ∙ ap (λ ps. f.contraries ++ ps) (no_contraries_either f.rules)
    ∙ append-nil f.contraries

rules_zipped : (rs : List Rule) → AllZip IsRuleSaid (map (λ (r : Rule). (r.head, r.body)) rs) rs
rules_zipped [] = tt
rules_zipped (r ∷ rs) = (record { head_is = refl; body_is = λ y. (λ c. c, λ c. c) }, rules_zipped rs)

consistent_of : (f : Aba) → IsNumberedAba f → IsSolid f → length f.contraries ≤ MAX_CONTRARY_LINES
    → AreConsistent (said_of f)
consistent_of f h solid room =
    let few = h.rules in
    let next = solid.next_is in
    let long : length (rules_said (said_of f)) ≡ length f.rules
    = ap length (rules_in_said f) ∙ length-map f.rules (λ (r : Rule). (r.head, r.body)) in
    record {
      few = omega arith;
      few_contraries = subst (λ ps. length ps ≤ MAX_CONTRARY_LINES) (sym (contraries_in_said f)) room;
      flat = λ x body c d.
          let rule = rule_from f x body d in
          (h.form.rules_are rule.0 rule.1).flat
          (subst (Contains f.assumptions) (sym rule.2) (assumption_from f x c));
    }

framework_of_said : (f : Aba) → IsNumberedAba f → IsSolid f → IsFrameworkOf f.atoms (said_of f) f
framework_of_said f h solid = record {
  atoms_are = refl;
  assumptions_are = λ x. (λ c. assumption_said f x c, λ c. assumption_from f x c);
  contraries_are = λ a c. (λ there. pair_said f (a, c) there, λ said. contrary_from f a c said);
  rules_are = subst (λ rs. AllZip IsRuleSaid rs f.rules) (sym (rules_in_said f)) (rules_zipped f.rules);
  solid = solid;
  form = h;
}

-- ---- the whole text

pair_member : (x y z : ℕ) → Contains (x ∷ y ∷ []) z → (x ≡ z) ⊎ (y ≡ z)
pair_member x y z (zero, within, e) = inl e
pair_member x y z (suc zero, within, e) = inr e
pair_member x y z (suc (suc k), within, e) = absurd (omega arith)

atoms_said : (f : Aba) → IsNumberedAba f → (s : Said) → Contains (said_of f) s → (x : ℕ) → Contains (atoms_of s) x
    → IsAtom f.atoms x
atoms_said f h s there x c = from_it (said_from f s there)
  where
    from_it : IsOf f s → IsAtom f.atoms x
    from_it (of_assumption y d e) =
        let is = subst (λ t. Contains (atoms_of t) x) (sym e) c in
        ⊎_elim (λ (same : y ≡ x). subst (IsAtom f.atoms) same (h.form.assumptions_are y d))
        (λ none. absurd (omega (arith, none.1))) (Contains-cons_cases y [] x is)
    from_it (of_contrary p d e) =
        let is = subst (λ t. Contains (atoms_of t) x) (sym e) c in
        let pair = h.form.contraries_are p.0 p.1 d in
        ⊎_elim (λ (same : p.0 ≡ x). subst (IsAtom f.atoms) same (h.form.assumptions_are p.0 pair.0))
        (λ (same : p.1 ≡ x). subst (IsAtom f.atoms) same pair.1) (pair_member p.0 p.1 x is)
    from_it (of_rule r d e) =
        let is = subst (λ t. Contains (atoms_of t) x) (sym e) c in
        let rule = h.form.rules_are r d in
        ⊎_elim (λ (same : r.head ≡ x). subst (IsAtom f.atoms) same rule.head) (λ body. rule.body x body)
        (Contains-cons_cases r.head r.body x is)

header_texts : (d : List ℕ) → All IsDigit d → 0 < length d
    → field_texts (codes "p aba " ++ d) ≡ codes "p" ∷ codes "aba" ∷ d ∷ []
unfolding field_texts
header_texts d digits some =
    let P : ℕ → Type 0 = λ byte. is_blank byte ≡ false in
    let aba_free : All (λ byte. is_blank byte ≡ false) (codes "aba")
    = All-cons P 97 (98 ∷ 97 ∷ []) refl (All-cons P 98 (97 ∷ []) refl (one_byte P 97 refl)) in
    ap (λ pieces. filter (λ piece. not (length piece == 0)) pieces)
    (slice_split_at is_blank (codes "p") 32 (codes "aba" ++ 32 ∷ d) (one_byte P 112 refl) refl
    ∙ ap (λ left. codes "p" ∷ left) (slice_split_at is_blank (codes "aba") 32 d aba_free refl)
    ∙ ap (λ left. codes "p" ∷ codes "aba" ∷ left) (slice_split_none is_blank d (no_blanks d digits)))
    ∙ ap (λ left. codes "p" ∷ codes "aba" ∷ left) (cond-true _ _ _ (not_empty d some))

header_free : All (λ byte. is_line_end byte ≡ false) (codes "p aba ")
header_free =
    let P : ℕ → Type 0 = λ byte. is_line_end byte ≡ false in
    All-cons P 112 (32 ∷ 97 ∷ 98 ∷ 97 ∷ 32 ∷ []) refl
    (All-cons P 32 (97 ∷ 98 ∷ 97 ∷ 32 ∷ []) refl
    (All-cons P 97 (98 ∷ 97 ∷ 32 ∷ []) refl
    (All-cons P 98 (97 ∷ 32 ∷ []) refl
    (All-cons P 97 (32 ∷ []) refl
    (one_byte P 32 refl)))))

pub reads_back : (f : Aba) → IsNumberedAba f → IsSolid f → length f.contraries ≤ MAX_CONTRARY_LINES
    → ReadsAs (aba_text f) f
unfolding lines_of line_at AreAtoms
reads_back f h solid room =
    let small = h.atoms in
    let n = decimal_number f.atoms (omega arith) in
    let fields : field_texts (codes "p aba " ++ decimal f.atoms) ≡ codes "p" ∷ codes "aba" ∷ decimal f.atoms ∷ []
    = header_texts (decimal f.atoms) n.digits n.not_empty in
    let free : All (λ byte. is_line_end byte ≡ false) (codes "p aba " ++ decimal f.atoms)
    = All-append (λ byte. is_line_end byte ≡ false) (codes "p aba ") (decimal f.atoms) header_free
    (no_ends (decimal f.atoms) n.digits) in
    let start : ℕ = 0 + (length (codes "p aba " ++ decimal f.atoms) + 1) in
    let after = lines_from (1 + 1) start (flat_map said_line (said_of f)) in
    let piece : header_line f.atoms ≡ (codes "p aba " ++ decimal f.atoms) ++ 10 ∷ []
    = sym (append_assoc (codes "p aba ") (decimal f.atoms) (10 ∷ [])) in
    let atoms : All (AreAtoms f.atoms) (said_of f)
    = λ k d within x c. atoms_said f h (get_or (said_of f) k d) (Contains-get_or (said_of f) k d within) x c in
    record {
      count = f.atoms;
      all = said_of f;
      text = record {
        header = line_at 1 0 (codes "p aba " ++ decimal f.atoms);
        others = kept after;
        lines = ap (λ text. kept (lines_from 1 0 text)) (aba_text-said f)
            ∙ ap (λ line. kept (lines_from 1 0 (line ++ flat_map said_line (said_of f)))) piece
            ∙ ap kept (first_line_is 1 0 (codes "p aba " ++ decimal f.atoms) (flat_map said_line (said_of f)) free)
            ∙ kept-keeps (line_at 1 0 (codes "p aba " ++ decimal f.atoms)) after (ap are_skipped fields);
        header_is = record { number = decimal f.atoms; fields = fields; number_is = n; few = small };
        others_are = record {
          each = said_lines f.atoms (1 + 1) start (said_of f) small atoms;
          consistent = consistent_of f h solid room;
        };
        of_assumptions = λ x y c. assumption_said f x (h.form.contraries_are x y (contrary_from f x y c)).0;
      };
      framework = framework_of_said f h solid;
    }

-- ---- writing

-- a text with one line more
pub text_more : {X : Type 0} (line : X → List ℕ) (base old now : List ℕ) (xs : List X) (i : ℕ) (d : X)
    → old ≡ base ++ flat_map line (take i xs) → now ≡ old ++ line (get_or xs i d) → i < length xs
    → now ≡ base ++ flat_map line (take (i + 1) xs)
text_more line base old now xs i d before more within =
    more ∙ ap (λ text. text ++ line (get_or xs i d)) before
    ∙ flat_map_more line base (take i xs) (get_or xs i d)
    ∙ ap (λ ys. base ++ flat_map line ys) (sym (take_more xs i d within))
