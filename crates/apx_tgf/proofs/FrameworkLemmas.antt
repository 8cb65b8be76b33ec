-- The framework that is told, by the numbers of names.
use Rattle.std.proofs.Common.{◌≡◌, ℕ, zero, suc, ◌+◌, ◌<◌, ◌≤◌, Bool, true, false, List, [], ◌∷◌, ◌++◌, length, get_or, refl, sym, ap, subst, ◌∙◌, inl, inr, ◌⊎◌, arith}
use Rattle.std.specs.Prelude.{Contains, ◌↔◌, fold, if◌then◌else◌, nat_eq}
use Rattle.std.specs.List.{AllZip, range_with_len, list_any}
use Rattle.std.specs.Cmp.Lexicographic.{pointwise, bytes_decides}
use Rattle.std.proofs.lemmas.Bool.{cond-true, cond-false, true≢false, cases_order}
use Rattle.std.proofs.lemmas.Option.{slice_get_within, get_or_from_slice_get}
use Rattle.std.proofs.lemmas.List.{length-append}
use Rattle.lists.proofs.ListTests.{any_from}
use Rattle.lists.proofs.Ranges.{number_there}
use Rattle.num_text.specs.Cuts.{lines_of}
use Rattle.semantics.specs.Framework.{Af}
use Rattle.semantics.specs.declared.argument.TheConstants.{MAX_ARGUMENT}
use Rattle.af_format.specs.AfText.{IsFrameworkOf}
use Rattle.af_format.specs.declared.af_line.TheConstants.{MAX_ATTACK_LINES}
use Rattle.apx_tgf.specs.declared.format.NameFormat.{NameFormat}
use Rattle.apx_tgf.specs.Names.{AreDistinct, has_name, with_name, IsNumberOf}
use Rattle.apx_tgf.specs.Told.{Told, ToldAttack, Statement, nothing_told, told_after, told_after_line, told_by}
use Rattle.apx_tgf.specs.Told.Statement.{declares, tells}
use Rattle.apx_tgf.specs.NamedText.{IsTold, IsNamedFramework, ReadsAs}
use Rattle.apx_tgf.specs.Numbered.{AreNumbersOf, IsUnknownFault}
use Rattle.apx_tgf.specs.declared.fault.ReadFault.{ReadFault}
use Rattle.apx_tgf.specs.declared.fault.ReadFault.TheVariants.{Line, Memory}
use Rattle.apx_tgf.specs.Faults.{IfLine, IsFirstFault, IsFirstUnknown}
use Rattle.apx_tgf.specs.Reading.{TellsAll}
use Rattle.apx_tgf.proofs.NumberLemmas.{all_known}

-- ---- no name has two numbers

-- what stands in a list with one more item at the end
pushed_cases : (xs : List (List ℕ)) (x d : List ℕ) (i : ℕ) → i < length (xs ++ x ∷ [])
    → ((i < length xs) × ((e : List ℕ) → get_or (xs ++ x ∷ []) i d ≡ get_or xs i e))
    ⊎ ((i ≡ length xs) × (get_or (xs ++ x ∷ []) i d ≡ x))
pushed_cases [] x d zero within = inr (refl, refl)
pushed_cases [] x d (suc i) within = absurd (omega arith)
pushed_cases (y ∷ ys) x d zero within = inl (omega arith, λ e. refl)
pushed_cases (y ∷ ys) x d (suc i) within = elim (pushed_cases ys x d i (omega arith)) [
  | inl h ↦ let lt = h.0 in inl (omega arith, h.1)
  | inr h ↦ let at = h.0 in inr (omega arith, h.1)
]

distinct_pushed : (names : List (List ℕ)) (name : List ℕ) → AreDistinct names → (Contains names name → ⊥)
    → AreDistinct (names ++ name ∷ [])
distinct_pushed names name h new = record {
  once = λ i j d e less within same.
      let long = length-append names (name ∷ []) in
      elim (pushed_cases names name e j within) [
        | inl there ↦ elim (pushed_cases names name d i (omega arith)) [
          | inl before ↦ h.once i j d e less there.0 (sym (before.1 d) ∙ same ∙ there.1 e)
          | inr last ↦ let at = last.0 in let below = there.0 in absurd (omega arith)
        ]
        | inr end ↦ elim (pushed_cases names name d i (omega arith)) [
          | inl before ↦ absurd (new (i, before.0, sym (before.1 name) ∙ same ∙ end.1))
          | inr last ↦ let at = last.0 in let at' = end.0 in absurd (omega arith)
        ]
      ];
}

with_name-distinct : (names : List (List ℕ)) (name : List ℕ) → AreDistinct names → AreDistinct (with_name names name)
unfolding has_name with_name
with_name-distinct names name h = go names name (has_name names name) refl h
  where
    go : (names : List (List ℕ)) (name : List ℕ) (there : Bool) → list_any (pointwise nat_eq name) names ≡ there
        → AreDistinct names → AreDistinct (if list_any (pointwise nat_eq name) names then names else names ++ name ∷ [])
    go names name true e h = subst AreDistinct (sym (cond-true _ _ _ e)) h
    go names name false e h = subst AreDistinct (sym (cond-false _ _ _ e))
        (distinct_pushed names name h (λ member. absurd (true≢false
        (sym (any_from (pointwise nat_eq name) names name member ((bytes_decides name name).1 refl)) ∙ e))))

told_after-distinct : (told : Told) (s : Statement) → AreDistinct told.names → AreDistinct (told_after told s).names
unfolding told_after
told_after-distinct told (declares name) h = with_name-distinct told.names name h
told_after-distinct told (tells attack) h = h

line-distinct : (told : Told) (statements : List Statement) → AreDistinct told.names
    → AreDistinct (told_after_line told statements).names
line-distinct told [] h = h
line-distinct told (s ∷ statements) h = line-distinct (told_after told s) statements (told_after-distinct told s h)

says-distinct : (told : Told) (says : List (List Statement)) → AreDistinct told.names
    → AreDistinct (fold told_after_line told says).names
says-distinct told [] h = h
says-distinct told (s ∷ says) h = says-distinct (told_after_line told s) says (line-distinct told s h)

pub names-distinct : (says : List (List Statement)) → AreDistinct (told_by says).names
names-distinct says = says-distinct nothing_told says
    (record { once = λ i j d e less within same. absurd (omega arith) })

-- the names of a framework that is read are distinct
pub ReadsAs-distinct : (format : NameFormat) (bytes : List ℕ) (names : List (List ℕ)) (f : Af)
    → ReadsAs format bytes names f → AreDistinct names
ReadsAs-distinct format bytes names f r = subst AreDistinct (sym r.names_are) (names-distinct r.says)

number_same : (names : List (List ℕ)) (name : List ℕ) (m n : ℕ) → AreDistinct names → IsNumberOf names name m
    → IsNumberOf names name n → m ≡ n
number_same names name m n h a b =
    let i = a.index in
    let j = b.index in
    let at = get_or_from_slice_get names a.index name name a.there in
    let at' = get_or_from_slice_get names b.index name name b.there in
    let below = slice_get_within names a.index name a.there in
    let below' = slice_get_within names b.index name b.there in
    a.number_is ∙ ap (λ k. k + 1) (go names name a.index b.index h below below' (at ∙ sym at')) ∙ sym b.number_is
  where
    order : (i j : ℕ) → (i ≡ j) ⊎ ((i < j) ⊎ (j < i))
    order i j = elim (cases_order i j) [
      | inl e ↦ inl e
      | inr ne ↦ inr ne
    ]

    go : (names : List (List ℕ)) (name : List ℕ) (i j : ℕ) → AreDistinct names → i < length names → j < length names
        → get_or names i name ≡ get_or names j name → i ≡ j
    go names name i j h below below' same = elim (order i j) [
      | inl e ↦ e
      | inr ne ↦ elim ne [
        | inl less ↦ absurd (h.once i j name name less below' same)
        | inr more ↦ absurd (h.once j i name name more below (sym same))
      ]
    ]

-- ---- attacks

-- what the second list holds has a partner in the first
partner : {A B : Type 0} (R : A → B → Type 0) (xs : List A) (ys : List B) (y : B) → AllZip R xs ys → Contains ys y
    → (x : A) × Contains xs x × R x y
partner R [] [] y h c = absurd (omega (arith, c.1))
partner R [] (z ∷ ys) y h c = absurd h
partner R (x ∷ xs) [] y h c = absurd h
partner R (x ∷ xs) (z ∷ ys) y h (zero, within, e) = (x, (0, omega arith, refl), subst (λ w. R x w) e h.0)
partner R (x ∷ xs) (z ∷ ys) y h (suc k, within, e) =
    let p = partner R xs ys y h.1 (k, omega arith, e) in
    (p.0, (suc p.1.0, let below = p.1.1 in omega arith, p.1.2), p.2)

-- what the first list holds has a partner in the second
other_partner : {A B : Type 0} (R : A → B → Type 0) (xs : List A) (ys : List B) (x : A) → AllZip R xs ys
    → Contains xs x → (y : B) × Contains ys y × R x y
other_partner R [] [] x h c = absurd (omega (arith, c.1))
other_partner R [] (y ∷ ys) x h c = absurd h
other_partner R (z ∷ xs) [] x h c = absurd h
other_partner R (z ∷ xs) (y ∷ ys) x h (zero, within, e) = (y, (0, omega arith, refl), subst (λ w. R w y) e h.0)
other_partner R (z ∷ xs) (y ∷ ys) x h (suc k, within, e) =
    let p = other_partner R xs ys x h.1 (k, omega arith, e) in
    (p.0, (suc p.1.0, let below = p.1.1 in omega arith, p.1.2), p.2)

number_range : (names : List (List ℕ)) (name : List ℕ) (n : ℕ) → IsNumberOf names name n
    → Contains (range_with_len 1 (length names)) n
number_range names name n is =
    let within = slice_get_within names is.index name is.there in
    let at = is.number_is in
    number_there (length names) n (omega arith) (omega arith)

-- both ends of a numbered attack are numbers of names
pub ends_are_numbers : (names : List (List ℕ)) (attacks : List ToldAttack) (numbers : List (ℕ × ℕ)) (count : ℕ)
    → count ≡ length names → AllZip (AreNumbersOf names) attacks numbers → (b a : ℕ) → Contains numbers (b, a)
    → Contains (range_with_len 1 count) b × Contains (range_with_len 1 count) a
ends_are_numbers names attacks numbers count is all b a member =
    let p = partner (AreNumbersOf names) attacks numbers (b, a) all member in
    subst (λ n. Contains (range_with_len 1 n) b × Contains (range_with_len 1 n) a) (sym is)
    (number_range names p.0.attacker b p.2.attacker, number_range names p.0.target a p.2.target)

-- the attacks between numbers are those that are told between names
attacks_told : (names : List (List ℕ)) (attacks : List ToldAttack) (numbers : List (ℕ × ℕ)) → AreDistinct names
    → AllZip (AreNumbersOf names) attacks numbers → (b a : ℕ) → Contains numbers (b, a) ↔ IsTold names attacks b a
attacks_told names attacks numbers distinct all b a = (
  λ member.
      let p = partner (AreNumbersOf names) attacks numbers (b, a) all member in
      record { attack = p.0; told = p.1; attacker_is = p.2.attacker; target_is = p.2.target },
  λ told.
      let p = other_partner (AreNumbersOf names) attacks numbers told.attack all told.told in
      let first = number_same names told.attack.attacker p.0.0 b distinct p.2.attacker told.attacker_is in
      let second = number_same names told.attack.target p.0.1 a distinct p.2.target told.target_is in
      subst (λ q. Contains numbers q) (ap (λ m. (m, p.0.1)) first ∙ ap (λ m. (b, m)) second) p.1,
)

-- what these names and attacks tell
abbrev pub told_of : List (List ℕ) → List ToldAttack → Told
told_of names attacks = record { names = names; attacks = attacks }

-- the framework of the numbered attacks is the one that the text describes
pub reads_as : (format : NameFormat) (bytes : List ℕ) (names : List (List ℕ)) (attacks : List ToldAttack) (count : ℕ)
    (numbers : List (ℕ × ℕ)) (f : Af) → TellsAll format (lines_of bytes) (told_of names attacks)
    → AllZip (AreNumbersOf names) attacks numbers → count ≡ length names → IsFrameworkOf count numbers f
    → ReadsAs format bytes names f
reads_as format bytes names attacks count numbers f all are is made =
    let distinct : AreDistinct names = subst (λ t. AreDistinct t.names) (sym all.told_is) (names-distinct all.says) in
    let named : IsNamedFramework names attacks f = record {
      live = made.live ∙ ap (λ n. range_with_len 1 n) is;
      known = all_known names attacks numbers are;
      attacks_are = λ b a.
          let both = attacks_told names attacks numbers distinct are b a in
          (λ attacks. both.0 ((made.attacks_are (b, a)).0 attacks), λ told. (made.attacks_are (b, a)).1 (both.1 told));
      form = made.form;
    } in
    record {
      says = all.says;
      last = all.last;
      lines_are = all.said;
      few = all.few;
      names_are = ap (λ (t : Told). t.names) all.told_is;
      framework = subst (λ t. IsNamedFramework names t.attacks f) all.told_is named;
    }

pub few_names : (format : NameFormat) (bytes : List ℕ) (names : List (List ℕ)) (attacks : List ToldAttack)
    → TellsAll format (lines_of bytes) (told_of names attacks) → length names ≤ MAX_ARGUMENT
few_names format bytes names attacks all =
    subst (λ t. length t.names ≤ MAX_ARGUMENT) (sym all.told_is) all.few.few_names

pub few_told : (format : NameFormat) (bytes : List ℕ) (names : List (List ℕ)) (attacks : List ToldAttack)
    → TellsAll format (lines_of bytes) (told_of names attacks) → length attacks ≤ MAX_ATTACK_LINES
few_told format bytes names attacks all =
    subst (λ t. length t.attacks ≤ MAX_ATTACK_LINES) (sym all.told_is) all.few.few_attacks

-- the first attack with a name that isn't declared is the fault that is told
pub unknown_told : (format : NameFormat) (bytes : List ℕ) (names : List (List ℕ)) (attacks : List ToldAttack)
    (e : ReadFault) → TellsAll format (lines_of bytes) (told_of names attacks)
    → IfLine e (IsUnknownFault names attacks) → IfLine e (λ fault. IsFirstFault format bytes fault.line fault.cause)
unknown_told format bytes names attacks (Line fault) all h = inr (record {
  says = all.says;
  last = all.last;
  lines_are = all.said;
  few = all.few;
  unknown = subst (λ t. IsFirstUnknown t.names t.attacks fault.line) all.told_is h.unknown;
  cause_is = h.cause_is;
})
unknown_told format bytes names attacks Memory all h = tt
