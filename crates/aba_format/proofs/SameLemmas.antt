-- A text has one reading.
use Rattle.std.proofs.Common.{◌≡◌, ℕ, ◌+◌, List, [], ◌∷◌, length, map, get_or, refl, sym, ap, subst, ◌∙◌}
use Rattle.std.specs.Prelude.{Contains}
use Rattle.std.specs.List.{AllZip, range_with_len}
use Rattle.std.specs.List.Sorted.{IsStrictlyIncreasing}
use Rattle.std.proofs.lemmas.Slice.Zip.{AllZip-long}
use Rattle.lists.proofs.Membership.{Contains-head, Contains-tail}
use Rattle.num_text.specs.Cuts.{LineText}
use Rattle.af_format.specs.Headers.{aba_word, IsHeaderOf}
use Rattle.af_format.proofs.LineCauses.{IsHeaderOf-same}
use Rattle.af_format.proofs.Readings.{rising_same}
use Rattle.semantics.specs.Rules.{Rule}
use Rattle.semantics.specs.AbaFrameworks.{Aba}
use Rattle.aba_format.specs.AbaText.{Said, SaysLine, rules_said, IsAbaText, IsRuleSaid, IsFrameworkOf, ReadsAs}
use Rattle.aba_format.proofs.SaysLemmas.{SaysLine-same}
use Rattle.lists.proofs.RisingLists.{same_rising}
use Rattle.lists.proofs.Zips.{zip_same}

IsAbaText-same : (bytes : List ℕ) (m n : ℕ) (ss ts : List Said) → IsAbaText bytes m ss → IsAbaText bytes n ts
    → (m ≡ n) × (ss ≡ ts)
IsAbaText-same bytes m n ss ts a b =
    let lines : a.header ∷ a.others ≡ b.header ∷ b.others = sym a.lines ∙ b.lines in
    let headers : a.header ≡ b.header = cc in
    let others : a.others ≡ b.others = cc in
    let counts : m ≡ n = IsHeaderOf-same aba_word b.header.text m n
    (subst (λ (line : LineText). IsHeaderOf aba_word line.text m) headers a.header_is) b.header_is in
    let each = subst (λ k. AllZip (λ (line : LineText) s. SaysLine k line.text s) b.others ss) counts
    (subst (λ ls. AllZip (λ (line : LineText) s. SaysLine m line.text s) ls ss) others a.others_are.each) in (
      counts,
      zip_same (λ (line : LineText) s. SaysLine n line.text s)
          (λ line s t. SaysLine-same n line.text s t) b.others ss ts each b.others_are.each,
    )

-- rules are told by their numbers, their heads and the members of their bodies
rule_same : (r s : Rule) → r.number ≡ s.number → r.head ≡ s.head → r.body ≡ s.body → r ≡ s
rule_same r s n h b = λ i. record { number = n i; head = h i; body = b i }

rules_same : (said : List (ℕ × List ℕ)) (rs ss : List Rule) → AllZip IsRuleSaid said rs → AllZip IsRuleSaid said ss
    → map (λ (r : Rule). r.number) rs ≡ map (λ (r : Rule). r.number) ss
    → ((r : Rule) → Contains rs r → IsStrictlyIncreasing r.body)
    → ((r : Rule) → Contains ss r → IsStrictlyIncreasing r.body) → rs ≡ ss
rules_same [] [] [] a b e up up' = refl
rules_same [] [] (s ∷ ss) a b e up up' = absurd b
rules_same [] (r ∷ rs) ss a b e up up' = absurd a
rules_same (p ∷ ps) [] ss a b e up up' = absurd a
rules_same (p ∷ ps) (r ∷ rs) [] a b e up up' = absurd b
rules_same (p ∷ ps) (r ∷ rs) (s ∷ ss) a b e up up' =
    let body : r.body ≡ s.body = same_rising r.body s.body (up r (Contains-head r rs r refl))
    (up' s (Contains-head s ss s refl))
    (λ y. (λ c. (b.0.body_is y).1 ((a.0.body_is y).0 c), λ c. (a.0.body_is y).1 ((b.0.body_is y).0 c))) in
    let here : r ≡ s = rule_same r s (ap (λ xs. get_or xs 0 0) e) (a.0.head_is ∙ sym b.0.head_is) body in
    ap (λ x. x ∷ rs) here
    ∙ ap (λ xs. s ∷ xs) (rules_same ps rs ss a.1 b.1 (ap rest_of e)
    (λ x c. up x (Contains-tail r rs x c)) (λ x c. up' x (Contains-tail s ss x c)))
  where
    rest_of : List ℕ → List ℕ
    rest_of [] = []
    rest_of (x ∷ xs) = xs

frameworks_same : (f g : Aba) → f.atoms ≡ g.atoms → f.assumptions ≡ g.assumptions → f.contraries ≡ g.contraries
    → f.rules ≡ g.rules → f.next ≡ g.next → f ≡ g
frameworks_same f g a b c d e =
    λ i. record { atoms = a i; assumptions = b i; contraries = c i; rules = d i; next = e i }

IsFrameworkOf-same : (count : ℕ) (all : List Said) (f g : Aba) → IsFrameworkOf count all f
    → IsFrameworkOf count all g → f ≡ g
IsFrameworkOf-same count all f g a b =
    let assumptions : f.assumptions ≡ g.assumptions
    = same_rising f.assumptions g.assumptions a.form.form.assumptions_rise b.form.form.assumptions_rise
    (λ x. (
      λ c. (b.assumptions_are x).1 ((a.assumptions_are x).0 c),
      λ c. (a.assumptions_are x).1 ((b.assumptions_are x).0 c),
    )) in
    let contraries : f.contraries ≡ g.contraries
    = rising_same f.contraries g.contraries a.form.form.contraries_rise b.form.form.contraries_rise
    (λ p. (
      λ c. (b.contraries_are p.0 p.1).1 ((a.contraries_are p.0 p.1).0 c),
      λ c. (a.contraries_are p.0 p.1).1 ((b.contraries_are p.0 p.1).0 c),
    )) in
    let long : length f.rules ≡ length g.rules
    = AllZip-long IsRuleSaid (rules_said all) f.rules a.rules_are
    ∙ sym (AllZip-long IsRuleSaid (rules_said all) g.rules b.rules_are) in
    let numbers : map (λ (r : Rule). r.number) f.rules ≡ map (λ (r : Rule). r.number) g.rules
    = a.solid.numbers_are ∙ ap (range_with_len 1) long ∙ sym b.solid.numbers_are in
    frameworks_same f g (a.atoms_are ∙ sym b.atoms_are) assumptions contraries
    (rules_same (rules_said all) f.rules g.rules a.rules_are b.rules_are numbers
    (λ r c. (a.form.form.rules_are r c).body_rises) (λ r c. (b.form.form.rules_are r c).body_rises))
    (a.solid.next_is ∙ ap (λ n. n + 1) long ∙ sym b.solid.next_is)

-- a text reads as one framework alone
pub ReadsAs-same : (bytes : List ℕ) (f g : Aba) → ReadsAs bytes f → ReadsAs bytes g → f ≡ g
ReadsAs-same bytes f g a b =
    let same = IsAbaText-same bytes a.count b.count a.all b.all a.text b.text in
    IsFrameworkOf-same b.count b.all f g
    (subst (λ n. IsFrameworkOf n b.all f) same.0 (subst (λ ss. IsFrameworkOf a.count ss f) same.1 a.framework))
    b.framework
