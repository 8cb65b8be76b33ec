-- What is found at a rule's index is so of the rule of its number.
use Rattle.std.proofs.Common.{◌≡◌, ◌+◌, ◌≤◌, ◌<◌, ℕ, List, length, get_or, map, true, false, arith, ap, refl, sym, subst, ◌∙◌, ⊎_elim}
use Rattle.std.proofs.Common.{eqb, leb, leb-true, le-leb, eq-eqb}
use Rattle.std.specs.Prelude.{Contains, filter, ◌↔◌, IsTrue}
use Rattle.std.specs.List.Sorted.{IsStrictlyIncreasing}
use Rattle.std.proofs.lemmas.Bool.{cases_lt, eqb-true, false≢true}
use Rattle.std.proofs.lemmas.List.{get_or_default, get_or-map, length-map}
use Rattle.std.proofs.lemmas.List.Elements.{Contains-get_or}
use Rattle.attack_index.specs.PairOrder.{PairsRise}
use Rattle.semantics.specs.AbaFrameworks.{Aba, IsNumberedAba}
use Rattle.semantics.specs.Rules.{Rule}
use Rattle.aba_notions.specs.Storage.{no_rule, rule_at}
use Rattle.attack_index.proofs.OffsetLemmas.{PairsRise-filter}
use Rattle.aba_notions.proofs.TableLemmas.{rising_few}
use Rattle.aba_notions.proofs.UnfoundedLemmas.{read_number}
use Rattle.meaning_atoms.specs.AbaReadings.{HasHead, HasNoContrary, HasNoHead, HasRule}
use Rattle.aba_axioms.proofs.FrameworkLemmas.{same_rule}
use Rattle.aba_facts.specs.Cuts.{IsClear, IsCut, IsFirstFrom, IsRuleAt}
use Rattle.aba_facts.proofs.CutLemmas.{behind_cut}
use Rattle.lists.proofs.Filters.{Contains-filter}
use Rattle.lists.proofs.Images.{image_there, image_from}
use Rattle.lists.proofs.RisingLists.{rises_along}

abbrev number_of : Rule → ℕ
number_of r = r.number

abbrev head_of : Rule → ℕ
head_of r = r.head

abbrev second : ℕ × ℕ → ℕ
second p = p.1

image_is : (pairs : List (ℕ × ℕ)) (k : ℕ) (c : Contains (map second pairs) k) → (image_from second pairs k c).0.1 ≡ k
image_is pairs k c = (image_from second pairs k c).2

-- second numbers of rising pairs with one first number rise
pub seconds_rise : (pairs : List (ℕ × ℕ)) (first : ℕ) → PairsRise pairs
    → ((p : ℕ × ℕ) → Contains pairs p → p.0 ≡ first) → IsStrictlyIncreasing (map second pairs)
seconds_rise pairs first up same = λ k within.
    let long = length-map pairs second in
    let here = get_or-map second pairs k (0, 0) 0 (omega arith) in
    let next = get_or-map second pairs (k + 1) (0, 0) 0 (omega arith) in
    let left = same _ (Contains-get_or pairs k (0, 0) (omega arith)) in
    let right = same _ (Contains-get_or pairs (k + 1) (0, 0) (omega arith)) in
    ⊎_elim (λ less. absurd (omega (arith, left, right, less))) (λ tie. omega (arith, here, next, tie.1))
    (up.order k (k + 1) (0, 0) (omega arith) (omega arith))

pub iff_both : {P Q R : Type 0} → P ↔ Q → Q ↔ R → P ↔ R
iff_both p q = (λ x. q.0 (p.0 x), λ z. p.1 (q.1 z))

-- a listed index is that of a rule
pub listed_within : (f : Aba) (headed : List (ℕ × ℕ)) (head k : ℕ)
    → ((h k : ℕ) → Contains headed (h, k)
    ↔ ((h ≡ head) × (k < length f.rules) × ((rule_at f.rules k).head ≡ head)))
    → Contains (map second headed) k → k < length f.rules
listed_within f headed head k rules c =
    let from = image_from second headed k c in
    let within = ((rules from.0.0 from.0.1).0 from.1).1 in
    let same = image_is headed k c in
    omega arith

module _ (f : Aba) (form : IsNumberedAba f) where
  pub rule_there : (k : ℕ) → k < length f.rules → Contains f.rules (rule_at f.rules k)
  rule_there k lt = Contains-get_or f.rules k no_rule lt

  pub few : length f.rules < f.next
  few =
      let rules = form.form.rules_are in
      let long = length-map f.rules number_of in
      let less = rising_few (map number_of f.rules) f.next form.form.numbers_rise
      (λ n c. let w = image_from number_of f.rules n c in
      let is = rules w.0 w.1 in
      let at = w.2 in
      let low = is.low in
      let given = is.given in
      (omega arith, omega arith))
      form.form.next_is in
      omega arith

  -- the body of a rule rises
  pub body_up : (k : ℕ) (pairs : List (ℕ × ℕ)) → k < length f.rules → map second pairs ≡ (rule_at f.rules k).body
      → IsStrictlyIncreasing (map second pairs)
  body_up k pairs lt are =
      subst IsStrictlyIncreasing (sym are) (form.form.rules_are (rule_at f.rules k) (rule_there k lt)).body_rises

  -- what holds of the rule at the index of a number holds of the rule of that number
  pub at_index : (P : Rule → Type 0) (k number : ℕ) → IsRuleAt f k number
      → P (rule_at f.rules k) ↔ HasRule f number P
  at_index P k number at = (
    λ p. record { rule = rule_at f.rules k; there = rule_there k at.within; numbered = at.numbered; says = p },
    λ h. subst P
        (same_rule f form.form h.rule (rule_at f.rules k) h.there (rule_there k at.within)
        (h.numbered ∙ sym at.numbered)) h.says,
  )

  pub none_has : (P : Rule → Type 0) (number : ℕ)
      → ((r : Rule) → Contains f.rules r → r.number ≡ number → ⊥) → IsTrue false ↔ HasRule f number P
  none_has P number none = (λ e. absurd (false≢true e), λ h. absurd (none h.rule h.there h.numbered))

  -- a rule that the cut of the numbers leaves out has another number
  pub index_made : (numbers : List ℕ) (k number : ℕ) → numbers ≡ map number_of f.rules → k < length numbers
      → get_or numbers k 0 ≡ number → IsRuleAt f k number
  index_made numbers k number are lt at =
      let long = length-map f.rules number_of in
      let same = ap length are in
      record { within = omega arith; numbered = sym (read_number f numbers k are (omega arith)) ∙ at }

  number_there : (numbers : List ℕ) → numbers ≡ map number_of f.rules → (r : Rule) → Contains f.rules r
      → Contains numbers r.number
  number_there numbers are r c = subst (λ xs. Contains xs r.number) (sym are) (image_there number_of f.rules r c)

  pub none_past : (numbers : List ℕ) (n number : ℕ) → numbers ≡ map number_of f.rules → IsCut number numbers n
      → length numbers ≤ n → (r : Rule) → Contains f.rules r → r.number ≡ number → ⊥
  none_past numbers n number are cut past r c is =
      let there = number_there numbers are r c in
      let late = behind_cut number numbers n cut r.number there (omega arith) in
      let lt = there.1 in
      omega arith

  pub none_here : (numbers : List ℕ) (n number : ℕ) → numbers ≡ map number_of f.rules → IsCut number numbers n
      → n < length numbers → (get_or numbers n 0 ≡ number → ⊥) → (r : Rule) → Contains f.rules r
      → r.number ≡ number → ⊥
  none_here numbers n number are cut within other r c is =
      let there = number_there numbers are r c in
      let late = behind_cut number numbers n cut r.number there (omega arith) in
      let up : IsStrictlyIncreasing numbers = subst IsStrictlyIncreasing (sym are) form.form.numbers_rise in
      let before = rises_along numbers up n there.0 late there.1 in
      let at = get_or_default numbers there.0 0 r.number there.1 ∙ there.2 in
      let after = cut.after n (omega arith) within in
      other (omega arith)

  -- ---- contraries

  abbrev contraries_of : ℕ → List (ℕ × ℕ)
  contraries_of a = filter (λ p. eqb p.0 a) f.contraries

  pub contraries_up : (a : ℕ) → IsStrictlyIncreasing (map second (contraries_of a))
  contraries_up a = seconds_rise (contraries_of a) a
      (PairsRise-filter (λ p. eqb p.0 a) f.contraries (record { order = form.form.contraries_rise }))
      (λ p c. eqb-true p.0 a ((Contains-filter (λ p. eqb p.0 a) f.contraries p).0 c).1)

  pub no_contrary_at : (a begin end : ℕ) → Contains f.assumptions a
      → IsClear (map second (contraries_of a)) begin end ↔ HasNoContrary f a begin end
  no_contrary_at a begin end live =
      let kept = Contains-filter (λ (p : ℕ × ℕ). eqb p.0 a) f.contraries in (
        λ clear. record {
          assumption = live;
          none = λ c has low high.
              clear c (image_there second (contraries_of a) (a, c) ((kept (a, c)).1 (has, eq-eqb a a refl))) low high;
        },
        λ gap y c low high.
            let from = image_from second (contraries_of a) y c in
            let is = (kept from.0).0 from.1 in
            let first : from.0.0 ≡ a = eqb-true from.0.0 a is.1 in
            gap.none y
            (subst (λ x. Contains f.contraries (a, x)) from.2
            (subst (λ x. Contains f.contraries (x, from.0.1)) first is.0)) low high,
      )

  -- ---- heads

  pub head_at : (heads : List ℕ) (k number head : ℕ) → heads ≡ map head_of f.rules → IsRuleAt f k number
      → IsTrue (eqb (get_or heads k 0) head) ↔ HasHead f number head
  head_at heads k number head are at =
      let here : get_or heads k 0 ≡ (rule_at f.rules k).head =
      ap (λ xs. get_or xs k 0) are ∙ get_or-map head_of f.rules k no_rule 0 at.within in
      let both = at_index (λ r. r.head ≡ head) k number at in (
        λ t. both.0 (sym here ∙ eqb-true (get_or heads k 0) head t),
        λ h. eq-eqb (get_or heads k 0) head (here ∙ both.1 h),
      )

  -- the index of a rule that heads the atom and has a number from the beginning on
  record IsLatePlace (numbers : List ℕ) (headed : List (ℕ × ℕ)) (first number k : ℕ) : Type 0 where
    listed : Contains (map second headed) k
    late : first ≤ k
    within : k < length numbers
    there : get_or numbers k 0 ≡ number

  late_place : (numbers : List ℕ) (headed : List (ℕ × ℕ)) (head begin first : ℕ) → numbers ≡ map number_of f.rules
      → ((h k : ℕ) → Contains headed (h, k)
      ↔ ((h ≡ head) × (k < length f.rules) × ((rule_at f.rules k).head ≡ head)))
      → IsCut begin numbers first → (r : Rule) → Contains f.rules r → r.head ≡ head → begin ≤ r.number
      → (k : ℕ) × IsLatePlace numbers headed first r.number k
  late_place numbers headed head begin first are rules cut r c is late =
      let long = length-map f.rules number_of in
      let same = ap length are in
      let rule : rule_at f.rules c.0 ≡ r = get_or_default f.rules c.0 no_rule r c.1 ∙ c.2 in
      let number : get_or numbers c.0 0 ≡ r.number = read_number f numbers c.0 are c.1 ∙ ap number_of rule in
      let lt = c.1 in
      let within : c.0 < length numbers = omega arith in (
        c.0,
        record {
          listed = image_there second headed (head, c.0) ((rules head c.0).1 (refl, c.1, ap head_of rule ∙ is));
          late = behind_cut begin numbers first cut r.number
              (c.0, within, get_or_default numbers c.0 r.number 0 within ∙ number) late;
          within = within;
          there = number;
        },
      )

  pub no_head_at : (numbers : List ℕ) (headed : List (ℕ × ℕ)) (head begin end first k : ℕ)
      → numbers ≡ map number_of f.rules
      → ((h k : ℕ) → Contains headed (h, k)
      ↔ ((h ≡ head) × (k < length f.rules) × ((rule_at f.rules k).head ≡ head)))
      → IsCut begin numbers first → IsFirstFrom (map second headed) first k
      → IsTrue (leb end (get_or numbers k 0)) ↔ HasNoHead f head begin end
  no_head_at numbers headed head begin end first k are rules cut found =
      let up : IsStrictlyIncreasing numbers = subst IsStrictlyIncreasing (sym are) form.form.numbers_rise in
      let from = image_from second headed k found.member in
      let at = (rules from.0.0 from.0.1).0 from.1 in
      let here : (k < length f.rules) × ((rule_at f.rules k).head ≡ head) =
      subst (λ n. (n < length f.rules) × ((rule_at f.rules n).head ≡ head))
      (image_is headed k found.member) (at.1, at.2) in
      let long = length-map f.rules number_of in
      let same = ap length are in
      let number : get_or numbers k 0 ≡ (rule_at f.rules k).number = read_number f numbers k are here.0 in
      let lt = here.0 in
      let late : begin ≤ get_or numbers k 0 = cut.after k found.late (omega arith) in (
        λ t r c is low high.
            let place = late_place numbers headed head begin first are rules cut r c is low in
            let least = found.least place.0 place.1.listed place.1.late in
            let past = rises_along numbers up k place.0 least place.1.within in
            let is' = place.1.there in
            let beyond = leb-true _ _ t in
            omega arith,
        λ clear. ⊎_elim
            (λ lt'. absurd (clear (rule_at f.rules k) (rule_there k here.0) here.1 (omega arith) (omega arith)))
            (λ ge. le-leb _ _ ge) (cases_lt (get_or numbers k 0) end),
      )

  pub no_head_past : (numbers : List ℕ) (headed : List (ℕ × ℕ)) (head begin end first : ℕ)
      → numbers ≡ map number_of f.rules
      → ((h k : ℕ) → Contains headed (h, k)
      ↔ ((h ≡ head) × (k < length f.rules) × ((rule_at f.rules k).head ≡ head)))
      → IsCut begin numbers first → ((y : ℕ) → Contains (map second headed) y → y < first)
      → IsTrue true ↔ HasNoHead f head begin end
  no_head_past numbers headed head begin end first are rules cut below = (
    λ t r c is low high.
        let place = late_place numbers headed head begin first are rules cut r c is low in
        let less = below place.0 place.1.listed in
        let late = place.1.late in
        omega arith,
    λ clear. refl,
  )
