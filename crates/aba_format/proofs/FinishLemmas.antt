-- From what the lines say to the framework.
use Rattle.std.proofs.Common.{◌≡◌, ℕ, suc, ◌+◌, ◌<◌, ◌≤◌, List, [], ◌∷◌, length, map, get_or}
use Rattle.std.proofs.Common.{refl, sym, ap, subst, ◌∙◌, arith}
use Rattle.std.specs.Prelude.{Contains, ◌↔◌, Result, Ok, Err, IfOk}
use Rattle.std.specs.List.{range_with_len}
use Rattle.std.specs.List.Sorted.{IsStrictlyIncreasing}
use Rattle.std.specs.List.{AllZip}
use Rattle.std.proofs.lemmas.List.{length-map, get_or-map}
use Rattle.std.proofs.lemmas.List.Elements.{Contains-get_or}
use Rattle.std.proofs.lemmas.List.FromFn.{length-range_with_len, get_or-range_with_len}
use Rattle.lists.proofs.Membership.{Contains-tail}
use Rattle.num_text.specs.Cuts.{LineText}
use Rattle.num_text.specs.Lines.{kept}
use Rattle.af_format.specs.Headers.{aba_word, BeginWith}
use Rattle.semantics.specs.declared.numbers.TheConstants.{MAX_ATOM}
use Rattle.semantics.specs.AbaFrameworks.{Aba, IsAtom, IsNumberedAba}
use Rattle.aba_notions.specs.declared.rule_table.RuleLists.{RuleLists}
use Rattle.semantics.specs.Rules.{Rule}
use Rattle.aba_notions.specs.Storage.{AreParts, AreRulesOf, no_rule}
use Rattle.aba_format.specs.AbaText.{Said, says_assumption, says_contrary, says_rule, atoms_of, rules_said}
use Rattle.aba_format.specs.AbaText.{IsRuleSaid, IsFrameworkOf, ReadsAs}
use Rattle.aba_format.specs.Reading.{AreRulesIn, AreWhole}
use Rattle.aba_format.specs.Finishing.{AreFrameworkParts, IsFrameworkBy}
use Rattle.aba_format.specs.declared.said.LineParts.{LineParts}
use Rattle.aba_format.proofs.SaysLemmas.{atoms_within, contrary_listed, listed_contrary, listed_rule, said_by_line}
use Rattle.lists.proofs.Images.{image_from}
use Rattle.lists.proofs.Ranges.{numbers_rise}

-- ---- the parts are those of a framework

rule_in : (all : List Said) (k : ℕ) (d : ℕ × List ℕ) → k < length (rules_said all)
    → Contains all (says_rule (get_or (rules_said all) k d).0 (get_or (rules_said all) k d).1)
rule_in all k d lt = listed_rule all (get_or (rules_said all) k d) (Contains-get_or (rules_said all) k d lt)

pub framework_parts : (count : ℕ) (lines : List LineText) (parts : LineParts) → count ≤ MAX_ATOM
    → AreWhole count lines parts → AreFrameworkParts count parts
framework_parts count lines parts small h =
    let all = h.read.all in
    let held = h.read.said_in in
    let are = h.read.lines_are in
    let few = are.consistent.few in
    let long : length parts.heads.items ≡ length (rules_said all)
    = ap length held.rules.heads_are ∙ length-map (rules_said all) (λ r. r.0) in
    let atom : (s : Said) → Contains all s → (x : ℕ) → Contains (atoms_of s) x → IsAtom count x = λ s c x d.
    (let line = said_by_line count lines all are.each s c in atoms_within count line.0.text s line.2 x d) in
    let headed : (x : ℕ) → Contains parts.heads.items x → (body : List ℕ) × Contains all (says_rule x body) = λ x c.
    (let from = image_from (λ (r : ℕ × List ℕ). r.0) (rules_said all) x
    (subst (λ hs. Contains hs x) held.rules.heads_are c) in
    (from.0.1, subst (λ n. Contains all (says_rule n from.0.1)) from.2 (listed_rule all from.0 from.1))) in
    record {
      few = small;
      few_rules = omega arith;
      assumptions = λ a c. atom (says_assumption a) (held.assumptions a c) a (0, omega arith, refl);
      contraries = λ a c there.
          let said = listed_contrary all (a, c) (subst (λ ps. Contains ps (a, c)) held.contraries there) in (
            held.assumptions_all a (h.of_assumptions a c said),
            atom (says_contrary a c) said c (1, omega arith, refl),
          );
      heads = λ x c.
          let rule = headed x c in atom (says_rule x rule.0) rule.1 x (0, omega arith, refl);
      bodies = λ k y c.
          let lt = held.rules.within k y c in
          let d : ℕ × List ℕ = (0, []) in
          let there = held.rules.bodies_are k y d lt c in (
            omega arith,
            atom (says_rule (get_or (rules_said all) k d).0 (get_or (rules_said all) k d).1) (rule_in all k d lt) y
                (Contains-tail (get_or (rules_said all) k d).0 (get_or (rules_said all) k d).1 y there),
          );
      flat = λ x c d.
          let rule = headed x c in
          are.consistent.flat x rule.0 (held.assumptions x d) rule.1;
    }

-- ---- what the framework is made of

number_in : (n k : ℕ) → Contains (range_with_len 1 n) k → (1 ≤ k) × (k < n + 1)
number_in n k c =
    let lt : c.0 < n = omega (arith, c.1, length-range_with_len 1 n) in
    let here = get_or-range_with_len 1 n c.0 k lt in
    (omega (arith, here, c.2), omega (arith, here, c.2))

pub made_parts : (count : ℕ) (parts : LineParts) (assumptions : List ℕ) (rules : RuleLists) (next : ℕ)
    → AreFrameworkParts count parts → ((x : ℕ) → Contains assumptions x ↔ Contains parts.assumptions.items x)
    → rules.numbers.items ≡ range_with_len 1 (length parts.heads.items) → rules.heads.items ≡ parts.heads.items
    → rules.bodies.items ≡ parts.bodies.items → next ≡ length parts.heads.items + 1
    → AreParts count assumptions parts.contraries.items rules next
made_parts count parts assumptions rules next h same numbers heads bodies next_is =
    let few = h.few_rules in
    record {
      atoms_small = h.few;
      next_low = omega arith;
      next_small = omega arith;
      assumptions_are = λ a c. h.assumptions a ((same a).0 c);
      contraries_are = λ a c there.
          let is = h.contraries a c there in ((same a).1 is.0, is.1);
      rules_are = record {
        long = ap length numbers ∙ length-range_with_len 1 (length parts.heads.items) ∙ sym (ap length heads);
        heads_are = λ x c. h.heads x (subst (λ hs. Contains hs x) heads c);
        bodies_are = λ k y c.
            let is = h.bodies k y (subst (λ bs. Contains bs (k, y)) bodies c) in
            (omega (arith, is.0, ap length heads), is.1);
      };
      numbers_rise = subst IsStrictlyIncreasing (sym numbers) (numbers_rise (length parts.heads.items));
      numbers_are = λ n c.
          let is = number_in (length parts.heads.items) n (subst (λ ns. Contains ns n) numbers c) in
          (is.0, omega (arith, is.1));
      flat = λ x c d. h.flat x (subst (λ hs. Contains hs x) heads c) ((same x).0 d);
    }

pub made_framework : {E : Type 0} (r : Result Aba E) (count : ℕ) (parts : LineParts) (assumptions : List ℕ)
    (rules : RuleLists) (next : ℕ)
    → ((x : ℕ) → Contains assumptions x ↔ Contains parts.assumptions.items x)
    → rules.numbers.items ≡ range_with_len 1 (length parts.heads.items) → rules.heads.items ≡ parts.heads.items
    → rules.bodies.items ≡ parts.bodies.items → next ≡ length parts.heads.items + 1
    → IfOk r (λ f. f.atoms ≡ count) → IfOk r (λ f. f.assumptions ≡ assumptions)
    → IfOk r (λ f. (p : ℕ × ℕ) → Contains f.contraries p ↔ Contains parts.contraries.items p)
    → IfOk r (λ f. AreRulesOf rules.numbers.items rules.heads.items rules.bodies.items f.rules)
    → IfOk r (λ f. f.next ≡ next) → IfOk r IsNumberedAba → IfOk r (IsFrameworkBy count parts)
made_framework (Ok f) count parts assumptions rules next same numbers heads bodies next_is a b c d e g =
    record {
      atoms_are = a;
      assumptions_are = λ x. (
        λ h. (same x).0 (subst (λ xs. Contains xs x) b h),
        λ h. subst (λ xs. Contains xs x) (sym b) ((same x).1 h),
      );
      contraries_are = c;
      rules_are = subst (λ ns. AreRulesOf ns parts.heads.items parts.bodies.items f.rules) numbers
          (subst (λ hs. AreRulesOf rules.numbers.items hs parts.bodies.items f.rules) heads
          (subst (λ bs. AreRulesOf rules.numbers.items rules.heads.items bs f.rules) bodies d));
      next_is = e ∙ next_is;
      form = g;
    }
made_framework (Err x) count parts assumptions rules next same numbers heads bodies next_is a b c d e g = g

-- ---- the framework is that of the text

-- lists related at each index
zip_by_index : {A B : Type 0} (R : A → B → Type 0) (xs : List A) (ys : List B) (e : B) (d : A)
    → length xs ≡ length ys → ((k : ℕ) → k < length xs → R (get_or xs k d) (get_or ys k e)) → AllZip R xs ys
zip_by_index R [] [] e d long h = tt
zip_by_index R [] (y ∷ ys) e d long h = absurd (omega arith)
zip_by_index R (x ∷ xs) [] e d long h = absurd (omega arith)
zip_by_index R (x ∷ xs) (y ∷ ys) e d long h =
    (h 0 (omega arith), zip_by_index R xs ys e d (omega arith) (λ k lt. h (suc k) (omega arith)))

rules_zip : (rules : List (ℕ × List ℕ)) (heads : List ℕ) (bodies : List (ℕ × ℕ)) (rs : List Rule)
    → AreRulesIn rules heads bodies → AreRulesOf (range_with_len 1 (length heads)) heads bodies rs
    → AllZip IsRuleSaid rules rs
rules_zip rules heads bodies rs h is = zip_by_index IsRuleSaid rules rs no_rule (0, []) long each
  where
    headed : map (λ (r : Rule). r.head) rs ≡ map (λ (r : ℕ × List ℕ). r.0) rules
    headed = is.heads_are ∙ h.heads_are

    long : length rules ≡ length rs
    long = sym (length-map rules (λ (r : ℕ × List ℕ). r.0)) ∙ sym (ap length headed) ∙ length-map rs
        (λ (r : Rule). r.head)

    each : (k : ℕ) → k < length rules → IsRuleSaid (get_or rules k (0, [])) (get_or rs k no_rule)
    each k lt = record {
      head_is = sym (get_or-map (λ (r : Rule). r.head) rs k no_rule 0 (omega (arith, long)))
          ∙ ap (λ hs. get_or hs k 0) headed ∙ get_or-map (λ (r : ℕ × List ℕ). r.0) rules k (0, []) 0 lt;
      body_is = λ y. (
        λ c. h.bodies_are k y (0, []) lt ((is.bodies_are k y (omega (arith, long))).0 c),
        λ c. (is.bodies_are k y (omega (arith, long))).1 (h.all k y (0, []) lt c),
      );
    }

pub framework_said : (count : ℕ) (lines : List LineText) (parts : LineParts) (f : Aba) (h : AreWhole count lines parts)
    → IsFrameworkBy count parts f → IsFrameworkOf count h.read.all f
framework_said count lines parts f h is =
    let all = h.read.all in
    let held = h.read.said_in in
    let long : length parts.heads.items ≡ length f.rules
    = sym (ap length is.rules_are.heads_are) ∙ length-map f.rules (λ (r : Rule). r.head) in
    record {
      atoms_are = is.atoms_are;
      assumptions_are = λ x. (
        λ c. held.assumptions x ((is.assumptions_are x).0 c),
        λ c. (is.assumptions_are x).1 (held.assumptions_all x c),
      );
      contraries_are = λ a c. (
        λ there. listed_contrary all (a, c)
            (subst (λ ps. Contains ps (a, c)) held.contraries ((is.contraries_are (a, c)).0 there)),
        λ said. (is.contraries_are (a, c)).1
            (subst (λ ps. Contains ps (a, c)) (sym held.contraries) (contrary_listed all a c said)),
      );
      rules_are = rules_zip (rules_said all) parts.heads.items parts.bodies.items f.rules held.rules is.rules_are;
      solid = record {
        numbers_are = is.rules_are.numbers_are ∙ ap (range_with_len 1) long;
        next_is = is.next_is ∙ ap (λ n. n + 1) long;
      };
      form = is.form;
    }

pub reads_as : (bytes : List ℕ) (count : ℕ) (left : List LineText) (parts : LineParts) (f : Aba)
    → BeginWith aba_word bytes count left → AreWhole count (kept left) parts → IsFrameworkBy count parts f
    → ReadsAs bytes f
reads_as bytes count left parts f h are is = record {
  count = count;
  all = are.read.all;
  text = record {
    header = h.header;
    others = kept left;
    lines = h.lines;
    header_is = h.header_is;
    others_are = are.read.lines_are;
    of_assumptions = are.of_assumptions;
  };
  framework = framework_said count (kept left) parts f are is;
}
