-- Two right answers to one query agree.
use Rattle.std.proofs.Common.{◌≡◌, ⊎_elim, ℕ, List, [], ◌∷◌, Option, Some, None, ap, arith, refl, subst, ◌∙◌}
use Rattle.std.specs.Prelude.{Contains, All, slice_index_or}
use Rattle.std.specs.List.{AllPairs}
use Rattle.std.specs.List.Sorted.{IsStrictlyIncreasing}
use Rattle.std.specs.declared.cmp.Ordering.{Ordering}
use Rattle.std.specs.declared.cmp.Ordering.TheVariants.{Less, Equal, Greater}
use Rattle.std.specs.Ordering.{nat_cmp, ordering_reverse}
use Rattle.std.specs.Cmp.Lexicographic.{slice_cmp}
use Rattle.std.proofs.lemmas.Cmp.{nat_list_cmp_total}
use Rattle.std.proofs.lemmas.List.{get_or_default}
use Rattle.std.proofs.lemmas.List.Elements.{All-contains, All-head}
use Rattle.lists.proofs.Membership.{Contains-nil, Contains-head, Contains-cons_cases}
use Rattle.iccma_tasks.specs.semantics.specs.Frameworks.{Framework}
use Rattle.iccma_tasks.specs.semantics.specs.Laws.{HasSameMembers}
use Rattle.iccma_tasks.specs.semantics.specs.Sets.{IsListed}
use Rattle.iccma_tasks.specs.declared.answer.Answer.{Answer}
use Rattle.iccma_tasks.specs.declared.answer.Answer.TheVariants.{Yes, No, Sets}
use Rattle.iccma_tasks.specs.declared.task.Problem.{Problem}
use Rattle.iccma_tasks.specs.declared.task.Problem.TheVariants.{Credulous, Sceptical, SomeExtension, AllExtensions}
use Rattle.iccma_tasks.specs.declared.task.Semantics.{Semantics}
use Rattle.iccma_tasks.specs.declared.task.Semantics.TheVariants.{Grounded, Ideal}
use Rattle.iccma_tasks.specs.Tasks.{Asked}
use Rattle.certificate_claims.specs.Rights.{AreAll, IsExtension, IsRight, IsRightOf, IsRightCredulous, IsRightSceptical, IsRightSome, IsRightAll, SetsRise}
use Rattle.certificate_claims.specs.Agreement.{AgreeOn, AgreesWithRight, HasOneAtMost, HaveSameSets}
use Rattle.certificate_claims.specs.Laws.{RightAnswersAgree}
use Rattle.certificate_claims.proofs.KindFacts.{grounded_is, ideal_within}
use Rattle.lists.proofs.RisingLists.{IsAsymmetric, same_lists, same_rising}

-- ---- one set

turned : (s t : List ℕ) → HasSameMembers s t → HasSameMembers t s
turned s t same = record { there = same.back; back = same.there }

-- two extensions by a semantics that has one at most
one_alone : (f : Framework) (semantics : Semantics) (s t : List ℕ) → HasOneAtMost semantics
    → IsExtension f semantics s → IsExtension f semantics t → HasSameMembers s t
one_alone f Grounded s t one left right =
    let l = (grounded_is f s).0 left in
    let r = (grounded_is f t).0 right in record { there = l.least t r.complete; back = r.least s l.complete }
one_alone f Ideal s t one left right =
    record { there = ideal_within f s t left right; back = ideal_within f t s right left }
one_alone f _ s t one left right = absurd one

-- sets whose numbers rise are equal by their members
one_form : (s t : List ℕ) → IsStrictlyIncreasing s → IsStrictlyIncreasing t → HasSameMembers s t → s ≡ t
one_form s t up_s up_t same = same_rising s t up_s up_t (λ a. (same.there a, same.back a))

-- ---- lists of sets

none_shown : HaveSameSets [] []
none_shown = record { there = λ e c. absurd (Contains-nil e c); back = λ e c. absurd (Contains-nil e c) }

listed_alone : (s t e : List ℕ) → HasSameMembers t s → Contains (s ∷ []) e → IsListed (t ∷ []) e
listed_alone s t e same c = record {
  set = t;
  member = Contains-head t [] t refl;
  same = ⊎_elim (λ is. subst (λ x. HasSameMembers t x) is same) (λ later. absurd (Contains-nil e later))
      (Contains-cons_cases s [] e c);
}

one_shown : (s t : List ℕ) → HasSameMembers s t → HaveSameSets (s ∷ []) (t ∷ [])
one_shown s t same = record {
  there = λ e c. listed_alone s t e (turned s t same) c;
  back = λ e c. listed_alone t s e same c;
}

all_shown : (f : Framework) (semantics : Semantics) (xs ys : List (List ℕ)) → AreAll f semantics xs
    → AreAll f semantics ys → HaveSameSets xs ys
all_shown f semantics xs ys left right = record {
  there = λ e c. right.all e (left.each e c);
  back = λ e c. left.all e (right.each e c);
}

-- sets in order are the same list if each is listed in the other
abbrev IsSooner : List ℕ → List ℕ → Type 0
IsSooner s t = slice_cmp nat_cmp s t ≡ Less

no_less_back : (o : Ordering) → o ≡ Less → o ≡ ordering_reverse Less → ⊥
no_less_back Less h k = absurd (cc)
no_less_back Equal h k = absurd (cc)
no_less_back Greater h k = absurd (cc)

sooner_asymmetric : IsAsymmetric IsSooner
sooner_asymmetric s t h k =
    no_less_back (slice_cmp nat_cmp s t) h (nat_list_cmp_total.antisymm s t ∙ ap ordering_reverse k)

pairs_rise : (sets : List (List ℕ)) → SetsRise sets → AllPairs IsSooner sets
pairs_rise sets rise i j d less within =
    subst (λ s. slice_cmp nat_cmp s (slice_index_or sets j d) ≡ Less) (get_or_default sets i [] d (omega arith))
    (subst (λ t. slice_cmp nat_cmp (slice_index_or sets i []) t ≡ Less) (get_or_default sets j [] d within)
    (rise i j less within))

listed_is : (sets : List (List ℕ)) (e : List ℕ) → All IsStrictlyIncreasing sets → IsStrictlyIncreasing e
    → IsListed sets e → Contains sets e
listed_is sets e all_up up is =
    subst (λ s. Contains sets s)
    (one_form is.set e (All-contains IsStrictlyIncreasing sets is.set all_up is.member) up is.same) is.member

one_list : (xs ys : List (List ℕ)) → HaveSameSets xs ys → SetsRise xs → SetsRise ys
    → All IsStrictlyIncreasing xs → All IsStrictlyIncreasing ys → xs ≡ ys
one_list xs ys same rise_x rise_y up_x up_y =
    same_lists IsSooner sooner_asymmetric xs ys (pairs_rise xs rise_x) (pairs_rise ys rise_y) (λ e. (
      λ c. listed_is ys e up_y (All-contains IsStrictlyIncreasing xs e up_x c) (same.there e c),
      λ c. listed_is xs e up_x (All-contains IsStrictlyIncreasing ys e up_y c) (same.back e c),
    ))

-- ---- answers

credulous_agree : (f : Framework) (semantics : Semantics) (q : ℕ) (a b : Answer) → IsRightCredulous f semantics q a
    → IsRightCredulous f semantics q b → AgreeOn Credulous semantics a b
credulous_agree f semantics q (Yes (Some e)) (Yes (Some t)) l r = record {
  side = tt;
  sets = λ one. one_shown e t (one_alone f semantics e t one l.0 r.0);
  same = λ one up_e up_t. ap (λ s. Yes (Some s)) (one_form e t up_e up_t (one_alone f semantics e t one l.0 r.0));
}
credulous_agree f semantics q (Yes (Some e)) (No None) l r = absurd (r e l.0 l.1)
credulous_agree f semantics q (Yes (Some e)) _ l r = absurd r
credulous_agree f semantics q (No None) (Yes (Some t)) l r = absurd (l t r.0 r.1)
credulous_agree f semantics q (No None) (No None) l r =
    record { side = tt; sets = λ one. none_shown; same = λ one up_a up_b. refl }
credulous_agree f semantics q (No None) _ l r = absurd r
credulous_agree f semantics q _ b l r = absurd l

sceptical_agree : (f : Framework) (semantics : Semantics) (q : ℕ) (a b : Answer) → IsRightSceptical f semantics q a
    → IsRightSceptical f semantics q b → AgreeOn Sceptical semantics a b
sceptical_agree f semantics q (No (Some e)) (No (Some t)) l r = record {
  side = tt;
  sets = λ one. one_shown e t (one_alone f semantics e t one l.0 r.0);
  same = λ one up_e up_t. ap (λ s. No (Some s)) (one_form e t up_e up_t (one_alone f semantics e t one l.0 r.0));
}
sceptical_agree f semantics q (No (Some e)) (Yes None) l r = absurd (l.1 (r e l.0))
sceptical_agree f semantics q (No (Some e)) _ l r = absurd r
sceptical_agree f semantics q (Yes None) (No (Some t)) l r = absurd (r.1 (l t r.0))
sceptical_agree f semantics q (Yes None) (Yes None) l r =
    record { side = tt; sets = λ one. none_shown; same = λ one up_a up_b. refl }
sceptical_agree f semantics q (Yes None) _ l r = absurd r
sceptical_agree f semantics q _ b l r = absurd l

some_agree : (f : Framework) (semantics : Semantics) (a b : Answer) → IsRightSome f semantics a
    → IsRightSome f semantics b → AgreeOn SomeExtension semantics a b
some_agree f semantics (Sets (e ∷ [])) (Sets (t ∷ [])) l r = record {
  side = tt;
  sets = λ one. one_shown e t (one_alone f semantics e t one l r);
  same = λ one up_e up_t. ap (λ s. Sets (s ∷ [])) (one_form e t (All-head IsStrictlyIncreasing e [] up_e)
      (All-head IsStrictlyIncreasing t [] up_t) (one_alone f semantics e t one l r));
}
some_agree f semantics (Sets (e ∷ [])) (No None) l r = absurd (r e l)
some_agree f semantics (Sets (e ∷ [])) _ l r = absurd r
some_agree f semantics (No None) (Sets (t ∷ [])) l r = absurd (l t r)
some_agree f semantics (No None) (No None) l r =
    record { side = tt; sets = λ one. none_shown; same = λ one up_a up_b. refl }
some_agree f semantics (No None) _ l r = absurd r
some_agree f semantics _ b l r = absurd l

all_agree : (f : Framework) (semantics : Semantics) (a b : Answer) → IsRightAll f semantics a
    → IsRightAll f semantics b → AgreeOn AllExtensions semantics a b
all_agree f semantics (Sets (e ∷ es)) (Sets (t ∷ ts)) l r =
    let shown = all_shown f semantics (e ∷ es) (t ∷ ts) l r in
    record {
      side = tt;
      sets = λ fixed. shown;
      same = λ fixed up_a up_b. ap Sets (one_list (e ∷ es) (t ∷ ts) shown l.rise r.rise up_a up_b);
    }
all_agree f semantics (Sets (e ∷ es)) (No None) l r = absurd (r e (l.each e (Contains-head e es e refl)))
all_agree f semantics (Sets (e ∷ es)) _ l r = absurd r
all_agree f semantics (No None) (Sets (t ∷ ts)) l r = absurd (l t (r.each t (Contains-head t ts t refl)))
all_agree f semantics (No None) (No None) l r =
    record { side = tt; sets = λ fixed. none_shown; same = λ fixed up_a up_b. refl }
all_agree f semantics (No None) _ l r = absurd r
all_agree f semantics _ b l r = absurd l

agree_on : (f : Framework) (problem : Problem) (semantics : Semantics) (number : Option ℕ) (a b : Answer)
    → IsRightOf f problem semantics number a → IsRightOf f problem semantics number b → AgreeOn problem semantics a b
agree_on f Credulous semantics (Some q) a b l r = credulous_agree f semantics q a b l r
agree_on f Sceptical semantics (Some q) a b l r = sceptical_agree f semantics q a b l r
agree_on f SomeExtension semantics None a b l r = some_agree f semantics a b l r
agree_on f AllExtensions semantics None a b l r = all_agree f semantics a b l r
agree_on f _ semantics _ a b l r = absurd l

pub right_agree : RightAnswersAgree
right_agree f asked a b l r = agree_on f asked.task.problem asked.task.semantics asked.number a b l r

-- so each right answer agrees with one that is right
pub agrees_with_right : (f : Framework) (asked : Asked) (answer : Answer) → IsRight f asked answer
    → AgreesWithRight f asked answer
agrees_with_right f asked answer right other is = right_agree f asked other answer is right
