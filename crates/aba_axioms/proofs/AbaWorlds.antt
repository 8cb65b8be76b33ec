-- Each row of the table but the loop clause is true in every world of an assumption-based framework.
use Rattle.std.proofs.Common.{◌≡◌, ◌+◌, ◌<◌, ◌≤◌, ℕ, List, [], ◌∷◌, sym, subst, ◌∙◌, ⊎_elim, arith}
use Rattle.std.specs.Prelude.{Contains}
use Rattle.std.proofs.lemmas.Bool.{cases_eq, cases_lt}
use Rattle.meaning_atoms.specs.semantics.specs.AbaFrameworks.{Aba, AttacksAssumption, collective_of}
use Rattle.meaning_atoms.specs.semantics.specs.Collectives.{IsUnattacked}
use Rattle.meaning_atoms.specs.semantics.specs.Rules.{Rule, Derives, given as from_given, by_rule}
use Rattle.meaning_atoms.specs.aba_laws.proofs.AbaLemmas.{aba_lawful}
use Rattle.meaning_atoms.specs.aba_laws.proofs.CollectiveSets.{defends_by_rest, rest_of}
use Rattle.meaning_atoms.specs.aba_laws.proofs.DerivationLemmas.{derives_more}
use Rattle.meaning_atoms.specs.semantics.specs.Frameworks.{aba}
use Rattle.meaning_atoms.specs.declared.atom.Atom.TheVariants.{Member, Asm, Con, ConGap, Head, HGap, Body, BGap, Der, Miss, Sup, Hit}
use Rattle.meaning_atoms.specs.declared.atom.Atom.TheVariants.{Cf, Ad, Co, St}
use Rattle.meaning_atoms.specs.declared.atom.Closure.{Closure}
use Rattle.meaning_atoms.specs.declared.atom.Closure.TheVariants.{Own, Rest}
use Rattle.meaning_atoms.specs.declared.atom.AtomLit.{AtomLit}
use Rattle.meaning_atoms.specs.declared.aba_axiom.AbaAxiom.TheVariants.{B1, B2, B3, B4, B5, B6, B7, B8, B9, B9Con, B10, B11, B12, B13, B14, B15, B18, B19}
use Rattle.meaning_atoms.specs.AbaReadings.{IsInClosure}
use Rattle.meaning_atoms.specs.Literals.{affirmed}
use Rattle.meaning_atoms.specs.Worlds.{world_of, IsTrueBeside}
use Rattle.meaning_atoms.proofs.Clauses.{so, or_else, given}
use Rattle.meaning_atoms.proofs.NotionClauses.{IsValidOfAba}
use Rattle.aba_axioms.specs.AbaTable.{aba_clause, given_atom}
use Rattle.aba_axioms.proofs.FrameworkLemmas.{
  IsGivenIn,
  assumption_given,
  attack_hits,
  attacks_by,
  derived_low,
  given_low,
  has_assumption,
  head_follows,
  hit_by,
  in_closure,
  of_closure,
  rest_derives,
  same_rule,
  unmissed,
}

pub members_are_assumptions : (a : ℕ) → IsValidOfAba (aba_clause (B1 a))
members_are_assumptions a f s ok sides =
    let w = world_of (aba f) s in
    given w sides Cf _ (λ free. given w sides (Member a) _ (λ member. so w sides (Asm a) [] (free.live a member)))

pub members_follow : (a : ℕ) → IsValidOfAba (aba_clause (B2 a))
members_follow a f s ok sides =
    let w = world_of (aba f) s in
    given w sides (Member a) _ (λ member. so w sides (Der Own a) [] (from_given a member))

pub rest_is_unattacked : (a : ℕ) → IsValidOfAba (aba_clause (B3 a))
rest_is_unattacked a f s ok sides =
    let w = world_of (aba f) s in
    given w sides (Asm a) _ (λ live. or_else w sides (Hit Own a 1) _ (λ none. so w sides (Der Rest a) []
    (from_given a (record { live = live; quiet = λ at. none (attack_hits f ok.framework.form s a at) }))))

pub nothing_is_no_atom : (k : Closure) → IsValidOfAba (aba_clause (B4 k))
nothing_is_no_atom k f s ok sides =
    let w = world_of (aba f) s in
    given w sides (Der k 0) [] (λ derived.
    let low = derived_low f ok.framework.form (IsGivenIn f s k) (given_low f s k ok) 0 (of_closure f s k 0 derived) in
    absurd (omega arith))

pub heads_follow : (k : Closure) (r h : ℕ) → IsValidOfAba (aba_clause (B5 k r h))
heads_follow k r h f s ok sides =
    let w = world_of (aba f) s in
    given w sides (Head r h) _ (λ head. or_else w sides (Miss k r 1) _ (λ none. so w sides (Der k h) []
    (subst (λ x. IsInClosure f s k x) head.says (head_follows f s k head.rule head.there
    (unmissed f s k head.rule (ok.framework.form.rules_are head.rule head.there)
    (λ miss. none (record { rule = head.rule; there = head.there; numbered = head.numbered; says = miss })))))))

pub bodies_are_missed : (k : Closure) (r x : ℕ) → IsValidOfAba (aba_clause (B6 k r x))
bodies_are_missed k r x f s ok sides =
    let w = world_of (aba f) s in
    given w sides (Body r x) _ (λ body. or_else w sides (Der k x) _ (λ none. so w sides (Miss k r 1) []
    (record {
      rule = body.rule;
      there = body.there;
      numbered = body.numbered;
      says = record {
        missed = x;
        member = body.says;
        late = ((ok.framework.form.rules_are body.rule body.there).body x body.says).low;
        outside = none;
      };
    })))

-- what is not below a number, nor the number itself, is past it
past : (m j : ℕ) → (m < j → ⊥) → (m ≡ j → ⊥) → j + 1 ≤ m
past m j above other =
    ⊎_elim (λ below. absurd (above below))
    (λ _. ⊎_elim (λ e. absurd (other e)) (λ apart. omega arith) (cases_eq m j)) (cases_lt m j)

pub miss_steps : (k : Closure) (r i j : ℕ) → IsValidOfAba (aba_clause (B7 k r i j))
miss_steps k r i j f s ok sides =
    let w = world_of (aba f) s in
    given w sides (Miss k r i) _ (λ miss. given w sides (BGap r i j) _ (λ gap. given w sides (Der k j) _ (λ derived.
    let same = same_rule f ok.framework.form miss.rule gap.rule miss.there gap.there (miss.numbered ∙ sym gap.numbered) in
    let m = miss.says in
    let late = m.late in
    let member : Contains gap.rule.body m.missed = subst (λ (q : Rule). Contains q.body m.missed) same m.member in
    let later = past m.missed j (gap.says m.missed member m.late)
    (λ e. m.outside (subst (λ x. IsInClosure f s k x) (sym e) derived)) in
    so w sides (Miss k r (j + 1)) [] (record {
      rule = miss.rule;
      there = miss.there;
      numbered = miss.numbered;
      says = record { missed = m.missed; member = m.member; late = later; outside = m.outside };
    }))))

pub miss_ends : (k : Closure) (r i : ℕ) → IsValidOfAba (aba_clause (B8 k r i))
miss_ends k r i f s ok sides =
    let w = world_of (aba f) s in
    given w sides (Miss k r i) _ (λ miss. given w sides (BGap r i 1000001) _ (λ gap.
    let same = same_rule f ok.framework.form miss.rule gap.rule miss.there gap.there (miss.numbered ∙ sym gap.numbered) in
    let m = miss.says in
    let high = ((ok.framework.form.rules_are miss.rule miss.there).body m.missed m.member).high in
    let most = ok.framework.atoms in
    absurd (gap.says m.missed (subst (λ (q : Rule). Contains q.body m.missed) same m.member) m.late (omega arith))))

derived_is_given : (f : Aba) (s : List ℕ) (k : Closure) (x : ℕ) (sides : List (List AtomLit)) → IsGivenIn f s k x
    → (rest : List AtomLit) → IsTrueBeside (world_of (aba f) s) sides (affirmed (given_atom k x) ∷ rest)
derived_is_given f s Own x sides c rest = so (world_of (aba f) s) sides (Member x) rest c
derived_is_given f s Rest x sides u rest = so (world_of (aba f) s) sides (Asm x) rest u.live

pub derived_has_support : (k : Closure) (x : ℕ) → IsValidOfAba (aba_clause (B9 k x))
derived_has_support k x f s ok sides =
    let w = world_of (aba f) s in
    given w sides (Der k x) _ (λ derived. by_last k (of_closure f s k x derived))
  where
    supported : (k : Closure) (r : Rule) → Contains f.rules r → r.head ≡ x
        → ((y : ℕ) → Contains r.body y → Derives f.rules (IsGivenIn f s k) y)
        → IsTrueBeside (world_of (aba f) s) sides (affirmed (given_atom k x) ∷ affirmed (Sup k x 1) ∷ [])
    supported k r there head body =
        or_else (world_of (aba f) s) sides (given_atom k x) _ (λ out. so (world_of (aba f) s) sides (Sup k x 1) []
        (record {
          rule = r;
          there = there;
          late = (ok.framework.form.rules_are r there).low;
          head = head;
          body = λ y c. in_closure f s k y (body y c);
        }))

    by_last : (k : Closure) → Derives f.rules (IsGivenIn f s k) x
        → IsTrueBeside (world_of (aba f) s) sides (affirmed (given_atom k x) ∷ affirmed (Sup k x 1) ∷ [])
    by_last k (from_given _ p) = derived_is_given f s k x sides p _
    by_last k (by_rule r _ there head body) = supported k r there head body

pub rest_is_quiet : (a c : ℕ) → IsValidOfAba (aba_clause (B9Con a c))
rest_is_quiet a c f s ok sides =
    let w = world_of (aba f) s in
    let form = ok.framework.form in
    given w sides (Der Rest a) _ (λ rest. given w sides (Con a c) _ (λ con. given w sides (Der Own c) _ (λ derived.
    absurd ((assumption_given f form (IsUnattacked (collective_of f) s) a (has_assumption f form a c con) rest).quiet
    (attacks_by f form s a c con derived)))))

pub support_steps : (k : Closure) (x i j : ℕ) → IsValidOfAba (aba_clause (B10 k x i j))
support_steps k x i j f s ok sides =
    let w = world_of (aba f) s in
    given w sides (Sup k x i) _ (λ sup. given w sides (HGap x i j) _ (λ gap. given w sides (Miss k j 1) _ (λ miss.
    let late = sup.late in
    let later = past sup.rule.number j (gap sup.rule sup.there sup.head sup.late) (λ e.
    let same = same_rule f ok.framework.form miss.rule sup.rule miss.there sup.there (miss.numbered ∙ sym e) in
    miss.says.outside (sup.body miss.says.missed
    (subst (λ (q : Rule). Contains q.body miss.says.missed) same miss.says.member))) in
    so w sides (Sup k x (j + 1)) [] (record {
      rule = sup.rule;
      there = sup.there;
      late = later;
      head = sup.head;
      body = sup.body;
    }))))

pub support_ends : (k : Closure) (x i : ℕ) → IsValidOfAba (aba_clause (B11 k x i))
support_ends k x i f s ok sides =
    let w = world_of (aba f) s in
    given w sides (Sup k x i) _ (λ sup. given w sides (HGap x i 1000001) _ (λ gap.
    let under = (ok.framework.form.rules_are sup.rule sup.there).given in
    let most = ok.framework.rules in
    absurd (gap sup.rule sup.there sup.head sup.late (omega arith))))

pub members_are_apart : (a c : ℕ) → IsValidOfAba (aba_clause (B12 a c))
members_are_apart a c f s ok sides =
    let w = world_of (aba f) s in
    given w sides Cf _ (λ free. given w sides (Con a c) _ (λ con. given w sides (Member a) _ (λ member.
    given w sides (Der Own c) _ (λ derived.
    absurd (free.apart a member (attacks_by f ok.framework.form s a c con derived))))))

pub rest_attacks_no_member : (a c : ℕ) → IsValidOfAba (aba_clause (B13 a c))
rest_attacks_no_member a c f s ok sides =
    let w = world_of (aba f) s in
    given w sides Ad _ (λ ad. given w sides (Con a c) _ (λ con. given w sides (Member a) _ (λ member.
    given w sides (Der Rest c) _ (λ derived.
    let rest = rest_derives f s c derived in
    let hit = ad.defended a member rest.0 (λ y k. (rest.1 y k).live)
    (attacks_by f ok.framework.form rest.0 a c con rest.2) in
    absurd ((rest.1 hit.0 hit.1).quiet hit.2)))))

pub defended_are_members : (a : ℕ) → IsValidOfAba (aba_clause (B14 a))
defended_are_members a f s ok sides =
    let w = world_of (aba f) s in
    let form = ok.framework.form in
    let d = collective_of f in
    given w sides Co _ (λ co. given w sides (Asm a) _ (λ live. or_else w sides (Hit Rest a 1) _ (λ none.
    let rest = rest_of d (aba_lawful f) s in
    let quiet : AttacksAssumption f rest.0 a → ⊥ = λ at. none
    (hit_by f form s Rest a at.contrary at.is
    (derives_more f.rules (Contains rest.0) (IsUnattacked d s) (λ y k. (rest.1 y).0 k) at.contrary at.derived)) in
    so w sides (Member a) [] (co.closed a live ((defends_by_rest d (aba_lawful f) s rest.0 a rest.1).1 quiet)))))

pub outsiders_are_attacked : (a : ℕ) → IsValidOfAba (aba_clause (B15 a))
outsiders_are_attacked a f s ok sides =
    let w = world_of (aba f) s in
    given w sides St _ (λ st. given w sides (Asm a) _ (λ live. or_else w sides (Member a) _ (λ out.
    so w sides (Hit Own a 1) [] (attack_hits f ok.framework.form s a (st.attacks_outside a live out)))))

pub hit_steps : (k : Closure) (a i j : ℕ) → IsValidOfAba (aba_clause (B18 k a i j))
hit_steps k a i j f s ok sides =
    let w = world_of (aba f) s in
    given w sides (Hit k a i) _ (λ hit. given w sides (ConGap a i j) _ (λ gap. or_else w sides (Der k j) _ (λ out.
    let late = hit.late in
    let later = past hit.contrary j (gap.none hit.contrary hit.is hit.late)
    (λ e. out (subst (λ x. IsInClosure f s k x) e hit.derived)) in
    so w sides (Hit k a (j + 1)) [] (record {
      assumption = hit.assumption;
      contrary = hit.contrary;
      is = hit.is;
      late = later;
      derived = hit.derived;
    }))))

pub hit_ends : (k : Closure) (a i : ℕ) → IsValidOfAba (aba_clause (B19 k a i))
hit_ends k a i f s ok sides =
    let w = world_of (aba f) s in
    given w sides (Hit k a i) _ (λ hit. given w sides (ConGap a i 1000001) _ (λ gap.
    let high = (ok.framework.form.contraries_are a hit.contrary hit.is).1.high in
    let most = ok.framework.atoms in
    absurd (gap.none hit.contrary hit.is hit.late (omega arith))))
