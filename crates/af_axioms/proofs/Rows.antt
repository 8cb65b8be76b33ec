-- Each row of the table of axioms is true in every world.
use Rattle.std.proofs.Common.{◌≤◌, ◌<◌, ◌+◌, ℕ, List, [], ◌∷◌, arith, subst, sym, inl, inr, ⊎_elim}
use Rattle.std.specs.Prelude.{Contains}
use Rattle.std.proofs.lemmas.Bool.{cases_eq, cases_lt}
use Rattle.meaning_atoms.specs.declared.atom.Atom.TheVariants.{Member, Live, Attack, Gap, Tail, Unmet, Range}
use Rattle.meaning_atoms.specs.declared.atom.Atom.TheVariants.{Cf, Ad, Co, St}
use Rattle.meaning_atoms.specs.declared.axiom.AfAxiom.{AfAxiom}
use Rattle.meaning_atoms.specs.declared.axiom.AfAxiom.TheVariants.{A1, A2, A3, A4, A5, A6, A7, A8, A9, A10, A11, A12, A13, A14}
use Rattle.meaning_atoms.specs.semantics.specs.Framework.{Af, Attacks, IsAttackedBy, Defends}
use Rattle.meaning_atoms.specs.semantics.specs.Frameworks.{Framework, af, aba}
use Rattle.meaning_atoms.specs.declared.atom.AtomLit.{AtomLit}
use Rattle.meaning_atoms.specs.Worlds.{world_of, IsWorldOf, IsAfWorld, HasGap, HasTail, HasUnmet, IsTrueBeside, IsValid}
use Rattle.meaning_atoms.specs.semantics.proofs.Decided.{decide_attacked}
use Rattle.meaning_atoms.proofs.Valuations.{decide_unmet}
use Rattle.meaning_atoms.proofs.Clauses.{so, or_else, given}
use Rattle.meaning_atoms.proofs.NotionClauses.{IsValidOfAf, notions_of_af}
use Rattle.af_axioms.specs.Table.{table_clause}
use Rattle.af_axioms.proofs.AbaRows.{rows_of_aba}

-- the number of an attacker lies before the end of all positions
before_end : (f : Af) (s : List ℕ) → IsAfWorld f s → (b a : ℕ) → Attacks f b a → b < 1000001
before_end f s ok b a at = let high = (ok.framework.live b (ok.framework.form.ends b a at).0).high in omega arith

-- a set that attacks an argument does so by a member of number 1 or more
tail_from : (f : Af) (s : List ℕ) → IsAfWorld f s → (a : ℕ) → IsAttackedBy f s a
    → HasTail f s a 1
tail_from f s ok a hit =
    record { attacker = hit.0; late = (ok.members hit.0 hit.1).low; member = hit.1; attack = hit.2 }

-- what has no unmet attacker is defended
met_is_defended : (f : Af) (s : List ℕ) → IsAfWorld f s → (a : ℕ) → (HasUnmet f s a 1 → ⊥)
    → Defends f s a
met_is_defended f s ok a none b at =
    let low = (ok.framework.live b (ok.framework.form.ends b a at).0).low in
    ⊎_elim (λ hit. hit) (λ unmet. absurd (none (record { attacker = b; late = low; attack = at; unmet = unmet })))
    (decide_attacked f s b)

-- an attacker from i on, where there is none from i to just before j, is j or a later one
past_gap : (f : Af) (a b i j : ℕ) → HasGap f a i j → Attacks f b a → i ≤ b → j ≤ b
past_gap f a b i j gap at late = ⊎_elim (λ lt. absurd (gap b at late lt)) (λ ge. ge) (cases_lt b j)

members_are_live : (a : ℕ) → IsValidOfAf (table_clause (A1 a))
members_are_live a f s ok sides =
    let w = world_of (af f) s in
    given w sides Cf _ (λ free. given w sides (Member a) _ (λ member.
    so w sides (Live a) [] (free.live a member)))

members_are_apart : (b a : ℕ) → IsValidOfAf (table_clause (A2 b a))
members_are_apart b a f s ok sides =
    let w = world_of (af f) s in
    given w sides Cf _ (λ free. given w sides (Attack b a) _ (λ at. given w sides (Member a) _ (λ target.
    given w sides (Member b) _ (λ attacker. absurd (free.apart b a attacker target at)))))

attackers_are_attacked : (b a : ℕ) → IsValidOfAf (table_clause (A3 b a))
attackers_are_attacked b a f s ok sides =
    let w = world_of (af f) s in
    given w sides Ad _ (λ ad. given w sides (Attack b a) _ (λ at. given w sides (Member a) _ (λ member.
    so w sides (Tail b 1) [] (tail_from f s ok b (ad.defended a member b at)))))

members_attack : (b a : ℕ) → IsValidOfAf (table_clause (A4 b a))
members_attack b a f s ok sides =
    let w = world_of (af f) s in
    given w sides (Attack b a) _ (λ at. given w sides (Member b) _ (λ member.
    so w sides (Tail a 1) [] (tail_from f s ok a (b, member, at))))

tail_steps : (a i j : ℕ) → IsValidOfAf (table_clause (A5 a i j))
tail_steps a i j f s ok sides =
    let w = world_of (af f) s in
    given w sides (Tail a i) _ (λ tail. given w sides (Gap a i j) _ (λ gap.
    let past = past_gap f a tail.attacker i j gap tail.attack tail.late in
    or_else w sides (Member j) _ (λ out. so w sides (Tail a (j + 1)) []
    (⊎_elim (λ same. absurd (out (subst (λ (b : ℕ). Contains s b) same tail.member)))
    (λ other. record { attacker = tail.attacker; late = omega arith; member = tail.member; attack = tail.attack })
    (cases_eq tail.attacker j)))))

tail_ends : (a i : ℕ) → IsValidOfAf (table_clause (A6 a i))
tail_ends a i f s ok sides =
    let w = world_of (af f) s in
    given w sides (Tail a i) _ (λ tail. given w sides (Gap a i 1000001) _ (λ gap.
    absurd (gap tail.attacker tail.attack tail.late (before_end f s ok tail.attacker a tail.attack))))

outsiders_have_unmet : (a : ℕ) → IsValidOfAf (table_clause (A7 a))
outsiders_have_unmet a f s ok sides =
    let w = world_of (af f) s in
    given w sides Co _ (λ co. given w sides (Live a) _ (λ live. or_else w sides (Member a) _ (λ out.
    ⊎_elim (λ unmet. so w sides (Unmet a 1) [] unmet)
    (λ none. absurd (out (co.closed a live (met_is_defended f s ok a none))))
    (decide_unmet f s a 1))))

unmet_steps : (a i j : ℕ) → IsValidOfAf (table_clause (A8 a i j))
unmet_steps a i j f s ok sides =
    let w = world_of (af f) s in
    given w sides (Unmet a i) _ (λ open_one. given w sides (Gap a i j) _ (λ gap.
    let past = past_gap f a open_one.attacker i j gap open_one.attack open_one.late in
    let attacked : ℕ → Type 0 = λ b. IsAttackedBy f s b in
    given w sides (Tail j 1) _ (λ tail. so w sides (Unmet a (j + 1)) []
    (⊎_elim
    (λ same. absurd (open_one.unmet (subst attacked (sym same) (tail.attacker, tail.member, tail.attack))))
    (λ other. record {
      attacker = open_one.attacker;
      late = omega arith;
      attack = open_one.attack;
      unmet = open_one.unmet;
    })
    (cases_eq open_one.attacker j)))))

unmet_ends : (a i : ℕ) → IsValidOfAf (table_clause (A9 a i))
unmet_ends a i f s ok sides =
    let w = world_of (af f) s in
    given w sides (Unmet a i) _ (λ open_one. given w sides (Gap a i 1000001) _ (λ gap.
    let early = before_end f s ok open_one.attacker a open_one.attack in
    absurd (gap open_one.attacker open_one.attack open_one.late early)))

outsiders_are_attacked : (a : ℕ) → IsValidOfAf (table_clause (A10 a))
outsiders_are_attacked a f s ok sides =
    let w = world_of (af f) s in
    given w sides St _ (λ st. given w sides (Live a) _ (λ live. or_else w sides (Member a) _ (λ out.
    so w sides (Tail a 1) [] (tail_from f s ok a (st.attacks_outside a live out)))))

range_is_told : (a : ℕ) → IsValidOfAf (table_clause (A11 a))
range_is_told a f s ok sides =
    let w = world_of (af f) s in
    given w sides (Range a) _ (λ range. or_else w sides (Member a) _ (λ out. so w sides (Tail a 1) []
    (⊎_elim (λ member. absurd (out member)) (λ hit. tail_from f s ok a hit) range)))

members_are_in_range : (a : ℕ) → IsValidOfAf (table_clause (A12 a))
members_are_in_range a f s ok sides =
    let w = world_of (af f) s in
    given w sides (Member a) _ (λ member. so w sides (Range a) [] (inl member))

attacked_are_in_range : (a : ℕ) → IsValidOfAf (table_clause (A13 a))
attacked_are_in_range a f s ok sides =
    let w = world_of (af f) s in
    given w sides (Tail a 1) _ (λ tail. so w sides (Range a) [] (inr (tail.attacker, tail.member, tail.attack)))

-- every row of the table
rows_of_af : (name : AfAxiom) → IsValidOfAf (table_clause name)
rows_of_af (A1 a) = members_are_live a
rows_of_af (A2 b a) = members_are_apart b a
rows_of_af (A3 b a) = attackers_are_attacked b a
rows_of_af (A4 b a) = members_attack b a
rows_of_af (A5 a i j) = tail_steps a i j
rows_of_af (A6 a i) = tail_ends a i
rows_of_af (A7 a) = outsiders_have_unmet a
rows_of_af (A8 a i j) = unmet_steps a i j
rows_of_af (A9 a i) = unmet_ends a i
rows_of_af (A10 a) = outsiders_are_attacked a
rows_of_af (A11 a) = range_is_told a
rows_of_af (A12 a) = members_are_in_range a
rows_of_af (A13 a) = attacked_are_in_range a
rows_of_af (A14 part) = notions_of_af part

-- in worlds of each kind
rows_of : (name : AfAxiom) (f : Framework) (s : List ℕ) → IsWorldOf f s → (sides : List (List AtomLit))
    → IsTrueBeside (record { framework = f; set = s }) sides (table_clause name)
rows_of name (af f) s ok sides = rows_of_af name f s ok sides
rows_of name (aba f) s ok sides = rows_of_aba name f s ok sides

pub rows_are_valid : (name : AfAxiom) → IsValid (table_clause name)
rows_are_valid name w ok sides = rows_of name w.framework w.set ok sides
