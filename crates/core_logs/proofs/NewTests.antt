-- What the tests of parts and of hints come to.
use Rattle.std.proofs.Common.{◌≡◌, ℕ, Bool, true, false, not, List, filter, length, ap, sym, subst, ◌∙◌}
use Rattle.std.specs.Prelude.{◌↔◌, IsTrue, IfOk, Contains, Result, Ok, Err}
use Rattle.std.proofs.lemmas.Bool.{false≢true}
use Rattle.lists.specs.declared.memory.Memory.{Memory}
use Rattle.lists.proofs.Filters.{Contains-filter}
use Rattle.plain_lits.specs.HintCheck.{Checks}
use Rattle.meaning_atoms.specs.declared.atom.AtomLit.{AtomLit}
use Rattle.meaning_atoms.specs.Literals.{negated}
use Rattle.oracle_face.specs.Logs.{HasPart, LogStep, clauses_of, step_at, working}
use Rattle.session_log.specs.Steps.{FollowsByHints, StandsInHint}
use Rattle.core_logs.specs.Tests.{IsKeptHint, IsMet, IsPartOf, IsUsed, IsWorkingPart}
use Rattle.core_logs.proofs.Walked.{IsSome}
use Rattle.lists.proofs.Images.{image_there, image_from}
use Rattle.lists.proofs.TruthValues.{is_denied}

abbrev clause_in : LogStep → List AtomLit
clause_in step = step.clause

abbrev in_use : LogStep → Bool
in_use step = not step.closing

-- ---- parts

pub part_is : (b : Bool) (steps : List LogStep) (clause : List AtomLit)
    → IsTrue b ↔ IsSome (λ step. IsPartOf step clause) steps → IsTrue b ↔ HasPart (clauses_of steps) clause
part_is b steps clause h = (
  λ t. let w = h.0 t in record {
    part = w.item.clause;
    listed = image_there clause_in steps w.item w.there;
    inside = w.is.inside;
  },
  λ w. let m = image_from clause_in steps w.part w.listed in h.1 (record {
    item = m.0;
    there = m.1;
    is = record { inside = λ l c. w.inside l (subst (λ (p : List AtomLit). Contains p l) m.2 c) };
  }),
)

not_true : (b : Bool) → b ≡ false → not b ≡ true
not_true b e = ap not e

pub working_part_is : (b : Bool) (steps : List LogStep) (clause : List AtomLit)
    → IsTrue b ↔ IsSome (λ step. IsWorkingPart step clause) steps → IsTrue b ↔ HasPart (working steps) clause
working_part_is b steps clause h = (
  λ t. let w = h.0 t in record {
    part = w.item.clause;
    listed = image_there clause_in (filter in_use steps) w.item
        ((Contains-filter in_use steps w.item).1 (w.there, not_true w.item.closing w.is.works));
    inside = w.is.inside;
  },
  λ w. let m = image_from clause_in (filter in_use steps) w.part w.listed in
      let k = (Contains-filter in_use steps m.0).0 m.1 in h.1 (record {
        item = m.0;
        there = k.0;
        is = record {
          works = is_denied m.0.closing k.1;
          inside = λ l c. w.inside l (subst (λ (p : List AtomLit). Contains p l) m.2 c);
        };
      }),
)

-- ---- hints

pub used_is : (b : Bool) (steps : List LogStep) (clause given : List AtomLit) (hints : List ℕ) (hint : ℕ)
    → given ≡ (step_at steps hint).clause
    → IsTrue b ↔ ((l : AtomLit) → Contains given l → IsMet steps clause hints l)
    → IsTrue b ↔ IsUsed steps clause hints hint
used_is b steps clause given hints hint e h = (
  λ t. record { met = λ l c. (h.0 t) l (subst (λ (g : List AtomLit). Contains g l) (sym e) c) },
  λ u. h.1 (λ l c. u.met l (subst (λ (g : List AtomLit). Contains g l) e c)),
)

-- a test that fails where a part of it must hold
pub none_follows : {P Q : Type 0} (b : Bool) → IsTrue b ↔ P → b ≡ false → (Q → P) → IsTrue false ↔ Q
none_follows b h e to = (λ t. absurd (false≢true t), λ q. absurd (false≢true (sym e ∙ h.1 (to q))))

pub follow_used : (steps : List LogStep) (clause : List AtomLit) (hints : List ℕ)
    → FollowsByHints steps clause hints → (hint : ℕ) → Contains hints hint → IsUsed steps clause hints hint
follow_used steps clause hints follows hint there = record {
  met = λ l c. follows.used l (record { hint = hint; listed = there; there = c });
}

pub follow_kept : (steps : List LogStep) (clause : List AtomLit) (hints : List ℕ)
    → FollowsByHints steps clause hints → (hint : ℕ) → Contains hints hint → IsKeptHint steps hint
follow_kept steps clause hints follows hint there = record { kept = follows.kept hint there }

pub follows_is : (kept used come taken : Bool) (steps : List LogStep) (clause : List AtomLit) (hints : List ℕ)
    → IsTrue kept ↔ ((hint : ℕ) → Contains hints hint → IsKeptHint steps hint) → kept ≡ true
    → IsTrue used ↔ ((hint : ℕ) → Contains hints hint → IsUsed steps clause hints hint) → used ≡ true
    → IsTrue come ↔ ((l : AtomLit) → Contains clause l → StandsInHint steps hints l) → come ≡ true
    → IsTrue taken ↔ Checks negated (clauses_of steps) clause hints (Ok (length hints))
    → IsTrue taken ↔ FollowsByHints steps clause hints
follows_is kept used come taken steps clause hints hk ek hu eu hc ec ht = (
  λ t. record {
    checks = ht.0 t;
    kept = λ hint c. ((hk.0 ek) hint c).kept;
    used = λ l s. ((hu.0 eu) s.hint s.listed).met l s.there;
    come = hc.0 ec;
  },
  λ follows. ht.1 follows.checks,
)

-- what a call decides where it gives an answer
pub ok_carried : {P Q : Type 0} (r : Result Bool Memory) → IfOk r (λ b. IsTrue b ↔ P)
    → ((b : Bool) → IsTrue b ↔ P → IsTrue b ↔ Q) → IfOk r (λ b. IsTrue b ↔ Q)
ok_carried (Ok b) h to = to b h
ok_carried (Err e) h to = tt
