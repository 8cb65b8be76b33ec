-- Attacks by the numbers of names.
use Rattle.std.proofs.Common.{◌≡◌, ℕ, ◌+◌, ◌<◌, List, [], ◌∷◌, ◌++◌, length, take, drop, get_or, map, sym, ap, subst, ◌∙◌, arith, take-append-drop}
use Rattle.std.specs.Prelude.{Contains}
use Rattle.std.specs.List.{AllZip}
use Rattle.std.proofs.lemmas.List.{append_assoc, take_more, get_or-map, length-map}
use Rattle.std.proofs.lemmas.Option.{slice_get_within, get_or_from_slice_get}
use Rattle.lists.proofs.Zips.{zip_push}
use Rattle.af_format.proofs.Zips.{AllZip-at}
use Rattle.apx_tgf.specs.declared.fault.NameFault.{NameFault}
use Rattle.apx_tgf.specs.Names.{IsNumberOf}
use Rattle.apx_tgf.specs.Told.{ToldAttack, IsKnown}
use Rattle.apx_tgf.specs.Numbered.{AreNumbersOf, IsUnknownAttack, IsUnknownFault}

-- a name with a number is among the names
pub number_member : (names : List (List ℕ)) (name : List ℕ) (n : ℕ) → IsNumberOf names name n → Contains names name
number_member names name n is = (
  is.index,
  slice_get_within names is.index name is.there,
  get_or_from_slice_get names is.index name name is.there,
)

pub numbered_known : (names : List (List ℕ)) (attack : ToldAttack) (numbers : ℕ × ℕ)
    → AreNumbersOf names attack numbers → IsKnown names attack
numbered_known names attack numbers are = record {
  attacker = number_member names attack.attacker numbers.0 are.attacker;
  target = number_member names attack.target numbers.1 are.target;
}

-- attacks that all have numbers are known
pub all_known : (names : List (List ℕ)) (attacks : List ToldAttack) (numbers : List (ℕ × ℕ))
    → AllZip (AreNumbersOf names) attacks numbers → (attack : ToldAttack) → Contains attacks attack
    → IsKnown names attack
all_known names attacks numbers all attack member =
    let at = AllZip-at (AreNumbersOf names) attacks numbers member.0 attack all member.1 in
    numbered_known names attack at.0 (subst (λ t. AreNumbersOf names t at.0) member.2 at.1)

take_next : {X Y : Type 0} (view : X → Y) (xs : List X) (i : ℕ) (d : X) → i < length xs
    → take (i + 1) (map view xs) ≡ take i (map view xs) ++ view (get_or xs i d) ∷ []
take_next view xs i d within =
    take_more (map view xs) i (view d) (omega (arith, length-map xs view))
    ∙ ap (λ y. take i (map view xs) ++ y ∷ []) (get_or-map view xs i d (view d) within)

pub numbers_more : {X : Type 0} (view : X → ToldAttack) (names : List (List ℕ)) (attacks : List X) (i : ℕ) (d : X)
    (numbers new : List (ℕ × ℕ)) (pair : ℕ × ℕ)
    → AllZip (AreNumbersOf names) (take i (map view attacks)) numbers → i < length attacks
    → AreNumbersOf names (view (get_or attacks i d)) pair → new ≡ numbers ++ pair ∷ []
    → AllZip (AreNumbersOf names) (take (i + 1) (map view attacks)) new
numbers_more view names attacks i d numbers new pair all within are is =
    subst (λ ns. AllZip (AreNumbersOf names) (take (i + 1) (map view attacks)) ns) (sym is)
    (subst (λ ts. AllZip (AreNumbersOf names) ts (numbers ++ pair ∷ [])) (sym (take_next view attacks i d within))
    (zip_push (AreNumbersOf names) (take i (map view attacks)) numbers (view (get_or attacks i d)) pair all are))

pub first_unknown : {X : Type 0} (view : X → ToldAttack) (names : List (List ℕ)) (attacks : List X) (i : ℕ) (d : X)
    (numbers : List (ℕ × ℕ)) (fault : NameFault)
    → AllZip (AreNumbersOf names) (take i (map view attacks)) numbers → i < length attacks
    → IsUnknownAttack names (view (get_or attacks i d)) fault → IsUnknownFault names (map view attacks) fault
first_unknown view names attacks i d numbers fault all within unknown = record {
  unknown = record {
    before = take i (map view attacks);
    unknown = view (get_or attacks i d);
    after = drop (i + 1) (map view attacks);
    attacks_are = sym (take-append-drop (i + 1) (map view attacks))
        ∙ ap (λ ts. ts ++ drop (i + 1) (map view attacks)) (take_next view attacks i d within)
        ∙ append_assoc (take i (map view attacks)) (view (get_or attacks i d) ∷ []) (drop (i + 1) (map view attacks));
    known = all_known names (take i (map view attacks)) numbers all;
    is_unknown = unknown.is_unknown;
    line_is = unknown.line_is;
  };
  cause_is = unknown.cause_is;
}
