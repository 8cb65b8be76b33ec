-- What files over memory hold, serve and accept.
use Rattle.std.specs.Prelude.{◌≡◌, ◌≢◌, ℕ, List, [], Option, None, Some, String}
use Rattle.std.specs.BTreeMap.{BTreeMap, get_by_text}

-- what a table of files tells of each name
abbrev pub held_by : {A : Type 0} → BTreeMap (String A) (List ℕ) → List ℕ → Option (Option (List ℕ))
held_by files name = Some (get_by_text files name)

-- each fetch of a name succeeds: no call is to fail, and the name is there
pub record IsServed (failing : List ℕ) (held : Option (Option (List ℕ))) : Type 0 where
  pub unplanned : failing ≡ []
  pub there : held ≢ Some None

-- no write is known to fail: no call is to fail, and memory was never refused to the files
pub record IsAccepted (failing : List ℕ) (refusals : ℕ) : Type 0 where
  pub unplanned : failing ≡ []
  pub unrefused : refusals ≡ 0
