-- What a printer does, which adds some bytes at the end of a text.
use Rattle.std.specs.Prelude.{◌≡◌, ◌<◌, ◌≤◌, ◌+◌, length, List, ℕ, ◌++◌, Result, OnOk, OnErr, vec_capacity}
use Rattle.std.specs.Global.{Vec}

-- a text had not the room for all of these bytes, and holds a prefix of them after what it held
pub record RunsShort (old new : Vec ℕ) (bytes : List ℕ) : Type 0 where
  pub part : List ℕ
  pub rest : List ℕ
  pub parts : bytes ≡ part ++ rest
  pub text : new.items ≡ old.items ++ part
  pub room : vec_capacity old < length old.items + length bytes

-- these bytes were added, or memory ran out on the way; no room is given back
pub record Prints {A E : Type 0} (old new : Vec ℕ) (result : Result A E) (bytes : List ℕ) : Type 0 where
  pub ok : OnOk result (new.items ≡ old.items ++ bytes)
  pub err : OnErr result (RunsShort old new bytes)
  pub capacity : vec_capacity old ≤ vec_capacity new
