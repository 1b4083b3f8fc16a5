-- The numbers of a pair, and where they are read. Assumes nothing.
use Rattle.std.specs.Prelude.{ℕ, ◌+◌, ◌*◌, ◌≤◌, ◌<◌, ◌≡◌, true, length}
use Rattle.folds.specs.Folds.{upto}
use Rattle.ot_layouts.specs.Values.{field_count}
use Rattle.store_rules.specs.Store.{Store, sound, bytes_of}
use Rattle.pair_rules.specs.Pairs.{Pair, number_of}
use Rattle.pair_values.specs.declared.PairAnswer.{PairAnswer}

-- "a struct of a flag and two arrays of eight numbers"
abbrev pub as_pair : PairAnswer → Pair
as_pair a = record { found = a.found; first = a.first; second = a.second }

-- a value record of format vf stands at q of object o, whole
pub record ValueRecord (s : Store) (o q vf : ℕ) : Type 0 where
  pub sounds : sound s ≡ true
  pub used : o < s.object_count
  pub within : q + 2 * field_count vf ≤ length (bytes_of s o)

-- two value records, the second behind the first
abbrev pub value_pair : Store → ℕ → ℕ → ℕ → ℕ → Pair
value_pair s v w o q =
    record { found = true; first = upto (number_of s o q v) 8; second = upto (number_of s o (q + 2 * field_count v) w) 8 }
