-- The bytes of an object of a store of bytes. Assumes nothing.
use Prim.Native.Nat.{ℕ}
use Rattle.folds.specs.Lists.{Bytes}
use Rattle.folds.proofs.Bytes.{bytes_part}
use Rattle.store_rules.specs.Store.{Store, bytes_of, head_of, tail_of}

-- the bytes of an object of a store of bytes
pub object_bytes_lem : (s : Store) → Bytes s.bytes → (i : ℕ) → Bytes (bytes_of s i)
unfolding bytes_of
object_bytes_lem s h i = bytes_part s.bytes (head_of s i) (tail_of s i) h
