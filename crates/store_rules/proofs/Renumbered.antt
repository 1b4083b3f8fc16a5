-- An object, what it leads to, and where that leads, under other numbers in another store. Assumes nothing.
use Rattle.std.specs.Prelude.{Some}
use Prim.Native.Nat.{ℕ}
use mathlib.Core.Path.{◌≡◌, sym, ap, ◌∙◌}
use lib.Dec.{leb}
use Rattle.store_rules.specs.Store.{Store, sound, bytes_of, child_at, linked_bytes}
use Rattle.store_rules.proofs.Lookups.{mapped, linked_some}

-- object u of s is object `new u` of s', with its children and theirs
pub record SameUnder (new : ℕ → ℕ) (s s' : Store) (u : ℕ) : Type 0 where
  pub sounds : sound s' ≡ sound s
  pub used : leb s'.object_count (new u) ≡ leb s.object_count u
  pub bytes : bytes_of s' (new u) ≡ bytes_of s u
  pub links : (q : ℕ) → child_at s' (new u) q ≡ mapped new (child_at s u q)
  pub child_bytes : (q c : ℕ) → child_at s u q ≡ Some c → bytes_of s' (new c) ≡ bytes_of s c
  pub child_links : (q c : ℕ) → child_at s u q ≡ Some c → (r : ℕ) → child_at s' (new c) r ≡ mapped new (child_at s c r)

module _ {new : ℕ → ℕ} {s s' : Store} {u : ℕ} (same : SameUnder new s s' u) where
  pub child_under : (q c : ℕ) → child_at s u q ≡ Some c → child_at s' (new u) q ≡ Some (new c)
  child_under q c e = same.links q ∙ ap (mapped new) e

  pub linked_under : (q c : ℕ) → child_at s u q ≡ Some c → linked_bytes s' (new u) q ≡ linked_bytes s u q
  linked_under q c e = linked_some s' (new u) q (new c) (child_under q c e) ∙ same.child_bytes q c e ∙ sym (linked_some s u q c e)
