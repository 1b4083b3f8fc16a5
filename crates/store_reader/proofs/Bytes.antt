-- An object's bytes, and what is handed out of them. Assumes nothing.
use Prim.Native.Nat.{ℕ, ◌<◌, ◌≤◌}
use mathlib.Core.Bool.{Bool, true, false, not}
use mathlib.Core.List.{[]}
use mathlib.Core.Path.{◌≡◌, sym, ◌∙◌}
use native.Mathlib.Omega.{arith}
use lib.Dec.{ltb}
use lib.ListN.{length}
use borrow.Author.Tests.{lt-ltb, le-ltb, not-true, not-false}
use Rattle.folds.proofs.Tests.{and_second}
use Rattle.store_rules.specs.Store.{Store, sound, bytes_of, handed_out}
use Rattle.store_rules.proofs.Sound.{Fits, sound_fits}
use Rattle.store_reader.specs.Rows.{Inside}

-- where the test of the store did not fail
pub fits_tested : (s : Store) {t : Bool} → t ≡ sound s → not t ≡ false → Fits s
fits_tested s {t} e h = sound_fits s (sym e ∙ not-false t h)

-- an object of a sound store lies within its bytes
pub inside : (s : Store) → Fits s → (i : ℕ) → i < s.object_count → Inside (length s.bytes) s.objects i
inside s f i h =
    let o = f.object i h in
    record { row = omega (arith, f.objects_in); ordered = o.ordered; inside = omega (arith, o.inside, f.bytes_in) }

module _ (s : Store) (i : ℕ) where
  pub handed_unsound : {t : Bool} → t ≡ sound s → not t ≡ true → [] ≡ handed_out s i
  unfolding handed_out
  handed_unsound {t} e h = rw (← e, not-true t h)

  pub handed_unused : s.object_count ≤ i → [] ≡ handed_out s i
  unfolding handed_out
  handed_unused h = rw (and_second (sound s) (ltb i s.object_count) (le-ltb i s.object_count h))

  pub handed : {t : Bool} → t ≡ sound s → not t ≡ false → i < s.object_count → bytes_of s i ≡ handed_out s i
  unfolding handed_out
  handed {t} e h l = rw (← e, not-false t h, lt-ltb i s.object_count l)
