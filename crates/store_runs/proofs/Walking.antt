-- A sound store can be walked. Assumes nothing.
use Prim.Native.Nat.{ℕ, ◌*◌, ◌≤◌}
use mathlib.Core.Path.{◌≡◌, refl, sym, ◌∙◌}
use mathlib.Core.Bool.{Bool, true, false, not}
use mathlib.Core.List.{List}
use native.Mathlib.Omega.{arith}
use lib.ListN.{length, get_or}
use Rattle.store_reader.specs.Rows.{orders, key_of, InOrder, FirstRow}
use Rattle.store_reader.proofs.Rows.{in_order_lem}
use Rattle.store_rules.specs.Store.{lent, sound}
use Rattle.store_rules.proofs.Sound.{Fits, sound_fits}
use Rattle.store_walk.specs.Marks.{Offsets, no_row, Blank, Prepared, WalkReady}
use Rattle.store_walk.proofs.Cycles.{begun_offsets}
use Rattle.store_runs.specs.Looks.{Looks}

module _ {o l c w : List ℕ} (p : Looks o l c w) where
  fits : Fits (lent p.bytes o l c)
  fits = sound_fits (lent p.bytes o l c) p.is_sound

  pub links_few : get_or c 2 0 ≤ 262144
  links_few = fits.links_most

  pub rows_sorted_lem : InOrder l (get_or c 2 0)
  rows_sorted_lem = in_order_lem (lent p.bytes o l c) fits

  pub blank : Blank l c w
  blank = record { bytes = p.bytes; objects = o; is_sound = p.is_sound; room = p.room }

  pub ready : {z : List ℕ} → Prepared l c z → WalkReady o l c no_row 1 z
  ready q = record { bytes = p.bytes; is_sound = p.is_sound; marks = q p.bytes o p.is_sound; early = omega arith }

  -- the first object's offsets
  pub offsets : {z : List ℕ} → Prepared l c z → {lo hi : ℕ} → FirstRow l (get_or c 2 0) (key_of 0 0) lo → FirstRow l (get_or c 2 0) (key_of 0 orders) hi → Offsets l lo hi
  offsets {z} q f g = begun_offsets {w = z} fits (q p.bytes o p.is_sound) p.some f {q = orders} (omega arith) g

is_true : (b : Bool) → not b ≡ false → b ≡ true
is_true true h = refl
is_true false h = let z : ◌≡◌ {A = Bool} true false = h in cc

-- after the tests
module _ (b o l c : List ℕ) {t : Bool} (e : t ≡ sound (lent b o l c)) (h : not t ≡ false) where
  tested : sound (lent b o l c) ≡ true
  tested = sym e ∙ is_true t h

  pub objects_few : get_or c 1 0 ≤ 65536
  objects_few = (sound_fits (lent b o l c) tested).objects_most

  pub can_look : (w : List ℕ) → (get_or c 1 0 ≡ 0 → ⊥) → 2 * get_or c 1 0 ≤ length w → Looks o l c w
  can_look w some room = record { bytes = b; is_sound = tested; some = omega arith; room = room }
