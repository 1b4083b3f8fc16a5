-- Writing the two arrays of a table: what each step may do, and what they leave together. Assumes nothing.
use Prim.Native.Nat.{ℕ, ◌+◌, ◌-◌, ◌*◌, ◌≤◌, ◌<◌}
use mathlib.Core.Path.{◌≡◌}
use mathlib.Core.List.{List, [], ◌∷◌}
use native.Mathlib.Omega.{arith}
use lib.ListN.{length}
use Rattle.folds.specs.Lists.{put}
use Rattle.store_object_rows.specs.Objects.{Laid, ObjectsRoom, Written}
use Rattle.store_object_rows.proofs.Writing.{written_one, one_fits, one_small, rest_room, rest_done}
use Rattle.mark_rules.specs.Written.{new_base_array}
use Rattle.mark_new_table.specs.Arrays.{mark_array_of, arrays_of}
use Rattle.mark_new_table.proofs.Bytes.{array_long, bases_long_lem}

module _ {d o : List ℕ} {at row : ℕ} (ks : List ℕ) (bases lo hi : ℕ) (room : ObjectsRoom d o at row (arrays_of ks bases lo hi)) where
  -- the base array
  abbrev base : List ℕ
  base = new_base_array bases (hi - lo)

  pub marks_fit : at + (2 + 4 * length ks) ≤ length d
  marks_fit = omega (arith, one_fits (mark_array_of lo ks) (base ∷ []) room, array_long lo ks)

  module _ {d' : List ℕ} {middle : ℕ} (m : Laid d at (mark_array_of lo ks) d' middle) where
    pub middle_small : middle < 4294967296
    middle_small = one_small (mark_array_of lo ks) (base ∷ []) room m.ends

    module _ {o' : List ℕ} (g : o' ≡ put o (2 * row) (at ∷ middle ∷ [])) where
      base_room : ObjectsRoom d' o' middle (row + 1) (base ∷ [])
      base_room = rest_room (mark_array_of lo ks) (base ∷ []) room m.bytes g m.ends

      pub base_fits : middle + (2 + 2 * (bases * (hi - lo))) ≤ length d'
      base_fits = omega (arith, one_fits base [] base_room, bases_long_lem bases (hi - lo))

      module _ {d'' : List ℕ} {end : ℕ} (b : Laid d' middle base d'' end) where
        pub end_small : end < 4294967296
        end_small = one_small base [] base_room b.ends

        pub arrays_done : {o'' : List ℕ} → o'' ≡ put o' (2 * (row + 1)) (middle ∷ end ∷ []) → Written d o at row (arrays_of ks bases lo hi) d'' o'' end
        arrays_done h = rest_done (mark_array_of lo ks) (base ∷ []) room m.bytes g m.ends (written_one base b.bytes h b.ends)
