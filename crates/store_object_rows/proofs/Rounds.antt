-- Rounds of new objects, one behind another: a loop that writes those of one round in each turn. Assumes nothing.
use Prim.Native.Nat.{ℕ, ◌+◌, ◌<◌, ◌≤◌}
use mathlib.Core.Path.{◌≡◌, refl, sym, subst, ap}
use mathlib.Core.List.{List, ◌++◌}
use native.Mathlib.Omega.{arith}
use lib.ListN.{length, length-append}
use Rattle.folds.specs.Folds.{flat}
use Rattle.folds.proofs.Folds.{flat_none, flat-more, flat_split}
use Rattle.store_object_rows.specs.Objects.{ObjectsRoom, Written}
use Rattle.store_object_rows.proofs.Writing.{written_none, data_long, rows_long, room_first, room_rest, written_more}

-- of n rounds of m objects each, the first j are written
pub record Rounds (d o : List ℕ) (bytes count : ℕ) (objects : ℕ → List (List ℕ)) (n m : ℕ) (d' o' : List ℕ) (at row j : ℕ) : Type 0 where
  pub room : ObjectsRoom d o bytes count (flat objects n)
  pub each : (k : ℕ) → length (objects k) ≡ m
  pub some : j ≤ n
  pub written : Written d o bytes count (flat objects j) d' o' at
  pub row_is : row ≡ count + length (flat objects j)
  pub same_data : length d' ≡ length d
  pub same_rows : length o' ≡ length o

module _ (d o : List ℕ) (bytes count : ℕ) (objects : ℕ → List (List ℕ)) (n m : ℕ) where
  pub rounds_start : ObjectsRoom d o bytes count (flat objects n) → ((k : ℕ) → length (objects k) ≡ m) → Rounds d o bytes count objects n m d o bytes count 0
  rounds_start room each =
      record {
        room = room;
        each = each;
        some = omega arith;
        written = subst (λ (new : List (List ℕ)). Written d o bytes count new d o bytes) (sym (flat_none objects)) (written_none d o bytes count);
        row_is = omega (arith, ap length (flat_none objects));
        same_data = refl;
        same_rows = refl;
      }

  module _ (d' o' : List ℕ) (at row j : ℕ) (t : Rounds d o bytes count objects n m d' o' at row j) where
    pub rounds_stop : n ≤ j → Written d o bytes count (flat objects n) d' o' at
    rounds_stop h = let z : j ≡ n = omega (arith, t.some) in subst (λ (i : ℕ). Written d o bytes count (flat objects i) d' o' at) z t.written

    module _ (h : j < n) where
      -- there is room for one round more
      more_room : ObjectsRoom d o bytes count (flat objects j ++ objects j)
      more_room =
          let (others, q) = flat_split objects j n h in
          room_first (flat objects j ++ objects j) others (subst (λ (new : List (List ℕ)). ObjectsRoom d o bytes count new) q t.room)

      pub written_room : ObjectsRoom d o bytes count (flat objects j)
      written_room = room_first (flat objects j) (objects j) more_room

      pub next_room : ObjectsRoom d' o' at row (objects j)
      next_room = subst (λ (i : ℕ). ObjectsRoom d' o' at i (objects j)) (sym t.row_is) (room_rest (flat objects j) (objects j) more_room t.written)

      pub row_fits : row + m ≤ length o
      row_fits = omega (arith, next_room.rows, t.each j, t.same_rows)

      pub rounds_turn : (d'' o'' : List ℕ) (r : ℕ) → Written d' o' at row (objects j) d'' o'' r → Rounds d o bytes count objects n m d'' o'' r (row + m) (j + 1)
      rounds_turn d'' o'' r w =
          let both : Written d o bytes count (flat objects j ++ objects j) d'' o'' r
          = written_more (flat objects j) (objects j) more_room t.written (subst (λ (i : ℕ). Written d' o' at i (objects j) d'' o'' r) t.row_is w) in
          record {
            room = t.room;
            each = t.each;
            some = omega arith;
            written = subst (λ (new : List (List ℕ)). Written d o bytes count new d'' o'' r) (sym (flat-more objects j)) both;
            same_data = data_long more_room both;
            same_rows = rows_long more_room both;
            row_is = omega (arith, t.row_is, ap length (flat-more objects j), length-append (flat objects j) (objects j), t.each j);
          }
