-- New objects written one behind another: what two runs of them leave together. Assumes nothing.
use Prim.Native.Nat.{ℕ, ◌+◌, ◌*◌, ◌<◌, ◌≤◌}
use mathlib.Core.Path.{◌≡◌, sym, ap, ◌∙◌}
use mathlib.Core.List.{List, [], ◌∷◌, ◌++◌, append-nil}
use native.Mathlib.Omega.{arith}
use lib.ListN.{length, length-append}
use Rattle.folds.specs.Lists.{put, join}
use Rattle.folds.proofs.Put.{put-nil, put_then, length-put}
use Rattle.folds.proofs.Joining.{join-append, join_long, join_one}
use Rattle.store_rules.specs.Appended.{rows_from}
use Rattle.store_rules.proofs.ObjectRows.{rows_length, rows_append}
use Rattle.store_object_rows.specs.Objects.{ObjectsRoom, Written}

pub written_none : (d o : List ℕ) (at row : ℕ) → Written d o at row [] d o at
unfolding join rows_from
written_none d o at row = record { bytes = put-nil d at; rows = put-nil o (2 * row); ends = omega arith }

pub written_one : {d o : List ℕ} {at row : ℕ} (x : List ℕ) {d' o' : List ℕ} {r : ℕ} → d' ≡ put d at x → o' ≡ put o (2 * row) (at ∷ r ∷ []) → r ≡ at + length x
    → Written d o at row (x ∷ []) d' o' r
unfolding join rows_from
written_one {d} {o} {at} {row} x e f q =
    record {
      bytes = e ∙ ap (put d at) (sym (append-nil x));
      rows = f ∙ ap (λ (n : ℕ). put o (2 * row) (at ∷ n ∷ [])) q;
      ends = omega (arith, length-append x []);
    }

-- both buffers keep their lengths
module _ {d o : List ℕ} {at row : ℕ} {new : List (List ℕ)} {d' o' : List ℕ} {r : ℕ} (room : ObjectsRoom d o at row new) (w : Written d o at row new d' o' r) where
  pub data_long : length d' ≡ length d
  data_long = ap length w.bytes ∙ length-put d at (join new) room.bytes

  pub rows_long : length o' ≡ length o
  rows_long = ap length w.rows ∙ length-put o (2 * row) (rows_from at new) (omega (arith, rows_length at new, room.rows))

module _ {d o : List ℕ} {at row : ℕ} (xs ys : List (List ℕ)) (room : ObjectsRoom d o at row (xs ++ ys)) where
  pub room_first : ObjectsRoom d o at row xs
  room_first =
      let b = room.bytes in
      let s = room.small in
      let m = room.rows in
      record {
        bytes = omega (arith, join_long xs ys);
        rows = omega (arith, length-append xs ys);
        small = omega (arith, join_long xs ys);
      }

  module _ {d' o' : List ℕ} {r : ℕ} (w : Written d o at row xs d' o' r) where
    pub room_rest : ObjectsRoom d' o' r (row + length xs) ys
    room_rest =
        let b = room.bytes in
        let s = room.small in
        let m = room.rows in
        let e = w.ends in
        record {
          bytes = omega (arith, join_long xs ys, data_long room_first w);
          rows = omega (arith, length-append xs ys, rows_long room_first w);
          small = omega (arith, join_long xs ys);
        }

    pub written_more : {d'' o'' : List ℕ} {r' : ℕ} → Written d' o' r (row + length xs) ys d'' o'' r' → Written d o at row (xs ++ ys) d'' o'' r'
    written_more v =
        let b = room.bytes in
        let m = room.rows in
        let e = w.ends in
        let e' = v.ends in
        record {
          bytes = put_then d at (join xs) r (join ys) w.bytes v.bytes e (omega arith) ∙ ap (put d at) (sym (join-append xs ys));
          rows =
              put_then o (2 * row) (rows_from at xs) (2 * (row + length xs)) (rows_from r ys) w.rows v.rows (omega (arith, rows_length at xs)) (omega arith)
              ∙ ap (λ (n : ℕ). put o (2 * row) (rows_from at xs ++ rows_from n ys)) e
              ∙ ap (put o (2 * row)) (sym (rows_append at xs ys));
          ends = omega (arith, join_long xs ys);
        }

-- one object, and others behind it
module _ {d o : List ℕ} {at row : ℕ} (x : List ℕ) (rest : List (List ℕ)) (room : ObjectsRoom d o at row (x ∷ rest)) where
  one_room : ObjectsRoom d o at row (x ∷ [])
  one_room = room_first (x ∷ []) rest room

  pub one_fits : at + length x ≤ length d
  one_fits = omega (arith, one_room.bytes, join_one x)

  pub one_row : 2 * row + 1 < length o
  one_row = omega (arith, one_room.rows)

  pub one_small : {r : ℕ} → r ≡ at + length x → r < 4294967296
  one_small q = omega (arith, one_room.small, join_one x)

  module _ {d' o' : List ℕ} {r : ℕ} (e : d' ≡ put d at x) (g : o' ≡ put o (2 * row) (at ∷ r ∷ [])) (q : r ≡ at + length x) where
    pub rest_room : ObjectsRoom d' o' r (row + 1) rest
    rest_room = room_rest (x ∷ []) rest room (written_one x e g q)

    pub rest_done : {d'' o'' : List ℕ} {r' : ℕ} → Written d' o' r (row + 1) rest d'' o'' r' → Written d o at row (x ∷ rest) d'' o'' r'
    rest_done w = written_more (x ∷ []) rest room (written_one x e g q) w
