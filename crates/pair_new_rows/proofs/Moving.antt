-- Rows that move up, from the last on. Assumes nothing.
use mathlib.Core.Path.{◌≡◌, refl, sym, subst, ap, ap₂, ◌∙◌}
use mathlib.Core.Logic.{⊎_elim}
use mathlib.Core.List.{List, ◌++◌}
use Prim.Native.Nat.{ℕ, ◌+◌, ◌-◌, ◌*◌, ◌≤◌, ◌<◌}
use native.Mathlib.Omega.{arith}
use lib.ListN.{length, get_or}
use Rattle.folds.specs.Lists.{put}
use Rattle.folds.proofs.Tests.{either}
use Rattle.folds.proofs.Put.{put-nil, put-below, put-before}
use Rattle.store_link_rows.specs.Rows.{segment, position_in, row, placed_row}
use Rattle.store_rules.specs.Store.{Link, per_link}
use Rattle.pair_new_rows.specs.Blocks.{moved_row, MovedUp}
use Rattle.store_link_rows.proofs.Spans.{span_empty, span_front}
use Rattle.store_link_rows.proofs.RowLaws.{row_same, same_link, placed_same, length-span}

length_moved : (ls : List ℕ) (parent down k : ℕ) → length (moved_row ls parent down k) ≡ per_link
unfolding moved_row placed_row
length_moved ls parent down k = refl

-- the same rows move alike
module _ (ls out : List ℕ) (i k : ℕ) (e : row out k ≡ row ls i) where
  pub position_same : position_in out k ≡ position_in ls i
  position_same = ap (λ (l : Link). l.position) (same_link out ls i k e)

  pub moved_same : (parent down : ℕ) → moved_row out parent down k ≡ moved_row ls parent down i
  unfolding moved_row
  moved_same parent down =
      ap (λ (q : ℕ). placed_row out parent (q - down) k) position_same
      ∙ placed_same out ls parent (position_in ls i - down) i k e

-- the moved rows are as many as they were
pub moved_long : (ls : List ℕ) (parent down lo hi : ℕ) → lo ≤ hi → per_link * lo + length (segment (moved_row ls parent down) lo hi) ≡ per_link * hi
moved_long ls parent down lo hi l = length-span (moved_row ls parent down) (length_moved ls parent down) lo hi l

-- of the rows from q on, those past the first `left` have moved up
pub record Up (ls : List ℕ) (q count to bound down parent : ℕ) (out : List ℕ) (left : ℕ) : Type 0 where
  pub few : left ≤ count
  pub free : q + count ≤ to
  pub room : per_link * to ≤ length ls
  pub down_le : down ≤ bound
  pub same : length out ≡ length ls
  pub above : (k : ℕ) → q + left ≤ k → k < q + count → bound ≤ position_in ls k
  pub is : out ≡ put ls (per_link * (to - count + left)) (segment (moved_row ls parent down) (q + left) (q + count))

pub up_start : (ls : List ℕ) (q count to bound down parent : ℕ) → q + count ≤ to → per_link * to ≤ length ls → down ≤ bound
    → Up ls q count to bound down parent ls count
up_start ls q count to bound down parent f r d =
    record {
      few = omega arith;
      free = f;
      room = r;
      down_le = d;
      same = refl;
      above = λ k l h. absurd (omega arith);
      is = put-nil ls (per_link * (to - count + count))
          ∙ ap (put ls (per_link * (to - count + count))) (sym (span_empty (moved_row ls parent down) (q + count)));
    }

module _ (ls : List ℕ) (q count to bound down parent : ℕ) (out : List ℕ) (left : ℕ) (u : Up ls q count to bound down parent out left) where
  -- what is not moved yet is as it was
  pub up_read : (i : ℕ) → i < per_link * (to - count + left) → get_or out i 0 ≡ get_or ls i 0
  up_read i l =
      ap (λ (o : List ℕ). get_or o i 0) u.is
      ∙ put-below ls (per_link * (to - count + left)) (segment (moved_row ls parent down) (q + left) (q + count)) (omega (arith, u.few, u.room, u.free)) i l

  -- where they end, the last row that is not moved yet is below the bound
  done : (0 < left → position_in ls (q + left - 1) < bound) → MovedUp ls out q count to bound down parent left
  done h =
      let e : to - count + left ≡ to - (count - left) = omega (arith, u.few, u.free) in
      record {
        few = u.few;
        above = u.above;
        below = h;
        is = u.is ∙ ap (λ (x : ℕ). put ls (per_link * x) (segment (moved_row ls parent down) (q + left) (q + count))) e;
      }

  pub up_all : left ≡ 0 → MovedUp ls out q count to bound down parent 0
  up_all e = subst (λ (r : ℕ). MovedUp ls out q count to bound down parent r) e (done (λ h. absurd (omega arith)))

  -- row i of them is the last that is not moved yet
  module _ (i : ℕ) (e : left ≡ i + 1) where
    last_row : row out (q + i) ≡ row ls (q + i)
    last_row = row_same out ls (q + i) (λ n from h. up_read n (omega (arith, u.few, u.free)))

    last : moved_row out parent down (q + i) ≡ moved_row ls parent down (q + i)
    last = moved_same ls out (q + i) (q + i) last_row parent down

    last_position : position_in out (q + i) ≡ position_in ls (q + i)
    last_position = position_same ls out (q + i) (q + i) last_row

    pub up_turn : (out' : List ℕ) → bound ≤ position_in out (q + i) → length out' ≡ length out
        → out' ≡ put out (per_link * (to - count + i)) (moved_row out parent down (q + i)) → Up ls q count to bound down parent out' i
    up_turn out' b n h =
        let f = moved_row ls parent down in
        let at : ℕ = to - count + i in
        let next : q + left ≡ q + i + 1 = omega arith in
        let long = moved_long ls parent down (q + left) (q + count) (omega (arith, u.few)) in
        record {
          few = omega (arith, u.few);
          free = u.free;
          room = u.room;
          down_le = u.down_le;
          same = n ∙ u.same;
          above = λ k lo hi. ⊎_elim
              (λ lt. let z : k ≡ q + i = omega arith in rw z (rw last_position at b))
              (λ ge. u.above k ge hi)
              (either k (q + left));
          is =
              h
              ∙ ap₂ (λ (o v : List ℕ). put o (per_link * at) v) u.is last
              ∙ put-before ls (per_link * at) (f (q + i)) (per_link * (to - count + left)) (segment f (q + left) (q + count))
              (omega (arith, length_moved ls parent down (q + i))) (omega (arith, u.few, u.free, u.room))
              ∙ ap (put ls (per_link * at))
              (ap (λ (y : ℕ). f (q + i) ++ segment f y (q + count)) next ∙ sym (span_front f (q + i) (q + count) (omega (arith, u.few))));
        }

    pub up_stop : position_in out (q + i) < bound → MovedUp ls out q count to bound down parent (i + 1)
    up_stop b =
        let last-one : q + left - 1 ≡ q + i = omega arith in
        subst (λ (r : ℕ). MovedUp ls out q count to bound down parent r) e (done (λ h. rw last-one (rw last_position at b)))
