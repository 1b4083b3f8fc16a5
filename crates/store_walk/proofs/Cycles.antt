-- A table's own rows are walked one part after another: it has a mark exactly if a way leads back to it from those that were. Assumes nothing.
use Prim.Native.Nat.{ℕ, ◌+◌, ◌≤◌, ◌<◌}
use mathlib.Core.Bool.{Bool, true, false, cond, ◌&&◌}
use mathlib.Core.List.{List}
use mathlib.Core.Logic.{◌⊎◌, inl, inr, ⊎_elim}
use mathlib.Core.Path.{◌≡◌, refl, sym, ap, subst, ◌∙◌}
use native.Mathlib.Omega.{arith}
use lib.Dec.{leb, ltb, eqb}
use lib.ListN.{length, get_or}
use borrow.Author.Tests.{ltb-true, eqb-true, eqb-false, le-leb, lt-ltb, le-ltb}
use Rattle.folds.proofs.Agree.{both_ways}
use Rattle.folds.proofs.Joined.{or_either, or-second}
use Rattle.folds.proofs.Tests.{and_both, and_intro, and_first, and_second, by_test, either, true_false}
use Rattle.store_rules.specs.Store.{Store, lent, link_at, parent_of, position_of, kind_of, size_of, offset_of}
use Rattle.store_rules.specs.Reach.{marked, reached, on_cycle, Reach}
use Rattle.store_rules.proofs.Reached.{reached_only, reached_all}
use Rattle.store_rules.proofs.Reaching.{reached_bytes, reached_more, reached_same, reached_none}
use Rattle.store_rules.proofs.LinksAscend.{place_offset}
use Rattle.store_rules.proofs.Shaped.{of_offset, of_parent, of_other, offset_inside}
use Rattle.store_rules.proofs.Sound.{Fits}
use Rattle.store_reader.specs.Rows.{orders, key_of, FirstRow}
use Rattle.store_reader.proofs.Rows.{row_place_lem, span_rows, rows_rise}
use Rattle.store_walk.specs.Marks.{between, Offsets, no_row, also_between, own_before, Back, Marks, Walked, Begun}
use Rattle.store_walk.proofs.Items.{span_own, items, ItemRows, item_rows}
use Rattle.store_walk.proofs.Marks.{stamp_below, marks_after, marks_next, marks_bytes_lem}

-- what can be reached from two sorts of rows can be reached from one of them
reach_either : {s : Store} {both p q : ℕ → Bool} → ((k : ℕ) → k < s.link_count → both k ≡ true → (p k ≡ true) ⊎ (q k ≡ true)) → {i : ℕ} → Reach s both i → Reach s p i ⊎ Reach s q i
reach_either f (Reach.seed k h a e) = ⊎_elim (λ x. inl (Reach.seed k h x e)) (λ x. inr (Reach.seed k h x e)) (f k h a)
reach_either f (Reach.step r k h p e) = ⊎_elim (λ x. inl (Reach.step x k h p e)) (λ x. inr (Reach.step x k h p e)) (reach_either f r)

-- rows from `row` up to `next` of table t are walked after some of those before them
module _ {s : Store} {t row next e : ℕ} {from : ℕ → Bool} {w w' : List ℕ} {total : ℕ} (f : Fits s) (used : t < s.object_count) (begun : 0 < e)
    (room : s.object_count ≤ length w) (earlier : (k : ℕ) → k < s.link_count → from k ≡ true → own_before s t row k ≡ true)
    (own : (k : ℕ) → k < s.link_count → between row next k ≡ true → offset_of t (link_at s k) ≡ true) (rise : row ≤ next) (d : Walked s from row next e w w' total) where
  abbrev now : List ℕ
  now = reached s (also_between from row next)

  at : get_or w' t 0 ≡ cond (marked now t) e (get_or w t 0)
  at = ap (λ (x : List ℕ). get_or x t 0) d.walk ∙ stamp_below e now w s.object_count t room used

  -- the rows before `next` are those before `row` and those that are walked
  parts : (k : ℕ) → k < s.link_count → own_before s t next k ≡ true → (own_before s t row k ≡ true) ⊎ (between row next k ≡ true)
  parts k h a =
      let (p, q) = and_both (offset_of t (link_at s k)) (ltb k next) a in
      ⊎_elim (λ l. inl (and_intro (offset_of t (link_at s k)) (ltb k row) p (lt-ltb k row l))) (λ l. inr (and_intro (leb row k) (ltb k next) (le-leb row k l) q)) (either k row)

  before_more : (k : ℕ) → k < s.link_count → own_before s t row k ≡ true → own_before s t next k ≡ true
  before_more k h a =
      let (p, q) = and_both (offset_of t (link_at s k)) (ltb k row) a in
      and_intro (offset_of t (link_at s k)) (ltb k next) p (lt-ltb k next (omega (arith, ltb-true k row q)))

  walked_more : (k : ℕ) → k < s.link_count → also_between from row next k ≡ true → own_before s t next k ≡ true
  walked_more k h a =
      ⊎_elim (λ x. before_more k h (earlier k h x))
      (λ x. and_intro (offset_of t (link_at s k)) (ltb k next) (own k h x) (and_both (leb row k) (ltb k next) x).1)
      (or_either (from k) (between row next k) a)

  found : marked now t ≡ true → Back s t next w'
  found m =
      let mark : get_or w' t 0 ≡ e = at ∙ ap (λ (x : Bool). cond x e (get_or w t 0)) m in
      lt-ltb 0 (get_or w' t 0) (omega arith) ∙ sym (reached_more s f (also_between from row next) (own_before s t next) walked_more t used m)

  missed : marked now t ≡ false → ltb 0 (get_or w' t 0) ≡ ltb 0 (get_or w t 0)
  missed m = ap (λ (x : ℕ). ltb 0 x) (at ∙ ap (λ (x : Bool). cond x e (get_or w t 0)) m)

  -- rows that were walked already are walked again
  pub back_again : Back s t next w → Back s t next w'
  back_again b = by_test (marked now t) found (λ m. missed m ∙ b)

  pub back_more : Back s t row w → Back s t next w'
  back_more b = by_test (marked now t) found none
    where
      none : marked now t ≡ false → Back s t next w'
      none m =
          missed m ∙ b
          ∙ both_ways (marked (reached s (own_before s t row)) t) (marked (reached s (own_before s t next)) t) (reached_more s f (own_before s t row) (own_before s t next) before_more t used) fewer
        where
          fewer : marked (reached s (own_before s t next)) t ≡ true → marked (reached s (own_before s t row)) t ≡ true
          fewer r =
              ⊎_elim (reached_all s (own_before s t row) f)
              (λ x. true_false (sym (reached_more s f (between row next) (also_between from row next) (λ k h. or-second (from k) (between row next k)) t used (reached_all s (between row next) f x)) ∙ m))
              (reach_either parts (reached_only s (own_before s t next) f t used r))

-- ---- an item's rows

module _ {s : Store} {t : ℕ} {at : ℕ → ℕ} {i lo hi : ℕ} (f : Fits s) (r : ItemRows s t at i lo hi) where
  item_earlier : (a k : ℕ) → k < s.link_count → items s t at a i k ≡ true → own_before s t lo k ≡ true
  item_earlier a k h x =
      let (p, q) = and_both (offset_of t (link_at s k) && leb (at a) (position_of s k)) (ltb (position_of s k) (at i)) x in
      let own = (and_both (offset_of t (link_at s k)) (leb (at a) (position_of s k)) p).0 in
      let below : lo ≤ k → ⊥ = λ l. omega (arith, r.first.above k l h, of_parent t (link_at s k) own, row_place_lem s k, place_offset (link_at s k) (of_offset t (link_at s k) own), ltb-true (position_of s k) (at i) q) in
      and_intro (offset_of t (link_at s k)) (ltb k lo) own (lt-ltb k lo (omega arith))

  item_own : (k : ℕ) → k < s.link_count → between lo hi k ≡ true → offset_of t (link_at s k) ≡ true
  item_own k h x =
      span_own t (at i) (at (i + 1)) (link_at s k) (sym (item_rows f r k h) ∙ x)

  module _ {e : ℕ} {w w' : List ℕ} {total : ℕ} (used : t < s.object_count) (begun : 0 < e) (a : ℕ) (room : s.object_count ≤ length w) (rise : lo ≤ hi)
      (d : Walked s (items s t at a i) lo hi e w w' total) where
    pub item_back : Back s t lo w → Back s t hi w'
    item_back = back_more f used begun room (item_earlier a) item_own rise d

    -- the item was walked already
    pub item_back_again : Back s t hi w → Back s t hi w'
    item_back_again = back_again f used begun room (item_earlier a) item_own rise d

-- ---- the table's first rows, and all of them

module _ {s : Store} {t lo : ℕ} {w : List ℕ} (f : Fits s) (v : Marks s no_row 1 w) (used : t < s.object_count) (first : FirstRow s.links s.link_count (key_of t 0) lo) where
  -- before the first walk nothing has a mark, and no row of the table stands before its first
  none_back : Back s t lo w
  none_back =
      let unseen : eqb (get_or w t 0) 1 ≡ false = v.seen t used ∙ reached_none s f no_row (λ k h. refl) t used in
      le-ltb 0 (get_or w t 0) (omega (arith, v.latest t used, eqb-false (get_or w t 0) 1 unseen)) ∙ sym (reached_none s f (own_before s t lo) none t used)
    where
      none : (k : ℕ) → k < s.link_count → own_before s t lo k ≡ false
      none k h =
          ⊎_elim (λ (l : k < lo). and_first (offset_of t (link_at s k)) (ltb k lo) (of_other t (link_at s k) (omega (arith, first.below k l))))
          (λ (l : lo ≤ k). and_second (offset_of t (link_at s k)) (ltb k lo) (le-ltb k lo l)) (either k lo)

  -- the rows before position q are the table's offsets there
  span : {q hi : ℕ} → q ≤ orders → FirstRow s.links s.link_count (key_of t q) hi → (k : ℕ) → k < s.link_count → between lo hi k ≡ true → offset_of t (link_at s k) ≡ true
  span {q} short next k h x = span_own t 0 q (link_at s k) (sym (span_rows s f t 0 q first next short k h) ∙ x)

  pub begun_offsets : {q hi : ℕ} → q ≤ orders → FirstRow s.links s.link_count (key_of t q) hi → Offsets s.links lo hi
  begun_offsets {q} {hi} short next k a b =
      eqb-true (kind_of s k) 0 (of_offset t (link_at s k) (span short next k (omega (arith, next.within)) (and_intro (leb lo k) (ltb k hi) (le-leb lo k a) (lt-ltb k hi b))))

  -- they are walked
  pub begun : {q hi : ℕ} {w' : List ℕ} {total : ℕ} → q ≤ orders → FirstRow s.links s.link_count (key_of t q) hi → Walked s no_row lo hi 1 w w' total → Begun s t q w'
  begun {q} {hi} {w'} short next d = record { marks = marks_next f (marks_after f v d) (λ k h. refl); back = λ row g. subst (λ (x : ℕ). Back s t x w') (same row g) here; next = hi; next_is = next }
    where
      here : Back s t hi w'
      here = back_more f used (omega arith) (omega (arith, v.room)) (λ k h x. true_false (sym x)) (span short next) (rows_rise first next (omega arith)) d none_back

      same : (row : ℕ) → FirstRow s.links s.link_count (key_of t q) row → hi ≡ row
      same row g = omega (arith, rows_rise next g (omega arith), rows_rise g next (omega arith))

-- all rows of the table have been walked
pub back_all : {s : Store} {t row : ℕ} (w : List ℕ) → Fits s → t < s.object_count → ((k : ℕ) → k < s.link_count → offset_of t (link_at s k) ≡ true → k < row) → Back s t row w → ltb 0 (get_or w t 0) ≡ on_cycle s t
unfolding on_cycle
back_all {s} {t} {row} w f used all b = b ∙ reached_same s f (own_before s t row) (λ k. offset_of t (link_at s k)) same t used
  where
    same : (k : ℕ) → k < s.link_count → own_before s t row k ≡ offset_of t (link_at s k)
    same k h = by_test (offset_of t (link_at s k)) (λ x. rw x (lt-ltb k row (all k h x))) (λ x. rw x)

-- a walk that begins with the table's links before position q is of all of them, where none stands behind
module _ {s : Store} {t q : ℕ} {w : List ℕ} (f : Fits s) (used : t < s.object_count) (whole : size_of s t ≤ q) (d : Begun s t q w) where
  -- an offset stands within its parent's bytes
  all : (k : ℕ) → k < s.link_count → offset_of t (link_at s k) ≡ true → k < d.next
  all k h own =
      let o = of_offset t (link_at s k) own in
      let parent : parent_of s k ≡ t = of_parent t (link_at s k) own in
      let inside = offset_inside (size_of s (parent_of s k)) (link_at s k) o (f.link k h).shape in
      let past : d.next ≤ k → ⊥ = λ z. omega (arith, d.next_is.above k z h, inside, ap (size_of s) parent, row_place_lem s k, place_offset (link_at s k) o) in
      omega arith

  pub begun_whole : ltb 0 (get_or w t 0) ≡ on_cycle s t
  begun_whole = back_all w f used all (d.back d.next d.next_is)

-- the bytes are of no matter
pub begun_bytes : (b b' o l c : List ℕ) {t q : ℕ} {w : List ℕ} → Begun (lent b o l c) t q w → Begun (lent b' o l c) t q w
begun_bytes b b' o l c {t} {q} d =
    record { marks = marks_bytes_lem b b' o l c d.marks; back = λ row f. d.back row f ∙ ap (λ (x : List ℕ). marked x t) (reached_bytes b b' o l c (own_before (lent b o l c) t row)); next = d.next; next_is = d.next_is }
