-- The resulting tables together give the attachments that the old table gave, and no two of them the same. Assumes nothing.
use Rattle.std.specs.Prelude.{Option, Some, None}
use Prim.Native.Nat.{ℕ, zero, suc, ◌+◌, ◌<◌}
use mathlib.Core.Path.{◌≡◌, refl, sym, ap, ◌∙◌}
use mathlib.Core.Bool.{Bool, true, false}
use mathlib.Core.List.{List, [], ◌∷◌}
use mathlib.Core.Logic.{◌⊎◌, inl, inr, ⊎_elim}
use native.Mathlib.Omega.{arith}
use native.Mathlib.Nat.{not-suc-le-zero}
use lib.ListN.{length, get_or}
use Rattle.folds.specs.Lists.{given, and_then}
use Rattle.folds.proofs.Tests.{by_test}
use Rattle.folds.proofs.InRange.{between_is, is_between, below_range}
use Rattle.store_rules.specs.Store.{Store}
use Rattle.cut_rules.proofs.CutPlaces.{lo_at, ranges_apart, covering}
use Rattle.mark_rules.specs.Table.{Mark, classes_of, marks_of, in_classes, cut_places}
use Rattle.mark_rules.specs.Written.{split_store}
use Rattle.mark_rules.specs.Attachments.{Anchors, attach_of, attach_among, or_attach}
use Rattle.mark_rules.proofs.Marks.{classes_low_lem}
use Rattle.mark_rules.proofs.MarkOf.{mark_of, mark_each, attach_mark, attach_by_mark}
use Rattle.mark_rules.proofs.NewCounts.{tables_many}
use Rattle.promise_marks.specs.Demands.{AttachmentsKept, ReadingsKept}
use Rattle.promise_marks.proofs.Answered.{may_mark}
use Rattle.promise_marks.proofs.Ready.{Ready, splits_ready, store_written}
use Rattle.promise_marks.proofs.View.{view_attach}
use Rattle.promise_marks.proofs.KeptAndNew.{tables, each_view}
use Rattle.promise_marks.proofs.WrittenAfresh.{each_reads}

-- ---- the first of several tables with an attachment

module _ (s : Store) (m b : ℕ) where
  -- what table k of us gives
  abbrev gave : List ℕ → ℕ → Option Anchors
  gave us k = attach_of s (get_or us k 0) m b

  -- the first table's, or another
  abbrev or_later : List ℕ → Option Anchors → Option Anchors
  or_later us o = or_attach o (attach_among s us m b)

  among_none : (us : List ℕ) → ((k : ℕ) → k < length us → gave us k ≡ None) → attach_among s us m b ≡ None
  unfolding attach_among or_attach
  among_none [] h = refl
  among_none (u ∷ us) h = ap (or_later us) (h 0 (omega arith)) ∙ among_none us (λ k l. h (suc k) (omega arith))

  among_one : (us : List ℕ) (a : Anchors) → ((k : ℕ) → k < length us → (gave us k ≡ Some a) ⊎ (gave us k ≡ None))
      → (k : ℕ) → k < length us → gave us k ≡ Some a → attach_among s us m b ≡ Some a
  unfolding attach_among or_attach
  among_one [] a h k l e = absurd (not-suc-le-zero l)
  among_one (u ∷ us) a h k l e =
      ⊎_elim (λ q. ap (or_later us) q)
      (λ q. ap (or_later us) q ∙ further k l e q (λ k l e. among_one us a (λ j n. h (suc j) (omega arith)) k l e))
      (h 0 (omega arith))
    where
      further : (k : ℕ) → k < length (u ∷ us) → gave (u ∷ us) k ≡ Some a → attach_of s u m b ≡ None
          → ((k : ℕ) → k < length us → gave us k ≡ Some a → attach_among s us m b ≡ Some a) → attach_among s us m b ≡ Some a
      further zero l e q ih = let z : ◌≡◌ {A = ℕ} 0 1 = cc in absurd (omega arith)
      further (suc k) l e q ih = ih k (omega arith) e

-- ---- the tables of a split

module _ (s : Store) (t : ℕ) (cs : List ℕ) (g : Ready s t cs) where
  abbrev s' : Store
  s' = split_store s t cs

  abbrev n : ℕ
  n = classes_of s t

  many_tables : length (tables s t cs g) ≡ length cs + 1
  many_tables = omega (arith, tables_many s t cs)

  module _ (x y : ℕ) where
    -- what table k gives for mark glyph x and base glyph y
    abbrev gives : ℕ → Option Anchors
    gives k = attach_of s' (get_or (tables s t cs g) k 0) x y

    -- the mark lies in range k
    abbrev lies_in : Mark → ℕ → Bool
    lies_in m k = in_classes (lo_at cs k) (get_or cs k n) m.class

    -- the old attachment, if the mark lies there
    abbrev there : ℕ → Mark → Option Anchors
    there k m = and_then (given (lies_in m k) m) (attach_mark s t y)

    each_gives : (k : ℕ) → k < length cs + 1 → gives k ≡ and_then (mark_of (marks_of s t) x) (there k)
    each_gives k l = view_attach (each_view s t cs g k l) g.reads (each_reads s t cs g k l) x y

    -- where there is no mark
    nowhere : mark_of (marks_of s t) x ≡ None → (k : ℕ) → k < length cs + 1 → gives k ≡ None
    unfolding and_then
    nowhere e k l = each_gives k l ∙ rw e

    module _ (m : Mark) (is : mark_of (marks_of s t) x ≡ Some m) where
      hits : (k : ℕ) → k < length cs + 1 → lies_in m k ≡ true → gives k ≡ attach_mark s t y m
      unfolding and_then
      hits k l e =
          each_gives k l ∙ ap (λ (o : Option Mark). and_then o (there k)) is ∙ ap (λ (b : Bool). and_then (given b m) (attach_mark s t y)) e

      misses : (k : ℕ) → k < length cs + 1 → lies_in m k ≡ false → gives k ≡ None
      unfolding and_then
      misses k l e =
          each_gives k l ∙ ap (λ (o : Option Mark). and_then o (there k)) is ∙ ap (λ (b : Bool). and_then (given b m) (attach_mark s t y)) e

      -- it lies in some range
      in_one : (k : ℕ) × (k < length cs + 1) × (lies_in m k ≡ true)
      in_one =
          let low = mark_each (λ m. m.class < n) (marks_of s t) x (classes_low_lem s t g.reads) m is in
          let (k, l, c, d) = covering n cs m.class low in
          (k, omega arith, is_between (lo_at cs k) (get_or cs k n) m.class c d)

      -- and in one only
      in_no_other : (k j : ℕ) → k < j → j < length cs + 1 → lies_in m k ≡ true → lies_in m j ≡ false
      in_no_other k j h l e =
          let (a, b) = between_is (lo_at cs k) (get_or cs k n) m.class e in
          below_range (lo_at cs j) (get_or cs j n) m.class (omega (arith, ranges_apart n cs g.cuts k j h (omega arith)))

      found : (o : Option Anchors) → attach_mark s t y m ≡ o → attach_among s' (tables s t cs g) x y ≡ o
      found None e =
          among_none s' x y (tables s t cs g)
          (λ k l. by_test (lies_in m k) (λ h. hits k (omega (arith, many_tables)) h ∙ e) (λ h. misses k (omega (arith, many_tables)) h))
      found (Some a) e =
          let (k, l, r) = in_one in
          among_one s' x y (tables s t cs g) a
          (λ j q. by_test (lies_in m j) (λ h. inl (hits j (omega (arith, many_tables)) h ∙ e)) (λ h. inr (misses j (omega (arith, many_tables)) h)))
          k (omega (arith, many_tables)) (hits k l r ∙ e)

    all-kept : attach_among s' (tables s t cs g) x y ≡ attach_of s t x y
    unfolding and_then
    all-kept = go (mark_of (marks_of s t) x) refl ∙ sym (attach_by_mark s t g.reads x y)
      where
        go : (o : Option Mark) → mark_of (marks_of s t) x ≡ o → attach_among s' (tables s t cs g) x y ≡ and_then (mark_of (marks_of s t) x) (attach_mark s t y)
        go None e = among_none s' x y (tables s t cs g) (λ k l. nowhere e k (omega (arith, many_tables))) ∙ rw e
        go (Some m) e = found m e (attach_mark s t y m) refl ∙ rw e

    one_only : (k j : ℕ) → k < j → j < length cs + 1 → (gives k ≡ None → ⊥) → gives j ≡ None
    one_only k j h l ne = go (mark_of (marks_of s t) x) refl
      where
        go : (o : Option Mark) → mark_of (marks_of s t) x ≡ o → gives j ≡ None
        go None e = nowhere e j l
        go (Some m) e =
            by_test (lies_in m k) (λ i. misses m e j l (in_no_other m e k j h l i)) (λ i. absurd (ne (misses m e k (omega arith) i)))

-- "reading the kept table and then the new ones in order" gives the anchor objects that the old table gave, or none
pub attachments_kept : AttachmentsKept
attachments_kept how s t w list p x y =
    let cs = cut_places how s t in
    let (g, e) = splits_ready how s t w list p in
    rw (store_written how s t w list p) (all-kept s t cs g x y, λ k m h l ne. one_only s t cs g x y k m h (omega (arith, many_tables s t cs g)) ne)

-- the reading takes the old table and each resulting one
pub readings_kept : ReadingsKept
readings_kept how s t w list p m b =
    let cs = cut_places how s t in
    let (g, e) = splits_ready how s t w list p in
    rw (store_written how s t w list p) (
      may_mark s t m b g.reads,
      λ i l. may_mark (split_store s t cs) (get_or (tables s t cs g) i 0) m b (each_reads s t cs g i (omega (arith, many_tables s t cs g))),
    )
