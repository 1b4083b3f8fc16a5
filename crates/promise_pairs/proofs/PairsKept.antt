-- The resulting tables together read what the old table read, and no two of them have the same pair. Assumes nothing.
use Rattle.std.specs.Prelude.{Option, Some, None}
use Prim.Native.Nat.{ℕ, zero, suc, ◌+◌, ◌<◌}
use mathlib.Core.Path.{◌≡◌, refl, sym, ap, subst, ◌∙◌}
use mathlib.Core.Bool.{Bool, true, false, cond}
use mathlib.Core.List.{List, [], ◌∷◌}
use mathlib.Core.Logic.{◌⊎◌, inl, inr, ⊎_elim}
use native.Mathlib.Omega.{arith}
use native.Mathlib.Nat.{not-suc-le-zero}
use lib.ListN.{length, get_or}
use lib.Dec.{leb, ltb}
use borrow.Author.Tests.{ltb-true, lt-leb, le-leb, lt-ltb}
use Rattle.folds.proofs.Tests.{true_false, by_test, and_both, and_intro}
use Rattle.folds.proofs.Folds.{length-upto}
use Rattle.folds.proofs.Parts.{get_d_default}
use Rattle.folds.proofs.FromTheFront.{upto-at}
use Rattle.store_rules.specs.Store.{Store}
use Rattle.store_rules.specs.Appended.{new_number}
use Rattle.pair_rules.specs.Table.{shape, entries_of, cut_places}
use Rattle.pair_rules.specs.Written.{split_store, new_tables, per_table}
use Rattle.cut_rules.specs.Ranges.{from}
use Rattle.pair_rules.specs.Pairs.{no_pair, pair_of, pair_among, Pair}
use Rattle.cut_rules.proofs.CutPlaces.{lo_at, ranges_apart, covering}
use Rattle.pair_rules.proofs.PairByItem.{entry_of, lies, pair_found, pair_item}
use Rattle.pair_rules.proofs.Checks.{entries_ascend}
use Rattle.promise_pairs.specs.Demands.{PairsKept}
use Rattle.pair_after.proofs.Ready.{Ready}
use Rattle.promise_pairs.proofs.GoesAhead.{splits_ready, store_written}
use Rattle.pair_after.proofs.View.{View}
use Rattle.pair_after.proofs.KeptAndNew.{view_kept, view_new, child_kept}
use Rattle.pair_after.proofs.ViewPairs.{pair_view}

no_found : no_pair.found ≡ false
unfolding no_pair
no_found = refl

-- ---- the first of several tables with a pair

module _ (s : Store) (a b : ℕ) where
  among_none : (us : List ℕ) → ((k : ℕ) → k < length us → (pair_of s (get_or us k 0) a b).found ≡ false) → pair_among s us a b ≡ no_pair
  unfolding pair_among
  among_none [] h = refl
  among_none (u ∷ us) h = ap (λ (c : Bool). cond c (pair_of s u a b) (pair_among s us a b)) (h 0 (omega arith)) ∙ among_none us (λ k l. h (suc k) (omega arith))

  among_one : (us : List ℕ) (X : Pair) → X.found ≡ true → ((k : ℕ) → k < length us → (pair_of s (get_or us k 0) a b ≡ X) ⊎ ((pair_of s (get_or us k 0) a b).found ≡ false))
      → (k : ℕ) → k < length us → pair_of s (get_or us k 0) a b ≡ X → pair_among s us a b ≡ X
  unfolding pair_among
  among_one [] X f h k l e = absurd (not-suc-le-zero l)
  among_one (u ∷ us) X f h k l e = ⊎_elim here_it (further k l e (λ k l e. among_one us X f (λ j m. h (suc j) (omega arith)) k l e)) (h 0 (omega arith))
    where
      here_it : pair_of s u a b ≡ X → cond (pair_of s u a b).found (pair_of s u a b) (pair_among s us a b) ≡ X
      here_it q = ap (λ (c : Bool). cond c (pair_of s u a b) (pair_among s us a b)) (ap (λ (p : Pair). p.found) q ∙ f) ∙ q

      further : (k : ℕ) → k < length (u ∷ us) → pair_of s (get_or (u ∷ us) k 0) a b ≡ X → ((k : ℕ) → k < length us → pair_of s (get_or us k 0) a b ≡ X → pair_among s us a b ≡ X)
          → (pair_of s u a b).found ≡ false → cond (pair_of s u a b).found (pair_of s u a b) (pair_among s us a b) ≡ X
      further zero l e ih q = true_false (sym (ap (λ (p : Pair). p.found) e ∙ f) ∙ q)
      further (suc k) l e ih q = ap (λ (c : Bool). cond c (pair_of s u a b) (pair_among s us a b)) q ∙ ih k (omega arith) e

-- ---- the tables of a split

module _ (s : Store) (t : ℕ) (cs : List ℕ) (g : Ready s t cs) where
  abbrev s' : Store
  s' = split_store s t cs

  abbrev n : ℕ
  n = (shape s t).count

  -- the kept table, then the new ones
  abbrev tables : List ℕ
  tables = t ∷ new_tables s t cs

  many_tables : length tables ≡ suc (length cs)
  unfolding new_tables
  many_tables = ap suc (length-upto (new_number s (per_table (shape s t))) (length cs))

  -- table k is that of range k
  each_view : (k : ℕ) → k < suc (length cs) → View s t s' (get_or tables k 0) (lo_at cs k) (get_or cs k n)
  unfolding new_tables
  each_view zero l = subst (λ (m : ℕ). View s t s' t 0 m) (get_d_default cs 0 0 n g.some_cut) (view_kept s t cs g)
  each_view (suc j) l =
      let z : j + 1 ≡ suc j = omega arith in
      subst (λ (m : ℕ). View s t s' m (from cs j) (get_or cs (suc j) n)) (sym (upto-at (new_number s (per_table (shape s t))) (length cs) j 0 (omega arith)))
      (subst (λ (m : ℕ). View s t s' (new_number s (per_table (shape s t)) j) (from cs j) (get_or cs m n)) z (view_new s t cs g j (omega arith)))

  module _ (x y : ℕ) where
    -- the old table's pair, and the first glyph's item
    abbrev old : Pair
    old = pair_of s t x y

    abbrev item : Option ℕ
    item = entry_of (entries_of s t) x

    -- the item lies in range k
    abbrev lies_in : ℕ → Bool
    lies_in k = lies (lo_at cs k) (get_or cs k n) item

    each_pair : (k : ℕ) → k < suc (length cs) → pair_of s' (get_or tables k 0) x y ≡ cond (lies_in k) old no_pair
    each_pair k l = pair_view (each_view k l) (entries_ascend s t g.reads) (child_kept s t cs g) x y

    hits : (k : ℕ) → k < suc (length cs) → lies_in k ≡ true → pair_of s' (get_or tables k 0) x y ≡ old
    hits k l e = each_pair k l ∙ ap (λ (c : Bool). cond c old no_pair) e

    misses : (k : ℕ) → k < suc (length cs) → lies_in k ≡ false → (pair_of s' (get_or tables k 0) x y).found ≡ false
    misses k l e = ap (λ (p : Pair). p.found) (each_pair k l ∙ ap (λ (c : Bool). cond c old no_pair) e) ∙ no_found

    -- two tables do not have the same pair
    one_only : (k m : ℕ) → k < m → m < suc (length cs) → (pair_of s' (get_or tables k 0) x y).found ≡ true → (pair_of s' (get_or tables m 0) x y).found ≡ false
    one_only k m h l f = by_test (lies_in k) (λ e. misses m l (not-both item e)) (λ e. true_false (sym f ∙ misses k (omega arith) e))
      where
        not-both : (o : Option ℕ) → lies (lo_at cs k) (get_or cs k n) o ≡ true → lies (lo_at cs m) (get_or cs m n) o ≡ false
        not-both None e = refl
        not-both (Some i) e =
            let (p, q) = and_both (leb (lo_at cs k) i) (ltb i (get_or cs k n)) e in
            let r = ltb-true i (get_or cs k n) q in
            rw (lt-leb (lo_at cs m) i (omega (arith, ranges_apart n cs g.cuts k m h l)))

    -- an item lies in some range
    in_one : lies 0 n item ≡ true → (k : ℕ) × (k < suc (length cs)) × (lies_in k ≡ true)
    in_one = go item
      where
        go : (o : Option ℕ) → lies 0 n o ≡ true → (k : ℕ) × (k < suc (length cs)) × (lies (lo_at cs k) (get_or cs k n) o ≡ true)
        go None e = true_false (sym e)
        go (Some i) e =
            let (p, q) = and_both (leb 0 i) (ltb i n) e in
            let (k, l, c, d) = covering n cs i (ltb-true i n q) in
            (k, l, and_intro (leb (lo_at cs k) i) (ltb i (get_or cs k n)) (le-leb (lo_at cs k) i c) (lt-ltb i (get_or cs k n) d))

    all-kept : pair_among s' tables x y ≡ old
    all-kept =
        by_test old.found there
        (λ e. among_none s' x y tables (λ k l. none_there k (omega (arith, many_tables)) e) ∙ sym (pair_found s t x y e))
      where
        none_there : (k : ℕ) → k < suc (length cs) → old.found ≡ false → (pair_of s' (get_or tables k 0) x y).found ≡ false
        none_there k l e = by_test (lies_in k) (λ h. ap (λ (p : Pair). p.found) (hits k l h) ∙ e) (misses k l)

        there : old.found ≡ true → pair_among s' tables x y ≡ old
        there f =
            by_test (lies 0 n item)
            (λ e.
            let (k, l, r) = in_one e in
            among_one s' x y tables old f
            (λ j m. by_test (lies_in j) (λ h. inl (hits j (omega (arith, many_tables)) h)) (λ h. inr (misses j (omega (arith, many_tables)) h)))
            k (omega (arith, many_tables)) (hits k l r))
            (λ e. true_false (sym f ∙ ap (λ (p : Pair). p.found) (pair_item s t x y e) ∙ no_found))

-- `PairsKept`: "reading the kept table and then the new ones in order" gives what the old table gave
pub pairs_kept : PairsKept
pairs_kept how s t w list p x y =
    let cs = cut_places how s t in
    let (g, e) = splits_ready how s t w list p in
    rw (store_written how s t w list p) (all-kept s t cs g x y, λ k m h l f. one_only s t cs g x y k m h (omega (arith, many_tables s t cs g)) f)
