-- For callers: what they have seen of a sound store gives what `part_links` asks, and its answer is that of the table's own shape. Assumes nothing.
use Prim.Native.Nat.{ℕ, ◌+◌, ◌*◌, ◌≤◌, ◌<◌}
use mathlib.Core.Path.{◌≡◌, sym, subst, ap, ◌∙◌}
use mathlib.Core.Bool.{true, false}
use mathlib.Core.List.{List, []}
use native.Mathlib.Omega.{arith}
use lib.ListN.{length}
use lib.Dec.{eqb}
use borrow.Author.Tests.{eqb-true}
use Rattle.folds.specs.Lists.{among}
use Rattle.folds.proofs.Tests.{by_test, true_false}
use Rattle.ot_layouts.specs.PairPos.{Shape, class2_at, shared_in, item_at}
use Rattle.store_rules.specs.Store.{Store, lent, per_link, links_of, bytes_of, child_at, size_of, linked_at}
use Rattle.pair_rules.specs.Table.{shape}
use Rattle.cut_rules.specs.Ranges.{from}
use Rattle.pair_rules.specs.Written.{per_table, need_links}
use Rattle.store_rules.proofs.Sound.{Fits}
use Rattle.store_reader.proofs.Rows.{in_order_lem}
use Rattle.ot_pairpos.specs.declared.Layout.{Layout}
use Rattle.ot_pairpos.specs.Layout.{layout_of, shape_with}
use Rattle.ot_pairpos.proofs.Layouts.{shape_with_lem, layout_numbered}
use Rattle.pair_links.specs.Parting.{Parting, LinksSplit}

-- what deciding has shown: the store is sound, the table is as long as its shape says, the cuts are in order and below the count, and there is room
pub record Decided (s : Store) (t : ℕ) (sh : Shape) (cs : List ℕ) (class2 : ℕ) : Type 0 where
  pub fits : Fits s
  pub used : t < s.object_count
  pub exactly : size_of s t ≡ item_at sh sh.count
  pub some : 0 < length cs
  pub rising : (i j : ℕ) → i ≤ j → j < length cs → from cs i ≤ from cs j
  pub within : (j : ℕ) → j < length cs → from cs j ≤ sh.count
  pub shared : eqb sh.format 1 ≡ false → class2 ≡ linked_at s t class2_at
  pub link_room : per_link * (s.link_count + need_links sh (length cs)) ≤ length s.links
  pub object_room : s.object_count + per_table sh * length cs + 1 < 4294967296

-- format 2 shares class definition 2
shared_one : (f q : ℕ) → among q (shared_in f) ≡ true → (eqb f 1 ≡ false) × (q ≡ class2_at)
unfolding among
shared_one f q h =
    by_test (eqb f 1)
    (λ e. true_false (sym (rw e at h)))
    (λ e. (e, by_test (eqb q class2_at) (eqb-true q class2_at) (λ n. true_false (sym (rw (e, n) at h)))))

module _ (b o links counts : List ℕ) (t : ℕ) (layout : Layout) (is : layout ≡ layout_of (bytes_of (lent b o links counts) t)) where
  abbrev s : Store
  s = lent b o links counts

  -- the bytes and the object rows of a store have no part in what is asked
  pub part-asked : (cs : List ℕ) (class2 : ℕ) → Decided s t (shape s t) cs class2 → Parting (lent [] [] links counts) t layout cs class2
  unfolding layout_of links_of child_at need_links
  part-asked cs class2 d =
      let size = d.fits.object t d.used in
      rw is
      (record {
        numbered = layout_numbered (bytes_of s t);
        some = d.some;
        rising = d.rising;
        within = d.within;
        size = omega (arith, d.exactly, d.fits.bytes_most);
        order = in_order_lem s d.fits;
        shared = λ q a. let (two, e) = shared_one (shape s t).format q a in d.shared two ∙ ap (linked_at s t) (sym e);
        link_room = d.link_room;
        object_room = d.object_room;
      })

  -- a layout says all of a shape that the links ask
  pub part-answered : (cs out : List ℕ) (r : ℕ) → ((x y : List ℕ) → LinksSplit (lent x y links counts) t (shape_with layout) cs out r) → LinksSplit s t (shape s t) cs out r
  part-answered cs out r told =
      subst (λ (sh : Shape). LinksSplit s t sh cs out r) (ap shape_with is ∙ shape_with_lem (bytes_of s t)) (told b o)
