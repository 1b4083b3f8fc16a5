-- What is known before a parting, as facts on rows and positions. Assumes nothing.
use Prim.Native.Nat.{ℕ, ◌+◌, ◌*◌, ◌≤◌, ◌<◌}
use mathlib.Core.Path.{◌≡◌, sym, ◌∙◌}
use mathlib.Core.Bool.{true, false, ◌&&◌}
use mathlib.Core.List.{List}
use mathlib.Core.Logic.{⊎_elim}
use native.Mathlib.Omega.{arith}
use lib.ListN.{length}
use lib.Dec.{leb, ltb}
use borrow.Author.Tests.{lt-ltb, le-ltb, le-leb, lt-leb}
use Rattle.folds.proofs.Tests.{either, and_intro, and_second}
use Rattle.ot_layouts.specs.PairPos.{Shape, item_at}
use Rattle.ot_layouts.proofs.Shapes.{items_rise}
use Rattle.store_rules.specs.Store.{Store, per_link, link_at, position_of, offset_of}
use Rattle.store_rules.proofs.LinksAscend.{place_offset}
use Rattle.store_rules.proofs.Shaped.{of_offset, of_parent}
use Rattle.pair_rules.specs.Table.{of_items}
use Rattle.cut_rules.specs.Ranges.{from}
use Rattle.ot_pairpos.specs.declared.Layout.{Layout}
use Rattle.ot_pairpos.specs.Layout.{shape_with}
use Rattle.ot_pairpos.proofs.Layouts.{few_heads}
use Rattle.pair_rules.proofs.ItemLinks.{items_from}
use Rattle.store_reader.specs.Rows.{key_of, FirstRow}
use Rattle.store_reader.proofs.Rows.{row_place_lem, rows_rise}
use Rattle.store_link_rows.specs.Rows.{position_in, PositionsRise}
use Rattle.store_reader.proofs.Rows.{span_in_order}
use Rattle.pair_new_rows.specs.Blocks.{Plan, plan, edge, grown, Fit}
use Rattle.pair_links.specs.Parting.{Parting, Between}
use Rattle.pair_new_rows.proofs.Spreading.{edge_at}

-- the plan that the code follows
abbrev pub plan_of : Store → Layout → List ℕ → ℕ → Plan
plan_of s l cs class2 = plan cs l s.object_count class2

module _ (s : Store) (t : ℕ) (l : Layout) (cs : List ℕ) (a b class2 : ℕ) (g : Between s t l cs a b class2) where
  abbrev sh : Shape
  sh = shape_with l

  pub fit : Fit (plan_of s l cs class2)
  fit =
      record {
        numbered = g.known.numbered;
        climb = g.known.rising;
        placed = λ j l. omega (arith, items_rise sh (from cs j) sh.count (g.known.within j l), g.known.size);
        numbers = omega (arith, g.known.object_room);
      }

  -- a row that moves
  pub moves : (k : ℕ) → a ≤ k → k < b → (offset_of t (link_at s k) ≡ true) × (item_at sh (from cs 0) ≤ position_of s k) × (position_of s k < item_at sh sh.count)
  moves k l h = items_from t sh (from cs 0) sh.count (link_at s k) (g.these k (omega (arith, g.used)) ∙ and_intro (leb a k) (ltb k b) (le-leb a k l) (lt-ltb k b h))

  pub stays_before : (k : ℕ) → k < a → of_items t sh (from cs 0) sh.count (link_at s k) ≡ false
  stays_before k l = g.these k (omega (arith, g.used, g.ordered)) ∙ rw (lt-leb a k l)

  pub stays_after : (k : ℕ) → b ≤ k → k < s.link_count → of_items t sh (from cs 0) sh.count (link_at s k) ≡ false
  stays_after k l h = g.these k h ∙ and_second (leb a k) (ltb k b) (le-ltb k b l)

  -- the rows that move are rows of one table, so they are in order by their positions
  pub in_order_lem : PositionsRise s.links a b
  in_order_lem i j m h u =
      let (p, x, y) = moves i m (omega arith) in
      let (q, v, w) = moves j (omega arith) u in
      let c = row_place_lem s i ∙ place_offset (link_at s i) (of_offset t (link_at s i) p) in
      let d = row_place_lem s j ∙ place_offset (link_at s j) (of_offset t (link_at s j) q) in
      let e = of_parent t (link_at s i) p in
      let f = of_parent t (link_at s j) q in
      ⊎_elim (λ lt. omega (arith, g.known.order.rising i j lt (omega (arith, g.used)))) (λ (ge : j ≤ i). let e : i ≡ j = omega arith in rw e (omega arith)) (either i j)

  pub floor : (k : ℕ) → a ≤ k → k < b → edge (plan_of s l cs class2) 0 ≤ position_in s.links k
  floor k m h =
      let (p, x, y) = moves k m h in
      omega (arith, edge_at (plan_of s l cs class2) 0 g.known.some)

-- what the code asks
pub record Ready (s : Store) (l : Layout) (cs : List ℕ) (a b class2 : ℕ) : Type 0 where
  pub few : (l.own ≤ 2) × (l.heads ≤ 3)
  pub fits : Fit (plan_of s l cs class2)
  pub ends : a ≤ b
  pub used : b ≤ s.link_count
  pub room : per_link * grown s.link_count (plan_of s l cs class2) ≤ length s.links
  pub order : PositionsRise s.links a b
  pub bottom : (k : ℕ) → a ≤ k → k < b → edge (plan_of s l cs class2) 0 ≤ position_in s.links k
  pub numbers : s.object_count + (l.own + 1) * length cs + 1 < 4294967296

pub ready : (s : Store) (t : ℕ) (l : Layout) (cs : List ℕ) (a b class2 : ℕ) → Between s t l cs a b class2 → Ready s l cs a b class2
ready s t l cs a b class2 g =
    record {
      few = few_heads l g.known.numbered;
      fits = fit s t l cs a b class2 g;
      ends = g.ordered;
      used = g.used;
      room = g.known.link_room;
      order = in_order_lem s t l cs a b class2 g;
      bottom = floor s t l cs a b class2 g;
      numbers = g.known.object_room;
    }

-- ---- the rows of the items that are cut off, as two searches find them

module _ (s : Store) (t : ℕ) (l : Layout) (cs : List ℕ) (class2 : ℕ) (g : Parting s t l cs class2) where
  abbrev shaped : Shape
  shaped = shape_with l

  start_rises : item_at shaped (from cs 0) ≤ item_at shaped shaped.count
  start_rises = items_rise shaped (from cs 0) shaped.count (g.within 0 g.some)

  pub start_short : item_at shaped (from cs 0) < 4294967296
  start_short = omega (arith, start_rises, g.size)

  pub between : (first after : ℕ) → FirstRow s.links s.link_count (key_of t (item_at shaped (from cs 0))) first → FirstRow s.links s.link_count (key_of t (item_at shaped shaped.count)) after
      → Between s t l cs first after class2
  between first after f h =
      record {
        known = g;
        ordered = rows_rise f h (omega (arith, start_rises));
        used = h.within;
        these = λ k m. sym (span k m);
      }
    where
      -- these rows are the offsets of t at those positions
      span : (k : ℕ) → k < s.link_count → (leb first k && ltb k after) ≡ of_items t shaped (from cs 0) shaped.count (link_at s k)
      span = span_in_order s g.order t (item_at shaped (from cs 0)) (item_at shaped shaped.count) f h g.size
