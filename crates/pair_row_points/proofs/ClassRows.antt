-- Format 2: the rule of a table, and one class-1 row after another. Assumes nothing.
use Prim.Native.Nat.{ℕ, ◌+◌, ◌-◌, ◌*◌, ◌≤◌, ◌<◌, min, max}
use mathlib.Core.Path.{◌≡◌, refl, sym, ap, subst, ◌∙◌}
use mathlib.Core.Bool.{Bool, true, false, cond}
use mathlib.Core.List.{List}
use native.Mathlib.Nat.{mul-le-mul_left}
use native.Mathlib.Omega.{arith}
use lib.Dec.{eqb}
use lib.ListN.{length}
use Rattle.folds.proofs.Tests.{by_test}
use Rattle.folds.proofs.Joined.{or-second}
use Rattle.ot_layouts.specs.PairPos.{item_at}
use Rattle.ot_layouts.proofs.Shapes.{format_two}
use Rattle.store_rules.specs.Store.{Store, lent, bytes_of, size_of, linked_at}
use Rattle.store_rules.specs.Reach.{item_size}
use Rattle.cut_rules.specs.Cuts.{Rule, second, cost_at_cut, looked, cut_due, after}
use Rattle.cut_rules.proofs.Turns.{looks_at, cost_now}
use Rattle.call_rules.specs.declared.Settings.{Settings}
use Rattle.glyph_rules.specs.Entries.{within}
use Rattle.glyph_rules.specs.Estimates.{estimate, cover_size, class_size, beside_rows}
use Rattle.pair_rules.specs.Rules.{rule2}
use Rattle.pair_rules.specs.Table.{shape, entries_of, rule_of, of_items, cut_places}
use Rattle.pair_rules.proofs.TableCuts.{rule_edition}
use Rattle.store_rules.proofs.Sound.{Fits, sound_fits, size_most}
use Rattle.store_rules.proofs.Lookups.{linked_used}
use Rattle.store_reader.specs.Rows.{orders, key_of, FirstRow}
use Rattle.glyph_estimator.specs.declared.Estimator.{Estimator}
use Rattle.glyph_estimator.specs.States.{values_of, Small}
use Rattle.cut_filling.specs.declared.Filling.{Filling}
use Rattle.pair_items.specs.declared.measuring.Measured.{Measured}
use Rattle.pair_items.specs.declared.table_info.TableInfo.{TableInfo}
use Rattle.pair_row_classes.specs.declared.Classes.{Classes}
use Rattle.pair_row_points.specs.declared.Rows.{Rows}
use Rattle.cut_filling.specs.Filling.{Fills, IsDue, ItemAdded, Cut, Placed}
use Rattle.pair_items.specs.Measuring.{Measures, Restarts}
use Rattle.pair_items.specs.Filled.{Described, cutting_at, TellsCycle}
use Rattle.pair_row_classes.specs.Classes.{Holds, Begins}
use Rattle.pair_row_points.specs.Format2.{Ready2, Below2}
use Rattle.pair_items.proofs.Turns.{item_ends, filled_start, at_start, filled_stop, filled_back, added, cut}

-- ---- the rule of a table of format 2

module _ (how : Settings) (s : Store) (t : ℕ) (two : eqb (shape s t).format 1 ≡ false) where
  rule_two_lem : rule_of how s t ≡ rule2 how (shape s t).count (shape s t).item (item_size s (of_items t (shape s t))) (entries_of s t)
      (size_of s (linked_at s t 10))
  unfolding rule_of
  rule_two_lem = rw two

  start_two : (rule_of how s t).start ≡ 16
  unfolding rule2
  start_two = ap (λ (r : Rule). r.start) rule_two_lem

  looks_two : (i : ℕ) → looks_at (rule_of how s t) i ≡ true
  unfolding rule2 looked
  looks_two i = ap (λ (r : Rule). looks_at r i) rule_two_lem ∙ or-second (second how.edition) true refl

  cost_two : (a i : ℕ) → (rule_of how s t).cost a i ≡ (shape s t).item + item_size s (of_items t (shape s t)) a i
  unfolding rule2
  cost_two a i = ap (λ (r : Rule). r.cost a i) rule_two_lem

  beside_two : (a i : ℕ) → (rule_of how s t).beside a i ≡ beside_rows (size_of s (linked_at s t 10)) (estimate (within a (i + 1) (entries_of s t)))
  unfolding rule2
  beside_two a i = ap (λ (r : Rule). r.beside a i) rule_two_lem

  -- at a cut
  cut_cost_two : (i before : ℕ) → cost_at_cut (rule_of how s t) i ((shape s t).item + before)
      ≡ (shape s t).item + cond (second how.edition) (item_size s (of_items t (shape s t)) i i) before
  unfolding cost_at_cut
  cut_cost_two i before =
      ap (λ (e : ℕ). cond (second e) ((rule_of how s t).cost i i) ((shape s t).item + before)) (rule_edition how s t)
      ∙ by_test (second how.edition) (λ e. rw e (cost_two i i)) (λ e. rw e)

-- ---- sizes fit

-- an object that is linked, or the first one, lies within the data
pub linked_most : {s : Store} {x : TableInfo} → Described s x → (q : ℕ) → size_of s (linked_at s x.table q) ≤ 16777216
linked_most {s} {x} u q =
    let fits : Fits s = sound_fits s u.is_sound in
    size_most s fits (linked_at s x.table q) (linked_used s x.table fits u.used q)

less : (n m : ℕ) → n - m ≤ n
less n m = omega arith

min-first : (n m : ℕ) → min n m ≤ n
min-first n m = omega arith

pub beside_most : (e : Estimator) (class2 : ℕ) → Small e → class2 ≤ 16777216 → beside_rows class2 (values_of e) < 4294967296
unfolding beside_rows
beside_most e class2 h l =
    let a = min-first (4 + 2 * e.glyphs) (4 + 6 * e.runs) in
    let b = min-first e.listed e.ranged in
    omega (
      arith,
      less (cover_size (values_of e) + class_size (values_of e) + class2) (max (cover_size (values_of e)) (max (class_size (values_of e)) class2)),
      h.glyphs,
      h.listed,
    )

-- ---- one row after another

pub rows_start : (how : Settings) {s : Store} {x : TableInfo} {gs cs w set l : List ℕ} → Ready2 s x gs cs w set l → {f : Filling} {row : ℕ}
    → ((r : Rule) → r.start ≡ 16 → Fills f (after r 0)) → FirstRow s.links s.link_count (key_of x.table 16) row
    → {k : Classes} → Begins k → Below2 how s x gs cs l 0 (record { filling = f; row = row; classes = k }) w set l
unfolding after
rows_start how {s} {x} v a g z =
    let start = start_two how s x.table v.table.format in
    record {
      table = v.table;
      filled = filled_start v.table.described how v.unseen (a (rule_of how s x.table) start) (omega (arith, start));
      at =
          at_start v.table.described how v.unseen (a (rule_of how s x.table) start)
          (sym (format_two (bytes_of s x.table) v.table.format).header_is) g;
      held = z _ _ _ _ v.table.ordered v.empty v.long;
    }

module _ {how : Settings} {s : Store} {x : TableInfo} {gs cs d : List ℕ} {i : ℕ} {p : Rows} {w set l : List ℕ} (v : Below2 how s x gs cs d i p w set l)
    (inside : i < x.count) where
  abbrev rule : Rule
  rule = rule_of how s x.table

  pub row_ends : (x.header + x.item * (i + 1) ≡ item_at (shape s x.table) (i + 1)) × (x.header + x.item * (i + 1) ≤ 16777216)
  row_ends = item_ends v.table.described i inside

  pub row_most : x.item ≤ 16777216
  row_most = let h : 1 ≤ i + 1 = omega arith in omega (arith, row_ends.1, mul-le-mul_left x.item h)

  pub row_short : item_at (shape s x.table) (i + 1) ≤ orders
  row_short = omega (arith, row_ends.0, row_ends.1)

  module _ {m : Measured} {w' : List ℕ} (y : Measures s x.table (shape s x.table) (cutting_at how s x i).seen i p.row (x.epoch + p.filling.cuts) w m w')
      {k : Classes} {set' : List ℕ} (h : Holds (entries_of s x.table) gs (cutting_at how s x i).first (i + 1) k set')
      {beside : ℕ} (stands : beside ≡ beside_rows x.beside (values_of k.estimator)) {b : Bool}
      (weighs : IsDue p.filling i (x.item + m.size) beside how.edition b) where
    looks : looks_at rule i ≡ true
    looks = looks_two how s x.table v.table.format i

    costs : x.item + m.size ≡ cost_now rule (cutting_at how s x i) i
    costs = omega (arith, v.table.described.item, y.size, cost_two how s x.table v.table.format (cutting_at how s x i).seen i)

    beside_is : rule.beside (cutting_at how s x i).first i ≡ beside
    beside_is =
        beside_two how s x.table v.table.format (cutting_at how s x i).first i
        ∙ ap (beside_rows (size_of s (linked_at s x.table 10))) (sym h.estimates.values)
        ∙ ap (λ (n : ℕ). beside_rows n (values_of k.estimator)) (sym v.table.class2)
        ∙ sym stands

    is_due_lem : cut_due rule (cutting_at how s x i) i (x.item + m.size) ≡ b
    is_due_lem = sym (weighs rule (cutting_at how s x i) (rule_edition how s x.table) beside_is v.filled.listed.fills)

    starts : rule.start ≡ 16
    starts = start_two how s x.table v.table.format

    -- no cut
    pub row_added : b ≡ false → {f' : Filling} → ItemAdded p.filling (x.item + m.size) f'
        → Below2 how s x gs cs d (i + 1) (record { filling = f'; row = m.next; classes = k }) w' set' l
    row_added stays g =
        let (f, a, q) =
        added how s x v.filled y looks (x.item + m.size) costs (is_due_lem ∙ stays) (omega (arith, row_most, y.most, starts))
        (g (cutting_at how s x i) d l v.filled.listed) in
        record { table = v.table; filled = f; at = a; held = subst (λ (n : ℕ). Holds (entries_of s x.table) gs n (i + 1) k set') (sym q) h }

    -- a cut
    pub row_cut : b ≡ true → {size : ℕ} {w'' : List ℕ}
        → Restarts s x.table (shape s x.table) i m.next how.edition (x.epoch + p.filling.cuts + 1) m.size size w''
        → {f' : Filling} {l' : List ℕ} → Cut p.filling i (x.item + size) 16 l f' l' → {k' : Classes} {set'' : List ℕ}
        → Holds (entries_of s x.table) gs i (i + 1) k' set''
        → Below2 how s x gs cs d (i + 1) (record { filling = f'; row = m.next; classes = k' }) w'' set'' l'
    row_cut due-now {size} z g {k'} {set''} h' =
        let item : x.item ≡ (shape s x.table).item = v.table.described.item in
        let at_cut : cost_at_cut rule i (x.item + m.size) ≡ x.item + size
        = ap (λ (n : ℕ). cost_at_cut rule i (n + m.size)) item ∙ cut_cost_two how s x.table v.table.format i m.size ∙ omega (arith, z.size) in
        let (f, a, q) = cut how s x v.filled y looks (x.item + m.size) costs (is_due_lem ∙ due-now) (omega (arith, at_cut, row_most, z.most y.most, starts))
        (g rule (cutting_at how s x i) d (x.item + m.size) starts at_cut v.filled.listed) z in
        record { table = v.table; filled = f; at = a; held = subst (λ (n : ℕ). Holds (entries_of s x.table) gs n (i + 1) k' set'') (sym q) h' }

module _ {how : Settings} {s : Store} {x : TableInfo} {gs cs d : List ℕ} {i : ℕ} {p : Rows} {w set l : List ℕ} (v : Below2 how s x gs cs d i p w set l)
    (e : i ≡ x.count) where
  pub rows_stop : Placed (cut_places how s x.table) d l p.filling.cuts
  rows_stop = filled_stop v.table.described e p.filling how v.filled

  pub rows_back : TellsCycle s x.table w
  rows_back = filled_back v.table.described e p.filling how v.at

-- ---- the loop, whatever the bytes of the store

pub record Going2 (how : Settings) (o l c : List ℕ) (x : TableInfo) (gs cs w₀ set₀ d : List ℕ) (i : ℕ) (p : Rows) (w set cuts : List ℕ) : Type 0 where
  pub inside : i ≤ x.count
  pub walk : length w ≡ length w₀
  pub glyphs : length set ≡ length set₀
  pub long : length cuts ≡ length d
  pub below : (b : List ℕ) → Ready2 (lent b o l c) x gs cs w₀ set₀ d → Below2 how (lent b o l c) x gs cs d i p w set cuts
