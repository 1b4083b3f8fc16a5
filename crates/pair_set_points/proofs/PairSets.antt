-- Format 1: a slot is not empty exactly if a row stands in its bytes, and what the coverage of the pair sets in a table takes. Assumes nothing.
use Rattle.std.specs.Prelude.{Option, Some, None}
use Prim.Native.Nat.{ℕ, ◌+◌, ◌*◌, ◌≤◌, ◌<◌, min}
use mathlib.Core.Path.{◌≡◌, refl, sym, ap, subst, ◌∙◌}
use mathlib.Core.Bool.{Bool, true, false, cond, not, ◌&&◌, ◌||◌}
use mathlib.Core.List.{List}
use native.Mathlib.Omega.{arith}
use lib.Dec.{leb, ltb, eqb}
use lib.ListN.{length}
use borrow.Author.Tests.{le-leb, lt-leb, lt-ltb, leb-true, ltb-true, eqb-true, eqb-false}
use Rattle.folds.specs.Folds.{sum}
use Rattle.folds.specs.Lists.{is_some}
use Rattle.folds.proofs.Tests.{and_both, and_first, and_second, by_test, true_false}
use Rattle.folds.proofs.Joined.{or-second}
use Rattle.folds.proofs.Folds.{sum_more, sum_none}
use Rattle.folds.proofs.Sums.{sum-zero, sum_bound}
use Rattle.ot_layouts.specs.PairPos.{item_at}
use Rattle.ot_layouts.proofs.Shapes.{format_one}
use Rattle.ot_layouts.proofs.Slots.{slot_fits}
use Rattle.store_rules.specs.Store.{Store, lent, bytes_of, size_of, link_at, parent_of, position_of, kind_of, offset_of, of_span, child_at, linked_at}
use Rattle.store_rules.specs.Reach.{item_size}
use Rattle.cut_rules.specs.Cuts.{Rule, second, cost_at_cut, looked, cut_due, after}
use Rattle.cut_rules.proofs.Turns.{looks_at, cost_now}
use Rattle.call_rules.specs.declared.Settings.{Settings}
use Rattle.pair_rules.specs.Rules.{partial_cover, rule1}
use Rattle.pair_rules.specs.Table.{shape, all_at_slots, rule_of, of_items, cut_places}
use Rattle.pair_rules.proofs.Checks.{at_slot}
use Rattle.store_rules.proofs.Shaped.{of_offset, of_parent}
use Rattle.pair_rules.proofs.TableCuts.{rule_edition}
use Rattle.store_rules.proofs.Lookups.{child_row}
use Rattle.store_reader.specs.Rows.{orders, key_of, FirstRow}
use Rattle.store_reader.proofs.Rows.{span_rows}
use Rattle.store_reader.proofs.Children.{child_found_lem}
use Rattle.cut_filling.specs.declared.Filling.{Filling}
use Rattle.pair_items.specs.declared.measuring.Measured.{Measured}
use Rattle.pair_items.specs.declared.table_info.TableInfo.{TableInfo}
use Rattle.pair_set_points.specs.declared.Sets.{Sets}
use Rattle.cut_filling.specs.Filling.{Fills, IsDue, ItemAdded, Cut, Placed}
use Rattle.pair_items.specs.Measuring.{At, Measures, Restarts}
use Rattle.pair_items.specs.Filled.{cutting_at, AtItem, TellsCycle}
use Rattle.pair_set_points.specs.Format1.{Ready1, linked, Below1}
use Rattle.pair_items.proofs.ItemSizes.{at_fits, at_in_order}
use Rattle.pair_items.proofs.Turns.{item_ends, filled_start, at_start, filled_stop, filled_back, passed, added, cut}

-- ---- the rule of a table of format 1

module _ (how : Settings) (s : Store) (t : ℕ) (one : eqb (shape s t).format 1 ≡ true) where
  rule_one_lem : rule_of how s t ≡ rule1 how (shape s t).count (linked s t) (item_size s (of_items t (shape s t))) (size_of s (linked_at s t 2))
  unfolding rule_of
  rule_one_lem = rw one

  start_one : (rule_of how s t).start ≡ 10
  unfolding rule1
  start_one = ap (λ (r : Rule). r.start) rule_one_lem

  looks_one : (i : ℕ) → looks_at (rule_of how s t) i ≡ looked how.edition (linked s t) i
  unfolding rule1
  looks_one i = ap (λ (r : Rule). looks_at r i) rule_one_lem

  cost_one : (a i : ℕ) → (rule_of how s t).cost a i ≡ item_size s (of_items t (shape s t)) a i + 2
  unfolding rule1
  cost_one a i = ap (λ (r : Rule). r.cost a i) rule_one_lem

  beside_one : (a i : ℕ) → (rule_of how s t).beside a i ≡ min (partial_cover (looked how.edition (linked s t)) a i) (size_of s (linked_at s t 2))
  unfolding rule1
  beside_one a i = ap (λ (r : Rule). r.beside a i) rule_one_lem

  -- at a cut
  cut_cost_one : (i before : ℕ) → cost_at_cut (rule_of how s t) i (before + 2) ≡ cond (second how.edition) (item_size s (of_items t (shape s t)) i i) before + 2
  unfolding cost_at_cut
  cut_cost_one i before =
      ap (λ (e : ℕ). cond (second e) ((rule_of how s t).cost i i) (before + 2)) (rule_edition how s t)
      ∙ by_test (second how.edition) (λ e. rw e (cost_one i i)) (λ e. rw e)

-- ---- empty slots

module _ {s : Store} {t a i row e : ℕ} {w : List ℕ} {m : Measured} {w' : List ℕ} (one : eqb (shape s t).format 1 ≡ true) (slots : all_at_slots s t ≡ true)
    (short : item_at (shape s t) (i + 1) ≤ orders)
    (x : At s t (shape s t) a i row e w) (y : Measures s t (shape s t) a i row e w m w') where
  in_slot_lem : (k : ℕ) → k < s.link_count → (leb row k && ltb k m.next) ≡ of_span t (item_at (shape s t) i) (item_at (shape s t) (i + 1)) (link_at s k)
  in_slot_lem k h = span_rows s (at_fits x) t (item_at (shape s t) i) (item_at (shape s t) (i + 1)) x.first y.after.first short k h

  slot_wide : item_at (shape s t) (i + 1) ≡ item_at (shape s t) i + 2
  slot_wide = rw (format_one (bytes_of s t) one).item_is (omega arith)

  -- a row in the slot's bytes
  pub slot_linked : (m.next ≡ row → ⊥) → linked s t i ≡ true
  slot_linked ne =
      let h : row < m.next = omega (arith, y.later) in
      let used : row < s.link_count = omega (arith, y.after.first.within) in
      let (p, below) =
      and_both (offset_of t (link_at s row) && leb (item_at (shape s t) i) (position_of s row))
      (ltb (position_of s row) (item_at (shape s t) (i + 1))) (sym (in_slot_lem row used) ∙ rw (le-leb row row (omega arith), lt-ltb row m.next h)) in
      let (own, above) = and_both (offset_of t (link_at s row)) (leb (item_at (shape s t) i) (position_of s row)) p in
      let q : parent_of s row ≡ t = of_parent t (link_at s row) own in
      let o : kind_of s row ≡ 0 = eqb-true (kind_of s row) 0 (of_offset t (link_at s row) own) in
      let g =
      slot_fits (bytes_of s t) (position_of s row) (i + 1) (at_slot s t slots row used own)
      (ltb-true (position_of s row) (item_at (shape s t) (i + 1)) below) in
      let z : position_of s row ≡ item_at (shape s t) i = omega (arith, leb-true (item_at (shape s t) i) (position_of s row) above, slot_wide) in
      sym (ap is_some (child_found_lem s t (item_at (shape s t) i) row (at_in_order x) x.first used q o z))

  -- no row
  pub slot_empty : m.next ≡ row → linked s t i ≡ false
  slot_empty none_here = go (child_at s t (item_at (shape s t) i)) refl
    where
      go : (o : Option ℕ) → child_at s t (item_at (shape s t) i) ≡ o → is_some o ≡ false
      go None q = refl
      go (Some c) q =
          let (k, used, parent, position, child) = child_row s t (item_at (shape s t) i) c q in
          let from = le-leb (item_at (shape s t) i) (item_at (shape s t) i) (omega arith) in
          let to = lt-ltb (item_at (shape s t) i) (item_at (shape s t) (i + 1)) (omega (arith, slot_wide)) in
          let there : (leb row k && ltb k m.next) ≡ true = in_slot_lem k used ∙ rw (parent, position) (rw (from, to)) in
          let (lo, hi) = and_both (leb row k) (ltb k m.next) there in
          absurd (omega (arith, leb-true row k lo, ltb-true k m.next hi))

  -- so the slot is looked at as `is_looked_at` says
  pub slot_looked : (e : ℕ) → looked e (linked s t) i ≡ (second e || not (eqb m.next row))
  unfolding looked
  slot_looked e =
      ap (λ (b : Bool). second e || b)
      (by_test (eqb m.next row) (λ q. slot_empty (eqb-true m.next row q) ∙ sym (ap not q)) (λ q. slot_linked (eqb-false m.next row q) ∙ sym (ap not q)))

-- ---- the coverage of the pair sets in a table

module _ (looks : ℕ → Bool) where
  -- pair sets below n that are looked at, from pair set a on
  abbrev covered : ℕ → ℕ → ℕ
  covered a n = sum (λ k. cond (leb a k && looks k) 1 0) n

  covered_more : (a i : ℕ) → a ≤ i → looks i ≡ true → covered a (i + 1) ≡ covered a i + 1
  covered_more a i h e = sum_more (λ k. cond (leb a k && looks k) 1 0) i ∙ rw (le-leb a i h, e)

  covered_same : (a i : ℕ) → looks i ≡ false → covered a (i + 1) ≡ covered a i
  covered_same a i e =
      sum_more (λ k. cond (leb a k && looks k) 1 0) i ∙ ap (λ (b : Bool). covered a i + cond b 1 0) (and_second (leb a i) (looks i) e) ∙ omega arith

  covered_none : (i : ℕ) → covered i i ≡ 0
  covered_none i = sum-zero (λ k. cond (leb i k && looks k) 1 0) i (λ k h. ap (λ (b : Bool). cond b 1 0) (and_first (leb i k) (looks k) (lt-leb i k h)))

  covered_most : (a n : ℕ) → covered a n ≤ n
  covered_most a n =
      omega (
        arith,
        sum_bound (λ k. cond (leb a k && looks k) 1 0) 1 n
            (λ k h. by_test (leb a k && looks k) (λ e. rw e (omega arith)) (λ e. rw e (omega arith))),
      )

-- ---- one pair set after another

pub sets_start : (how : Settings) {s : Store} {x : TableInfo} {w l : List ℕ} → Ready1 s x w l → {f : Filling} {row : ℕ}
    → ((r : Rule) → r.start ≡ 10 → Fills f (after r 0)) → FirstRow s.links s.link_count (key_of x.table 10) row
    → Below1 how s x l 0 (record { filling = f; row = row; partial = 4 }) w l
sets_start how {s} {x} v a g =
    let start = start_one how s x.table v.table.format in
    record {
      table = v.table;
      filled = filled_start v.table.described how v.unseen (a (rule_of how s x.table) start) (omega (arith, start));
      at =
          at_start v.table.described how v.unseen (a (rule_of how s x.table) start)
          (sym (format_one (bytes_of s x.table) v.table.format).header_is) g;
      coverage = omega (arith, sum_none (λ k. cond (leb (cutting_at how s x 0).first k && looked how.edition (linked s x.table) k) 1 0));
    }

module _ {how : Settings} {s : Store} {x : TableInfo} {d : List ℕ} {i : ℕ} {p : Sets} {w l : List ℕ} (v : Below1 how s x d i p w l) (within : i < x.count) where
  abbrev rule : Rule
  rule = rule_of how s x.table

  -- the pair sets that are looked at
  abbrev looks_in : ℕ → Bool
  looks_in = looked how.edition (linked s x.table)

  pub set-ends : (x.header + x.item * (i + 1) ≡ item_at (shape s x.table) (i + 1)) × (x.header + x.item * (i + 1) ≤ 16777216)
  set-ends = item_ends v.table.described i within

  pub partial_most : p.partial ≤ 4 + 2 * i
  partial_most = omega (arith, v.coverage, covered_most looks_in (cutting_at how s x i).first i)

  pub short : item_at (shape s x.table) (i + 1) ≤ orders
  short = omega (arith, set-ends.0, set-ends.1)

  module _ {m : Measured} {w' : List ℕ} (y : Measures s x.table (shape s x.table) (cutting_at how s x i).seen i p.row (x.epoch + p.filling.cuts) w m w')
      {b : Bool} (told : b ≡ (second how.edition || not (eqb m.next p.row))) where
    looks_in_lem : looks_in i ≡ b
    looks_in_lem = slot_looked v.table.format v.table.slots short v.at y how.edition ∙ sym told

    looks : looks_at rule i ≡ b
    looks = looks_one how s x.table v.table.format i ∙ looks_in_lem

    -- the slot is passed over, so that it has no row
    pub set_passed : b ≡ false → Below1 how s x d (i + 1) p w' l
    set_passed skips =
        let (f, a, q) = passed how s x v.filled y (looks ∙ skips) in
        let e : m.next ≡ p.row =
        by_test (eqb m.next p.row) (eqb-true m.next p.row)
        (λ e. true_false (sym (or-second (second how.edition) (not (eqb m.next p.row)) (ap not e)) ∙ sym told ∙ skips)) in
        record {
          table = v.table;
          filled = f;
          at = subst (λ (n : ℕ). AtItem how s x (i + 1) p.filling n w') e a;
          coverage = rw q (omega (arith, v.coverage, covered_same looks_in (cutting_at how s x i).first i (looks_in_lem ∙ skips)));
        }

    module _ (taken : b ≡ true) {beside : ℕ} (stands : beside ≡ min (p.partial + 2) x.beside) {b' : Bool}
        (weighs : IsDue p.filling i (m.size + 2) beside how.edition b') where
      costs : m.size + 2 ≡ cost_now rule (cutting_at how s x i) i
      costs = ap (λ (n : ℕ). n + 2) y.size ∙ sym (cost_one how s x.table v.table.format (cutting_at how s x i).seen i)

      one_more : covered looks_in (cutting_at how s x i).first (i + 1) ≡ covered looks_in (cutting_at how s x i).first i + 1
      one_more = covered_more looks_in (cutting_at how s x i).first i v.filled.first (looks_in_lem ∙ taken)

      beside_is : rule.beside (cutting_at how s x i).first i ≡ beside
      unfolding partial_cover
      beside_is =
          let e : partial_cover looks_in (cutting_at how s x i).first i ≡ p.partial + 2 = omega (arith, v.coverage, one_more) in
          beside_one how s x.table v.table.format (cutting_at how s x i).first i ∙ rw (e, ← v.table.coverage) (sym stands)

      is_due_lem : cut_due rule (cutting_at how s x i) i (m.size + 2) ≡ b'
      is_due_lem = sym (weighs rule (cutting_at how s x i) (rule_edition how s x.table) beside_is v.filled.listed.fills)

      starts : rule.start ≡ 10
      starts = start_one how s x.table v.table.format

      -- no cut
      pub set-added : b' ≡ false → {f' : Filling} → ItemAdded p.filling (m.size + 2) f'
          → Below1 how s x d (i + 1) (record { filling = f'; row = m.next; partial = p.partial + 2 }) w' l
      set-added stays g =
          let (f, a, q) =
          added how s x v.filled y (looks ∙ taken) (m.size + 2) costs (is_due_lem ∙ stays) (omega (arith, y.most, starts))
          (g (cutting_at how s x i) d l v.filled.listed) in
          record { table = v.table; filled = f; at = a; coverage = rw q (omega (arith, v.coverage, one_more)) }

      -- a cut
      pub set_cut : b' ≡ true → {size : ℕ} {w'' : List ℕ}
          → Restarts s x.table (shape s x.table) i m.next how.edition (x.epoch + p.filling.cuts + 1) m.size size w''
          → {f' : Filling} {l' : List ℕ} → Cut p.filling i (size + 2) 10 l f' l'
          → Below1 how s x d (i + 1) (record { filling = f'; row = m.next; partial = 6 }) w'' l'
      set_cut due-now {size} z g =
          let at_cut : cost_at_cut rule i (m.size + 2) ≡ size + 2 = cut_cost_one how s x.table v.table.format i m.size ∙ ap (λ (n : ℕ). n + 2) (sym z.size) in
          let (f, a, q) =
          cut how s x v.filled y (looks ∙ taken) (m.size + 2) costs (is_due_lem ∙ due-now) (omega (arith, at_cut, z.most y.most, starts))
          (g rule (cutting_at how s x i) d (m.size + 2) starts at_cut v.filled.listed) z in
          record {
            table = v.table;
            filled = f;
            at = a;
            coverage = rw q (omega (arith, covered_none looks_in i, covered_more looks_in i i (omega arith) (looks_in_lem ∙ taken)));
          }

module _ {how : Settings} {s : Store} {x : TableInfo} {d : List ℕ} {i : ℕ} {p : Sets} {w l : List ℕ} (v : Below1 how s x d i p w l) (e : i ≡ x.count) where
  pub sets_stop : Placed (cut_places how s x.table) d l p.filling.cuts
  sets_stop = filled_stop v.table.described e p.filling how v.filled

  pub sets_back : TellsCycle s x.table w
  sets_back = filled_back v.table.described e p.filling how v.at

-- ---- the loop, whatever the bytes of the store

pub record Going1 (how : Settings) (o l c : List ℕ) (x : TableInfo) (w₀ d : List ℕ) (i : ℕ) (p : Sets) (w cuts : List ℕ) : Type 0 where
  pub within : i ≤ x.count
  pub walk : length w ≡ length w₀
  pub long : length cuts ≡ length d
  pub below : (b : List ℕ) → Ready1 (lent b o l c) x w₀ d → Below1 how (lent b o l c) x d i p w cuts
