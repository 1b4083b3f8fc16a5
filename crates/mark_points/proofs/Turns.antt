-- One class after another: the rule of a table, and a class that is added or cut at. Assumes nothing.
use Prim.Native.Nat.{ℕ, ◌+◌, ◌-◌, ◌*◌, ◌≤◌, ◌<◌}
use mathlib.Core.Path.{◌≡◌, refl, sym, ap, ◌∙◌}
use mathlib.Core.Bool.{Bool, true, false}
use mathlib.Core.List.{List}
use native.Mathlib.Omega.{arith}
use lib.ListN.{length}
use Rattle.folds.specs.Lists.{part}
use Rattle.folds.proofs.Joined.{or-second}
use Rattle.folds.proofs.Tests.{by_test}
use Rattle.ot_layouts.specs.MarkBasePos.{base_cover_at}
use Rattle.store_rules.specs.Store.{Store, lent, size_of, linked_at}
use Rattle.store_rules.specs.Reach.{item_size, rows_of}
use Rattle.store_rules.proofs.Sound.{size_most}
use Rattle.store_rules.proofs.Lookups.{linked_used}
use Rattle.store_walk.specs.Marks.{Marks, Grown}
use Rattle.store_walk.proofs.Marks.{marks_same, marks_next}
use Rattle.store_walk.proofs.Grown.{grown_item, grown_same, grown_most}
use Rattle.glyph_class_parts.specs.ClassParts.{ClassEnd}
use Rattle.cut_rules.specs.Cuts.{Rule, Cutting, second, cost_at_cut, seen_from, looked, cut_due, cut_here, go_on, after}
use Rattle.cut_rules.proofs.Turns.{looks_at}
use Rattle.cut_filling.specs.declared.Filling.{Filling}
use Rattle.cut_filling.specs.Filling.{Fills, Listed, IsDue, ItemAdded, Cut, Placed}
use Rattle.cut_filling.proofs.Turns.{filled_start, goes_on, added, cuts_room, cuts_here, one_more, cut, all_placed}
use Rattle.call_rules.specs.declared.Settings.{Settings}
use Rattle.mark_rules.specs.Rules.{partial_cover, mark_rule}
use Rattle.mark_rules.specs.Table.{classes_of, bases_in, marks_of_class, of_classes, rule_of, cut_places}
use Rattle.mark_points.specs.declared.table_info.TableInfo.{TableInfo}
use Rattle.mark_points.specs.declared.Columns.{Columns}
use Rattle.mark_points.specs.Anchors.{Goes, also_class, WalksClass, WalksAtCut}
use Rattle.mark_points.specs.Points.{Described, PointsReady, cutting_at, Below}
use Rattle.mark_points.proofs.ClassLinks.{described_fits, class_more, class_none}
use Rattle.mark_points.proofs.MarkCounts.{start_few, start_none, ends_at, ends_inside, marks_are, covered, covered_more, covered_none, covered_few}

-- ---- the rule of a table

module _ (how : Settings) (s : Store) (t : ℕ) where
  start_is : (rule_of how s t).start ≡ 16 + size_of s (linked_at s t base_cover_at)
  unfolding rule_of mark_rule
  start_is = refl

  count_is_lem : (rule_of how s t).count ≡ classes_of s t
  unfolding rule_of mark_rule
  count_is_lem = refl

  edition_is : (rule_of how s t).edition ≡ how.edition
  unfolding rule_of mark_rule
  edition_is = refl

  looks_is : (i : ℕ) → looks_at (rule_of how s t) i ≡ true
  unfolding rule_of mark_rule looked
  looks_is i = or-second (second how.edition) true refl

  cost_is : (a i : ℕ) → (rule_of how s t).cost a i ≡ 2 * bases_in s t + 4 * marks_of_class s t i + item_size s (of_classes s t) a i
  unfolding rule_of mark_rule
  cost_is a i = refl

  beside_is : (a i : ℕ) → (rule_of how s t).beside a i ≡ partial_cover (marks_of_class s t) a i
  unfolding rule_of mark_rule
  beside_is a i = refl

  -- at a cut
  again_is : second how.edition ≡ true → (i cost : ℕ)
      → (cost_at_cut (rule_of how s t) i cost ≡ (rule_of how s t).cost i i) × (seen_from (rule_of how s t).edition i ≡ i)
  unfolding rule_of mark_rule cost_at_cut seen_from
  again_is e i cost = (rw e, rw e)

  stays_is : second how.edition ≡ false → (i cost : ℕ)
      → (cost_at_cut (rule_of how s t) i cost ≡ cost) × (seen_from (rule_of how s t).edition i ≡ i + 1)
  unfolding rule_of mark_rule cost_at_cut seen_from
  stays_is e i cost = (rw e, rw e)

-- ---- before the first class

-- a sum starts at no more than the data have
pub start_most : {s : Store} {t : ℕ} {x : TableInfo} {ps cs : List ℕ} → Described s t x ps cs → x.start ≤ 16777232
start_most {s} {t} u =
    let used = linked_used s t (described_fits u) u.reads.used base_cover_at in
    omega (arith, u.start, size_most s (described_fits u) (linked_at s t base_cover_at) used)

pub columns_start : (how : Settings) {s : Store} {t : ℕ} {x : TableInfo} {ps cs w l : List ℕ} → PointsReady s t x ps cs w l → {f : Filling}
    → ((r : Rule) → r.start ≡ x.start → Fills f (after r 0))
    → Below how s t x ps cs l 0 (record { filling = f; from = 0; partial = 4 }) w l
unfolding after
columns_start how {s} {t} {x} v {f} begins =
    let u = v.described in
    let a : Fills f (after (rule_of how s t) 0) = begins (rule_of how s t) (start_is how s t ∙ sym u.start) in
    let z : f.cuts ≡ 0 = a.cuts in
    let e : x.epoch ≡ x.epoch + f.cuts = omega arith in
    record {
      described = u;
      filled = filled_start (rule_of how s t) a (omega (arith, start_is how s t, u.start, start_most u)) (omega (arith, count_is_lem how s t, v.room));
      order = omega arith;
      marks = rw e at (marks_same (described_fits u) v.marks (λ k h. sym (class_none u 0 k)));
      from = start_none u;
      coverage = omega (arith, covered_none u 0);
    }

-- ---- one class more

module _ {how : Settings} {s : Store} {t : ℕ} {x : TableInfo} {ps cs d : List ℕ} {i : ℕ} {p : Columns} {w l : List ℕ}
    (v : Below how s t x ps cs d i p w l) (inside : i < x.arrays.classes) where
  abbrev rule : Rule
  rule = rule_of how s t

  -- there is an entry for a cut at class i
  pub cut_room : p.filling.cuts < length l
  cut_room = cuts_room rule v.filled (omega (arith, count_is_lem how s t, v.described.classes))

  -- what a walk adds lies within the data
  pub size_few : {from more : ℕ → Bool} {e : ℕ} {w' : List ℕ} {size : ℕ} → Grown s from more e w' size → size ≤ 16777216
  size_few g = grown_most (described_fits v.described) g

  -- where the classes that count as seen start
  abbrev seen : ℕ
  seen = (cutting_at how s t i).seen

  module _ {to : ℕ} (end : ClassEnd cs p.from i to) where
    pub marks_few : (p.from ≤ to) × (to ≤ length ps) × (to ≤ 4194304)
    marks_few =
        let few : to ≤ 4194304 = omega (arith, ends_at v.described i v.from end, start_few v.described (i + 1)) in
        (end.after, ends_inside v.described i v.from end, few)

    many : to - p.from ≡ marks_of_class s t i
    many = marks_are v.described i v.from end

    one_more_class : covered v.described (cutting_at how s t i).first (i + 1) ≡ covered v.described (cutting_at how s t i).first i + (to - p.from)
    one_more_class = omega (arith, covered_more v.described (cutting_at how s t i).first i v.filled.first, many)

    pub partial_few : p.partial + 2 * (to - p.from) ≤ 16777220
    partial_few = omega (arith, v.coverage, covered_few v.described (cutting_at how s t i).first i, marks_few)

    -- the rows of the classes from a up to i, and with class i's as the walk adds them
    abbrev rows : ℕ → ℕ → Bool
    rows a = rows_of s (of_classes s t) a i

    abbrev with_class : ℕ → ℕ → Bool
    with_class a = also_class s (rows a) x i (part ps p.from to)

    -- what a walk of the class has added are its rows
    class_grown : (a : ℕ) → a ≤ i → {e : ℕ} {w' : List ℕ} {size : ℕ} → Grown s (rows a) (with_class a) e w' size
        → Grown s (rows a) (rows_of s (of_classes s t) a (i + 1)) e w' size
    class_grown a order g =
        grown_same (described_fits v.described) (class_more v.described a i order inside) (rw (v.from, ends_at v.described i v.from end) at g)

    -- what a class costs that reaches so much
    abbrev costing : ℕ → ℕ
    costing size = 2 * x.arrays.bases + 4 * (to - p.from) + size

    class_costs : (a : ℕ) → a ≤ i → {e : ℕ} {w' : List ℕ} {size : ℕ} → Grown s (rows a) (with_class a) e w' size → costing size ≡ rule.cost a i
    class_costs a order g = omega (arith, cost_is how s t a i, v.described.bases, many, grown_item (of_classes s t) a i (class_grown a order g))

    module _ {w' : List ℕ} {size : ℕ} (g : Grown s (rows seen) (with_class seen) (x.epoch + p.filling.cuts) w' size) where
      -- the next epoch, in which nothing counts as seen yet
      pub next_epoch : (a : ℕ) → Marks s (rows_of s (of_classes s t) a a) (x.epoch + p.filling.cuts + 1) w'
      next_epoch a = marks_next (described_fits v.described) g.marks (λ k h. class_none v.described a k)

      module _ {b : Bool} (weighs : IsDue p.filling i (costing size) (p.partial + 2 * (to - p.from)) how.edition b) (few : x.arrays.bases < 65536) where
        stands : rule.beside (cutting_at how s t i).first i ≡ p.partial + 2 * (to - p.from)
        unfolding partial_cover
        stands = omega (arith, beside_is how s t (cutting_at how s t i).first i, v.coverage, one_more_class)

        is_due_lem : cut_due rule (cutting_at how s t i) i (costing size) ≡ b
        is_due_lem = sym (weighs rule (cutting_at how s t i) (edition_is how s t) stands v.filled.listed.fills)

        starts : rule.start ≡ x.start
        starts = start_is how s t ∙ sym v.described.start

        -- a start and a class are few bytes
        small : (n : ℕ) → n ≤ 16777216 → rule.start + costing n ≤ 67108864
        small n h = omega (arith, starts, start_most v.described, marks_few)

        -- no cut: the class counts as seen
        pub class_added : b ≡ false → {f' : Filling} → ItemAdded p.filling (costing size) f'
            → Below how s t x ps cs d (i + 1) (record { filling = f'; from = to; partial = p.partial + 2 * (to - p.from) }) w' l
        unfolding go_on
        class_added stays {f'} add =
            let listed : Listed f' (go_on (cutting_at how s t i) (costing size)) d l = add (cutting_at how s t i) d l v.filled.listed in
            let costs = class_costs seen v.order g in
            let e : cutting_at how s t (i + 1) ≡ go_on (cutting_at how s t i) (costing size) =
            goes_on rule i (looks_is how s t i) (costing size) costs (is_due_lem ∙ stays) in
            let first : (cutting_at how s t (i + 1)).first ≡ (cutting_at how s t i).first = ap (λ (c : Cutting). c.first) e in
            let still : (cutting_at how s t (i + 1)).seen ≡ seen = ap (λ (c : Cutting). c.seen) e in
            let same : f'.cuts ≡ p.filling.cuts = omega (arith, listed.fills.cuts, v.filled.listed.fills.cuts) in
            record {
              described = v.described;
              filled = added rule v.filled (looks_is how s t i) (costing size) costs (is_due_lem ∙ stays) (small size (size_few g)) listed;
              order = omega (arith, v.order);
              marks = rw (still, same) (class_grown seen v.order g).marks;
              from = ends_at v.described i v.from end;
              coverage = rw first (omega (arith, v.coverage, one_more_class));
            }

        -- a cut, at which the class reaches so much; then what counts as seen starts at an item as the edition says
        module _ (due-now : b ≡ true) {size' : ℕ} {f' : Filling} {l' : List ℕ} (begins : Cut p.filling i (costing size') x.start l f' l') where
          class_restarts : cost_at_cut rule i (costing size) ≡ costing size' → size' ≤ 16777216 → {a : ℕ} → a ≤ i + 1 → seen_from rule.edition i ≡ a
              → {w'' : List ℕ} → Marks s (rows_of s (of_classes s t) a (i + 1)) (x.epoch + p.filling.cuts + 1) w''
              → Below how s t x ps cs d (i + 1) (record { filling = f'; from = to; partial = 4 + 2 * (to - p.from) }) w'' l'
          unfolding cut_here
          class_restarts at_cut most order seen-is marks =
              let listed : Listed f' (cut_here rule (cutting_at how s t i) i (costing size)) d l' =
              begins rule (cutting_at how s t i) d (costing size) starts at_cut v.filled.listed in
              let costs = class_costs seen v.order g in
              let e : cutting_at how s t (i + 1) ≡ cut_here rule (cutting_at how s t i) i (costing size) =
              cuts_here rule i (looks_is how s t i) (costing size) costs (is_due_lem ∙ due-now) in
              let first : (cutting_at how s t (i + 1)).first ≡ i = ap (λ (c : Cutting). c.first) e in
              let now = ap (λ (c : Cutting). c.seen) e ∙ seen-is in
              let epoch : x.epoch + p.filling.cuts + 1 ≡ x.epoch + f'.cuts = omega (arith, one_more rule v.filled (costing size) listed) in
              record {
                described = v.described;
                filled = cut rule v.filled (looks_is how s t i) (costing size) costs (is_due_lem ∙ due-now) (omega (arith, at_cut, small size' most)) listed;
                order = omega (arith, now);
                marks = rw (now, ← epoch) marks;
                from = ends_at v.described i v.from end;
                coverage = rw first (omega (arith, many, covered_none v.described i, covered_more v.described i i (omega arith)));
              }

          -- edition 2: it was measured again, and counts as seen
          pub class_again : second how.edition ≡ true → {w'' : List ℕ} → Grown s (rows i) (with_class i) (x.epoch + p.filling.cuts + 1) w'' size'
              → Below how s t x ps cs d (i + 1) (record { filling = f'; from = to; partial = 4 + 2 * (to - p.from) }) w'' l'
          class_again yes-again h =
              let (costs, from-here) = again_is how s t yes-again i (costing size) in
              class_restarts (costs ∙ sym (class_costs i (omega arith) h)) (size_few h) (omega arith) from-here (class_grown i (omega arith) h).marks

          -- edition 1: it stays as it was measured, and does not
          pub class_stays : second how.edition ≡ false → {w'' : List ℕ} → (size' ≡ size) × (w'' ≡ w')
              → Below how s t x ps cs d (i + 1) (record { filling = f'; from = to; partial = 4 + 2 * (to - p.from) }) w'' l'
          class_stays not-again (same, still) =
              let (costs, from_next) = stays_is how s t not-again i (costing size) in
              rw still (class_restarts (costs ∙ ap costing (sym same)) (omega (arith, size_few g)) (omega arith) from_next (next_epoch (i + 1)))

-- ---- a class as the code weighs it, whatever the bytes of the store

module _ (c : List ℕ) {how : Settings} {b o l : List ℕ} {t : ℕ} {x : TableInfo} {ps cs d : List ℕ} {i : ℕ} {p : Columns} {w cuts : List ℕ}
    (v : Below how (lent b o l c) t x ps cs d i p w cuts) (inside : i < x.arrays.classes) where
  early : x.epoch + p.filling.cuts + 1 < 2147483648
  early = omega (arith, v.described.epochs, v.filled.few, inside)

  -- the class can be walked
  pub goes_now : Goes o l c (x.epoch + p.filling.cuts) w
  goes_now = (_, record { bytes = b; is_sound = v.described.reads.sounds; marks = v.marks; early = omega (arith, early) })

  module _ {to : ℕ} (end : ClassEnd cs p.from i to) {w' : List ℕ} {size : ℕ}
      (walks : WalksClass o l c x i (part ps p.from to) (x.epoch + p.filling.cuts) w w' size) where
    abbrev before : ℕ → Bool
    before = rows_of (lent b o l c) (of_classes (lent b o l c) t) (cutting_at how (lent b o l c) t i).seen i

    walked : Grown (lent b o l c) before (also_class (lent b o l c) before x i (part ps p.from to)) (x.epoch + p.filling.cuts) w' size
    walked = walks.grown b before v.described.reads.sounds v.marks

    pub class_few : (to ≤ 4194304) × (size ≤ 16777216)
    class_few = ((marks_few v inside end).2, size_few v inside walked)

    -- and again, in the next epoch
    pub goes_again : Goes o l c (x.epoch + p.filling.cuts + 1) w'
    goes_again =
        (_, record { bytes = b; is_sound = v.described.reads.sounds; marks = next_epoch v inside end walked i; early = early })

    module _ {w'' : List ℕ} {size' : ℕ}
        (at_cut : WalksAtCut o l c x i (part ps p.from to) size how.edition (x.epoch + p.filling.cuts + 1) w' w'' size') where
      abbrev none : ℕ → Bool
      none = rows_of (lent b o l c) (of_classes (lent b o l c) t) i i

      walked_again : second how.edition ≡ true
          → Grown (lent b o l c) none (also_class (lent b o l c) none x i (part ps p.from to)) (x.epoch + p.filling.cuts + 1) w'' size'
      walked_again e = (at_cut.again e).grown b none v.described.reads.sounds (next_epoch v inside end walked i)

      pub again_few : size' ≤ 16777216
      again_few =
          by_test (second how.edition)
          (λ e. size_few v inside (walked_again e))
          (λ e. omega (arith, (at_cut.stays e).0, class_few))

      pub class_cut : {due : Bool} → IsDue p.filling i (costing v inside end size) (p.partial + 2 * (to - p.from)) how.edition due
          → x.arrays.bases < 65536 → due ≡ true → {f' : Filling} {cuts' : List ℕ}
          → Cut p.filling i (costing v inside end size') x.start cuts f' cuts'
          → Below how (lent b o l c) t x ps cs d (i + 1) (record { filling = f'; from = to; partial = 4 + 2 * (to - p.from) }) w'' cuts'
      class_cut weighs few now begins =
          by_test (second how.edition)
          (λ e. class_again v inside end walked weighs few now begins e (walked_again e))
          (λ e. class_stays v inside end walked weighs few now begins e (at_cut.stays e))

-- ---- after the last class

pub columns_stop : {how : Settings} {s : Store} {t : ℕ} {x : TableInfo} {ps cs d : List ℕ} {i : ℕ} {p : Columns} {w l : List ℕ}
    → Below how s t x ps cs d i p w l → i ≡ x.arrays.classes → Placed (cut_places how s t) d l p.filling.cuts
unfolding cut_places
columns_stop {how} {s} {t} v e = all_placed (rule_of how s t) v.filled (e ∙ v.described.classes ∙ sym (count_is_lem how s t))

-- ---- the loop, whatever the bytes of the store and the table

pub record Going (how : Settings) (o l c : List ℕ) (x : TableInfo) (ps cs w₀ d : List ℕ) (i : ℕ) (p : Columns) (w cuts : List ℕ) : Type 0 where
  pub inside : i ≤ x.arrays.classes
  pub walk : length w ≡ length w₀
  pub long : length cuts ≡ length d
  pub below : (b : List ℕ) (t : ℕ) → PointsReady (lent b o l c) t x ps cs w₀ d → Below how (lent b o l c) t x ps cs d i p w cuts
