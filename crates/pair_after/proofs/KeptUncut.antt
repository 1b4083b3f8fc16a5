-- A rule of either edition cuts the kept table no more. Assumes nothing.
use Prim.Native.Nat.{ℕ, ◌+◌, ◌*◌, ◌<◌, ◌≤◌}
use mathlib.Core.Path.{◌≡◌, refl, ap, ap₂, subst, ◌∙◌}
use mathlib.Core.Bool.{Bool, true, false, cond, ◌&&◌, ◌||◌}
use mathlib.Core.List.{List, []}
use native.Mathlib.Omega.{arith}
use lib.Dec.{leb, eqb}
use Rattle.folds.specs.Lists.{is_some}
use Rattle.folds.proofs.Tests.{by_test}
use Rattle.folds.proofs.FromTheFront.{sum_same}
use Rattle.ot_layouts.specs.Coverage.{Entry, Ascends}
use Rattle.ot_layouts.specs.PairPos.{Shape, item_at}
use Rattle.ot_layouts.proofs.Shapes.{format_one}
use Rattle.store_rules.specs.Store.{Store, bytes_of, child_at, size_of, linked_at}
use Rattle.store_rules.specs.Reach.{item_size}
use Rattle.glyph_rules.specs.Entries.{within}
use Rattle.glyph_rules.specs.Estimates.{beside_rows, estimate}
use Rattle.glyph_rules.proofs.Entries.{reduced_none, within_within}
use Rattle.cut_rules.specs.Cuts.{Rule, second, looked, after, cuts_of}
use Rattle.cut_rules.specs.Ranges.{from}
use Rattle.cut_rules.proofs.FirstCut.{none_before_lem, cuts_none}
use Rattle.call_rules.specs.declared.Settings.{Settings}
use Rattle.pair_rules.specs.Rules.{partial_cover, rule1, rule2}
use Rattle.pair_rules.specs.Table.{shape, entries_of, of_items, rule_of, cut_places}
use Rattle.pair_rules.specs.Written.{split_store}
use Rattle.pair_rules.proofs.Checks.{entries_ascend}
use Rattle.pair_rules.proofs.TableCuts.{rule_count}
use Rattle.pair_after.proofs.Ready.{Ready, first_cut}
use Rattle.pair_after.proofs.View.{View, view_shape, view_test, view_entries}
use Rattle.pair_after.proofs.KeptAndNew.{view_kept}
use Rattle.pair_after.proofs.ViewParts.{class2_size, cover_less}
use Rattle.pair_after.proofs.SameReach.{size_same}

partial_same : (f g : ℕ → Bool) (i : ℕ) → ((k : ℕ) → k ≤ i → f k ≡ g k) → partial_cover f 0 i ≡ partial_cover g 0 i
unfolding partial_cover
partial_same f g i h =
    ap (λ (n : ℕ). 4 + 2 * n) (sum_same (λ k. cond (leb 0 k && f k) 1 0) (λ k. cond (leb 0 k && g k) 1 0) (i + 1) (λ k l. ap (λ (b : Bool). cond (leb 0 k && b) 1 0) (h k (omega arith))))

module _ (how : Settings) (s : Store) (t : ℕ) (cs : List ℕ) (g : Ready s t cs) (is_cut : cs ≡ cut_places how s t) where
  abbrev s' : Store
  s' = split_store s t cs

  abbrev p0 : ℕ
  p0 = from cs 0

  view : View s t s' t 0 p0
  view = view_kept s t cs g

  up : Ascends 0 (entries_of s t)
  up = entries_ascend s t g.reads

  count_then : (shape s' t).count ≡ p0
  count_then = ap (λ (sh : Shape). sh.count) (view_shape view) ∙ omega arith

  uncut_old : (k : ℕ) → k ≤ p0 → (after (rule_of how s t) k).cuts ≡ []
  unfolding cut_places
  uncut_old k h = none_before_lem (rule_of how s t) k (omega (arith, first_cut s t cs g, rule_count how s t)) (subst (λ (x : List ℕ). k ≤ from x 0) is_cut h)

  -- ---- format 1

  -- the slots that are not empty
  abbrev slots : Store → ℕ → Bool
  slots x i = is_some (child_at x t (item_at (shape x t) i))

  abbrev rule_one : Store → Rule
  rule_one x = rule1 how (shape x t).count (slots x) (item_size x (of_items t (shape x t))) (size_of x (linked_at x t 2))

  rule_one_lem : (x : Store) → eqb (shape x t).format 1 ≡ true → rule_of how x t ≡ rule_one x
  unfolding rule_of
  rule_one_lem x e = rw e

  slot_same : eqb (shape s t).format 1 ≡ true → (i : ℕ) → i < p0 → slots s' i ≡ slots s i
  slot_same e i h =
      let two = (format_one (bytes_of s t) e).item_is in
      let m1 : (shape s t).item * i ≡ 2 * i = ap (λ (n : ℕ). n * i) two in
      let m2 : (shape s t).item * p0 ≡ 2 * p0 = ap (λ (n : ℕ). n * p0) two in
      ap is_some
      (ap (λ (sh : Shape). child_at s' t (item_at sh i)) (view_shape view)
      ∙ view.links (item_at (shape s t) i) (omega arith) (omega arith) ∙ ap (child_at s t) (omega arith))

  uncut_one : eqb (shape s t).format 1 ≡ true → cuts_of (rule_of how s' t) ≡ []
  unfolding rule1 looked
  uncut_one e =
      let looks : Store → ℕ → Bool = λ x. looked how.edition (slots x) in
      ap cuts_of (rule_one_lem s' (view_test view up ∙ e))
      ∙ cuts_none (rule_one s) (rule_one s') p0 (λ k h. subst (λ (x : Rule). (after x k).cuts ≡ []) (rule_one_lem s e) (uncut_old k h)) refl refl
      (slot_same e)
      (λ i h. ap (λ (n : ℕ). n + 2) (size_same s t cs g i h))
      (λ i h.
      let z : partial_cover (looks s') 0 i ≡ partial_cover (looks s) 0 i = partial_same (looks s') (looks s) i (λ k l. ap (λ (b : Bool). second how.edition || b) (slot_same e k (omega arith))) in
      omega (arith, cover_less s t cs g view e))
      count_then

  -- ---- format 2

  abbrev rule_two : Store → Rule
  rule_two x = rule2 how (shape x t).count (shape x t).item (item_size x (of_items t (shape x t))) (entries_of x t) (size_of x (linked_at x t 10))

  rule_two_lem : (x : Store) → eqb (shape x t).format 1 ≡ false → rule_of how x t ≡ rule_two x
  unfolding rule_of
  rule_two_lem x e = rw e

  uncut_two : eqb (shape s t).format 1 ≡ false → cuts_of (rule_of how s' t) ≡ []
  unfolding rule2
  uncut_two e =
      let row : (shape s' t).item ≡ (shape s t).item = ap (λ (sh : Shape). sh.item) (view_shape view) in
      let es : entries_of s' t ≡ within 0 p0 (entries_of s t) = view_entries view up ∙ reduced_none (within 0 p0 (entries_of s t)) in
      ap cuts_of (rule_two_lem s' (view_test view up ∙ e))
      ∙ cuts_none (rule_two s) (rule_two s') p0 (λ k h. subst (λ (x : Rule). (after x k).cuts ≡ []) (rule_two_lem s e) (uncut_old k h)) refl refl
      (λ i h. refl)
      (λ i h. ap₂ (λ (x y : ℕ). x + y) row (size_same s t cs g i h))
      (λ i h.
      let z : beside_rows (size_of s' (linked_at s' t 10)) (estimate (within 0 (i + 1) (entries_of s' t))) ≡ beside_rows (size_of s (linked_at s t 10)) (estimate (within 0 (i + 1) (entries_of s t)))
      = ap₂ (λ (n : ℕ) (x : List Entry). beside_rows n (estimate x)) (class2_size s t cs g view e) (ap (within 0 (i + 1)) es ∙ within_within (i + 1) p0 (entries_of s t) (omega arith)) in
      omega arith)
      count_then

  pub kept_uncut : cut_places how s' t ≡ []
  unfolding cut_places
  kept_uncut = by_test (eqb (shape s t).format 1) uncut_one uncut_two
