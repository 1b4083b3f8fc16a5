-- The loop that puts each table's part in order by glyph. Assumes nothing.
use Prim.Native.Nat.{ℕ, zero, suc, ◌+◌, ◌-◌, ◌<◌, ◌≤◌}
use mathlib.Core.Path.{◌≡◌, refl, sym, subst, ap, ap₂, ◌∙◌}
use mathlib.Core.List.{List, ◌++◌, append_assoc}
use mathlib.Core.Logic.{⊎_elim}
use native.Mathlib.Omega.{arith}
use native.Mathlib.Nat.{eq-or-lt_of_le, not-suc-le-zero}
use lib.ListN.{length, get_or, take, drop, get_or-eq_default}
use lib.Seq.{drop-drop}
use Rattle.folds.specs.Folds.{before}
use Rattle.folds.specs.Lists.{put, part}
use Rattle.folds.specs.Ascending.{ascending}
use Rattle.folds.proofs.Tests.{either}
use Rattle.folds.proofs.Folds.{length-upto, before_none, before_more}
use Rattle.folds.proofs.Parts.{length_part, part_same, get_d_default}
use Rattle.folds.proofs.Put.{length-put, put-below, put-above}
use Rattle.folds.proofs.WrittenPart.{part-written}
use Rattle.folds.proofs.Moved.{length-map}
use Rattle.folds.proofs.Ascending.{length-ascending}
use Rattle.cut_rules.specs.Ranges.{from}
use Rattle.glyph_sort.specs.Pairs.{keyed_at, pairs, keys_of, beside_of}
use Rattle.cut_parts.specs.Tables.{low_at, high_at, PartEnd, Halved}
use Rattle.cut_parts.specs.Order.{glyph_order, item_order, Sorted, PartsOrdered}
use Rattle.cut_parts.proofs.Parting.{halved_none, halved_next}

-- ---- one part

pub glyph_order_long : (gs ks : List ℕ) (a b : ℕ) → a ≤ b → b ≤ length gs → length (glyph_order gs ks a b) ≡ b - a
unfolding keys_of pairs
glyph_order_long gs ks a b h l =
    length-map _ (ascending (pairs (part gs a b) (part ks a b))) ∙ length-ascending (pairs (part gs a b) (part ks a b)) ∙ length-upto (keyed_at (part gs a b) (part ks a b)) (length (part gs a b)) ∙ length_part gs a b h l

pub item_order_long : (gs ks : List ℕ) (a b : ℕ) → a ≤ b → b ≤ length gs → length (item_order gs ks a b) ≡ b - a
unfolding beside_of pairs
item_order_long gs ks a b h l =
    length-map _ (ascending (pairs (part gs a b) (part ks a b))) ∙ length-ascending (pairs (part gs a b) (part ks a b)) ∙ length-upto (keyed_at (part gs a b) (part ks a b)) (length (part gs a b)) ∙ length_part gs a b h l

-- a part that was lent is back
pub put_back : (xs ys zs : List ℕ) (a b : ℕ) → a ≤ b → ys ≡ zs → length zs ≡ b - a → take a xs ++ (ys ++ drop (b - a) (drop a xs)) ≡ put xs a zs
unfolding put
put_back xs ys zs a b h e l =
    let q : a + (b - a) ≡ a + length zs = omega arith in
    ap₂ (λ (u v : List ℕ). take a xs ++ (u ++ v)) e (drop-drop (b - a) a xs ∙ ap (λ (n : ℕ). drop n xs) q) ∙ sym (append_assoc (take a xs) zs (drop (a + length zs) xs))

-- ---- bounds

pub halved_only : (ks : List ℕ) (h a b : ℕ) → Halved ks h a → Halved ks h b → a ≡ b
halved_only ks h a b v w =
    let i1 = v.inside in
    let i2 = w.inside in
    ⊎_elim
    (λ lt. let no : ⊥ = omega (arith, v.high a (omega arith) (omega arith), w.low a lt) in absurd no)
    (λ ge. ⊎_elim (λ lt. let no : ⊥ = omega (arith, w.high b (omega arith) (omega arith), v.low b lt) in absurd no) (λ le. omega arith) (either b a))
    (either a b)

-- a lower bound is reached no later
pub halved_rise : (ks : List ℕ) (g h a b : ℕ) → g ≤ h → Halved ks g a → Halved ks h b → a ≤ b
halved_rise ks g h a b l v w =
    let i1 = v.inside in
    ⊎_elim (λ lt. let no : ⊥ = omega (arith, v.low b lt, w.high b (omega arith) (omega arith)) in absurd no) (λ le. le) (either b a)

module _ (gs ks cs : List ℕ) (n : ℕ) (p : Sorted gs ks cs n) where
  pub rise_parted : (h i j : ℕ) → i ≤ j → j < length ks → get_or ks j 0 < h → get_or ks i 0 < h
  rise_parted h i j a b l = omega (arith, p.ascends i j a b)

  -- table k starts where the one before it ends
  low_next : (k : ℕ) → k < length cs → low_at cs (k + 1) ≡ high_at n cs k
  low_next k h = before_more (from cs) k ∙ get_d_default cs k 0 n h

  pub low_high : (k : ℕ) → k ≤ length cs → low_at cs k ≤ high_at n cs k
  unfolding before
  low_high zero h = omega arith
  low_high (suc k) h =
      ⊎_elim
      (λ lt. omega (arith, p.rising k (suc k) (omega arith) lt, get_d_default cs (suc k) n 0 lt))
      (λ ge. omega (arith, p.below k (omega arith), get_or-eq_default cs n {n = suc k} ge))
      (either (suc k) (length cs))

  -- an earlier table ends no later than a later one starts
  pub high_low : (k m : ℕ) → k < m → m ≤ length cs → high_at n cs k ≤ low_at cs m
  unfolding before
  high_low k zero h l = absurd (not-suc-le-zero h)
  high_low k (suc m) h l = omega (arith, p.rising k m (omega arith) (omega arith), get_d_default cs k n 0 (omega arith))

-- ---- the loop

-- the parts of the first k tables are in order, and what stands from `at` on is as it came
pub record Ordering (gs ks cs : List ℕ) (n : ℕ) (gs' ks' : List ℕ) (at k : ℕ) : Type 0 where
  pub sorted : Sorted gs ks cs n
  pub some : k ≤ length cs
  pub halved : Halved ks (low_at cs k) at
  pub same_glyphs : length gs' ≡ length gs
  pub same_items : length ks' ≡ length ks
  pub tables : (m a b : ℕ) → m < k → Halved ks (low_at cs m) a → Halved ks (high_at n cs m) b → (part gs' a b ≡ glyph_order gs ks a b) × (part ks' a b ≡ item_order gs ks a b)
  pub glyphs_rest : (i : ℕ) → at ≤ i → get_or gs' i 0 ≡ get_or gs i 0
  pub items_rest : (i : ℕ) → at ≤ i → get_or ks' i 0 ≡ get_or ks i 0

pub order_start : (gs ks cs : List ℕ) (n : ℕ) → Sorted gs ks cs n → Ordering gs ks cs n gs ks 0 0
order_start gs ks cs n p =
    record {
      sorted = p;
      some = omega arith;
      halved = subst (λ (h : ℕ). Halved ks h 0) (sym (before_none (from cs))) (halved_none ks);
      same_glyphs = refl;
      same_items = refl;
      tables = λ m a b l. absurd (not-suc-le-zero l);
      glyphs_rest = λ i l. refl;
      items_rest = λ i l. refl;
    }

module _ (gs ks cs : List ℕ) (n : ℕ) (gs' ks' : List ℕ) (at k : ℕ) (t : Ordering gs ks cs n gs' ks' at k) where
  pub cut_end : (end : ℕ) → k < length cs → PartEnd ks' at (from cs k) end → PartEnd ks' at (high_at n cs k) end
  cut_end end h e = subst (λ (x : ℕ). PartEnd ks' at x end) (get_d_default cs k 0 n h) e

  pub last_end : (end : ℕ) → length cs ≤ k → PartEnd ks' at n end → PartEnd ks' at (high_at n cs k) end
  last_end end h e = subst (λ (x : ℕ). PartEnd ks' at x end) (sym (get_or-eq_default cs n {n = k} h)) e

  -- where the part of table k ends, in the list as it came
  module _ (end : ℕ) (e : PartEnd ks' at (high_at n cs k) end) where
    same : length ks ≡ length gs
    same = t.sorted.same

    end_inside : end ≤ length ks
    end_inside = omega (arith, e.inside, t.same_items)

    came : PartEnd ks at (high_at n cs k) end
    came =
        record {
          after = e.after;
          inside = end_inside;
          below = λ i a b. omega (arith, e.below i a b, t.items_rest i a);
          above = λ l. omega (arith, e.above (omega (arith, t.same_items)), t.items_rest end e.after);
        }

    pub next_half : Halved ks (high_at n cs k) end
    next_half = halved_next ks (low_at cs k) (high_at n cs k) at end (rise_parted gs ks cs n t.sorted (high_at n cs k)) (low_high gs ks cs n t.sorted k t.some) t.halved came

    pub order_ready : (at ≤ end) × (end ≤ length gs') × (length ks' ≡ length gs')
    order_ready = let s = same in (e.after, omega (arith, end_inside, t.same_glyphs), omega (arith, t.same_glyphs, t.same_items))

    -- the part is as it came
    glyph_part : part gs' at end ≡ part gs at end
    glyph_part = let s = same in part_same gs' gs at end e.after (omega (arith, end_inside, t.same_glyphs)) (omega (arith, end_inside)) (λ i a b. t.glyphs_rest i a)

    item_part : part ks' at end ≡ part ks at end
    item_part = part_same ks' ks at end e.after e.inside end_inside (λ i a b. t.items_rest i a)

    module _ (gs'' ks'' : List ℕ) (q : gs'' ≡ put gs' at (glyph_order gs' ks' at end)) (r : ks'' ≡ put ks' at (item_order gs' ks' at end)) where
      glyphs_fit : at + length (glyph_order gs' ks' at end) ≡ end
      glyphs_fit = omega (arith, glyph_order_long gs' ks' at end e.after order_ready.1, e.after)

      items_fit : at + length (item_order gs' ks' at end) ≡ end
      items_fit = omega (arith, item_order_long gs' ks' at end e.after order_ready.1, e.after)

      glyphs_in_lem : end ≤ length gs'
      glyphs_in_lem = order_ready.1

      glyphs_long : length gs'' ≡ length gs'
      glyphs_long = ap length q ∙ length-put gs' at (glyph_order gs' ks' at end) (omega (arith, glyphs_fit, glyphs_in_lem))

      items_long : length ks'' ≡ length ks'
      items_long = ap length r ∙ length-put ks' at (item_order gs' ks' at end) (omega (arith, items_fit, e.inside))

      glyphs_after : (i : ℕ) → end ≤ i → get_or gs'' i 0 ≡ get_or gs i 0
      glyphs_after i l =
          ap (λ (x : List ℕ). get_or x i 0) q ∙ put-above gs' at (glyph_order gs' ks' at end) (omega (arith, e.after, glyphs_in_lem)) i (omega (arith, glyphs_fit)) ∙ t.glyphs_rest i (omega (arith, e.after))

      items_after : (i : ℕ) → end ≤ i → get_or ks'' i 0 ≡ get_or ks i 0
      items_after i l =
          ap (λ (x : List ℕ). get_or x i 0) r ∙ put-above ks' at (item_order gs' ks' at end) (omega (arith, e.after, e.inside)) i (omega (arith, items_fit)) ∙ t.items_rest i (omega (arith, e.after))

      this : (part gs'' at end ≡ glyph_order gs ks at end) × (part ks'' at end ≡ item_order gs ks at end)
      this = (
        ap₂ (λ (x : List ℕ) (m : ℕ). part x at m) q (sym glyphs_fit) ∙ part-written gs' at (glyph_order gs' ks' at end) (omega (arith, e.after, glyphs_in_lem))
            ∙ ap₂ (λ (x y : List ℕ). keys_of (ascending (pairs x y))) glyph_part item_part,
        ap₂ (λ (x : List ℕ) (m : ℕ). part x at m) r (sym items_fit) ∙ part-written ks' at (item_order gs' ks' at end) (omega (arith, e.after, e.inside))
            ∙ ap₂ (λ (x y : List ℕ). beside_of (ascending (pairs x y))) glyph_part item_part,
      )

      before_this : (m a b : ℕ) → m < k → Halved ks (low_at cs m) a → Halved ks (high_at n cs m) b → (part gs'' a b ≡ glyph_order gs ks a b) × (part ks'' a b ≡ item_order gs ks a b)
      before_this m a b l v w =
          let s = t.sorted in
          let k1 = t.some in
          let h1 : a ≤ b = halved_rise ks (low_at cs m) (high_at n cs m) a b (low_high gs ks cs n s m (omega arith)) v w in
          let h2 : b ≤ at = halved_rise ks (high_at n cs m) (low_at cs k) b at (high_low gs ks cs n s m k l k1) w t.halved in
          let u = t.tables m a b l v w in
          let x1 = e.after in
          let x2 = e.inside in (
            part_same gs'' gs' a b h1 (omega (arith, glyphs_long, glyphs_in_lem)) (omega (arith, glyphs_in_lem))
                (λ i c d. ap (λ (x : List ℕ). get_or x i 0) q ∙ put-below gs' at (glyph_order gs' ks' at end) (omega (arith, glyphs_in_lem)) i (omega arith))
                ∙ u.0,
            part_same ks'' ks' a b h1 (omega (arith, items_long)) (omega arith)
                (λ i c d. ap (λ (x : List ℕ). get_or x i 0) r ∙ put-below ks' at (item_order gs' ks' at end) (omega arith) i (omega arith))
                ∙ u.1,
          )

      upto_this : (m a b : ℕ) → m ≤ k → Halved ks (low_at cs m) a → Halved ks (high_at n cs m) b → (part gs'' a b ≡ glyph_order gs ks a b) × (part ks'' a b ≡ item_order gs ks a b)
      upto_this m a b l v w =
          ⊎_elim
          (λ z.
          let x : at ≡ a = halved_only ks (low_at cs m) at a (subst (λ (i : ℕ). Halved ks (low_at cs i) at) (sym z) t.halved) v in
          let y : end ≡ b = halved_only ks (high_at n cs m) end b (subst (λ (i : ℕ). Halved ks (high_at n cs i) end) (sym z) next_half) w in
          subst (λ (i : ℕ). (part gs'' i b ≡ glyph_order gs ks i b) × (part ks'' i b ≡ item_order gs ks i b)) x
          (subst (λ (j : ℕ). (part gs'' at j ≡ glyph_order gs ks at j) × (part ks'' at j ≡ item_order gs ks at j)) y this))
          (λ lt. before_this m a b lt v w)
          (eq-or-lt_of_le l)

      pub order_turn : k < length cs → Ordering gs ks cs n gs'' ks'' end (k + 1)
      order_turn h =
          record {
            sorted = t.sorted;
            some = omega arith;
            halved = subst (λ (x : ℕ). Halved ks x end) (sym (low_next gs ks cs n t.sorted k h)) next_half;
            same_glyphs = glyphs_long ∙ t.same_glyphs;
            same_items = items_long ∙ t.same_items;
            tables = λ m a b l. upto_this m a b (omega arith);
            glyphs_rest = glyphs_after;
            items_rest = items_after;
          }

      pub order_stop : length cs ≤ k → PartsOrdered gs ks cs n gs'' ks''
      order_stop h =
          let z : k ≡ length cs = omega (arith, t.some) in
          let top : high_at n cs k ≡ n = get_or-eq_default cs n {n = k} h in
          record {
            same_glyphs = glyphs_long ∙ t.same_glyphs;
            same_items = items_long ∙ t.same_items;
            tables = λ m a b l. upto_this m a b (omega arith);
            others = λ a i v l.
                let y : end ≡ a = halved_only ks n end a (subst (λ (x : ℕ). Halved ks x end) top next_half) v in
                (glyphs_after i (omega arith), items_after i (omega arith));
          }
