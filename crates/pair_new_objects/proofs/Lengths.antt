-- The summed lengths of new objects, table by table. Assumes nothing.
use Prim.Native.Nat.{ℕ, ◌+◌, ◌-◌, ◌*◌, ◌<◌, ◌≤◌}
use mathlib.Core.Path.{◌≡◌, sym, subst, ap, ap₂, ◌∙◌}
use mathlib.Core.List.{List, ◌∷◌}
use native.Mathlib.Omega.{arith}
use lib.ListN.{length, get_or}
use Rattle.folds.specs.Folds.{sum, flat}
use Rattle.folds.specs.Lists.{join, part}
use Rattle.folds.proofs.Folds.{sum_none, sum_more}
use Rattle.folds.proofs.FromTheFront.{sum_same}
use Rattle.folds.proofs.Parts.{length_part}
use Rattle.ot_layouts.specs.Coverage.{Entry}
use Rattle.ot_layouts.specs.PairPos.{shape_of, item_at}
use Rattle.glyph_rules.specs.Entries.{within}
use Rattle.cut_rules.specs.Ranges.{from, to}
use Rattle.pair_rules.specs.Written.{new_table, new_parts, new_objects}
use Rattle.cut_rules.proofs.CutPlaces.{range_high}
use Rattle.ot_pairpos.specs.declared.Layout.{Layout}
use Rattle.ot_pairpos.specs.Layout.{layout_of}
use Rattle.cut_parts.specs.Tables.{paired, high_at, PartEnd, Halved}
use Rattle.cut_parts.proofs.Parting.{length-paired}
use Rattle.cut_parts.proofs.TableParts.{same_part, kept_half, kept_entries, new_rises, new_inside, new_half, new_entries, new_same}
use Rattle.folds.proofs.Joining.{join_long, join-cons, join-flat}
use Rattle.pair_new_objects.specs.Planned.{Beside, PlannedParts}
use Rattle.pair_new_objects.specs.Objects.{parts_of, Length}
use Rattle.pair_new_objects.proofs.Beside.{parts_same, parts_short}
use Rattle.pair_new_objects.proofs.Planning.{cuts_few, new_beside, new_small}
use Rattle.pair_new_objects.proofs.Tables.{shaped, new_size}

-- what stands beside the table of items lo up to hi
abbrev pub beside_length : ℕ → List Entry → ℕ → ℕ → ℕ
beside_length f es lo hi = length (join (parts_of f (within lo hi es) lo))

-- the objects of new table j
abbrev pub table_length : Layout → List Entry → List ℕ → ℕ → ℕ
table_length l es cs j = l.header + l.item * (get_or cs (j + 1) l.count - from cs j) + beside_length l.format es (from cs j) (get_or cs (j + 1) l.count)

-- a part of at most 65,536 glyphs
pub most_beside : (f : ℕ) (gs ks : List ℕ) (lo : ℕ) → length ks ≡ length gs → length gs ≤ 65536 → length (join (parts_of f (paired gs ks) lo)) ≤ 524296
most_beside f gs ks lo e h = omega (arith, parts_short f (paired gs ks) lo, length-paired gs ks e)

-- the kept table's parts and the objects of the first j new tables are summed
pub record Total (gs ks cs : List ℕ) (l : Layout) (at total j : ℕ) : Type 0 where
  pub known : PlannedParts gs ks cs l
  pub some : j ≤ length cs
  pub halved : Halved ks (high_at l.count cs j) at
  pub is : total ≡ beside_length l.format (paired gs ks) 0 (from cs 0) + sum (table_length l (paired gs ks) cs) j
  pub most : total ≤ (j + 1) * 33554432

module _ (gs ks cs : List ℕ) (l : Layout) (p : PlannedParts gs ks cs l) where
  part-few : (a b : ℕ) → a ≤ b → b ≤ length ks → length (part gs a b) ≤ 65536
  part-few a b h m = let e = p.parts.same in let f = p.few in omega (arith, length_part gs a b h (omega arith))

  pub total_start : (a r : ℕ) → PartEnd ks 0 (from cs 0) a → r ≡ length (join (parts_of l.format (paired (part gs 0 a) (part ks 0 a)) 0))
      → Total gs ks cs l a r 0
  total_start a r e q =
      record {
        known = p;
        some = omega arith;
        halved = kept_half gs ks cs l.count p.parts a e;
        is =
            q ∙ ap (λ (es : List Entry). length (join (parts_of l.format es 0))) (sym (kept_entries gs ks cs l.count p.parts a e))
            ∙ omega (arith, sum_none (table_length l (paired gs ks) cs));
        most = omega (
          arith,
          most_beside l.format (part gs 0 a) (part ks 0 a) 0 (same_part gs ks cs l.count p.parts 0 a (omega arith) e.inside)
              (part-few 0 a (omega arith) e.inside),
        );
      }

module _ (gs ks cs : List ℕ) (l : Layout) (at total j : ℕ) (t : Total gs ks cs l at total j) where
  -- what is lent for new table j
  pub turn_ready : j < length cs → (lo hi r : ℕ) → lo ≡ from cs j → hi ≡ get_or cs (j + 1) l.count → PartEnd ks at hi r
      → (length (part ks at r) ≡ length (part gs at r)) × Beside l.format lo (paired (part gs at r) (part ks at r))
  turn_ready h lo hi r a b e =
      let e' : PartEnd ks at (get_or cs (j + 1) l.count) r = subst (λ (n : ℕ). PartEnd ks at n r) b e in (
        new_same gs ks cs l.count t.known.parts j at r h t.halved e',
        subst (λ (n : ℕ). Beside l.format n (paired (part gs at r) (part ks at r))) (sym a) (new_beside gs ks cs l t.known j at r h t.halved e'),
      )

  module _ (h : j < length cs) (lo hi r x : ℕ) (a : lo ≡ from cs j) (b : hi ≡ get_or cs (j + 1) l.count) (e : PartEnd ks at hi r)
      (q : x ≡ length (join (parts_of l.format (paired (part gs at r) (part ks at r)) lo))) where
    e' : PartEnd ks at (get_or cs (j + 1) l.count) r
    e' = subst (λ (n : ℕ). PartEnd ks at n r) b e

    pub turn_items : (lo ≤ hi) × (hi ≤ l.count)
    turn_items = (
      omega (arith, new_rises gs ks cs l.count t.known.parts j at r h t.halved e'),
      omega (arith, new_inside gs ks cs l.count t.known.parts j at r h t.halved e'),
    )

    few_more : x ≤ 524296
    few_more = omega (
      arith,
      most_beside l.format (part gs at r) (part ks at r) lo (new_same gs ks cs l.count t.known.parts j at r h t.halved e')
          (part-few gs ks cs l t.known at r e.after e.inside),
    )

    -- the table's bytes
    pub rows_small : l.item * (hi - lo) ≤ 16777216
    rows_small =
        subst (λ (n : ℕ). l.item * (n - lo) ≤ 16777216) (sym b)
        (subst (λ (m : ℕ). l.item * (get_or cs (j + 1) l.count - m) ≤ 16777216) (sym a) (new_small gs ks cs l t.known j at r h t.halved e'))

    -- the sums fit
    pub turn_small : l.header + l.item * (hi - lo) + x ≤ 33554432
    turn_small = omega (arith, rows_small, few_more, t.known.header)

    pub turn_fits : total + (l.header + l.item * (hi - lo) + x) < 18446744073709551616
    turn_fits = omega (arith, turn_small, t.most, cuts_few gs ks cs l t.known)

    pub total_turn : Total gs ks cs l r (total + (l.header + l.item * (hi - lo) + x)) (j + 1)
    total_turn =
        let es = paired gs ks in
        let same : l.header + l.item * (hi - lo) + x ≡ table_length l es cs j =
        ap₂ (λ (m n : ℕ). l.header + l.item * (m - n) + x) b a
        ∙ ap (λ (n : ℕ). l.header + l.item * (get_or cs (j + 1) l.count - from cs j) + n)
        (q ∙ ap (λ (n : ℕ). length (join (parts_of l.format (paired (part gs at r) (part ks at r)) n))) a
        ∙ ap (λ (y : List Entry). length (join (parts_of l.format y (from cs j)))) (sym (new_entries gs ks cs l.count t.known.parts j at r h t.halved e'))) in
        record {
          known = t.known;
          some = omega arith;
          halved = new_half gs ks cs l.count t.known.parts j at r h t.halved e';
          is = omega (arith, t.is, sum_more (table_length l es cs) j);
          most = omega (arith, turn_small, t.most);
        }

  pub total_stop : length cs ≤ j → Length l (paired gs ks) cs total
  unfolding new_objects
  total_stop h =
      record {
        is = λ b e w.
            let es = paired gs ks in
            let sh = shape_of b in
            let s = shaped b l e in
            let z : j ≡ length cs = omega (arith, t.some) in
            let objects : ℕ → List (List ℕ) = λ i. new_table sh b (from cs i) (to sh.count cs i) ∷ new_parts sh es (from cs i) (to sh.count cs i) in
            t.is
            ∙ ap₂ (λ (f n : ℕ). beside_length f es 0 (from cs 0) + sum (table_length l es cs) n) s.format_is z
            ∙ ap₂ (λ (m n : ℕ). m + n) (ap (λ (y : List (List ℕ)). length (join y)) (sym (parts_same b es 0 (from cs 0))))
            (sum_same (table_length l es cs) (λ i. length (join (objects i))) (length cs) (λ i m. one b e w i m) ∙ sym (join-flat objects (length cs)))
            ∙ omega (arith, join_long (flat objects (length cs)) (new_parts sh es 0 (from cs 0)));
      }
    where
      one : (b : List ℕ) (e : l ≡ layout_of b) (w : length b ≡ item_at (shape_of b) (shape_of b).count) (i : ℕ) → i < length cs
          → table_length l (paired gs ks) cs i
          ≡ length
          (join (new_table (shape_of b) b (from cs i) (to (shape_of b).count cs i)
          ∷ new_parts (shape_of b) (paired gs ks) (from cs i) (to (shape_of b).count cs i)))
      one b e w i m =
          let s = shaped b l e in
          let es = paired gs ks in
          let sh = shape_of b in
          let r = range i m in
          let c = s.count_is_lem in
          ap₂ (λ (x y : ℕ). x + y) (sym (new_size b l e w (from cs i) (get_or cs (i + 1) l.count) (omega (arith, r.0)) r.1))
          (ap (λ (f : ℕ). beside_length f es (from cs i) (get_or cs (i + 1) l.count)) s.format_is
          ∙ ap (λ (y : List (List ℕ)). length (join y)) (sym (parts_same b es (from cs i) (get_or cs (i + 1) l.count))))
          ∙ ap (λ (n : ℕ). length (new_table sh b (from cs i) (get_or cs (i + 1) n)) + length (join (new_parts sh es (from cs i) (get_or cs (i + 1) n)))) c
          ∙ sym (join-cons (new_table sh b (from cs i) (to sh.count cs i)) (new_parts sh es (from cs i) (to sh.count cs i)))
        where
          range : (i : ℕ) → i < length cs → (from cs i < get_or cs (i + 1) l.count) × (get_or cs (i + 1) l.count ≤ l.count)
          range i m = range_high l.count cs t.known.parts.places i m
