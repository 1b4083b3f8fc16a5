-- A table's shape as the code holds it, and what opening a table answers. Assumes nothing.
use Rattle.std.specs.Prelude.{ℕ, ◌+◌, ◌*◌, cond, ◌||◌, ◌≡◌, List, [], ◌∷◌, ◌++◌, map, ◌⊎◌, length, ltb, eqb}
use Rattle.std.proofs.Common.{inl, inr}
use Rattle.ot_layouts.specs.Values.{field_count, devices}
use Rattle.ot_layouts.specs.PairPos.{Shape, own_in, shared_in, heads, format_of, value1, value2, columns, shape_of, exact}
use Rattle.ot_pairpos.specs.declared.Layout.{Layout}
use Rattle.ot_pairpos.specs.declared.Opened.{Opened}
use Rattle.ot_pairpos.specs.declared.Opened.TheVariants.{Pair, Other, Bad}

-- the numbers of its shape, its value formats, and in format 2 its columns
unfoldable pub layout_of : List ℕ → Layout
layout_of b =
    record {
      format = (shape_of b).format;
      header = (shape_of b).header;
      own = length (shape_of b).own;
      heads = length (heads (shape_of b));
      count_at = (shape_of b).count_at;
      count = (shape_of b).count;
      item = (shape_of b).item;
      unit = (shape_of b).unit;
      value1 = value1 b;
      value2 = value2 b;
      columns = cond (eqb (format_of b) 1) 0 (columns b);
    }

-- what opening a table says: document 01's number where that is the call's answer, or else the table's layout
abbrev pub opened_as : Opened → ℕ ⊎ Layout
opened_as Bad = inl 3
opened_as Other = inl 0
opened_as (Pair l) = inr l

-- 3 and its two clauses; "A format other than 1 or 2 answers 0 .. straight after check 3's first clause"
unfoldable pub opened_of : List ℕ → ℕ ⊎ Layout
opened_of b =
    cond (ltb (length b) 2) (inl 3)
    (cond (eqb (format_of b) 1 || eqb (format_of b) 2) (cond (exact b) (inr (layout_of b)) (inl 3)) (inl 0))

-- the device slots of a pair's two value records, by their formats
abbrev pub slots_of : ℕ → ℕ → List ℕ
slots_of v w = map (λ k. 2 * k) (devices v) ++ map (λ k. 2 * (field_count v + k)) (devices w)

-- the shape of which a layout holds the numbers
abbrev pub shape_with : Layout → Shape
shape_with l =
    record {
      format = l.format;
      header = l.header;
      own = own_in l.format;
      shared = shared_in l.format;
      count_at = l.count_at;
      count = l.count;
      item = l.item;
      unit = l.unit;
      slots = cond (eqb l.format 1) (0 ∷ []) (slots_of l.value1 l.value2);
    }

-- the layout counts the links of its header
pub record Numbered (l : Layout) : Type 0 where
  pub own_is : l.own ≡ length (own_in l.format)
  pub heads_is : l.heads ≡ length (own_in l.format ++ shared_in l.format)
