-- The summed lengths of new objects, table by table. Assumes nothing.
use Prim.Native.Nat.{ℕ, ◌+◌, ◌-◌, ◌*◌, ◌<◌, ◌≤◌}
use mathlib.Core.Path.{◌≡◌, sym, subst, ap, ap₂, ◌∙◌}
use mathlib.Core.List.{List, [], ◌∷◌}
use native.Mathlib.Omega.{arith}
use native.Mathlib.Nat.{mul-le-mul_left}
use lib.ListN.{length, get_or}
use Rattle.folds.specs.Folds.{sum}
use Rattle.folds.specs.Lists.{join, part}
use Rattle.folds.proofs.Folds.{sum_none, sum_more}
use Rattle.folds.proofs.Parts.{length_part}
use Rattle.ot_layouts.specs.Coverage.{coverage_bytes}
use Rattle.ot_layouts.proofs.CoverageLength.{cover_length}
use Rattle.cut_rules.specs.Ranges.{from}
use Rattle.cut_parts.specs.Tables.{high_at, PartEnd, Halved}
use Rattle.cut_parts.proofs.TableParts.{kept_half, new_rises, new_inside, new_half, new_same}
use Rattle.folds.proofs.Joining.{join_long, join-cons, join_one, join-flat}
use Rattle.mark_rules.specs.Written.{new_table, new_base_array, new_parts, new_objects}
use Rattle.mark_new_table.specs.Arrays.{mark_array_of, arrays_of}
use Rattle.mark_new_table.proofs.Bytes.{table_long, array_long, bases_long_lem}
use Rattle.mark_new_objects.specs.Marks.{marks_from}
use Rattle.mark_new_objects.specs.Planned.{PlannedParts}
use Rattle.mark_new_objects.specs.Objects.{parts_of, parts_length, table_objects, tables_of, objects_of}
use Rattle.mark_new_objects.proofs.Planning.{cuts_few, kept_same, kept_parts_lem, table_parts}

pub parts_long : (gs ks : List ℕ) (bases lo hi : ℕ) → length ks ≡ length gs → length (join (parts_of gs ks bases lo hi)) ≡ parts_length gs bases (hi - lo)
parts_long gs ks bases lo hi same =
    omega (
      arith,
      join-cons (coverage_bytes gs) (arrays_of ks bases lo hi),
      join-cons (mark_array_of lo ks) (new_base_array bases (hi - lo) ∷ []),
      join_one (new_base_array bases (hi - lo)),
      array_long lo ks,
      bases_long_lem bases (hi - lo),
    )

-- bases and classes of sixteen bits
pub slots_small : (bases n : ℕ) → bases < 65536 → n < 65536 → bases * n ≤ 4294836225
slots_small bases n b h = let m : bases * n ≤ bases * 65535 = mul-le-mul_left bases (omega arith) in omega arith

-- the parts of a table of fewer than 65,536 marks, bases and classes
pub parts_most : (gs : List ℕ) (bases n : ℕ) → length gs < 65536 → bases < 65536 → n < 65536 → parts_length gs bases n ≤ 8600000000
parts_most gs bases n h b c = omega (arith, (cover_length gs).1, slots_small bases n b c)

-- the bytes of the kept table's parts
abbrev kept_length : List ℕ → List ℕ → ℕ → List ℕ → ℕ
kept_length gs ks bases cs = length (join (new_parts (marks_from gs ks) bases 0 (from cs 0)))

-- and of the objects of new table j
abbrev table_length : List ℕ → List ℕ → ℕ → ℕ → List ℕ → ℕ → ℕ
table_length gs ks bases n cs j = length (join (table_objects gs ks bases n cs j))

-- the kept table's parts and the objects of the first j new tables are summed
pub record Total (gs ks cs : List ℕ) (n bases at total j : ℕ) : Type 0 where
  pub known : PlannedParts gs ks cs n
  pub small : bases < 65536
  pub some : j ≤ length cs
  pub halved : Halved ks (high_at n cs j) at
  pub is : total ≡ kept_length gs ks bases cs + sum (table_length gs ks bases n cs) j
  pub most : total ≤ (j + 1) * 8600000012

module _ (gs ks cs : List ℕ) (n bases : ℕ) (p : PlannedParts gs ks cs n) (small : bases < 65536) where
  part-few : (a b : ℕ) → a ≤ b → b ≤ length ks → length (part gs a b) < 65536
  part-few a b h m = let e = p.parts.same in let f = p.few in omega (arith, length_part gs a b h (omega arith))

  pub first_few : (a : ℕ) → PartEnd ks 0 (from cs 0) a → length (part gs 0 a) < 65536
  first_few a e = part-few 0 a (omega arith) e.inside

  pub total_start : (a r : ℕ) → PartEnd ks 0 (from cs 0) a → r ≡ parts_length (part gs 0 a) bases (from cs 0) → Total gs ks cs n bases a r 0
  total_start a r e q =
      let kept : from cs 0 < n = p.parts.places.below 0 p.parts.some in
      let c = p.count in
      let z : from cs 0 - 0 ≡ from cs 0 = omega arith in
      record {
        known = p;
        small = small;
        some = omega arith;
        halved = kept_half gs ks cs n p.parts a e;
        is =
            q
            ∙ ap (parts_length (part gs 0 a) bases) (sym z)
            ∙ sym (parts_long (part gs 0 a) (part ks 0 a) bases 0 (from cs 0) (kept_same gs ks cs n p a e))
            ∙ ap (λ (new : List (List ℕ)). length (join new)) (sym (kept_parts_lem gs ks cs n p a e bases))
            ∙ omega (arith, sum_none (table_length gs ks bases n cs));
        most = omega (arith, parts_most (part gs 0 a) bases (from cs 0) (first_few a e) small (omega arith));
      }

module _ (gs ks cs : List ℕ) (n bases at total j : ℕ) (t : Total gs ks cs n bases at total j) where
  module _ (h : j < length cs) (lo hi r : ℕ) (a : lo ≡ from cs j) (b : hi ≡ get_or cs (j + 1) n) (e : PartEnd ks at hi r) where
    e' : PartEnd ks at (get_or cs (j + 1) n) r
    e' = subst (λ (m : ℕ). PartEnd ks at m r) b e

    pub turn_few : length (part gs at r) < 65536
    turn_few = part-few gs ks cs n bases t.known t.small at r e.after e.inside

    pub turn_rises : lo ≤ hi
    turn_rises = omega (arith, new_rises gs ks cs n t.known.parts j at r h t.halved e')

    module _ (x : ℕ) (q : x ≡ parts_length (part gs at r) bases (hi - lo)) where
      few_more : x ≤ 8600000000
      few_more =
          let i = new_inside gs ks cs n t.known.parts j at r h t.halved e' in
          let c = t.known.count in
          omega (arith, parts_most (part gs at r) bases (hi - lo) turn_few t.small (omega arith))

      -- the sums fit
      pub turn_fits : total + (12 + x) < 18446744073709551616
      turn_fits = omega (arith, few_more, t.most, cuts_few gs ks cs n t.known)

      turn_is : 12 + x ≡ table_length gs ks bases n cs j
      turn_is =
          ap₂ (λ (m k : ℕ). m + k) (sym (table_long (from cs j) (get_or cs (j + 1) n)))
          (q
          ∙ ap₂ (λ (m k : ℕ). parts_length (part gs at r) bases (m - k)) b a
          ∙ sym (parts_long (part gs at r) (part ks at r) bases (from cs j) (get_or cs (j + 1) n) (new_same gs ks cs n t.known.parts j at r h t.halved e'))
          ∙ ap (λ (new : List (List ℕ)). length (join new)) (sym (table_parts gs ks cs n t.known j at r h t.halved e' bases)))
          ∙ sym (join-cons (new_table (from cs j) (get_or cs (j + 1) n)) (new_parts (marks_from gs ks) bases (from cs j) (get_or cs (j + 1) n)))

      pub total_turn : Total gs ks cs n bases r (total + (12 + x)) (j + 1)
      total_turn =
          record {
            known = t.known;
            small = t.small;
            some = omega arith;
            halved = new_half gs ks cs n t.known.parts j at r h t.halved e';
            is = omega (arith, t.is, turn_is, sum_more (table_length gs ks bases n cs) j);
            most = omega (arith, few_more, t.most);
          }

  pub total_stop : length cs ≤ j → total ≡ length (join (objects_of gs ks bases n cs))
  unfolding new_objects
  total_stop h =
      let z : j ≡ length cs = omega (arith, t.some) in
      t.is
      ∙ ap (λ (k : ℕ). kept_length gs ks bases cs + sum (table_length gs ks bases n cs) k) z
      ∙ ap (λ (k : ℕ). kept_length gs ks bases cs + k) (sym (join-flat (table_objects gs ks bases n cs) (length cs)))
      ∙ omega (arith, join_long (tables_of gs ks bases n cs) (new_parts (marks_from gs ks) bases 0 (from cs 0)))
