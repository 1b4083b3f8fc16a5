-- What a plan says of one table: what stands beside it, and its items' bytes. Assumes nothing.
use Prim.Native.Nat.{ℕ, ◌+◌, ◌-◌, ◌*◌, ◌<◌, ◌≤◌}
use mathlib.Core.Path.{subst}
use mathlib.Core.List.{List}
use native.Mathlib.Omega.{arith}
use native.Mathlib.Nat.{mul-le-mul_left}
use lib.ListN.{length, get_or}
use Rattle.folds.specs.Lists.{part}
use Rattle.folds.proofs.Folds.{before_none, before_more}
use Rattle.ot_layouts.specs.Coverage.{Entry}
use Rattle.glyph_rules.specs.Entries.{within}
use Rattle.cut_rules.specs.Ranges.{from}
use Rattle.cut_rules.proofs.CutPlaces.{few_places}
use Rattle.cut_parts.specs.Tables.{paired, high_at, PartEnd, Halved}
use Rattle.cut_parts.proofs.TableParts.{first_high, kept_entries, new_inside, new_entries}
use Rattle.ot_pairpos.specs.declared.Layout.{Layout}
use Rattle.pair_new_objects.specs.Planned.{Beside, PlannedParts}

module _ (gs ks cs : List ℕ) (l : Layout) (p : PlannedParts gs ks cs l) where
  pub cuts_few : length cs < 65536
  cuts_few = omega (arith, few_places l.count cs p.parts.places, p.count)

  -- the kept table
  pub kept_beside : (a : ℕ) → PartEnd ks 0 (from cs 0) a → Beside l.format 0 (paired (part gs 0 a) (part ks 0 a))
  kept_beside a e =
      let f = l.format in
      subst (λ (es : List Entry). Beside f 0 es) (kept_entries gs ks cs l.count p.parts a e)
      (subst (λ (h : ℕ). Beside f 0 (within 0 h (paired gs ks))) (first_high gs ks cs l.count p.parts)
      (subst (λ (lo : ℕ). Beside f lo (within lo (high_at l.count cs 0) (paired gs ks))) (before_none (from cs)) (p.beside 0 (omega arith))))

  -- new table j, whose part starts at a
  module _ (j a r : ℕ) (h : j < length cs) (v : Halved ks (high_at l.count cs j) a) (e : PartEnd ks a (get_or cs (j + 1) l.count) r) where
    pub new_beside : Beside l.format (from cs j) (paired (part gs a r) (part ks a r))
    new_beside =
        let f = l.format in
        subst (λ (es : List Entry). Beside f (from cs j) es) (new_entries gs ks cs l.count p.parts j a r h v e)
        (subst (λ (lo : ℕ). Beside f lo (within lo (get_or cs (j + 1) l.count) (paired gs ks))) (before_more (from cs) j) (p.beside (j + 1) (omega arith)))

    -- its items' bytes
    pub new_small : l.item * (get_or cs (j + 1) l.count - from cs j) ≤ 16777216
    new_small =
        let m : l.item * (get_or cs (j + 1) l.count - from cs j) ≤ l.item * l.count =
        mul-le-mul_left l.item (omega (arith, new_inside gs ks cs l.count p.parts j a r h v e)) in
        omega (arith, p.size)
