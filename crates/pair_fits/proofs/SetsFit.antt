-- Format 1: each resulting table of two or more pair sets fits, together with its coverage and all that the sets reach. Assumes nothing.
use Prim.Native.Nat.{ℕ, ◌+◌, ◌-◌, ◌*◌, ◌≤◌, min}
use mathlib.Core.Path.{◌≡◌, sym, ap, subst, ◌∙◌}
use mathlib.Core.Bool.{true}
use mathlib.Core.List.{List}
use native.Mathlib.Omega.{arith}
use lib.Dec.{eqb}
use Rattle.store_rules.specs.Store.{Store, size_of, linked_at}
use Rattle.call_rules.specs.Settings.{second_edition}
use Rattle.pair_rules.specs.Table.{shape, rule_of}
use Rattle.pair_rules.specs.Written.{split_store}
use Rattle.pair_rules.proofs.Measured.{beside_sets}
use Rattle.pair_after.proofs.Ready.{Ready}
use Rattle.pair_after.proofs.ViewParts.{cover_most, cover_less}
use Rattle.pair_after.proofs.Resulting.{TableOf, resulting_table}
use Rattle.pair_fits.specs.Together.{sets_together}
use Rattle.pair_fits.specs.Guaranteed.{within_by2, SetsFit}
use Rattle.pair_fits.proofs.WholeFits.{lo, hi, count_then, whole_fits}

le_min : {n : ℕ} (a b : ℕ) → n ≤ a → n ≤ b → n ≤ min a b
le_min a b x y = omega arith

module _ (s : Store) (t : ℕ) (cs : List ℕ) (g : Ready s t cs) (one : eqb (shape s t).format 1 ≡ true) {u : ℕ} (w : TableOf s t cs u) where
  abbrev s' : Store
  s' = split_store s t cs

  -- the coverage as written is no longer than edition 2 estimates it
  cover_beside : 2 ≤ (shape s' u).count → size_of s' (linked_at s' u 2) ≤ (rule_of second_edition s t).beside (lo s t cs g w) (hi s t cs g w - 1)
  cover_beside two =
      let a = lo s t cs g w in
      let b = hi s t cs g w in
      let old = size_of s (linked_at s t 2) in
      let same : b - 1 + 1 - a ≡ b - a = omega (arith, count_then s t cs g w) in
      let beside : (rule_of second_edition s t).beside a (b - 1) ≡ min (4 + 2 * (b - a)) old
      = beside_sets s t a (b - 1) one ∙ ap (λ (n : ℕ). min (4 + 2 * n) old) same in
      subst (λ (n : ℕ). size_of s' (linked_at s' u 2) ≤ n) (sym beside)
      (le_min (4 + 2 * (b - a)) old (cover_most s t cs g w.view one) (cover_less s t cs g w.view one))

pub sets_fit : (s : Store) (t : ℕ) (cs : List ℕ) → Ready s t cs → within_by2 s t cs ≡ true → eqb (shape s t).format 1 ≡ true → SetsFit s t cs
unfolding sets_together
sets_fit s t cs g within one u h two =
    let w = resulting_table s t cs g u h in
    omega (arith, whole_fits s t cs g w within two, cover_beside s t cs g one w two)
