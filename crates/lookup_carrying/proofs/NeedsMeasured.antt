-- What the measure of the lookups says, and with it that of a split and its lookups. Assumes nothing.
use Rattle.std.specs.Prelude.{Result, Ok, Err}
use Prim.Native.Nat.{ℕ}
use mathlib.Core.Path.{◌≡◌, refl, sym, ◌∙◌}
use mathlib.Core.Bool.{Bool, true, false, cond}
use mathlib.Core.List.{List}
use native.Mathlib.Omega.{arith}
use Rattle.store_rules.specs.Store.{Store}
use Rattle.call_rules.specs.declared.Needs.{Needs}
use Rattle.pair_rules.specs.Written.{new_tables}
use Rattle.pair_carrying.specs.Measuring.{Measured}
use Rattle.lookup_rules.specs.Written.{counts_fit, lookups_need}
use Rattle.lookup_new_objects.specs.Counted.{needs_measured}
use Rattle.lookup_carrying.specs.declared.measuring.Measures.{Measures}
use Rattle.lookup_carrying.specs.Measuring.{BothCounted, BothMeasured, MeasuredAll}

-- both together
abbrev both_needs : Needs → Needs → Measures
both_needs d l = record { split = d; lookups = l }

module _ (s : Store) (t : ℕ) (cs ps : List ℕ) {r : Result Needs Needs} (e : r ≡ needs_measured s t (new_tables s t cs) ps) where
  abbrev fits : Bool
  fits = counts_fit s t (new_tables s t cs) ps

  abbrev need : Needs
  need = lookups_need s t (new_tables s t cs) ps

  counted_over : {n : Needs} → r ≡ Err n → (n ≡ need) × (fits ≡ false)
  counted_over {n} y = go fits (sym y ∙ e)
    where
      go : (b : Bool) → ◌≡◌ {A = Result Needs Needs} (Err n) (cond b (Ok need) (Err need)) → (n ≡ need) × (b ≡ false)
      go true z = let x : ◌≡◌ {A = ℕ} 0 1 = cc in absurd (omega arith)
      go false z = (cc, refl)

  counted_fit : {n : Needs} → r ≡ Ok n → (n ≡ need) × (fits ≡ true)
  counted_fit {n} y = go fits (sym y ∙ e)
    where
      go : (b : Bool) → ◌≡◌ {A = Result Needs Needs} (Ok n) (cond b (Ok need) (Err need)) → (n ≡ need) × (b ≡ true)
      go true z = (cc, refl)
      go false z = let x : ◌≡◌ {A = ℕ} 0 1 = cc in absurd (omega arith)

  module _ {gs ks : List ℕ} {split n : Needs} (d : Measured s t gs ks cs split) where
    pub all_over : r ≡ Err n → MeasuredAll s t gs ks cs ps (Err (both_needs split n))
    all_over y =
        let (needed, over) = counted_over y in
        let both : BothCounted s t gs ks cs ps (both_needs split n) = record { split = d; lookups = needed } in
        record {
          over = λ m z. let same : both_needs split n ≡ m = cc in rw (← same) (both, over);
          fit = λ m z. let x : ◌≡◌ {A = ℕ} 0 1 = cc in absurd (omega arith);
        }

    pub all_fit : r ≡ Ok n → MeasuredAll s t gs ks cs ps (Ok (both_needs split n))
    all_fit y =
        let (needed, within) = counted_fit y in
        let both : BothMeasured s t gs ks cs ps (both_needs split n) = record { split = d; fits = within; lookups = needed } in
        record {
          over = λ m z. let x : ◌≡◌ {A = ℕ} 0 1 = cc in absurd (omega arith);
          fit = λ m z. let same : both_needs split n ≡ m = cc in rw (← same) both;
        }
