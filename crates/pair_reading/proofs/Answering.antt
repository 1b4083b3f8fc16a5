-- What a call answers, from the checks and from the pair. Assumes nothing.
use Rattle.std.specs.Prelude.{Option, Some, None, Err, Ok, Result}
use Prim.Native.Nat.{ℕ, ◌+◌, ◌*◌}
use mathlib.Core.Path.{◌≡◌, sym, ap, ◌∙◌}
use mathlib.Core.Bool.{true, false, cond}
use mathlib.Core.List.{List, ◌++◌}
use native.Mathlib.Omega.{arith}
use lib.IntN.{ℤ}
use Rattle.ot_layouts.specs.Values.{field_count}
use Rattle.ot_layouts.specs.PairPos.{value1, value2}
use Rattle.ot_pairpos.specs.Layout.{layout_of}
use Rattle.ot_pairpos.specs.declared.Layout.{Layout}
use Rattle.call_rules.specs.declared.Answer.{Answer}
use Rattle.store_rules.specs.Store.{Store}
use Rattle.pair_rules.specs.Pairs as Pairs
use Rattle.pair_rules.specs.Pairs.{spot_of, no_pair, pair_at, pair_of}
use Rattle.pair_rules.specs.Calls.{PairOutcome, reported, settle_pair, pair_call}
use Rattle.call_rules.specs.Answers.{number, numbered}
use Rattle.pair_checks.specs.Checked.{settled_as}
use Rattle.pair_checks.specs.declared.PairTable.{PairTable}
use Rattle.pair_checks.specs.Opens.{Opens}
use Rattle.pair_values.specs.Values.{as_pair, ValueRecord, value_pair}
use Rattle.pair_spots.specs.Spots.{spot_found}
use Rattle.pair_reading.specs.Reading.{pair_outcome, pair_checked}
use Rattle.pair_values.specs.declared.PairAnswer.{PairAnswer}
use Rattle.pair_spots.specs.declared.Spot.{Spot}
use Rattle.pair_spots.proofs.Spots.{Whole, same_size, spot_whole}
use Rattle.pair_reading.proofs.Checking.{pair_refusals}

-- ---- the pair at a spot

module _ {s : Store} {t : ℕ} {p : PairTable} (o : Opens s t p) (a b : ℕ) {x : Option Spot} (e : spot_found x ≡ spot_of s t a b) where
  pub no_spot : {v : Pairs.Pair} → x ≡ None → v ≡ no_pair → v ≡ pair_of s t a b
  unfolding pair_of pair_at
  no_spot y i = i ∙ sym (ap (pair_at s t) (sym e ∙ ap spot_found y))

  module _ {q : Spot} (y : x ≡ Some q) where
    stands : spot_of s t a b ≡ Some (record { object = q.object; at = q.at })
    stands = sym e ∙ ap spot_found y

    whole : Whole s t (record { object = q.object; at = q.at })
    whole = spot_whole o a b (record { object = q.object; at = q.at }) stands

    pub first_record_lem : ValueRecord s q.object q.at p.layout.value1
    first_record_lem = record { sounds = o.reads.sounds; used = whole.used; within = omega (arith, whole.within, same_size o) }

    pub second_record : ValueRecord s q.object (q.at + 2 * field_count p.layout.value1) p.layout.value2
    second_record = record { sounds = o.reads.sounds; used = whole.used; within = omega (arith, whole.within, same_size o) }

    pub at_spot : {v : Pairs.Pair} → v ≡ value_pair s p.layout.value1 p.layout.value2 q.object q.at → v ≡ pair_of s t a b
    unfolding pair_of pair_at layout_of
    at_spot i =
        i
        ∙ ap (λ (l : Layout). value_pair s l.value1 l.value2 q.object q.at) o.layout
        ∙ sym (ap (pair_at s t) stands)

-- ---- the call

pub found_reported : (n : ℕ) (p : PairAnswer) {v : List ℤ} → p.found ≡ true → v ≡ p.first ++ p.second → pair_outcome n 1 v ≡ reported n (as_pair p)
found_reported n p e f = λ i. record { answer = n; found = cond (sym e i) 1 0; values = f i }

pub none_reported : (n : ℕ) (p : PairAnswer) {v : List ℤ} → p.found ≡ false → v ≡ p.first ++ p.second → pair_outcome n 0 v ≡ reported n (as_pair p)
none_reported n p e f = λ i. record { answer = n; found = cond (sym e i) 1 0; values = f i }

module _ (s : Store) (t a b : ℕ) {x : Result PairTable Answer} (e : numbered x ≡ pair_checked s t) where
  called : {z : Result PairTable Answer} → x ≡ z → pair_call s t a b ≡ settle_pair (settled_as (numbered z)) (pair_of s t a b)
  unfolding pair_call
  called y = ap (λ (o : Option ℕ). settle_pair o (pair_of s t a b)) (pair_refusals s t ∙ ap settled_as (sym e ∙ ap numbered y))

  pub settled_call : {out : PairOutcome} {v : Pairs.Pair} {n : ℕ} {w : Answer} → x ≡ Err w → n ≡ number w → v ≡ no_pair → out ≡ reported n v → out ≡ pair_call s t a b
  unfolding settle_pair
  settled_call y i j r = r ∙ (λ k. reported (i k) (j k)) ∙ sym (called y)

  pub open_call : {out : PairOutcome} {v : Pairs.Pair} {p : PairTable} → x ≡ Ok p → v ≡ pair_of s t a b → out ≡ reported 0 v → out ≡ pair_call s t a b
  unfolding settle_pair
  open_call y j r = r ∙ ap (reported 0) j ∙ sym (called y)
