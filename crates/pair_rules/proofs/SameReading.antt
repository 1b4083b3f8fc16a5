-- A pair reading looks at the table, at what it leads to, and at where that leads: where these are the same in two stores, so is the reading. Assumes nothing.
use Rattle.std.specs.Prelude.{Option, Some, None}
use Prim.Native.Nat.{ℕ, zero, suc}
use mathlib.Core.Path.{◌≡◌, refl, sym, ap, ◌∙◌}
use mathlib.Core.Bool.{Bool, true, false, cond}
use mathlib.Core.List.{List, ◌++◌}
use native.Mathlib.Numerals.{add-one}
use lib.ListN.{length, get_or, take, drop}
use lib.Seq.{take_at, drop_at}
use lib.IntN.{ℤ, pos, negsuc}
use lib.Dec.{leb}
use Rattle.folds.specs.Folds.{upto}
use Rattle.folds.proofs.Folds.{upto-same}
use Rattle.folds.proofs.FromTheFront.{upto_get_d}
use Rattle.ot_layouts.specs.Values.{field_at}
use Rattle.store_rules.specs.Store.{Store, sound, bytes_of, child_at}
use Rattle.store_rules.proofs.Lookups.{mapped_id}
use Rattle.store_rules.proofs.Renumbered.{SameUnder}
use Rattle.call_rules.specs.Answers.{first_case}
use Rattle.pair_rules.specs.Pairs.{Pair, no_pair, pair_of}
use Rattle.pair_rules.specs.Calls.{pair_cases, reported, settle_pair, pair_call}
use Rattle.pair_rules.specs.Renumbered.{device_then, field_then, eight_then, outcome_then}
use Rattle.pair_rules.proofs.RenumberedReading as renumbered
use Rattle.pair_rules.proofs.RenumberedReading.{reading_then, both_eight}

-- object u, and what it leads to, are the same in s' as in s
pub record SameAround (s s' : Store) (u : ℕ) : Type 0 where
  pub sounds : sound s' ≡ sound s
  pub used : leb s'.object_count u ≡ leb s.object_count u
  pub bytes : bytes_of s' u ≡ bytes_of s u
  pub links : (q : ℕ) → child_at s' u q ≡ child_at s u q
  pub child_bytes : (q c : ℕ) → child_at s u q ≡ Some c → bytes_of s' c ≡ bytes_of s c
  pub child_links : (q c : ℕ) → child_at s u q ≡ Some c → (r : ℕ) → child_at s' c r ≡ child_at s c r

-- under its own number
abbrev own : ℕ → ℕ
own i = i

under : {s s' : Store} {u : ℕ} → SameAround s s' u → SameUnder own s s' u
under {s} {s'} {u} same =
    record {
      sounds = same.sounds;
      used = same.used;
      bytes = same.bytes;
      links = λ q. same.links q ∙ sym (mapped_id own (λ c. refl) (child_at s u q));
      child_bytes = same.child_bytes;
      child_links = λ q c e r. same.child_links q c e r ∙ sym (mapped_id own (λ c. refl) (child_at s c r));
    }

-- ---- an outcome under its own numbers is itself

device_own : (v : ℤ) → device_then own v ≡ v
unfolding device_then
device_own (pos zero) = refl
device_own (pos (suc c)) = ap pos (add-one c)
device_own (negsuc n) = refl

field_own : (vs : List ℤ) (j : ℕ) → field_then own vs j ≡ get_or vs j (pos 0)
unfolding field_then
field_own vs j = go (field_at j).device
  where
    go : (b : Bool) → cond b (device_then own (get_or vs j (pos 0))) (get_or vs j (pos 0)) ≡ get_or vs j (pos 0)
    go true = device_own (get_or vs j (pos 0))
    go false = refl

eight_own : (vs : List ℤ) → length vs ≡ 8 → eight_then own vs ≡ vs
unfolding eight_then
eight_own vs e =
    upto-same (field_then own vs) (λ j. get_or vs j (pos 0)) 8 (λ j l. field_own vs j)
    ∙ ap (upto (λ j. get_or vs j (pos 0))) (sym e)
    ∙ upto_get_d vs (pos 0)

reported_own : (n : ℕ) (p : Pair) → (length p.first ≡ 8) × (length p.second ≡ 8) → outcome_then own (reported n p) ≡ reported n p
unfolding outcome_then
reported_own n p (x, y) =
    let f : eight_then own (take 8 (p.first ++ p.second)) ≡ p.first = ap (eight_then own) (take_at p.first p.second 8 x) ∙ eight_own p.first x in
    let g : eight_then own (drop 8 (p.first ++ p.second)) ≡ p.second = ap (eight_then own) (drop_at p.first p.second 8 x) ∙ eight_own p.second y in
    λ i. record { answer = n; found = cond p.found 1 0; values = f i ++ g i }

outcome_own : (s : Store) (u a b : ℕ) → outcome_then own (pair_call s u a b) ≡ pair_call s u a b
unfolding pair_call settle_pair no_pair
outcome_own s u a b = go (first_case (pair_cases s u))
  where
    go : (o : Option ℕ) → outcome_then own (settle_pair o (pair_of s u a b)) ≡ settle_pair o (pair_of s u a b)
    go (Some n) = reported_own n no_pair (refl, refl)
    go None = reported_own 0 (pair_of s u a b) (both_eight s u a b)

-- ---- so the reading is

module _ {s s' : Store} {u : ℕ} (same : SameAround s s' u) where
  -- 1 to 5 and 11
  pub refusal_same : first_case (pair_cases s' u) ≡ first_case (pair_cases s u)
  refusal_same = renumbered.refusal_same (under same)

  -- the same answer, the same pair, the same sixteen numbers
  pub reading_same : (a b : ℕ) → pair_call s' u a b ≡ pair_call s u a b
  reading_same a b = reading_then (under same) a b ∙ outcome_own s u a b
