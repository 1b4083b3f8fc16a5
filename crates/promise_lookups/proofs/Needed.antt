-- The promise speaks of something, and its second condition is needed: a call that enters a table, where another subtable has a device link to the lookup.
-- Assumes nothing.
use Rattle.std.specs.Prelude.{Option, Some, None}
use Prim.Native.Nat.{ℕ, ◌*◌}
use mathlib.Core.Path.{◌≡◌, refl, sym, ap, ◌∙◌}
use mathlib.Core.Bool.{true}
use mathlib.Core.List.{List, [], ◌∷◌, ◌++◌}
use mathlib.Core.Logic.{⊎_elim}
use native.Mathlib.Omega.{arith}
use lib.ListN.{replicate, get_or, get_or-eq_default, length}
use lib.IntN.{ℤ, pos}
use lib.Dec.{ltb}
use borrow.Author.Tests.{ltb-true}
use Rattle.folds.specs.Lists.{among, Bytes}
use Rattle.folds.proofs.Tests.{either}
use Rattle.folds.proofs.Table.{every, rule_at}
use Rattle.folds.proofs.Each.{each_among}
use Rattle.folds.proofs.Bytes.{bytes_append, bytes_zeros}
use Rattle.ot_layouts.specs.Numbers.{words, be16}
use Rattle.ot_layouts.specs.Lookup.{lookup_type, pair_type}
use Rattle.store_rules.specs.Appended.{link, row_numbers}
use Rattle.store_rules.specs.Store.{Store, per_link, bytes_of, child_at}
use Rattle.call_rules.specs.declared.Settings.{Settings}
use Rattle.call_rules.specs.Settings.{first_edition}
use Rattle.call_rules.specs.Scratch.{Scratch, scratch_of}
use Rattle.call_rules.specs.Answers.{first_case}
use Rattle.call_rules.specs.Outcomes.{Outcome}
use Rattle.pair_rules.specs.Pairs.{pair_of}
use Rattle.pair_rules.specs.Calls.{PairOutcome, pair_cases, settle_pair, pair_call}
use Rattle.lookup_rules.specs.Applied.{subtables, applied, reaches}
use Rattle.lookup_rules.specs.Calls.{lookup_call}
use Rattle.lookup_rules.specs.Computing.{computes}
use Rattle.promise_calls.specs.Unchanged.{Octets}
use Rattle.promise_lookups.specs.Demands.{Enters, store_entered, AllRead}

-- 0, W9's table; 1, its coverage; 2, a list of one; 3, a lookup of the tables 0 and 4; 4, a table of one set under the same coverage; 5, its set, whose device
-- leads to 3; 6, a set without records, which leads to 7: together they are as long as W9's set
unfoldable pub front : List ℕ
front =
    words (1 ∷ 0 ∷ 0 ∷ 0 ∷ 1 ∷ 0 ∷ []) ++ words (1 ∷ 1 ∷ 10 ∷ []) ++ words (1 ∷ 0 ∷ []) ++ words (2 ∷ 0 ∷ 2 ∷ 0 ∷ 0 ∷ [])
    ++ words (1 ∷ 0 ∷ 0x10 ∷ 0 ∷ 1 ∷ 0 ∷ []) ++ words (1 ∷ 5 ∷ 0 ∷ [])

unfoldable pub turned : Store
turned =
    record {
      bytes = front ++ replicate 65618 0;
      objects = 0 ∷ 12 ∷ 12 ∷ 18 ∷ 18 ∷ 22 ∷ 22 ∷ 32 ∷ 32 ∷ 44 ∷ 44 ∷ 50 ∷ 50 ∷ 52 ∷ 52 ∷ 65568 ∷ replicate 8 0;
      links =
          row_numbers (link 0 2 1 ∷ link 0 10 6 ∷ link 2 2 3 ∷ link 3 6 0 ∷ link 3 8 4 ∷ link 4 2 1 ∷ link 4 10 5 ∷ link 5 4 3 ∷ link 6 0 7 ∷ []) ++ replicate (per_link * 4) 0;
      byte_count = 65568;
      object_count = 8;
      link_count = 9;
    }

unfoldable pub scratch : Scratch
scratch = scratch_of (replicate 16 0) (replicate 8192 0) (0 ∷ []) (0 ∷ []) (0 ∷ [])

turned_octets : Octets turned
unfolding turned front words be16
turned_octets = bytes_append front (replicate 65618 0) (below front refl) (bytes_zeros 65618)
  where
    below : (xs : List ℕ) → every (λ i x. ltb x 256) 0 xs ≡ true → Bytes xs
    below xs e i =
        ⊎_elim (λ lt. ltb-true (get_or xs i 0) 256 (rule_at (λ i x. ltb x 256) 0 xs e i lt)) (λ ge. omega (arith, get_or-eq_default xs 0 ge))
        (either i (length xs))

-- answer, count, where the list leads, and the device of the pair of 10 and 5 by lookup p: in one list, so that the call is computed once
unfoldable pub seen : ℕ → Outcome → List (Option ℕ) × List ℤ
seen p o = (Some o.answer ∷ Some o.count ∷ child_at o.store 2 2 ∷ [], (applied o.store p 10 5).values)

-- the device was 3, numbered 4; it is the new lookup 11, numbered 12
turned_seen :
    seen 11 (lookup_call first_edition turned 2 0 scratch (0 ∷ []))
    ≡ (Some 0 ∷ Some 1 ∷ Some 11 ∷ [], pos 0 ∷ pos 0 ∷ pos 0 ∷ pos 0 ∷ pos 12 ∷ replicate 11 (pos 0))
unfolding turned front scratch computes seen
turned_seen = refl

turned_before :
    ((applied turned 3 10 5).values ≡ pos 0 ∷ pos 0 ∷ pos 0 ∷ pos 0 ∷ pos 4 ∷ replicate 11 (pos 0))
    × (child_at turned 2 2 ≡ Some 3) × (lookup_type (bytes_of turned 3) ≡ pair_type) × (subtables turned 3 ≡ 0 ∷ 4 ∷ [])
unfolding turned front computes
turned_before = (refl, refl, refl, refl)

-- the call enters a table
turned_enters : Enters first_edition turned 2 0 scratch (0 ∷ [])
unfolding seen
turned_enters =
    let e = ap (λ (x : List (Option ℕ) × List ℤ). x.0) turned_seen in
    let answer : (lookup_call first_edition turned 2 0 scratch (0 ∷ [])).answer ≡ 0 = cc in
    let count : (lookup_call first_edition turned 2 0 scratch (0 ∷ [])).count ≡ 1 = cc in
    record { answers = answer; cuts = omega arith }

-- both subtables are read without refusal
turned_read : (first_case (pair_cases turned 0) ≡ None) × (first_case (pair_cases turned 4) ≡ None)
unfolding turned front computes
turned_read = (refl, refl)

read_zero : (s : Store) (u : ℕ) → first_case (pair_cases s u) ≡ None → (a b : ℕ) → (pair_call s u a b).answer ≡ 0
unfolding pair_call settle_pair
read_zero s u e a b = ap (λ (o : Option ℕ). (settle_pair o (pair_of s u a b)).answer) e

turned_all : AllRead turned 3
turned_all u h =
    let (a, b, c, d) = turned_before in
    each_among (λ u. (a b : ℕ) → (pair_call turned u a b).answer ≡ 0) (0 ∷ 4 ∷ []) u
    (read_zero turned 0 turned_read.0, (read_zero turned 4 turned_read.1, tt))
    (sym (ap (among u) d) ∙ h)

-- and the other one reaches the split one, through its device
pub turned_reaches : reaches turned 4 0 ≡ true
unfolding turned front computes
turned_reaches = refl

-- without the second condition the promise does not hold
pub not_without_reach :
    ((how : Settings) (s : Store) (l t : ℕ) (w : Scratch) (list : List ℕ) → Octets s → Enters how s l t w list
    → (q p : ℕ) → child_at s l q ≡ Some p → lookup_type (bytes_of s p) ≡ pair_type → AllRead s p
    → (p' : ℕ) × (child_at (store_entered how s l t w list) l q ≡ Some p') × ((a b : ℕ) → applied (store_entered how s l t w list) p' a b ≡ applied s p a b)) → ⊥
unfolding seen
not_without_reach h =
    let (values, lead, two, lists) = turned_before in
    let (p', leads, gives) = h first_edition turned 2 0 scratch (0 ∷ []) turned_octets turned_enters 2 3 lead two turned_all in
    let e = ap (λ (x : List (Option ℕ) × List ℤ). x.0) turned_seen in
    let at : child_at (store_entered first_edition turned 2 0 scratch (0 ∷ [])) 2 2 ≡ Some 11 = cc in
    let z : p' ≡ 11 = cc in
    let new : (applied (store_entered first_edition turned 2 0 scratch (0 ∷ [])) 11 10 5).values ≡ pos 0 ∷ pos 0 ∷ pos 0 ∷ pos 0 ∷ pos 12 ∷ replicate 11 (pos 0)
    = ap (λ (x : List (Option ℕ) × List ℤ). x.1) turned_seen in
    let old : (applied (store_entered first_edition turned 2 0 scratch (0 ∷ [])) 11 10 5).values ≡ (applied turned 3 10 5).values
    = ap (λ (n : ℕ). (applied (store_entered first_edition turned 2 0 scratch (0 ∷ [])) n 10 5).values) (sym z) ∙ ap (λ (o : PairOutcome). o.values) (gives 10 5) in
    let y : ◌≡◌ {A = ℕ} 4 12 = cc in
    omega arith
