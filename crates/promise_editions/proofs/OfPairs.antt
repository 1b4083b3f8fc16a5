-- What edition 2 guarantees holds of what a split of a pair table leaves. Assumes nothing.
use Prim.Native.Nat.{ℕ}
use mathlib.Core.Path.{◌≡◌, sym, subst}
use mathlib.Core.Bool.{true}
use mathlib.Core.List.{List}
use native.Mathlib.Omega.{arith}
use borrow.Author.Tests.{eq-eqb, ne_eqb}
use Rattle.folds.specs.Lists.{among}
use Rattle.store_rules.specs.Store.{Store}
use Rattle.call_rules.specs.Settings.{second_edition}
use Rattle.call_rules.specs.Scratch.{Scratch}
use Rattle.call_rules.specs.Outcomes.{Outcome}
use Rattle.pair_rules.specs.Table.{shape, cut_places}
use Rattle.pair_rules.specs.Written.{split_store}
use Rattle.pair_rules.specs.Calls.{split_call}
use Rattle.pair_after.proofs.Ready.{Ready}
use Rattle.pair_after.proofs.Resulting.{resulting_table, resulting_reads}
use Rattle.pair_after.proofs.SortedThen.{table_sorted}
use Rattle.pair_fits.specs.Guaranteed.{OfResulting, SetsFitIn, RowsFitIn}
use Rattle.pair_fits.proofs.SetsFit.{sets_fit}
use Rattle.pair_fits.proofs.RowsFit.{rows_fit}
use Rattle.pair_fits.proofs.FewestCuts.{own_within, fewest_cuts}
use Rattle.pair_fits.proofs.AgainUncut.{again_uncut}
use Rattle.promise_calls.specs.Unchanged.{Octets}
use Rattle.promise_pairs.specs.Demands.{Splits}
use Rattle.promise_pairs.specs.Exactly.{MaySplit}
use Rattle.promise_pairs.proofs.Refusals.{as_many_as_cuts}
use Rattle.promise_pairs.proofs.GoesAhead.{splits_may, splits_ready, store_written}
use Rattle.promise_pairs.proofs.AgainNothing.{nothing_to_split}
use Rattle.promise_pairs.proofs.Calls.{in_order_lem}
use Rattle.promise_calls.specs.Resulting.{OfTables}
use Rattle.promise_editions.specs.OfPairs.{PairUncut, PairsGuaranteed, PairsGuaranteedThen}

module _ (s : Store) (t : ℕ) (w : Scratch) (list : List ℕ) (octets : Octets s) (splits : Splits second_edition s t w list) where
  abbrev o : Outcome
  o = split_call second_edition s t w list

  abbrev cs : List ℕ
  cs = cut_places second_edition s t

  may : MaySplit second_edition s t w list
  may = splits_may second_edition s t w list splits

  ready : Ready s t cs
  ready = (splits_ready second_edition s t w list splits).0

  -- what holds in the store that is written holds in the one that is left
  of_left : (P : Store → ℕ → Type 0) → OfResulting s t cs P → OfTables t o P
  of_left P h u a =
      subst (λ (x : Store). P x u) (sym (store_written second_edition s t w list splits))
      (h u (subst (λ (us : List ℕ). among u us ≡ true) (in_order_lem second_edition s t w list splits) a))

  uncut : OfResulting s t cs PairUncut
  uncut u h v list' enough =
      let table = resulting_table s t cs ready u h in
      nothing_to_split second_edition (split_store s t cs) u v list'
      (record {
        known = may.checked.known;
        reads = resulting_reads s t cs ready octets table;
        scratch = enough;
        at_slots = table.at_slots;
        acyclic = table.acyclic;
        sorted = table_sorted s t cs ready may.checked.sorted table.view;
      })
      (again_uncut s t cs ready (own_within s t) u h)

  guaranteed : PairsGuaranteed s t o
  guaranteed =
      let within = own_within s t in
      let format = (shape s t).format in
      record {
        sets = λ one. of_left SetsFitIn (sets_fit s t cs ready within (eq-eqb format 1 one));
        fewest = λ one cs' rises fits.
            omega (arith, (as_many_as_cuts second_edition s t w list splits).0, fewest_cuts s t ready.fit (eq-eqb format 1 one) cs' rises fits);
        again = of_left PairUncut uncut;
        rows = λ two. of_left RowsFitIn (rows_fit s t cs ready within (ne_eqb format 1 (λ one. omega arith)));
      }

-- a split under edition 2 whose outcome is that of `pair_rules`, where there is a cut
pub pairs_guaranteed : (s : Store) (t : ℕ) (w : Scratch) (list : List ℕ) (o : Outcome) → Octets s → o ≡ split_call second_edition s t w list
    → PairsGuaranteedThen s t o
pairs_guaranteed s t w list o octets e =
    subst (PairsGuaranteedThen s t) (sym e) (λ zero some. guaranteed s t w list octets (record { answers = zero; cuts = some }))
