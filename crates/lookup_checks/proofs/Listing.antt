-- A list that fits, by its own rows: what they lead to, and a walk that is ready for its lookups. Assumes nothing.
use Prim.Native.Nat.{ℕ, ◌*◌, ◌≤◌, ◌<◌}
use mathlib.Core.Path.{◌≡◌, sym, ap, subst, ◌∙◌}
use mathlib.Core.Bool.{true, false}
use mathlib.Core.List.{List, ◌++◌}
use native.Mathlib.Omega.{arith}
use lib.ListN.{length, get_or, drop, replicate, length-append, length-drop, length-replicate, get_or-append}
use Rattle.folds.specs.Folds.{upto}
use Rattle.folds.specs.Lists.{among, sift}
use Rattle.folds.proofs.Among.{among-at}
use Rattle.store_rules.specs.Store.{Store}
use Rattle.store_reader.specs.declared.LinkRows.{LinkRows}
use Rattle.store_reader.specs.Rows.{ParentRows}
use Rattle.lookup_rules.specs.Listed.{linked_in, list_slots, each_once, lookups_of, rewritten, good_lookup, bad_list}
use Rattle.lookup_rules.proofs.Slots.{among-once}
use Rattle.lookup_rules.proofs.Linked.{list_linked}
use Rattle.lookup_rules.proofs.Listed.{list_fits_lem, listed_good}
use Rattle.lookup_checks.specs.Objects.{ObjectInUse}
use Rattle.lookup_checks.specs.Rows.{row_count, leads_at, to_rewrite}
use Rattle.lookup_checks.specs.Ordered.{chosen, Orderable, Ordered}
use Rattle.lookup_checks.proofs.Objects.{use_fits, rows_lead}
use Rattle.lookup_checks.proofs.Looking.{zeros_at}

module _ (s : Store) (l t : ℕ) (u : ObjectInUse s l) (fine : bad_list s l t ≡ false) {r : LinkRows} (rows : ParentRows s.links s.link_count l r) where
  abbrev lead : ℕ → ℕ
  lead = leads_at s.links r

  led : linked_in (list_slots s l) ≡ upto lead (row_count r)
  led = list_linked s (use_fits u) l (list_fits_lem s l t fine).0 ∙ rows_lead (use_fits u) rows

  -- those that are rewritten are chosen by the rows
  all-chosen : chosen s t lead (row_count r) ≡ rewritten s l t
  unfolding rewritten lookups_of
  all-chosen = ap (λ (xs : List ℕ). sift (to_rewrite s t) (each_once xs)) (sym led)

  pub ordered : {n found : ℕ} {walk : List ℕ} → Ordered n (chosen s t lead (row_count r)) walk found → Ordered n (rewritten s l t) walk found
  ordered {n} {found} {walk} = subst (λ (ps : List ℕ). Ordered n ps walk found) all-chosen

  lead_good : (i : ℕ) → i < row_count r → good_lookup s (lead i) ≡ true
  unfolding lookups_of
  lead_good i h =
      listed_good s l t fine (lead i)
      (among-once (lead i) (linked_in (list_slots s l)) (ap (among (lead i)) led ∙ among-at lead (row_count r) i h))

  -- once the marks are cleared
  pub orderable : {cleared : List ℕ} (m : ℕ) (walk : List ℕ) → cleared ≡ replicate m 0 → m ≡ s.object_count → 2 * s.object_count ≤ length walk
      → Orderable s lead (row_count r) (cleared ++ drop s.object_count walk)
  orderable {cleared} m walk e z room =
      let rest = drop s.object_count walk in
      let long : length cleared ≡ s.object_count = ap length e ∙ length-replicate m 0 ∙ z in
      record {
        good = lead_good;
        room = omega (arith, length-append cleared rest, length-drop s.object_count walk);
        blank = λ c h. get_or-append cleared rest 0 c (omega arith) ∙ ap (λ (x : List ℕ). get_or x c 0) e ∙ zeros_at m c;
      }
