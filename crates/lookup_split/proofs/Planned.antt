-- New tables entered as planned: nothing to cut, or what is left of the call at the plan's places and in the list's lookups. Assumes nothing.
use Prim.Native.Nat.{ℕ, ◌+◌, ◌≤◌}
use mathlib.Core.Path.{◌≡◌, sym, ap, subst, ◌∙◌}
use mathlib.Core.Bool.{false}
use mathlib.Core.List.{List}
use native.Mathlib.Omega.{arith}
use lib.ListN.{length, take, length-take}
use Rattle.folds.specs.Lists.{part, is_empty}
use Rattle.folds.proofs.Fronts.{front_long}
use Rattle.store_rules.specs.Store.{Store}
use Rattle.store_rules.proofs.Sound.{sound_fits}
use Rattle.call_rules.specs.Answers.{first_case}
use Rattle.call_rules.specs.Scratch.{Scratch, cleared}
use Rattle.call_rules.specs.Outcomes.{Outcome, settle, outcome}
use Rattle.call_lists.proofs.Split.{is_empty_lem, not_empty}
use Rattle.call_lists.specs.declared.Plan.{Plan}
use Rattle.pair_checks.specs.declared.PairTable.{PairTable}
use Rattle.pair_split.proofs.Fronts.{fronts_lent}
use Rattle.lookup_rules.specs.Listed.{rewritten}
use Rattle.lookup_rules.specs.Marks.{Marked}
use Rattle.lookup_rules.specs.Written.{lookup_store, needed_in_all}
use Rattle.lookup_rules.specs.Calls.{enter_cases}
use Rattle.lookup_rules.proofs.Listed.{rewritten_few}
use Rattle.lookup_checks.specs.Ordered.{Ordered}
use Rattle.lookup_split.specs.Entering.{room_cases, entered_unless, entered_then, EnterReady, Placing}

module _ {s : Store} {l t : ℕ} {p : Plan PairTable} {gs ks cuts walk : List ℕ} (k : EnterReady s l t p gs ks cuts walk) where
  -- the cuts, as they are lent on
  abbrev cs : List ℕ
  cs = part cuts 0 p.cuts

  long : length cs ≡ p.cuts
  long = front_long cuts p.cuts k.plan.cut_room

  pub nothing : p.cuts ≡ 0 → (list : List ℕ) (w : Scratch) → outcome 0 0 s list (cleared w) ≡ entered_then s l t cs w list
  unfolding enter_cases first_case settle
  nothing h list w = rw (is_empty_lem cs (long ∙ h))

  module _ (some : p.cuts ≡ 0 → ⊥) where
    some_cut_lem : is_empty cs ≡ false
    some_cut_lem = not_empty cs (λ z. some (sym long ∙ z))

    -- in the list's lookups
    last_cases_lem : (list : List ℕ) (w : Scratch) → entered_unless (room_cases s t cs (rewritten s l t) list) s t cs (rewritten s l t) w list ≡ entered_then s l t cs w list
    unfolding enter_cases first_case lookup_store needed_in_all
    last_cases_lem list w = rw some_cut_lem

    module _ {walk' : List ℕ} {found : ℕ} (o : Ordered s.object_count (rewritten s l t) walk' found) where
      -- how many marks there are
      abbrev n : ℕ
      n = s.object_count

      -- the walk's second half holds them
      found_few : found ≤ n
      found_few = omega (arith, o.count, rewritten_few s l t (sound_fits s k.plan.opens.reads.sounds))

      pub both_small : n + found ≤ 131072
      both_small = omega (arith, found_few, (sound_fits s k.plan.opens.reads.sounds).objects_most)

      module _ (same : length walk' ≡ length walk) where
        pub marks_long_lem : n ≡ length (take n walk')
        marks_long_lem = simp length-take (omega (arith, k.long))

        pub lookups_end : n + found ≤ length walk'
        lookups_end = omega (arith, found_few, k.long)

      pub placing : Placing s t p.table (part gs 0 p.table.glyphs) (part ks 0 p.table.glyphs) cs (take n walk') (part walk' n (n + found))
      placing =
          record {
            arranging = fronts_lent k.plan some;
            few = omega (arith, long, k.plan.few);
            linked = k.linked;
            found = record {
              list = l;
              good = k.good;
              lookups = o.lookups;
              marked = subst (λ (x : List ℕ). Marked x (take n walk')) (sym o.lookups) o.marks;
            };
          }

      -- by what is entered at these places
      pub entered : (list : List ℕ) (w : Scratch) {x : Outcome}
          → x ≡ entered_unless (room_cases s t cs (part walk' n (n + found)) list) s t cs (part walk' n (n + found)) w list → x ≡ entered_then s l t cs w list
      entered list w e =
          e
          ∙ ap (λ (ps : List ℕ). entered_unless (room_cases s t cs ps list) s t cs ps w list) o.lookups
          ∙ last_cases_lem list w
