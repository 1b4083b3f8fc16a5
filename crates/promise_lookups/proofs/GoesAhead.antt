-- A call that enters new tables goes ahead: its table and its lookups are ready, and its split goes ahead too. Assumes nothing.
use Prim.Native.Nat.{ℕ}
use mathlib.Core.List.{List}
use native.Mathlib.Omega.{arith}
use Rattle.store_rules.specs.Store.{Store}
use Rattle.call_rules.specs.declared.Settings.{Settings}
use Rattle.call_rules.specs.Scratch.{Scratch}
use Rattle.pair_rules.specs.Table.{cut_places}
use Rattle.pair_rules.proofs.TableCuts.{table_cuts}
use Rattle.promise_pairs.specs.Exactly.{MaySplit}
use Rattle.promise_pairs.specs.Demands.{Splits}
use Rattle.promise_pairs.proofs.Answered.{may_splits}
use Rattle.lookup_after.proofs.Entering as after
use Rattle.lookup_after.proofs.Entering.{Entering}
use Rattle.promise_lookups.specs.Demands.{Enters}
use Rattle.promise_lookups.specs.Exactly.{MayEnter}
use Rattle.promise_lookups.proofs.Answered.{enters_may}

module _ (how : Settings) (s : Store) (l t : ℕ) (w : Scratch) (list : List ℕ) where
  -- room for both is room for the split
  alone : MayEnter how s l t w list → MaySplit how s t w list
  alone m =
      record {
        checked = m.checked;
        cuts = m.cuts;
        objects = omega (arith, m.objects);
        links = omega (arith, m.links);
        bytes = omega (arith, m.bytes);
        entries = m.entries;
      }

  pub splits : Enters how s l t w list → Splits how s t w list
  splits p = may_splits how s t w list (alone (enters_may how s l t w list p))

  may_entering : MayEnter how s l t w list → Entering s l t (cut_places how s t)
  may_entering m =
      let c = m.checked in
      after.entering s l t (cut_places how s t) c.reads c.at_slots c.acyclic (table_cuts how s t) m.cuts m.used m.listed m.counts m.objects
      m.links m.bytes

  pub entering : Enters how s l t w list → Entering s l t (cut_places how s t)
  entering p = may_entering (enters_may how s l t w list p)
