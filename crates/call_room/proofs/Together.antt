-- Check 8 over two parts of a call: room for both is room for the first, and then for the second. Assumes nothing.
use Prim.Native.Nat.{ℕ, ◌+◌, ◌-◌, ◌≤◌}
use mathlib.Core.Path.{◌≡◌, sym, ◌∙◌}
use mathlib.Core.Bool.{true, false}
use mathlib.Core.List.{List, [], ◌∷◌}
use mathlib.Core.Logic.{⊎_elim}
use native.Mathlib.Omega.{arith}
use lib.ListN.{get_or}
use lib.Dec.{ltb}
use borrow.Author.Tests.{lt-ltb, le-ltb, ltb-false}
use Rattle.folds.proofs.Tests.{either, or_none, by_test, true_false}
use Rattle.store_rules.specs.Store.{byte_room, object_room, link_room}
use Rattle.call_rules.specs.declared.Lent.{Lent}
use Rattle.call_rules.specs.declared.Needs.{Needs}
use Rattle.call_rules.specs.Needs.{InUse, short_by, together}

-- there is room for n
pub record Holds (lent : Lent) (counts : List ℕ) (n : Needs) : Type 0 where
  pub objects : get_or counts 1 0 + n.objects ≤ object_room lent.objects
  pub links : get_or counts 2 0 + n.links ≤ link_room lent.links
  pub bytes : get_or counts 0 0 + n.bytes ≤ byte_room lent.«data»
  pub entries : n.entries ≤ lent.list

module _ (lent : Lent) (counts : List ℕ) where
  pub holds : (n : Needs) → short_by lent counts n ≡ false → Holds lent counts n
  unfolding short_by
  holds n h =
      let (x, list) = or_none _ (ltb lent.list n.entries) h in
      let (y, bytes) = or_none _ (ltb (byte_room lent.«data») (get_or counts 0 0 + n.bytes)) x in
      let (objects, links) = or_none _ (ltb (link_room lent.links) (get_or counts 2 0 + n.links)) y in
      record {
        objects = ltb-false _ _ objects;
        links = ltb-false _ _ links;
        bytes = ltb-false _ _ bytes;
        entries = ltb-false _ _ list;
      }

  not_short : (n : Needs) → Holds lent counts n → short_by lent counts n ≡ false
  unfolding short_by
  not_short n r = rw (le-ltb _ _ r.objects, le-ltb _ _ r.links, le-ltb _ _ r.bytes, le-ltb _ _ r.entries)

  module _ (a b : Needs) where
    -- room for both is room for the first
    pub first_held : short_by lent counts (together a b) ≡ false → short_by lent counts a ≡ false
    first_held h =
        let r = holds (together a b) h in
        not_short a (record {
          objects = omega (arith, r.objects);
          links = omega (arith, r.links);
          bytes = omega (arith, r.bytes);
          entries = omega (arith, r.entries);
        })

    pub first_short : short_by lent counts a ≡ true → true ≡ short_by lent counts (together a b)
    first_short h = by_test (short_by lent counts (together a b)) sym (λ e. true_false (sym h ∙ first_held e))

    -- ---- once the first is written

    abbrev used : List ℕ
    used = (get_or counts 0 0 + a.bytes) ∷ (get_or counts 1 0 + a.objects) ∷ (get_or counts 2 0 + a.links) ∷ []

    abbrev rest : Lent
    rest = record { «data» = lent.«data»; objects = lent.objects; links = lent.links; list = lent.list - a.entries }

    module _ (h : short_by lent counts a ≡ false) where
      pub then_in_use : InUse rest used
      then_in_use = let r = holds a h in record { bytes = r.bytes; objects = r.objects; links = r.links }

      less_list : ltb (lent.list - a.entries) b.entries ≡ ltb lent.list (a.entries + b.entries)
      less_list =
          let e = (holds a h).entries in
          let left = lent.list - a.entries in
          let all = a.entries + b.entries in
          ⊎_elim
          (λ lt. lt-ltb left b.entries lt ∙ sym (lt-ltb lent.list all (omega arith)))
          (λ ge. le-ltb left b.entries ge ∙ sym (le-ltb lent.list all (omega arith)))
          (either left b.entries)

      pub then_second : short_by rest used b ≡ short_by lent counts (together a b)
      unfolding short_by
      then_second =
          let o : get_or counts 1 0 + a.objects + b.objects ≡ get_or counts 1 0 + (a.objects + b.objects) = omega arith in
          let l : get_or counts 2 0 + a.links + b.links ≡ get_or counts 2 0 + (a.links + b.links) = omega arith in
          let d : get_or counts 0 0 + a.bytes + b.bytes ≡ get_or counts 0 0 + (a.bytes + b.bytes) = omega arith in
          rw (o, l, d, less_list)
