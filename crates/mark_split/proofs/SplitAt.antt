-- A split at any places: its needs in hand, there is room for them or not. Assumes nothing.
use Prim.Native.Nat.{ℕ, ◌≤◌}
use mathlib.Core.Path.{◌≡◌, ap, ◌∙◌}
use mathlib.Core.Bool.{Bool, true, false}
use mathlib.Core.List.{List}
use lib.ListN.{length}
use Rattle.folds.proofs.Folds.{length-upto}
use Rattle.store_rules.specs.Store.{Store, lent}
use Rattle.store_rules.specs.Appended.{new_number}
use Rattle.call_rules.specs.declared.Needs.{Needs}
use Rattle.call_rules.specs.Needs.{InUse, lent_of, short_by}
use Rattle.call_rules.proofs.Room.{sound_in_use}
use Rattle.call_rules.specs.declared.Lent.{Lent}
use Rattle.call_lists.proofs.Split.{asked, not_carried, has_carried}
use Rattle.mark_rules.specs.Written.{per_table, new_tables}
use Rattle.mark_checks.specs.declared.MarkTable.{MarkTable}
use Rattle.mark_carrying.specs.Measuring.{Measured}
use Rattle.mark_carrying.specs.Carrying.{Carrying, CutAt}
use Rattle.mark_split.specs.Splitting.{Cuttable, CutIfRoom}

-- a new table for each cut
pub tables_many : (s : Store) (t : ℕ) (cs : List ℕ) → length (new_tables s t cs) ≡ length cs
unfolding new_tables
tables_many s t cs = length-upto (new_number s per_table) (length cs)

module _ {b r l : List ℕ} (c : List ℕ) {t : ℕ} {p : MarkTable} {gs ks set cs : List ℕ} (k : Cuttable (lent b r l c) t p gs ks set cs) (list : List ℕ) where
  abbrev s : Store
  s = lent b r l c

  module _ {n : Lent} (e : n ≡ lent_of s list) where
    pub in_use_lem : InUse n c
    in_use_lem = rw e (let u = sound_in_use s list k.arranging.opens.reads.sounds in record { bytes = u.bytes; objects = u.objects; links = u.links })

    pub short_is : {x : Bool} (needs : Needs) → x ≡ short_by n c needs → x ≡ short_by (lent_of s list) c needs
    short_is needs f = f ∙ ap (λ (m : Lent). short_by m c needs) e

  module _ {gs' ks' : List ℕ} {n : Needs} (m : Measured s t gs' ks' cs n) {short : Bool} (e : short ≡ short_by (lent_of s list) c n) where
    pub no_room_lem : short ≡ true → CutIfRoom s t cs list false s list
    no_room_lem y = rw (← m.needs) (not_carried b r l c list n e y)

    -- the set may have been used on the way
    pub can_carry : short ≡ false → {set' : List ℕ} → 8192 ≤ length set' → Carrying s t p n gs' ks' set' cs list
    can_carry y long =
        let a = k.arranging in
        record { opens = a.opens; slots = k.slots; places = a.places; some = a.some; measured = m; scratch = long; room = asked b r l c list n e ∙ y }

    pub carried : short ≡ false → {s' : Store} {list' : List ℕ} → CutAt s t cs list s' list' → CutIfRoom s t cs list true s' list'
    carried y d = rw (← m.needs) (has_carried b r l c list n e y d)
