-- A split at any places: its needs in hand, there is room for them or not. Assumes nothing.
use Prim.Native.Nat.{ℕ}
use Rattle.std.specs.Prelude.{Ok, Err, Result, is_ok, ⊤}
use mathlib.Core.Path.{◌≡◌, refl, sym, ap, ◌∙◌}
use mathlib.Core.Bool.{Bool, true, false}
use native.Mathlib.Omega.{arith}
use Rattle.folds.proofs.Tests.{true_false, by_test}
use mathlib.Core.List.{List}
use Rattle.store_rules.specs.Store.{Store, lent}
use Rattle.call_rules.specs.declared.Needs.{Needs}
use Rattle.call_rules.specs.declared.Answer.{Answer}
use Rattle.call_rules.specs.declared.Answer.TheVariants.{NoRoom}
use Rattle.call_rules.specs.Needs.{InUse, lent_of, short_by, room_short}
use Rattle.call_rules.proofs.Room.{sound_in_use}
use Rattle.call_rules.specs.declared.Lent.{Lent}
use Rattle.call_lists.specs.Split.{CarriedIfRoom}
use Rattle.call_lists.proofs.Split.{asked}
use Rattle.pair_rules.specs.Written.{needed, split_store, new_tables}
use Rattle.pair_checks.specs.declared.PairTable.{PairTable}
use Rattle.pair_carrying.specs.Arranging.{Arranging}
use Rattle.pair_carrying.specs.Measuring.{Measured}
use Rattle.pair_carrying.specs.Carrying.{Carrying, CutAt}
use Rattle.pair_split.specs.Splitting.{CutIfRoom}

module _ {b r l : List ℕ} (c : List ℕ) {t : ℕ} {p : PairTable} {gs ks cs : List ℕ} (k : Arranging (lent b r l c) t p gs ks cs) (list : List ℕ) where
  abbrev s : Store
  s = lent b r l c

  module _ {n : Lent} (e : n ≡ lent_of s list) where
    pub in_use_lem : InUse n c
    in_use_lem = rw e (let u = sound_in_use s list k.opens.reads.sounds in record { bytes = u.bytes; objects = u.objects; links = u.links })

    pub short_is : {x : Bool} (needs : Needs) → x ≡ short_by n c needs → x ≡ short_by (lent_of s list) c needs
    short_is needs f = f ∙ ap (λ (m : Lent). short_by m c needs) e

  module _ {gs' ks' : List ℕ} {n : Needs} (m : Measured s t gs' ks' cs n) {short : Bool} (e : short ≡ short_by (lent_of s list) c n) where
    asked_lem : room_short s list (needed s t cs) ≡ short
    asked_lem = rw (← m.needs) (asked b r l c list n e)

    pub no_room_lem : short ≡ true → CutIfRoom s t cs list (Err NoRoom) s list
    no_room_lem y = record { short = λ z. (refl, refl, refl); enough = λ z. true_false (sym (asked_lem ∙ y) ∙ z) }

    pub can_carry : short ≡ false → Carrying s t p n gs' ks' cs list
    can_carry y = record { opens = k.opens; places = k.places; some = k.some; measured = m; room = asked b r l c list n e ∙ y }

    pub carried : short ≡ false → {s' : Store} {list' : List ℕ} → CutAt s t cs list s' list' → CutIfRoom s t cs list (Ok tt) s' list'
    carried y d = record { short = λ z. true_false (sym z ∙ asked_lem ∙ y); enough = λ z. (refl, d) }

-- what the whole call makes of it
module _ {s : Store} {t : ℕ} {cs list : List ℕ} {x : Result ⊤ Answer} {s' : Store} {list' : List ℕ} (d : CutIfRoom s t cs list x s' list') where
  pub by_room : CarriedIfRoom s (needed s t cs) (split_store s t cs) (new_tables s t cs) list (is_ok x) s' list'
  by_room =
      record {
        short = λ y. let (q, u, v) = d.short y in (ap is_ok q, u, v);
        enough = λ y. let (q, u) = d.enough y in (ap is_ok q, u);
      }

  pub refusal_is : {a : Answer} → x ≡ Err a → a ≡ NoRoom
  refusal_is {a} e =
      by_test (room_short s list (needed s t cs)) (λ y. let q = (d.short y).0 in cc)
      (λ y. let q = (d.enough y).0 in let z : ◌≡◌ {A = ℕ} 0 1 = cc in absurd (omega arith))
