-- The whole call of a split, whatever it splits: what is asked before, then what is left of it, which is nothing to cut, no room, or the split. Assumes nothing.
use Rattle.std.specs.Prelude.{Option, Some, None}
use Prim.Native.Nat.{ℕ}
use mathlib.Core.Path.{◌≡◌, refl, sym, ap, ◌∙◌}
use mathlib.Core.Bool.{Bool, true, false}
use mathlib.Core.List.{List, [], ◌∷◌, ◌++◌}
use native.Mathlib.Omega.{arith}
use lib.ListN.{length}
use Rattle.folds.specs.Lists.{is_empty}
use Rattle.folds.proofs.Tests.{true_false, by_test}
use Rattle.store_rules.specs.Store.{Store, lent}
use Rattle.call_rules.specs.declared.Answer.TheVariants.{Done, NoRoom}
use Rattle.call_rules.specs.declared.Needs.{Needs}
use Rattle.call_rules.specs.Answers.{Case, case, number, first_case}
use Rattle.call_rules.specs.Needs.{lent_of, short_by, room_short}
use Rattle.call_rules.specs.Scratch.{Scratch, cleared}
use Rattle.call_rules.specs.Outcomes.{Outcome, done, settle, outcome}
use Rattle.call_rules.proofs.Cases.{first_skip, first_stands}
use Rattle.call_scratch.proofs.Cleared.{SameLengths, same_cleared}
use Rattle.call_lists.specs.Split.{Carried, CarriedIfRoom}

-- ---- there is room, or not

module _ (b o l c list : List ℕ) (n : Needs) {short : Bool} (e : short ≡ short_by (lent_of (lent b o l c) list) c n) where
  abbrev lender : Store
  lender = lent b o l c

  pub asked : room_short lender list n ≡ short
  unfolding short_by
  asked = sym e

  module _ {after : Store} {tables : List ℕ} where
    pub not_carried : short ≡ true → CarriedIfRoom lender n after tables list false lender list
    not_carried y = record { short = λ z. (refl, refl, refl); enough = λ z. true_false (sym (sym z ∙ asked ∙ y)) }

    pub has_carried : short ≡ false → {s' : Store} {list' : List ℕ} → Carried after tables list s' list' → CarriedIfRoom lender n after tables list true s' list'
    has_carried y d = record { short = λ z. true_false (sym z ∙ asked ∙ y); enough = λ z. (refl, d) }

-- ---- what is left of the call

pub is_empty_lem : (cs : List ℕ) → length cs ≡ 0 → is_empty cs ≡ true
unfolding is_empty
is_empty_lem [] h = refl
is_empty_lem (c ∷ cs) h = absurd (omega arith)

pub not_empty : (cs : List ℕ) → (length cs ≡ 0 → ⊥) → is_empty cs ≡ false
unfolding is_empty
not_empty [] h = absurd (h refl)
not_empty (c ∷ cs) h = refl

-- of a split of s by its places, where a split at any places cs needs `needs cs`, and leaves the store `after cs` and the new tables `tables cs`
module _ (s : Store) (list : List ℕ) (needs : List ℕ → Needs) (after : List ℕ → Store) (tables : List ℕ → List ℕ) (places : List ℕ) where
  -- "With no cut, 0 also changes nothing"; "No cut needs no room."; 8
  abbrev last : List Case
  last = case Done (is_empty places) ∷ case NoRoom (room_short s list (needs places)) ∷ []

  -- the split, if none of these cases applies
  abbrev splits : List Case → Scratch → Outcome
  splits cases w = settle (first_case cases) s list w (done (after places) (tables places) list w)

  module _ {k : ℕ} (count : k ≡ length places) where
    pub nothing : k ≡ 0 → (w : Scratch) → outcome 0 0 s list (cleared w) ≡ splits last w
    unfolding first_case settle
    nothing h w = rw (is_empty_lem places (sym count ∙ h))

    module _ (h : k ≡ 0 → ⊥) {r : Bool} {s' : Store} {list' : List ℕ} (d : CarriedIfRoom s (needs places) (after places) (tables places) list r s' list') where
      some_cut_lem : is_empty places ≡ false
      some_cut_lem = not_empty places (λ z. h (count ∙ z))

      pub refused : r ≡ false → {a : ℕ} → a ≡ number NoRoom → (w : Scratch) → outcome a 0 s' list' (cleared w) ≡ splits last w
      unfolding first_case settle
      refused e f w =
          by_test (room_short s list (needs places)) (λ y. let (q, x, z) = d.short y in rw (some_cut_lem, y, f, x, z))
          (λ y. true_false (sym (d.enough y).0 ∙ e))

      pub carried : r ≡ true → length (tables places) ≡ length places → (w : Scratch) → outcome 0 k s' list' (cleared w) ≡ splits last w
      unfolding first_case settle done
      carried e many w =
          by_test (room_short s list (needs places)) (λ y. true_false (sym e ∙ (d.short y).0))
          (λ y. let c = (d.enough y).1 in rw (some_cut_lem, y, c.store, c.list_is, many, count))

  -- ---- the whole call, of which these cases come first

  module _ (cases : List Case) (w : Scratch) where
    pub call_settled : {a : ℕ} → first_case cases ≡ Some a → outcome a 0 s list (cleared w) ≡ splits (cases ++ last) w
    unfolding settle
    call_settled {a} e = sym (ap (λ (o : Option ℕ). settle o s list w (done (after places) (tables places) list w)) (first_stands cases last a e))

    pub call_goes : first_case cases ≡ None → splits last w ≡ splits (cases ++ last) w
    call_goes e = sym (ap (λ (o : Option ℕ). settle o s list w (done (after places) (tables places) list w)) (first_skip cases last e))

-- then the scratch is cleared
pub then_cleared : {w w' w'' : Scratch} {s' : Store} {list' : List ℕ} {n k : ℕ} {x : Outcome} → SameLengths w w' → w'' ≡ cleared w' → outcome n k s' list' (cleared w) ≡ x → outcome n k s' list' w'' ≡ x
then_cleared {s' = s'} {list' = list'} {n = n} {k = k} e f h = ap (outcome n k s' list') (f ∙ same_cleared e) ∙ h
