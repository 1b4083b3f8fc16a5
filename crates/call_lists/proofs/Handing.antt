-- What a cut plan hands out, and the outcome of one that leaves the store as it came. Assumes nothing.
use Rattle.std.specs.Prelude.{Option, Some, None, Result, Ok, Err}
use Prim.Native.Nat.{ℕ, ◌-◌, ◌≤◌, ◌<◌}
use mathlib.Core.Path.{◌≡◌, refl, sym, ap, ◌∙◌}
use mathlib.Core.Bool.{Bool, true, false, cond}
use mathlib.Core.List.{List, [], ◌∷◌, ◌++◌}
use native.Mathlib.Omega.{arith}
use lib.ListN.{length, take}
use lib.Dec.{ltb}
use borrow.Author.Tests.{lt-ltb, le-ltb}
use Rattle.folds.specs.Lists.{put}
use Rattle.store_rules.specs.Store.{Store}
use Rattle.call_rules.specs.declared.Answer.TheVariants.{NoRoom}
use Rattle.call_rules.specs.Answers.{Case, case, number, first_case, refusal}
use Rattle.call_rules.specs.Scratch.{Scratch, cleared}
use Rattle.call_rules.specs.Outcomes.{Outcome, done, settle, outcome}
use Rattle.call_rules.proofs.Cases.{first_skip, first_stands}
use Rattle.call_rules.specs.declared.Answer.{Answer}
use Rattle.call_scratch.proofs.Cleared.{SameLengths, same_cleared}
use Rattle.call_lists.specs.Handed.{Handed, handed, places_handed, handed_by, planned_cuts}
use Rattle.call_lists.specs.declared.Plan.{Plan}

module _ (cuts list : List ℕ) where
  pub handed_short : length list < length cuts → handed (number NoRoom) 0 list ≡ places_handed cuts list
  unfolding places_handed
  handed_short l = rw (lt-ltb (length list) (length cuts) l)

  pub handed_places : {list' : List ℕ} → length cuts ≤ length list → list' ≡ put list 0 cuts → handed 0 (length cuts) list' ≡ places_handed cuts list
  unfolding places_handed
  handed_places l e = rw (le-ltb (length list) (length cuts) l) (ap (handed 0 (length cuts)) e)

  module _ {T : Type 0} {d : Result (Plan T) Answer} where
    pub out_settled : {a : Answer} → d ≡ Err a → handed (number a) 0 list ≡ handed_by (refusal d) (planned_cuts d cuts) list
    unfolding handed_by
    out_settled y = rw y

    pub out_places : {h : Handed} {p : Plan T} → d ≡ Ok p → h ≡ places_handed (take p.cuts cuts) list → h ≡ handed_by (refusal d) (planned_cuts d cuts) list
    unfolding handed_by
    out_places {p = p} y e =
        let whole : p.cuts - 0 ≡ p.cuts = omega arith in
        rw y (e ∙ ap (λ (n : ℕ). places_handed (take n cuts) list) (sym whole))

-- what is handed out, of a store that stays, with cleared scratch
abbrev leaves : Store → Scratch → Handed → Outcome
leaves s w h = outcome h.answer h.count s h.list (cleared w)

-- the outcome of a plan of these places, by the cases before the one of its list
abbrev pub planned : List Case → List ℕ → Store → Scratch → List ℕ → Outcome
planned cases places s w list = settle (first_case (cases ++ (case NoRoom (ltb (length list) (length places)) ∷ []))) s list w (done s places list w)

module _ (cases : List Case) (places : List ℕ) (s : Store) (w : Scratch) (list : List ℕ) where
  refused : {n : ℕ} → first_case cases ≡ Some n → leaves s w (handed n 0 list) ≡ planned cases places s w list
  unfolding settle
  refused {n} e = sym (ap (λ (x : Option ℕ). settle x s list w (done s places list w)) (first_stands cases _ n e))

  listed : first_case cases ≡ None → leaves s w (places_handed places list) ≡ planned cases places s w list
  unfolding places_handed first_case done settle
  listed e =
      go (ltb (length list) (length places))
      ∙ sym (ap (λ (x : Option ℕ). settle x s list w (done s places list w)) (first_skip cases _ e))
    where
      go : (short : Bool) → leaves s w (cond short (handed (number NoRoom) 0 list) (handed 0 (length places) (put list 0 places)))
          ≡ settle (cond short (Some (number NoRoom)) None) s list w (done s places list w)
      go true = refl
      go false = refl

  -- the cuts are asked where no case has the answer
  decided : {cuts : List ℕ} (o : Option ℕ) → first_case cases ≡ o → (o ≡ None → cuts ≡ places) → leaves s w (handed_by o cuts list) ≡ planned cases places s w list
  unfolding handed_by
  decided (Some n) e f = refused e
  decided None e f = ap (λ (x : List ℕ). leaves s w (places_handed x list)) (f refl) ∙ listed e

  pub leaves_handed : {cuts list' : List ℕ} {o : Option ℕ} {n k : ℕ} {w' w'' : Scratch} → first_case cases ≡ o → (o ≡ None → cuts ≡ places)
      → handed n k list' ≡ handed_by o cuts list → SameLengths w w' → w'' ≡ cleared w' → outcome n k s list' w'' ≡ planned cases places s w list
  leaves_handed {list' = list'} {o = o} {n = n} {k = k} e f h same clear =
      ap (outcome n k s list') (clear ∙ same_cleared same) ∙ ap (leaves s w) h ∙ decided o e f
