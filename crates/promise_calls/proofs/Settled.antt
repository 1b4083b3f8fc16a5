-- A call that its cases settle, or that goes ahead: whatever the cases, and whatever going ahead leaves. Assumes nothing.
use Rattle.std.specs.Prelude.{Option, Some, None}
use Prim.Native.Nat.{ℕ, ◌<◌}
use mathlib.Core.Path.{◌≡◌, refl, sym}
use mathlib.Core.List.{List, []}
use native.Mathlib.Nat.{not-suc-le-zero}
use Rattle.folds.proofs.Put.{put-nil}
use Rattle.store_rules.specs.Store.{Store}
use Rattle.call_rules.specs.Scratch.{Scratch, cleared}
use Rattle.call_rules.specs.Outcomes.{Outcome, settle, done}
use Rattle.promise_calls.specs.Unchanged.{Unchanged}

module _ (s : Store) (w : Scratch) (list : List ℕ) where
  -- ---- with an outcome o of going ahead

  module _ (o : Outcome) where
    -- an answer that stands leaves everything as it came
    pub settled : (n : ℕ) → Unchanged s w list (settle (Some n) s list w o)
    unfolding settle
    settled n = record { none_new = refl; same_store = refl; same_list = refl; zero_scratch = refl }

    -- and where it is 0, there is nothing to do
    pub stopped : (c : Option ℕ) → c ≡ Some 0 → ((settle c s list w o).answer ≡ 0) × Unchanged s w list (settle c s list w o)
    unfolding settle
    stopped c e = rw e (refl, settled 0)

    -- where going ahead answers 0, another answer leaves everything as it came
    pub refuses : (c : Option ℕ) → o.answer ≡ 0 → ((settle c s list w o).answer ≡ 0 → ⊥) → Unchanged s w list (settle c s list w o)
    unfolding settle
    refuses (Some n) z ne = settled n
    refuses None z ne = absurd (ne z)

    -- where it does not go ahead, it leaves everything as it came
    pub stands : (c : Option ℕ) → (c ≡ None → ⊥) → Unchanged s w list (settle c s list w o)
    stands (Some n) ne = settled n
    stands None ne = absurd (ne refl)

    -- where going ahead clears the scratch, every outcome does
    pub zeroed : (c : Option ℕ) → o.scratch ≡ cleared w → (settle c s list w o).scratch ≡ cleared w
    unfolding settle
    zeroed (Some n) z = refl
    zeroed None z = z

    -- a call with something new went ahead
    pub went : (c : Option ℕ) → 0 < (settle c s list w o).count → c ≡ None
    unfolding settle
    went (Some n) h = absurd (not-suc-le-zero h)
    went None h = refl

  -- ---- a plan, which only reads

  -- with no places it leaves what it found
  pub plan_none : (c : Option ℕ) → Unchanged s w list (settle c s list w (done s [] list w))
  unfolding settle done
  plan_none (Some n) = settled (done s [] list w) n
  plan_none None = record { none_new = refl; same_store = refl; same_list = sym (put-nil list 0); zero_scratch = refl }

  -- it keeps its store
  pub plan_keeps : (c : Option ℕ) (places : List ℕ) → (settle c s list w (done s places list w)).store ≡ s
  unfolding settle done
  plan_keeps (Some n) places = refl
  plan_keeps None places = refl
