-- A call whose outcome is settled by its cases keeps what is promised of it, and no second outcome does. Assumes nothing.
use Rattle.std.specs.Prelude.{Option, Some, None}
use Prim.Native.Nat.{ℕ}
use mathlib.Core.Path.{◌≡◌, refl, sym, ◌∙◌}
use mathlib.Core.List.{List}
use mathlib.Core.Logic.{◌⊎◌, inl, inr, ⊎_elim}
use native.Mathlib.Omega.{arith}
use Rattle.store_rules.specs.Store.{Store}
use Rattle.call_rules.specs.Answers.{Case, first_case}
use Rattle.call_rules.specs.Scratch.{Scratch, cleared}
use Rattle.call_rules.specs.Outcomes.{Outcome, settle}
use Rattle.promise_calls.specs.Keeps.{CallKeeps}
use Rattle.promise_calls.proofs.Settled.{stands, zeroed}
use Rattle.promise_calls.proofs.Given.{gives_one, settle_gives}
use Rattle.promise_calls.proofs.Unique.{same_outcome, one_unchanged}

some_none : (n : ℕ) → ◌≡◌ {A = Option ℕ} (Some n) None → ⊥
some_none n e = let z : ◌≡◌ {A = ℕ} 0 1 = cc in omega arith

module _ (cases : List Case) (May : Type 0) (may : first_case cases ≡ None → May) (clear : May → first_case cases ≡ None) where
  -- what has to hold does or does not: the cases decide it
  pub decided : May ⊎ (May → ⊥)
  decided = go (first_case cases) may clear
    where
      go : (c : Option ℕ) → (c ≡ None → May) → (May → c ≡ None) → May ⊎ (May → ⊥)
      go (Some n) f g = inr (λ m. some_none n (g m))
      go None f g = inl (f refl)

  module _ (Leaves : Outcome → Type 0) (s : Store) (w : Scratch) (list : List ℕ) where
    -- where going ahead answers 0, clears the scratch, and leaves what is promised
    pub call_keeps : (o : Outcome) → o.answer ≡ 0 → o.scratch ≡ cleared w → (May → Leaves (settle (first_case cases) s list w o))
        → CallKeeps cases May Leaves s w list (settle (first_case cases) s list w o)
    call_keeps o zero clean leaves =
        record {
          answers = settle_gives cases s w list o zero;
          ahead = leaves;
          nothing = λ n. stands s w list o (first_case cases) (λ e. n (may e));
          zero = zeroed s w list o (first_case cases) clean;
        }

    -- where what is left decides count, store and list
    pub call_decided : ((x y : Outcome) → Leaves x → Leaves y → (x.count ≡ y.count) × (x.store ≡ y.store) × (x.list ≡ y.list))
        → (x y : Outcome) → CallKeeps cases May Leaves s w list x → CallKeeps cases May Leaves s w list y → x ≡ y
    call_decided same x y p q =
        let answer = gives_one cases x.answer y.answer p.answers q.answers in
        ⊎_elim
        (λ m. let (count, store, listed) = same x y (p.ahead m) (q.ahead m) in same_outcome x y answer count store listed (p.zero ∙ sym q.zero))
        (λ n. one_unchanged s w list x y answer (p.nothing n) (q.nothing n))
        decided
