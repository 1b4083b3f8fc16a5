-- A build that leaves what a call leaves which splits in two: it is none of the four useless ones. Assumes nothing.
use Prim.Native.Nat.{ℕ, ◌<◌}
use mathlib.Core.Path.{◌≡◌, ap, subst, ◌∙◌}
use mathlib.Core.List.{List, [], ◌∷◌}
use native.Mathlib.Omega.{arith}
use lib.ListN.{get_or}
use Rattle.folds.specs.Lists.{part}
use Rattle.store_rules.specs.Store.{Store, bytes_of, head_of, tail_of}
use Rattle.call_rules.specs.Scratch.{Scratch}
use Rattle.call_rules.specs.Outcomes.{Outcome}
use Rattle.promise_witnesses.specs.Builds.{Build, RefusesEverything, NeverCuts, DoesNothing, OnlyNumbered, NumbersTheRest}

-- answer, count and objects; then the second new table's second byte, and what stood there: in one list, so that the call is computed once
unfoldable pub seen_of : Store → Outcome → List ℕ
seen_of s o =
    let u = get_or o.list 1 0 in
    o.answer ∷ o.count ∷ o.store.object_count ∷ get_or (bytes_of o.store u) 1 0 ∷ get_or (part s.bytes (head_of o.store u) (tail_of o.store u)) 1 0 ∷ []

module _ (s : Store) (t : ℕ) (w : Scratch) (list : List ℕ) (left : Outcome) (n : ℕ) (seen : seen_of s left ≡ 0 ∷ 2 ∷ n ∷ 1 ∷ 0 ∷ []) where
  pub answers : left.answer ≡ 0
  unfolding seen_of
  answers = cc seen

  pub counts : left.count ≡ 2
  unfolding seen_of
  counts = cc seen

  module _ (build : Build) (built : build s t w list ≡ left) where
    pub refuses_not : RefusesEverything build → ⊥
    refuses_not refuses = refuses s t w list (ap (λ (o : Outcome). o.answer) built ∙ answers)

    pub cuts_once : NeverCuts build → ⊥
    cuts_once never = omega (arith, counts, never s t w list, ap (λ (o : Outcome). o.count) built)

    pub does_something : s.object_count < n → DoesNothing build → ⊥
    unfolding seen_of
    does_something more nothing =
        let objects : left.store.object_count ≡ n = cc seen in
        omega (arith, ap (λ (x : Store). x.object_count) (nothing s t w list), ap (λ (o : Outcome). o.store.object_count) built)

    pub writes_the_rest : NumbersTheRest build → ⊥
    unfolding seen_of
    writes_the_rest numbers =
        let u = get_or left.list 1 0 in
        let written : get_or (bytes_of left.store u) 1 0 ≡ 1 = cc seen in
        let stood : get_or (part s.bytes (head_of left.store u) (tail_of left.store u)) 1 0 ≡ 0 = cc seen in
        let asked : (build s t w list).count ≡ 2 = ap (λ (o : Outcome). o.count) built ∙ counts in
        let numbered : OnlyNumbered s left u
        = subst (λ (o : Outcome). OnlyNumbered s o (get_or o.list 1 0)) built (numbers s t w list 1 (omega arith) (omega arith)) in
        omega (arith, ap (λ (b : List ℕ). get_or b 1 0) numbered)
