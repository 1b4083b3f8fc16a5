-- Nothing is cut below the first cut, and neither by a rule of the same edition that asks no more below it. Assumes nothing.
use Prim.Native.Nat.{ℕ, zero, suc, ◌+◌, ◌-◌, ◌<◌, ◌≤◌}
use mathlib.Core.Path.{◌≡◌, refl, sym, ap, subst, ◌∙◌}
use mathlib.Core.Bool.{false, ◌||◌}
use mathlib.Core.List.{List, [], ◌∷◌, ◌++◌}
use native.Mathlib.Omega.{arith}
use lib.Dec.{leb}
use lib.ListN.{length, get_or, length-append}
use borrow.Author.Tests.{ltb-false, le-ltb}
use Rattle.folds.proofs.Tests.{and_first, and_second, by_test}
use Rattle.cut_rules.specs.Cuts.{Rule, Cutting, second, looked, least_cut, exceeds, cut_due, cut_here, go_on, step, after, cuts_of}
use Rattle.cut_rules.proofs.Turns.{looks_at, cost_now, step_passed, step_looked, weigh_on, Turn, turn}
use Rattle.cut_rules.proofs.CutPlaces.{places}

-- ---- the first cut stays the first

-- a list of cuts that starts with x
abbrev Starts : ℕ → List ℕ → Type 0
Starts x cs = (xs : List ℕ) × (cs ≡ x ∷ xs)

starts_next : (r : Rule) (c : Cutting) (k x : ℕ) {d : Cutting} → Turn r c k d → Starts x c.cuts → Starts x d.cuts
unfolding go_on cut_here
starts_next r c k x (Turn.passed l) s = s
starts_next r c k x (Turn.added l h) s = s
starts_next r c k x (Turn.cut h) (xs, e) = (xs ++ (k ∷ []), ap (λ (cs : List ℕ). cs ++ (k ∷ [])) e)

starts_on : (r : Rule) (k d x : ℕ) → Starts x (after r k).cuts → Starts x (after r (k + d)).cuts
unfolding after
starts_on r k zero x s = let z : k + 0 ≡ k = omega arith in rw z s
starts_on r k (suc d) x s =
    let z : k + suc d ≡ suc (k + d) = omega arith in
    subst (λ (n : ℕ). Starts x (after r n).cuts) (sym z) (starts_next r (after r (k + d)) (k + d) x (turn r (after r (k + d)) (k + d)) (starts_on r k d x s))

-- so nothing is cut up to it
pub none_before_lem : (r : Rule) (k : ℕ) → k ≤ r.count → k ≤ get_or (cuts_of r) 0 0 → (after r k).cuts ≡ []
unfolding cuts_of
none_before_lem r k h l = go (after r k).cuts refl
  where
    go : (cs : List ℕ) → (after r k).cuts ≡ cs → (after r k).cuts ≡ []
    go [] e = e
    go (x ∷ xs) e =
        let z : k + (r.count - k) ≡ r.count = omega arith in
        let (ys, f) = subst (λ (n : ℕ). Starts x (after r n).cuts) z (starts_on r k (r.count - k) x (xs, e)) in
        absurd
        (omega (
          arith,
          ap (λ (cs : List ℕ). get_or cs 0 0) f,
          ap (λ (cs : List ℕ). get_or cs 0 0) e,
          (places r k).below 0 (omega (arith, ap length e)),
        ))

-- ---- while nothing is cut

-- a rule q that asks no more than r below n, up to which r cuts nothing
module _ (r q : Rule) (n : ℕ) (uncut-up : (k : ℕ) → k ≤ n → (after r k).cuts ≡ []) (edition : q.edition ≡ r.edition) (start : q.start ≡ r.start)
    (full : (i : ℕ) → i < n → q.full i ≡ r.full i) (cost : (i : ℕ) → i < n → q.cost 0 i ≡ r.cost 0 i) (beside : (i : ℕ) → i < n → q.beside 0 i ≤ r.beside 0 i) where
  -- both stand alike, and the table being filled and what counts as seen start at 0
  record Alike (c d : Cutting) : Type 0 where
    same : c ≡ d
    first : d.first ≡ 0
    seen : d.seen ≡ 0

  -- one item of both
  alike_next : (c : Cutting) (k : ℕ) {d : Cutting} → k < n → c.first ≡ 0 → c.seen ≡ 0 → Turn r c k d → d.cuts ≡ [] → Alike (step q c k) d
  unfolding go_on cut_here looked exceeds cut_due
  alike_next c k l f w t u = go t u
    where
      looks : looks_at q k ≡ looks_at r k
      looks = λ i. second (edition i) || full k l i

      costs : cost_now q c k ≡ cost_now r c k
      costs = ap (λ (a : ℕ). q.cost a k) w ∙ cost k l ∙ sym (ap (λ (a : ℕ). r.cost a k) w)

      fewer : cut_due r c k (cost_now r c k) ≡ false → cut_due q c k (cost_now q c k) ≡ false
      fewer h =
          by_test (leb (least_cut r.edition) k)
          (λ t.
          let fit : exceeds r c k (cost_now r c k) ≡ false = by_test (exceeds r c k (cost_now r c k)) (λ e. sym (rw (e, t)) ∙ h) (λ e. e) in
          let less : q.beside c.first k ≤ r.beside c.first k = subst (λ (a : ℕ). q.beside a k ≤ r.beside a k) (sym f) (beside k l) in
          and_first (exceeds q c k (cost_now q c k)) (leb (least_cut q.edition) k)
          (le-ltb 65535 (c.sum + cost_now q c k + q.beside c.first k)
          (omega (arith, costs, ltb-false 65535 (c.sum + cost_now r c k + r.beside c.first k) fit))))
          (λ t. and_second (exceeds q c k (cost_now q c k)) (leb (least_cut q.edition) k) (ap (λ (e : ℕ). leb (least_cut e) k) edition ∙ t))

      go : {d : Cutting} → Turn r c k d → d.cuts ≡ [] → Alike (step q c k) d
      go (Turn.passed h) u = record { same = step_passed q c k (looks ∙ h); first = f; seen = w }
      go (Turn.added m h) u =
          record { same = step_looked q c k (looks ∙ m) ∙ weigh_on q c k (cost_now q c k) (fewer h) ∙ ap (go_on c) costs; first = f; seen = w }
      go (Turn.cut h) u = absurd (omega (arith, length-append c.cuts (k ∷ []), ap length u))

  alike : (k : ℕ) → k ≤ n → Alike (after q k) (after r k)
  unfolding after
  alike zero l = record { same = λ i. record { first = 0; seen = 0; sum = start i; cuts = [] }; first = refl; seen = refl }
  alike (suc k) l =
      let a = alike k (omega arith) in
      let b = alike_next (after r k) k (omega arith) a.first a.seen (turn r (after r k) k) (uncut-up (suc k) l) in
      record { same = ap (λ (c : Cutting). step q c k) a.same ∙ b.same; first = b.first; seen = b.seen }

  pub cuts_none : q.count ≡ n → cuts_of q ≡ []
  unfolding cuts_of
  cuts_none e =
      ap (λ (m : ℕ). (after q m).cuts) e ∙ ap (λ (c : Cutting). c.cuts) (alike n (omega arith)).same ∙ uncut-up n (omega arith)
