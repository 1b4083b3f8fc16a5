-- One item after another: before the first, an item that is passed over, added or cut at, and after the last. Assumes nothing.
use Prim.Native.Nat.{ℕ, ◌+◌, ◌-◌, ◌≤◌, ◌<◌}
use mathlib.Core.Path.{◌≡◌, sym, ap, ap₂, subst, ◌∙◌}
use mathlib.Core.Bool.{Bool, true, false, ◌&&◌}
use mathlib.Core.List.{List, [], ◌∷◌}
use native.Mathlib.Numerals.{add-one}
use native.Mathlib.Omega.{arith}
use lib.Dec.{leb}
use lib.ListN.{length, take, drop, length-append}
use borrow.Author.Tests.{leb-false, ltb-false}
use Rattle.folds.specs.Lists.{put, part}
use Rattle.folds.proofs.Tests.{by_test, cond_has}
use Rattle.folds.proofs.Put.{put-nil, put_front, length-put}
use Rattle.cut_rules.specs.Cuts.{Rule, Cutting, second, cost_at_cut, least_cut, exceeds, cut_due, cut_here, go_on, weigh, step, after, cuts_of}
use Rattle.cut_rules.proofs.Turns.{looks_at, cost_now, step_passed, step_looked, weigh_cut, weigh_on}
use Rattle.cut_filling.specs.declared.Filling.{Filling}
use Rattle.cut_filling.specs.Filling.{Fills, Listed, Placed, Filled}

-- ---- the rule's step

module _ (r : Rule) (i : ℕ) where
  after_one : after r (i + 1) ≡ step r (after r i) i
  unfolding after
  after_one = ap (after r) (add-one i)

  pub after_passed : looks_at r i ≡ false → after r (i + 1) ≡ after r i
  after_passed h = after_one ∙ step_passed r (after r i) i h

  module _ (looks : looks_at r i ≡ true) (cost : ℕ) (costs : cost ≡ cost_now r (after r i) i) where
    after_looked : after r (i + 1) ≡ weigh r (after r i) i cost
    after_looked = after_one ∙ step_looked r (after r i) i looks ∙ ap (weigh r (after r i) i) (sym costs)

    -- no cut: the item is in the table that is being filled
    pub goes_on : cut_due r (after r i) i cost ≡ false → after r (i + 1) ≡ go_on (after r i) cost
    goes_on e = after_looked ∙ weigh_on r (after r i) i cost e

    -- a cut: the item is the first of the next table
    pub cuts_here : cut_due r (after r i) i cost ≡ true → after r (i + 1) ≡ cut_here r (after r i) i cost
    cuts_here e = after_looked ∙ weigh_cut r (after r i) i cost e

-- a sum that goes on stays small: within the limit, but for item 0 where no cut is at 0
module _ (r : Rule) where
  least_few : least_cut r.edition ≤ 1
  unfolding least_cut
  least_few = cond_has (λ (n : ℕ). n ≤ 1) (second r.edition) 1 0 (omega arith) (omega arith)

  start_sum : (i : ℕ) → i ≡ 0 → (after r i).sum ≡ r.start
  unfolding after
  start_sum i e = ap (λ (k : ℕ). (after r k).sum) e

  stays_small : (i cost : ℕ) → r.start + cost ≤ 67108864 → cut_due r (after r i) i cost ≡ false → (after r i).sum + cost ≤ 67108864
  unfolding cut_due exceeds
  stays_small i cost few h =
      by_test (exceeds r (after r i) i cost)
      (λ x.
      let no : leb (least_cut r.edition) i ≡ false = ap (λ (b : Bool). b && leb (least_cut r.edition) i) (sym x) ∙ h in
      omega (arith, start_sum i (omega (arith, leb-false (least_cut r.edition) i no, least_few))))
      (λ x. omega (arith, ltb-false 65535 ((after r i).sum + cost + r.beside (after r i).first i) x))

-- ---- the code's step

module _ (r : Rule) where
  -- before the first item
  pub filled_start : {f : Filling} {l : List ℕ} → Fills f (after r 0) → r.start ≤ 67108864 → r.count ≤ length l → Filled r l 0 f l
  unfolding after
  filled_start {f} {l} a h n =
      record {
        listed = record { fills = a; listed = put-nil l 0 };
        first = omega arith;
        few = omega (arith, a.cuts);
        small = omega (arith, a.sum);
        room = n;
      }

  module _ {d : List ℕ} {i : ℕ} {f : Filling} {l : List ℕ} (v : Filled r d i f l) where
    -- there is an entry for a cut at item i
    pub cuts_room : i < r.count → f.cuts < length l
    cuts_room h =
        let n : 0 + length (after r i).cuts ≤ length d = omega (arith, v.few, v.room, v.listed.fills.cuts) in
        omega (arith, v.few, v.room, ap length v.listed.listed, length-put d 0 (after r i).cuts n)

    -- an item that is not looked at
    pub passed : looks_at r i ≡ false → Filled r d (i + 1) f l
    passed h =
        let e : after r (i + 1) ≡ after r i = after_passed r i h in
        record {
          listed = subst (λ (c : Cutting). Listed f c d l) (sym e) v.listed;
          first = omega (arith, v.first, ap (λ (c : Cutting). c.first) e);
          few = omega (arith, v.few);
          small = v.small;
          room = v.room;
        }

    -- one cut more
    pub one_more : (cost : ℕ) {f' : Filling} {l' : List ℕ} → Listed f' (cut_here r (after r i) i cost) d l' → f'.cuts ≡ f.cuts + 1
    unfolding cut_here
    one_more cost g = omega (arith, v.listed.fills.cuts, g.fills.cuts, length-append (after r i).cuts (i ∷ []))

    module _ (looks : looks_at r i ≡ true) (cost : ℕ) (costs : cost ≡ cost_now r (after r i) i) {f' : Filling} where
      -- no cut
      pub added : cut_due r (after r i) i cost ≡ false → r.start + cost ≤ 67108864 → Listed f' (go_on (after r i) cost) d l → Filled r d (i + 1) f' l
      unfolding go_on
      added h few g =
          let e = goes_on r i looks cost costs h in
          record {
            listed = subst (λ (c : Cutting). Listed f' c d l) (sym e) g;
            first = omega (arith, v.first, ap (λ (c : Cutting). c.first) e);
            few = omega (arith, v.few, v.listed.fills.cuts, g.fills.cuts);
            small = omega (arith, g.fills.sum, stays_small r i cost few h);
            room = v.room;
          }

      pub cut : {l' : List ℕ} → cut_due r (after r i) i cost ≡ true → r.start + cost_at_cut r i cost ≤ 67108864
          → Listed f' (cut_here r (after r i) i cost) d l' → Filled r d (i + 1) f' l'
      unfolding cut_here
      cut {l'} h few g =
          let e = cuts_here r i looks cost costs h in
          record {
            listed = subst (λ (c : Cutting). Listed f' c d l') (sym e) g;
            first = omega (arith, ap (λ (c : Cutting). c.first) e);
            few = omega (arith, v.few, one_more cost g);
            small = omega (arith, g.fills.sum);
            room = v.room;
          }

  -- after the last item
  module _ {d : List ℕ} {i : ℕ} {f : Filling} {l : List ℕ} (v : Filled r d i f l) (e : i ≡ r.count) where
    all_in_lem : (after r i).cuts ≡ cuts_of r
    unfolding cuts_of
    all_in_lem = ap (λ (k : ℕ). (after r k).cuts) e

    pub all_placed : Placed (cuts_of r) d l f.cuts
    all_placed = record { count = v.listed.fills.cuts ∙ ap length all_in_lem; places = v.listed.listed ∙ ap (put d 0) all_in_lem }

-- the places, from the front of the list
pub placed_front : {cs d l : List ℕ} {n : ℕ} → Placed cs d l n → part l 0 n ≡ cs
placed_front {cs} {d} {n = n} p =
    let many : n - 0 ≡ length cs = omega (arith, p.count) in
    ap₂ (λ (k : ℕ) (x : List ℕ). take k (drop 0 x)) many p.places ∙ put_front d cs

pub placed_inside : {cs d l : List ℕ} {n : ℕ} → Placed cs d l n → n ≤ length l
unfolding put
placed_inside {cs} {d} p = omega (arith, p.count, ap length p.places, length-append cs (drop (0 + length cs) d))
