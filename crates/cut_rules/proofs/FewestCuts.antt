-- No list of cuts within the limit has fewer cuts than edition 2's, where what fits still fits without its first items. Assumes nothing.
use Prim.Native.Nat.{ℕ, zero, suc, ◌+◌, ◌<◌, ◌≤◌}
use mathlib.Core.Path.{◌≡◌, refl, sym, subst, ◌∙◌}
use mathlib.Core.Bool.{true, false}
use mathlib.Core.List.{List, [], ◌∷◌, ◌++◌}
use mathlib.Core.Logic.{⊎_elim}
use native.Mathlib.Nat.{eq-or-lt_of_le}
use native.Mathlib.Numerals.{add-one}
use native.Mathlib.Omega.{arith}
use lib.ListN.{length, length-append}
use lib.Dec.{leb, ltb}
use borrow.Author.Tests.{leb-true, le-leb}
use Rattle.folds.proofs.Tests.{and_both, true_false, either}
use Rattle.folds.proofs.Joined.{and_three, three_hold}
use Rattle.cut_rules.specs.Cuts.{Rule, Cutting, cut_here, go_on, after, cuts_of}
use Rattle.cut_rules.specs.Measure.{fits, table_fits, tables_fit, within_limit}
use Rattle.cut_rules.specs.Places.{places_ascend}
use Rattle.cut_rules.proofs.Measures.{fits_after}
use Rattle.cut_rules.proofs.SumMeasured.{Filling, filling, Next, next_of}

-- what fits still fits without its first items
abbrev pub LaterFits : Rule → Type 0
LaterFits r = (a b i : ℕ) → a ≤ b → b ≤ i → fits r a i ≡ true → fits r b i ≡ true

-- ---- one item of another list

-- the list from item k on, whose table being filled starts at a: it cuts at k, or it does not, and then item k fits
data Place (r : Rule) (a k : ℕ) : List ℕ → Type 0 where
  cut : {rest : List ℕ} → places_ascend (suc k) r.count rest ≡ true → tables_fit r k rest r.count ≡ true → Place r a k (k ∷ rest)
  none : {rest : List ℕ} → places_ascend (suc k) r.count rest ≡ true → (a < k → fits r a k ≡ true) → Place r a k rest

place : (r : Rule) (a k : ℕ) (cs : List ℕ) → k < r.count → places_ascend k r.count cs ≡ true → tables_fit r a cs r.count ≡ true → Place r a k cs
unfolding places_ascend tables_fit
place r a k [] l h t = Place.none refl (λ m. fits_after r a r.count t k m l)
place r a k (c ∷ cs) l h t =
    let (x, y, z) = and_three (leb k c) (ltb c r.count) (places_ascend (c + 1) r.count cs) h in
    let (u, v) = and_both (table_fits r a c) (tables_fit r c cs r.count) t in
    ⊎_elim
    (λ e. subst (λ (i : ℕ). Place r a k (i ∷ cs)) e (Place.cut (rw (← e, add-one) at z) (rw (← e) at v)))
    (λ lt. Place.none (three_hold (leb (suc k) c) (ltb c r.count) (places_ascend (c + 1) r.count cs) (le-leb (suc k) c lt) y z) (λ m. fits_after r a c u k m lt))
    (eq-or-lt_of_le (leb-true k c x))

-- ---- edition 2 beside it

-- before item k: the other list's cuts from k on, how many it has below k, and the first item of its table being filled;
-- it has no fewer cuts so far, and where it has as many, its table starts no later
record Rival (r : Rule) (cs : List ℕ) (k : ℕ) (c : Cutting) : Type 0 where
  rest : List ℕ
  passed : ℕ
  first : ℕ
  parted : length cs ≡ passed + length rest
  rises : places_ascend k r.count rest ≡ true
  within : tables_fit r first rest r.count ≡ true
  low : first ≤ k
  begun : 0 < k → first < k
  fewer : length c.cuts ≤ passed
  level : length c.cuts ≡ passed → first ≤ c.first

module _ (r : Rule) (two : r.edition ≡ 2) (later : LaterFits r) (cs : List ℕ) where
  rival_next : (c : Cutting) (k : ℕ) {d : Cutting} → k < r.count → Filling r k c → Next r c k d → Rival r cs k c → Rival r cs (suc k) d
  unfolding go_on cut_here
  rival_next c k m f n v = go n (place r v.first k v.rest m v.rises v.within) v.parted v.within
    where
      one_more : length (c.cuts ++ (k ∷ [])) ≡ length c.cuts + 1
      one_more = length-append c.cuts (k ∷ [])

      -- where edition 2 cuts at k and the other list goes on, the other list had more cuts already
      ahead : 0 < k → fits r c.first k ≡ false → (v.first < k → fits r v.first k ≡ true) → length c.cuts < v.passed
      ahead l h t =
          ⊎_elim (λ lt. lt)
          (λ ge.
          let low : v.first ≤ c.first = v.level (omega (arith, v.fewer)) in
          true_false (sym (later v.first c.first k low f.low (t (v.begun l))) ∙ h))
          (either (length c.cuts) v.passed)

      -- the other list cuts at k
      at_cut : {d : Cutting} → Next r c k d → (length d.cuts ≤ v.passed + 1) × (length d.cuts ≡ v.passed + 1 → k ≤ d.first)
      at_cut (Next.adds h) = (omega (arith, v.fewer), λ e. let no : ⊥ = omega (arith, v.fewer) in absurd no)
      at_cut (Next.cuts l h) = (omega (arith, v.fewer, one_more), λ e. omega arith)

      -- the other list goes on
      past : {d : Cutting} → Next r c k d → (v.first < k → fits r v.first k ≡ true) → (length d.cuts ≤ v.passed) × (length d.cuts ≡ v.passed → v.first ≤ d.first)
      past (Next.adds h) t = (v.fewer, v.level)
      past (Next.cuts l h) t = (omega (arith, ahead l h t, one_more), λ e. v.low)

      go : {d : Cutting} {rest : List ℕ} → Next r c k d → Place r v.first k rest → length cs ≡ v.passed + length rest
          → tables_fit r v.first rest r.count ≡ true → Rival r cs (suc k) d
      go n (Place.cut {rest} s t) e w =
          let (fewer, level) = at_cut n in
          record { rest = rest; passed = v.passed + 1; first = k; parted = omega arith; rises = s; within = t; low = omega arith; begun = λ l. omega arith; fewer = fewer; level = level }
      go n (Place.none {rest} s t) e w =
          let (fewer, level) = past n t in
          record { rest = rest; passed = v.passed; first = v.first; parted = e; rises = s; within = w; low = omega (arith, v.low); begun = λ l. omega (arith, v.low); fewer = fewer; level = level }

  rival : places_ascend 0 r.count cs ≡ true → within_limit r cs ≡ true → (k : ℕ) → k ≤ r.count → Rival r cs k (after r k)
  unfolding after within_limit
  rival h t zero l =
      record { rest = cs; passed = 0; first = 0; parted = omega arith; rises = h; within = t; low = omega arith; begun = λ q. q; fewer = omega arith; level = λ q. omega arith }
  rival h t (suc k) l = rival_next (after r k) k (omega arith) (filling r two k) (next_of r two k) (rival h t k (omega arith))

  pub fewest : places_ascend 0 r.count cs ≡ true → within_limit r cs ≡ true → length (cuts_of r) ≤ length cs
  unfolding cuts_of
  fewest h t = let v = rival h t r.count (omega arith) in omega (arith, v.fewer, v.parted)
